use Rattle.scan_laws.proofs.Readiness.{seen_by}
use Rattle.scan_laws.proofs.left_alone.readiness_is_seen.Goals as goal

pub returns : goal.returns
returns c = record { seen = seen_by }
