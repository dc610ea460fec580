use Rattle.scan_laws.proofs.Kept.{facts_stay}
use Rattle.scan_laws.proofs.PhaseKept.{phase_same}
use Rattle.scan_laws.proofs.left_alone.facts_are_kept.Goals as goal

pub returns-clause-facts : goal.returns-clause-facts
returns-clause-facts c = facts_stay

pub returns-clause-phase : goal.returns-clause-phase
returns-clause-phase c = phase_same
