use Rattle.batch_records.proofs.RoundTrip.{read_back}
use Rattle.batch_records.proofs.laws.written_days_are_read_back.Goals as goal

pub returns : goal.returns
returns c = read_back
