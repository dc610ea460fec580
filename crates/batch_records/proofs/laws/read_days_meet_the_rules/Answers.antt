use Rattle.batch_records.proofs.SoundMeets.{read_meets}
use Rattle.batch_records.proofs.laws.read_days_meet_the_rules.Goals as goal

pub returns : goal.returns
returns c = read_meets
