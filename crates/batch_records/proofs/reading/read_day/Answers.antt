use Rattle.batch_records.proofs.SoundMeets.{part_meets}
use Rattle.batch_records.proofs.reading.read_day.Goals as goal

pub returns-clause-meets : goal.returns-clause-meets
returns-clause-meets c = part_meets _ _ c.in_ok-day.ensures.answer
