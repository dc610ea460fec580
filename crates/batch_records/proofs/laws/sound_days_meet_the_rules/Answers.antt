use Rattle.batch_records.proofs.SoundMeets.{meets_where_sound}
use Rattle.batch_records.proofs.laws.sound_days_meet_the_rules.Goals as goal

pub returns : goal.returns
returns c = meets_where_sound
