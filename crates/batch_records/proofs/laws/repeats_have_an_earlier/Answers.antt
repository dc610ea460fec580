use Rattle.batch_records.proofs.RepeatFacts.{earlier_is_first, earlier_is_repeat}
use Rattle.batch_records.proofs.RepeatMeaning.{earlier_is_least, repeat_means}
use Rattle.batch_records.proofs.laws.repeats_have_an_earlier.Goals as goal

pub returns : goal.returns
returns c = record { repeat = earlier_is_repeat; first = earlier_is_first; means = repeat_means; least = earlier_is_least }
