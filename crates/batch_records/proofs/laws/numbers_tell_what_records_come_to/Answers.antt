use Rattle.batch_records.proofs.TallyFacts.{goes_on, judged_alike}
use Rattle.batch_records.proofs.laws.numbers_tell_what_records_come_to.Goals as goal

pub returns : goal.returns
returns c = record {
  code = judged_alike;
  tally = λ s r piece h e states. (goes_on s r piece h e states).tally;
  day = λ s r piece h e states. (goes_on s r piece h e states).day;
}
