use Rattle.batch_records.proofs.PartMeaning.{ends_with_first, whole_without_end}
use Rattle.batch_records.proofs.laws.days_end_with_the_first_end.Goals as goal

pub returns : goal.returns
returns c = record { first = ends_with_first; none = whole_without_end }
