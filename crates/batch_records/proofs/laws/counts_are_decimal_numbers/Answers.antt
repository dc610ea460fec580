use Rattle.batch_records.proofs.CountMeaning.{count_is_decimal}
use Rattle.batch_records.proofs.laws.counts_are_decimal_numbers.Goals as goal

pub returns : goal.returns
returns c = count_is_decimal
