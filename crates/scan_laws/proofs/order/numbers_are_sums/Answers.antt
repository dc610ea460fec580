use Rattle.scan_laws.proofs.Sizes.{number-first, number-entry, number-message, number-last, count-is, count-few}
use Rattle.scan_laws.proofs.order.numbers_are_sums.Goals as goal

pub returns-clause-first : goal.returns-clause-first
returns-clause-first c = number-first

pub returns-clause-entry : goal.returns-clause-entry
returns-clause-entry c = number-entry

pub returns-clause-message : goal.returns-clause-message
returns-clause-message c = number-message

pub returns-clause-last : goal.returns-clause-last
returns-clause-last c = number-last

pub returns-clause-all : goal.returns-clause-all
returns-clause-all c = count-is

pub returns-clause-few : goal.returns-clause-few
returns-clause-few c = count-few
