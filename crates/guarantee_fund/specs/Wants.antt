-- The wants that are a fund's.
use Rattle.std.specs.Prelude.{Bool, true, false}
use Rattle.commit_journal.specs.declared.line.Want.{Want}
use Rattle.commit_journal.specs.declared.line.Want.TheVariants as wants

-- to ask, to pay or to refuse, for a message of whatever number
abbrev pub is_of_fund : Want → Bool
is_of_fund (wants.Ask n) = true
is_of_fund (wants.Cover n) = true
is_of_fund (wants.Refuse n) = true
is_of_fund _ = false
