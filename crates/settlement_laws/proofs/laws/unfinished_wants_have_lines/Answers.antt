use Rattle.settlement_laws.proofs.DayEnd.EndIsLast.{unfinished_is_first_with_line}
use Rattle.settlement_laws.proofs.Wants.UnfinishedWants.{unfinished_has_a_line, unfinished_is_first, nothing_unfinished, nothing_at_the_end}
use Rattle.settlement_laws.proofs.laws.unfinished_wants_have_lines.Goals as goal

pub returns-clause-first : goal.returns-clause-first
returns-clause-first c = unfinished_has_a_line

pub returns-clause-earlier : goal.returns-clause-earlier
returns-clause-earlier c = unfinished_is_first

pub returns-clause-none : goal.returns-clause-none
returns-clause-none c = nothing_unfinished

pub returns-clause-over : goal.returns-clause-over
returns-clause-over c day J n sound legal complete = nothing_at_the_end day J sound legal complete n

pub returns-clause-now : goal.returns-clause-now
returns-clause-now c = unfinished_is_first_with_line
