use Rattle.settlement_laws.proofs.Wants.ReadyWants.{none_is_ready, first_ready_has_a_line}
use Rattle.settlement_laws.proofs.laws.ready_wants_have_lines.Goals as goal

pub returns-clause-none : goal.returns-clause-none
returns-clause-none c = none_is_ready

pub returns-clause-first : goal.returns-clause-first
returns-clause-first c = first_ready_has_a_line
