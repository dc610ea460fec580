use Rattle.std.proofs.Common.{is_some}
use Rattle.cash_amounts.specs.Numbers.{numbered}
use Rattle.settle_floor.proofs.Appended.{at_work_still}
use Rattle.settle_floor.proofs.HeldFacts.{all_held}
use Rattle.durable_day.proofs.NextFacts.{refused_none}
use Rattle.durable_day.proofs.onward.make.Goals as goal

pub answer-requires-clause-held : goal.answer-requires-clause-held
answer-requires-clause-held c = all_held (λ a. is_some (numbered c.args.till.now a)) c.args.setting.now.day c.requires.at_work.all c.args.want

pub unreachable-requires : goal.unreachable-requires
unreachable-requires c = refused_none c.args.setting.now.day c.args.floor.now.journal.history c.args.want c.in-Err.field-0 c.in-Err.ensures.answered.0 c.requires.line

pub returns-clause-made : goal.returns-clause-made
returns-clause-made c = let made = c.in-Ok.ensures.answered in (made.0, made.1, made.2, made.3)

pub returns-clause-at_work : goal.returns-clause-at_work
returns-clause-at_work c =
    at_work_still c.args.setting.now.day c.args.floor.now c.answer.new.self (numbered c.args.till.now) (numbered c.answer.new.till) c.requires.at_work c.answer.ensures.opened c.answer.ensures.kept c.answer.ensures.same
