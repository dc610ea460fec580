use Rattle.std.proofs.Common.{List, ℕ, sym, subst}
use Rattle.cash_amounts.specs.Numbers.{numbered}
use Rattle.journal_replay.specs.VerdictLaws.{Holds}
use Rattle.settle_floor.specs.Floors.{AtWork}
use Rattle.journal_replay.proofs.VerdictLaws.{verdicts_hold}
use Rattle.journal_replay.proofs.judging.replay.Goals as goal

pub judged-requires-clause-at_work : goal.judged-requires-clause-at_work
judged-requires-clause-at_work c = subst (λ (till : List ℕ). AtWork c.args.setting.now.day c.in-Ok.floor (numbered till)) (sym c.in_ok-till.ensures) c.in-Ok.ensures.at_work

pub judged-requires-clause-empty : goal.judged-requires-clause-empty
judged-requires-clause-empty c = c.in-Ok.ensures.empty

pub judged-requires-clause-moves : goal.judged-requires-clause-moves
judged-requires-clause-moves c = c.in_ok-moves.ensures

pub returns-in-Ok-clause-verdict : goal.returns-in-Ok-clause-verdict
returns-in-Ok-clause-verdict c = c.judged.ensures

pub returns-in-Ok-clause-holds : goal.returns-in-Ok-clause-holds
returns-in-Ok-clause-holds c = subst (Holds c.args.setting.now.day c.args.text.now) (sym c.judged.ensures) (verdicts_hold c.args.setting.now.day c.args.text.now c.args.setting.now.sound)
