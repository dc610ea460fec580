use Rattle.std.proofs.Common.{◌≡◌, ℕ, [], true, List, subst, sym}
use Rattle.cash_amounts.specs.Numbers.{numbered}
use Rattle.settle_floor.specs.Floors.{has_all}
use Rattle.settle_floor.specs.Tills.{KeepsBalances}
use Rattle.lock_book.proofs.kit.till_and_floor.Goals as goal

pub returns-in-Ok-clause-kept : goal.returns-in-Ok-clause-kept
returns-in-Ok-clause-kept c = subst (λ (xs : List ℕ). KeepsBalances (numbered xs) c.args.setting.now.day []) (sym c.in_ok-till.ensures.openings) c.in-Ok.ensures.openings

pub returns-in-Ok-clause-all : goal.returns-in-Ok-clause-all
returns-in-Ok-clause-all c = subst (λ (xs : List ℕ). has_all (numbered xs) c.args.setting.now.day ≡ true) (sym c.in_ok-till.ensures.openings) c.in-Ok.ensures.all
