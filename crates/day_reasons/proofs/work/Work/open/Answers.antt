use Rattle.std.proofs.Common.{List, ℕ, sym, subst}
use Rattle.cash_amounts.specs.Numbers.{numbered}
use Rattle.commit_journal.specs.Line.{History}
use Rattle.day_facts.specs.Facts.{StandsFor}
use Rattle.pending_items.specs.Kept.{KeepsPending}
use Rattle.settle_floor.specs.Floors.{AtWork}
use Rattle.day_reasons.proofs.work.Work.open.Goals as goal

pub returns-in-Ok-clause-work : goal.returns-in-Ok-clause-work
returns-in-Ok-clause-work c =
    let day = c.args.setting.now.day in
    record {
      at_work = subst (λ (till : List ℕ). AtWork day c.in-Ok.floor (numbered till)) (sym c.in_ok-till.ensures.till) c.in-Ok.ensures.at_work;
      moves = c.in_ok-till.ensures.moves;
      facts = subst (λ (J : History). StandsFor day J c.in_ok-facts.facts) (sym c.in-Ok.ensures.empty) c.in_ok-facts.ensures.facts;
      pending = subst (λ (J : History). KeepsPending day J c.in_ok-facts.pending) (sym c.in-Ok.ensures.empty) c.in_ok-facts.ensures.pending;
    }

pub returns-in-Ok-clause-empty : goal.returns-in-Ok-clause-empty
returns-in-Ok-clause-empty c = c.in-Ok.ensures.empty
