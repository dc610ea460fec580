use Rattle.std.proofs.Common.{subst, sym}
use Rattle.cash_amounts.specs.Numbers.{numbered}
use Rattle.commit_journal.specs.Kept.{Kept}
use Rattle.day_facts.specs.Facts.{StandsFor}
use Rattle.pending_items.specs.Kept.{KeepsPending}
use Rattle.settle_floor.specs.Tills.{KeepsBalances}
use Rattle.day_reasons.proofs.work.desk_of.Goals as goal

pub invariant_of-result-clause-stands : goal.invariant_of-result-clause-stands
invariant_of-result-clause-stands c = subst (λ (j : Kept). StandsFor c.args.setting.now.day j.history c.args.facts.now) (sym c.journal.ensures) c.requires.facts

pub invariant_of-result-clause-queued : goal.invariant_of-result-clause-queued
invariant_of-result-clause-queued c = subst (λ (j : Kept). KeepsPending c.args.setting.now.day j.history c.args.pending.now) (sym c.journal.ensures) c.requires.pending

pub invariant_of-result-clause-kept : goal.invariant_of-result-clause-kept
invariant_of-result-clause-kept c = subst (λ (j : Kept). KeepsBalances (numbered c.args.till.now) c.args.setting.now.day j.history) (sym c.journal.ensures) c.requires.at_work.kept

pub invariant_of-result-clause-all : goal.invariant_of-result-clause-all
invariant_of-result-clause-all c = c.requires.at_work.all
