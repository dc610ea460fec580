use Rattle.std.proofs.Common.{◌∙◌, ◌++◌, ◌∷◌, ℕ, [], ap, length, subst, sym}
use Rattle.commit_journal.specs.Histories.{oldest}
use Rattle.day_facts.specs.Facts.{StandsFor}
use Rattle.day_page.specs.declared.waits.Waiting.{Waiting}
use Rattle.day_page.specs.Stakes.{IsKept}
use Rattle.day_page.specs.Waits.{waiting}
use Rattle.day_page.proofs.StopFacts.{map_last}
use Rattle.day_page.proofs.peaks.run_out.Goals as goal

pub waiting_at-requires : goal.waiting_at-requires
waiting_at-requires c = subst (λ (i : ℕ). IsKept c.args.setting.now.day c.args.request.now (oldest c.args.journal.now.history i) c.run.new.ledger) (sym c.len.ensures) c.in_ok-top.ensures.kept

pub invariant_of-past : goal.invariant_of-past
invariant_of-past c = record { stands = subst (λ (i : ℕ). StandsFor c.args.setting.now.day (oldest c.args.journal.now.history i) c.run.new.facts) (sym c.len.ensures) c.in_ok-top.ensures.stands }

pub returns-clause-waits : goal.returns-clause-waits
returns-clause-waits c =
    let H = c.args.journal.now.history in
    map_last (waiting c.args.setting.now.day c.args.request.now) (oldest H (length H)) _ _ c.in_ok-top.ensures.waits (c.in_ok-push.ensures.items ∙ ap (λ (w : Waiting). c.run.new.waits.items ++ w ∷ []) (rw c.len.ensures at c.waiting_at.ensures))
