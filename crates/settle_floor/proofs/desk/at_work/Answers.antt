use Rattle.std.proofs.Common.{Bool, List, subst, sym}
use Rattle.commit_journal.specs.Kept.{Kept}
use Rattle.day_facts.specs.Facts.{Facts, StandsFor}
use Rattle.pending_items.specs.Kept.{KeepsPending, KeptItems}
use Rattle.due_items.specs.Kept.{Due, KeepsDue}
use Rattle.clock_stops.specs.Kept.{KeepsStops}
use Rattle.settle_floor.specs.Tills.{KeepsBalances}
use Rattle.ready_items.specs.Kept.{Ready}
use Rattle.settle_floor.specs.Ready.{IsAtRest, RestAll}
use Rattle.settle_floor.proofs.MemberRuns.{rests}
use Rattle.settle_floor.proofs.desk.at_work.Goals as goal

pub invariant_of-result-clause-stands : goal.invariant_of-result-clause-stands
invariant_of-result-clause-stands g c =
    let day = c.args.setting.now.day in
    subst (λ (j : Kept). StandsFor day j.history c.facts-facts.result.now) (sym c.journal-journal.ensures)
    (subst (λ (f : Facts). StandsFor day c.args.lines.now.journal.history f) (sym c.facts-facts.ensures) c.requires.index.stands)

pub invariant_of-result-clause-queued : goal.invariant_of-result-clause-queued
invariant_of-result-clause-queued g c =
    let day = c.args.setting.now.day in
    subst (λ (j : Kept). KeepsPending day j.history c.pending-pending.result.now) (sym c.journal-journal.ensures)
    (subst (λ (p : KeptItems). KeepsPending day c.args.lines.now.journal.history p) (sym c.pending-pending.ensures) c.requires.index.queued)

pub invariant_of-result-clause-listed : goal.invariant_of-result-clause-listed
invariant_of-result-clause-listed g c =
    let day = c.args.setting.now.day in
    subst (λ (j : Kept). KeepsDue day j.history c.due-due.result.now) (sym c.journal-journal.ensures)
    (subst (λ (d : Due). KeepsDue day c.args.lines.now.journal.history d) (sym c.due-due.ensures) c.requires.index.due)

pub invariant_of-result-clause-timed : goal.invariant_of-result-clause-timed
invariant_of-result-clause-timed g c =
    let day = c.args.setting.now.day in
    subst (λ (j : Kept). KeepsStops day j.history c.stops-stops.result.now) (sym c.journal-journal.ensures)
    (subst (λ (s : List Bool). KeepsStops day c.args.lines.now.journal.history s) (sym c.stops-stops.ensures) c.requires.index.stops)

pub invariant_of-result-clause-kept : goal.invariant_of-result-clause-kept
invariant_of-result-clause-kept g c =
    subst (λ (j : Kept). KeepsBalances (g.T.Holdings.holdings c.args.till.now) c.args.setting.now.day j.history) (sym c.journal-journal.ensures) c.requires.kept

pub invariant_of-result-clause-rests : goal.invariant_of-result-clause-rests
invariant_of-result-clause-rests g c =
    let day = c.args.setting.now.day in
    subst (λ (j : Kept). IsAtRest c.ready-ready.result.now → RestAll day j.history) (sym c.journal-journal.ensures)
    (subst (λ (r : Ready). IsAtRest r → RestAll day c.args.lines.now.journal.history) (sym c.ready-ready.ensures) (rests day c.args.lines.now.journal.history c.args.lines.now.index.ready c.requires.index.ready))
