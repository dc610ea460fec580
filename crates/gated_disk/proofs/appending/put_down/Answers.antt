use Rattle.std.proofs.Common.{ℕ, List, ◌∙◌, refl, sym, arith, length, ◌+◌}
use Rattle.disk_model.specs.Crashes.{overwritten}
use Rattle.disk_model.specs.Cut.{once}
use Rattle.disk_model.proofs.CutFacts.{cut_off, cut_on}
use Rattle.disk_model.proofs.RunFacts.{lasts_less, lasts_on}
use Rattle.gated_disk.proofs.AppendFacts.{failed_is, once_later, on_any, on_ok, runs_on, runs_once, torn_once, torn_synced}
use Rattle.gated_disk.proofs.appending.put_down.Goals as goal

pub returns-in_err-write-clause-moments : goal.returns-in_err-write-clause-moments
returns-in_err-write-clause-moments g c = torn_once g.D.Disk.seen g.D.Disk.image g.D.Disk.clock g.D.Disk.since _ _ _ _ c.requires.only (g.met.D.Disk.only_now c.args.disk.now) c.in_err-write.ensures.images c.in_err-write.ensures.time

pub returns-clause-moments : goal.returns-clause-moments
returns-clause-moments g c =
    torn_synced g.D.Disk.seen g.D.Disk.image g.D.Disk.clock g.D.Disk.since _ _ _ _ _ c.requires.only (g.met.D.Disk.only_now c.args.disk.now) c.in_ok-write.ensures.images c.in_ok-write.ensures.time c.sync.ensures.images c.sync.ensures.time

pub returns-clause-bytes : goal.returns-clause-bytes
returns-clause-bytes g c = on_any c.sync.result _ (c.sync.ensures.same ∙ c.in_ok-write.ensures.written)

pub returns-clause-only : goal.returns-clause-only
returns-clause-only g c = on_ok c.sync.result _ _ (λ only bytes now. only bytes now ∙ sym c.sync.ensures.same) c.sync.ensures.durable

pub returns-in_err-write-clause-sure : goal.returns-in_err-write-clause-sure
returns-in_err-write-clause-sure g c = lasts_less g.D.Disk.lasts g.D.Disk.faults g.met.D.Disk.lasts_for_less _ _ 1 1 (length c.args.piece.now) 2 2 (length c.args.piece.now) (omega arith) (omega arith) (omega arith) c.in_err-write.ensures.sure

pub returns-clause-sure : goal.returns-clause-sure
returns-clause-sure g c = lasts_on g.D.Disk.lasts g.D.Disk.faults g.met.D.Disk.lasts_for_less _ _ _ 1 1 (length c.args.piece.now) 1 1 0 2 2 (length c.args.piece.now) (omega arith) (omega arith) (omega arith) c.in_ok-write.ensures.sure c.sync.ensures.sure

pub returns-in_err-write-clause-cut : goal.returns-in_err-write-clause-cut
returns-in_err-write-clause-cut g c =
    let seen = g.D.Disk.seen c.args.disk.now in
    let new = overwritten c.args.at c.args.piece.now seen in
    rw (failed_is _ c.from_residual.ensures.0) (cut_off g.D.Disk.seen g.D.Disk.cut_after g.met.D.Disk.cut_for_less _ _ 1 1 (length c.args.piece.now) 2 2 (length c.args.piece.now) (once seen new) (once seen new) (omega arith) (omega arith) (omega arith) (λ k low. refl) c.in_err-write.ensures.cut)

pub returns-clause-cut : goal.returns-clause-cut
returns-clause-cut g c =
    let seen = g.D.Disk.seen c.args.disk.now in
    let new = overwritten c.args.at c.args.piece.now seen in
    cut_on g.D.Disk.seen g.D.Disk.cut_after g.met.D.Disk.cut_for_less _ _ _ _ 1 1 (length c.args.piece.now) 1 1 0 2 2 (length c.args.piece.now) (once seen new) (λ (s : List ℕ) (k : ℕ). s) (once seen new) (omega arith) (omega arith) (omega arith) (λ k low. refl) (λ k low. sym (once_later (1 + k) seen new (omega arith))) c.in_ok-write.ensures.cut c.sync.ensures.cut

pub returns-in_err-write-clause-runs : goal.returns-in_err-write-clause-runs
returns-in_err-write-clause-runs g c = runs_once g.D.Disk.seen g.D.Disk.image g.D.Disk.clock g.D.Disk.since _ _ (g.met.D.Disk.counts_now c.write.new.self) c.in_err-write.ensures.time

pub returns-clause-runs : goal.returns-clause-runs
returns-clause-runs g c =
    runs_on g.D.Disk.clock g.D.Disk.since _ _ _
    (runs_once g.D.Disk.seen g.D.Disk.image g.D.Disk.clock g.D.Disk.since _ _ (g.met.D.Disk.counts_now c.write.new.self) c.in_ok-write.ensures.time)
    (runs_once g.D.Disk.seen g.D.Disk.image g.D.Disk.clock g.D.Disk.since _ _ (g.met.D.Disk.counts_now c.sync.new.self) c.sync.ensures.time)
