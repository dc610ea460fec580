use Rattle.std.proofs.Common.{ℕ, List, [], ◌∷◌, sym, arith, length, ◌+◌}
use Rattle.disk_model.specs.Crashes.{overwritten}
use Rattle.disk_model.specs.Cut.{once}
use Rattle.disk_model.proofs.CutFacts.{cut_off, cut_on}
use Rattle.disk_model.proofs.RunFacts.{lasts_less, lasts_on}
use Rattle.gated_disk.specs.Gates.{appended_by}
use Rattle.gated_disk.proofs.AppendFacts.{appended_early, appended_on, failed_is, gate_inside, grown_once, grown_whole, has_grown, on_ok, piece_inside, runs_on}
use Rattle.gated_disk.proofs.appending.append.Goals as goal

pub returns-in_err-put_down-clause-moments : goal.returns-in_err-put_down-clause-moments
returns-in_err-put_down-clause-moments g c = grown_once g.D.Disk.seen g.D.Disk.image g.D.Disk.clock g.D.Disk.since _ _ _ _ _ c.requires.closed c.in_err-put_down.ensures.moments

pub returns-clause-moments : goal.returns-clause-moments
returns-clause-moments g c = grown_whole g.D.Disk.seen g.D.Disk.image g.D.Disk.clock g.D.Disk.since _ _ _ _ _ _ c.requires.closed c.in_ok-put_down.ensures.moments c.in_ok-put_down.ensures.bytes c.put_down-2.ensures.moments

pub put_down-requires-clause-within : goal.put_down-requires-clause-within
put_down-requires-clause-within g c = piece_inside g.D.Disk.seen g.D.Disk.image g.D.Disk.clock g.D.Disk.since _ _ c.requires.closed

pub put_down-requires-2-clause-within : goal.put_down-requires-2-clause-within
put_down-requires-2-clause-within g c = gate_inside g.D.Disk.seen g.D.Disk.image g.D.Disk.clock g.D.Disk.since _ _ _ _ c.requires.closed c.in_ok-put_down.ensures.bytes

pub returns-clause-bytes : goal.returns-clause-bytes
returns-clause-bytes g c =
    on_ok c.put_down-2.result _ _ (λ opening. has_grown g.D.Disk.seen g.D.Disk.image g.D.Disk.clock g.D.Disk.since _ _ _ _ _ c.requires.closed c.in_ok-put_down.ensures.bytes opening) c.put_down-2.ensures.bytes

pub returns-in_err-put_down-clause-sure : goal.returns-in_err-put_down-clause-sure
returns-in_err-put_down-clause-sure g c = lasts_less g.D.Disk.lasts g.D.Disk.faults g.met.D.Disk.lasts_for_less _ _ 2 2 (length c.args.piece.now) 4 4 (length c.args.piece.now + 1) (omega arith) (omega arith) (omega arith) c.in_err-put_down.ensures.sure

pub returns-clause-sure : goal.returns-clause-sure
returns-clause-sure g c = lasts_on g.D.Disk.lasts g.D.Disk.faults g.met.D.Disk.lasts_for_less _ _ _ 2 2 (length c.args.piece.now) 2 2 1 4 4 (length c.args.piece.now + 1) (omega arith) (omega arith) (omega arith) c.in_ok-put_down.ensures.sure c.put_down-2.ensures.sure

pub returns-in_err-put_down-clause-cut : goal.returns-in_err-put_down-clause-cut
returns-in_err-put_down-clause-cut g c =
    let seen = g.D.Disk.seen c.args.disk.now in
    let piece = c.args.piece.now in
    rw (failed_is _ c.from_residual.ensures.0) (cut_off g.D.Disk.seen g.D.Disk.cut_after g.met.D.Disk.cut_for_less _ _ 2 2 (length piece) 4 4 (length piece + 1) (once seen (overwritten (c.args.end + 1) piece seen)) (appended_by c.args.end piece seen) (omega arith) (omega arith) (omega arith) (λ k low. sym (appended_early c.args.end piece seen k (omega (arith, low)))) c.in_err-put_down.ensures.cut)

pub returns-clause-cut : goal.returns-clause-cut
returns-clause-cut g c =
    let seen = g.D.Disk.seen c.args.disk.now in
    let piece = c.args.piece.now in
    cut_on g.D.Disk.seen g.D.Disk.cut_after g.met.D.Disk.cut_for_less _ _ _ _ 2 2 (length piece) 2 2 1 4 4 (length piece + 1) (once seen (overwritten (c.args.end + 1) piece seen)) (λ (s : List ℕ). once s (overwritten c.args.end (1 ∷ []) s)) (appended_by c.args.end piece seen) (omega arith) (omega arith) (omega arith)
    (λ k low. sym (appended_early c.args.end piece seen k (omega (arith, low)))) (λ k low. appended_on c.args.end piece seen k) c.in_ok-put_down.ensures.cut c.put_down-2.ensures.cut

pub returns-clause-runs : goal.returns-clause-runs
returns-clause-runs g c = runs_on g.D.Disk.clock g.D.Disk.since _ _ _ c.in_ok-put_down.ensures.runs c.put_down-2.ensures.runs
