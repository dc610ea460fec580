use Rattle.std.proofs.Common.{◌≡◌, ℕ, ◌+◌, sym, [], ◌∷◌, ◌++◌, List, length, Result, Ok, Err, ◌∙◌, ap, inl, inr, refl, arith}
use Rattle.std.specs.Prelude.{OnErr}
use Rattle.std.proofs.lemmas.List.{drop_all}
use Rattle.disk_model.specs.Crashes.{overwritten}
use Rattle.disk_model.specs.Cut.{once}
use Rattle.disk_model.proofs.CutFacts.{cut_off, cut_on}
use Rattle.disk_model.proofs.RunFacts.{lasts_less, lasts_on}
use Rattle.durable_day.proofs.ShownFacts.{failed_is, once_first, once_later}
use Rattle.durable_day.proofs.new_store.format.Goals as goal

pub returns-clause-bytes : goal.returns-clause-bytes
returns-clause-bytes g c = c.sync.ensures.same ∙ c.in_ok-write.ensures.written ∙ ap (λ (rest : List ℕ). (0 ∷ []) ++ rest) (drop_all 1 (g.D.Disk.seen c.args.disk.now) (omega (arith, c.requires)))

pub returns-in_err-write-clause-sure : goal.returns-in_err-write-clause-sure
returns-in_err-write-clause-sure g c = lasts_less g.D.Disk.lasts g.D.Disk.faults g.met.D.Disk.lasts_for_less _ _ 1 1 1 2 2 1 (omega arith) (omega arith) (omega arith) c.in_err-write.ensures.sure

pub returns-in_err-sync-clause-sure : goal.returns-in_err-sync-clause-sure
returns-in_err-sync-clause-sure g c = lasts_on g.D.Disk.lasts g.D.Disk.faults g.met.D.Disk.lasts_for_less _ _ _ 1 1 1 1 1 0 2 2 1 (omega arith) (omega arith) (omega arith) c.in_ok-write.ensures.sure c.in_err-sync.ensures.sure

on_err : {T E : Type 0} (result : Result T E) (P : Type 0) → P → OnErr result P
on_err (Ok value) P so = tt
on_err (Err fault) P so = so

none_there : (bytes : List ℕ) → length bytes ≡ 0 → bytes ≡ []
none_there [] none = refl
none_there (byte ∷ bytes) none = absurd (omega (arith, none))

pub returns-in_err-write-clause-clean : goal.returns-in_err-write-clause-clean
returns-in_err-write-clause-clean g c = λ clean. on_err _ _ (inl (c.in_err-write.ensures.clean clean ∙ none_there (g.D.Disk.seen c.args.disk.now) c.requires))

pub returns-in_err-sync-clause-clean : goal.returns-in_err-sync-clause-clean
returns-in_err-sync-clause-clean g c = λ clean. on_err _ _ (inr (c.in_err-sync.ensures.same ∙ c.in_ok-write.ensures.written ∙ ap (λ (rest : List ℕ). (0 ∷ []) ++ rest) (drop_all 1 (g.D.Disk.seen c.args.disk.now) (omega (arith, c.requires)))))

pub returns-in_err-write-clause-cut : goal.returns-in_err-write-clause-cut
returns-in_err-write-clause-cut g c =
    let seen = g.D.Disk.seen c.args.disk.now in
    let new = overwritten 0 (0 ∷ []) seen in
    rw (failed_is _ c.from_residual.ensures.0) (cut_off g.D.Disk.seen g.D.Disk.cut_after g.met.D.Disk.cut_for_less _ _ 1 1 1 2 2 1 (once seen new) (once seen (0 ∷ [])) (omega arith) (omega arith) (omega arith) (λ k low. once_first k seen new (0 ∷ []) low) c.in_err-write.ensures.cut)

pub returns-in_err-sync-clause-cut : goal.returns-in_err-sync-clause-cut
returns-in_err-sync-clause-cut g c =
    let seen = g.D.Disk.seen c.args.disk.now in
    let new = overwritten 0 (0 ∷ []) seen in
    let one : new ≡ 0 ∷ [] = ap (λ (rest : List ℕ). (0 ∷ []) ++ rest) (drop_all 1 seen (omega (arith, c.requires))) in
    rw (failed_is _ c.from_residual-in_err-sync.ensures.0) (cut_on g.D.Disk.seen g.D.Disk.cut_after g.met.D.Disk.cut_for_less _ _ _ _ 1 1 1 1 1 0 2 2 1 (once seen new) (λ (s : List ℕ) (k : ℕ). s) (once seen (0 ∷ [])) (omega arith) (omega arith) (omega arith) (λ k low. once_first k seen new (0 ∷ []) low) (λ k low. one ∙ sym (once_later (1 + k) seen (0 ∷ []) (omega arith))) c.in_ok-write.ensures.cut c.in_err-sync.ensures.cut)

pub returns-clause-cut : goal.returns-clause-cut
returns-clause-cut g c =
    let seen = g.D.Disk.seen c.args.disk.now in
    let new = overwritten 0 (0 ∷ []) seen in
    let one : new ≡ 0 ∷ [] = ap (λ (rest : List ℕ). (0 ∷ []) ++ rest) (drop_all 1 seen (omega (arith, c.requires))) in
    cut_on g.D.Disk.seen g.D.Disk.cut_after g.met.D.Disk.cut_for_less _ _ _ _ 1 1 1 1 1 0 2 2 1 (once seen new) (λ (s : List ℕ) (k : ℕ). s) (once seen (0 ∷ [])) (omega arith) (omega arith) (omega arith) (λ k low. once_first k seen new (0 ∷ []) low) (λ k low. one ∙ sym (once_later (1 + k) seen (0 ∷ []) (omega arith))) c.in_ok-write.ensures.cut c.in_ok-sync.ensures.cut
