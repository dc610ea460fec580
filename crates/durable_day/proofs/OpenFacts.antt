-- What an opening tells of the disk that was handed in.
use Rattle.std.proofs.Common.{◌≡◌, ℕ, suc, ◌+◌, ◌≤◌, Bool, true, false, List, length, Result, Ok, Err, refl, sym, ap, subst, ◌∙◌, arith}
use Rattle.std.proofs.lemmas.Bool.{false≢true}
use Rattle.outside_io.specs.Causes.{one_more}
use Rattle.batch_records.specs.DayRecord.{Day}
use Rattle.batch_records.specs.Sound.{is_sound}
use Rattle.commit_journal.specs.Line.{History}
use Rattle.disk_model.specs.Crashes.{AddsNone, Elapses, Only}
use Rattle.disk_model.specs.Cut.{IsCut, IsCutForLess}
use Rattle.disk_model.specs.Runs.{OnlyLooks}
use Rattle.disk_model.proofs.CutFacts.{cut_on}
use Rattle.disk_model.proofs.RunFacts.{looks_less, looks_on, looks_once}
use Rattle.durable_day.specs.declared.open_fault.OpenFault.{OpenFault}
use Rattle.durable_day.specs.declared.open_fault.OpenFault.TheVariants as open_faults
use Rattle.durable_day.specs.Bytes.{stored, StandsFor, front, is_closed}
use Rattle.durable_day.specs.Reads.{finding_time}
use Rattle.durable_day.specs.Stores.{CutsOpening, OnStore, Opens, IsDurable, StandsForNone, opening_time}
use Rattle.durable_day.proofs.StoreFacts.{closed_fronts_stand, one_journal_each}

-- where the front ends at no closed gate, the bytes stand for nothing
pub stands_for_none : (day : Day) (bytes : List ℕ) → is_sound day ≡ true → is_closed (front day bytes).1 ≡ false → StandsForNone day bytes
stands_for_none day bytes sound open_end J legal stands = false≢true (sym open_end ∙ (one_journal_each day bytes J sound legal stands).1)

module _ {D : Type 0} (seen : D → List ℕ) (image : D → List ℕ → Type 0) (clock : D → ℕ) (since : D → ℕ → List ℕ → Type 0) where
  only_still : (old new : D) (steps : ℕ) → Only (seen old) (image old) → OnlyLooks seen image clock since old new steps → Only (seen new) (image new)
  only_still old new steps only looks c now = only c (looks.images c now) ∙ sym looks.same

  -- what was found is on the disk whatever a crash leaves
  pub found_durable : (day : Day) (old new : D) (steps end : ℕ) (J : History) → is_sound day ≡ true → Only (seen old) (image old) → OnlyLooks seen image clock since old new steps → is_closed (front day (seen old)).1 ≡ true → J ≡ (front day (seen old)).0 → end ≡ length (stored J) → IsDurable seen image J end new
  found_durable day old new steps end J sound only looks shut is at = record {
    stands = subst (StandsFor J) (sym looks.same) (subst (λ (K : History). StandsFor K (seen old)) (sym is) (closed_fronts_stand day (seen old) sound shut));
    only = only_still old new steps only looks;
    end_is = at;
  }

  -- a sync, and then an opening that looks
  pub synced_looks : (old mid new : D) (n : ℕ) (day : Day) → ((c : List ℕ) → since old (clock old) c → image old c) → seen mid ≡ seen old → AddsNone (image old) (image mid) → Elapses seen image clock since old mid → n ≤ finding_time day (seen mid) → OnlyLooks seen image clock since mid new n → OnlyLooks seen image clock since old new (opening_time day (seen old))
  synced_looks old mid new n day now same none call few looks =
      let lines : finding_time day (seen mid) ≡ finding_time day (seen old) = ap (finding_time day) same in
      looks_less seen image clock since old new (1 + n) (opening_time day (seen old)) (omega (arith, few, lines))
      (looks_on seen image clock since old mid new 1 n (looks_once seen image clock since old mid now same none call) looks)

  -- nothing but the sync
  pub synced_once : (old mid : D) (day : Day) → ((c : List ℕ) → since old (clock old) c → image old c) → seen mid ≡ seen old → AddsNone (image old) (image mid) → Elapses seen image clock since old mid → OnlyLooks seen image clock since old mid (opening_time day (seen old))
  synced_once old mid day now same none call = looks_less seen image clock since old mid 1 (opening_time day (seen old)) (omega arith) (looks_once seen image clock since old mid now same none call)

-- what is said of the disk after the sync is said of the disk before it
pub opens_from : {D : Type 0} (seen : D → List ℕ) (image : D → List ℕ → Type 0) (count : D → ℕ) (day : Day) (disk mid : D) (result : Result (OnStore D) (OpenFault D)) → seen mid ≡ seen disk → count mid ≡ count disk → Opens seen image count day mid result → Opens seen image count day disk result
opens_from seen image count day disk mid (Ok store) same kept is = (is.0, is.1, is.2 ∙ ap (λ (xs : List ℕ). (front day xs).0) same, is.3 ∙ kept)
opens_from seen image count day disk mid (Err (open_faults.Fault later)) same kept is = is ∙ ap one_more kept
opens_from seen image count day disk mid (Err (open_faults.Foreign later place)) same kept is =
    (subst (StandsForNone day) same is.0, is.1 ∙ ap (λ (xs : List ℕ). suc (length (front day xs).0)) same, is.2 ∙ kept)
opens_from seen image count day disk mid (Err (open_faults.Memory later memory)) same kept is = is ∙ kept

pub finds_same : (day : Day) (xs ys : List ℕ) → xs ≡ ys → finding_time day xs ≡ finding_time day ys
finds_same day xs ys same = ap (finding_time day) same

-- a sync that succeeded, and then the reads
synced_cut : {D : Type 0} (seen : D → List ℕ) (cut_after : D → ℕ → ℕ → ℕ → Type 0) (less : IsCutForLess cut_after) (day : Day) (disk mid later : D) (well : Bool) → seen mid ≡ seen disk → IsCut seen cut_after disk mid true 1 1 0 (λ (k : ℕ). seen disk) →
    IsCut seen cut_after mid later well (finding_time day (seen mid)) 0 0 (λ (k : ℕ). seen mid) → IsCut seen cut_after disk later well (opening_time day (seen disk)) 1 0 (λ (k : ℕ). seen disk)
synced_cut seen cut_after less day disk mid later well same first second =
    cut_on seen cut_after less disk mid later well 1 1 0 (finding_time day (seen mid)) 0 0 (opening_time day (seen disk)) 1 0 (λ (k : ℕ). seen disk) (λ (s : List ℕ) (k : ℕ). s) (λ (k : ℕ). seen disk) (omega (arith, finds_same day (seen mid) (seen disk) same)) (omega arith) (omega arith) (λ k low. refl) (λ k low. refl) first second

pub cuts_from : {D : Type 0} (seen : D → List ℕ) (cut_after : D → ℕ → ℕ → ℕ → Type 0) (less : IsCutForLess cut_after) (day : Day) (disk mid : D) (result : Result (OnStore D) (OpenFault D)) → seen mid ≡ seen disk → IsCut seen cut_after disk mid true 1 1 0 (λ (k : ℕ). seen disk) →
    CutsOpening seen cut_after mid (finding_time day (seen mid)) 0 result → CutsOpening seen cut_after disk (opening_time day (seen disk)) 1 result
cuts_from seen cut_after less day disk mid (Ok store) same first second = synced_cut seen cut_after less day disk mid store.disk true same first second
cuts_from seen cut_after less day disk mid (Err (open_faults.Fault later)) same first second = synced_cut seen cut_after less day disk mid later false same first second
cuts_from seen cut_after less day disk mid (Err (open_faults.Foreign later place)) same first second = synced_cut seen cut_after less day disk mid later true same first second
cuts_from seen cut_after less day disk mid (Err (open_faults.Memory later memory)) same first second = tt
