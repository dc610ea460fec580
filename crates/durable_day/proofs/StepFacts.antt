-- What a step tells of the store that was handed in.
use Rattle.std.proofs.Common.{◌≡◌, ◌⊎◌, inl, inr, ⊎_elim, ℕ, ◌+◌, ◌<◌, ◌≤◌, List, ◌∷◌, length, drop, Option, Some, Result, Ok, Err, refl, sym, ap, subst, ◌∙◌, arith}
use Rattle.std.specs.Prelude.{is_ok, IfOk, OnErr}
use Rattle.std.specs.Option.{option_map_or}
use Rattle.outside_io.specs.Causes.{one_more}
use Rattle.batch_records.specs.DayRecord.{Day}
use Rattle.commit_journal.specs.declared.line.Want.{Want}
use Rattle.commit_journal.specs.Line.{Line, History}
use Rattle.machine.specs.declared.answers.Why.{Why}
use Rattle.machine.specs.Making.Lines.{line_of}
use Rattle.machine.specs.Making.Reasons.{why_of}
use Rattle.settle_floor.specs.Floors.{IsAnswered, OnFloor}
use Rattle.disk_model.specs.Cut.{IsCut}
use Rattle.disk_model.specs.Lasting.{LastsForLess, StillLasts}
use Rattle.disk_model.specs.Runs.{LeavesOnly}
use Rattle.disk_model.proofs.RunFacts.{lasts_still, started}
use Rattle.durable_day.specs.declared.step.StoreStep.TheVariants as store_steps
use Rattle.durable_day.specs.Appending.{newest_by, newest_bytes}
use Rattle.durable_day.specs.Bytes.{StandsFor}
use Rattle.durable_day.specs.Onward.{IsMade, next_want, with_next}
use Rattle.durable_day.specs.Steps.{HasAnswered, IsStep, StandsWithOrWithout, disk_after, made_or_fault, step_bytes}
use Rattle.durable_day.specs.Stores.{IsDurable, IsStore, OnStore, disk_at_end}
use Rattle.durable_day.proofs.AppendFacts.{leaves_weaker}
use Rattle.durable_day.proofs.GoneOn.{appended}

-- the answer of a floor, by its lines alone
pub answered_as : (day : Day) (old new : OnFloor) (want : Want) (holdings later : ℕ → Option ℕ) (r : Result ℕ Why) → IsAnswered day old new want holdings later r → HasAnswered day old.journal.history new.journal.history want r
answered_as day old new want holdings later (Ok place) h = (h.0, h.1, h.2, h.3)
answered_as day old new want holdings later (Err why) h = (h.0, ap (λ (f : OnFloor). f.journal.history) h.1)

-- what a store shows
abbrev pub shown : {D : Type 0} → Day → History → D → OnStore D
shown day J disk = record { day = day; history = J; disk = disk }

-- what is on the disk after the older lines
pub older_durable : {D : Type 0} (seen : D → List ℕ) (image : D → List ℕ → Type 0) (J K : History) (l : Line) (end : ℕ) (disk : D) → K ≡ l ∷ J → IsDurable seen image J end disk → IsDurable seen image (drop 1 K) end disk
older_durable seen image J K l end disk is durable = subst (λ (H : History). IsDurable seen image H end disk) (sym (ap (drop 1) is)) durable

pub has_some : (J K : History) (l : Line) → K ≡ l ∷ J → 0 < length K
has_some J K l is = omega (arith, ap length is)

-- the newest line is the want's
with_or_without : (day : Day) (J K : History) (want : Want) (l : Line) (c : List ℕ) → line_of day J want ≡ Some l → K ≡ l ∷ J → StandsFor (drop 1 K) c ⊎ StandsFor K c → StandsWithOrWithout day J want c
with_or_without day J K want l c made is (inl older) = inl (subst (λ (H : History). StandsFor H c) (ap (drop 1) is) older)
with_or_without day J K want l c made is (inr newer) = inr (l, made, subst (λ (H : History). StandsFor H c) is newer)

bytes_of : (day : Day) (J K : History) (want : Want) (l : Line) → line_of day J want ≡ Some l → K ≡ l ∷ J → newest_bytes K ≡ step_bytes day J want
bytes_of day J K want l made is = ap newest_bytes is ∙ sym (ap (λ o. option_map_or (λ (m : Line). newest_bytes (m ∷ J)) o 0) made)

-- what keeping the newest line tells, and where a call failed
abbrev pub IsKept : {D : Type 0} → (D → List ℕ) → (D → List ℕ → Type 0) → (D → ℕ) → Day → History → D → Result (OnStore D) D → Type 0
IsKept seen image faults day K disk kept = IfOk kept (λ later. (later.day ≡ day) × (later.history ≡ K) × IsStore seen image later × (faults later.disk ≡ faults disk))

abbrev pub HasFailed : {D : Type 0} → (D → ℕ) → D → Result (OnStore D) D → Type 0
HasFailed faults disk kept = OnErr kept (faults (disk_at_end kept) ≡ one_more (faults disk))

module _ {D : Type 0} (seen : D → List ℕ) (image : D → List ℕ → Type 0) (clock : D → ℕ) (since : D → ℕ → List ℕ → Type 0) (lasts : D → ℕ → ℕ → ℕ → Type 0) (faults : D → ℕ) where
  -- ---- nothing was made

  pub not_step : (day : Day) (J : History) (disk : D) (store later : OnStore D) (want : Want) (why : Why) → shown day J disk ≡ store → later ≡ shown day J disk → IsStore seen image later → why_of day J want ≡ Some why → IsStep seen image faults store want (store_steps.Not later why)
  not_step day J disk store later want why view is known none = subst (λ (s : OnStore D). IsStep seen image faults s want (store_steps.Not later why)) view (none, is, known)

  pub not_moments : (day : Day) (J : History) (end : ℕ) (disk : D) (store later : OnStore D) (want : Want) → shown day J disk ≡ store → later ≡ shown day J disk → IsDurable seen image J end disk → ((c : List ℕ) → since disk (clock disk) c → image disk c) → LeavesOnly clock since store.disk later.disk (StandsWithOrWithout store.day store.history want)
  not_moments day J end disk store later want view is durable now =
      let here : LeavesOnly clock since disk disk (StandsWithOrWithout day J want) =
      started seen image clock since disk (StandsWithOrWithout day J want) (λ c left. inl (subst (λ (bytes : List ℕ). StandsFor J bytes) (sym (durable.only c (now c left))) durable.stands)) in
      subst (λ (s : OnStore D). LeavesOnly clock since s.disk later.disk (StandsWithOrWithout s.day s.history want)) view
      (subst (λ (s : OnStore D). LeavesOnly clock since disk s.disk (StandsWithOrWithout day J want)) (sym is) here)

  pub not_time : (day : Day) (J : History) (disk : D) (store later : OnStore D) → shown day J disk ≡ store → later ≡ shown day J disk → clock later.disk ≤ clock store.disk + 4
  not_time day J disk store later view is = omega (arith, ap (λ (s : OnStore D). clock s.disk) (is ∙ view))

  pub not_sure : LastsForLess lasts → (day : Day) (J : History) (disk : D) (store later : OnStore D) (bytes : ℕ) → shown day J disk ≡ store → later ≡ shown day J disk → StillLasts lasts faults store.disk later.disk 4 4 bytes
  not_sure less day J disk store later bytes view is = subst (λ (s : OnStore D). StillLasts lasts faults store.disk s.disk 4 4 bytes) (sym (is ∙ view)) (lasts_still lasts faults less store.disk 4 4 bytes)

  -- ---- a line was made

  step_there : (day : Day) (J K : History) (disk : D) (want : Want) (l : Line) (place : ℕ) (kept : Result (OnStore D) D) → line_of day J want ≡ Some l → K ≡ l ∷ J → place ≡ length K → IsKept seen image faults day K disk kept → HasFailed faults disk kept → IsStep seen image faults (shown day J disk) want (made_or_fault kept place)
  step_there day J K disk want l place (Ok later) made is at h k = (l, made, h.1 ∙ is, h.0, at ∙ ap length (sym h.1), h.2, h.3)
  step_there day J K disk want l place (Err later) made is at h k = ((l, made), k)

  pub made_step : (day : Day) (J K : History) (disk : D) (store : OnStore D) (want : Want) (l : Line) (place : ℕ) (kept : Result (OnStore D) D) → shown day J disk ≡ store → line_of day J want ≡ Some l → K ≡ l ∷ J → place ≡ length K → IsKept seen image faults day K disk kept → HasFailed faults disk kept → IsStep seen image faults store want (made_or_fault kept place)
  made_step day J K disk store want l place kept view made is at h k = subst (λ (s : OnStore D). IsStep seen image faults s want (made_or_fault kept place)) view (step_there day J K disk want l place kept made is at h k)

  -- the disk that comes back is the one of what was kept
  disk_there : (kept : Result (OnStore D) D) (place : ℕ) → disk_after (made_or_fault kept place) ≡ disk_at_end kept
  disk_there (Ok later) place = refl
  disk_there (Err later) place = refl

  pub made_moments : (day : Day) (J K : History) (disk : D) (store : OnStore D) (want : Want) (l : Line) (place : ℕ) (kept : Result (OnStore D) D) → shown day J disk ≡ store → line_of day J want ≡ Some l → K ≡ l ∷ J → LeavesOnly clock since disk (disk_at_end kept) (λ c. StandsFor (drop 1 K) c ⊎ StandsFor K c) → LeavesOnly clock since store.disk (disk_after (made_or_fault kept place)) (StandsWithOrWithout store.day store.history want)
  made_moments day J K disk store want l place kept view made is run =
      let here = leaves_weaker clock since disk (disk_at_end kept) (λ c. StandsFor (drop 1 K) c ⊎ StandsFor K c) (StandsWithOrWithout day J want) run (λ c stands. with_or_without day J K want l c made is stands) in
      subst (λ (s : OnStore D). LeavesOnly clock since s.disk (disk_after (made_or_fault kept place)) (StandsWithOrWithout s.day s.history want)) view
      (subst (λ (d : D). LeavesOnly clock since disk d (StandsWithOrWithout day J want)) (sym (disk_there kept place)) here)

  pub made_time : (day : Day) (J : History) (disk : D) (store : OnStore D) (place : ℕ) (kept : Result (OnStore D) D) → shown day J disk ≡ store → clock (disk_at_end kept) ≤ clock disk + 4 → clock (disk_after (made_or_fault kept place)) ≤ clock store.disk + 4
  made_time day J disk store place kept view few = omega (arith, few, ap (λ (s : OnStore D). clock s.disk) view, ap clock (disk_there kept place))

  pub made_sure : (day : Day) (J K : History) (disk : D) (store : OnStore D) (want : Want) (l : Line) (place : ℕ) (kept : Result (OnStore D) D) → shown day J disk ≡ store → line_of day J want ≡ Some l → K ≡ l ∷ J → StillLasts lasts faults disk (disk_at_end kept) 4 4 (newest_bytes K) → StillLasts lasts faults store.disk (disk_after (made_or_fault kept place)) 4 4 (step_bytes store.day store.history want)
  made_sure day J K disk store want l place kept view made is sure =
      subst (λ (s : OnStore D). StillLasts lasts faults s.disk (disk_after (made_or_fault kept place)) 4 4 (step_bytes s.day s.history want)) view
      (subst (λ (d : D). StillLasts lasts faults disk d 4 4 (step_bytes day J want)) (sym (disk_there kept place))
      (subst (λ (n : ℕ). StillLasts lasts faults disk (disk_at_end kept) 4 4 n) (bytes_of day J K want l made is) sure))

  -- ---- the next line was made

  pub next_line_is : (day : Day) (J K : History) (place : ℕ) → IsMade day J (next_want day J) K place → K ≡ with_next day J
  next_line_is day J K place made = made.2 ∙ sym (appended day J (next_want day J) made.0 made.1)

  kept_there : (day : Day) (J K : History) (disk : D) (kept : Result (OnStore D) D) → K ≡ with_next day J → IsKept seen image faults day K disk kept → IfOk kept (λ later. (later.day ≡ day) × (later.history ≡ with_next day J) × IsStore seen image later × (faults later.disk ≡ faults disk))
  kept_there day J K disk (Ok later) is h = (h.0, h.1 ∙ is, h.2, h.3)
  kept_there day J K disk (Err later) is h = tt

  pub next_kept : (day : Day) (J K : History) (disk : D) (store : OnStore D) (kept : Result (OnStore D) D) → shown day J disk ≡ store → K ≡ with_next day J → IsKept seen image faults day K disk kept → IfOk kept (λ later. (later.day ≡ store.day) × (later.history ≡ with_next store.day store.history) × IsStore seen image later × (faults later.disk ≡ faults store.disk))
  next_kept day J K disk store kept view is h = subst (λ (s : OnStore D). IfOk kept (λ later. (later.day ≡ s.day) × (later.history ≡ with_next s.day s.history) × IsStore seen image later × (faults later.disk ≡ faults s.disk))) view (kept_there day J K disk kept is h)

  pub next_failed : (day : Day) (J : History) (disk : D) (store : OnStore D) (kept : Result (OnStore D) D) → shown day J disk ≡ store → HasFailed faults disk kept → HasFailed faults store.disk kept
  next_failed day J disk store kept view k = subst (λ (s : OnStore D). HasFailed faults s.disk kept) view k

  pub next_moments : (day : Day) (J K : History) (disk : D) (store : OnStore D) (l : Line) (kept : Result (OnStore D) D) → shown day J disk ≡ store → K ≡ l ∷ J → K ≡ with_next day J → LeavesOnly clock since disk (disk_at_end kept) (λ c. StandsFor (drop 1 K) c ⊎ StandsFor K c) → LeavesOnly clock since store.disk (disk_at_end kept) (λ c. StandsFor store.history c ⊎ StandsFor (with_next store.day store.history) c)
  next_moments day J K disk store l kept view is next run =
      let here = leaves_weaker clock since disk (disk_at_end kept) (λ c. StandsFor (drop 1 K) c ⊎ StandsFor K c) (λ c. StandsFor J c ⊎ StandsFor (with_next day J) c) run
      (λ c stands. ⊎_elim (λ older. inl (subst (λ (H : History). StandsFor H c) (ap (drop 1) is) older)) (λ newer. inr (subst (λ (H : History). StandsFor H c) next newer)) stands) in
      subst (λ (s : OnStore D). LeavesOnly clock since s.disk (disk_at_end kept) (λ c. StandsFor s.history c ⊎ StandsFor (with_next s.day s.history) c)) view here

  pub next_time : (day : Day) (J : History) (disk : D) (store : OnStore D) (kept : Result (OnStore D) D) → shown day J disk ≡ store → clock (disk_at_end kept) ≤ clock disk + 4 → clock (disk_at_end kept) ≤ clock store.disk + 4
  next_time day J disk store kept view few = omega (arith, few, ap (λ (s : OnStore D). clock s.disk) view)

  pub next_sure : (day : Day) (J K : History) (disk : D) (store : OnStore D) (kept : Result (OnStore D) D) → shown day J disk ≡ store → K ≡ with_next day J → StillLasts lasts faults disk (disk_at_end kept) 4 4 (newest_bytes K) → StillLasts lasts faults store.disk (disk_at_end kept) 4 4 (newest_bytes (with_next store.day store.history))
  next_sure day J K disk store kept view is sure =
      subst (λ (s : OnStore D). StillLasts lasts faults s.disk (disk_at_end kept) 4 4 (newest_bytes (with_next s.day s.history))) view
      (subst (λ (H : History). StillLasts lasts faults disk (disk_at_end kept) 4 4 (newest_bytes H)) is sure)

pub next_cut : {D : Type 0} (seen : D → List ℕ) (cut_after : D → ℕ → ℕ → ℕ → Type 0) (day : Day) (J K : History) (disk : D) (store : OnStore D) (kept : Result (OnStore D) D) → shown day J disk ≡ store → K ≡ with_next day J → IsCut seen cut_after disk (disk_at_end kept) (is_ok kept) 4 4 (newest_bytes K) (newest_by K (seen disk)) →
    IsCut seen cut_after store.disk (disk_at_end kept) (is_ok kept) 4 4 (newest_bytes (with_next store.day store.history)) (newest_by (with_next store.day store.history) (seen store.disk))
next_cut seen cut_after day J K disk store kept view is cut =
    subst (λ (s : OnStore _). IsCut seen cut_after s.disk (disk_at_end kept) (is_ok kept) 4 4 (newest_bytes (with_next s.day s.history)) (newest_by (with_next s.day s.history) (seen s.disk))) view
    (subst (λ (H : History). IsCut seen cut_after disk (disk_at_end kept) (is_ok kept) 4 4 (newest_bytes H) (newest_by H (seen disk))) is cut)
