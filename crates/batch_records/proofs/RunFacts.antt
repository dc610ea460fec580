-- Records that are all fine one after another, from what is so far to what they come to.
use Rattle.std.proofs.Common.{◌≡◌, ◌<◌, ◌≤◌, ℕ, List, [], ◌∷◌, ◌++◌, Some, None, Bool, true, false, refl, ap, arith, append_assoc, append-nil, ◌∙◌}
use Rattle.std.specs.Prelude.{◌||◌, nat_le, nat_lt}
use Rattle.std.specs.List.{list_any}
use Rattle.std.proofs.lemmas.Grind.{common_steps}
use Rattle.std.proofs.lemmas.List.Folds.{list_any-append}
use Rattle.cash_amounts.specs.declared.records.AccountRecord.{AccountRecord}
use Rattle.cash_amounts.specs.declared.records.SystemRecord.{SystemRecord}
use Rattle.period_calendar.specs.Calendar.{CivilDay}
use Rattle.batch_records.specs.Codes.{first_code}
use Rattle.batch_records.specs.Days.{bad_records}
use Rattle.batch_records.specs.Kinds.{has_other_fields, kind_of}
use Rattle.batch_records.specs.Made.{so_far_of}
use Rattle.batch_records.specs.Records.{Fields}
use Rattle.batch_records.specs.Step.{after}
use Rattle.batch_records.specs.declared.day.Message.{Message}
use Rattle.batch_records.specs.declared.day.Reserve.{Reserve}
use Rattle.batch_records.specs.declared.kinds.RecordKind.{RecordKind}
use Rattle.batch_records.specs.declared.so_far.SoFar.{SoFar}
use Rattle.batch_records.proofs.Fine.{IsFine}
use Rattle.batch_records.proofs.JudgeFacts.{bad_next}
use Rattle.batch_records.proofs.StepFacts.{so_far_next}

-- a record that is fine, and what is so far after it
abbrev pub Step : SoFar → Fields → SoFar → Type 0
Step s r t = (first_code s r ≡ None) × (after s r ≡ t)

abbrev pub RunsTo : SoFar → List Fields → SoFar → Type 0
RunsTo s [] t = s ≡ t
RunsTo s (r ∷ rows) t = (m : SoFar) × Step s r m × RunsTo m rows t

pub runs_then : (s m t : SoFar) (xs ys : List Fields) → RunsTo s xs m → RunsTo m ys t → RunsTo s (xs ++ ys) t
runs_then s m t [] ys a b = rw a b
runs_then s m t (x ∷ xs) ys a b = (a.0, a.1, runs_then a.0 m t xs ys a.2 b)

pub runs_fine : (taken rows : List Fields) (s t : SoFar) → bad_records taken ≡ [] → so_far_of taken ≡ s → RunsTo s rows t → bad_records (taken ++ rows) ≡ []
runs_fine taken [] s t fine held run = rw (append-nil taken) fine
runs_fine taken (r ∷ rows) s t fine held run =
    let code : first_code (so_far_of taken) r ≡ None = rw held run.1.0 in
    let next : so_far_of (taken ++ r ∷ []) ≡ run.0 = so_far_next taken r code ∙ ap (λ (x : SoFar). after x r) held ∙ run.1.1 in
    rw (← append_assoc taken (r ∷ []) rows) (runs_fine (taken ++ r ∷ []) rows run.0 t (bad_next taken r fine code) next run.2)

-- a record with none of the faults has no code
pub first_none : (kind : RecordKind) (s : SoFar) (r : Fields) → kind_of r ≡ Some kind → has_other_fields s.version kind r ≡ false → IsFine kind s r → first_code s r ≡ None
unfolding first_code
first_none kind s r is form f =
    rw (is, form, f.words, f.place, f.dates, f.closed, f.names, f.ids, f.numbers, f.amounts, f.times, f.twice, f.setup, f.limit) refl

-- what is so far after DAY, and before END
abbrev pub state : ℕ → CivilDay → List AccountRecord → List SystemRecord → List Reserve → List ℕ → List Message → ℕ → Bool → Bool → ℕ → SoFar
state version date accounts systems reserves stops messages opened begun batch entries = record {
  version = version;
  date = Some date;
  accounts = accounts;
  systems = systems;
  reserves = reserves;
  stops = stops;
  messages = messages;
  opened = opened;
  started = true;
  begun = begun;
  ended = false;
  in_batch = batch;
  entries = entries;
}

pub le_not : (a b : ℕ) → b < a → nat_le a b ≡ false
le_not a b h = grind (arith, common_steps)

pub lt_not : (a b : ℕ) → b ≤ a → nat_lt a b ≡ false
lt_not a b h = grind (arith, common_steps)

-- ---- what was found in front, in any order

abbrev pub Same : {X : Type 0} → List X → List X → Type 0
Same {X} before done = (p : X → Bool) → list_any p before ≡ list_any p done

turned : (a b : Bool) → (a || b) ≡ (b || (a || false))
turned true true = refl
turned true false = refl
turned false true = refl
turned false false = refl

pub same_next : {X : Type 0} (before done : List X) (x : X) → Same before done → Same (x ∷ before) (done ++ x ∷ [])
same_next before done x h p = rw (h p, list_any-append p done (x ∷ [])) (turned (p x) (list_any p done))
