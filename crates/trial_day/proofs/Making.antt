-- What the loops and calls that make the day of a trial keep.
use Rattle.std.proofs.Common.{◌≡◌, ℕ, zero, suc, ◌+◌, ◌-◌, ◌*◌, ◌/◌, ◌%◌, ◌≤◌, ◌<◌, ◌^◌, true, List, [], ◌∷◌, ◌++◌, Ok, Result, refl, sym, ap, ◌∙◌, subst, arith, length, append_assoc, append-nil}
use Rattle.std.specs.Prelude.{map, flat_map, nat_lt, codes}
use Rattle.std.specs.List.{list_all, range_with_len}
use Rattle.std.proofs.lemmas.Bool.{and_from, lt-ltb}
use Rattle.std.proofs.lemmas.List.FromFn.{map-range_with_len_more}
use Rattle.cash_amounts.specs.declared.records.Procedure.{Procedure}
use Rattle.period_calendar.specs.Calendar.{CivilDay, day_number, days_of_months, days_of_years, is_civil, weekday}
use Rattle.period_calendar.specs.Closing.{is_closing, is_open}
use Rattle.period_calendar.specs.declared.date.DateFault.{DateFault}
use Rattle.period_calendar.specs.Dates.{date_of_text, date_parts}
use Rattle.period_calendar.specs.Easter.{days_to_sunday, easter_place, full_moon, weeks_back}
use Rattle.batch_records.specs.declared.day.Entry.{Entry}
use Rattle.trial_day.specs.declared.draws.Trio.{Trio}
use Rattle.trial_day.specs.Trial.{next_number, number_behind, draw, trio, trios, trio_behind, trios_behind, procedure_of_message, system_of_message, batch, drawn_entries, trial_message}
use Rattle.trial_day.proofs.TrialMessages.{drawn_procedure}
use Rattle.trial_day.proofs.TrialSound.{GoodEntries, good_entries}

-- ---- one more item

pub flat_more : {X : Type 0} (f : ℕ → List X) (s n : ℕ) → flat_map f (range_with_len s n) ++ f (s + n) ≡ flat_map f (range_with_len s (suc n))
flat_more f s zero = let e : s + 0 ≡ s = omega arith in ap f e ∙ sym (append-nil (f s))
flat_more f s (suc n) =
    let e : s + suc n ≡ s + 1 + n = omega arith in
    append_assoc (f s) (flat_map f (range_with_len (s + 1) n)) (f (s + suc n)) ∙ ap (λ k. f s ++ (flat_map f (range_with_len (s + 1) n) ++ f k)) e ∙ ap (λ xs. f s ++ xs) (flat_more f (s + 1) n)

pub more_items : {X : Type 0} (f : ℕ → X) (first : List X) (n : ℕ) (old new : List X) (x : X) → old ≡ first ++ map f (range_with_len 1 n) → x ≡ f (n + 1) → new ≡ old ++ x ∷ [] → new ≡ first ++ map f (range_with_len 1 (n + 1))
more_items f first n old new x so_far is next =
    let e : 1 + n ≡ n + 1 = omega arith in
    next ∙ (λ i. so_far i ++ is i ∷ []) ∙ append_assoc first (map f (range_with_len 1 n)) (f (n + 1) ∷ []) ∙ ap (λ xs. first ++ xs) (sym (map-range_with_len_more f 1 n (n + 1) e))

pub more_lists : {X : Type 0} (f : ℕ → List X) (first : List X) (n : ℕ) (old new : List X) → old ≡ first ++ flat_map f (range_with_len 1 n) → new ≡ old ++ f (n + 1) → new ≡ first ++ flat_map f (range_with_len 1 (n + 1))
more_lists f first n old new so_far next =
    let e : n + 1 ≡ 1 + n = omega arith in
    let k : suc n ≡ n + 1 = omega arith in
    next ∙ (λ i. so_far i ++ f (n + 1)) ∙ append_assoc first (flat_map f (range_with_len 1 n)) (f (n + 1)) ∙ ap (λ j. first ++ (flat_map f (range_with_len 1 n) ++ f j)) e ∙ ap (λ xs. first ++ xs) (flat_more f 1 n) ∙ ap (λ j. first ++ flat_map f (range_with_len 1 j)) k

-- ---- draws

pub behind_more : (x b k : ℕ) → number_behind (number_behind x b) k ≡ number_behind x (b + k)
unfolding number_behind
behind_more x b zero = let e : b ≡ b + 0 = omega arith in ap (number_behind x) e
behind_more x b (suc k) = let e : suc (b + k) ≡ b + suc k = omega arith in ap next_number (behind_more x b k) ∙ ap (number_behind x) e

trio_is : (seed b : ℕ) → trio_behind (number_behind seed b) ≡ trio seed b
unfolding draw
trio_is seed b = λ i. record { debit = behind_more seed b 1 i / 65536; credit = behind_more seed b 2 i / 65536; amount = behind_more seed b 3 i / 65536 }

pub trios_are : (seed i x : ℕ) → x ≡ number_behind seed (12 * (i - 1)) → trios_behind x ≡ trios seed i
trios_are seed i x e = ap trios_behind e ∙ here (12 * (i - 1))
  where
    here : (b : ℕ) → trios_behind (number_behind seed b) ≡ trio seed b ∷ trio seed (b + 3) ∷ trio seed (b + 6) ∷ trio seed (b + 9) ∷ []
    here b = λ i. trio_is seed b i
        ∷ (ap trio_behind (behind_more seed b 3) ∙ trio_is seed (b + 3)) i
        ∷ (ap trio_behind (behind_more seed b 6) ∙ trio_is seed (b + 6)) i
        ∷ (ap trio_behind (behind_more seed b 9) ∙ trio_is seed (b + 9)) i
        ∷ []

-- a draw is below 32768
pub draws_small : (x : ℕ) → list_all (λ (t : Trio). nat_lt t.debit 65536) (trios_behind x) ≡ true
unfolding number_behind
draws_small x = and_from _ _ (one x) (and_from _ _ (one (number_behind x 3)) (and_from _ _ (one (number_behind x 6)) (and_from _ _ (one (number_behind x 9)) refl)))
  where
    below : (n : ℕ) → n % 2 ^ 31 / 65536 < 65536
    below n = omega arith

    one : (y : ℕ) → nat_lt (number_behind y 1 / 65536) 65536 ≡ true
    one y = lt-ltb (number_behind y 1 / 65536) 65536 (below (1103515245 * y + 12345))

-- ---- a message

pub few_entries : (i s x : ℕ) (ts : List Trio) (es : List Entry) → 1 ≤ s → s ≤ 8 → ts ≡ trios_behind x → es ≡ drawn_entries (procedure_of_message i) s ts → GoodEntries es
few_entries i s x ts es low high e is = subst GoodEntries (sym is) (good_entries (procedure_of_message i) s ts (drawn_procedure (i % 3)) low (omega (arith, high)) (ap length e))

pub message_is : (seed i x : ℕ) (p : Procedure) (s : ℕ) (ts : List Trio) (es : List Entry) → p ≡ procedure_of_message i → s ≡ system_of_message i → ts ≡ trios_behind x → es ≡ drawn_entries p s ts → x ≡ number_behind seed (12 * (i - 1)) → batch i p es ≡ trial_message seed i
unfolding trial_message
message_is seed i x p s ts es of by drawn is from = ap (batch i p) (is ∙ (λ j. drawn_entries p (by j) ((drawn ∙ trios_are seed i x from) j))) ∙ ap (λ q. batch i q (drawn_entries q (system_of_message i) (trios seed i))) of

-- ---- the date

pub date_is : date_of_text (codes "2025-06-02") ≡ Ok (record { year = 2025; month = 6; day = 2 })
unfolding is_open is_civil is_closing weekday day_number days_of_years days_of_months easter_place full_moon days_to_sunday weeks_back date_of_text date_parts
date_is = refl

pub date_only : (r : Result CivilDay DateFault) (date : CivilDay) → r ≡ date_of_text (codes "2025-06-02") → r ≡ Ok date → date ≡ record { year = 2025; month = 6; day = 2 }
date_only r date text e = is date (record { year = 2025; month = 6; day = 2 }) (sym e ∙ text ∙ date_is)
  where
    is : (a b : CivilDay) → ◌≡◌ {A = Result CivilDay DateFault} (Ok a) (Ok b) → a ≡ b
    is a b e = cc
