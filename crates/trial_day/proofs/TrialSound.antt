-- The day of a trial is sound.
use Rattle.std.proofs.Common.{◌≡◌, ℕ, zero, suc, ◌+◌, ◌*◌, ◌%◌, ◌≤◌, ◌<◌, ◌^◌, Bool, true, ◌&&◌, List, [], ◌∷◌, refl, sym, ◌∙◌, subst, arith, length, ◌⊎◌, inl, inr}
use Rattle.std.specs.Prelude.{nat_le, map, sum_by, decimal}
use Rattle.std.specs.List.{list_all, range_with_len}
use Rattle.std.specs.Str.Parse.{AllDigits}
use Rattle.std.proofs.lemmas.Bool.{and_from, and_parts, le-leb, lt-ltb}
use Rattle.std.proofs.lemmas.Fmt.{decimal_is_IsNumeral, length-decimal-le}
use Rattle.std.proofs.lemmas.Grind.{common_steps}
use Rattle.std.proofs.lemmas.List.Sums.{sum_by-cons}
use Rattle.std.proofs.lemmas.Str.Parse.{digit_from_value}
use Rattle.cash_amounts.specs.declared.cents.TheConstants.{MAX_CENTS}
use Rattle.cash_amounts.specs.declared.limits.TheConstants.{MAX_ENTRIES, MAX_ENTRIES_OF_DAY_BEFORE_THIRD, MAX_MESSAGES_BEFORE_THIRD}
use Rattle.cash_amounts.specs.declared.records.Procedure.{Procedure}
use Rattle.cash_amounts.specs.declared.records.Procedure.TheVariants.{A, B, E}
use Rattle.cash_amounts.specs.Names.{is_name, is_id, is_id_byte}
use Rattle.period_calendar.specs.Calendar.{day_number, days_of_months, days_of_years, is_civil, weekday}
use Rattle.period_calendar.specs.Closing.{is_closing, is_open}
use Rattle.period_calendar.specs.Easter.{days_to_sunday, easter_place, full_moon, weeks_back}
use Rattle.batch_records.specs.declared.day.Message.{Message}
use Rattle.batch_records.specs.declared.day.Entry.{Entry}
use Rattle.batch_records.specs.Meets.{MeetsRules}
use Rattle.batch_records.specs.Sound.{is_sound, is_sound_body, is_spelled_account, is_spelled_system, is_spelled_message, is_spelled_entry, is_amount, entries_in, rounds_rise, has_few_entries, has_fit_earliest}
use Rattle.batch_records.proofs.SoundMeets.{sound_meets}
use Rattle.machine.specs.Stages.Intake.{amount_of}
use Rattle.settlement_laws.proofs.Base.Lists.{IsIn, all_of, from_map}
use Rattle.settlement_laws.proofs.Base.Sums.{all-at}
use Rattle.trial_day.specs.declared.draws.Trio.{Trio}
use Rattle.trial_day.specs.Trial.{trios, bank_name, dca_name, system_name, technical_a, technical_b, message_id, transfer_entry, entries_over, drawn_debit, drawn_credit, drawn_other, procedure_of_message, system_of_message, drawn_entries, trial_message, trial_accounts, trial_systems, generated}
use Rattle.trial_day.proofs.TrialSetup.{setup_is_sound}
use Rattle.trial_day.proofs.TrialMessages.{drawn_procedure, system_low, system_high, debit_low, debit_high, credit_low, credit_high, other_low, other_high, amount_low, amount_small, over_cases, sum_small, mapped_length}
use Rattle.trial_day.proofs.TrialIntake.{over_length, transfer_length}
use Rattle.batch_records.specs.Versions.{is_version}

-- ---- names

dcas_spelled : list_all (λ a. is_name (dca_name a)) (range_with_len 1 16) ≡ true
dcas_spelled = refl

systems_spelled : list_all (λ s. is_name (system_name s) && is_name (technical_a s) && is_name (technical_b s)) (range_with_len 1 8) ≡ true
systems_spelled = refl

pub dca_spelled : (a : ℕ) → 1 ≤ a → a < 17 → is_name (dca_name a) ≡ true
dca_spelled a low high = all-at (λ a. is_name (dca_name a)) 1 16 a dcas_spelled low high

pub names_spelled : (s : ℕ) → 1 ≤ s → s < 9 → (is_name (system_name s) ≡ true) × ((is_name (technical_a s) ≡ true) × (is_name (technical_b s) ≡ true))
names_spelled s low high =
    let h : (is_name (system_name s) && is_name (technical_a s) && is_name (technical_b s)) ≡ true = all-at (λ s. is_name (system_name s) && is_name (technical_a s) && is_name (technical_b s)) 1 8 s systems_spelled low high in
    let x = and_parts _ (is_name (technical_b s)) h in
    let y = and_parts (is_name (system_name s)) (is_name (technical_a s)) x.0 in
    (y.0, (y.1, x.1))

banks_spelled : list_all (λ a. is_name (bank_name a)) (range_with_len 1 16) ≡ true
banks_spelled = refl

pub bank_spelled : (a : ℕ) → 1 ≤ a → a < 17 → is_name (bank_name a) ≡ true
bank_spelled a low high = all-at (λ a. is_name (bank_name a)) 1 16 a banks_spelled low high

pub system_spelled : (s : ℕ) → 1 ≤ s → s < 9 → is_name (system_name s) ≡ true
system_spelled s low high = (names_spelled s low high).0

pub technical_a_spelled : (s : ℕ) → 1 ≤ s → s < 9 → is_name (technical_a s) ≡ true
technical_a_spelled s low high = (names_spelled s low high).1.0

pub technical_b_spelled : (s : ℕ) → 1 ≤ s → s < 9 → is_name (technical_b s) ≡ true
technical_b_spelled s low high = (names_spelled s low high).1.1

digit_fits : (c : ℕ) → 48 ≤ c → c ≤ 57 → is_id_byte c ≡ true
digit_fits c low high = grind (arith, common_steps)

digits_fit : (x : List ℕ) → AllDigits 10 x → list_all is_id_byte x ≡ true
digits_fit [] d = refl
digits_fit (c ∷ x) d = let r = digit_from_value c d.0 in and_from (is_id_byte c) (list_all is_id_byte x) (digit_fits c r.0 r.1) (digits_fit x d.1)

pub id_spelled : (i : ℕ) → i < 10 ^ 16 → is_id (message_id i) ≡ true
id_spelled i small =
    let few : length (decimal i) ≤ 17 = length-decimal-le 17 i (omega arith) (omega arith) (omega arith) in
    and_from _ _ (and_from _ _ (lt-ltb 0 (suc (length (decimal i))) (omega arith)) (le-leb (suc (length (decimal i))) 35 (omega (arith, few)))) (digits_fit (decimal i) (decimal_is_IsNumeral i (omega arith)).0.1)

-- ---- the entries of a message

pub record GoodEntries (es : List Entry) : Type 0 where
  pub few : length es ≤ 8
  pub some : 4 ≤ length es
  pub low : (e : Entry) → IsIn e es → 0 < e.amount
  pub high : (e : Entry) → IsIn e es → e.amount ≤ 10000
  pub spelled : (e : Entry) → IsIn e es → is_spelled_entry e ≡ true

good_over : (name : List ℕ) (ts : List Trio) → length ts ≡ 4 → is_name name ≡ true → GoodEntries (entries_over name ts)
good_over name ts four named = record {
  few = omega (arith, four, over_length name ts);
  some = omega (arith, four, over_length name ts);
  low = λ e i. elim (over_cases name ts e i) [ inl (u, q) ↦ subst (λ (e : Entry). 0 < e.amount) q (amount_low u) | inr (u, q) ↦ subst (λ (e : Entry). 0 < e.amount) q (amount_low u) ];
  high = λ e i. elim (over_cases name ts e i) [ inl (u, q) ↦ subst (λ (e : Entry). e.amount ≤ 10000) q (amount_small u) | inr (u, q) ↦ subst (λ (e : Entry). e.amount ≤ 10000) q (amount_small u) ];
  spelled = λ e i. elim (over_cases name ts e i) [
    | inl (u, q) ↦ subst (λ (e : Entry). is_spelled_entry e ≡ true) q (and_from _ _ (dca_spelled (drawn_debit u) (debit_low u) (debit_high u)) named)
    | inr (u, q) ↦ subst (λ (e : Entry). is_spelled_entry e ≡ true) q (and_from _ _ named (dca_spelled (drawn_credit u) (credit_low u) (credit_high u)))
  ];
}

good_transfers : (ts : List Trio) → length ts ≡ 4 → GoodEntries (map transfer_entry ts)
good_transfers ts four = record {
  few = omega (arith, four, transfer_length ts);
  some = omega (arith, four, transfer_length ts);
  low = λ e i. let r = from_map transfer_entry ts e i in subst (λ (e : Entry). 0 < e.amount) r.2 (amount_low r.0);
  high = λ e i. let r = from_map transfer_entry ts e i in subst (λ (e : Entry). e.amount ≤ 10000) r.2 (amount_small r.0);
  spelled = λ e i. let r = from_map transfer_entry ts e i in subst (λ (e : Entry). is_spelled_entry e ≡ true) r.2 (and_from _ _ (dca_spelled (drawn_debit r.0) (debit_low r.0) (debit_high r.0)) (dca_spelled (drawn_other r.0) (other_low r.0) (other_high r.0)));
}

pub good_entries : (p : Procedure) (s : ℕ) (ts : List Trio) → (p ≡ A) ⊎ ((p ≡ B) ⊎ (p ≡ E)) → 1 ≤ s → s < 9 → length ts ≡ 4 → GoodEntries (drawn_entries p s ts)
unfolding drawn_entries
good_entries p s ts (inl e) low high four = subst (λ q. GoodEntries (drawn_entries q s ts)) (sym e) (good_over (technical_a s) ts four (names_spelled s low high).1.0)
good_entries p s ts (inr (inl e)) low high four = subst (λ q. GoodEntries (drawn_entries q s ts)) (sym e) (good_over (technical_b s) ts four (names_spelled s low high).1.1)
good_entries p s ts (inr (inr e)) low high four = subst (λ q. GoodEntries (drawn_entries q s ts)) (sym e) (good_transfers ts four)

-- ---- the messages

pub good_message : (seed i : ℕ) → GoodEntries (entries_in (trial_message seed i).body)
unfolding trial_message
good_message seed i = good_entries (procedure_of_message i) (system_of_message i) (trios seed i) (drawn_procedure (i % 3)) (system_low i) (system_high i) refl

sound_message : (seed i : ℕ) → is_sound_body (trial_message seed i).body ≡ true
unfolding trial_message
sound_message seed i =
    let g : GoodEntries (entries_in (trial_message seed i).body) = good_message seed i in
    let es : List Entry = entries_in (trial_message seed i).body in
    let sum : sum_by amount_of (entries_in (trial_message seed i).body) ≤ 10000 * length (entries_in (trial_message seed i).body) = sum_small (entries_in (trial_message seed i).body) g.high in
    and_from _ _ (and_from _ _ (le-leb (sum_by amount_of (entries_in (trial_message seed i).body)) MAX_CENTS (omega (arith, sum, g.few))) (le-leb (length (entries_in (trial_message seed i).body)) MAX_ENTRIES (omega (arith, g.few))))
    (all_of (λ e. is_amount e.amount) (entries_in (trial_message seed i).body) (λ e j. and_from _ _ (lt-ltb 0 e.amount (g.low e j)) (lt-ltb e.amount (10 ^ 13) (let h = g.high e j in omega (arith, h)))))

spelled_message : (seed i : ℕ) → i ≤ 10000 → is_spelled_message (trial_message seed i) ≡ true
unfolding trial_message
spelled_message seed i small =
    let g : GoodEntries (entries_in (trial_message seed i).body) = good_message seed i in
    and_from _ _ (and_from _ _ (names_spelled (system_of_message i) (system_low i) (system_high i)).0 (id_spelled i (omega arith)))
    (and_from _ _ (lt-ltb (length (entries_in (trial_message seed i).body)) (10 ^ 7) (omega (arith, g.few))) (all_of is_spelled_entry (entries_in (trial_message seed i).body) g.spelled))

first_round : (seed i : ℕ) → (trial_message seed i).round ≡ 0
unfolding trial_message
first_round seed i = refl

all_mapped : (test : Message → Bool) (f : ℕ → Message) (s n : ℕ) → ((i : ℕ) → s ≤ i → i < s + n → test (f i) ≡ true) → list_all test (map f (range_with_len s n)) ≡ true
all_mapped test f s zero h = refl
all_mapped test f s (suc n) h = and_from (test (f s)) _ (h s (omega arith) (omega arith)) (all_mapped test f (s + 1) n (λ i low high. h i (omega arith) (omega arith)))

rounds_are : (seed s n : ℕ) → rounds_rise 0 0 (map (trial_message seed) (range_with_len s n)) ≡ true
rounds_are seed s zero = refl
rounds_are seed s (suc n) = (λ i. nat_le 0 (first_round seed s i) && nat_le (first_round seed s i) 0 && rounds_rise 0 (first_round seed s i) (map (trial_message seed) (range_with_len (s + 1) n))) ∙ rounds_are seed (s + 1) n

entry_total : (seed s n : ℕ) → sum_by (λ m. length (entries_in m.body)) (map (trial_message seed) (range_with_len s n)) ≤ 8 * n
entry_total seed s zero = omega arith
entry_total seed s (suc n) =
    let a : sum_by (λ (m : Message). length (entries_in m.body)) (map (trial_message seed) (range_with_len s (suc n))) ≡ length (entries_in (trial_message seed s).body) + sum_by (λ (m : Message). length (entries_in m.body)) (map (trial_message seed) (range_with_len (s + 1) n)) = sum_by-cons (λ (m : Message). length (entries_in m.body)) (trial_message seed s) (map (trial_message seed) (range_with_len (s + 1) n)) in
    let b = entry_total seed (s + 1) n in
    let c = (good_message seed s).few in
    omega (arith, a, b, c)

-- ---- the setup

accounts_spelled : list_all is_spelled_account trial_accounts ≡ true
unfolding trial_accounts
accounts_spelled = refl

listed_spelled : list_all is_spelled_system trial_systems ≡ true
unfolding trial_systems
listed_spelled = refl

date_opens : is_open 2025 6 2 ≡ true
unfolding is_open is_civil is_closing weekday day_number days_of_years days_of_months easter_place full_moon days_to_sunday weeks_back
date_opens = refl

few_of_message : (seed i : ℕ) → has_few_entries 1 (trial_message seed i) ≡ true
few_of_message seed i = let few = (good_message seed i).few in le-leb (length (entries_in (trial_message seed i).body)) 10000 (omega (arith, few))

fit_of_message : (seed i : ℕ) → has_fit_earliest 1 (trial_message seed i).body ≡ true
unfolding trial_message
fit_of_message seed i = refl

pub generated_is_sound : (seed batches : ℕ) → batches ≤ 10000 → is_sound (generated seed batches) ≡ true
unfolding generated
generated_is_sound seed batches small =
    let count : length (map (trial_message seed) (range_with_len 1 batches)) ≡ batches = mapped_length (trial_message seed) 1 batches in
    let total = entry_total seed 1 batches in
    and_from _ _ (and_from _ _ (and_from _ _ (and_from _ _ (and_from _ _ (and_from _ _ (and_from _ _ setup_is_sound refl) (rounds_are seed 1 batches))
    (all_mapped (λ m. is_sound_body m.body) (trial_message seed) 1 batches (λ i low high. sound_message seed i)))
    (le-leb (length (map (trial_message seed) (range_with_len 1 batches))) MAX_MESSAGES_BEFORE_THIRD (omega (arith, count, small))))
    (le-leb (sum_by (λ m. length (entries_in m.body)) (map (trial_message seed) (range_with_len 1 batches))) MAX_ENTRIES_OF_DAY_BEFORE_THIRD (omega (arith, total, small))))
    (and_from _ _ (and_from _ _ (and_from _ _ date_opens accounts_spelled) listed_spelled) (all_mapped is_spelled_message (trial_message seed) 1 batches (λ i low high. spelled_message seed i (omega (arith, high, small))))))
    (and_from _ _ (and_from _ _ (and_from _ _ (and_from (is_version 1) _ refl (all_mapped (has_few_entries 1) (trial_message seed) 1 batches (λ i low high. few_of_message seed i)))
    (all_mapped (λ m. has_fit_earliest 1 m.body) (trial_message seed) 1 batches (λ i low high. fit_of_message seed i))) refl) refl)

-- so it meets the rules: each of its systems has a word for each procedure
pub generated_meets : (seed batches : ℕ) → batches ≤ 10000 → MeetsRules (generated seed batches)
unfolding generated trial_systems
generated_meets seed batches small = sound_meets (generated seed batches) (generated_is_sound seed batches small) refl refl
