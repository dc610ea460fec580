-- The phases and pending items by what is kept are those of the lines.
use Rattle.std.proofs.Common.{◌≡◌, ◌∙◌, ℕ, zero, suc, ◌+◌, ◌≤◌, Bool, true, false, not, ◌&&◌, ◌||◌, List, [], ◌∷◌, Option, Some, None, length, refl, sym, ap, arith, map, cond, if◌then◌else◌}
use Rattle.std.specs.Prelude.{count_by, filter, fold, is_none, is_some, max, nat_lt, option_map, unwrap_or}
use Rattle.std.specs.List.{find, list_all, range_with_len}
use Rattle.std.specs.Option.{option_map_or, option_or}
use Rattle.std.proofs.lemmas.List.Folds.{list_all-map}
use Rattle.std.proofs.lemmas.List.Sums.{sum_by-cons}
use Rattle.batch_records.specs.DayRecord.{Day}
use Rattle.batch_records.specs.declared.day.Message.{Message}
use Rattle.batch_records.specs.declared.day.Body.{Body}
use Rattle.batch_records.specs.declared.day.Body.TheVariants as bodies
use Rattle.batch_records.specs.Sound.{is_amount, is_sound, is_sound_body, is_time_or_none}
use Rattle.std.proofs.lemmas.Bool.{and_parts, leb-true}
use Rattle.commit_journal.specs.Line.{History}
use Rattle.day_facts.specs.Openings.{comes_to, opening_in, openings_of, seconds}
use Rattle.day_facts.proofs.Lookups.{at_in}
use Rattle.machine.specs.declared.answers.Item.{Item}
use Rattle.machine.specs.declared.answers.Phase.TheVariants as phases
use Rattle.machine.specs.Words.{first_case, is_zero, numbered, some_passes}
use Rattle.machine.specs.Records.Setup.{system_named}
use Rattle.machine.specs.Records.Messages.{Sort, Missing, Pay, BatchA, BatchB, BatchC, BatchE, credit_numbers, earliest, earliest_in, entries, entries_in, entry_at, entry_numbers, info_end, info_in, is_a, is_credit, is_debit, is_message, item_numbers, message_at, message_numbers, sender, settlement_end, settlement_start, sort_of, sort_of_body}
use Rattle.machine.specs.Telling.History.{asked, booked, clock, closed, covered, is_accepted, is_ok, place_of, taken}
use Rattle.machine.specs.Telling.Facts.{answered, cycle_ended}
use Rattle.machine.specs.Stages.Phases.{is_booked, is_covered, is_no_order, is_open, is_revoked_entry, open_as, phase, revoked_as, settled_as}
use Rattle.machine.specs.Stages.Pending.{active_place, first_unbooked_debit, is_next_of_a, is_pending, last_debit_booked, opened_at, pending_as}
use Rattle.settlement_laws.proofs.Base.Lists.{never}
use Rattle.settlement_laws.proofs.DayEnd.Progress.{body_message}
use Rattle.settlement_laws.proofs.ProcedureA.SettlesInTime.{sound_message}
use Rattle.day_facts.specs.Cycles.{end_in}
use Rattle.day_facts.specs.Facts.{Facts, StandsFor}
use Rattle.day_facts.specs.Left.{debits_row, debits_rows, is_kept, kept_row, kept_rows, last_in, owes, waiting_row, waiting_rows, waits}
use Rattle.day_facts.specs.Rows.{count_in, none_in}
use Rattle.day_facts.specs.declared.own.Own.{Own}
use Rattle.day_facts.specs.declared.stages.Stage.TheVariants as stages
use Rattle.day_facts.specs.Own.{code_in, own_of, place_in}
use Rattle.day_facts.specs.Phasing.{active_by, going_by, has_asked, has_covered, has_ended, next_by, open_by, opened_by, pending_by, phase_at, phase_by, revoked_by, settled_by, stage_by, stage_in, taken_by}
use Rattle.day_facts.specs.Told.{answered_in}
use Rattle.day_facts.proofs.CycleLines.{ended_is}
use Rattle.machine.proofs.Lists.{numbered_map}
use Rattle.day_facts.proofs.StageLines.{kept_stage}
use Rattle.day_facts.proofs.Standing.{answered_stands, asked_stands, booked_stands, clock_stands, closed_stands, code_stands, covered_stands, revoked_stands, taken_stands, whole_stands}

-- ---- tests of all items

all_from : (f g : ℕ → Bool) (s len : ℕ) → ((j : ℕ) → s ≤ j → f j ≡ g j) → list_all f (range_with_len s len) ≡ list_all g (range_with_len s len)
all_from f g s zero h = refl
all_from f g s (suc len) h = ap (λ b. b && list_all f (range_with_len (s + 1) len)) (h s (omega arith)) ∙ ap (λ b. g s && b) (all_from f g (s + 1) len (λ j l. h j (omega arith)))

behind_zero : (p : ℕ → Bool) (j : ℕ) → 1 ≤ j → p j ≡ not (not (is_zero j) && not (p j))
behind_zero p zero l = absurd (omega arith)
behind_zero p (suc j) l = twice (p (suc j))
  where
    twice : (b : Bool) → b ≡ not (not b)
    twice true = refl
    twice false = refl

-- all entries pass
all_entries : (p : ℕ → Bool) (len : ℕ) → list_all p (range_with_len 1 len) ≡ list_all not (map (λ k. not (is_zero k) && not (p k)) (range_with_len 0 (suc len)))
all_entries p len = all_from p _ 1 len (behind_zero p) ∙ sym (list_all-map not (λ k. not (is_zero k) && not (p k)) (range_with_len 0 (suc len)))

-- those of a choice pass
all_chosen : (c p : ℕ → Bool) (xs : List ℕ) → list_all p (filter c xs) ≡ list_all not (map (λ k. c k && not (p k)) xs)
all_chosen c p [] = refl
all_chosen c p (x ∷ xs) = here (c x) (p x) refl (all_chosen c p xs)
  where
    here : (b d : Bool) → p x ≡ d → list_all p (filter c xs) ≡ list_all not (map (λ k. c k && not (p k)) xs) →
        list_all p (cond b (x ∷ filter c xs) (filter c xs)) ≡ (not (b && not d) && list_all not (map (λ k. c k && not (p k)) xs))
    here true true e k = ap (λ z. z && list_all p (filter c xs)) e ∙ k
    here true false e k = ap (λ z. z && list_all p (filter c xs)) e
    here false d e k = k

-- none of a choice is found
none_chosen : (c p : ℕ → Bool) (xs : List ℕ) → is_none (find (λ k. not (p k)) (filter c xs)) ≡ list_all not (map (λ k. c k && not (p k)) xs)
none_chosen c p [] = refl
none_chosen c p (x ∷ xs) = here (c x) (p x) refl (none_chosen c p xs)
  where
    here : (b d : Bool) → p x ≡ d → is_none (find (λ k. not (p k)) (filter c xs)) ≡ list_all not (map (λ k. c k && not (p k)) xs) →
        is_none (find (λ k. not (p k)) (cond b (x ∷ filter c xs) (filter c xs))) ≡ (not (b && not d) && list_all not (map (λ k. c k && not (p k)) xs))
    here true true e k = ap (λ z. is_none (cond (not z) (Some x) (find (λ k. not (p k)) (filter c xs)))) e ∙ k
    here true false e k = ap (λ z. is_none (cond (not z) (Some x) (find (λ k. not (p k)) (filter c xs)))) e
    here false d e k = k

or_false : (b : Bool) → b ≡ (b || false)
or_false true = refl
or_false false = refl

same_tests : (J : History) (n : ℕ) (xs : List ℕ) → list_all (is_booked J n) xs ≡ list_all (λ k. is_booked J n k || false) xs
same_tests J n xs = λ i. list_all (λ k. or_false (is_booked J n k) i) xs

-- ---- a table with another answer for a number that no message has

kept_of : {X Y : Type 0} (f : ℕ → X) (day : Day) (n : ℕ) (read : X → Y) (d value : Y) → (is_message (sort_of day n) ≡ true → read (f n) ≡ value) → (message_at day n ≡ None → d ≡ value) → option_map_or read (numbered (map f (message_numbers day)) n) d ≡ value
kept_of f day n read d value h absent = ap (λ o. option_map_or read o d) (numbered_map f day.messages n) ∙ here (message_at day n) refl
  where
    sorted : (o : Option Message) → message_at day n ≡ o → sort_of day n ≡ option_map_or (λ m. sort_of_body m.body) o Missing
    sorted o e = ap (λ (x : Option Message). option_map_or (λ m. sort_of_body m.body) x Missing) e

    here : (o : Option Message) → message_at day n ≡ o → option_map_or read (option_map (λ y. f n) o) d ≡ value
    here None e = absent e
    here (Some m) e = h (ap is_message (sorted (Some m) e) ∙ body_message m.body)

sort_absent : (day : Day) (n : ℕ) → message_at day n ≡ None → sort_of day n ≡ Missing
sort_absent day n e = ap (λ (x : Option Message). option_map_or (λ m. sort_of_body m.body) x Missing) e

-- no number without a message has a sort
absent_sort : {X : Type 0} (day : Day) (n : ℕ) (s : Sort) → message_at day n ≡ None → sort_of day n ≡ s → is_message s ≡ true → X
absent_sort day n s e f h = never (is_message s) h (ap is_message (sym f ∙ sort_absent day n e))

-- ---- what is revoked

kept_flags : (day : Day) (J : History) (n : ℕ) (s : Sort) → sort_of day n ≡ s → is_message s ≡ true → none_in (kept_rows day J) n ≡ list_all not (map (is_kept s day J n) (item_numbers day n))
kept_flags day J n s e there = kept_of (kept_row day J) day n (λ row. list_all not row) true (list_all not (map (is_kept s day J n) (item_numbers day n)))
    (λ h. ap (λ x. list_all not (map (is_kept x day J n) (item_numbers day n))) e) (λ none. absent_sort day n s none e there)

waiting_flags : (day : Day) (J : History) (n : ℕ) (s : Sort) → sort_of day n ≡ s → is_message s ≡ true → none_in (waiting_rows day J) n ≡ list_all not (map (waits s day J J n) (item_numbers day n))
waiting_flags day J n s e there = kept_of (waiting_row day J J) day n (λ row. list_all not row) true (list_all not (map (waits s day J J n) (item_numbers day n)))
    (λ h. ap (λ x. list_all not (map (waits x day J J n) (item_numbers day n))) e) (λ none. absent_sort day n s none e there)

no_entries : (day : Day) (n : ℕ) → message_at day n ≡ None → entries day n ≡ []
no_entries day n e = ap (λ (o : Option Message). option_map_or (λ m. entries_in m.body) o []) e

debit_flags : (day : Day) (J : History) (n : ℕ) → none_in (debits_rows day J) n ≡ is_none (first_unbooked_debit day J n)
debit_flags day J n = kept_of (debits_row day J) day n (λ row. list_all not row) true (is_none (first_unbooked_debit day J n))
    (λ h. sym (none_chosen (is_debit day n) (is_booked J n) (entry_numbers day n)))
    (λ none. sym (ap (λ es. is_none (find (λ k. not (is_booked J n k)) (filter (is_debit day n) (range_with_len 1 (length es))))) (no_entries day n none)))

revoked_facts : (s : Sort) (day : Day) (J : History) (facts : Facts) (n : ℕ) → sort_of day n ≡ s → StandsFor day J facts → revoked_by s day facts n ≡ revoked_as s day J n
revoked_facts BatchA day J facts n e s = ap is_some (revoked_stands day J facts n 0 s)
revoked_facts BatchB day J facts n e s = ap is_some (revoked_stands day J facts n 0 s)
revoked_facts BatchE day J facts n e s = ap (λ (f : Facts). none_in f.kept n) s.exact ∙ kept_flags day J n BatchE e refl ∙ sym (all_entries (is_revoked_entry day J n) (length (entries day n)))
revoked_facts _ day J facts n e s = refl

settled_facts : (s : Sort) (day : Day) (J : History) (facts : Facts) (n : ℕ) → sort_of day n ≡ s → StandsFor day J facts → settled_by s day facts n ≡ settled_as s day J n
settled_facts Pay day J facts n e s = ap is_some (booked_stands day J facts n 0 s)
settled_facts BatchA day J facts n e s =
    ap (λ (f : Facts). none_in f.waiting n) s.exact ∙ waiting_flags day J n BatchA e refl
    ∙ sym (same_tests J n (credit_numbers day n) ∙ all_chosen (is_credit day n) (λ k. is_booked J n k || false) (entry_numbers day n))
settled_facts BatchB day J facts n e s = λ i. is_some (whole_stands day J facts n s i) || is_some (covered_stands day J facts n s i)
settled_facts BatchC day J facts n e s =
    ap (λ (f : Facts). none_in f.waiting n) s.exact ∙ waiting_flags day J n BatchC e refl
    ∙ sym (same_tests J n (entry_numbers day n) ∙ all_entries (λ k. is_booked J n k || false) (length (entries day n)))
settled_facts BatchE day J facts n e s =
    ap (λ (f : Facts). none_in f.waiting n) s.exact ∙ waiting_flags day J n BatchE e refl
    ∙ sym (all_entries (λ k. is_booked J n k || is_revoked_entry day J n k) (length (entries day n)))
settled_facts _ day J facts n e s = refl

-- ---- phases

pub ended_facts : (day : Day) (J : History) (facts : Facts) (n : ℕ) → StandsFor day J facts → has_ended day facts n ≡ cycle_ended day n J
ended_facts day J facts n s = (λ i. nat_lt (unwrap_or (taken_stands day J facts n s i) 0) (end_in (s.exact i).cycles (system_named day (sender day n)))) ∙ ended_is day (length facts.cycles) J n s.systems s.legal

open_facts : (s : Sort) (day : Day) (J : History) (facts : Facts) (n : ℕ) → StandsFor day J facts → open_by s day facts n ≡ open_as s day J n
open_facts BatchA day J facts n s = ap (λ now. nat_lt now (settlement_end day n)) (clock_stands day J facts s)
open_facts BatchB day J facts n s = ap (λ now. nat_lt now (settlement_end day n)) (clock_stands day J facts s)
open_facts BatchE day J facts n s = ap (λ now. nat_lt now (settlement_end day n)) (clock_stands day J facts s)
open_facts BatchC day J facts n s = λ i. nat_lt (clock_stands day J facts s i) 86400 && not (ended_facts day J facts n s i)
open_facts Pay day J facts n s = ap (λ now. nat_lt now 86400) (clock_stands day J facts s)
open_facts _ day J facts n s = refl

not_taken : (o : Option ℕ) → not (is_some o) ≡ is_none o
not_taken None = refl
not_taken (Some x) = refl

phase_rows : (day : Day) (J : History) (n : ℕ) → first_case (
    (is_none (taken J n), phases.Untaken)
    ∷ (not (is_accepted J n), phases.Rejected)
    ∷ (is_no_order (sort_of day n), phases.Settled)
    ∷ (is_some (closed J n), phases.Closed)
    ∷ (revoked_as (sort_of day n) day J n, phases.Revoked)
    ∷ (settled_as (sort_of day n) day J n, phases.Settled)
    ∷ []) (first_case (
    (is_a (sort_of day n) && is_some (covered J n), phases.Covered)
    ∷ (is_some (asked J n) && is_some (answered day J n), phases.Answered)
    ∷ (is_some (asked J n), phases.Asking)
    ∷ (some_passes (nat_lt (clock J)) (info_end day n), phases.Information)
    ∷ (some_passes (nat_lt (clock J)) (earliest day n), phases.Waiting)
    ∷ (open_as (sort_of day n) day J n, phases.Open)
    ∷ []) phases.Overdue) ≡ phase day J n
unfolding phase
phase_rows day J n = refl

-- the phase by a stage, row by row
staged_rows : (day : Day) (facts : Facts) (n : ℕ) (u j o x r s c a q : Bool) → phase_at (first_case (
    (u, stages.Untaken) ∷ (j, stages.Rejected) ∷ (o, stages.Settled) ∷ (x, stages.Closed) ∷ (r, stages.Revoked) ∷ (s, stages.Settled) ∷ [])
    (first_case ((c, stages.Covered) ∷ (a, stages.Answered) ∷ (q, stages.Asking) ∷ []) stages.Going)) day facts n
    ≡ first_case (
    (u, phases.Untaken) ∷ (j, phases.Rejected) ∷ (o, phases.Settled) ∷ (x, phases.Closed) ∷ (r, phases.Revoked) ∷ (s, phases.Settled) ∷ [])
    (first_case ((c, phases.Covered) ∷ (a, phases.Answered) ∷ (q, phases.Asking) ∷ []) (going_by day facts n))
staged_rows day facts n true j o x r s c a q = refl
staged_rows day facts n false true o x r s c a q = refl
staged_rows day facts n false false true x r s c a q = refl
staged_rows day facts n false false false true r s c a q = refl
staged_rows day facts n false false false false true s c a q = refl
staged_rows day facts n false false false false false true c a q = refl
staged_rows day facts n false false false false false false true a q = refl
staged_rows day facts n false false false false false false false true q = refl
staged_rows day facts n false false false false false false false false true = refl
staged_rows day facts n false false false false false false false false false = refl

stage_stands : (day : Day) (J : History) (facts : Facts) (n : ℕ) → StandsFor day J facts → stage_in facts.stages n ≡ stage_by day facts n
stage_stands day J facts n s = kept_stage day facts n s.staged absent
  where
    absent : message_at day n ≡ None → place_in (λ own. own.taken) facts.own n ≡ None
    absent e =
        ap (λ (f : Facts). place_in (λ own. own.taken) f.own n) s.exact
        ∙ (ap (λ o. option_map_or (λ (own : Own). own.taken) o None) (numbered_map (own_of J) day.messages n)
        ∙ ap (λ (o : Option Message). option_map_or (λ (own : Own). own.taken) (option_map (λ y. own_of J n) o) None) e)

pub phase_stands : (day : Day) (J : History) (facts : Facts) (n : ℕ) → StandsFor day J facts → phase_by day facts n ≡ phase day J n
phase_stands day J facts n s =
    ap (λ stage. phase_at stage day facts n) (stage_stands day J facts n s)
    ∙ (staged_rows day facts n
    (not (taken_by facts n))
    (not (some_passes is_ok (code_in facts.own n)))
    (is_no_order (sort_of day n))
    (is_some (place_in (λ own. own.closed) facts.own n))
    (revoked_by (sort_of day n) day facts n)
    (settled_by (sort_of day n) day facts n)
    (is_a (sort_of day n) && has_covered facts n)
    (has_asked facts n && is_some (answered_in facts.told n))
    (has_asked facts n)
    ∙ ((λ i. first_case (
    ((ap (λ o. not (is_some o)) (taken_stands day J facts n s) ∙ not_taken (taken J n)) i, phases.Untaken)
    ∷ (not (some_passes is_ok (code_stands day J facts n s i)), phases.Rejected)
    ∷ (is_no_order (sort_of day n), phases.Settled)
    ∷ (is_some (closed_stands day J facts n s i), phases.Closed)
    ∷ (revoked_facts (sort_of day n) day J facts n refl s i, phases.Revoked)
    ∷ (settled_facts (sort_of day n) day J facts n refl s i, phases.Settled)
    ∷ []) (first_case (
    (is_a (sort_of day n) && is_some (covered_stands day J facts n s i), phases.Covered)
    ∷ (is_some (asked_stands day J facts n s i) && is_some (answered_stands day J facts n s i), phases.Answered)
    ∷ (is_some (asked_stands day J facts n s i), phases.Asking)
    ∷ (some_passes (nat_lt (clock_stands day J facts s i)) (info_end day n), phases.Information)
    ∷ (some_passes (nat_lt (clock_stands day J facts s i)) (earliest day n), phases.Waiting)
    ∷ (open_facts (sort_of day n) day J facts n s i, phases.Open)
    ∷ []) phases.Overdue))
    ∙ phase_rows day J n))

-- ---- pending items

next_facts : (day : Day) (J : History) (facts : Facts) (n k : ℕ) → StandsFor day J facts → next_by day facts n k ≡ is_next_of_a day J n k
next_facts day J facts n k s =
    let owed : none_in facts.debits n ≡ is_none (first_unbooked_debit day J n) = ap (λ (f : Facts). none_in f.debits n) s.exact ∙ debit_flags day J n in
    λ i. not (is_some (booked_stands day J facts n k s i)) && (is_debit day n k || is_credit day n k && owed i)

pending_facts : (x : Sort) (day : Day) (J : History) (facts : Facts) (n k : ℕ) → StandsFor day J facts → pending_by x day facts n k (phase_by day facts n) ≡ pending_as x day J n k (phase day J n)
pending_facts Pay day J facts n k s = λ i. is_zero k && is_open (phase_stands day J facts n s i)
pending_facts BatchA day J facts n k s = λ i. is_open (phase_stands day J facts n s i) && next_facts day J facts n k s i || is_covered (phase_stands day J facts n s i) && is_credit day n k && not (is_some (booked_stands day J facts n k s i))
pending_facts BatchB day J facts n k s = λ i. is_zero k && is_open (phase_stands day J facts n s i)
pending_facts BatchC day J facts n k s = λ i. is_some (entry_at day n k) && is_open (phase_stands day J facts n s i) && not (is_some (booked_stands day J facts n k s i))
pending_facts BatchE day J facts n k s = λ i. is_some (entry_at day n k) && is_open (phase_stands day J facts n s i) && not (is_some (booked_stands day J facts n k s i)) && not (is_some (revoked_stands day J facts n k s i))
pending_facts _ day J facts n k s = refl

pub pending_stands : (day : Day) (J : History) (facts : Facts) (x : Item) → StandsFor day J facts → pending_by (sort_of day x.msg) day facts x.msg x.entry (phase_by day facts x.msg) ≡ is_pending day J x
unfolding is_pending
pending_stands day J facts x s = pending_facts (sort_of day x.msg) day J facts x.msg x.entry s

-- ---- counts, and the last debit

pub last_stands : (day : Day) (J : History) (facts : Facts) (n : ℕ) → StandsFor day J facts → last_in facts.last n ≡ last_debit_booked day J n
last_stands day J facts n s = ap (λ (f : Facts). last_in f.last n) s.exact
    ∙ kept_of (last_debit_booked day J) day n (λ last. last) 0 (last_debit_booked day J n) (λ h. refl)
    (λ none. sym (ap (λ es. fold (λ last k. max last (unwrap_or (booked J n k) 0)) 0 (filter (is_debit day n) (range_with_len 1 (length es)))) (no_entries day n none)))

count_flags : (f : ℕ → Bool) (xs : List ℕ) → count_by (λ flag. flag) (map f xs) ≡ count_by f xs
count_flags f [] = refl
count_flags f (x ∷ xs) =
    let here : count_by (λ flag. flag) (f x ∷ map f xs) ≡ (if f x then 1 else 0) + count_by (λ flag. flag) (map f xs) = sum_by-cons (λ (b : Bool). if b then 1 else 0) (f x) (map f xs) in
    let more : count_by f (x ∷ xs) ≡ (if f x then 1 else 0) + count_by f xs = sum_by-cons (λ k. if f k then 1 else 0) x xs in
    here ∙ ap (λ c. (if f x then 1 else 0) + c) (count_flags f xs) ∙ sym more

pub debits_stand : (day : Day) (J : History) (facts : Facts) (n : ℕ) → StandsFor day J facts → count_in facts.debits n ≡ count_by (owes day J n) (item_numbers day n)
debits_stand day J facts n s = ap (λ (f : Facts). count_in f.debits n) s.exact
    ∙ kept_of (debits_row day J) day n (λ row. count_by (λ flag. flag) row) 0 (count_by (owes day J n) (item_numbers day n)) (λ h. count_flags (owes day J n) (item_numbers day n))
    (λ none. sym (ap (λ es. count_by (owes day J n) (range_with_len 0 (suc (length es)))) (no_entries day n none)))

pub waiting_stands : (day : Day) (J : History) (facts : Facts) (n : ℕ) → StandsFor day J facts → count_in facts.waiting n ≡ count_by (waits (sort_of day n) day J J n) (item_numbers day n)
waiting_stands day J facts n s = ap (λ (f : Facts). count_in f.waiting n) s.exact
    ∙ kept_of (waiting_row day J J) day n (λ row. count_by (λ flag. flag) row) 0 (count_by (waits (sort_of day n) day J J n) (item_numbers day n)) (λ h. count_flags (waits (sort_of day n) day J J n) (item_numbers day n))
    (λ none. sym (ap (λ es. count_by (waits (sort_of day n) day J J n) (range_with_len 0 (suc (length es)))) (no_entries day n none) ∙ ap (λ x. count_by (waits x day J J n) (0 ∷ [])) (sort_absent day n none)))

-- ---- the line that made an item active

start_time : (early info : Option ℕ) → is_time_or_none early ≡ true → is_time_or_none info ≡ true → is_time_or_none (option_or early info) ≡ true
start_time None info h k = k
start_time (Some t) info h k = h

body_times : (b : Body) → is_sound_body b ≡ true → (is_time_or_none (info_in b) ≡ true) × (is_time_or_none (earliest_in b) ≡ true)
body_times (bodies.Batch p info early till count sum entries) h =
    and_parts (is_time_or_none info) (is_time_or_none early)
    (and_parts (is_time_or_none info && is_time_or_none early) (is_time_or_none till) (and_parts _ _ (and_parts _ _ (and_parts _ (list_all (λ e. is_amount e.amount) entries) h).0).0).0).0
body_times _ h = (refl, refl)

start_within : (day : Day) (n : ℕ) → is_sound day ≡ true → is_time_or_none (settlement_start day n) ≡ true
start_within day n sound = here (message_at day n) (λ m e. sound_message day n m sound e)
  where
    here : (o : Option Message) → ((m : Message) → o ≡ Some m → is_sound_body m.body ≡ true) →
        is_time_or_none (option_or (option_map_or (λ (m : Message). earliest_in m.body) o None) (option_map_or (λ (m : Message). info_in m.body) o None)) ≡ true
    here None h = refl
    here (Some m) h = let t = body_times m.body (h m refl) in start_time (earliest_in m.body) (info_in m.body) t.1 t.0

opening_is : (J : History) (info : ℕ) → info ≤ 86400 → opening_in (openings_of J) info ≡ unwrap_or (place_of (comes_to info) J) 0
unfolding seconds
opening_is J info l = ap (λ o. unwrap_or o 0) (at_in (λ t. place_of (comes_to t) J) 0 seconds info info (omega arith) (omega (arith, l)))

opened_facts : (day : Day) (J : History) (facts : Facts) (n : ℕ) (info : Option ℕ) → is_time_or_none info ≡ true → StandsFor day J facts → opened_by facts n info ≡ opened_at day J n info
opened_facts day J facts n None h s = ap (λ o. unwrap_or o 0) (taken_stands day J facts n s)
opened_facts day J facts n (Some info) h s = ap (λ (f : Facts). opening_in f.openings info) s.exact ∙ opening_is J info (leb-true info 86400 h)

pub opened_stands : (day : Day) (J : History) (facts : Facts) (n : ℕ) → is_sound day ≡ true → StandsFor day J facts → opened_by facts n (settlement_start day n) ≡ opened_at day J n (settlement_start day n)
opened_stands day J facts n sound s = opened_facts day J facts n (settlement_start day n) (start_within day n sound) s

pub active_stands : (day : Day) (J : History) (facts : Facts) (x : Item) → is_sound day ≡ true → StandsFor day J facts → active_by day facts x.msg x.entry ≡ active_place day J x
active_stands day J facts x sound s = λ i. if is_a (sort_of day x.msg) && is_credit day x.msg x.entry then unwrap_or (covered_stands day J facts x.msg s i) (last_stands day J facts x.msg s i) else opened_stands day J facts x.msg sound s i
