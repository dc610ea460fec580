-- How many moves a legal history has at most.
use Rattle.std.proofs.Common.{◌≡◌, ℕ, zero, suc, ◌+◌, ◌-◌, ◌*◌, ◌<◌, ◌≤◌, inl, inr, List, [], ◌∷◌, ◌++◌, length, Bool, true, false, ◌&&◌, ◌||◌, not, Option, Some, None, is_some, is_none, refl, sym, ap, subst, arith, cond}
use Rattle.std.specs.Prelude.{nat_lt, nat_eq, map, filter}
use Rattle.std.specs.List.{enumerate_from}
use Rattle.std.proofs.lemmas.Bool.{and_parts, ltb-true, ne_eqb, or_from, and_from, or_right, or_left}
use Rattle.std.proofs.lemmas.List.{length-append, length-map}
use Rattle.batch_records.specs.DayRecord.{Day}
use Rattle.batch_records.specs.declared.day.Entry.{Entry}
use Rattle.batch_records.specs.Sound.{is_sound}
use Rattle.commit_journal.specs.declared.line.Move.{Move}
use Rattle.commit_journal.specs.declared.line.Code.{Code}
use Rattle.commit_journal.specs.declared.line.Code.TheVariants as line_codes
use Rattle.commit_journal.specs.declared.line.Want.{Want}
use Rattle.commit_journal.specs.declared.line.Want.TheVariants as wants
use Rattle.commit_journal.specs.Line.{Line, History}
use Rattle.machine.specs.declared.answers.Phase.{Phase}
use Rattle.machine.specs.Words.{some_passes}
use Rattle.machine.specs.Records.Setup.{is_sub_account}
use Rattle.machine.specs.Records.Messages.{Sort, Pay, BatchA, BatchB, BatchC, BatchD, BatchE, Liquidity, sort_of, is_message, is_a, is_b, is_a_or_b, entries, part, transfer, move_of, is_debit_entry, debit_entries, credit_entries, technical_account}
use Rattle.machine.specs.Telling.History.{clock, is_ended, taken, settled_whole, closed, covered, is_in_of, is_book_of, is_all_of, is_cover_of, is_closing_of}
use Rattle.machine.specs.Telling.Balances.{balance}
use Rattle.machine.specs.Stages.Phases.{phase, is_open, is_overdue, is_answered, is_booked, settled_as}
use Rattle.machine.specs.Telling.Facts.{is_reached, untaken_earlier}
use Rattle.machine.specs.Stages.Intake.{intake_code, intake_moves, moves_as, transfer_moves, afforded_in_order}
use Rattle.machine.specs.Stages.Pending.{is_pending, pending_as}
use Rattle.machine.specs.Making.Lines.{may, made, may_lapse, refusal, reversal, cover_moves, covered_debit, cover_of, return_of, fund_suffices, moves_of_part, is_ready}
use Rattle.machine.specs.Legal.{IsLegal}
use Rattle.machine.specs.Orders.Bounds.{most_moves, moved}
use Rattle.settlement_laws.proofs.Base.Induction.{legal_induction}
use Rattle.settlement_laws.proofs.Base.Sums.{bit, bit_bound, sum_from, sum-le, sum-rises, sum-bound, sum-at_most}
use Rattle.settlement_laws.proofs.Base.Places.{place-grows, same-number, same-numbers}
use Rattle.settlement_laws.proofs.Base.PhaseLaws.{is_going, overdue_going, answered_going, asking_going, open_unsettled}
use Rattle.settlement_laws.proofs.Base.PhaseFacts.{going_facts, overdue_facts, answered_facts, asking_facts}
use Rattle.settlement_laws.proofs.DayEnd.Stops.{message_is}
use Rattle.settlement_laws.proofs.DayEnd.SubAccountsAtMidnight.{midnight, code_is}
use Rattle.settlement_laws.proofs.DayEnd.LineBound.{Bookable, bookable, by_entry, part_within, uncovered, refused_row, is_not, bit-rises, Leaves, empty_stays, empty_sub, is_empty_sub, emptied, account_within, booked_entry, both-grows, entries_sum, lapses_message, a_or_b_message, b_message}
use Rattle.settlement_laws.proofs.Base.Counting.{stands_now}

-- ---- lengths

filter_length : {X : Type 0} (p : X → Bool) (xs : List X) → length (filter p xs) ≤ length xs
filter_length p [] = omega arith
filter_length p (x ∷ xs) = go (p x) (filter_length p xs)
  where
    go : (b : Bool) → length (filter p xs) ≤ length xs → length (cond b (x ∷ filter p xs) (filter p xs)) ≤ suc (length xs)
    go true h = omega (arith, h)
    go false h = omega (arith, h)

enumerate_length : {X : Type 0} (s : ℕ) (xs : List X) → length (enumerate_from s xs) ≡ length xs
enumerate_length s [] = refl
enumerate_length s (x ∷ xs) = ap suc (enumerate_length (s + 1) xs)

halves_length : {X : Type 0} (p : X → Bool) (xs : List X) → length (filter p xs) + length (filter (λ x. not (p x)) xs) ≡ length xs
halves_length p [] = refl
halves_length p (x ∷ xs) = go (p x) (halves_length p xs)
  where
    go : (b : Bool) → length (filter p xs) + length (filter (λ x. not (p x)) xs) ≡ length xs → length (cond b (x ∷ filter p xs) (filter p xs)) + length (cond (not b) (x ∷ filter (λ x. not (p x)) xs) (filter (λ x. not (p x)) xs)) ≡ suc (length xs)
    go true h = omega (arith, h)
    go false h = omega (arith, h)

counted_length : (day : Day) (f : Entry → Move) (p : ℕ × Entry → Bool) (es : List Entry) → length (map f (map (λ (x : ℕ × Entry). x.1) (filter p (enumerate_from 1 es)))) ≤ length es
counted_length day f p es =
    let a : length (map f (map (λ (x : ℕ × Entry). x.1) (filter p (enumerate_from 1 es)))) ≡ length (map (λ (x : ℕ × Entry). x.1) (filter p (enumerate_from 1 es))) = length-map _ f in
    let b : length (map (λ (x : ℕ × Entry). x.1) (filter p (enumerate_from 1 es))) ≡ length (filter p (enumerate_from 1 es)) = length-map _ (λ (x : ℕ × Entry). x.1) in
    let c : length (filter p (enumerate_from 1 es)) ≤ length (enumerate_from 1 es) = filter_length p _ in
    let d : length (enumerate_from 1 es) ≡ length es = enumerate_length 1 es in
    omega arith

pub turn_length : (available : ℕ) (es : List Entry) → length (afforded_in_order available es) ≤ length es
turn_length available [] = omega arith
turn_length available (e ∷ es) = go (nat_lt available e.amount) (turn_length available es) (turn_length (available - e.amount) es)
  where
    go : (b : Bool) → length (afforded_in_order available es) ≤ length es → length (afforded_in_order (available - e.amount) es) ≤ length es → length {A = Entry} (elim b [ true ↦ afforded_in_order available es | false ↦ e ∷ afforded_in_order (available - e.amount) es ]) ≤ suc (length es)
    go true h k = omega (arith, h)
    go false h k = omega (arith, k)

pub whole_length : (day : Day) (n : ℕ) (f g : Entry → Move) → length (map f (debit_entries day n) ++ map g (credit_entries day n)) ≡ length (entries day n)
whole_length day n f g =
    let a : length (map f (debit_entries day n) ++ map g (credit_entries day n)) ≡ length (map f (debit_entries day n)) + length (map g (credit_entries day n)) = length-append _ _ in
    let b : length (map f (debit_entries day n)) ≡ length (debit_entries day n) = length-map _ f in
    let c : length (map g (credit_entries day n)) ≡ length (credit_entries day n) = length-map _ g in
    let d : length (debit_entries day n) + length (credit_entries day n) ≡ length (entries day n) = halves_length (is_debit_entry day n) (entries day n) in
    omega arith

-- ---- the moves that a message has had

abbrev pub all_if : Bool → ℕ → ℕ
all_if true e = e
all_if false e = 0

abbrev entry_count : Day → ℕ → ℕ
entry_count day n = length (entries day n)

-- at its intake, or by its bookings
abbrev pub had_first : Sort → Day → History → ℕ → ℕ
had_first Pay day J n = bit (is_booked J n 0)
had_first Liquidity day J n = bit (is_some (taken J n))
had_first BatchA day J n = sum_from (booked_entry J n) 1 (length (entries day n))
had_first BatchB day J n = all_if (is_some (settled_whole J n)) (length (entries day n))
had_first BatchC day J n = sum_from (booked_entry J n) 1 (length (entries day n))
had_first BatchD day J n = all_if (is_some (taken J n)) (length (entries day n))
had_first BatchE day J n = sum_from (booked_entry J n) 1 (length (entries day n))
had_first _ day J n = 0

abbrev pub is_turned : Day → History → ℕ → Bool
is_turned day J n = is_some (closed J n) || is_a_or_b (sort_of day n) && is_some (covered J n)

-- by its last turn
abbrev pub had_last : Day → History → ℕ → ℕ
had_last day J n = all_if (is_turned day J n) (length (entries day n))

abbrev pub had : Day → History → ℕ → ℕ
had day J n = had_first (sort_of day n) day J n + had_last day J n

abbrev pub had_by_all : Day → History → ℕ
had_by_all day J = sum_from (had day J) 1 (length day.messages) + sum_from (empty_sub day J) 1 (length day.accounts)

all-grows : (b b' : Bool) (e : ℕ) → bit b ≤ bit b' → all_if b e ≤ all_if b' e
all-grows true true e h = omega arith
all-grows true false e h = absurd (omega (arith, h))
all-grows false b' e h = omega arith

or-grows : (a b a' b' : Bool) → bit a ≤ bit a' → bit b ≤ bit b' → bit (a || b) ≤ bit (a' || b')
or-grows true b true b' h k = omega arith
or-grows true b false b' h k = absurd (omega (arith, h))
or-grows false b true b' h k = bit_bound b
or-grows false b false b' h k = k

first-grows : (s : Sort) (day : Day) (l : Line) (J : History) (n : ℕ) → had_first s day J n ≤ had_first s day (l ∷ J) n
first-grows Pay day l J n = place-grows (is_book_of n 0) l J
first-grows Liquidity day l J n = place-grows (is_in_of n) l J
first-grows BatchA day l J n = sum-le (booked_entry J n) (booked_entry (l ∷ J) n) 1 (length (entries day n)) (λ k. place-grows (is_book_of n k) l J)
first-grows BatchB day l J n = all-grows (is_some (settled_whole J n)) (is_some (settled_whole (l ∷ J) n)) (length (entries day n)) (place-grows (is_all_of n) l J)
first-grows BatchC day l J n = sum-le (booked_entry J n) (booked_entry (l ∷ J) n) 1 (length (entries day n)) (λ k. place-grows (is_book_of n k) l J)
first-grows BatchD day l J n = all-grows (is_some (taken J n)) (is_some (taken (l ∷ J) n)) (length (entries day n)) (place-grows (is_in_of n) l J)
first-grows BatchE day l J n = sum-le (booked_entry J n) (booked_entry (l ∷ J) n) 1 (length (entries day n)) (λ k. place-grows (is_book_of n k) l J)
first-grows _ day l J n = omega arith

last-grows : (day : Day) (l : Line) (J : History) (n : ℕ) → had_last day J n ≤ had_last day (l ∷ J) n
last-grows day l J n =
    all-grows (is_turned day J n) (is_turned day (l ∷ J) n) (length (entries day n)) (or-grows (is_some (closed J n)) (is_a_or_b (sort_of day n) && is_some (covered J n)) (is_some (closed (l ∷ J) n)) (is_a_or_b (sort_of day n) && is_some (covered (l ∷ J) n)) (place-grows (is_closing_of n) l J) (both-grows (is_a_or_b (sort_of day n)) (is_some (covered J n)) (is_some (covered (l ∷ J) n)) (place-grows (is_cover_of n) l J)))

had-grows : (day : Day) (l : Line) (J : History) (n : ℕ) → had day J n ≤ had day (l ∷ J) n
had-grows day l J n = omega (arith, first-grows (sort_of day n) day l J n, last-grows day l J n)

all-bound : (b : Bool) (e : ℕ) → all_if b e ≤ e
all-bound true e = omega arith
all-bound false e = omega arith

first-bound : (s : Sort) (day : Day) (J : History) (n : ℕ) → had_first s day J n ≤ 1 + length (entries day n)
first-bound Pay day J n = omega (arith, bit_bound (is_booked J n 0))
first-bound Liquidity day J n = omega (arith, bit_bound (is_some (taken J n)))
first-bound BatchA day J n = omega (arith, sum-at_most (booked_entry J n) 1 1 (length (entries day n)) (λ k. bit_bound (is_booked J n k)))
first-bound BatchB day J n = omega (arith, all-bound (is_some (settled_whole J n)) (length (entries day n)))
first-bound BatchC day J n = omega (arith, sum-at_most (booked_entry J n) 1 1 (length (entries day n)) (λ k. bit_bound (is_booked J n k)))
first-bound BatchD day J n = omega (arith, all-bound (is_some (taken J n)) (length (entries day n)))
first-bound BatchE day J n = omega (arith, sum-at_most (booked_entry J n) 1 1 (length (entries day n)) (λ k. bit_bound (is_booked J n k)))
first-bound _ day J n = omega arith

had-bound : (day : Day) (J : History) (n : ℕ) → had day J n ≤ 1 + 2 * length (entries day n)
had-bound day J n = omega (arith, first-bound (sort_of day n) day J n, all-bound (is_turned day J n) (length (entries day n)))

-- ---- each want

message_moves : (day : Day) (l : Line) (J : History) (n c : ℕ) → Leaves day J l → is_message (sort_of day n) ≡ true → had day J n + c ≤ had day (l ∷ J) n → c + had_by_all day J ≤ had_by_all day (l ∷ J)
message_moves day l J n c leaves m rise =
    let at = message_is day n m in
    let num : n ≡ suc at.place = at.number in
    let within : at.place < length day.messages = at.within in
    let sums : sum_from (had day J) 1 (length day.messages) + c ≤ sum_from (had day (l ∷ J)) 1 (length day.messages) = sum-rises (had day J) (had day (l ∷ J)) c 1 (length day.messages) n (had-grows day l J) (omega (arith, num)) (omega (arith, num, within)) rise in
    let empties : sum_from (empty_sub day J) 1 (length day.accounts) ≤ sum_from (empty_sub day (l ∷ J)) 1 (length day.accounts) = sum-le (empty_sub day J) (empty_sub day (l ∷ J)) 1 (length day.accounts) (empty_stays day J l leaves) in
    omega (arith, sums, empties)

all-rises : (b b' : Bool) (c e : ℕ) → c ≤ e → b ≡ false → b' ≡ true → all_if b e + c ≤ all_if b' e
all-rises false true c e l f g = omega (arith, l)
all-rises true b' c e l f g = cc
all-rises false false c e l f g = cc

pub one_transfer : (day : Day) (o : Option Entry) → length (transfer_moves day o) ≤ 1
one_transfer day None = omega arith
one_transfer day (Some e) = omega arith

pub one_part : (day : Day) (o : Option Entry) → length (moves_of_part day o) ≤ 1
one_part day None = omega arith
one_part day (Some e) = omega arith

fewer_moves : (c : Code) (day : Day) (J : History) (n : ℕ) → length (intake_moves day J n c) ≤ length (moves_as (sort_of day n) day J n)
fewer_moves line_codes.Ok day J n = omega arith
fewer_moves _ day J n = omega arith

taken_moves : (s : Sort) (day : Day) (l : Line) (J : History) (n : ℕ) → is_some (taken J n) ≡ false → is_in_of n l ≡ true → had_first s day J n + length (moves_as s day J n) ≤ had_first s day (l ∷ J) n
taken_moves Liquidity day l J n e f = omega (arith, one_transfer day (transfer day n), bit-rises (is_some (taken J n)) (is_some (taken (l ∷ J) n)) e (stands_now (is_in_of n) l J f))
taken_moves BatchD day l J n e f =
    let a : length (map (move_of day) (afforded_in_order (balance day J (technical_account day n)) (entries day n))) ≡ length (afforded_in_order (balance day J (technical_account day n)) (entries day n)) = length-map _ (move_of day) in
    let b : length (afforded_in_order (balance day J (technical_account day n)) (entries day n)) ≤ length (entries day n) = turn_length (balance day J (technical_account day n)) (entries day n) in
    all-rises (is_some (taken J n)) (is_some (taken (l ∷ J) n)) (length (moves_as BatchD day J n)) (length (entries day n)) (omega (arith, a, b)) e (stands_now (is_in_of n) l J f)
taken_moves Pay day l J n e f = omega (arith, first-grows Pay day l J n)
taken_moves BatchA day l J n e f = omega (arith, first-grows BatchA day l J n)
taken_moves BatchB day l J n e f = omega (arith, first-grows BatchB day l J n)
taken_moves BatchC day l J n e f = omega (arith, first-grows BatchC day l J n)
taken_moves BatchE day l J n e f = omega (arith, first-grows BatchE day l J n)
taken_moves _ day l J n e f = omega arith

entry_had : (s : Sort) (day : Day) (l : Line) (J : History) (n k : ℕ) → by_entry s ≡ true → 1 ≤ k → k < 1 + length (entries day n) → is_booked J n k ≡ false → is_book_of n k l ≡ true → had_first s day J n + 1 ≤ had_first s day (l ∷ J) n
entry_had s day l J n k b low high e f = here s b (sum-rises (booked_entry J n) (booked_entry (l ∷ J) n) 1 1 (length (entries day n)) k (λ i. place-grows (is_book_of n i) l J) low high (bit-rises (is_booked J n k) (is_booked (l ∷ J) n k) e (stands_now (is_book_of n k) l J f)))
  where
    here : (s : Sort) → by_entry s ≡ true → sum_from (booked_entry J n) 1 (length (entries day n)) + 1 ≤ sum_from (booked_entry (l ∷ J) n) 1 (length (entries day n)) → had_first s day J n + 1 ≤ had_first s day (l ∷ J) n
    here BatchA b h = h
    here BatchC b h = h
    here BatchE b h = h
    here _ b h = cc

booked_had : (day : Day) (J : History) (n k : ℕ) (l : Line) → is_book_of n k l ≡ true → Bookable (sort_of day n) day J n k → (1 ≤ k → k < 1 + length (entries day n)) → had_first (sort_of day n) day J n + 1 ≤ had_first (sort_of day n) day (l ∷ J) n
booked_had day J n k l is h within =
    elim h.whole_or_entry [
      | inl z ↦ subst (λ s. had_first s day J n + 1 ≤ had_first s day (l ∷ J) n) (sym z.1) (bit-rises (is_booked J n 0) (is_booked (l ∷ J) n 0) (subst (λ i. is_booked J n i ≡ false) z.0 h.unbooked) (subst (λ i. is_booked (l ∷ J) n i ≡ true) z.0 (stands_now (is_book_of n k) l J is)))
      | inr low ↦ entry_had (sort_of day n) day l J n k low.1 low.0 (within low.0) h.unbooked is
    ]

turned_had : (day : Day) (l : Line) (J : History) (n c : ℕ) → c ≤ length (entries day n) → is_some (closed J n) ≡ false → (is_a_or_b (sort_of day n) && is_some (covered J n)) ≡ false → is_turned day (l ∷ J) n ≡ true → had day J n + c ≤ had day (l ∷ J) n
turned_had day l J n c few e f g = omega (arith, first-grows (sort_of day n) day l J n, all-rises (is_turned day J n) (is_turned day (l ∷ J) n) c (length (entries day n)) few (or_from _ _ e f) g)

pub reversal_length : (s : Sort) (day : Day) (J : History) (n : ℕ) → length (reversal s day J n) ≤ length (entries day n)
reversal_length BatchA day J n = counted_length day (return_of day n) _ (entries day n)
reversal_length _ day J n = omega arith

pub cover_length : (s : Sort) (day : Day) (J : History) (n : ℕ) → length (cover_moves s day J n) ≤ length (entries day n)
cover_length BatchA day J n = counted_length day (cover_of day n) _ (entries day n)
cover_length BatchB day J n = let e = whole_length day n (covered_debit day J n) (move_of day) in omega (arith, e)
cover_length _ day J n = omega arith

closing_had : (day : Day) (l : Line) (J : History) (n : ℕ) → is_going (phase day J n) ≡ true → (is_a (sort_of day n) && is_some (covered J n)) ≡ false → is_closing_of n l ≡ true → had day J n + length (reversal (sort_of day n) day J n) ≤ had day (l ∷ J) n
closing_had day l J n g u f =
    let facts = going_facts day J n g in
    turned_had day l J n _ (reversal_length (sort_of day n) day J n) facts.closed_no (uncovered (sort_of day n) day J n u facts.settled_no) (or_left (is_some (closed (l ∷ J) n)) _ (stands_now (is_closing_of n) l J f))

whole_had : (s : Sort) (day : Day) (l : Line) (J : History) (n : ℕ) → is_b s ≡ true → settled_as s day J n ≡ false → is_all_of n l ≡ true → had_first s day J n + length (entries day n) ≤ had_first s day (l ∷ J) n
whole_had BatchB day l J n b h f = all-rises (is_some (settled_whole J n)) (is_some (settled_whole (l ∷ J) n)) (length (entries day n)) (length (entries day n)) (omega arith) (first_of_or _ _ h) (stands_now (is_all_of n) l J f)
  where
    first_of_or : (a b : Bool) → (a || b) ≡ false → a ≡ false
    first_of_or true b h = cc
    first_of_or false b h = refl
whole_had _ day l J n b h f = cc

moves_spend : (day : Day) (J : History) (w : Want) → is_sound day ≡ true → IsLegal day J → is_ended J ≡ false → may day J w ≡ true → length (made day J w).moves + had_by_all day J ≤ had_by_all day (made day J w ∷ J)
unfolding clock is_pending
moves_spend day J (wants.In n) sound legal e h =
    let a = and_parts _ (is_none (untaken_earlier day J n)) h in
    let b = and_parts _ (is_reached day J n) a.0 in
    let c = and_parts (is_message (sort_of day n)) (is_none (taken J n)) b.0 in
    let l = made day J (wants.In n) in
    let few = fewer_moves (intake_code day J n) day J n in
    let rise = taken_moves (sort_of day n) day l J n (is_not (taken J n) c.1) (same-number n) in
    message_moves day l J n (length l.moves) (record { same_clock = refl; not_to_subs = λ late. midnight day J (wants.In n) sound legal late h }) c.0 (omega (arith, few, rise, last-grows day l J n))
moves_spend day J (wants.Book n k) sound legal e h =
    let a = and_parts _ (some_passes _ (part day n k)) h in
    let b = and_parts (pending_as (sort_of day n) day J n k (phase day J n)) (not (is_b (sort_of day n))) a.0 in
    let can = bookable (sort_of day n) day J n k (phase day J n) (open_unsettled day J n) b.1 b.0 in
    let l = made day J (wants.Book n k) in
    let rise = booked_had day J n k l (same-numbers n k) can (λ low. part_within day n k _ low a.1) in
    message_moves day l J n (length l.moves) (record { same_clock = refl; not_to_subs = λ late. midnight day J (wants.Book n k) sound legal late h }) can.message (omega (arith, one_part day (part day n k), rise, last-grows day l J n))
moves_spend day J (wants.All n) sound legal e h =
    let b = and_parts (is_b (sort_of day n)) (pending_as (sort_of day n) day J n 0 (phase day J n)) (and_parts _ _ (and_parts _ _ h).0).0 in
    let l = made day J (wants.All n) in
    let same = whole_length day n (move_of day) (move_of day) in
    let rise = whole_had (sort_of day n) day l J n b.0 (open_unsettled day J n (b_open (sort_of day n) (phase day J n) b.0 b.1)) (same-number n) in
    message_moves day l J n (length l.moves) (record { same_clock = refl; not_to_subs = λ late. midnight day J (wants.All n) sound legal late h }) (b_message (sort_of day n) b.0) (omega (arith, same, rise, last-grows day l J n))
  where
    b_open : (s : Sort) (p : Phase) → is_b s ≡ true → pending_as s day J n 0 p ≡ true → is_open p ≡ true
    b_open BatchB p b h = h
    b_open _ p b h = cc
moves_spend day J wants.Time sound legal e h =
    let l = made day J wants.Time in
    let early : clock J < 86400 = ltb-true _ _ (and_parts (nat_lt (clock J) 86400) _ (and_parts _ (not (is_ready day J)) h).0).0 in
    let sums = sum-le (had day J) (had day (l ∷ J)) 1 (length day.messages) (had-grows day l J) in
    let empties : sum_from (empty_sub day J) 1 (length day.accounts) ≤ sum_from (empty_sub day (l ∷ J)) 1 (length day.accounts) = sum-le (empty_sub day J) (empty_sub day (l ∷ J)) 1 (length day.accounts) (λ a. none_yet (nat_eq (clock J) 86400) (is_sub_account day a) _ _ (ne_eqb _ _ (λ same. omega (arith, same, early)))) in
    omega (arith, sums, empties)
  where
    none_yet : (b c d x : Bool) → b ≡ false → bit (b && c && d) ≤ bit x
    none_yet false c d x e = omega arith
    none_yet true c d x e = cc
moves_spend day J (wants.Expire n) sound legal e h =
    let b = and_parts (may_lapse (sort_of day n)) (is_overdue (phase day J n)) (and_parts _ _ h).0 in
    message_moves day _ J n _ (record { same_clock = refl; not_to_subs = λ late. midnight day J (wants.Expire n) sound legal late h }) (lapses_message (sort_of day n) b.0)
    (closing_had day (made day J (wants.Expire n)) J n (overdue_going (phase day J n) b.1) (overdue_facts day J n b.1).0 (same-number n))
moves_spend day J (wants.Ask n) sound legal e h =
    let b = and_parts (is_a_or_b (sort_of day n)) (is_overdue (phase day J n)) (and_parts _ _ (and_parts _ _ h).0).0 in
    let l = made day J (wants.Ask n) in
    message_moves day l J n 0 (record { same_clock = refl; not_to_subs = λ late. tt }) (a_or_b_message (sort_of day n) b.0) (omega (arith, had-grows day l J n))
moves_spend day J (wants.Cover n) sound legal e h =
    let b = and_parts (is_a_or_b (sort_of day n)) (is_answered (phase day J n)) (and_parts _ _ (and_parts _ _ h).0).0 in
    let facts = going_facts day J n (answered_going (phase day J n) b.1) in
    let l = made day J (wants.Cover n) in
    message_moves day l J n _ (record { same_clock = refl; not_to_subs = λ late. midnight day J (wants.Cover n) sound legal late h }) (a_or_b_message (sort_of day n) b.0)
    (turned_had day l J n _ (cover_length (sort_of day n) day J n) facts.closed_no (uncovered (sort_of day n) day J n (answered_facts day J n b.1).0 facts.settled_no) (or_right (is_some (closed (l ∷ J) n)) _ (and_from _ _ b.0 (stands_now (is_cover_of n) l J (same-number n)))))
moves_spend day J (wants.Refuse n) sound legal e h =
    let c = code_is (refusal day J n) h in
    let r = refused_row (is_a_or_b (sort_of day n)) (phase day J n) _ (fund_suffices day J n) _ _ _ _ c.0 c.1 in
    let l = made day J (wants.Refuse n) in
    message_moves day l J n _ (record { same_clock = refl; not_to_subs = λ late. midnight day J (wants.Refuse n) sound legal late h }) (a_or_b_message (sort_of day n) r.0)
    (elim r.1 [
      | inl x ↦ closing_had day l J n (answered_going (phase day J n) x) (answered_facts day J n x).0 (same-number n)
      | inr x ↦ closing_had day l J n (asking_going (phase day J n) x) (asking_facts day J n x).0 (same-number n)
    ])
moves_spend day J (wants.Sweep a) sound legal e h =
    let l = made day J (wants.Sweep a) in
    let leaves : Leaves day J l = record { same_clock = refl; not_to_subs = λ late. midnight day J (wants.Sweep a) sound legal late h } in
    let sums = sum-le (had day J) (had day (l ∷ J)) 1 (length day.messages) (had-grows day l J) in
    let sub = (and_parts (is_sub_account day a) _ (and_parts _ _ h).0).0 in
    let at = account_within day a sub in
    let now = emptied day J a h in
    let empties : sum_from (empty_sub day J) 1 (length day.accounts) + 1 ≤ sum_from (empty_sub day (l ∷ J)) 1 (length day.accounts) = sum-rises (empty_sub day J) (empty_sub day (l ∷ J)) 1 1 (length day.accounts) a (empty_stays day J l leaves) at.0 at.1 (bit-rises (is_empty_sub day J a) (is_empty_sub day (l ∷ J) a) now.0 now.1) in
    omega (arith, sums, empties)
moves_spend day J wants.End sound legal e h =
    let l = made day J wants.End in
    let leaves : Leaves day J l = record { same_clock = refl; not_to_subs = λ late. tt } in
    let sums = sum-le (had day J) (had day (l ∷ J)) 1 (length day.messages) (had-grows day l J) in
    let empties = sum-le (empty_sub day J) (empty_sub day (l ∷ J)) 1 (length day.accounts) (empty_stays day J l leaves) in
    omega (arith, sums, empties)

pub moved-had : (day : Day) → is_sound day ≡ true → (J : History) → IsLegal day J → moved J ≤ had_by_all day J
moved-had day sound =
    legal_induction day (λ J. moved J ≤ had_by_all day J) (omega arith) (λ J w legal before e h. omega (arith, before, moves_spend day J w sound legal e h))

-- a legal history has no more moves than the day's bound
pub moved-bound : (day : Day) → is_sound day ≡ true → (J : History) → IsLegal day J → moved J ≤ most_moves day
moved-bound day sound J legal =
    let a = moved-had day sound J legal in
    let b : sum_from (had day J) 1 (length day.messages) ≤ 1 * length day.messages + sum_from (λ n. 2 * length (entries day n)) 1 (length day.messages) = sum-bound (had day J) (λ n. 2 * length (entries day n)) 1 1 (length day.messages) (had-bound day J) in
    let c = entries_sum day in
    let t : sum_from (λ n. 2 * length (entries day n)) 1 (length day.messages) ≡ 2 * sum_from (λ n. length (entries day n)) 1 (length day.messages) = twice (λ n. length (entries day n)) 1 (length day.messages) in
    let d : sum_from (empty_sub day J) 1 (length day.accounts) ≤ 1 * length day.accounts = sum-at_most (empty_sub day J) 1 1 (length day.accounts) (λ k. bit_bound (is_empty_sub day J k)) in
    omega (arith, a, b, c, t, d)
  where
    twice : (f : ℕ → ℕ) (s n : ℕ) → sum_from (λ k. 2 * f k) s n ≡ 2 * sum_from f s n
    twice f s zero = refl
    twice f s (suc n) = let k : sum_from (λ k. 2 * f k) (suc s) n ≡ 2 * sum_from f (suc s) n = twice f (suc s) n in omega arith
