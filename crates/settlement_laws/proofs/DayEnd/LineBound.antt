-- How many lines a legal history has at most: each line spends one of what the day has.
use Rattle.std.proofs.Common.{◌⊎◌, inl, inr, ◌≡◌, ℕ, zero, suc, ◌+◌, ◌*◌, ◌<◌, ◌≤◌, [], ◌∷◌, length, Bool, true, false, ◌&&◌, ◌||◌, not, Option, Some, None, is_some, is_none, refl, ap, ◌∙◌, subst, arith}
use Rattle.std.specs.Prelude.{if◌then◌else◌, nat_lt, nat_eq, slice_get}
use Rattle.std.proofs.lemmas.Bool.{and_parts, ltb-true, ltb-false, eqb-true, le-ltb, ne_eqb, and_from, not-true, or_left, or_right}
use Rattle.std.proofs.lemmas.Grind.{common_steps}
use Rattle.std.specs.Option.{option_map_or}
use Rattle.std.proofs.lemmas.Option.{slice_get_within}
use Rattle.batch_records.specs.DayRecord.{Day}
use Rattle.batch_records.specs.declared.day.Entry.{Entry}
use Rattle.batch_records.specs.declared.day.Message.{Message}
use Rattle.batch_records.specs.Sound.{is_sound}
use Rattle.commit_journal.specs.declared.line.Code.{Code}
use Rattle.commit_journal.specs.declared.line.Want.{Want}
use Rattle.commit_journal.specs.declared.line.Want.TheVariants as wants
use Rattle.commit_journal.specs.Line.{Line, History}
use Rattle.machine.specs.declared.answers.Phase.{Phase}
use Rattle.machine.specs.declared.answers.Phase.TheVariants as phases
use Rattle.cash_amounts.specs.declared.records.AccountRecord.{AccountRecord}
use Rattle.machine.specs.Words.{some_passes, is_sub, first_some, when}
use Rattle.machine.specs.Records.Setup.{is_sub_account, owner}
use Rattle.machine.specs.Records.Messages.{Sort, Missing, Pay, BatchA, BatchB, BatchC, BatchE, entries_in, sort_of, is_message, is_a, is_b, is_a_or_b, entries, part, is_credit, is_debit}
use Rattle.machine.specs.Telling.History.{clock, is_ended, taken, settled_whole, asked, covered, closed, is_in_of, is_book_of, is_all_of, is_ask_of, is_cover_of, is_closing_of, is_end}
use Rattle.machine.specs.Telling.Balances.{credits, debits, credited, debited, balance}
use Rattle.machine.specs.Stages.Phases.{phase, is_open, is_covered, is_overdue, is_answered, is_asking, is_booked, is_revoked_entry, settled_as}
use Rattle.machine.specs.Telling.Facts.{is_reached, untaken_earlier}
use Rattle.machine.specs.Stages.Pending.{is_pending, pending_as, first_unbooked_debit}
use Rattle.machine.specs.Making.Lines.{may, made, may_lapse, may_sweep, refusal, fund_suffices, is_ready}
use Rattle.machine.specs.Legal.{IsLegal}
use Rattle.machine.specs.Orders.Bounds.{entries_of_all, most_lines}
use Rattle.settlement_laws.proofs.Base.Induction.{legal_induction}
use Rattle.settlement_laws.proofs.Base.Sums.{bit, bit_bound, sum_from, sum-le, sum-rises, sum-bound, sum-at_most, sum-list}
use Rattle.settlement_laws.proofs.Base.Places.{place-grows, same-number, same-numbers}
use Rattle.settlement_laws.proofs.Base.PhaseLaws.{is_going, overdue_going, answered_going, asking_going, open_unsettled}
use Rattle.settlement_laws.proofs.Base.PhaseFacts.{going_facts, overdue_facts, answered_facts, asking_facts}
use Rattle.settlement_laws.proofs.DayEnd.Stops.{message_is, clock-bound, next_stop-bounds}
use Rattle.settlement_laws.proofs.DayEnd.SubAccountsAtMidnight.{NotToSubs, no_credit, midnight, code_is, first_dca_not}
use Rattle.settlement_laws.proofs.Base.Counting.{stands_now}

-- ---- how far a message has come

-- the turns of a message: none, its question, its last one
abbrev pub turns_of : (closed covered asked : Bool) → ℕ
turns_of true v a = 2
turns_of false true a = 2
turns_of false false a = bit a

abbrev pub turns : Day → History → ℕ → ℕ
turns day J n = turns_of (is_some (closed J n)) (is_a_or_b (sort_of day n) && is_some (covered J n)) (is_some (asked J n))

-- the line for the whole of it: of a B batch All, of a payment Book
abbrev pub is_whole : Day → History → ℕ → Bool
is_whole day J n = if is_b (sort_of day n) then is_some (settled_whole J n) else is_booked J n 0

abbrev pub booked_entry : History → ℕ → ℕ → ℕ
booked_entry J n k = bit (is_booked J n k)

abbrev pub rank : Day → History → ℕ → ℕ
rank day J n = bit (is_some (taken J n)) + turns day J n + bit (is_whole day J n) + sum_from (booked_entry J n) 1 (length (entries day n))

-- at midnight, whether a sub-account is empty
abbrev pub is_empty_sub : Day → History → ℕ → Bool
is_empty_sub day J a = nat_eq (clock J) 86400 && is_sub_account day a && not (nat_lt 0 (balance day J a))

abbrev pub empty_sub : Day → History → ℕ → ℕ
empty_sub day J a = bit (is_empty_sub day J a)

-- each line makes this greater
abbrev pub spent : Day → History → ℕ
spent day J = sum_from (rank day J) 1 (length day.messages) + sum_from (empty_sub day J) 1 (length day.accounts) + clock J + bit (is_ended J)

-- ---- a line makes nothing less

turns-grows : (c v a c' v' a' : Bool) → bit c ≤ bit c' → bit v ≤ bit v' → bit a ≤ bit a' → turns_of c v a ≤ turns_of c' v' a'
turns-grows true v a true v' a' h k l = omega arith
turns-grows true v a false v' a' h k l = absurd (omega (arith, h))
turns-grows false true a true v' a' h k l = omega arith
turns-grows false true a false true a' h k l = omega arith
turns-grows false true a false false a' h k l = absurd (omega (arith, k))
turns-grows false false a true v' a' h k l = small a
  where
    small : (b : Bool) → bit b ≤ 2
    small true = omega arith
    small false = omega arith
turns-grows false false a false true a' h k l = small a
  where
    small : (b : Bool) → bit b ≤ 2
    small true = omega arith
    small false = omega arith
turns-grows false false a false false a' h k l = l

pub both-grows : (s v v' : Bool) → bit v ≤ bit v' → bit (s && v) ≤ bit (s && v')
both-grows true v v' h = h
both-grows false v v' h = omega arith

choice-grows : (s a b a' b' : Bool) → bit a ≤ bit a' → bit b ≤ bit b' → bit (if s then a else b) ≤ bit (if s then a' else b')
choice-grows true a b a' b' h k = h
choice-grows false a b a' b' h k = k

turns_grow : (day : Day) (l : Line) (J : History) (n : ℕ) → turns day J n ≤ turns day (l ∷ J) n
turns_grow day l J n =
    turns-grows (is_some (closed J n)) (is_a_or_b (sort_of day n) && is_some (covered J n)) (is_some (asked J n)) (is_some (closed (l ∷ J) n)) (is_a_or_b (sort_of day n) && is_some (covered (l ∷ J) n)) (is_some (asked (l ∷ J) n))
    (place-grows (is_closing_of n) l J) (both-grows (is_a_or_b (sort_of day n)) (is_some (covered J n)) (is_some (covered (l ∷ J) n)) (place-grows (is_cover_of n) l J)) (place-grows (is_ask_of n) l J)

whole_grows : (day : Day) (l : Line) (J : History) (n : ℕ) → bit (is_whole day J n) ≤ bit (is_whole day (l ∷ J) n)
whole_grows day l J n = choice-grows (is_b (sort_of day n)) (is_some (settled_whole J n)) (is_booked J n 0) (is_some (settled_whole (l ∷ J) n)) (is_booked (l ∷ J) n 0) (place-grows (is_all_of n) l J) (place-grows (is_book_of n 0) l J)

entries_grow : (day : Day) (l : Line) (J : History) (n : ℕ) → sum_from (booked_entry J n) 1 (length (entries day n)) ≤ sum_from (booked_entry (l ∷ J) n) 1 (length (entries day n))
entries_grow day l J n = sum-le (booked_entry J n) (booked_entry (l ∷ J) n) 1 (length (entries day n)) (λ k. place-grows (is_book_of n k) l J)

rank-grows : (day : Day) (l : Line) (J : History) (n : ℕ) → rank day J n ≤ rank day (l ∷ J) n
rank-grows day l J n = omega (arith, place-grows (is_in_of n) l J, turns_grow day l J n, whole_grows day l J n, entries_grow day l J n)

rank-bound : (day : Day) (J : History) (n : ℕ) → rank day J n ≤ 4 + length (entries day n)
rank-bound day J n =
    omega (arith, bit_bound (is_some (taken J n)), turns-bound (is_some (closed J n)) (is_a_or_b (sort_of day n) && is_some (covered J n)) (is_some (asked J n)), bit_bound (is_whole day J n), sum-at_most (booked_entry J n) 1 1 (length (entries day n)) (λ k. bit_bound (is_booked J n k)))
  where
    turns-bound : (c v a : Bool) → turns_of c v a ≤ 2
    turns-bound true v a = omega arith
    turns-bound false true a = omega arith
    turns-bound false false true = omega arith
    turns-bound false false false = omega arith

-- ---- the sums over the day

entries_there : (day : Day) (k i : ℕ) (m : Message) → k ≡ 1 + i → slice_get day.messages i ≡ Some m → length (entries day k) ≡ length (entries_in m.body)
entries_there day zero i m e h = absurd (omega (arith, e))
entries_there day (suc k) i m e h =
    let same : k ≡ i = omega (arith, e) in
    ap (λ (o : Option Message). length (option_map_or (λ m. entries_in m.body) o [])) (ap (slice_get day.messages) same ∙ h)

pub entries_sum : (day : Day) → sum_from (λ n. length (entries day n)) 1 (length day.messages) ≡ entries_of_all day
entries_sum day = sum-list (λ n. length (entries day n)) (λ (m : Message). length (entries_in m.body)) 1 day.messages (entries_there day)

-- ---- a line on a message whose rank rises

-- what a line leaves as it was
pub record Leaves (day : Day) (J : History) (l : Line) : Type 0 where
  pub same_clock : clock (l ∷ J) ≡ clock J
  pub not_to_subs : clock J ≡ 86400 → NotToSubs day l.moves

pub empty_stays : (day : Day) (J : History) (l : Line) → Leaves day J l → (a : ℕ) → empty_sub day J a ≤ empty_sub day (l ∷ J) a
unfolding credited debited
empty_stays day J l h a = go (nat_eq (clock J) 86400) (is_sub_account day a) (nat_lt 0 (balance day J a)) refl refl refl
  where
    go : (b c d : Bool) → nat_eq (clock J) 86400 ≡ b → is_sub_account day a ≡ c → nat_lt 0 (balance day J a) ≡ d → bit (b && c && not d) ≤ bit (nat_eq (clock (l ∷ J)) 86400 && is_sub_account day a && not (nat_lt 0 (balance day (l ∷ J) a)))
    go false c d e f g = omega arith
    go true false d e f g = omega arith
    go true true true e f g = omega arith
    go true true false e f g =
        let late : clock J ≡ 86400 = eqb-true _ _ e in
        let nothing : credits a l.moves ≡ 0 = no_credit day l.moves a (h.not_to_subs late) f in
        let before : balance day J a ≤ 0 = ltb-false 0 (balance day J a) g in
        let after : balance day (l ∷ J) a ≤ 0 = omega (arith, nothing, before) in
        here (nat_eq (clock (l ∷ J)) 86400) (is_sub_account day a) (nat_lt 0 (balance day (l ∷ J) a)) (ap (λ c. nat_eq c 86400) h.same_clock ∙ e) f (le-not 0 (balance day (l ∷ J) a) after)
      where
        here : (b c d : Bool) → b ≡ true → c ≡ true → d ≡ false → 1 ≤ bit (b && c && not d)
        here true true false p q r = omega arith
        here false c d p q r = cc
        here true false d p q r = cc
        here true true true p q r = cc

        le-not : (x y : ℕ) → y ≤ x → nat_lt x y ≡ false
        le-not x y h = le-ltb x y h

message_spends : (day : Day) (l : Line) (J : History) (n : ℕ) → Leaves day J l → is_message (sort_of day n) ≡ true → rank day J n + 1 ≤ rank day (l ∷ J) n → spent day J + 1 ≤ spent day (l ∷ J)
message_spends day l J n leaves m rise =
    let at = message_is day n m in
    let num : n ≡ suc at.place = at.number in
    let within : at.place < length day.messages = at.within in
    let sums : sum_from (rank day J) 1 (length day.messages) + 1 ≤ sum_from (rank day (l ∷ J)) 1 (length day.messages) = sum-rises (rank day J) (rank day (l ∷ J)) 1 1 (length day.messages) n (rank-grows day l J) (omega (arith, num)) (omega (arith, num, within)) rise in
    let empties : sum_from (empty_sub day J) 1 (length day.accounts) ≤ sum_from (empty_sub day (l ∷ J)) 1 (length day.accounts) = sum-le (empty_sub day J) (empty_sub day (l ∷ J)) 1 (length day.accounts) (empty_stays day J l leaves) in
    let same : clock (l ∷ J) ≡ clock J = leaves.same_clock in
    let ends : bit (is_ended J) ≤ bit (is_ended (l ∷ J)) = place-grows (λ x. is_end x.head.kind) l J in
    omega (arith, sums, empties, same, ends)

-- the four parts of a rank, where one rises
pub bit-rises : (b b' : Bool) → b ≡ false → b' ≡ true → bit b + 1 ≤ bit b'
bit-rises false true e f = omega arith
bit-rises true b' e f = cc
bit-rises false false e f = cc

pub is_not : (o : Option ℕ) → is_none o ≡ true → is_some o ≡ false
is_not None h = refl
is_not (Some i) h = cc

rises_taken : (day : Day) (l : Line) (J : History) (n : ℕ) → is_some (taken J n) ≡ false → is_in_of n l ≡ true → rank day J n + 1 ≤ rank day (l ∷ J) n
rises_taken day l J n e f = omega (arith, bit-rises (is_some (taken J n)) (is_some (taken (l ∷ J) n)) e (stands_now (is_in_of n) l J f), turns_grow day l J n, whole_grows day l J n, entries_grow day l J n)

rises_turn : (day : Day) (l : Line) (J : History) (n : ℕ) → turns day J n + 1 ≤ turns day (l ∷ J) n → rank day J n + 1 ≤ rank day (l ∷ J) n
rises_turn day l J n r = omega (arith, place-grows (is_in_of n) l J, r, whole_grows day l J n, entries_grow day l J n)

rises_whole : (day : Day) (l : Line) (J : History) (n : ℕ) → is_whole day J n ≡ false → is_whole day (l ∷ J) n ≡ true → rank day J n + 1 ≤ rank day (l ∷ J) n
rises_whole day l J n e f = omega (arith, place-grows (is_in_of n) l J, turns_grow day l J n, bit-rises (is_whole day J n) (is_whole day (l ∷ J) n) e f, entries_grow day l J n)

rises_entry : (day : Day) (l : Line) (J : History) (n k : ℕ) → 1 ≤ k → k < 1 + length (entries day n) → is_booked J n k ≡ false → is_book_of n k l ≡ true → rank day J n + 1 ≤ rank day (l ∷ J) n
rises_entry day l J n k low high e f =
    let sums : sum_from (booked_entry J n) 1 (length (entries day n)) + 1 ≤ sum_from (booked_entry (l ∷ J) n) 1 (length (entries day n)) = sum-rises (booked_entry J n) (booked_entry (l ∷ J) n) 1 1 (length (entries day n)) k (λ i. place-grows (is_book_of n i) l J) low high (bit-rises (is_booked J n k) (is_booked (l ∷ J) n k) e (stands_now (is_book_of n k) l J f)) in
    omega (arith, place-grows (is_in_of n) l J, turns_grow day l J n, whole_grows day l J n, sums)

-- ---- turns

first_turn : (c v a c' v' a' : Bool) → c ≡ false → v ≡ false → a ≡ false → a' ≡ true → turns_of c v a + 1 ≤ turns_of c' v' a'
first_turn false false false true v' true e f g h = omega arith
first_turn false false false false true true e f g h = omega arith
first_turn false false false false false true e f g h = omega arith
first_turn true v a c' v' a' e f g h = cc
first_turn false true a c' v' a' e f g h = cc
first_turn false false true c' v' a' e f g h = cc
first_turn false false false c' v' false e f g h = cc

last_turn : (c v a c' v' a' : Bool) → c ≡ false → v ≡ false → (c' || v') ≡ true → turns_of c v a + 1 ≤ turns_of c' v' a'
last_turn false false true true v' a' e f h = omega arith
last_turn false false false true v' a' e f h = omega arith
last_turn false false true false true a' e f h = omega arith
last_turn false false false false true a' e f h = omega arith
last_turn false false a false false a' e f h = cc
last_turn true v a c' v' a' e f h = cc
last_turn false true a c' v' a' e f h = cc

-- a going message of A or B has no Cover line where the phase isn't Covered
pub uncovered : (s : Sort) (day : Day) (J : History) (n : ℕ) → (is_a s && is_some (covered J n)) ≡ false → settled_as s day J n ≡ false → (is_a_or_b s && is_some (covered J n)) ≡ false
uncovered BatchA day J n h k = h
uncovered BatchB day J n h k = go (is_some (settled_whole J n)) (is_some (covered J n)) k
  where
    go : (a b : Bool) → (a || b) ≡ false → b ≡ false
    go true b h = cc
    go false b h = h
uncovered _ day J n h k = refl

pub lapses_message : (s : Sort) → may_lapse s ≡ true → is_message s ≡ true
lapses_message Missing h = cc
lapses_message _ h = refl

pub a_or_b_message : (s : Sort) → is_a_or_b s ≡ true → is_message s ≡ true
a_or_b_message Missing h = cc
a_or_b_message _ h = refl

pub b_message : (s : Sort) → is_b s ≡ true → is_message s ≡ true
b_message Missing h = cc
b_message _ h = refl

closing : (day : Day) (l : Line) (J : History) (n : ℕ) → is_going (phase day J n) ≡ true → (is_a (sort_of day n) && is_some (covered J n)) ≡ false → is_closing_of n l ≡ true → rank day J n + 1 ≤ rank day (l ∷ J) n
closing day l J n g u f =
    let facts = going_facts day J n g in
    rises_turn day l J n (last_turn (is_some (closed J n)) (is_a_or_b (sort_of day n) && is_some (covered J n)) (is_some (asked J n)) (is_some (closed (l ∷ J) n)) (is_a_or_b (sort_of day n) && is_some (covered (l ∷ J) n)) (is_some (asked (l ∷ J) n))
    facts.closed_no (uncovered (sort_of day n) day J n u facts.settled_no) (or_left (is_some (closed (l ∷ J) n)) _ (stands_now (is_closing_of n) l J f)))

-- ---- Book

-- booked entry by entry
abbrev pub by_entry : Sort → Bool
by_entry BatchA = true
by_entry BatchC = true
by_entry BatchE = true
by_entry _ = false

-- a pending item isn't booked, and its number is that of an entry or 0
pub record Bookable (s : Sort) (day : Day) (J : History) (n k : ℕ) : Type 0 where
  pub message : is_message s ≡ true
  pub unbooked : is_booked J n k ≡ false
  pub whole_or_entry : ((k ≡ 0) × (s ≡ Pay)) ⊎ ((1 ≤ k) × (by_entry s ≡ true))

pub bookable : (s : Sort) (day : Day) (J : History) (n k : ℕ) (p : Phase) → (is_open p ≡ true → settled_as s day J n ≡ false) → not (is_b s) ≡ true → pending_as s day J n k p ≡ true → Bookable s day J n k
bookable Pay day J n zero p fresh b h = record { message = refl; unbooked = fresh h; whole_or_entry = inl (refl, refl) }
bookable Pay day J n (suc k) p fresh b h = cc
bookable BatchA day J n zero p fresh b h = absurd (no_zero (is_open p) (is_covered p) (not (is_booked J n 0)) (is_none (first_unbooked_debit day J n)) h)
  where
    no_zero : (o v b u : Bool) → (o && (b && (false || false && u)) || v && false && b) ≡ true → ⊥
    no_zero o v b u h = grind (arith, common_steps)
bookable BatchA day J n (suc k) p fresh b h =
    record {
      message = refl;
      unbooked = not-true _ (a_unbooked (is_open p) (is_covered p) (not (is_booked J n (suc k))) (is_debit day n (suc k) || is_credit day n (suc k) && is_none (first_unbooked_debit day J n)) (is_credit day n (suc k)) h);
      whole_or_entry = inr (omega arith, refl);
    }
  where
    a_unbooked : (o v b d c : Bool) → (o && (b && d) || v && c && b) ≡ true → b ≡ true
    a_unbooked o v b d c h = grind (arith, common_steps)
bookable BatchC day J n zero p fresh b h = cc
bookable BatchC day J n (suc k) p fresh b h = record { message = refl; unbooked = not-true _ (and_parts _ (not (is_booked J n (suc k))) h).1; whole_or_entry = inr (omega arith, refl) }
bookable BatchE day J n zero p fresh b h = cc
bookable BatchE day J n (suc k) p fresh b h = record { message = refl; unbooked = not-true _ (and_parts _ (not (is_booked J n (suc k))) (and_parts _ (not (is_revoked_entry day J n (suc k))) h).0).1; whole_or_entry = inr (omega arith, refl) }
bookable _ day J n k p fresh b h = cc

pub part_within : (day : Day) (n k : ℕ) (test : Entry → Bool) → 1 ≤ k → some_passes test (part day n k) ≡ true → k < 1 + length (entries day n)
part_within day n zero test low h = absurd (omega arith)
part_within day n (suc i) test low h = go (slice_get (entries day n) i) refl h
  where
    go : (o : Option Entry) → slice_get (entries day n) i ≡ o → some_passes test o ≡ true → suc i < 1 + length (entries day n)
    go None e h = cc
    go (Some x) e h = let l : i < length (entries day n) = slice_get_within (entries day n) i x e in omega (arith, l)

booking : (day : Day) (J : History) (n k : ℕ) (l : Line) → is_book_of n k l ≡ true → Bookable (sort_of day n) day J n k → (1 ≤ k → k < 1 + length (entries day n)) → rank day J n + 1 ≤ rank day (l ∷ J) n
booking day J n k l is h within =
    elim h.whole_or_entry [
      | inl z ↦ rises_whole day l J n (choose (is_b (sort_of day n)) _ _ (ap is_b z.1) (subst (λ i. is_booked J n i ≡ false) z.0 h.unbooked)) (choose (is_b (sort_of day n)) _ _ (ap is_b z.1) (subst (λ i. is_booked (l ∷ J) n i ≡ true) z.0 (stands_now (is_book_of n k) l J is)))
      | inr low ↦ rises_entry day l J n k low.0 (within low.0) h.unbooked is
    ]
  where
    choose : {x : Bool} (s a b : Bool) → s ≡ false → b ≡ x → (if s then a else b) ≡ x
    choose false a b e h = h
    choose true a b e h = cc

-- ---- each want

first_of_or : (a b : Bool) → (a || b) ≡ false → a ≡ false
first_of_or true b h = cc
first_of_or false b h = refl

whole_no : (s : Sort) (day : Day) (J : History) (n : ℕ) → is_b s ≡ true → settled_as s day J n ≡ false → (if is_b s then is_some (settled_whole J n) else is_booked J n 0) ≡ false
whole_no BatchB day J n b h = first_of_or _ _ h
whole_no _ day J n b h = cc

choose_b : (s : Sort) (a b : Bool) → is_b s ≡ true → a ≡ true → (if is_b s then a else b) ≡ true
choose_b BatchB a b e h = h
choose_b _ a b e h = cc

pub refused_row : (s : Bool) (p : Phase) (a f m : Bool) (gn gs ge code : Code) →
    first_some (when (s && is_answered p && not a) gn ∷ when ((s && is_answered p && a) && not f) gs ∷ when (s && is_asking p && m) ge ∷ []) ≡ Some code → (s ≡ true) × ((is_answered p ≡ true) ⊎ (is_asking p ≡ true))
refused_row true phases.Answered a f m gn gs ge code h = (refl, inl refl)
refused_row true phases.Asking a f m gn gs ge code h = (refl, inr refl)
refused_row true _ a f m gn gs ge code h = cc
refused_row false p a f m gn gs ge code h = cc

pub account_within : (day : Day) (a : ℕ) → is_sub_account day a ≡ true → (1 ≤ a) × (a < 1 + length day.accounts)
account_within day zero h = cc
account_within day (suc i) h = go (slice_get day.accounts i) refl h
  where
    go : (o : Option AccountRecord) → slice_get day.accounts i ≡ o → some_passes (λ r. is_sub r.kind) o ≡ true → (1 ≤ suc i) × (suc i < 1 + length day.accounts)
    go None e h = cc
    go (Some x) e h = let l : i < length day.accounts = slice_get_within day.accounts i x e in (omega arith, omega (arith, l))

-- a scan leaves its account with nothing
pub emptied : (day : Day) (J : History) (a : ℕ) → may_sweep day J a ≡ true → (is_empty_sub day J a ≡ false) × (is_empty_sub day (made day J (wants.Sweep a) ∷ J) a ≡ true)
unfolding clock credited debited
emptied day J a h =
    let b = and_parts _ (nat_lt 0 (balance day J a)) h in
    let c = and_parts (is_sub_account day a) (nat_eq (clock J) 86400) b.0 in
    (full (nat_eq (clock J) 86400 && is_sub_account day a) (nat_lt 0 (balance day J a)) b.1, and_from _ _ (and_from _ _ c.1 c.0) (ap not (le-ltb 0 (balance day (made day J (wants.Sweep a) ∷ J) a) (gone c.0))))
  where
    full : (x y : Bool) → y ≡ true → (x && not y) ≡ false
    full true true e = refl
    full false y e = refl
    full true false e = cc

    gone : is_sub_account day a ≡ true → balance day (made day J (wants.Sweep a) ∷ J) a ≤ 0
    gone s =
        let nothing : credits a (made day J (wants.Sweep a)).moves ≡ 0 = no_credit day (made day J (wants.Sweep a)).moves a (first_dca_not day (owner day a), tt) s in
        let all : debits a (made day J (wants.Sweep a)).moves ≡ balance day J a + 0 = ap (λ b. (if b then balance day J a else 0) + 0) (same-number a) in
        omega (arith, nothing, all)

spends : (day : Day) (J : History) (w : Want) → is_sound day ≡ true → IsLegal day J → is_ended J ≡ false → may day J w ≡ true → spent day J + 1 ≤ spent day (made day J w ∷ J)
unfolding clock is_pending
spends day J (wants.In n) sound legal e h =
    let a = and_parts _ (is_none (untaken_earlier day J n)) h in
    let b = and_parts _ (is_reached day J n) a.0 in
    let c = and_parts (is_message (sort_of day n)) (is_none (taken J n)) b.0 in
    message_spends day _ J n (record { same_clock = refl; not_to_subs = λ late. midnight day J (wants.In n) sound legal late h }) c.0 (rises_taken day _ J n (is_not (taken J n) c.1) (same-number n))
spends day J (wants.Book n k) sound legal e h =
    let a = and_parts _ (some_passes _ (part day n k)) h in
    let b = and_parts (pending_as (sort_of day n) day J n k (phase day J n)) (not (is_b (sort_of day n))) a.0 in
    let can = bookable (sort_of day n) day J n k (phase day J n) (open_unsettled day J n) b.1 b.0 in
    message_spends day _ J n (record { same_clock = refl; not_to_subs = λ late. midnight day J (wants.Book n k) sound legal late h }) can.message (booking day J n k _ (same-numbers n k) can (λ low. part_within day n k _ low a.1))
spends day J (wants.All n) sound legal e h =
    let b = and_parts (is_b (sort_of day n)) (pending_as (sort_of day n) day J n 0 (phase day J n)) (and_parts _ _ (and_parts _ _ h).0).0 in
    let l = made day J (wants.All n) in
    message_spends day _ J n (record { same_clock = refl; not_to_subs = λ late. midnight day J (wants.All n) sound legal late h }) (b_message (sort_of day n) b.0)
    (rises_whole day l J n (whole_no (sort_of day n) day J n b.0 (open_unsettled day J n (b_open (sort_of day n) (phase day J n) b.0 b.1))) (choose_b (sort_of day n) _ _ b.0 (stands_now (is_all_of n) l J (same-number n))))
  where
    b_open : (s : Sort) (p : Phase) → is_b s ≡ true → pending_as s day J n 0 p ≡ true → is_open p ≡ true
    b_open BatchB p b h = h
    b_open _ p b h = cc
spends day J wants.Time sound legal e h =
    let l = made day J wants.Time in
    let early : clock J < 86400 = ltb-true _ _ (and_parts (nat_lt (clock J) 86400) _ (and_parts _ (not (is_ready day J)) h).0).0 in
    let next = (next_stop-bounds day J early).0 in
    let sums = sum-le (rank day J) (rank day (l ∷ J)) 1 (length day.messages) (rank-grows day l J) in
    let empties : sum_from (empty_sub day J) 1 (length day.accounts) ≤ sum_from (empty_sub day (l ∷ J)) 1 (length day.accounts) = sum-le (empty_sub day J) (empty_sub day (l ∷ J)) 1 (length day.accounts) (λ a. none_yet (nat_eq (clock J) 86400) (is_sub_account day a) _ _ (ne_eqb _ _ (λ same. omega (arith, same, early)))) in
    let ends : bit (is_ended J) ≤ bit (is_ended (l ∷ J)) = place-grows (λ x. is_end x.head.kind) l J in
    omega (arith, sums, empties, next, ends)
  where
    none_yet : (b c d x : Bool) → b ≡ false → bit (b && c && d) ≤ bit x
    none_yet false c d x e = omega arith
    none_yet true c d x e = cc
spends day J (wants.Expire n) sound legal e h =
    let b = and_parts (may_lapse (sort_of day n)) (is_overdue (phase day J n)) (and_parts _ _ h).0 in
    message_spends day _ J n (record { same_clock = refl; not_to_subs = λ late. midnight day J (wants.Expire n) sound legal late h }) (lapses_message (sort_of day n) b.0)
    (closing day _ J n (overdue_going (phase day J n) b.1) (overdue_facts day J n b.1).0 (same-number n))
spends day J (wants.Ask n) sound legal e h =
    let b = and_parts (is_a_or_b (sort_of day n)) (is_overdue (phase day J n)) (and_parts _ _ (and_parts _ _ h).0).0 in
    let facts = going_facts day J n (overdue_going (phase day J n) b.1) in
    let more = overdue_facts day J n b.1 in
    let l = made day J (wants.Ask n) in
    message_spends day _ J n (record { same_clock = refl; not_to_subs = λ late. tt }) (a_or_b_message (sort_of day n) b.0)
    (rises_turn day l J n (first_turn (is_some (closed J n)) (is_a_or_b (sort_of day n) && is_some (covered J n)) (is_some (asked J n)) (is_some (closed (l ∷ J) n)) (is_a_or_b (sort_of day n) && is_some (covered (l ∷ J) n)) (is_some (asked (l ∷ J) n))
    facts.closed_no (uncovered (sort_of day n) day J n more.0 facts.settled_no) more.1 (stands_now (is_ask_of n) l J (same-number n))))
spends day J (wants.Cover n) sound legal e h =
    let b = and_parts (is_a_or_b (sort_of day n)) (is_answered (phase day J n)) (and_parts _ _ (and_parts _ _ h).0).0 in
    let facts = going_facts day J n (answered_going (phase day J n) b.1) in
    let l = made day J (wants.Cover n) in
    message_spends day _ J n (record { same_clock = refl; not_to_subs = λ late. midnight day J (wants.Cover n) sound legal late h }) (a_or_b_message (sort_of day n) b.0)
    (rises_turn day l J n (last_turn (is_some (closed J n)) (is_a_or_b (sort_of day n) && is_some (covered J n)) (is_some (asked J n)) (is_some (closed (l ∷ J) n)) (is_a_or_b (sort_of day n) && is_some (covered (l ∷ J) n)) (is_some (asked (l ∷ J) n))
    facts.closed_no (uncovered (sort_of day n) day J n (answered_facts day J n b.1).0 facts.settled_no) (or_right (is_some (closed (l ∷ J) n)) _ (and_from _ _ b.0 (stands_now (is_cover_of n) l J (same-number n))))))
spends day J (wants.Refuse n) sound legal e h =
    let c = code_is (refusal day J n) h in
    let r = refused_row (is_a_or_b (sort_of day n)) (phase day J n) _ (fund_suffices day J n) _ _ _ _ c.0 c.1 in
    message_spends day _ J n (record { same_clock = refl; not_to_subs = λ late. midnight day J (wants.Refuse n) sound legal late h }) (a_or_b_message (sort_of day n) r.0)
    (elim r.1 [
      | inl x ↦ closing day _ J n (answered_going (phase day J n) x) (answered_facts day J n x).0 (same-number n)
      | inr x ↦ closing day _ J n (asking_going (phase day J n) x) (asking_facts day J n x).0 (same-number n)
    ])
spends day J (wants.Sweep a) sound legal e h =
    let l = made day J (wants.Sweep a) in
    let leaves : Leaves day J l = record { same_clock = refl; not_to_subs = λ late. midnight day J (wants.Sweep a) sound legal late h } in
    let sums = sum-le (rank day J) (rank day (l ∷ J)) 1 (length day.messages) (rank-grows day l J) in
    let sub = (and_parts (is_sub_account day a) _ (and_parts _ _ h).0).0 in
    let at = account_within day a sub in
    let now = emptied day J a h in
    let empties : sum_from (empty_sub day J) 1 (length day.accounts) + 1 ≤ sum_from (empty_sub day (l ∷ J)) 1 (length day.accounts) = sum-rises (empty_sub day J) (empty_sub day (l ∷ J)) 1 1 (length day.accounts) a (empty_stays day J l leaves) at.0 at.1 (bit-rises (is_empty_sub day J a) (is_empty_sub day (l ∷ J) a) now.0 now.1) in
    let ends : bit (is_ended J) ≤ bit (is_ended (l ∷ J)) = place-grows (λ x. is_end x.head.kind) l J in
    omega (arith, sums, empties, ends)
spends day J wants.End sound legal e h =
    let l = made day J wants.End in
    let leaves : Leaves day J l = record { same_clock = refl; not_to_subs = λ late. tt } in
    let sums = sum-le (rank day J) (rank day (l ∷ J)) 1 (length day.messages) (rank-grows day l J) in
    let empties = sum-le (empty_sub day J) (empty_sub day (l ∷ J)) 1 (length day.accounts) (empty_stays day J l leaves) in
    let ends : bit (is_ended J) + 1 ≤ bit (is_ended (l ∷ J)) = bit-rises (is_ended J) (is_ended (l ∷ J)) e (stands_now (λ x. is_end x.head.kind) l J refl) in
    omega (arith, sums, empties, ends)

pub length-spent : (day : Day) → is_sound day ≡ true → (J : History) → IsLegal day J → length J ≤ spent day J
length-spent day sound =
    legal_induction day (λ J. length J ≤ spent day J) (omega arith) (λ J w legal before e h. omega (arith, before, spends day J w sound legal e h))

-- a legal history has no more lines than the day's bound
pub length-bound : (day : Day) → is_sound day ≡ true → (J : History) → IsLegal day J → length J ≤ most_lines day
length-bound day sound J legal =
    let a = length-spent day sound J legal in
    let b : sum_from (rank day J) 1 (length day.messages) ≤ 4 * length day.messages + sum_from (λ n. length (entries day n)) 1 (length day.messages) = sum-bound (rank day J) (λ n. length (entries day n)) 4 1 (length day.messages) (rank-bound day J) in
    let c = entries_sum day in
    let d : sum_from (empty_sub day J) 1 (length day.accounts) ≤ 1 * length day.accounts = sum-at_most (empty_sub day J) 1 1 (length day.accounts) (λ k. bit_bound (is_empty_sub day J k)) in
    omega (arith, a, b, c, d, clock-bound day J legal, bit_bound (is_ended J))
