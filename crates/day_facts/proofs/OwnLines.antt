-- What a line does to what is kept of the message that it is about, and to that of the others.
use Rattle.std.proofs.Common.{◌≡◌, ◌∙◌, ℕ, suc, ◌+◌, Bool, true, false, ◌&&◌, [], ◌∷◌, Option, Some, None, refl, sym, ap, arith, add-one, length, map}
use Rattle.std.specs.List.{range_with_len}
use Rattle.std.specs.Prelude.{nat_eq}
use Rattle.std.specs.Option.{option_or}
use Rattle.std.proofs.lemmas.Bool.{and_right, eq-eqb, ne_eqb}
use Rattle.batch_records.specs.DayRecord.{Day}
use Rattle.commit_journal.specs.declared.line.Code.{Code}
use Rattle.commit_journal.specs.Line.{Line, History}
use Rattle.machine.specs.Words.{when}
use Rattle.machine.specs.Records.Messages.{entries, item_numbers}
use Rattle.machine.specs.Telling.History.{asked, booked, closed, covered, is_all, is_all_of, is_ask, is_ask_of, is_book, is_book_of, is_closing_of, is_cover, is_cover_of, is_expire_or_refuse, is_in, is_in_of, place_of, read_first, settled_whole, taken, taken_code}
use Rattle.settlement_laws.proofs.Base.Places.{place-other, same-number}
use Rattle.day_facts.specs.declared.own.Own.{Own}
use Rattle.day_facts.specs.Lists.{changed}
use Rattle.day_facts.specs.Own.{booked_row, booked_rows, booked_with, noted, own_of, owns_of, row_noted}
use Rattle.day_facts.proofs.Lists.{change_map, changed_map, map_from}

abbrev the_own : Option ℕ → Option Code → Option ℕ → Option ℕ → Option ℕ → Option ℕ → Own
the_own t c w a v e = record { taken = t; code = c; whole = w; asked = a; covered = v; closed = e }

same_own : (t u : Option ℕ) (c d : Option Code) (w1 w2 a1 a2 v1 v2 e1 e2 : Option ℕ) → t ≡ u → c ≡ d → w1 ≡ w2 → a1 ≡ a2 → v1 ≡ v2 → e1 ≡ e2 → the_own t c w1 a1 v1 e1 ≡ the_own u d w2 a2 v2 e2
same_own t u c d w1 w2 a1 a2 v1 v2 e1 e2 p q r s x y = λ i. the_own (p i) (q i) (r i) (s i) (x i) (y i)

own_is : (J : History) (n : ℕ) → own_of J n ≡ the_own (taken J n) (taken_code J n) (settled_whole J n) (asked J n) (covered J n) (closed J n)
unfolding own_of
own_is J n = refl

-- ---- one more line

pub place_more : (test : Line → Bool) (l : Line) (J : History) (b : Bool) → test l ≡ b → option_or (place_of test J) (when b (suc (length J))) ≡ place_of test (l ∷ J)
unfolding place_of
place_more test l J b e = ap (λ c. option_or (place_of test J) (when c (suc (length J)))) (sym e)

code_more : (l : Line) (J : History) (n : ℕ) (b : Bool) → is_in_of n l ≡ b → option_or (taken_code J n) (when b l.head.code) ≡ taken_code (l ∷ J) n
unfolding read_first
code_more l J n b e = ap (λ c. option_or (taken_code J n) (when c l.head.code)) (sym e)

option_or_none : {X : Type 0} (o : Option X) → option_or o None ≡ o
option_or_none (Some x) = refl
option_or_none None = refl

pub place_same : (test : Line → Bool) (l : Line) (J : History) → test l ≡ false → place_of test J ≡ place_of test (l ∷ J)
place_same test l J e = sym (place-other test l J e)

code_same : (l : Line) (J : History) (n : ℕ) → is_in_of n l ≡ false → taken_code J n ≡ taken_code (l ∷ J) n
code_same l J n e = sym (option_or_none (taken_code J n)) ∙ code_more l J n false e

-- ---- the message that the line is about

and_same : (a b : Bool) → b ≡ true → (a && b) ≡ a
and_same true b h = h
and_same false b h = refl

booked_line : (day : Day) (l : Line) (J : History) (n : ℕ) (b : Bool) → is_book l.head.kind ≡ b → nat_eq l.head.msg n ≡ true →
    booked_with b l.head.entry (suc (length J)) (map (booked J n) (item_numbers day n)) ≡ map (booked (l ∷ J) n) (item_numbers day n)
booked_line day l J n false e h = map_from _ _ 0 (suc (length (entries day n))) (λ k low. place_same (is_book_of n k) l J (ap (λ c. c && nat_eq l.head.msg n && nat_eq l.head.entry k) e))
booked_line day l J n true e h = change_map (λ found. option_or found (Some (suc (length J)))) (booked J n) (booked (l ∷ J) n) 0 l.head.entry (suc (length (entries day n)))
    (place_more (is_book_of n (0 + l.head.entry)) l J true (all_true _ _ _ e h (let at : l.head.entry ≡ 0 + l.head.entry = omega arith in eq-eqb l.head.entry (0 + l.head.entry) at)))
    (λ k ne. place_same (is_book_of n k) l J (and_right (is_book l.head.kind && nat_eq l.head.msg n) (nat_eq l.head.entry k) (ne_eqb l.head.entry k (λ q. ne (let z : 0 + l.head.entry ≡ l.head.entry = omega arith in sym q ∙ sym z)))))
  where
    all_true : (a b c : Bool) → a ≡ true → b ≡ true → c ≡ true → (a && b && c) ≡ true
    all_true a b c p q r = λ i. p i && q i && r i

own_line : (l : Line) (J : History) (n : ℕ) → nat_eq l.head.msg n ≡ true → noted (suc (length J)) l.head (own_of J n) ≡ own_of (l ∷ J) n
own_line l J n h =
    ap (noted (suc (length J)) l.head) (own_is J n)
    ∙ same_own _ _ _ _ _ _ _ _ _ _ _ _
    (place_more (is_in_of n) l J (is_in l.head.kind) (and_same (is_in l.head.kind) _ h))
    (code_more l J n (is_in l.head.kind) (and_same (is_in l.head.kind) _ h))
    (place_more (is_all_of n) l J (is_all l.head.kind) (and_same (is_all l.head.kind) _ h))
    (place_more (is_ask_of n) l J (is_ask l.head.kind) (and_same (is_ask l.head.kind) _ h))
    (place_more (is_cover_of n) l J (is_cover l.head.kind) (and_same (is_cover l.head.kind) _ h))
    (place_more (is_closing_of n) l J (is_expire_or_refuse l.head.kind) (and_same (is_expire_or_refuse l.head.kind) _ h))
    ∙ sym (own_is (l ∷ J) n)

-- ---- the others

own_other : (l : Line) (J : History) (n : ℕ) → nat_eq l.head.msg n ≡ false → own_of J n ≡ own_of (l ∷ J) n
own_other l J n h =
    own_is J n
    ∙ same_own _ _ _ _ _ _ _ _ _ _ _ _
    (place_same (is_in_of n) l J (and_right (is_in l.head.kind) _ h))
    (code_same l J n (and_right (is_in l.head.kind) _ h))
    (place_same (is_all_of n) l J (and_right (is_all l.head.kind) _ h))
    (place_same (is_ask_of n) l J (and_right (is_ask l.head.kind) _ h))
    (place_same (is_cover_of n) l J (and_right (is_cover l.head.kind) _ h))
    (place_same (is_closing_of n) l J (and_right (is_expire_or_refuse l.head.kind) _ h))
    ∙ sym (own_is (l ∷ J) n)

booked_other : (day : Day) (l : Line) (J : History) (n : ℕ) → nat_eq l.head.msg n ≡ false → booked_row day J n ≡ booked_row day (l ∷ J) n
booked_other day l J n h = map_from _ _ 0 (suc (length (entries day n))) (λ k low. place_same (is_book_of n k) l J (not_booked (is_book l.head.kind) (nat_eq l.head.msg n) (nat_eq l.head.entry k) h))
  where
    not_booked : (a b c : Bool) → b ≡ false → (a && b && c) ≡ false
    not_booked true b c e = ap (λ x. x && c) e
    not_booked false b c e = refl

pub own_lines : (day : Day) (l : Line) (J : History) → changed l.head.msg (noted (suc (length J)) l.head) (owns_of day J) ≡ owns_of day (l ∷ J)
own_lines day l J = changed_map (noted (suc (length J)) l.head) (own_of J) (own_of (l ∷ J)) l.head.msg (length day.messages)
    (own_line l J l.head.msg (same-number l.head.msg))
    (λ j ne. own_other l J j (ne_eqb l.head.msg j (λ e. ne (sym e))))

pub booking_lines : (day : Day) (l : Line) (J : History) → changed l.head.msg (row_noted (suc (length J)) l.head) (booked_rows day J) ≡ booked_rows day (l ∷ J)
booking_lines day l J = changed_map (row_noted (suc (length J)) l.head) (booked_row day J) (booked_row day (l ∷ J)) l.head.msg (length day.messages)
    (booked_line day l J l.head.msg (is_book l.head.kind) refl (same-number l.head.msg))
    (λ j ne. booked_other day l J j (ne_eqb l.head.msg j (λ e. ne (sym e))))

-- ---- no lines

pub own_first : (n : ℕ) → the_own None None None None None None ≡ own_of [] n
unfolding own_of place_of read_first
own_first n = refl

pub booked_first : (day : Day) (n count : ℕ) → count ≡ length (entries day n) + 1 → map (λ k. None) (range_with_len 0 count) ≡ booked_row day [] n
unfolding place_of
booked_first day n count e = ap (λ len. map (λ k. None) (range_with_len 0 len)) (e ∙ add-one (length (entries day n)))
