-- The first flag of a row that stands, by the next one of all, and what it is of the debits.
use Rattle.std.proofs.Common.{◌≡◌, ◌∙◌, ℕ, zero, suc, ◌+◌, ◌-◌, ◌≤◌, ◌<◌, Bool, true, false, not, ◌&&◌, cond, List, [], ◌∷◌, Option, Some, None, length, refl, sym, ap, subst, arith}
use Rattle.std.specs.Prelude.{filter, is_some, nat_lt}
use Rattle.std.specs.List.{find, range_with_len}
use Rattle.std.specs.Option.{option_map_or}
use Rattle.std.proofs.lemmas.Bool.{ltb-false, ltb-true}
use Rattle.std.proofs.lemmas.List.{get_or_past}
use Rattle.number_set.specs.Members.{has}
use Rattle.number_set.specs.Next.{IsNext}
use Rattle.batch_records.specs.DayRecord.{Day}
use Rattle.commit_journal.specs.Line.{History}
use Rattle.machine.specs.Words.{when}
use Rattle.machine.specs.Records.Messages.{entries, entry_numbers, is_debit}
use Rattle.machine.specs.Stages.Phases.{is_booked}
use Rattle.machine.specs.Stages.Pending.{first_unbooked_debit}
use Rattle.rule_book.specs.Rows.{Rises, cut, spot_from, spot_of}
use Rattle.rule_book.proofs.RowLemmas.{when_some}
use Rattle.settlement_laws.proofs.Base.Lists.{never}
use Rattle.day_facts.specs.Facts.{Facts, StandsFor}
use Rattle.day_facts.specs.Left.{debits_rows, owes}
use Rattle.day_facts.specs.Rows.{flag_at}
use Rattle.day_facts.proofs.LeftLines.{debit_flag, no_debit}
use Rattle.day_facts.proofs.RowLemmas.{flagged_in}

-- ---- the first of a row

size_from : ℕ → List ℕ → ℕ → ℕ
size_from start [] i = 0
size_from start (end ∷ ends) zero = end - start
size_from start (end ∷ ends) (suc i) = size_from end ends i

spans : (start : ℕ) (ends : List ℕ) (i j k : ℕ) → spot_from start ends i 0 ≡ Some j → spot_from start ends i k ≡ when (nat_lt k (size_from start ends i)) (j + k)
unfolding size_from spot_from
spans start [] i j k e = cc
spans start (end ∷ ends) zero j k e =
    let first : start + 0 ≡ j = (when_some _ _ j e).1 in
    let same : start ≡ j = omega (arith, first) in
    ap (λ x. when (nat_lt k (end - start)) (x + k)) same
spans start (end ∷ ends) (suc i) j k e = spans end ends i j k e

-- the flags of a row are those of a stretch
flags_span : (ends : List ℕ) (items : List Bool) (n start : ℕ) → Rises 0 ends → Some start ≡ spot_of ends n 0 →
    (size : ℕ) × (((k : ℕ) → spot_of ends n k ≡ when (nat_lt k size) (start + k)) × ((k : ℕ) → flag_at (cut 0 ends items) n k ≡ (nat_lt k size && has items (start + k))))
flags_span ends items zero start r s = cc
flags_span ends items (suc i) start r s = (size_from 0 ends i, (spot, λ k. sym (flagged_in ends items (suc i) k (spot_of ends (suc i) k) r refl) ∙ ap (λ o. option_map_or (has items) o false) (spot k) ∙ stretch (nat_lt k (size_from 0 ends i)) (start + k)))
  where
    spot : (k : ℕ) → spot_of ends (suc i) k ≡ when (nat_lt k (size_from 0 ends i)) (start + k)
    spot k = spans 0 ends i start k (sym s)

    stretch : (b : Bool) (j : ℕ) → option_map_or (has items) (when b j) false ≡ (b && has items j)
    stretch true j = refl
    stretch false j = refl

and_false : (b c : Bool) → c ≡ false → (b && c) ≡ false
and_false true c e = e
and_false false c e = refl

first_less : (b c : Bool) → b ≡ false → (b && c) ≡ false
first_less true c e = cc
first_less false c e = refl

next_of_stretch : (p : ℕ → Bool) (start size i : ℕ) (b : Bool) → IsNext p start (Some i) → nat_lt (i - start) size ≡ b → IsNext (λ k. nat_lt k size && p (start + k)) 0 (when b (i - start))
next_of_stretch p start size i true next e =
    let low : start ≤ i = next.at_least in
    let same : start + (i - start) ≡ i = omega (arith, low) in
    record {
      at_least = omega arith;
      passes = ap (λ b. b && p (start + (i - start))) e ∙ ap p same ∙ next.passes;
      none_before = λ k l before. and_false (nat_lt k size) (p (start + k)) (next.none_before (start + k) (omega arith) (omega (arith, low, before)));
    }
next_of_stretch p start size i false next e = λ k l. here k (nat_lt k size) refl
  where
    here : (k : ℕ) (b : Bool) → nat_lt k size ≡ b → (nat_lt k size && p (start + k)) ≡ false
    here k false q = first_less (nat_lt k size) (p (start + k)) q
    here k true q =
        let low : start ≤ i = next.at_least in
        let inside : k < size = ltb-true k size q in
        let past : size ≤ i - start = ltb-false (i - start) size e in
        and_false (nat_lt k size) (p (start + k)) (next.none_before (start + k) (omega arith) (omega (arith, low, inside, past)))

none_in_stretch : (p : ℕ → Bool) (start size : ℕ) → IsNext p start None → IsNext (λ k. nat_lt k size && p (start + k)) 0 None
none_in_stretch p start size next k l = and_false (nat_lt k size) (p (start + k)) (next (start + k) (omega arith))

is_some_when : (b : Bool) (x : ℕ) → is_some (when b x) ≡ b
is_some_when true x = refl
is_some_when false x = refl

pub first_flag : (ends : List ℕ) (items : List Bool) (n start i k : ℕ) (o : Option ℕ) → Rises 0 ends → Some start ≡ spot_of ends n 0 → IsNext (has items) start (Some i) → k ≡ i - start → o ≡ when (is_some (spot_of ends n k)) k → IsNext (flag_at (cut 0 ends items) n) 0 o
first_flag ends items n start i k o r s next e q =
    let span = flags_span ends items n start r s in
    let size : ℕ = span.0 in
    let found : o ≡ when (nat_lt (i - start) size) (i - start) = q ∙ ap (λ x. when (is_some (spot_of ends n x)) x) e ∙ ap (λ b. when b (i - start)) (ap is_some (span.1.0 (i - start)) ∙ is_some_when (nat_lt (i - start) size) (start + (i - start))) in
    subst (λ p. IsNext p 0 o) (λ j x. sym (span.1.1 x) j) (subst (λ x. IsNext (λ y. nat_lt y size && has items (start + y)) 0 x) (sym found) (next_of_stretch (has items) start size i (nat_lt (i - start) size) next refl))

pub no_flag : (ends : List ℕ) (items : List Bool) (n start : ℕ) → Rises 0 ends → Some start ≡ spot_of ends n 0 → IsNext (has items) start None → IsNext (flag_at (cut 0 ends items) n) 0 None
no_flag ends items n start r s next =
    let span = flags_span ends items n start r s in
    subst (λ p. IsNext p 0 None) (λ j x. sym (span.1.1 x) j) (none_in_stretch (has items) start span.0 next)

-- a row that begins after all flags
pub past_flags : (ends : List ℕ) (items : List Bool) (n start : ℕ) → Rises 0 ends → Some start ≡ spot_of ends n 0 → length items ≤ start → IsNext (flag_at (cut 0 ends items) n) 0 None
past_flags ends items n start r s l = no_flag ends items n start r s (λ k low. get_or_past items k false (omega (arith, l, low)))

-- a row that has no item
none_from : (start : ℕ) (ends : List ℕ) (i k : ℕ) → spot_from start ends i 0 ≡ None → spot_from start ends i k ≡ None
unfolding spot_from
none_from start [] i k e = refl
none_from start (end ∷ ends) zero k e = here (nat_lt 0 (end - start)) refl e
  where
    outside : (b : Bool) → nat_lt k (end - start) ≡ b → end - start ≤ 0 → when b (start + k) ≡ None
    outside true q small = let inside : k < end - start = ltb-true k (end - start) q in absurd (omega (arith, inside, small))
    outside false q small = refl

    here : (b : Bool) → nat_lt 0 (end - start) ≡ b → when b (start + 0) ≡ None → when (nat_lt k (end - start)) (start + k) ≡ None
    here true q none = cc
    here false q none = outside (nat_lt k (end - start)) refl (ltb-false 0 (end - start) q)
none_from start (end ∷ ends) (suc i) k e = none_from end ends i k e

none_of : (ends : List ℕ) (n k : ℕ) → None ≡ spot_of ends n 0 → spot_of ends n k ≡ None
none_of ends zero k e = refl
none_of ends (suc i) k e = none_from 0 ends i k (sym e)

pub empty_row : (ends : List ℕ) (items : List Bool) (n : ℕ) → Rises 0 ends → None ≡ spot_of ends n 0 → IsNext (flag_at (cut 0 ends items) n) 0 None
empty_row ends items n r s = λ k l. sym (flagged_in ends items n k (spot_of ends n k) r refl) ∙ ap (λ o. option_map_or (has items) o false) (none_of ends n k s)

-- ---- the first debit that isn't booked

find_filtered : {X : Type 0} (p q : X → Bool) (xs : List X) → find p (filter q xs) ≡ find (λ x. q x && p x) xs
find_filtered p q [] = refl
find_filtered p q (x ∷ xs) = here (q x) (find_filtered p q xs)
  where
    here : (b : Bool) → find p (filter q xs) ≡ find (λ x. q x && p x) xs → find p (cond b (x ∷ filter q xs) (filter q xs)) ≡ cond (b && p x) (Some x) (find (λ x. q x && p x) xs)
    here true h = ap (cond (p x) (Some x)) h
    here false h = h

next_after : (p : ℕ → Bool) (start : ℕ) (o : Option ℕ) → p start ≡ false → IsNext p start o → IsNext p (start + 1) o
next_after p start None e next = λ k l. next k (omega (arith, l))
next_after p start (Some k) e next =
    let low : start ≤ k = next.at_least in
    let other : start ≡ k → ⊥ = λ q. never (p k) next.passes (ap p (sym q) ∙ e) in
    record {
      at_least = omega (arith, low, other);
      passes = next.passes;
      none_before = λ j l before. next.none_before j (omega (arith, l)) before;
    }

next_is_found : (p : ℕ → Bool) (start len : ℕ) (o : Option ℕ) → ((k : ℕ) → start + len ≤ k → p k ≡ false) → IsNext p start o → o ≡ find p (range_with_len start len)
next_is_found p start zero None past next = refl
next_is_found p start zero (Some k) past next = let low : start ≤ k = next.at_least in absurd (never (p k) next.passes (past k (omega (arith, low))))
next_is_found p start (suc len) o past next = here (p start) refl o next (next_is_found p (start + 1) len o (λ k l. past k (omega (arith, l))))
  where
    here : (b : Bool) → p start ≡ b → (o : Option ℕ) → IsNext p start o → (IsNext p (start + 1) o → o ≡ find p (range_with_len (start + 1) len)) → o ≡ cond b (Some start) (find p (range_with_len (start + 1) len))
    here true e None next more = absurd (never (p start) e (next start (omega arith)))
    here true e (Some k) next more =
        let low : start ≤ k = next.at_least in
        let not_before : start < k → ⊥ = λ l. never (p start) e (next.none_before start (omega arith) l) in
        let same : k ≡ start = omega (arith, low, not_before) in
        ap Some same
    here false e o next more = more (next_after p start o e next)

pub first_debit_stands : (day : Day) (J : History) (facts : Facts) (n : ℕ) (o : Option ℕ) → IsNext (flag_at facts.debits n) 0 o → StandsFor day J facts → o ≡ first_unbooked_debit day J n
first_debit_stands day J facts n o next s =
    let flags : IsNext (flag_at (debits_rows day J) n) 0 o = subst (λ (f : Facts). IsNext (flag_at f.debits n) 0 o) s.exact next in
    let owed : IsNext (owes day J n) 0 o = subst (λ p. IsNext p 0 o) (λ i k. debit_flag day J n k i) flags in
    next_is_found (owes day J n) 1 (length (entries day n)) o (λ k l. no_debit day J n k (omega (arith, l))) (next_after (owes day J n) 0 o refl owed)
    ∙ sym (find_filtered (λ k. not (is_booked J n k)) (is_debit day n) (entry_numbers day n))
