-- The day part ends with the first line END, and where there is none it is the whole input.
use Rattle.std.proofs.Common.{◌≡◌, ◌<◌, ◌≤◌, ◌+◌, ℕ, zero, suc, List, [], ◌∷◌, ◌++◌, Option, Some, None, Bool, true, false, not, length, get_or, drop, refl, sym, ap, arith, add-one, inl, inr, ◌∙◌}
use Rattle.std.specs.Prelude.{◌==◌, ◌&&◌, ◌||◌, if◌then◌else◌, nat_eq, nat_lt, option_map}
use Rattle.std.specs.List.{starts_with}
use Rattle.std.proofs.lemmas.Bool.{cases_Bool, eqb-true}
use Rattle.std.proofs.lemmas.Bool.Decides.{Decides-eqb}
use Rattle.std.proofs.lemmas.List.{drop_all}
use Rattle.std.proofs.lemmas.Option.{same_Some}
use Rattle.std.proofs.lemmas.Slice.Eq.{starts_is}
use Rattle.batch_records.specs.DayPart.{begins_with, day_len, end_line_len, end_word, line_end_len, part_len, starts_line}
use Rattle.batch_records.specs.DayPartInWords.{HasEnd, IsFirstEnd, IsLineEnd, starts_at}
use Rattle.batch_records.proofs.BoolFacts.{lt_failed, lt_meant}
use Rattle.batch_records.proofs.PartFacts.{part_end, part_found, part_more}

-- ---- line ends

-- how these bytes begin with a line end of so many bytes
record Ends (bytes : List ℕ) (k : ℕ) : Type 0 where
  pub eol : List ℕ
  pub rest : List ℕ
  pub split : bytes ≡ eol ++ rest
  pub ends : IsLineEnd eol rest
  pub size : k ≡ length eol

ends_meant : (bytes : List ℕ) (k : ℕ) → line_end_len bytes ≡ Some k → Ends bytes k
ends_meant [] k e = record { eol = []; rest = []; split = refl; ends = inr (inr (inr (refl, refl))); size = sym (same_Some 0 k e) }
ends_meant (c ∷ rest) k e =
    (elim (c == 10) as (λ b. (c == 10) ≡ b → (if b then Some 1 else if c == 13 then (if begins_with 10 rest then Some 2 else Some 1) else None) ≡ Some k → Ends (c ∷ rest) k) [
      | true ↦ λ lf f. lf_ends c rest k (eqb-true c 10 lf) f
      | false ↦ λ lf f. (elim (c == 13) as (λ b. (c == 13) ≡ b → (if b then (if begins_with 10 rest then Some 2 else Some 1) else None) ≡ Some k → Ends (c ∷ rest) k) [
        | true ↦ λ cr g. cr_ends c rest k (eqb-true c 13 cr) g
        | false ↦ λ cr g. cc g
      ]) refl f
    ]) refl e
  where
    lf_ends : (c : ℕ) (rest : List ℕ) (k : ℕ) → c ≡ 10 → Some 1 ≡ Some k → Ends (c ∷ rest) k
    lf_ends c rest k lf e = record { eol = 10 ∷ []; rest = rest; split = ap (λ (x : ℕ). x ∷ rest) lf; ends = inl refl; size = sym (same_Some 1 k e) }

    cr_ends : (c : ℕ) (rest : List ℕ) (k : ℕ) → c ≡ 13 → (if begins_with 10 rest then Some 2 else Some 1) ≡ Some k → Ends (c ∷ rest) k
    cr_ends c [] k cr e = record { eol = 13 ∷ []; rest = []; split = ap (λ (x : ℕ). x ∷ []) cr; ends = inr (inr (inl (refl, refl))); size = sym (same_Some 1 k e) }
    cr_ends c (d ∷ rest) k cr e =
        (elim (d == 10) as (λ b. (d == 10) ≡ b → (if b then Some 2 else Some 1) ≡ Some k → Ends (c ∷ d ∷ rest) k) [
          | true ↦ λ lf f. let next = eqb-true d 10 lf in record { eol = 13 ∷ 10 ∷ []; rest = rest; split = rw (cr, next) refl; ends = inr (inl refl); size = sym (same_Some 2 k f) }
          | false ↦ λ lf f. record { eol = 13 ∷ []; rest = d ∷ rest; split = rw cr refl; ends = inr (inr (inl (refl, lf))); size = sym (same_Some 1 k f) }
        ]) refl e

ends_found : (eol rest : List ℕ) → IsLineEnd eol rest → line_end_len (eol ++ rest) ≡ Some (length eol)
ends_found eol rest (inl e) = rw e refl
ends_found eol rest (inr (inl e)) = rw e refl
ends_found eol rest (inr (inr (inl h))) = rw (h.0, h.1) refl
ends_found eol rest (inr (inr (inr h))) = rw (h.0, h.1) refl

-- ---- a line END at an index, by the tests of the definition

record At (input : List ℕ) (i n : ℕ) : Type 0 where
  pub starts : starts_at input i ≡ true
  pub len : end_line_len (drop i input) ≡ Some n

end_found : (eol rest : List ℕ) → IsLineEnd eol rest → end_line_len (end_word ++ eol ++ rest) ≡ Some (3 + length eol)
unfolding end_line_len
end_found eol rest h = ap (option_map (λ (n : ℕ). 3 + n)) (ends_found eol rest h)

at_found : (input : List ℕ) (i n : ℕ) → HasEnd input i n → At input i n
at_found input i n h = record { starts = h.starts; len = rw (h.line, h.size) (end_found h.eol h.rest h.ends) }

record IsEnd (bytes : List ℕ) (n : ℕ) : Type 0 where
  pub eol : List ℕ
  pub rest : List ℕ
  pub line : bytes ≡ end_word ++ eol ++ rest
  pub ends : IsLineEnd eol rest
  pub size : n ≡ 3 + length eol

end_meant : (bytes : List ℕ) (n : ℕ) → end_line_len bytes ≡ Some n → IsEnd bytes n
unfolding end_line_len
end_meant bytes n e =
    (elim (starts_with nat_eq bytes end_word) as (λ b. starts_with nat_eq bytes end_word ≡ b → (if b then option_map (λ n. 3 + n) (line_end_len (drop 3 bytes)) else None) ≡ Some n → IsEnd bytes n) [
      | true ↦ λ word f. behind_word ((starts_is Decides-eqb bytes end_word (starts_with nat_eq bytes end_word) refl).0 word) (line_end_len (drop 3 bytes)) refl f
      | false ↦ λ word f. cc f
    ]) refl e
  where
    behind_word : bytes ≡ end_word ++ drop 3 bytes → (o : Option ℕ) → line_end_len (drop 3 bytes) ≡ o → option_map (λ n. 3 + n) o ≡ Some n → IsEnd bytes n
    behind_word word None e f = cc f
    behind_word word (Some k) e f =
        let end = ends_meant (drop 3 bytes) k e in
        let size = end.size in
        let whole = same_Some (3 + k) n f in
        record { eol = end.eol; rest = end.rest; line = word ∙ ap (λ (x : List ℕ). end_word ++ x) end.split; ends = end.ends; size = omega arith }

at_meant : (input : List ℕ) (i n : ℕ) → At input i n → HasEnd input i n
at_meant input i n h = let end = end_meant (drop i input) n h.len in record { starts = h.starts; eol = end.eol; rest = end.rest; line = end.line; ends = end.ends; size = end.size }

-- ---- the flag of the definition, where END can stand

lf_is_no_end : (bytes : List ℕ) → begins_with 10 bytes ≡ true → end_line_len bytes ≡ None
unfolding end_line_len
lf_is_no_end [] e = refl
lf_is_no_end (c ∷ bytes) e = let lf = eqb-true c 10 e in rw lf refl

either_flag : (a b t : Bool) (x : Option ℕ) → (t ≡ true → x ≡ None) → (if a || (b && not t) then x else None) ≡ (if a || b then x else None)
either_flag true b t x h = refl
either_flag false false t x h = refl
either_flag false true true x h = sym (h refl)
either_flag false true false x h = refl

-- with the flag the line END is found as with the test of the byte before
abbrev Flags : List ℕ → ℕ → Bool → Type 0
Flags input k start = (if start then end_line_len (drop k input) else None) ≡ (if starts_at input k then end_line_len (drop k input) else None)

flags_next : (input : List ℕ) (k : ℕ) → Flags input (suc k) (starts_line (get_or input k 0) (drop (suc k) input))
flags_next input k = either_flag (get_or input k 0 == 10) (get_or input k 0 == 13) (begins_with 10 (drop (suc k) input)) (end_line_len (drop (suc k) input)) (lf_is_no_end (drop (suc k) input))

-- where no line END stands, the part goes on
no_end_at : (input : List ℕ) (k : ℕ) → ((m : ℕ) → At input k m → ⊥) → None ≡ (if starts_at input k then end_line_len (drop k input) else None)
no_end_at input k none =
    (elim (starts_at input k) as (λ b. starts_at input k ≡ b → None ≡ (if b then end_line_len (drop k input) else None)) [
      | true ↦ λ starts. by_len starts (end_line_len (drop k input)) refl
      | false ↦ λ starts. refl
    ]) refl
  where
    by_len : starts_at input k ≡ true → (o : Option ℕ) → end_line_len (drop k input) ≡ o → None ≡ end_line_len (drop k input)
    by_len starts None e = sym e
    by_len starts (Some m) e = absurd (none m (record { starts = starts; len = e }))

goes_on : (input : List ℕ) (k : ℕ) (start : Bool) → k < length input → Flags input k start → ((m : ℕ) → At input k m → ⊥)
    → part_len start (drop k input) ≡ part_len (starts_line (get_or input k 0) (drop (suc k) input)) (drop (suc k) input) + 1
goes_on input k start within flags none = rw (add-one k) at (part_more start input k within (no_end_at input k none ∙ sym flags))

at_within : (input : List ℕ) (i n : ℕ) → At input i n → i < length input
unfolding end_line_len
at_within input i n h =
    elim (cases_Bool (nat_lt i (length input))) [
      | inl e ↦ lt_meant i (length input) e
      | inr e ↦ let past = drop_all i input (lt_failed i (length input) e) in let none = rw past at h.len in cc none
    ]

-- ---- the first line END

walk : (input : List ℕ) (d k : ℕ) (start : Bool) (i n : ℕ) → k + d ≡ i → Flags input k start → At input i n → ((j m : ℕ) → At input j m → i ≤ j) → part_len start (drop k input) ≡ d + n
walk input zero k start i n gap flags here first =
    let same : i ≡ k = omega arith in
    let found = (rw same at here) in
    let within = at_within input k n found in
    let marked : (if starts_at input k then end_line_len (drop k input) else None) ≡ Some n = rw (found.starts, found.len) refl in
    let ends = part_found start input k n within (sym (flags ∙ marked)) in
    omega (arith, ends)
walk input (suc d) k start i n gap flags here first =
    let end = at_within input i n here in
    let within : k < length input = omega arith in
    let none : (m : ℕ) → At input k m → ⊥ = λ m at_k. let le = first k m at_k in omega arith in
    let more = goes_on input k start within flags none in
    let rest = walk input d (suc k) (starts_line (get_or input k 0) (drop (suc k) input)) i n (omega arith) (flags_next input k) here first in
    omega (arith, more, rest)

walk_none : (input : List ℕ) (d k : ℕ) (start : Bool) → k + d ≡ length input → Flags input k start → ((j m : ℕ) → At input j m → ⊥) → part_len start (drop k input) ≡ d
walk_none input zero k start gap flags none = part_end start input k (omega arith)
walk_none input (suc d) k start gap flags none =
    let within : k < length input = omega arith in
    let more = goes_on input k start within flags (none k) in
    let rest = walk_none input d (suc k) (starts_line (get_or input k 0) (drop (suc k) input)) (omega arith) (flags_next input k) none in
    omega (arith, more, rest)

pub ends_with_first : (input : List ℕ) (i n : ℕ) → IsFirstEnd input i n → day_len input ≡ i + n
ends_with_first input i n h = walk input i 0 true i n (omega arith) refl (at_found input i n h.0) (λ j m e. h.1 j m (at_meant input j m e))

pub whole_without_end : (input : List ℕ) → ((i n : ℕ) → HasEnd input i n → ⊥) → day_len input ≡ length input
whole_without_end input none = walk_none input (length input) 0 true (omega arith) refl (λ j m e. none j m (at_meant input j m e))
