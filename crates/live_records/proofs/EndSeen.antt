-- Where the day part ends, for a reader that goes byte by byte.
use Rattle.std.proofs.Common.{◌≡◌, ◌∙◌, ◌+◌, ◌<◌, ◌≤◌, ◌⊎◌, ◌&&◌, ◌||◌, ℕ, zero, suc, Bool, true, false, List, [], ◌∷◌, ◌++◌, append_assoc, length, length-append, length-drop, get_or, take, drop, refl, sym, ap, subst, arith, inl, inr}
use Rattle.std.specs.Prelude.{◌==◌, if◌then◌else◌}
use Rattle.std.proofs.Math.ListN.{get_or-append}
use Rattle.std.proofs.Math.Seq.{drop-append_seam, get_or-append_seam, take-suc}
use Rattle.std.proofs.lemmas.Bool.{cases_Bool, eqb-true}
use Rattle.std.proofs.lemmas.List.{drop-append-le, take-append-drop}
use Rattle.batch_records.specs.DayPart.{begins_with, day_len, end_word}
use Rattle.batch_records.specs.DayPartInWords.{HasEnd, IsLineEnd, starts_at}
use Rattle.batch_records.proofs.BoolFacts.{lt_failed, lt_meant, or_either}
use Rattle.batch_records.proofs.PartMeaning.{ends_with_first, whole_without_end}
use Rattle.std.specs.Prelude.{nat_lt}
use Rattle.record_rows.specs.Lines.{EndsInEnd, HasEndLine, StartsLine, line_after, line_of}
use Rattle.record_rows.specs.Machine.{is_line_end}
use Rattle.record_rows.specs.declared.line.Line.{Line}
use Rattle.record_rows.specs.declared.line.Line.TheVariants as lines
use Rattle.record_rows.proofs.LineFacts.{end_found, end_open, line_more, open_means}

-- ---- from places to lines

turned : (a b : Bool) → (a || b) ≡ true → (b || a) ≡ true
turned true true e = refl
turned true false e = refl
turned false true e = refl
turned false false e = cc e

-- a line that starts at an index starts after the bytes before it
starts_behind : (input : List ℕ) (i : ℕ) → i ≤ length input → starts_at input i ≡ true → StartsLine (take i input)
starts_behind input zero l e = inl refl
starts_behind input (suc i) l e = inr (take i input, get_or input i 0, take-suc input i 0 (omega (arith, l)), turned (get_or input i 0 == 10) (get_or input i 0 == 13) e)

-- there are at least three bytes from a line END on
room : (input : List ℕ) (i n : ℕ) → HasEnd input i n → i + 3 ≤ length input
room input i n h =
    let size : length (drop i input) ≡ suc (suc (suc (length (h.eol ++ h.rest)))) = ap length h.line in
    omega (arith, size, length-drop i input)

whole : (input : List ℕ) (i n : ℕ) (h : HasEnd input i n) (eol : List ℕ) → h.eol ≡ eol → input ≡ take i input ++ (end_word ++ eol ++ h.rest)
whole input i n h eol e = sym (take-append-drop i input) ∙ ap (λ xs. take i input ++ xs) (h.line ∙ ap (λ (xs : List ℕ). end_word ++ xs ++ h.rest) e)

-- a line END has its line end, or the input ends with it
line_at : (input : List ℕ) (i n : ℕ) → HasEnd input i n → HasEndLine input ⊎ (EndsInEnd input × (length input ≡ i + 3))
line_at input i n h = by h.ends
  where
    starts : StartsLine (take i input)
    starts = starts_behind input i (omega (arith, room input i n h)) h.starts

    by : IsLineEnd h.eol h.rest → HasEndLine input ⊎ (EndsInEnd input × (length input ≡ i + 3))
    by (inl e) = inl (record { before = take i input; eol = 10; rest = h.rest; is = whole input i n h (10 ∷ []) e; starts = starts; ends = refl })
    by (inr (inl e)) = inl (record { before = take i input; eol = 13; rest = 10 ∷ h.rest; is = whole input i n h (13 ∷ 10 ∷ []) e; starts = starts; ends = refl })
    by (inr (inr (inl e))) = inl (record { before = take i input; eol = 13; rest = h.rest; is = whole input i n h (13 ∷ []) e.0; starts = starts; ends = refl })
    by (inr (inr (inr e))) =
        let size : length (drop i input) ≡ 3 = ap length h.line ∙ (λ j. suc (suc (suc (length (e.0 j ++ e.1 j))))) in
        let size_is = length-drop i input in
        let long = room input i n h in
        inr (
          record { before = take i input; is = whole input i n h [] e.0 ∙ ap (λ xs. take i input ++ (end_word ++ xs)) e.1; starts = starts },
          omega (arith, size, size_is, long),
        )

-- ---- and back

starts_there : (before rest : List ℕ) → StartsLine before → starts_at (before ++ rest) (length before) ≡ true
starts_there before rest (inl e) = subst (λ (xs : List ℕ). starts_at (xs ++ rest) (length xs) ≡ true) (sym e) refl
starts_there before rest (inr h) =
    subst (λ (xs : List ℕ). starts_at (xs ++ rest) (length xs) ≡ true) (sym h.2)
    (let size : length (h.0 ++ h.1 ∷ []) ≡ suc (length h.0) = let long = length-append h.0 (h.1 ∷ []) in omega (arith, long) in
    subst (λ (n : ℕ). starts_at ((h.0 ++ h.1 ∷ []) ++ rest) n ≡ true) (sym size)
    (let byte : get_or ((h.0 ++ h.1 ∷ []) ++ rest) (length h.0) 0 ≡ h.1 = ap (λ (xs : List ℕ). get_or xs (length h.0) 0) (append_assoc h.0 (h.1 ∷ []) rest) ∙ get_or-append_seam h.0 h.1 rest 0 in
    subst (λ (b : ℕ). ((b == 10) || (b == 13)) ≡ true) (sym byte) (turned (h.1 == 13) (h.1 == 10) h.3)))

-- END after these bytes, with this line end
end_there : (before eol rest : List ℕ) → StartsLine before → IsLineEnd eol rest → HasEnd (before ++ (end_word ++ eol ++ rest)) (length before) (3 + length eol)
end_there before eol rest starts ends = record {
  starts = starts_there before (end_word ++ eol ++ rest) starts;
  eol = eol;
  rest = rest;
  line = drop-append_seam before (end_word ++ eol ++ rest);
  ends = ends;
  size = refl;
}

-- ---- an input without such a line

pub part_open : (input : List ℕ) → (line_of input ≡ lines.Over → ⊥) → day_len input ≡ length input
part_open input none = by (line_of input) refl
  where
    no_line : HasEndLine input → ⊥
    no_line h = none (end_found input h)

    last : (i n : ℕ) → HasEnd input i n → EndsInEnd input × (length input ≡ i + 3)
    last i n h = elim (line_at input i n h) [ inl has ↦ absurd (no_line has) | inr e ↦ e ]

    other : (line_of input ≡ lines.HasEND → ⊥) → day_len input ≡ length input
    other h = whole_without_end input (λ i n end. h (end_open input (last i n end).0 no_line))

    by : (line : Line) → line_of input ≡ line → day_len input ≡ length input
    by lines.Over e = absurd (none e)
    by lines.Begun e = other (λ h. cc (e, h))
    by lines.HasE e = other (λ h. cc (e, h))
    by lines.HasEN e = other (λ h. cc (e, h))
    by lines.Other e = other (λ h. cc (e, h))
    by lines.HasEND e =
        let still = open_means input e in
        let size : length input ≡ length still.before + 3 = ap length still.is ∙ length-append still.before end_word in
        let here : HasEnd input (length still.before) 3 = subst (λ (xs : List ℕ). HasEnd xs (length still.before) 3) (sym still.is) (end_there still.before [] [] still.starts (inr (inr (inr (refl, refl))))) in
        ends_with_first input (length still.before) 3 (here, λ j m h. let long = (last j m h).1 in omega (arith, size, long)) ∙ sym size

-- ---- an input that has one

-- where a byte ends the line END
to_over : (line : Line) (b : ℕ) → (line ≡ lines.Over → ⊥) → line_after line b ≡ lines.Over → (line ≡ lines.HasEND) × (is_line_end b ≡ true)
to_over lines.Begun b still e = absurd (next lines.HasE (is_line_end b) (b == 69) (λ h. cc h) e)
  where
    next : (reached : Line) (x y : Bool) → (reached ≡ lines.Over → ⊥) → (if x then lines.Begun else (if y then reached else lines.Other)) ≡ lines.Over → ⊥
    next reached true y h e = cc e
    next reached false true h e = h e
    next reached false false h e = cc e
to_over lines.HasE b still e = absurd (next lines.HasEN (is_line_end b) (b == 78) (λ h. cc h) e)
  where
    next : (reached : Line) (x y : Bool) → (reached ≡ lines.Over → ⊥) → (if x then lines.Begun else (if y then reached else lines.Other)) ≡ lines.Over → ⊥
    next reached true y h e = cc e
    next reached false true h e = h e
    next reached false false h e = cc e
to_over lines.HasEN b still e = absurd (next lines.HasEND (is_line_end b) (b == 68) (λ h. cc h) e)
  where
    next : (reached : Line) (x y : Bool) → (reached ≡ lines.Over → ⊥) → (if x then lines.Begun else (if y then reached else lines.Other)) ≡ lines.Over → ⊥
    next reached true y h e = cc e
    next reached false true h e = h e
    next reached false false h e = cc e
to_over lines.HasEND b still e = by (is_line_end b) refl e
  where
    by : (x : Bool) → is_line_end b ≡ x → (if x then lines.Over else lines.Other) ≡ lines.Over → (lines.HasEND ≡ lines.HasEND) × (is_line_end b ≡ true)
    by true is e = (refl, is)
    by false is e = absurd (cc e)
to_over lines.Other b still e = absurd (by (is_line_end b) e)
  where
    by : (x : Bool) → (if x then lines.Begun else lines.Other) ≡ lines.Over → ⊥
    by true e = cc e
    by false e = cc e
to_over lines.Over b still e = absurd (still refl)

-- four bytes at the front of two lists
four : (xs tail ys : List ℕ) → 3 < length xs → xs ++ tail ≡ end_word ++ ys → (b : ℕ) × (rest : List ℕ) × (xs ≡ 69 ∷ 78 ∷ 68 ∷ b ∷ rest) × (b ∷ (rest ++ tail) ≡ ys)
four [] tail ys l e = absurd (omega (arith, l))
four (a ∷ []) tail ys l e = absurd (omega (arith, l))
four (a ∷ b ∷ []) tail ys l e = absurd (omega (arith, l))
four (a ∷ b ∷ c ∷ []) tail ys l e = absurd (omega (arith, l))
four (a ∷ b ∷ c ∷ d ∷ rest) tail ys l e =
    let first : a ≡ 69 = ap (λ zs. get_or zs 0 0) e in
    let second : b ≡ 78 = ap (λ zs. get_or zs 1 0) e in
    let third : c ≡ 68 = ap (λ zs. get_or zs 2 0) e in
    (d, rest, (λ j. first j ∷ second j ∷ third j ∷ d ∷ rest), ap (drop 3) e)

ends_begin : (eol rest : List ℕ) (b : ℕ) (others : List ℕ) → IsLineEnd eol rest → b ∷ others ≡ eol ++ rest → is_line_end b ≡ true
ends_begin eol rest b others (inl h) e = let byte : b ≡ 10 = ap (λ zs. get_or zs 0 0) (e ∙ ap (λ xs. xs ++ rest) h) in rw byte refl
ends_begin eol rest b others (inr (inl h)) e = let byte : b ≡ 13 = ap (λ zs. get_or zs 0 0) (e ∙ ap (λ xs. xs ++ rest) h) in rw byte refl
ends_begin eol rest b others (inr (inr (inl h))) e = let byte : b ≡ 13 = ap (λ zs. get_or zs 0 0) (e ∙ ap (λ xs. xs ++ rest) h.0) in rw byte refl
ends_begin eol rest b others (inr (inr (inr h))) e = let none : b ∷ others ≡ [] = e ∙ (λ j. h.0 j ++ h.1 j) in absurd (cc none)

starts_in_front : (front tail : List ℕ) (i : ℕ) → i ≤ length front → starts_at (front ++ tail) i ≡ true → starts_at front i ≡ true
starts_in_front front tail zero l e = refl
starts_in_front front tail (suc i) l e = subst (λ (b : ℕ). ((b == 10) || (b == 13)) ≡ true) (get_or-append front tail 0 i (omega (arith, l))) e

-- a line END that stands before the last bytes of a front stands in the front
in_front : (front tail : List ℕ) (i n : ℕ) → i + 3 < length front → HasEnd (front ++ tail) i n → HasEndLine front
in_front front tail i n l h =
    let within : i ≤ length front = omega (arith, l) in
    let size = length-drop i front in
    let split = four (drop i front) tail (h.eol ++ h.rest) (omega (arith, l, size)) (sym (drop-append-le i front tail within) ∙ h.line) in
    record {
      before = take i front;
      eol = split.0;
      rest = split.1;
      is = sym (take-append-drop i front) ∙ ap (λ xs. take i front ++ xs) split.2;
      starts = starts_behind front i within (starts_in_front front tail i within h.starts);
      ends = ends_begin h.eol h.rest split.0 (split.1 ++ tail) h.ends split.3;
    }

-- how long the line end is that a byte begins
abbrev more_of : ℕ → List ℕ → ℕ
more_of b rest = if (b == 13) && begins_with 10 rest then 1 else 0

record EndsSo (b : ℕ) (rest : List ℕ) : Type 0 where
  eol : List ℕ
  others : List ℕ
  is : b ∷ rest ≡ eol ++ others
  ends : IsLineEnd eol others
  size : length eol ≡ 1 + more_of b rest

ends_so : (b : ℕ) (rest : List ℕ) → is_line_end b ≡ true → EndsSo b rest
ends_so b rest e = elim (or_either (b == 13) (b == 10) e) [ inl cr ↦ by_cr (eqb-true b 13 cr) rest | inr lf ↦ by_lf (eqb-true b 10 lf) ]
  where
    by_lf : b ≡ 10 → EndsSo b rest
    by_lf is = subst (λ (x : ℕ). EndsSo x rest) (sym is) (record { eol = 10 ∷ []; others = rest; is = refl; ends = inl refl; size = refl })

    cr_so : (rest : List ℕ) → EndsSo 13 rest
    cr_so [] = record { eol = 13 ∷ []; others = []; is = refl; ends = inr (inr (inl (refl, refl))); size = refl }
    cr_so (c ∷ rest) = next (c == 10) refl
      where
        next : (x : Bool) → (c == 10) ≡ x → EndsSo 13 (c ∷ rest)
        next true lf =
            let byte : c ≡ 10 = eqb-true c 10 lf in
            subst (λ (d : ℕ). EndsSo 13 (d ∷ rest)) (sym byte) (record { eol = 13 ∷ 10 ∷ []; others = rest; is = refl; ends = inr (inl refl); size = refl })
        next false lf = record { eol = 13 ∷ []; others = c ∷ rest; is = refl; ends = inr (inr (inl (refl, lf))); size = ap (λ (x : Bool). 1 + (if x then 1 else 0)) (sym lf) }

    by_cr : b ≡ 13 → (rest : List ℕ) → EndsSo b rest
    by_cr is rest = subst (λ (x : ℕ). EndsSo x rest) (sym is) (cr_so rest)

below : (k n : ℕ) → (k < n) ⊎ (n ≤ k)
below k n = elim (cases_Bool (nat_lt k n)) [ inl e ↦ inl (lt_meant k n e) | inr e ↦ inr (lt_failed k n e) ]

pub part_over : (front rest : List ℕ) (b : ℕ) → (line_of front ≡ lines.Over → ⊥) → line_of (front ++ b ∷ []) ≡ lines.Over
    → day_len (front ++ b ∷ rest) ≡ length front + 1 + (if (b == 13) && begins_with 10 rest then 1 else 0)
part_over front rest b still over =
    let step = to_over (line_of front) b still (sym (line_more lines.Begun front b) ∙ over) in
    let end = open_means front step.0 in
    let so = ends_so b rest step.1 in
    let size : length front ≡ length end.before + 3 = ap length end.is ∙ length-append end.before end_word in
    let long = so.size in
    let input : front ++ b ∷ rest ≡ end.before ++ (end_word ++ so.eol ++ so.others) =
    ap (λ xs. xs ++ b ∷ rest) end.is ∙ append_assoc end.before end_word (b ∷ rest) ∙ ap (λ xs. end.before ++ (end_word ++ xs)) so.is in
    let here : HasEnd (front ++ b ∷ rest) (length end.before) (3 + length so.eol) =
    subst (λ (xs : List ℕ). HasEnd xs (length end.before) (3 + length so.eol)) (sym input) (end_there end.before so.eol so.others end.starts so.ends) in
    let first : (j m : ℕ) → HasEnd (front ++ b ∷ rest) j m → length end.before ≤ j = λ j m h. elim (below j (length end.before)) [
      | inl less ↦ absurd (still (end_found front (in_front front (b ∷ rest) j m (omega (arith, less, size)) h)))
      | inr more ↦ more
    ] in
    ends_with_first (front ++ b ∷ rest) (length end.before) (3 + length so.eol) (here, first) ∙ omega (arith, size, long)
