-- What the line in which an input is means.
use Rattle.std.proofs.Common.{◌≡◌, ◌∙◌, ◌⊎◌, ℕ, Bool, true, false, List, [], ◌∷◌, ◌++◌, append_assoc, refl, sym, ap, subst, inl, inr}
use Rattle.std.specs.Prelude.{◌==◌, if◌then◌else◌}
use Rattle.std.proofs.lemmas.Bool.{eqb-true}
use Rattle.std.proofs.lemmas.List.{append-nil}
use Rattle.record_rows.specs.Lines.{EndsInEnd, HasEndLine, StartsLine, line_after, line_from, line_of, next_line}
use Rattle.record_rows.specs.Machine.{is_line_end}
use Rattle.record_rows.specs.declared.line.Line.{Line}
use Rattle.record_rows.specs.declared.line.Line.TheVariants as lines

pub line_more : (line : Line) (text : List ℕ) (b : ℕ) → line_from line (text ++ b ∷ []) ≡ line_after (line_from line text) b
unfolding line_from
line_more line [] b = refl
line_more line (c ∷ text) b = line_more (line_after line c) text b

-- ---- what a line says of the bytes before

abbrev Means : List ℕ → Line → Type 0
Means before lines.Begun = StartsLine before
Means before lines.HasE = (earlier : List ℕ) × (before ≡ earlier ++ 69 ∷ []) × StartsLine earlier
Means before lines.HasEN = (earlier : List ℕ) × (before ≡ earlier ++ 69 ∷ 78 ∷ []) × StartsLine earlier
Means before lines.HasEND = EndsInEnd before
Means before lines.Other = Unit {0}
Means before lines.Over = HasEndLine before

-- a line end begins a line
begins : (before : List ℕ) (b : ℕ) → is_line_end b ≡ true → Means (before ++ b ∷ []) lines.Begun
begins before b e = inr (before, b, refl, e)

next_means : (before : List ℕ) (wanted : ℕ) (reached : Line) (b : ℕ) → ((b ≡ wanted) → Means (before ++ b ∷ []) reached) → Means (before ++ b ∷ []) (next_line wanted reached b)
next_means before wanted reached b h = by (is_line_end b) (b == wanted) refl refl
  where
    by : (x y : Bool) → is_line_end b ≡ x → (b == wanted) ≡ y → Means (before ++ b ∷ []) (if x then lines.Begun else (if y then reached else lines.Other))
    by true y e d = begins before b e
    by false true e d = h (eqb-true b wanted d)
    by false false e d = tt

means_more : (before : List ℕ) (line : Line) (b : ℕ) → Means before line → Means (before ++ b ∷ []) (line_after line b)
means_more before lines.Begun b h = next_means before 69 lines.HasE b (λ is. (before, ap (λ c. before ++ c ∷ []) is, h))
means_more before lines.HasE b h =
    next_means before 78 lines.HasEN b (λ is. (h.0, (λ i. h.1 i ++ is i ∷ []) ∙ append_assoc h.0 (69 ∷ []) (78 ∷ []), h.2))
means_more before lines.HasEN b h =
    next_means before 68 lines.HasEND b (λ is. record { before = h.0; is = (λ i. h.1 i ++ is i ∷ []) ∙ append_assoc h.0 (69 ∷ 78 ∷ []) (68 ∷ []); starts = h.2 })
means_more before lines.HasEND b h = by (is_line_end b) refl
  where
    by : (x : Bool) → is_line_end b ≡ x → Means (before ++ b ∷ []) (if x then lines.Over else lines.Other)
    by true e = record { before = h.before; eol = b; rest = []; is = ap (λ xs. xs ++ b ∷ []) h.is ∙ append_assoc h.before (69 ∷ 78 ∷ 68 ∷ []) (b ∷ []); starts = h.starts; ends = e }
    by false e = tt
means_more before lines.Other b h = by (is_line_end b) refl
  where
    by : (x : Bool) → is_line_end b ≡ x → Means (before ++ b ∷ []) (if x then lines.Begun else lines.Other)
    by true e = begins before b e
    by false e = tt
means_more before lines.Over b h = record {
  before = h.before;
  eol = h.eol;
  rest = h.rest ++ b ∷ [];
  is = ap (λ xs. xs ++ b ∷ []) h.is ∙ append_assoc h.before (69 ∷ 78 ∷ 68 ∷ h.eol ∷ h.rest) (b ∷ []);
  starts = h.starts;
  ends = h.ends;
}

means_from : (before : List ℕ) (line : Line) (text : List ℕ) → Means before line → Means (before ++ text) (line_from line text)
unfolding line_from
means_from before line [] h = subst (λ xs. Means xs line) (sym (append-nil before)) h
means_from before line (b ∷ text) h =
    subst (λ xs. Means xs (line_from (line_after line b) text)) (append_assoc before (b ∷ []) text) (means_from (before ++ b ∷ []) (line_after line b) text (means_more before line b h))

means : (input : List ℕ) → Means input (line_of input)
means input = means_from [] lines.Begun input (inl refl)

pub over_means : (input : List ℕ) → line_of input ≡ lines.Over → HasEndLine input
over_means input e = subst (Means input) e (means input)

pub open_means : (input : List ℕ) → line_of input ≡ lines.HasEND → EndsInEnd input
open_means input e = subst (Means input) e (means input)

-- ---- and the other way

line_append : (line : Line) (front rest : List ℕ) → line_from line (front ++ rest) ≡ line_from (line_from line front) rest
unfolding line_from
line_append line [] rest = refl
line_append line (c ∷ front) rest = line_append (line_after line c) front rest

over_stays : (rest : List ℕ) → line_from lines.Over rest ≡ lines.Over
unfolding line_from
over_stays [] = refl
over_stays (b ∷ rest) = over_stays rest

-- after a line end a line begins, or one was END
end_begins : (line : Line) (b : ℕ) → is_line_end b ≡ true → (line_after line b ≡ lines.Begun) ⊎ (line_after line b ≡ lines.Over)
end_begins lines.Begun b e = inl (ap (λ x. if x then lines.Begun else (if b == 69 then lines.HasE else lines.Other)) e)
end_begins lines.HasE b e = inl (ap (λ x. if x then lines.Begun else (if b == 78 then lines.HasEN else lines.Other)) e)
end_begins lines.HasEN b e = inl (ap (λ x. if x then lines.Begun else (if b == 68 then lines.HasEND else lines.Other)) e)
end_begins lines.HasEND b e = inr (ap (λ x. if x then lines.Over else lines.Other) e)
end_begins lines.Other b e = inl (ap (λ x. if x then lines.Begun else lines.Other) e)
end_begins lines.Over b e = inr refl

starts_begun : (before : List ℕ) → StartsLine before → (line_of before ≡ lines.Begun) ⊎ (line_of before ≡ lines.Over)
unfolding line_from
starts_begun before (inl e) = inl (ap line_of e)
starts_begun before (inr h) =
    let is : line_of before ≡ line_after (line_of h.0) h.1 = ap line_of h.2 ∙ line_more lines.Begun h.0 h.1 in
    elim (end_begins (line_of h.0) h.1 h.3) [ inl e ↦ inl (is ∙ e) | inr e ↦ inr (is ∙ e) ]

pub end_found : (input : List ℕ) → HasEndLine input → line_of input ≡ lines.Over
unfolding line_from
end_found input h =
    let whole = ap line_of h.is ∙ line_append lines.Begun h.before (69 ∷ 78 ∷ 68 ∷ h.eol ∷ h.rest) in
    elim (starts_begun h.before h.starts) [
      | inl e ↦ whole ∙ ap (λ line. line_from line (69 ∷ 78 ∷ 68 ∷ h.eol ∷ h.rest)) e ∙ ap (λ x. line_from (if x then lines.Over else lines.Other) h.rest) h.ends ∙ over_stays h.rest
      | inr e ↦ whole ∙ ap (λ line. line_from line (69 ∷ 78 ∷ 68 ∷ h.eol ∷ h.rest)) e ∙ over_stays (69 ∷ 78 ∷ 68 ∷ h.eol ∷ h.rest)
    ]

pub end_open : (input : List ℕ) → EndsInEnd input → ¬ (HasEndLine input) → line_of input ≡ lines.HasEND
unfolding line_from
end_open input h none =
    let whole = ap line_of h.is ∙ line_append lines.Begun h.before (69 ∷ 78 ∷ 68 ∷ []) in
    elim (starts_begun h.before h.starts) [
      | inl e ↦ whole ∙ ap (λ line. line_from line (69 ∷ 78 ∷ 68 ∷ [])) e
      | inr e ↦ absurd (none (over_means input (whole ∙ ap (λ line. line_from line (69 ∷ 78 ∷ 68 ∷ [])) e)))
    ]
