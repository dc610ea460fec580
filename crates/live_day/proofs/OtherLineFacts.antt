-- The first line that isn't what it should be.
use Rattle.std.proofs.Common.{◌≡◌, ◌∙◌, ◌+◌, ◌++◌, ◌==◌, ℕ, zero, suc, Bool, true, false, List, [], ◌∷◌, eqb-true, eq-eqb, length, refl, sym, ap, subst, arith}
use Rattle.std.specs.Prelude.{Some, if◌then◌else◌, nat_eq}
use Rattle.std.specs.List.{starts_with}
use Rattle.std.proofs.lemmas.Bool.Decides.{Decides-eqb}
use Rattle.std.proofs.lemmas.Slice.Eq.{starts_is}
use Rattle.program_answers.specs.Answers.{Answer, illegal}
use Rattle.live_records.specs.Fates.{IsFront}
use Rattle.live_day.specs.Answers.{live_answer}
use Rattle.live_day.specs.OtherLines.{IsOtherLine, first_lines}
use Rattle.live_day.specs.Resumed.{Before, behind, is_own, other_line, resumed_answer}
use Rattle.live_day.specs.Told.{told}

front_more : (b : ℕ) (text should : List ℕ) → IsFront text should → IsFront (b ∷ text) (b ∷ should)
front_more b text should f = (f.0, ap (λ (t : List ℕ). b ∷ t) f.1)

front_less : (b c : ℕ) (text should : List ℕ) → IsFront (b ∷ text) (c ∷ should) → IsFront text should
front_less b c text should f = let e : should ≡ text ++ f.0 = cc (f.1) in (f.0, e)

first_byte : (b c : ℕ) (text should : List ℕ) → IsFront (b ∷ text) (c ∷ should) → (b == c) ≡ true
first_byte b c text should f = let e : c ≡ b = cc (f.1) in eq-eqb b c (sym e)

nothing_begun : (b : ℕ) (text : List ℕ) → IsFront (b ∷ text) [] → ⊥
nothing_begun b text f = cc (f.1)

abbrev counted : ℕ → ℕ → ℕ
counted b n = if b == 10 then n else suc n

first_next : (count b : ℕ) (text : List ℕ) → first_lines (suc count) (b ∷ text) ≡ b ∷ first_lines (counted b count) text
first_next count b text = refl

differs_at : (b : ℕ) (text should : List ℕ) → (IsFront (b ∷ first_lines (counted b 0) text) should → ⊥) → IsOtherLine (b ∷ text) should 1
differs_at b text should h = record { before = zero; number = refl; own = (should, refl); other = h }

-- where a line ends the lines that follow are one further on
ends_line : (b : ℕ) (text should : List ℕ) (line : ℕ) → (b == 10) ≡ true → IsOtherLine text should line → IsOtherLine (b ∷ text) (b ∷ should) (suc line)
ends_line b text should line e h = record {
  before = line;
  number = refl;
  own = subst (λ (l : List ℕ). IsFront l (b ∷ should)) (sym (ap (λ (k : ℕ). first_lines k (b ∷ text)) h.number ∙ (λ i. b ∷ first_lines (if e i then h.before else suc h.before) text))) (front_more b (first_lines h.before text) should h.own);
  other = λ f. h.other (front_less b b (first_lines line text) should (subst (λ (l : List ℕ). IsFront l (b ∷ should)) (λ i. b ∷ first_lines (if e i then line else suc line) text) f));
}

-- else the first of them goes on
goes_on : (b : ℕ) (text should : List ℕ) (line : ℕ) → (b == 10) ≡ false → IsOtherLine text should line → IsOtherLine (b ∷ text) (b ∷ should) line
goes_on b text should line e h = by h.before h.number h.own
  where
    other : IsFront (first_lines line (b ∷ text)) (b ∷ should) → ⊥
    other f = h.other (front_less b b (first_lines line text) should (subst (λ (l : List ℕ). IsFront l (b ∷ should)) (ap (λ (k : ℕ). first_lines k (b ∷ text)) h.number ∙ (λ i. b ∷ first_lines (if e i then h.before else suc h.before) text) ∙ ap (λ (k : ℕ). b ∷ first_lines k text) (sym h.number)) f))

    by : (n : ℕ) → line ≡ suc n → IsFront (first_lines n text) should → IsOtherLine (b ∷ text) (b ∷ should) line
    by zero is own = record { before = zero; number = is; own = (b ∷ should, refl); other = other }
    by (suc n) is own = record {
      before = suc n;
      number = is;
      own = subst (λ (l : List ℕ). IsFront l (b ∷ should)) (λ i. b ∷ first_lines (if sym e i then n else suc n) text) (front_more b (first_lines (suc n) text) should own);
      other = other;
    }

goes_further : (b : ℕ) (text should : List ℕ) (line : ℕ) → IsOtherLine text should line → IsOtherLine (b ∷ text) (b ∷ should) ((if b == 10 then 1 else 0) + line)
goes_further b text should line h = by (b == 10) refl
  where
    by : (x : Bool) → (b == 10) ≡ x → IsOtherLine (b ∷ text) (b ∷ should) ((if x then 1 else 0) + line)
    by true e = let more : suc line ≡ 1 + line = omega arith in subst (IsOtherLine (b ∷ text) (b ∷ should)) more (ends_line b text should line e h)
    by false e = let same : line ≡ 0 + line = omega arith in subst (IsOtherLine (b ∷ text) (b ∷ should)) same (goes_on b text should line e h)

pub other_line_is : (text should : List ℕ) → (IsFront text should → ⊥) → IsOtherLine text should (other_line text should)
unfolding other_line
other_line_is [] should h = absurd (h (should, refl))
other_line_is (b ∷ text) [] h = differs_at b text [] (nothing_begun b (first_lines (counted b 0) text))
other_line_is (b ∷ text) (c ∷ should) h = by (b == c) refl (other_line_is text should)
  where
    by : (x : Bool) → (b == c) ≡ x → ((IsFront text should → ⊥) → IsOtherLine text should (other_line text should))
        → IsOtherLine (b ∷ text) (c ∷ should) (if x then (if b == 10 then 1 else 0) + other_line text should else 1)
    by true e further =
        let same : b ≡ c = eqb-true b c e in
        subst (λ (d : ℕ). IsOtherLine (b ∷ text) (d ∷ should) ((if b == 10 then 1 else 0) + other_line text should)) same
        (goes_further b text should (other_line text should) (further (λ f. h (subst (λ (d : ℕ). IsFront (b ∷ text) (d ∷ should)) same (front_more b text should f)))))
    by false e further = differs_at b text (c ∷ should) (λ f. let clash : true ≡ false = sym (first_byte b c (first_lines (counted b 0) text) should f) ∙ e in cc clash)

-- where what was written isn't its own, the line in which it isn't is told
pub other_output : (b : Before) → is_own b ≡ false → (line : ℕ) × (resumed_answer (Some b) ≡ illegal line) × IsOtherLine b.written (told b.read) line
other_output b e = (
  other_line b.written (told b.read),
  ap (λ (x : Bool). if x then behind (length b.written) (live_answer (b.read ++ b.rest)) else illegal (other_line b.written (told b.read))) e,
  other_line_is b.written (told b.read) (λ f. let clash : true ≡ false = sym ((starts_is Decides-eqb (told b.read) b.written (starts_with nat_eq (told b.read) b.written) refl).1 f.0 f.1) ∙ e in cc clash),
)
