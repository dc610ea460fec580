-- What is passed on of lines is what is passed on of those that a party may see.
use Rattle.std.proofs.Common.{◌≡◌, ◌∙◌, ◌++◌, ℕ, Bool, true, false, List, [], ◌∷◌, refl, sym, ap, take}
use Rattle.std.specs.Prelude.{◌||◌, cond, filter, if◌then◌else◌}
use Rattle.std.proofs.lemmas.Bool.{true≢false}
use Rattle.party_gate.specs.Lines.{whole_lines}
use Rattle.party_gate.specs.Passing.{end_with, ends_as, is_last, is_own, longest_line, passed, passed_as, passed_on, told_to, unless_ended, whose_is}
use Rattle.party_gate.specs.Promises.{is_for, lines_for}
use Rattle.party_gate.specs.declared.passing.Whose.{Whose}
use Rattle.party_gate.specs.declared.passing.Whose.TheVariants as whose

others_whose : (x y : Bool) → (x || y) ≡ false → (if x then whose.Last else if y then whose.Own else whose.Others) ≡ whose.Others
others_whose true y e = absurd (true≢false e)
others_whose false true e = absurd (true≢false e)
others_whose false false e = refl

-- a line that the party may not see
others_line : (name line : List ℕ) → is_for name line ≡ false → whose_is name line ≡ whose.Others
unfolding whose_is
others_line name line e = others_whose (is_last (take longest_line line)) (is_own name (take longest_line line)) e

left_out : (name line : List ℕ) (text : List ℕ) → whose_is name line ≡ whose.Others → passed name line ++ unless_ended (end_with name line) text ≡ text
left_out name line text e = ap (λ (w : Whose). passed_as w line ++ unless_ended (ends_as w line) text) e

pub of_own : (name : List ℕ) (lines : List (List ℕ)) → passed_on name lines ≡ passed_on name (filter (is_for name) lines)
unfolding passed_on
of_own name [] = refl
of_own name (line ∷ lines) = step (of_own name lines) (is_for name line) refl
  where
    step : passed_on name lines ≡ passed_on name (filter (is_for name) lines) → (x : Bool) → is_for name line ≡ x → passed name line ++ unless_ended (end_with name line) (passed_on name lines) ≡ passed_on name (cond x (line ∷ filter (is_for name) lines) (filter (is_for name) lines))
    step ih true e = ap (λ (text : List ℕ). passed name line ++ unless_ended (end_with name line) text) ih
    step ih false e = left_out name line (passed_on name lines) (others_line name line e) ∙ ih

pub own_alone : (name one other : List ℕ) → lines_for name one ≡ lines_for name other → told_to name one ≡ told_to name other
own_alone name one other same = of_own name (whole_lines one) ∙ ap (passed_on name) same ∙ sym (of_own name (whole_lines other))
