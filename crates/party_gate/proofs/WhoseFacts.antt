-- Whose a line is that isn't too long.
use Rattle.std.proofs.Common.{◌≡◌, ◌∙◌, ◌≤◌, ℕ, Bool, true, false, List, length, sym, ap}
use Rattle.std.specs.Prelude.{if◌then◌else◌}
use Rattle.std.proofs.lemmas.List.{take_all}
use Rattle.party_gate.specs.Passing.{is_last, is_own, longest_line, whose_is}
use Rattle.party_gate.specs.declared.passing.Whose.{Whose}
use Rattle.party_gate.specs.declared.passing.Whose.TheVariants as whose

abbrev by_tests : Bool → Bool → Whose
by_tests last own = if last then whose.Last else if own then whose.Own else whose.Others

whole : (name line : List ℕ) → length line ≤ longest_line → whose_is name line ≡ by_tests (is_last line) (is_own name line)
unfolding whose_is
whole name line short = ap (λ (front : List ℕ). by_tests (is_last front) (is_own name front)) (take_all longest_line line short)

pub is_lasts : (name line : List ℕ) → length line ≤ longest_line → is_last line ≡ true → whose.Last ≡ whose_is name line
is_lasts name line short e = sym (whole name line short ∙ ap (λ (x : Bool). by_tests x (is_own name line)) e)

pub is_owns : (name line : List ℕ) → length line ≤ longest_line → is_last line ≡ false → is_own name line ≡ true → whose.Own ≡ whose_is name line
is_owns name line short e own = sym (whole name line short ∙ ap (λ (x : Bool). by_tests x (is_own name line)) e ∙ ap (λ (x : Bool). by_tests false x) own)

pub is_others : (name line : List ℕ) → length line ≤ longest_line → is_last line ≡ false → is_own name line ≡ false → whose.Others ≡ whose_is name line
is_others name line short e own = sym (whole name line short ∙ ap (λ (x : Bool). by_tests x (is_own name line)) e ∙ ap (λ (x : Bool). by_tests false x) own)
