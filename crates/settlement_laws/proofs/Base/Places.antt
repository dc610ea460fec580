-- What a pushed line does to what a history tells.
use Rattle.std.proofs.Common.{◌≡◌, ℕ, suc, ◌≤◌, ◌&&◌, ◌∷◌, Bool, true, false, Option, Some, None, refl, ap, ◌∙◌, arith}
use Rattle.std.specs.Prelude.{is_some, length, nat_eq}
use Rattle.std.specs.Option.{option_or}
use Rattle.std.proofs.lemmas.Bool.{eq-eqb}
use Rattle.commit_journal.specs.Line.{Line, History}
use Rattle.machine.specs.Words.{when}
use Rattle.machine.specs.Telling.History.{place_of}
use Rattle.settlement_laws.proofs.Base.Sums.{bit}

-- a line leaves what was found found
pub place-grows : (test : Line → Bool) (l : Line) (J : History) → bit (is_some (place_of test J)) ≤ bit (is_some (place_of test (l ∷ J)))
unfolding place_of
place-grows test l J = go (place_of test J) (when (test l) (suc (length J)))
  where
    go : (o p : Option ℕ) → bit (is_some o) ≤ bit (is_some (option_or o p))
    go None None = omega arith
    go None (Some i) = omega arith
    go (Some i) p = omega arith

-- a line that doesn't pass changes nothing
pub place-other : (test : Line → Bool) (l : Line) (J : History) → test l ≡ false → place_of test (l ∷ J) ≡ place_of test J
unfolding place_of
place-other test l J h = ap (λ b. option_or (place_of test J) (when b (suc (length J)))) h ∙ go (place_of test J)
  where
    go : (o : Option ℕ) → option_or o None ≡ o
    go None = refl
    go (Some i) = refl

pub same-number : (n : ℕ) → nat_eq n n ≡ true
same-number n = eq-eqb n n refl

pub same-numbers : (n k : ℕ) → (nat_eq n n && nat_eq k k) ≡ true
same-numbers n k = (λ i. same-number n i && same-number k i)
