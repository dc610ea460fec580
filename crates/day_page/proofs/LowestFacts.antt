-- The lowest balance is that of some beginning of the journal, and at none it was lower.
use Rattle.std.proofs.Common.{◌≡◌, ◌∙◌, ℕ, ◌≤◌, ◌<◌, Bool, true, false, List, [], ◌∷◌, ◌++◌, refl, sym, ap, arith, inl, inr, subst}
use Rattle.std.specs.Prelude.{min, nat_lt, ◌⊎◌}
use Rattle.std.proofs.lemmas.Bool.{ltb-false, ltb-true}
use Rattle.batch_records.specs.DayRecord.{Day}
use Rattle.commit_journal.specs.Line.{History}
use Rattle.commit_journal.specs.Histories.{Begins}
use Rattle.day_page.specs.Courses.{lowest, total}
use Rattle.day_page.specs.Laws.{IsBelow, IsLowest}

one_of : (x y : ℕ) → (min x y ≡ x) ⊎ (min x y ≡ y)
one_of x y = go (nat_lt x y) refl
  where
    go : (b : Bool) → nat_lt x y ≡ b → (min x y ≡ x) ⊎ (min x y ≡ y)
    go true e = let h : x < y = ltb-true x y e in inl (omega (arith, h))
    go false e = let h : y ≤ x = ltb-false x y e in inr (omega (arith, h))

pub is_lowest : IsLowest
unfolding lowest
is_lowest day accounts [] = ([], ([], refl), refl)
is_lowest day accounts (l ∷ J) = here (one_of (lowest day accounts J) (total day accounts (l ∷ J))) (is_lowest day accounts J)
  where
    here : (min (lowest day accounts J) (total day accounts (l ∷ J)) ≡ lowest day accounts J) ⊎ (min (lowest day accounts J) (total day accounts (l ∷ J)) ≡ total day accounts (l ∷ J)) →
        (P : History) × Begins P J × (lowest day accounts J ≡ total day accounts P) →
        (P : History) × Begins P (l ∷ J) × (min (lowest day accounts J) (total day accounts (l ∷ J)) ≡ total day accounts P)
    here (inl e) known = (known.0, (l ∷ known.1.0, ap (λ rest. l ∷ rest) known.1.1), e ∙ known.2)
    here (inr e) known = (l ∷ J, ([], refl), e)

self : (day : Day) (accounts : List ℕ) (J : History) → lowest day accounts J ≤ total day accounts J
unfolding lowest
self day accounts [] = omega arith
self day accounts (l ∷ J) = omega arith

below_more : (day : Day) (accounts : List ℕ) (more P : History) → lowest day accounts (more ++ P) ≤ total day accounts P
unfolding lowest
below_more day accounts [] P = self day accounts P
below_more day accounts (l ∷ more) P = let h : lowest day accounts (more ++ P) ≤ total day accounts P = below_more day accounts more P in omega (arith, h)

pub is_below : IsBelow
is_below day accounts J P begins = subst (λ (H : History). lowest day accounts H ≤ total day accounts P) (sym begins.1) (below_more day accounts begins.0 P)
