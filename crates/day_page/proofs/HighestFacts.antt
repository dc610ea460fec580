-- The highest balance, and the highest sum that waits, are those of some beginning of the journal, and at none they were higher.
use Rattle.std.proofs.Common.{◌≡◌, ◌∙◌, ℕ, ◌≤◌, ◌<◌, Bool, true, false, List, [], ◌∷◌, ◌++◌, refl, sym, ap, arith, inl, inr, subst}
use Rattle.std.specs.Prelude.{max, nat_lt, ◌⊎◌}
use Rattle.std.proofs.lemmas.Bool.{ltb-false, ltb-true}
use Rattle.batch_records.specs.DayRecord.{Day}
use Rattle.commit_journal.specs.Line.{History}
use Rattle.commit_journal.specs.Histories.{Begins}
use Rattle.day_page.specs.declared.words.Request.{Request}
use Rattle.day_page.specs.Courses.{highest, total}
use Rattle.day_page.specs.Laws.{FiguresHold, IsAbove, IsAboveAll, IsHighest, IsMost}
use Rattle.day_page.specs.Peaks.{peak}
use Rattle.day_page.specs.Waits.{waiting_cents}
use Rattle.day_page.proofs.LowestFacts.{is_below, is_lowest}
use Rattle.day_page.proofs.SeriesFacts.{series_ends}

one_of : (x y : ℕ) → (max x y ≡ x) ⊎ (max x y ≡ y)
one_of x y = go (nat_lt x y) refl
  where
    go : (b : Bool) → nat_lt x y ≡ b → (max x y ≡ x) ⊎ (max x y ≡ y)
    go true e = let h : x < y = ltb-true x y e in inr (omega (arith, h))
    go false e = let h : y ≤ x = ltb-false x y e in inl (omega (arith, h))

-- ---- the highest of any figure over all beginnings

abbrev pub most_of : (History → ℕ) → History → ℕ
most_of f [] = f []
most_of f (l ∷ J) = max (most_of f J) (f (l ∷ J))

one_is_most : (f : History → ℕ) (J : History) → (P : History) × Begins P J × (most_of f J ≡ f P)
one_is_most f [] = ([], ([], refl), refl)
one_is_most f (l ∷ J) = here (one_of (most_of f J) (f (l ∷ J))) (one_is_most f J)
  where
    here : (max (most_of f J) (f (l ∷ J)) ≡ most_of f J) ⊎ (max (most_of f J) (f (l ∷ J)) ≡ f (l ∷ J)) → (P : History) × Begins P J × (most_of f J ≡ f P) →
        (P : History) × Begins P (l ∷ J) × (max (most_of f J) (f (l ∷ J)) ≡ f P)
    here (inl e) known = (known.0, (l ∷ known.1.0, ap (λ rest. l ∷ rest) known.1.1), e ∙ known.2)
    here (inr e) known = (l ∷ J, ([], refl), e)

self : (f : History → ℕ) (J : History) → f J ≤ most_of f J
self f [] = omega arith
self f (l ∷ J) = omega arith

most_more : (f : History → ℕ) (more P : History) → f P ≤ most_of f (more ++ P)
most_more f [] P = self f P
most_more f (l ∷ more) P = let h : f P ≤ most_of f (more ++ P) = most_more f more P in omega (arith, h)

none_is_more : (f : History → ℕ) (J P : History) → Begins P J → f P ≤ most_of f J
none_is_more f J P begins = subst (λ (H : History). f P ≤ most_of f H) (sym begins.1) (most_more f begins.0 P)

-- ---- balances

highest_most : (day : Day) (accounts : List ℕ) (J : History) → highest day accounts J ≡ most_of (total day accounts) J
unfolding highest
highest_most day accounts [] = refl
highest_most day accounts (l ∷ J) = ap (λ n. max n (total day accounts (l ∷ J))) (highest_most day accounts J)

pub is_highest : IsHighest
is_highest day accounts J =
    let one = one_is_most (total day accounts) J in
    (one.0, one.1, highest_most day accounts J ∙ one.2)

pub is_above : IsAbove
is_above day accounts J P begins = let h = none_is_more (total day accounts) J P begins in let e = highest_most day accounts J in omega (arith, h, e)

-- ---- what waits

peak_most : (day : Day) (r : Request) (J : History) (p : ℕ) → peak day r J p ≡ most_of (λ H. waiting_cents day r H p) J
unfolding peak
peak_most day r [] p = refl
peak_most day r (l ∷ J) p = ap (λ n. max n (waiting_cents day r (l ∷ J) p)) (peak_most day r J p)

pub is_most : IsMost
is_most day r J p =
    let one = one_is_most (λ H. waiting_cents day r H p) J in
    (one.0, one.1, peak_most day r J p ∙ one.2)

pub is_above_all : IsAboveAll
is_above_all day r J P p begins = let h = none_is_more (λ H. waiting_cents day r H p) J P begins in let e = peak_most day r J p in omega (arith, h, e)

-- ---- all of them, over one journal

pub figures_hold : (day : Day) (r : Request) (J : History) → FiguresHold day r J
figures_hold day r J = record {
  series_ends = λ accounts n before. series_ends day accounts n J before;
  lowest_is_one = λ accounts. is_lowest day accounts J;
  lowest_is_least = λ accounts P begins. is_below day accounts J P begins;
  highest_is_one = λ accounts. is_highest day accounts J;
  highest_is_most = λ accounts P begins. is_above day accounts J P begins;
  peak_is_one = λ p. is_most day r J p;
  peak_is_most = λ p P begins. is_above_all day r J P p begins;
}
