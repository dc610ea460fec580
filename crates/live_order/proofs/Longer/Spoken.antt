-- A history that speaks of the first k messages alone tells nothing of the others, and tests that agree on those tell the same.
use Rattle.std.proofs.Common.{◌≡◌, ℕ, suc, ◌<◌, ◌≤◌, arith, Bool, false, [], ◌∷◌, length, Option, None, refl, ap}
use Rattle.std.specs.Option.{option_or}
use Rattle.std.proofs.lemmas.Bool.{and_right, ne_eqb}
use Rattle.commit_journal.specs.Line.{Line, History}
use Rattle.machine.specs.Words.{when, some_passes}
use Rattle.machine.specs.Telling.History.{is_ok, is_in_of, place_of, read_first, taken, taken_code, is_accepted}
use Rattle.live_order.specs.Longer.{SpeaksOf}

other_line : (k n : ℕ) (l : Line) → l.head.msg ≤ k → k < n → is_in_of n l ≡ false
other_line k n l low high = and_right _ _ (ne_eqb l.head.msg n (λ e. omega (arith, e, low, high)))

pub never_taken : (k n : ℕ) (J : History) → SpeaksOf k J → k < n → taken J n ≡ None
unfolding place_of
never_taken k n [] s h = refl
never_taken k n (l ∷ J) s h = λ i. option_or (never_taken k n J s.0 h i) (when (other_line k n l s.1 h i) (suc (length J)))

never_coded : (k n : ℕ) (J : History) → SpeaksOf k J → k < n → taken_code J n ≡ None
unfolding read_first
never_coded k n [] s h = refl
never_coded k n (l ∷ J) s h = λ i. option_or (never_coded k n J s.0 h i) (when (other_line k n l s.1 h i) l.head.code)

pub never_accepted : (k n : ℕ) (J : History) → SpeaksOf k J → k < n → is_accepted J n ≡ false
never_accepted k n J s h = ap (some_passes is_ok) (never_coded k n J s h)

pub place_same : (k : ℕ) (t u : Line → Bool) → ((l : Line) → l.head.msg ≤ k → t l ≡ u l) → (J : History) → SpeaksOf k J → place_of t J ≡ place_of u J
unfolding place_of
place_same k t u same [] s = refl
place_same k t u same (l ∷ J) s = λ i. option_or (place_same k t u same J s.0 i) (when (same l s.1 i) (suc (length J)))

pub read_same : {X : Type 0} (k : ℕ) (t u : Line → Option X) → ((l : Line) → l.head.msg ≤ k → t l ≡ u l) → (J : History) → SpeaksOf k J → read_first t J ≡ read_first u J
unfolding read_first
read_same k t u same [] s = refl
read_same k t u same (l ∷ J) s = λ i. option_or (read_same k t u same J s.0 i) (same l s.1 i)
