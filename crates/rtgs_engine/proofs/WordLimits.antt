-- The numbers of a command line are within their limits.
use Rattle.std.proofs.Common.{◌≡◌, ℕ, ◌+◌, ◌-◌, ◌*◌, ◌≤◌, ◌<◌, Bool, true, false, ◌&&◌, List, [], ◌∷◌, Option, Some, None, length, refl, subst, arith}
use Rattle.std.specs.Prelude.{if◌then◌else◌, bytes_eq, nat_le, option_map, IfSome, codes, take, drop, ⊤}
use Rattle.std.proofs.lemmas.Bool.{and_parts, leb-true}
use Rattle.std.proofs.lemmas.Grind.{common_steps}
use Rattle.cash_amounts.specs.Names.{is_digit, is_name}
use Rattle.machine.specs.Words.{when}
use Rattle.rtgs_engine.specs.CommandLines.{batches_of, command_of, count_behind, count_of, count_of_two, first_of, from, number_of, seed_of, trial_by, trial_of, trial_of_four, trial_of_three, usual_workers, with_digits}
use Rattle.rtgs_engine.specs.Trials.{IsInRange}
use Rattle.rtgs_engine.specs.declared.words.Command.{Command}
use Rattle.rtgs_engine.specs.declared.words.Command.TheVariants as commands
use Rattle.rtgs_engine.specs.declared.words.Trial.{Trial}

-- ---- workers

abbrev IsFew : Option ℕ → Type 0
IsFew count = IfSome count (λ k. k ≤ 8)

digit : (d : ℕ) (b : Bool) → nat_le 48 d && nat_le d 56 ≡ b → IsFew (when b (d - 48))
digit d true e =
    let most = (and_parts (nat_le 48 d) (nat_le d 56) e).1 in
    grind (arith, common_steps, most)
digit d false e = tt

of_digit : (text : List ℕ) → IsFew (count_of text)
of_digit [] = tt
of_digit (d ∷ []) = digit d (nat_le 48 d && nat_le d 56) refl
of_digit (d ∷ e ∷ more) = tt

behind : (word : List ℕ) → IsFew (count_behind word)
behind word = go (bytes_eq (take 10 word) (codes "--workers=")) refl
  where
    go : (b : Bool) → bytes_eq (take 10 word) (codes "--workers=") ≡ b → IsFew (count_behind word)
    go true e = rw e (of_digit (drop 10 word))
    go false e = rw e tt

of_two : (option count : List ℕ) → IsFew (count_of_two option count)
of_two option count = go (bytes_eq option (codes "--workers")) refl
  where
    go : (b : Bool) → bytes_eq option (codes "--workers") ≡ b → IsFew (count_of_two option count)
    go true e = rw e (of_digit count)
    go false e = rw e tt

-- ---- the numbers of a trial

-- a number that is there lies from least to most
abbrev IsFrom : ℕ → ℕ → Option ℕ → Type 0
IsFrom least most number = IfSome number (λ n. (least ≤ n) × (n ≤ most))

digits_within : (most n : ℕ) (text : List ℕ) → n ≤ most → IfSome (with_digits most n text) (λ m. m ≤ most)
digits_within most n [] small = small
digits_within most n (c ∷ text) small = go (is_digit c && nat_le (10 * n + (c - 48)) most) refl (digits_within most (10 * n + (c - 48)) text)
  where
    go : (b : Bool) → is_digit c && nat_le (10 * n + (c - 48)) most ≡ b → (10 * n + (c - 48) ≤ most → IfSome (with_digits most (10 * n + (c - 48)) text) (λ m. m ≤ most)) →
        IfSome (if b then with_digits most (10 * n + (c - 48)) text else None) (λ m. m ≤ most)
    go true e more = more (leb-true _ _ (and_parts (is_digit c) (nat_le (10 * n + (c - 48)) most) e).1)
    go false e more = tt

from_within : (least most : ℕ) (number : Option ℕ) → IfSome number (λ m. m ≤ most) → IsFrom least most (from least number)
from_within least most None small = tt
from_within least most (Some n) small = go (nat_le least n) refl
  where
    go : (b : Bool) → nat_le least n ≡ b → IsFrom least most (when b n)
    go true e = (leb-true least n e, small)
    go false e = tt

number_within : (digits least most : ℕ) (text : List ℕ) → IsFrom least most (number_of digits least most text)
number_within digits least most text = go (nat_le 1 (length text) && nat_le (length text) digits)
  where
    go : (b : Bool) → IsFrom least most (if b then from least (with_digits most 0 text) else None)
    go true = from_within least most (with_digits most 0 text) (digits_within most 0 text (omega arith))
    go false = tt

trial_within : (workers seed batches : Option ℕ) → IsFew workers → IsFrom 0 2147483647 seed → IsFrom 1 10000 batches → IfSome (trial_by workers seed batches) IsInRange
trial_within (Some w) (Some s) (Some b) few seed batches = record { seed = omega (arith, seed.1); least = batches.0; most = batches.1; few = few }
trial_within None s b few seed batches = tt
trial_within (Some w) None b few seed batches = tt
trial_within (Some w) (Some s) None few seed batches = tt

of_trial : (workers : Option ℕ) (seed batches : List ℕ) → IsFew workers → IfSome (trial_of workers seed batches) IsInRange
of_trial workers seed batches few = trial_within workers (seed_of seed) (batches_of batches) few (number_within 10 0 2147483647 seed) (number_within 5 1 10000 batches)

of_first : (trial other : Option Trial) → IfSome trial IsInRange → IfSome other IsInRange → IfSome (first_of trial other) IsInRange
of_first (Some t) other one more = one
of_first None other one more = more

-- ---- commands

-- the numbers of a command
abbrev Fits : Command → Type 0
Fits (commands.Settle workers) = workers ≤ 8
Fits (commands.Trial trial) = IsInRange trial
Fits _ = ⊤

settles : (count : Option ℕ) → IsFew count → IfSome (option_map commands.Settle count) Fits
settles None few = tt
settles (Some k) few = few

tries : (trial : Option Trial) → IfSome trial IsInRange → IfSome (option_map commands.Trial trial) Fits
tries None is = tt
tries (Some t) is = is

follows : (name : List ℕ) (b : Bool) → IfSome (if b then Some (commands.Follow name) else None) Fits
follows name true = tt
follows name false = tt

-- of two ways
either : (b : Bool) (x y : Option Command) → IfSome x Fits → IfSome y Fits → IfSome (if b then x else y) Fits
either true x y one other = one
either false x y one other = other

fits : (words : List (List ℕ)) → IfSome (command_of words) Fits
fits [] = tt
fits (word ∷ []) = either (bytes_eq word (codes "settle")) _ _ (omega arith) (either (bytes_eq word (codes "check")) _ _ tt (either (bytes_eq word (codes "migrate")) _ _ tt (either (bytes_eq word (codes "replay")) _ _ tt tt)))
fits (word ∷ other ∷ []) = either (bytes_eq word (codes "settle")) _ _ (settles (count_behind other) (behind other)) (either (bytes_eq word (codes "follow")) _ _ (follows other (is_name other)) tt)
fits (word ∷ a ∷ b ∷ []) =
    either (bytes_eq word (codes "settle")) _ _ (settles (count_of_two a b) (of_two a b))
    (either (bytes_eq word (codes "trial")) _ _ (tries (trial_of (Some usual_workers) a b) (of_trial (Some usual_workers) a b (omega arith))) tt)
fits (word ∷ a ∷ b ∷ c ∷ []) =
    either (bytes_eq word (codes "trial")) _ _
    (tries (trial_of_three a b c) (of_first _ _ (of_trial (count_behind a) b c (behind a)) (of_first _ _ (of_trial (count_behind b) a c (behind b)) (of_trial (count_behind c) a b (behind c))))) tt
fits (word ∷ a ∷ b ∷ c ∷ d ∷ []) =
    either (bytes_eq word (codes "trial")) _ _
    (tries (trial_of_four a b c d) (of_first _ _ (of_trial (count_of_two a b) c d (of_two a b)) (of_first _ _ (of_trial (count_of_two b c) a d (of_two b c)) (of_trial (count_of_two c d) a b (of_two c d))))) tt
fits (word ∷ a ∷ b ∷ c ∷ d ∷ e ∷ more) = tt

pub few_workers : (words : List (List ℕ)) (w : ℕ) → command_of words ≡ Some (commands.Settle w) → w ≤ 8
few_workers words w e = subst (λ o. IfSome o Fits) e (fits words)

pub trial_in_range : (words : List (List ℕ)) (trial : Trial) → command_of words ≡ Some (commands.Trial trial) → IsInRange trial
trial_in_range words trial e = subst (λ o. IfSome o Fits) e (fits words)
