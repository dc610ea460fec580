-- The groups that a want needs hold its accounts, with their balances.
use Rattle.std.proofs.Common.{◌≡◌, ℕ, zero, suc, ◌+◌, ◌%◌, ◌<◌, ◌≤◌, List, [], ◌∷◌, map, length, Bool, true, false, ◌||◌, Some, None, is_some, refl, sym, ap, ◌∙◌, subst, arith, add-zero}
use Rattle.std.specs.Prelude.{nat_eq, slice_index_or}
use Rattle.std.specs.List.{list_all}
use Rattle.std.proofs.lemmas.Bool.{and_from, and_parts, false≢true}
use Rattle.std.proofs.lemmas.Bool.Decides.{nat_tests}
use Rattle.std.specs.Sync.Mutex.{mutex_guard_value}
use Rattle.batch_records.specs.DayRecord.{Day}
use Rattle.commit_journal.specs.declared.line.Want.{Want}
use Rattle.commit_journal.specs.Line.{History}
use Rattle.machine.specs.Making.Accounts.{accounts_of_want}
use Rattle.rule_book.specs.Answering.{has_accounts}
use Rattle.machine.specs.Telling.Balances.{balance}
use Rattle.machine.specs.Words.{when}
use Rattle.settlement_laws.proofs.Base.Sums.{all-from}
use Rattle.settle_floor.specs.Tills.{KeepsBalances}
use Rattle.settle_floor.proofs.HeldFacts.{all_held}
use Rattle.lock_book.specs.Locked.{AllSeen, HasSeen, held_by, holdings_of, is_account, Lock}
use Rattle.lock_book.specs.Needs.{is_needed}

-- ---- the accounts of a want are accounts of the day

account_there : (day : Day) (k : ℕ) → 1 ≤ k → k < 1 + length day.accounts → is_account day k ≡ true
account_there day k from to = grind (arith, nat_tests)

are_accounts : (day : Day) (want : Want) → list_all (is_account day) (accounts_of_want day want) ≡ true
are_accounts day want = all_held (is_account day) day (all-from (is_account day) 1 (length day.accounts) (λ k from to. account_there day k from to)) want

-- ---- the groups that are needed

-- the locks that are taken are those of the groups that the accounts need, from group n on
abbrev pub AllFit : List ℕ → ℕ → List Lock → Type 0
AllFit accounts n [] = Unit {0}
AllFit accounts n (l ∷ ls) = (is_some l ≡ is_needed accounts n) × AllFit accounts (n + 1) ls

fit_at : (accounts : List ℕ) (n k : ℕ) (ls : List Lock) → AllFit accounts n ls → k < length ls → is_some (slice_index_or ls k None) ≡ is_needed accounts (n + k)
fit_at accounts n k [] all low = absurd (omega arith)
fit_at accounts n zero (l ∷ ls) all low = all.0 ∙ ap (is_needed accounts) (sym (add-zero n))
fit_at accounts n (suc k) (l ∷ ls) all low =
    let e : n + 1 + k ≡ n + suc k = omega arith in
    fit_at accounts (n + 1) k ls all.1 (omega arith) ∙ ap (is_needed accounts) e

head_needed : (a : ℕ) (rest : List ℕ) → is_needed (a ∷ rest) (a % 8) ≡ true
head_needed a rest = let t : nat_eq (a % 8) (a % 8) ≡ true = grind (arith, nat_tests) in ap (λ b. b || is_needed rest (a % 8)) t

tail_needed : (a n : ℕ) (rest : List ℕ) → is_needed rest n ≡ true → is_needed (a ∷ rest) n ≡ true
tail_needed a n rest h = ap (λ b. nat_eq (a % 8) n || b) h ∙ or_true (nat_eq (a % 8) n)
  where
    or_true : (b : Bool) → (b || true) ≡ true
    or_true true = refl
    or_true false = refl

all_in_groups : (xs : List ℕ) (taken : ℕ → Bool) → ((n : ℕ) → n < 8 → is_needed xs n ≡ true → taken n ≡ true) → list_all (λ a. taken (a % 8)) xs ≡ true
all_in_groups [] taken h = refl
all_in_groups (x ∷ xs) taken h =
    and_from (taken (x % 8)) (list_all (λ a. taken (a % 8)) xs) (h (x % 8) (omega arith) (head_needed x xs))
    (all_in_groups xs taken (λ n low need. h n low (tail_needed x n xs need)))

both : (f g h : ℕ → Bool) (xs : List ℕ) → ((a : ℕ) → f a ≡ true → g a ≡ true → h a ≡ true) → list_all f xs ≡ true → list_all g xs ≡ true → list_all h xs ≡ true
both f g h [] each p q = refl
both f g h (x ∷ xs) each p q =
    let p' = and_parts (f x) (list_all f xs) p in
    let q' = and_parts (g x) (list_all g xs) q in
    and_from (h x) (list_all h xs) (each x p'.0 q'.0) (both f g h xs each p'.1 q'.1)

here : (day : Day) (l : Lock) (a : ℕ) → is_some l ≡ true → is_account day a ≡ true → is_some (held_by day l a) ≡ true
here day None a there account = absurd (false≢true there)
here day (Some g) a there account = ap (λ b. is_some (when b (balance day (mutex_guard_value g) a))) account

-- the groups that a want needs hold the accounts that its line may touch
pub holds_all : (day : Day) (want : Want) (ls : List Lock) → length ls ≡ 8 → AllFit (accounts_of_want day want) 0 ls → has_accounts (λ a. is_some (holdings_of day ls a)) day want ≡ true
holds_all day want ls eight all =
    let xs : List ℕ = accounts_of_want day want in
    both (λ a. is_some (slice_index_or ls (a % 8) None)) (is_account day) (λ a. is_some (holdings_of day ls a)) xs
    (λ a there account. here day (slice_index_or ls (a % 8) None) a there account)
    (all_in_groups xs (λ n. is_some (slice_index_or ls n None)) (λ n low need. fit_at xs 0 n ls all (omega (arith, low, eight)) ∙ subst (λ (k : ℕ). is_needed xs k ≡ true) (sym (zero_add n)) need))
    (are_accounts day want)
  where
    zero_add : (n : ℕ) → 0 + n ≡ n
    zero_add n = omega arith

-- ---- what is held

seen_at : (ls : List Lock) (J : History) → AllSeen ls J → (k : ℕ) → HasSeen (slice_index_or ls k None) J
seen_at [] J all k = tt
seen_at (l ∷ ls) J all zero = all.0
seen_at (l ∷ ls) J all (suc k) = seen_at ls J all.1 k

kept_by : (day : Day) (l : Lock) (J : History) → HasSeen l J → (a held : ℕ) → held_by day l a ≡ Some held → held ≡ balance day J a
kept_by day None J seen a held e = cc
kept_by day (Some g) J seen a held e = amount (is_account day a) e ∙ ap (λ (P : History). balance day P a) seen
  where
    amount : (b : Bool) → when b (balance day (mutex_guard_value g) a) ≡ Some held → held ≡ balance day (mutex_guard_value g) a
    amount true f = same f
      where
        same : Some (balance day (mutex_guard_value g) a) ≡ Some held → held ≡ balance day (mutex_guard_value g) a
        same f = cc
    amount false f = cc

-- what is held is over what was seen
pub keeps : (day : Day) (ls : List Lock) (J : History) → AllSeen ls J → KeepsBalances (holdings_of day ls) day J
keeps day ls J all a held e = kept_by day (slice_index_or ls (a % 8) None) J (seen_at ls J all (a % 8)) a held e

same_at : (ls ms : List Lock) → map is_some ls ≡ map is_some ms → (k : ℕ) → is_some (slice_index_or ls k None) ≡ is_some (slice_index_or ms k None)
same_at [] [] e k = refl
same_at [] (m ∷ ms) e k = absurd (cc)
same_at (l ∷ ls) [] e k = absurd (cc)
same_at (l ∷ ls) (m ∷ ms) e zero = cc
same_at (l ∷ ls) (m ∷ ms) e (suc k) = let t : map is_some ls ≡ map is_some ms = cc in same_at ls ms t k

same_held : (day : Day) (l m : Lock) (a : ℕ) → is_some l ≡ is_some m → is_some (held_by day l a) ≡ is_some (held_by day m a)
same_held day None None a e = refl
same_held day None (Some h) a e = cc
same_held day (Some g) None a e = cc
same_held day (Some g) (Some h) a e = by_test (is_account day a)
  where
    by_test : (b : Bool) → is_some (when b (balance day (mutex_guard_value g) a)) ≡ is_some (when b (balance day (mutex_guard_value h) a))
    by_test true = refl
    by_test false = refl

-- the accounts of the same groups are at hand
pub holds_still : (day : Day) (want : Want) (ls ms : List Lock) → map is_some ls ≡ map is_some ms → has_accounts (λ a. is_some (holdings_of day ms a)) day want ≡ true → has_accounts (λ a. is_some (holdings_of day ls a)) day want ≡ true
holds_still day want ls ms e h = ap (λ (test : ℕ → Bool). list_all test (accounts_of_want day want)) same ∙ h
  where
    same : ◌≡◌ {A = ℕ → Bool} (λ a. is_some (holdings_of day ls a)) (λ a. is_some (holdings_of day ms a))
    same = λ j a. same_held day (slice_index_or ls (a % 8) None) (slice_index_or ms (a % 8) None) a (same_at ls ms e (a % 8)) j
