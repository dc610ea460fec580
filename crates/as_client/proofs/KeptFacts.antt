-- Lists of what is kept by number, with one item changed, and made of one item more.
use Rattle.std.proofs.Common.{◌≡◌, ℕ, zero, suc, ◌+◌, ◌-◌, ◌<◌, ◌≤◌, Bool, true, false, List, [], ◌∷◌, ◌++◌, length, map, take, get_or, slice_get, slice_set, nat_eq, Option, None, Some, refl, ap, ◌∙◌, sym, if◌then◌else◌, arith}
use Rattle.std.specs.Option.{option_map, option_and_then}
use Rattle.std.proofs.lemmas.List.{map-append, take_more}
use Rattle.std.proofs.lemmas.Option.{slice_get_within}
use Rattle.std.proofs.lemmas.Bool.{eqb-true, eq-eqb}
use Rattle.cash_amounts.specs.declared.records.AccountRecord.{AccountRecord}
use Rattle.cash_amounts.specs.Numbers.{numbered}
use Rattle.cash_amounts.specs.Tests.{same_name}
use Rattle.account_book.specs.Directory.{account_name, find_account}
use Rattle.account_book.proofs.SoundLemmas.{find_account-name, own_name, same_names}
use Rattle.machine.specs.Words.{is_zero}
use Rattle.status_messages.specs.declared.status.TurnCode.{TurnCode}
use Rattle.as_client.specs.declared.view.Word.{Word}
use Rattle.as_client.specs.PartyWords.{is_about, word_after}
use Rattle.as_client.specs.Knowing.{HoldsNow, Known, Turned, kept, word_kept}

set_same : {X : Type 0} (xs : List X) (i : ℕ) (y : X) → i < length xs → slice_get (slice_set xs i y) i ≡ Some y
set_same [] i y within = absurd (omega arith)
set_same (x ∷ xs) zero y within = refl
set_same (x ∷ xs) (suc i) y within = set_same xs i y (omega arith)

set_other : {X : Type 0} (xs : List X) (i k : ℕ) (y : X) → (i ≡ k → ⊥) → slice_get (slice_set xs i y) k ≡ slice_get xs k
set_other [] i k y apart = refl
set_other (x ∷ xs) zero zero y apart = absurd (apart refl)
set_other (x ∷ xs) zero (suc k) y apart = refl
set_other (x ∷ xs) (suc i) zero y apart = refl
set_other (x ∷ xs) (suc i) (suc k) y apart = set_other xs i k y (λ e. apart (ap suc e))

pub numbered_same : {X : Type 0} (xs : List X) (a : ℕ) (y : X) → 0 < a → a ≤ length xs → numbered (slice_set xs (a - 1) y) a ≡ Some y
numbered_same xs zero y least most = absurd (omega arith)
numbered_same xs (suc i) y least most = let back : suc i - 1 ≡ i = omega arith in rw back (set_same xs i y (omega arith))

pub numbered_other : {X : Type 0} (xs : List X) (a b : ℕ) (y : X) → 0 < a → (a ≡ b → ⊥) → numbered (slice_set xs (a - 1) y) b ≡ numbered xs b
numbered_other xs zero b y least apart = absurd (omega arith)
numbered_other xs (suc i) zero y least apart = refl
numbered_other xs (suc i) (suc k) y least apart = let back : suc i - 1 ≡ i = omega arith in rw back (set_other xs i k y (λ e. apart (ap suc e)))

numbered_within : {X : Type 0} (xs : List X) (a : ℕ) (x : X) → numbered xs a ≡ Some x → (0 < a) × (a ≤ length xs)
numbered_within xs zero x there = cc
numbered_within xs (suc i) x there = let within = slice_get_within xs i x there in (omega arith, omega arith)

-- one item more
pub mapped-more : {X Y : Type 0} (f : X → Y) (xs : List X) (i : ℕ) (x : X) (old new : List Y) → i < length xs → x ≡ get_or xs i x → old ≡ map f (take i xs) → new ≡ old ++ f x ∷ []
    → new ≡ map f (take (i + 1) xs)
mapped-more f xs i x old new within is before next =
    next ∙ ap (λ ys. ys ++ f x ∷ []) before ∙ sym (map-append f (take i xs) (x ∷ [])) ∙ ap (λ y. map f (take i xs ++ y ∷ [])) is ∙ ap (map f) (sym (take_more xs i x within))

-- the balance of one account is set
module _ (accounts : List AccountRecord) (balances : List (Option ℕ)) (account : List ℕ) (a balance : ℕ) (found : find_account accounts account ≡ Some a) (least : 0 < a) (most : a ≤ length balances) where
  pub held_now : (other : List ℕ) → option_and_then (λ b. kept (numbered (slice_set balances (a - 1) (Some balance)) b)) (find_account accounts other)
      ≡ (if same_name account other then Some balance else option_and_then (λ b. kept (numbered balances b)) (find_account accounts other))
  held_now other = by (same_name account other) refl
    where
      apart : (b : ℕ) → same_name account other ≡ false → find_account accounts other ≡ Some b → a ≡ b → ⊥
      apart b differ there same =
          let one = find_account-name accounts account a found in
          let two = find_account-name accounts other b there in
          let names : account ≡ other = sym one ∙ ap (account_name accounts) same ∙ two in
          let clash = sym (own_name account) ∙ ap (same_name account) names ∙ differ in
          cc

      elsewhere : (o : Option ℕ) → same_name account other ≡ false → find_account accounts other ≡ o
          → option_and_then (λ b. kept (numbered (slice_set balances (a - 1) (Some balance)) b)) o ≡ option_and_then (λ b. kept (numbered balances b)) o
      elsewhere None differ there = refl
      elsewhere (Some b) differ there = ap kept (numbered_other balances a b (Some balance) least (apart b differ there))

      by : (b : Bool) → same_name account other ≡ b → option_and_then (λ b. kept (numbered (slice_set balances (a - 1) (Some balance)) b)) (find_account accounts other)
          ≡ (if b then Some balance else option_and_then (λ b. kept (numbered balances b)) (find_account accounts other))
      by true same =
          let here : find_account accounts other ≡ Some a = ap (find_account accounts) (sym (same_names account other same)) ∙ found in
          ap (option_and_then (λ b. kept (numbered (slice_set balances (a - 1) (Some balance)) b))) here ∙ ap kept (numbered_same balances a (Some balance) least most)
      by false differ = elsewhere (find_account accounts other) differ refl

pub holds_now : (old : Known) (account : List ℕ) (a balance : ℕ) → find_account old.setup.accounts account ≡ Some a → 0 < a → a ≤ length old.balances
    → HoldsNow old (record { name = old.name; setup = old.setup; balances = slice_set old.balances (a - 1) (Some balance); words = old.words }) account balance
holds_now old account a balance found least most =
    record { name = refl; setup = refl; words = refl; balances = held_now old.setup.accounts old.balances account a balance found least most }

-- ---- one word is set

pub turned : (old : Known) (turn : TurnCode) (msg entry : ℕ) (word : Word) → entry ≡ 0 → word_kept old msg ≡ Some word
    → Turned old (record { name = old.name; setup = old.setup; balances = old.balances; words = slice_set old.words (msg - 1) (Some (word_after turn word)) }) turn msg entry
turned old turn msg entry word whole there = record { name = refl; setup = refl; balances = refl; words = λ n. by n (nat_eq msg n) refl }
  where
    inside : (o : Option (Option Word)) → numbered old.words msg ≡ o → kept o ≡ Some word → (0 < msg) × (msg ≤ length old.words)
    inside None at e = cc
    inside (Some item) at e = (numbered_within old.words msg item at)

    bounds : (0 < msg) × (msg ≤ length old.words)
    bounds = inside (numbered old.words msg) refl there

    by : (n : ℕ) (b : Bool) → nat_eq msg n ≡ b → kept (numbered (slice_set old.words (msg - 1) (Some (word_after turn word))) n)
        ≡ (if is_about n msg entry then option_map (word_after turn) (word_kept old n) else word_kept old n)
    by n true e =
        let same : msg ≡ n = eqb-true msg n e in
        let zero_is : is_zero entry ≡ true = ap is_zero whole in
        let here : word_kept old n ≡ Some word = ap (word_kept old) (sym same) ∙ there in
        rw (e, zero_is, here) (ap (λ k. kept (numbered (slice_set old.words (msg - 1) (Some (word_after turn word))) k)) (sym same) ∙ ap kept (numbered_same old.words msg (Some (word_after turn word)) bounds.0 bounds.1))
    by n false e = rw e (ap kept (numbered_other old.words msg n (Some (word_after turn word)) bounds.0 (λ same. let clash = sym e ∙ ap (λ k. nat_eq k n) same ∙ eq-eqb n n refl in cc)))

pub not_turned : (old : Known) (turn : TurnCode) (msg entry : ℕ) → (entry ≡ 0 → word_kept old msg ≡ None) → Turned old old turn msg entry
not_turned old turn msg entry none = record { name = refl; setup = refl; balances = refl; words = λ n. by n entry none (nat_eq msg n) refl }
  where
    by : (n entry : ℕ) → (entry ≡ 0 → word_kept old msg ≡ None) → (b : Bool) → nat_eq msg n ≡ b
        → word_kept old n ≡ (if is_about n msg entry then option_map (word_after turn) (word_kept old n) else word_kept old n)
    by n entry none false e = rw e refl
    by n (suc k) none true e = rw e refl
    by n zero none true e =
        let here : word_kept old n ≡ None = ap (word_kept old) (sym (eqb-true msg n e)) ∙ none refl in
        rw (e, here) refl
