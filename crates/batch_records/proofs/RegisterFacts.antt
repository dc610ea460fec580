-- An index of accounts, one account further, and what its numbers tell.
use Rattle.std.proofs.Common.{◌≡◌, ◌∙◌, ◌+◌, ◌&&◌, ◌||◌, ℕ, Bool, cond, List, [], ◌∷◌, ◌++◌, Option, Some, map, refl, sym, ap}
use Rattle.std.specs.Prelude.{bytes_eq, option_map}
use Rattle.std.specs.List.{position_from}
use Rattle.std.proofs.Math.Bool.{or-false}
use Rattle.std.proofs.lemmas.List.{map-append}
use Rattle.std.proofs.lemmas.List.Folds.{list_any-append}
use Rattle.cash_amounts.specs.Kinds.{is_dca}
use Rattle.cash_amounts.specs.SoundSetup.{owns_dca}
use Rattle.cash_amounts.specs.declared.records.AccountRecord.{AccountRecord}
use Rattle.message_names.specs.Names.{first_named}
use Rattle.batch_records.specs.Made.{number_named}
use Rattle.batch_records.proofs.NumberFacts.{counted_more}

module _ (accounts : List AccountRecord) (account : AccountRecord) where
  pub names_more : (before after : List (List ℕ)) → before ≡ map (λ a. a.name) accounts → after ≡ before ++ account.name ∷ [] → after ≡ map (λ a. a.name) (accounts ++ account ∷ [])
  names_more before after known entered =
      entered ∙ ap (λ names. names ++ account.name ∷ []) known ∙ sym (map-append (λ (a : AccountRecord). a.name) accounts (account ∷ []))

  pub banks_more : (before after : List ℕ → Bool) → ((bank : List ℕ) → before bank ≡ owns_dca accounts bank)
      → ((bank : List ℕ) → after bank ≡ (before bank || (is_dca account.kind && bytes_eq account.owner bank)))
      → (bank : List ℕ) → after bank ≡ owns_dca (accounts ++ account ∷ []) bank
  banks_more before after known entered bank =
      let test : AccountRecord → Bool = λ a. is_dca a.kind && bytes_eq a.owner bank in
      entered bank
      ∙ ap (λ (b : Bool). b || test account) (known bank)
      ∙ ap (λ (b : Bool). owns_dca accounts bank || b) (sym (or-false (test account)))
      ∙ sym (list_any-append test accounts (account ∷ []))

-- a search of what is made of items
found_of : {X Y : Type 0} (f : X → Y) (t : Y → Bool) (i : ℕ) (xs : List X) → position_from t i (map f xs) ≡ position_from (λ x. t (f x)) i xs
found_of f t i [] = refl
found_of f t i (x ∷ xs) = ap (cond (t (f x)) (Some i)) (found_of f t (i + 1) xs)

-- the number of an account is one more than that of its name
pub number_of_name : (accounts : List AccountRecord) (names : List (List ℕ)) (name : List ℕ) (found : Option ℕ) → names ≡ map (λ a. a.name) accounts → found ≡ first_named names name
    → option_map (λ k. k + 1) found ≡ number_named accounts name
number_of_name accounts names name found known is =
    ap (option_map (λ k. k + 1)) (is ∙ ap (λ ns. first_named ns name) known ∙ found_of (λ (a : AccountRecord). a.name) (λ own. bytes_eq own name) 0 accounts)
    ∙ sym (counted_more (λ (a : AccountRecord). bytes_eq a.name name) 0 accounts)
