-- Lists of amounts, as contracts see them, and as entries of all of them in one list.
use Rattle.std.specs.Prelude.{ℕ, Bool, true, false, List, [], ◌∷◌, Option, map, zero, suc, nat_eq, slice_index_or}
use Rattle.std.specs.List.{range_with_len}
use Rattle.amount_forest.specs.declared.node.Entry.{Entry}

-- lists of amounts, the numbers that came with these, and for how many pushes there is still room
pub record Amounts : Type 0 where
  pub lists : List (List (Option ℕ))
  pub numbers : List (List ℕ)
  pub spare : ℕ

-- one of the lists; after the last one there is none
abbrev pub list_at : List (List (Option ℕ)) → ℕ → List (Option ℕ)
list_at lists list = slice_index_or lists list []

-- the numbers of one of the lists
abbrev pub numbers_at : List (List ℕ) → ℕ → List ℕ
numbers_at numbers list = slice_index_or numbers list []

-- something in front of others, if it is one of them
unfoldable pub joined : {A : Type 0} → Bool → A → List A → List A
joined true x rest = x ∷ rest
joined false x rest = rest

-- what entries of one list have, in the order in which they were pushed
unfoldable pub parts_of : {A : Type 0} → (Entry → A) → ℕ → List Entry → List A
parts_of part list [] = []
parts_of part list (e ∷ entries) = joined (nat_eq e.list list) (part e) (parts_of part list entries)

abbrev pub amounts_of : ℕ → List Entry → List (Option ℕ)
amounts_of list entries = parts_of (λ e. e.amount) list entries

abbrev pub numbers_of : ℕ → List Entry → List ℕ
numbers_of list entries = parts_of (λ e. e.number) list entries

unfoldable pub counted : Bool → ℕ → ℕ
counted true n = suc n
counted false n = n

-- how many of the first entries, as many as the second number says, are of a list
unfoldable pub rank : ℕ → ℕ → List Entry → ℕ
rank list zero entries = 0
rank list (suc i) [] = 0
rank list (suc i) (e ∷ entries) = counted (nat_eq e.list list) (rank list i entries)

-- what entries of so many lists have
abbrev pub all_of : {A : Type 0} → (Entry → A) → List Entry → ℕ → List (List A)
all_of part entries lists = map (λ list. parts_of part list entries) (range_with_len 0 lists)

abbrev pub lists_of : List Entry → ℕ → List (List (Option ℕ))
lists_of entries lists = all_of (λ e. e.amount) entries lists
