-- The amounts of a list among all entries, and the places that entries have in their lists.
use Rattle.std.proofs.Common.{◌≡◌, ◌≢◌, ℕ, ◌+◌, ◌<◌, ◌≤◌, Bool, true, false, List, [], ◌∷◌, ◌++◌, None, length, set, zero, suc, nat_eq, refl, ap, sym, ◌∙◌, subst, arith, eq-eqb, get_or}
use Rattle.std.proofs.lemmas.Bool.{ne_eqb, false≢true, true≢false}
use Rattle.std.proofs.lemmas.List.{append-nil, set-get_or}
use Rattle.least_tree.specs.Amounts.{amount_at}
use Rattle.amount_forest.specs.declared.node.Entry.{Entry}
use Rattle.amount_forest.specs.Lists.{joined, counted, parts_of, amounts_of, numbers_of, rank}
use Rattle.amount_forest.specs.Nodes.{entry_at, list_of, amount_of}

counted_le : (b : Bool) (n m : ℕ) → n ≤ m → counted b n ≤ m + 1
unfolding counted
counted_le true n m h = omega arith
counted_le false n m h = omega arith

pub rank_le : (list i : ℕ) (es : List Entry) → rank list i es ≤ i
unfolding rank
rank_le list zero es = omega arith
rank_le list (suc i) [] = omega arith
rank_le list (suc i) (e ∷ es) =
    let n : i + 1 ≡ suc i = omega arith in
    subst (λ (m : ℕ). counted (nat_eq e.list list) (rank list i es) ≤ m) n (counted_le (nat_eq e.list list) (rank list i es) i (rank_le list i es))

joined_length : {A : Type 0} (b : Bool) (a : A) (xs : List A) (n : ℕ) → n ≡ length xs → counted b n ≡ length (joined b a xs)
unfolding joined counted
joined_length true a xs n e = ap suc e
joined_length false a xs n e = e

pub rank_parts : {A : Type 0} (part : Entry → A) (list : ℕ) (es : List Entry) → rank list (length es) es ≡ length (parts_of part list es)
unfolding rank parts_of
rank_parts part list [] = refl
rank_parts part list (e ∷ es) = joined_length (nat_eq e.list list) (part e) (parts_of part list es) (rank list (length es) es) (rank_parts part list es)

pub rank_full : (list : ℕ) (es : List Entry) → rank list (length es) es ≡ length (amounts_of list es)
rank_full list es = rank_parts (λ e. e.amount) list es

pub rank_front : (list i : ℕ) (es fs : List Entry) → i ≤ length es → rank list i (es ++ fs) ≡ rank list i es
unfolding rank
rank_front list zero es fs h = refl
rank_front list (suc i) [] fs h = absurd (omega arith)
rank_front list (suc i) (e ∷ es) fs h = ap (counted (nat_eq e.list list)) (rank_front list i es fs (omega arith))

joined_append : {A : Type 0} (b : Bool) (a : A) (xs ys : List A) → joined b a (xs ++ ys) ≡ joined b a xs ++ ys
unfolding joined
joined_append true a xs ys = refl
joined_append false a xs ys = refl

parts_more : {A : Type 0} (part : Entry → A) (list : ℕ) (es : List Entry) (e : Entry) → parts_of part list (es ++ e ∷ []) ≡ parts_of part list es ++ joined (nat_eq e.list list) (part e) []
unfolding parts_of
parts_more part list [] e = refl
parts_more part list (x ∷ es) e =
    ap (joined (nat_eq x.list list) (part x)) (parts_more part list es e) ∙ joined_append (nat_eq x.list list) (part x) (parts_of part list es) (joined (nat_eq e.list list) (part e) [])

joined_true : {A : Type 0} (b : Bool) (a : A) (xs : List A) → b ≡ true → joined b a xs ≡ a ∷ xs
unfolding joined
joined_true true a xs e = refl
joined_true false a xs e = absurd (false≢true e)

joined_false : {A : Type 0} (b : Bool) (a : A) (xs : List A) → b ≡ false → joined b a xs ≡ xs
unfolding joined
joined_false true a xs e = absurd (true≢false e)
joined_false false a xs e = refl

pub parts_here : {A : Type 0} (part : Entry → A) (list : ℕ) (es : List Entry) (e : Entry) → e.list ≡ list → parts_of part list (es ++ e ∷ []) ≡ parts_of part list es ++ part e ∷ []
parts_here part list es e is = parts_more part list es e ∙ ap (λ ys. parts_of part list es ++ ys) (joined_true (nat_eq e.list list) (part e) [] (eq-eqb e.list list is))

pub parts_elsewhere : {A : Type 0} (part : Entry → A) (list : ℕ) (es : List Entry) (e : Entry) → e.list ≢ list → parts_of part list (es ++ e ∷ []) ≡ parts_of part list es
parts_elsewhere part list es e ne =
    parts_more part list es e
    ∙ (ap (λ ys. parts_of part list es ++ ys) (joined_false (nat_eq e.list list) (part e) [] (ne_eqb e.list list ne)) ∙ append-nil (parts_of part list es))

pub amounts_here : (list : ℕ) (es : List Entry) (e : Entry) → e.list ≡ list → amounts_of list (es ++ e ∷ []) ≡ amounts_of list es ++ e.amount ∷ []
amounts_here list es e is = parts_here (λ e. e.amount) list es e is

pub amounts_elsewhere : (list : ℕ) (es : List Entry) (e : Entry) → e.list ≢ list → amounts_of list (es ++ e ∷ []) ≡ amounts_of list es
amounts_elsewhere list es e ne = parts_elsewhere (λ e. e.amount) list es e ne

counted_up : (b : Bool) (n m : ℕ) → n < m → counted b n < counted b m
unfolding counted
counted_up true n m h = omega arith
counted_up false n m h = h

counted_some : (b : Bool) (n : ℕ) → b ≡ true → 0 < counted b n
unfolding counted
counted_some true n e = omega arith
counted_some false n e = absurd (false≢true e)

pub rank_up : (list i k : ℕ) (es : List Entry) → i < k → k ≤ length es → list_of es i ≡ list → rank list i es < rank list k es
unfolding rank
rank_up list i zero es less within is = absurd (omega arith)
rank_up list i (suc k) [] less within is = absurd (omega arith)
rank_up list zero (suc k) (e ∷ es) less within is = counted_some (nat_eq e.list list) (rank list k es) (eq-eqb e.list list is)
rank_up list (suc i) (suc k) (e ∷ es) less within is = counted_up (nat_eq e.list list) (rank list i es) (rank list k es) (rank_up list i k es (omega arith) (omega arith) is)

pub rank_within : (list i : ℕ) (es : List Entry) → i < length es → list_of es i ≡ list → rank list i es < length (amounts_of list es)
rank_within list i es within is = subst (λ (n : ℕ). rank list i es < n) (rank_full list es) (rank_up list i (length es) es within (omega arith) is)

read_over : {A : Type 0} (b : Bool) (a : A) (xs : List A) (n : ℕ) (d : A) → get_or (joined b a xs) (counted b n) d ≡ get_or xs n d
unfolding joined counted
read_over true a xs n d = refl
read_over false a xs n d = refl

read_first : {A : Type 0} (b : Bool) (a : A) (xs : List A) (d : A) → b ≡ true → get_or (joined b a xs) 0 d ≡ a
read_first b a xs d e = ap (λ ys. get_or ys 0 d) (joined_true b a xs e)

pub part_here : {A : Type 0} (part : Entry → A) (list i : ℕ) (es : List Entry) (d : A) → i < length es → list_of es i ≡ list → get_or (parts_of part list es) (rank list i es) d ≡ part (entry_at es i)
unfolding rank parts_of
part_here part list i [] d within is = absurd (omega arith)
part_here part list zero (e ∷ es) d within is = read_first (nat_eq e.list list) (part e) (parts_of part list es) d (eq-eqb e.list list is)
part_here part list (suc i) (e ∷ es) d within is =
    read_over (nat_eq e.list list) (part e) (parts_of part list es) (rank list i es) d ∙ part_here part list i es d (omega arith) is

pub amount_here : (list i : ℕ) (es : List Entry) → i < length es → list_of es i ≡ list → amount_at (amounts_of list es) (rank list i es) ≡ amount_of es i
amount_here list i es within is = part_here (λ e. e.amount) list i es None within is

set_over : {A : Type 0} (b : Bool) (a v : A) (xs : List A) (n : ℕ) → joined b a (set xs n v) ≡ set (joined b a xs) (counted b n) v
unfolding joined counted
set_over true a v xs n = refl
set_over false a v xs n = refl

set_first : {A : Type 0} (b : Bool) (a v : A) (xs : List A) → b ≡ true → joined b v xs ≡ set (joined b a xs) 0 v
set_first b a v xs e = joined_true b v xs e ∙ ap (λ ys. set ys 0 v) (sym (joined_true b a xs e))

-- an entry that another one of its list takes the place of
pub parts_set : {A : Type 0} (part : Entry → A) (list i : ℕ) (es : List Entry) (e : Entry) → i < length es → list_of es i ≡ list → e.list ≡ list → parts_of part list (set es i e) ≡ set (parts_of part list es) (rank list i es) (part e)
unfolding rank parts_of
parts_set part list i [] e within is same = absurd (omega arith)
parts_set part list zero (x ∷ es) e within is same =
    ap (λ (b : Bool). joined b (part e) (parts_of part list es)) (eq-eqb e.list list same ∙ sym (eq-eqb x.list list is))
    ∙ set_first (nat_eq x.list list) (part x) (part e) (parts_of part list es) (eq-eqb x.list list is)
parts_set part list (suc i) (x ∷ es) e within is same =
    ap (joined (nat_eq x.list list) (part x)) (parts_set part list i es e (omega arith) is same)
    ∙ set_over (nat_eq x.list list) (part x) (part e) (parts_of part list es) (rank list i es)

pub amounts_set : (list i : ℕ) (es : List Entry) (e : Entry) → i < length es → list_of es i ≡ list → e.list ≡ list → amounts_of list (set es i e) ≡ set (amounts_of list es) (rank list i es) e.amount
amounts_set list i es e within is same = parts_set (λ e. e.amount) list i es e within is same

pub parts_set_other : {A : Type 0} (part : Entry → A) (list i : ℕ) (es : List Entry) (e : Entry) → i < length es → list_of es i ≢ list → e.list ≢ list → parts_of part list (set es i e) ≡ parts_of part list es
unfolding parts_of
parts_set_other part list i [] e within is same = absurd (omega arith)
parts_set_other part list zero (x ∷ es) e within is same =
    joined_false (nat_eq e.list list) (part e) (parts_of part list es) (ne_eqb e.list list same)
    ∙ sym (joined_false (nat_eq x.list list) (part x) (parts_of part list es) (ne_eqb x.list list is))
parts_set_other part list (suc i) (x ∷ es) e within is same = ap (joined (nat_eq x.list list) (part x)) (parts_set_other part list i es e (omega arith) is same)

pub amounts_set_other : (list i : ℕ) (es : List Entry) (e : Entry) → i < length es → list_of es i ≢ list → e.list ≢ list → amounts_of list (set es i e) ≡ amounts_of list es
amounts_set_other list i es e within is same = parts_set_other (λ e. e.amount) list i es e within is same

-- of an entry that has its number
pub numbers_set : (list i : ℕ) (es : List Entry) (e : Entry) → i < length es → list_of es i ≡ list → e.list ≡ list → e.number ≡ (entry_at es i).number → numbers_of list (set es i e) ≡ numbers_of list es
numbers_set list i es e within is same number =
    parts_set (λ e. e.number) list i es e within is same
    ∙ (ap (set (numbers_of list es) (rank list i es)) (number ∙ sym (part_here (λ e. e.number) list i es 0 within is))
    ∙ set-get_or (numbers_of list es) (rank list i es) 0)

pub rank_set : (list k i : ℕ) (es : List Entry) (e : Entry) → i < length es → e.list ≡ list_of es i → rank list k (set es i e) ≡ rank list k es
unfolding rank
rank_set list k i [] e within same = absurd (omega arith)
rank_set list zero i (x ∷ es) e within same = refl
rank_set list (suc k) zero (x ∷ es) e within same = ap (λ (l : ℕ). counted (nat_eq l list) (rank list k es)) same
rank_set list (suc k) (suc i) (x ∷ es) e within same = ap (counted (nat_eq x.list list)) (rank_set list k i es e (omega arith) same)
