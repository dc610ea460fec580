-- What is kept of the moves of a day, and what an entry's move tells of the entry.
use Rattle.std.proofs.Common.{◌≡◌, ◌∙◌, ◌+◌, ℕ, zero, suc, Bool, true, false, not, ◌&&◌, ◌||◌, cond, List, [], ◌∷◌, Option, None, Some, length, map, refl, ap, sym, arith}
use Rattle.std.specs.Prelude.{filter, nat_eq, option_map, slice_get, sum_by, unwrap_or}
use Rattle.std.specs.List.{list_all}
use Rattle.std.specs.Option.{option_map_or}
use Rattle.std.proofs.lemmas.Bool.{ne_eqb}
use Rattle.std.proofs.lemmas.List.{length-map}
use Rattle.std.proofs.lemmas.List.Folds.{list_all-map}
use Rattle.std.proofs.lemmas.List.Sums.{sum_by-cons}
use Rattle.std.proofs.lemmas.Option.{same_Some, slice_get-map}
use Rattle.account_book.proofs.Numbers.{found_is}
use Rattle.cash_amounts.specs.declared.records.AccountRecord.{AccountRecord}
use Rattle.batch_records.specs.DayRecord.{Day}
use Rattle.batch_records.specs.declared.day.Entry.{Entry}
use Rattle.batch_records.specs.declared.day.Message.{Message}
use Rattle.commit_journal.specs.declared.line.Move.{Move}
use Rattle.machine.specs.Words.{is_dca, same_account, some_passes}
use Rattle.machine.specs.Records.Setup.{account_named, names_account}
use Rattle.machine.specs.Records.Messages.{BatchA, entries, entries_in, is_debit_entry, is_on_side, is_paid_from_technical, message_at, move_of, part, pays_technical, side, technical_of, transfer_in, debit_account}
use Rattle.machine.specs.Stages.Intake.{amount_of, entry_fits}
use Rattle.machine.specs.Stages.Pending.{debtors}
use Rattle.machine.specs.Making.Lines.{gross}
use Rattle.rule_book.specs.Moves.{comes_from, entry_moves, goes_on_side, goes_to, joins, move_in, moved_amount, moves_of, passes_at, row_in, transfer_move}
use Rattle.machine.proofs.Lists.{numbered_map}

-- ---- the moves of a day

pub row_is : (day : Day) (n : ℕ) → row_in (moves_of day).rows n ≡ entry_moves day n
row_is day n = ap (λ o. unwrap_or o []) (numbered_map (entry_moves day) day.messages n) ∙ by (message_at day n) refl
  where
    by : (o : Option Message) → message_at day n ≡ o → unwrap_or (option_map (λ m. entry_moves day n) o) [] ≡ entry_moves day n
    by None e = ap (λ x. map (move_of day) (option_map_or (λ (m : Message). entries_in m.body) x [])) (sym e)
    by (Some m) e = refl

pub moved_at : (day : Day) (n k : ℕ) → move_in (moves_of day) n k ≡ option_map (move_of day) (part day n k)
moved_at day n zero = ap (λ o. unwrap_or o None) (numbered_map (transfer_move day) day.messages n) ∙ by (message_at day n) refl
  where
    by : (o : Option Message) → message_at day n ≡ o → unwrap_or (option_map (λ m. transfer_move day n) o) None ≡ transfer_move day n
    by None e = ap (λ x. option_map (move_of day) (option_map_or (λ (m : Message). transfer_in m.body) x None)) (sym e)
    by (Some m) e = refl
moved_at day n (suc k) = ap (λ row. slice_get row k) (row_is day n) ∙ slice_get-map (move_of day) (entries day n) k

-- ---- moves of entries that pass

pub filter_moves : {X Y : Type 0} (f : X → Y) (p : X → Bool) (q : Y → Bool) → ((x : X) → q (f x) ≡ p x) → (xs : List X) → filter q (map f xs) ≡ map f (filter p xs)
filter_moves f p q same [] = refl
filter_moves f p q same (x ∷ xs) =
    ap (λ b. cond b (f x ∷ filter q (map f xs)) (filter q (map f xs))) (same x)
    ∙ ap (λ ys. cond (p x) (f x ∷ ys) ys) (filter_moves f p q same xs) ∙ here (p x)
  where
    here : (b : Bool) → cond b (f x ∷ map f (filter p xs)) (map f (filter p xs)) ≡ map f (cond b (x ∷ filter p xs) (filter p xs))
    here true = refl
    here false = refl

pub map_moves : {X Y Z : Type 0} (f : X → Y) (g : Y → Z) (xs : List X) → map g (map f xs) ≡ map (λ x. g (f x)) xs
map_moves f g [] = refl
map_moves f g (x ∷ xs) = ap (λ ys. g (f x) ∷ ys) (map_moves f g xs)

pub sum_moves : {X Y : Type 0} (f : X → Y) (g : Y → ℕ) (xs : List X) → sum_by g (map f xs) ≡ sum_by (λ x. g (f x)) xs
sum_moves f g [] = refl
sum_moves f g (x ∷ xs) =
    sum_by-cons g (f x) (map f xs) ∙ ap (λ s. g (f x) + s) (sum_moves f g xs) ∙ sym (sum_by-cons (λ y. g (f y)) x xs)

-- ---- sides

-- the technical account of a batch isn't 0
pub above_zero : (day : Day) (n : ℕ) → technical_of day n ≡ Some 0 → ⊥
above_zero day n e = let at = found_is _ day.accounts 0 e in omega (arith, at.least)

pub number_is : (o t : Option ℕ) → (t ≡ Some 0 → ⊥) → same_account (Some (unwrap_or o 0)) t ≡ same_account o t
number_is (Some a) t ne = refl
number_is None None ne = refl
number_is None (Some b) ne = ne_eqb 0 b (λ e. ne (ap Some (sym e)))

module _ (day : Day) (t : Option ℕ) (ne : t ≡ Some 0 → ⊥) where
  pub pays : (m : Move) (o : Option Entry) → Some m ≡ option_map (move_of day) o → same_account (Some m.credit) t ≡ some_passes (λ (e : Entry). same_account (account_named day e.credit) t) o
  pays m None is = cc
  pays m (Some e) is =
      let same : m.credit ≡ unwrap_or (account_named day e.credit) 0 = ap (λ (x : Move). x.credit) (same_Some m (move_of day e) is) in
      ap (λ a. same_account (Some a) t) same ∙ number_is (account_named day e.credit) t ne

  pub pays_not : (m : Move) (o : Option Entry) → Some m ≡ option_map (move_of day) o → not (same_account (Some m.credit) t) ≡ some_passes (λ (e : Entry). not (same_account (account_named day e.credit) t)) o
  pays_not m None is = cc
  pays_not m (Some e) is = ap not (pays m (Some e) is)

  pub no_side : (o : Option Entry) (test : Entry → Bool) → None ≡ option_map (move_of day) o → false ≡ some_passes test o
  no_side None test is = refl
  no_side (Some e) test is = cc

-- what an entry passes where its move does
pub of_move : (day : Day) (o : Option Entry) (m : Move) (p : Entry → Bool) (q : Move → Bool) → ((e : Entry) → q (move_of day e) ≡ p e) → Some m ≡ option_map (move_of day) o → q m ≡ some_passes p o
of_move day None m p q same is = cc
of_move day (Some e) m p q same is = ap q (same_Some m (move_of day e) is) ∙ same e

pub no_move : (day : Day) (o : Option Entry) (p : Entry → Bool) → None ≡ option_map (move_of day) o → false ≡ some_passes p o
no_move day None p is = refl
no_move day (Some e) p is = cc

pub pays_is : (day : Day) (n : ℕ) (e : Entry) → goes_to (technical_of day n) (move_of day e) ≡ pays_technical day n e
pays_is day n e = number_is (account_named day e.credit) (technical_of day n) (above_zero day n)

pub comes_is : (day : Day) (n : ℕ) (e : Entry) → comes_from (technical_of day n) (move_of day e) ≡ is_paid_from_technical day n e
comes_is day n e = number_is (account_named day e.debit) (technical_of day n) (above_zero day n)

pub side_is : (debits : Bool) (day : Day) (n : ℕ) (e : Entry) → goes_on_side debits (technical_of day n) (move_of day e) ≡ is_on_side debits day n e
side_is true day n e = pays_is day n e
side_is false day n e = ap not (pays_is day n e)

pub sided : (debits : Bool) (day : Day) (n : ℕ) → filter (goes_on_side debits (technical_of day n)) (entry_moves day n) ≡ map (move_of day) (side debits day n)
sided debits day n = filter_moves (move_of day) (is_on_side debits day n) (goes_on_side debits (technical_of day n)) (side_is debits day n) (entries day n)

pub sided_count : (debits : Bool) (day : Day) (n : ℕ) → length (filter (goes_on_side debits (technical_of day n)) (entry_moves day n)) ≡ length (side debits day n)
sided_count debits day n = ap length (sided debits day n) ∙ length-map (side debits day n) (move_of day)

-- the debtor accounts of a batch
pub debtors_are : (day : Day) (n : ℕ) → map (λ (m : Move). m.debit) (filter (goes_to (technical_of day n)) (entry_moves day n)) ≡ debtors day n
debtors_are day n =
    ap (map (λ (m : Move). m.debit)) (filter_moves (move_of day) (is_debit_entry day n) (goes_to (technical_of day n)) (pays_is day n) (entries day n))
    ∙ map_moves (move_of day) (λ (m : Move). m.debit) (filter (is_debit_entry day n) (entries day n))

-- ---- sums

pub paid_in_is : (day : Day) (n : ℕ) → sum_by moved_amount (filter (goes_to (technical_of day n)) (entry_moves day n)) ≡ sum_by amount_of (filter (pays_technical day n) (entries day n))
paid_in_is day n =
    ap (sum_by moved_amount) (filter_moves (move_of day) (pays_technical day n) (goes_to (technical_of day n)) (pays_is day n) (entries day n))
    ∙ sum_moves (move_of day) moved_amount (filter (pays_technical day n) (entries day n))

pub paid_out_is : (day : Day) (n : ℕ) → sum_by moved_amount (filter (comes_from (technical_of day n)) (entry_moves day n)) ≡ sum_by amount_of (filter (is_paid_from_technical day n) (entries day n))
paid_out_is day n =
    ap (sum_by moved_amount) (filter_moves (move_of day) (is_paid_from_technical day n) (comes_from (technical_of day n)) (comes_is day n) (entries day n))
    ∙ sum_moves (move_of day) moved_amount (filter (is_paid_from_technical day n) (entries day n))

pub taken_is : (day : Day) (n a : ℕ) → sum_by moved_amount (filter (λ (m : Move). nat_eq m.debit a) (filter (goes_to (technical_of day n)) (entry_moves day n))) ≡ gross day n a
taken_is day n a =
    ap (λ ms. sum_by moved_amount (filter (λ (m : Move). nat_eq m.debit a) ms)) (filter_moves (move_of day) (is_debit_entry day n) (goes_to (technical_of day n)) (pays_is day n) (entries day n))
    ∙ ap (sum_by moved_amount) (filter_moves (move_of day) (λ (e : Entry). nat_eq (debit_account day e) a) (λ (m : Move). nat_eq m.debit a) (λ e. refl) (filter (is_debit_entry day n) (entries day n)))
    ∙ sum_moves (move_of day) moved_amount (filter (λ (e : Entry). nat_eq (debit_account day e) a) (filter (is_debit_entry day n) (entries day n)))

-- ---- forms of entries

-- the account of a name passes where that of its number does
pub passes_is : (day : Day) (test : AccountRecord → Bool) (name : List ℕ) → passes_at day test (unwrap_or (account_named day name) 0) ≡ names_account day test name
passes_is day test name = by (account_named day name)
  where
    by : (o : Option ℕ) → passes_at day test (unwrap_or o 0) ≡ some_passes (λ a. passes_at day test a) o
    by None = refl
    by (Some a) = refl

neither : (b x y : Bool) → (b && false && x) ≡ (b && false && y)
neither true x y = refl
neither false x y = refl

-- from an account that passes to another one that does
pub apart_is : (day : Day) (p q : AccountRecord → Bool) (o r : Option ℕ) →
    (passes_at day p (unwrap_or o 0) && passes_at day q (unwrap_or r 0) && not (nat_eq (unwrap_or o 0) (unwrap_or r 0)))
    ≡ (some_passes (λ a. passes_at day p a) o && some_passes (λ a. passes_at day q a) r && not (same_account o r))
apart_is day p q None r = refl
apart_is day p q (Some a) None = neither (passes_at day p a) (not (nat_eq a 0)) true
apart_is day p q (Some a) (Some b) = refl

joins_is : (day : Day) (n : ℕ) (e : Entry) → joins day (technical_of day n) (move_of day e) ≡ entry_fits BatchA day n e
joins_is day n e = λ i.
    passes_is day (λ r. is_dca r.kind) e.debit i && pays_is day n e i || comes_is day n e i && passes_is day (λ r. is_dca r.kind) e.credit i

-- what all moves pass, all entries do
pub all_moves : {X Y : Type 0} (f : X → Y) (p : X → Bool) (q : Y → Bool) → ((x : X) → q (f x) ≡ p x) → (xs : List X) → list_all q (map f xs) ≡ list_all p xs
all_moves f p q same xs = list_all-map q f xs ∙ (λ i. list_all (λ x. same x i) xs)

pub all_join_is : (day : Day) (n : ℕ) → list_all (joins day (technical_of day n)) (entry_moves day n) ≡ list_all (entry_fits BatchA day n) (entries day n)
all_join_is day n = all_moves (move_of day) (entry_fits BatchA day n) (joins day (technical_of day n)) (joins_is day n) (entries day n)
