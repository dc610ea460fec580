-- What the lines of a whole journal of an ample day bring and take, summed over the entries of the day.
use Rattle.std.proofs.Common.{◌≡◌, ℕ, zero, suc, ◌+◌, Bool, true, false, List, [], ◌∷◌, ◌++◌, Option, Some, refl, sym, ap, ◌∙◌, arith, length, length-append}
use Rattle.std.specs.Prelude.{nat_eq, if◌then◌else◌, map, flat_map, sum_by, slice_get}
use Rattle.std.specs.List.{range_with_len}
use Rattle.std.specs.Option.{option_map_or}
use Rattle.std.proofs.lemmas.List.Filters.{sum_by-filter_both}
use Rattle.std.proofs.lemmas.List.Sums.{sum_by-cons, sum_by-append}
use Rattle.batch_records.specs.DayRecord.{Day}
use Rattle.batch_records.specs.declared.day.Message.{Message}
use Rattle.batch_records.specs.declared.day.Entry.{Entry}
use Rattle.commit_journal.specs.declared.line.Move.{Move}
use Rattle.commit_journal.specs.Line.{Line, History}
use Rattle.machine.specs.Telling.Balances.{credits, debits, credited, debited}
use Rattle.machine.specs.Orders.Bounds.{moved}
use Rattle.machine.specs.Making.Lines.{book_line, all_line, moves_of_part}
use Rattle.machine.specs.Records.Messages.{sort_of, is_b, entries, entries_in, part, move_of, credit_account, debit_account, debit_entries, credit_entries, is_debit_entry, is_credit_entry}
use Rattle.settlement_laws.proofs.Base.Numbers.{sum_same}
use Rattle.settlement_laws.proofs.Base.Sums.{sum_from, sum-list}
use Rattle.settlement_laws.proofs.ProcedureB.WholeIsCovered.{credits-append, debits-append}
use Rattle.trial_day.proofs.Totals.{of_message, one, zero_more}

-- ---- sums over lists

pub sum_range : (f : ℕ → ℕ) (s n : ℕ) → sum_from f s n ≡ sum_by f (range_with_len s n)
sum_range f s zero = refl
sum_range f s (suc n) = let e : suc s ≡ s + 1 = omega arith in (λ i. f s + sum_from f (e i) n) ∙ (λ i. f s + sum_range f (s + 1) n i) ∙ sym (sum_by-cons f s (range_with_len (s + 1) n))

pub ones_from : (s n : ℕ) → sum_from (λ k. 1) s n ≡ n
ones_from s zero = refl
ones_from s (suc n) = let k : sum_from (λ k. 1) (suc s) n ≡ n = ones_from (suc s) n in let z : 1 + sum_from (λ k. 1) (suc s) n ≡ suc n = omega arith in z

pub sum_flat : {X Y : Type 0} (f : Y → ℕ) (g : X → List Y) (xs : List X) → sum_by f (flat_map g xs) ≡ sum_by (λ x. sum_by f (g x)) xs
sum_flat f g [] = refl
sum_flat f g (x ∷ xs) = sum_by-append f (g x) (flat_map g xs) ∙ ap (λ n. sum_by f (g x) + n) (sum_flat f g xs) ∙ sym (sum_by-cons (λ x. sum_by f (g x)) x xs)

pub over_messages : (day : Day) (f : Entry → ℕ) → sum_from (λ n. sum_by f (entries day n)) 1 (length day.messages) ≡ sum_by f (flat_map (λ m. entries_in m.body) day.messages)
over_messages day f =
    sum-list (λ n. sum_by f (entries day n)) (λ (m : Message). sum_by f (entries_in m.body)) 1 day.messages at
    ∙ sym (sum_flat f (λ (m : Message). entries_in m.body) day.messages)
  where
    at : (k i : ℕ) (m : Message) → k ≡ 1 + i → slice_get day.messages i ≡ Some m → sum_by f (entries day k) ≡ sum_by f (entries_in m.body)
    at k i m e g = let r : k ≡ suc i = omega (arith, e) in ap (λ j. sum_by f (entries day j)) r ∙ ap (λ (o : Option Message). sum_by f (option_map_or (λ m. entries_in m.body) o [])) g

-- ---- a journal's lines, moves, credits and debits as sums

pub lines_sum : (J : History) → length J ≡ sum_by (λ l. 1) J
lines_sum [] = refl
lines_sum (l ∷ J) = let k = lines_sum J in let c : sum_by (λ (l : Line). 1) (l ∷ J) ≡ 1 + sum_by (λ (l : Line). 1) J = sum_by-cons (λ (l : Line). 1) l J in omega arith

pub moves_sum : (J : History) → moved J ≡ sum_by (λ l. length l.moves) J
moves_sum [] = refl
moves_sum (l ∷ J) = ap (λ n. length l.moves + n) (moves_sum J) ∙ sym (sum_by-cons (λ (l : Line). length l.moves) l J)

pub credits_sum : (a : ℕ) (J : History) → credited J a ≡ sum_by (λ l. credits a l.moves) J
unfolding credited
credits_sum a [] = refl
credits_sum a (l ∷ J) = let k = credits_sum a J in let c : sum_by (λ (l : Line). credits a l.moves) (l ∷ J) ≡ credits a l.moves + sum_by (λ (l : Line). credits a l.moves) J = sum_by-cons (λ (l : Line). credits a l.moves) l J in omega arith

pub debits_sum : (a : ℕ) (J : History) → debited J a ≡ sum_by (λ l. debits a l.moves) J
unfolding debited
debits_sum a [] = refl
debits_sum a (l ∷ J) = let k = debits_sum a J in let c : sum_by (λ (l : Line). debits a l.moves) (l ∷ J) ≡ debits a l.moves + sum_by (λ (l : Line). debits a l.moves) J = sum_by-cons (λ (l : Line). debits a l.moves) l J in omega arith

-- ---- what a message comes to

-- a line's weight that is the sum over its moves of entries
module _ (day : Day) (f : List Move → ℕ) (none : f [] ≡ 0) (both : (xs ys : List Move) → f (xs ++ ys) ≡ f xs + f ys) where
  abbrev of_entry : Entry → ℕ
  of_entry e = f (move_of day e ∷ [])

  of_entries : (es : List Entry) → f (map (move_of day) es) ≡ sum_by of_entry es
  of_entries [] = none
  of_entries (e ∷ es) = both (move_of day e ∷ []) (map (move_of day) es) ∙ ap (λ n. of_entry e + n) (of_entries es) ∙ sym (sum_by-cons of_entry e es)

  of_whole : (n : ℕ) → f (all_line day n).moves ≡ sum_by of_entry (entries day n)
  of_whole n =
      both (map (move_of day) (debit_entries day n)) (map (move_of day) (credit_entries day n))
      ∙ (λ i. of_entries (debit_entries day n) i + of_entries (credit_entries day n) i)
      ∙ sum_by-filter_both (is_debit_entry day n) (is_credit_entry day n) (λ e. refl) of_entry (entries day n)

  of_books : (n : ℕ) → sum_from (λ k. f (book_line day n k).moves) 1 (length (entries day n)) ≡ sum_by of_entry (entries day n)
  of_books n = sum-list (λ k. f (book_line day n k).moves) of_entry 1 (entries day n) at
    where
      at : (k i : ℕ) (e : Entry) → k ≡ 1 + i → slice_get (entries day n) i ≡ Some e → f (book_line day n k).moves ≡ of_entry e
      at k i e q g = let r : k ≡ suc i = omega (arith, q) in ap (λ j. f (moves_of_part day (part day n j))) r ∙ ap (λ o. f (moves_of_part day o)) g

  pub message_weight : (n : ℕ) → of_message day (λ l. f l.moves) n ≡ sum_by (λ e. f (move_of day e ∷ [])) (entries day n)
  message_weight n = (λ i. none i + either (is_b (sort_of day n)) i) ∙ zero_more (sum_by of_entry (entries day n)) (sum_by of_entry (entries day n)) refl
    where
      either : (b : Bool) → (if b then f (all_line day n).moves else sum_from (λ k. f (book_line day n k).moves) 1 (length (entries day n))) ≡ sum_by of_entry (entries day n)
      either true = of_whole n
      either false = of_books n

pub ones_by : {X : Type 0} (xs : List X) → sum_by (λ x. 1) xs ≡ length xs
ones_by [] = refl
ones_by (x ∷ xs) = let k = ones_by xs in let c : sum_by (λ y. 1) (x ∷ xs) ≡ 1 + sum_by (λ y. 1) xs = sum_by-cons (λ y. 1) x xs in omega arith

-- how many moves
pub message_moves : (day : Day) (n : ℕ) → of_message day (λ l. length l.moves) n ≡ length (entries day n)
message_moves day n = message_weight day length refl length-append n ∙ ones_by (entries day n)

-- what comes to an account, and what leaves it
pub message_credits : (day : Day) (a n : ℕ) → of_message day (λ l. credits a l.moves) n ≡ sum_by (λ e. one (nat_eq (credit_account day e) a) e.amount) (entries day n)
message_credits day a n = message_weight day (credits a) refl (credits-append a) n ∙ sum_same (λ e. credits a (move_of day e ∷ [])) (λ e. one (nat_eq (credit_account day e) a) e.amount) (λ e. omega arith) (entries day n)

pub message_debits : (day : Day) (a n : ℕ) → of_message day (λ l. debits a l.moves) n ≡ sum_by (λ e. one (nat_eq (debit_account day e) a) e.amount) (entries day n)
message_debits day a n = message_weight day (debits a) refl (debits-append a) n ∙ sum_same (λ e. debits a (move_of day e ∷ [])) (λ e. one (nat_eq (debit_account day e) a) e.amount) (λ e. omega arith) (entries day n)

-- how many lines
pub message_lines : (day : Day) (n : ℕ) → of_message day (λ l. 1) n ≡ 1 + (if is_b (sort_of day n) then 1 else length (entries day n))
message_lines day n = either (is_b (sort_of day n))
  where
    either : (b : Bool) → 1 + (if b then 1 else sum_from (λ k. 1) 1 (length (entries day n))) ≡ 1 + (if b then 1 else length (entries day n))
    either true = refl
    either false = ap (λ x. 1 + x) (ones_from 1 (length (entries day n)))
