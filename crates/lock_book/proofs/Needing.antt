-- The groups that lists of accounts need.
use Rattle.std.proofs.Common.{◌≡◌, ℕ, zero, suc, ◌+◌, ◌%◌, ◌<◌, ◌≤◌, List, [], ◌∷◌, ◌++◌, length, get_or, take, Option, Some, None, ap, map, refl, sym, ◌∙◌, arith}
use Rattle.std.specs.Option.{option_map_or}
use Rattle.std.specs.Prelude.{flat_map, if◌then◌else◌, nat_eq, option_map, option_to_list, slice_index_or, unwrap_or}
use Rattle.std.proofs.lemmas.Grind.{flat_map-append}
use Rattle.std.proofs.lemmas.List.{append-nil, take_all, take_more}
use Rattle.std.proofs.lemmas.List.Folds.{list_any-append}
use Rattle.cash_amounts.specs.declared.records.Procedure.{Procedure}
use Rattle.cash_amounts.specs.declared.records.Procedure.TheVariants.{A, B, C, D, E}
use Rattle.batch_records.specs.declared.day.Body.TheVariants as bodies
use Rattle.batch_records.specs.DayRecord.{Day}
use Rattle.batch_records.specs.declared.day.Entry.{Entry}
use Rattle.batch_records.specs.declared.day.Message.{Message}
use Rattle.commit_journal.specs.declared.line.Move.{Move}
use Rattle.machine.specs.Records.Setup.{account_named}
use Rattle.account_book.proofs.Numbers.{found_is}
use Rattle.std.proofs.lemmas.Option.{same_Some}
use Rattle.machine.specs.Making.Accounts.{accounts_of, accounts_of_message, accounts_of_part, payment_of}
use Rattle.machine.specs.Records.Messages.{entries, fund_of, is_batch, message_at, move_of, Missing, Sort, sort_of, sort_of_batch, sort_of_body}
use Rattle.lock_book.specs.declared.needs.Needs.{Needs}
use Rattle.lock_book.specs.Needs.{above_zero, accounts_in, either, needs_of}

pub needs_joined : (xs ys : List ℕ) → either (needs_of xs) (needs_of ys) ≡ needs_of (xs ++ ys)
needs_joined xs ys = λ j. record {
  zero = sym (list_any-append (λ a. nat_eq (a % 8) 0) xs ys) j;
  one = sym (list_any-append (λ a. nat_eq (a % 8) 1) xs ys) j;
  two = sym (list_any-append (λ a. nat_eq (a % 8) 2) xs ys) j;
  three = sym (list_any-append (λ a. nat_eq (a % 8) 3) xs ys) j;
  four = sym (list_any-append (λ a. nat_eq (a % 8) 4) xs ys) j;
  five = sym (list_any-append (λ a. nat_eq (a % 8) 5) xs ys) j;
  six = sym (list_any-append (λ a. nat_eq (a % 8) 6) xs ys) j;
  seven = sym (list_any-append (λ a. nat_eq (a % 8) 7) xs ys) j;
}

-- with the accounts of one move more
pub needs_more : (ms : List Move) (i : ℕ) (m : Move) → i < length ms → m ≡ slice_index_or ms i m → (before one after : Needs)
    → before ≡ needs_of (flat_map accounts_in (take i ms)) → one ≡ needs_of (accounts_in m) → after ≡ either before one
    → after ≡ needs_of (flat_map accounts_in (take (i + 1) ms))
needs_more ms i m low is before one after was here made =
    made ∙ (λ j. either (was j) (here j)) ∙ needs_joined (flat_map accounts_in (take i ms)) (accounts_in m)
    ∙ ap needs_of (ap (λ (ys : List ℕ). flat_map accounts_in (take i ms) ++ ys) (sym (append-nil (accounts_in m)))
    ∙ sym (flat_map-append accounts_in (take i ms) (m ∷ []))
    ∙ ap (λ (x : Move). flat_map accounts_in (take i ms ++ x ∷ [])) is
    ∙ ap (flat_map accounts_in) (sym (take_more ms i m low)))

-- those of the accounts of some messages, with one more
pub needs_of_more : (accounts : ℕ → List ℕ) (ns : List ℕ) (i : ℕ) → i < length ns → (before one after : Needs)
    → before ≡ needs_of (flat_map accounts (take i ns)) → one ≡ needs_of (accounts (get_or ns i 0)) → after ≡ either before one
    → after ≡ needs_of (flat_map accounts (take (i + 1) ns))
needs_of_more accounts ns i low before one after was here made =
    made ∙ (λ j. either (was j) (here j)) ∙ needs_joined (flat_map accounts (take i ns)) (accounts (get_or ns i 0))
    ∙ ap needs_of (ap (λ (ys : List ℕ). flat_map accounts (take i ns) ++ ys) (sym (append-nil (accounts (get_or ns i 0))))
    ∙ sym (flat_map-append accounts (take i ns) (get_or ns i 0 ∷ []))
    ∙ ap (flat_map accounts) (sym (take_more ns i 0 low)))

pub needs_of_all : (accounts : ℕ → List ℕ) (ns : List ℕ) (i : ℕ) → length ns ≤ i → (found : Needs) → found ≡ needs_of (flat_map accounts (take i ns)) → found ≡ needs_of (flat_map accounts ns)
needs_of_all accounts ns i past found is = is ∙ ap (λ (xs : List ℕ). needs_of (flat_map accounts xs)) (take_all i ns past)

-- ---- the accounts of an entry are those of its move

pub some_account : (a : ℕ) → (a ≡ 0 → ⊥) → above_zero a ≡ a ∷ []
some_account zero ne = absurd (ne refl)
some_account (suc a) ne = refl

listed : (o : Option ℕ) → (o ≡ Some 0 → ⊥) → above_zero (unwrap_or o 0) ≡ option_to_list o
listed None ne = refl
listed (Some zero) ne = absurd (ne refl)
listed (Some (suc a)) ne = refl

never_zero : (day : Day) (name : List ℕ) → account_named day name ≡ Some 0 → ⊥
never_zero day name e = let at = found_is _ day.accounts 0 e in omega (arith, at.least)

accounts_are : (day : Day) (e : Entry) → accounts_in (move_of day e) ≡ accounts_of day e
accounts_are day e = λ i. listed (account_named day e.debit) (never_zero day e.debit) i ++ listed (account_named day e.credit) (never_zero day e.credit) i

pub all_accounts : (day : Day) (es : List Entry) → flat_map accounts_in (map (move_of day) es) ≡ flat_map (accounts_of day) es
all_accounts day [] = refl
all_accounts day (e ∷ es) = λ i. accounts_are day e i ++ all_accounts day es i

pub part_accounts : (day : Day) (o : Option Entry) (m : Move) → Some m ≡ option_map (move_of day) o → accounts_in m ≡ accounts_of_part day o
part_accounts day None m is = cc
part_accounts day (Some e) m is = ap accounts_in (same_Some m (move_of day e) is) ∙ accounts_are day e

pub no_accounts : (day : Day) (o : Option Entry) → None ≡ option_map (move_of day) o → [] ≡ accounts_of_part day o
no_accounts day None is = refl
no_accounts day (Some e) is = cc

-- ---- a batch

-- by its sort and its entries
abbrev pub parts : Day → ℕ → Sort → List Entry → List ℕ
parts day n s es = flat_map (accounts_of day) es ++ accounts_of_part day (payment_of s day n) ++ (if is_batch s then option_to_list (fund_of day n) else [])

parts_of_batch : (day : Day) (n : ℕ) (p : Procedure) (es : List Entry) → parts day n (sort_of_batch p) es ≡ flat_map (accounts_of day) es ++ option_to_list (fund_of day n)
parts_of_batch day n A es = ap (λ (xs : List ℕ). xs ++ option_to_list (fund_of day n)) (append-nil (flat_map (accounts_of day) es))
parts_of_batch day n B es = ap (λ (xs : List ℕ). xs ++ option_to_list (fund_of day n)) (append-nil (flat_map (accounts_of day) es))
parts_of_batch day n C es = ap (λ (xs : List ℕ). xs ++ option_to_list (fund_of day n)) (append-nil (flat_map (accounts_of day) es))
parts_of_batch day n D es = ap (λ (xs : List ℕ). xs ++ option_to_list (fund_of day n)) (append-nil (flat_map (accounts_of day) es))
parts_of_batch day n E es = ap (λ (xs : List ℕ). xs ++ option_to_list (fund_of day n)) (append-nil (flat_map (accounts_of day) es))

-- of a batch the accounts of its entries, and the fund
pub accounts_of_batch : (day : Day) (n : ℕ) (m : Message) (p : Procedure) (info early till : Option ℕ) (count sum : ℕ) (es : List Entry) → message_at day n ≡ Some m → m.body ≡ bodies.Batch p info early till count sum es
    → accounts_of_message day n ≡ flat_map (accounts_of day) (entries day n) ++ option_to_list (fund_of day n)
accounts_of_batch day n m p info early till count sum es e b =
    let sort : sort_of day n ≡ sort_of_batch p = ap (λ (o : Option Message). option_map_or (λ x. sort_of_body x.body) o Missing) e ∙ ap sort_of_body b in
    ap (λ s. parts day n s (entries day n)) sort ∙ parts_of_batch day n p (entries day n)
