-- Where the balances of all accounts are at hand, those of the accounts of any want are.
use Rattle.std.proofs.Common.{◌≡◌, ℕ, zero, suc, ◌+◌, ◌<◌, Bool, true, false, ◌&&◌, List, [], ◌∷◌, ◌++◌, length, Option, Some, None, refl, sym, ap, ◌∙◌, subst, arith}
use Rattle.std.specs.Prelude.{flat_map, if◌then◌else◌, option_to_list, slice_get}
use Rattle.std.specs.List.{list_all, position_from, range_with_len}
use Rattle.std.proofs.lemmas.Bool.{false≢true, and_parts}
use Rattle.cash_amounts.specs.Tests.{some_passes}
use Rattle.cash_amounts.specs.declared.records.AccountRecord.{AccountRecord}
use Rattle.batch_records.specs.DayRecord.{Day}
use Rattle.batch_records.specs.declared.day.Entry.{Entry}
use Rattle.commit_journal.specs.declared.line.Want.{Want}
use Rattle.commit_journal.specs.declared.line.Want.TheVariants as wants
use Rattle.machine.specs.Records.Setup.{account_at, account_named, account_numbers, first_dca, is_sub_account, owner}
use Rattle.machine.specs.Records.Messages.{Sort, BatchD, Liquidity, sort_of, entries, fund_of, is_batch, part, transfer}
use Rattle.machine.specs.Making.Accounts.{accounts_of, accounts_of_message, accounts_of_part, accounts_taken, payment_of}
use Rattle.rule_book.specs.Answering.{has_accounts}
use Rattle.settlement_laws.proofs.Base.Numbers.{FoundAt, position_found}

pub all_range : (held : ℕ → Bool) (s len j : ℕ) → list_all held (range_with_len s len) ≡ true → j < len → held (s + j) ≡ true
all_range held s zero j h low = absurd (omega arith)
all_range held s (suc len) zero h low =
    let e : s ≡ s + 0 = omega arith in
    subst (λ a. held a ≡ true) e (and_parts (held s) (list_all held (range_with_len (s + 1) len)) h).0
all_range held s (suc len) (suc j) h low =
    let e : (s + 1) + j ≡ s + suc j = omega arith in
    subst (λ a. held a ≡ true) e (all_range held (s + 1) len j (and_parts (held s) (list_all held (range_with_len (s + 1) len)) h).1 (omega arith))

-- of an account that was found
found_held : (held : ℕ → Bool) (day : Day) (test : AccountRecord → Bool) (a : ℕ) → list_all held (account_numbers day) ≡ true → position_from test 1 day.accounts ≡ Some a → held a ≡ true
found_held held day test a h e =
    let f : FoundAt test 1 day.accounts a = position_found test 1 day.accounts a e in
    subst (λ b. held b ≡ true) (sym f.number) (all_range held 1 (length day.accounts) f.place h f.within)

option_held : (held : ℕ → Bool) (o : Option ℕ) → ((a : ℕ) → o ≡ Some a → held a ≡ true) → list_all held (option_to_list o) ≡ true
option_held held None h = refl
option_held held (Some a) h = ap (λ b. b && true) (h a refl)

joined : (held : ℕ → Bool) (xs ys : List ℕ) → list_all held xs ≡ true → list_all held ys ≡ true → list_all held (xs ++ ys) ≡ true
joined held [] ys h k = k
joined held (x ∷ xs) ys h k =
    let p = and_parts (held x) (list_all held xs) h in
    ap (λ b. b && list_all held (xs ++ ys)) p.0 ∙ joined held xs ys p.1 k

entry_held : (held : ℕ → Bool) (day : Day) → list_all held (account_numbers day) ≡ true → (e : Entry) → list_all held (accounts_of day e) ≡ true
entry_held held day h e =
    joined held (option_to_list (account_named day e.debit)) (option_to_list (account_named day e.credit))
    (option_held held (account_named day e.debit) (λ a f. found_held held day _ a h f))
    (option_held held (account_named day e.credit) (λ a f. found_held held day _ a h f))

entries_held : (held : ℕ → Bool) (day : Day) → list_all held (account_numbers day) ≡ true → (es : List Entry) → list_all held (flat_map (accounts_of day) es) ≡ true
entries_held held day h [] = refl
entries_held held day h (e ∷ es) = joined held (accounts_of day e) (flat_map (accounts_of day) es) (entry_held held day h e) (entries_held held day h es)

part_held : (held : ℕ → Bool) (day : Day) → list_all held (account_numbers day) ≡ true → (o : Option Entry) → list_all held (accounts_of_part day o) ≡ true
part_held held day h None = refl
part_held held day h (Some e) = entry_held held day h e

funds_held : (held : ℕ → Bool) (day : Day) (n : ℕ) → list_all held (account_numbers day) ≡ true → (b : Bool) → list_all held (if b then option_to_list (fund_of day n) else []) ≡ true
funds_held held day n h false = refl
funds_held held day n h true = option_held held (fund_of day n) (λ a f. found_held held day _ a h f)

message_held : (held : ℕ → Bool) (day : Day) (n : ℕ) → list_all held (account_numbers day) ≡ true → list_all held (accounts_of_message day n) ≡ true
message_held held day n h =
    let pays : List ℕ = accounts_of_part day (payment_of (sort_of day n) day n) in
    let funds : List ℕ = if is_batch (sort_of day n) then option_to_list (fund_of day n) else [] in
    joined held (flat_map (accounts_of day) (entries day n) ++ pays) funds
    (joined held (flat_map (accounts_of day) (entries day n)) pays (entries_held held day h (entries day n)) (part_held held day h (payment_of (sort_of day n) day n)))
    (funds_held held day n h (is_batch (sort_of day n)))

taken_held : (held : ℕ → Bool) (day : Day) (n : ℕ) → list_all held (account_numbers day) ≡ true → (s : Sort) → list_all held (accounts_taken s day n) ≡ true
taken_held held day n h Liquidity = part_held held day h (transfer day n)
taken_held held day n h BatchD = entries_held held day h (entries day n)
taken_held held day n h _ = refl

within : {X : Type 0} (xs : List X) (i : ℕ) (x : X) → slice_get xs i ≡ Some x → i < length xs
within [] zero x e = cc
within [] (suc i) x e = cc
within (y ∷ ys) zero x e = omega arith
within (y ∷ ys) (suc i) x e = let l = within ys i x e in omega arith

number_held : (held : ℕ → Bool) (day : Day) (a : ℕ) (o : Option AccountRecord) (test : AccountRecord → Bool) → list_all held (account_numbers day) ≡ true → account_at day a ≡ o → some_passes test o ≡ true → held a ≡ true
number_held held day a None test h e p = absurd (false≢true p)
number_held held day zero (Some r) test h e p = cc
number_held held day (suc i) (Some r) test h e p =
    let f : 1 + i ≡ suc i = omega arith in
    subst (λ b. held b ≡ true) f (all_range held 1 (length day.accounts) i h (within day.accounts i r e))

swept_held : (held : ℕ → Bool) (day : Day) (a : ℕ) → list_all held (account_numbers day) ≡ true → (b : Bool) → is_sub_account day a ≡ b → list_all held (if b then a ∷ option_to_list (first_dca day (owner day a)) else []) ≡ true
swept_held held day a h false e = refl
swept_held held day a h true e =
    ap (λ b. b && list_all held (option_to_list (first_dca day (owner day a)))) (number_held held day a (account_at day a) _ h refl e)
    ∙ option_held held (first_dca day (owner day a)) (λ d f. found_held held day _ d h f)

pub all_held : (held : ℕ → Bool) (day : Day) → list_all held (account_numbers day) ≡ true → (w : Want) → has_accounts held day w ≡ true
all_held held day h (wants.In n) = taken_held held day n h (sort_of day n)
all_held held day h (wants.Book n k) = part_held held day h (part day n k)
all_held held day h (wants.All n) = message_held held day n h
all_held held day h wants.Time = h
all_held held day h (wants.Expire n) = message_held held day n h
all_held held day h (wants.Ask n) = refl
all_held held day h (wants.Cover n) = message_held held day n h
all_held held day h (wants.Refuse n) = message_held held day n h
all_held held day h (wants.Sweep a) = swept_held held day a h (is_sub_account day a) refl
all_held held day h wants.End = h
