-- The banks that are found by the entries of a batch are those that the definition tells.
use Rattle.std.proofs.Common.{◌≡◌, ◌∙◌, ℕ, suc, ◌≤◌, ◌<◌, Bool, true, false, ◌&&◌, ◌||◌, List, [], ◌∷◌, Option, Some, None, refl, sym, ap, arith, length, map}
use Rattle.std.specs.Prelude.{unwrap_or}
use Rattle.std.specs.List.{list_any}
use Rattle.std.specs.Option.{option_map_or}
use Rattle.std.proofs.lemmas.Bool.{and_parts, and_right, ne_eqb}
use Rattle.std.proofs.lemmas.Slice.Eq.{bytes_eq-Decides}
use Rattle.cash_amounts.specs.declared.records.AccountRecord.{AccountRecord}
use Rattle.cash_amounts.specs.Kinds.{is_dca}
use Rattle.cash_amounts.specs.Tests.{same_name, some_passes}
use Rattle.batch_records.specs.DayRecord.{Day}
use Rattle.batch_records.specs.declared.day.Entry.{Entry}
use Rattle.machine.specs.Words.{same_account}
use Rattle.machine.specs.Records.Setup.{account_at, account_named, first_dca, owner, owns}
use Rattle.machine.specs.Records.Messages.{entries, move_of}
use Rattle.rule_book.specs.Moves.{entry_moves}
use Rattle.machine.specs.Telling.Facts.{is_party}
use Rattle.settlement_laws.proofs.Base.Lists.{never}
use Rattle.settlement_laws.proofs.Base.Numbers.{position_found}
use Rattle.settlement_laws.proofs.ProcedureA.DebitedByOwnBatches.{found_passes}
use Rattle.status_messages.specs.Statuses.{is_first_dca, is_party_of}
use Rattle.status_messages.specs.LineTexts.{first_of, first_of_owner, is_called, is_called_by, is_called_in, leads_to}

-- ---- the first cash account of an owner

-- it is the owner's
first_is_own : (day : Day) (name : List ℕ) (a : ℕ) → first_dca day name ≡ Some a → owner day a ≡ name
first_is_own day name a e = here (account_at day a) (found_passes day (λ r. is_dca r.kind && same_name r.owner name) a e)
  where
    here : (o : Option AccountRecord) → some_passes (λ (r : AccountRecord). is_dca r.kind && same_name r.owner name) o ≡ true → option_map_or (λ (r : AccountRecord). r.owner) o [] ≡ name
    here None h = cc
    here (Some r) h = (bytes_eq-Decides r.owner name).0 (and_parts (is_dca r.kind) (same_name r.owner name) h).1

-- its number is one of an account
pub first_within : (day : Day) (name : List ℕ) (a : ℕ) → first_dca day name ≡ Some a → (1 ≤ a) × (a < suc (length day.accounts))
first_within day name a e =
    let f = position_found (λ (r : AccountRecord). is_dca r.kind && same_name r.owner name) 1 day.accounts a e in
    (omega (arith, f.number), omega (arith, f.number, f.within))

pub leads_within : (day : Day) (o : Option ℕ) (a : ℕ) → first_of day o ≡ Some a → a < suc (length day.accounts)
leads_within day None a e = cc
leads_within day (Some x) a e = here (account_at day x) e
  where
    here : (p : Option AccountRecord) → first_of_owner day p ≡ Some a → a < suc (length day.accounts)
    here None e = cc
    here (Some r) e = (first_within day r.owner a e).1

never_zero : (day : Day) (name : List ℕ) (o : Option ℕ) → first_dca day name ≡ o → same_account o (Some 0) ≡ false
never_zero day name None e = refl
never_zero day name (Some b) e = let low = (first_within day name b e).0 in ne_eqb b 0 (λ z. omega (arith, z, low))

-- ---- who is called by an entry

always : (b : Bool) → (b && true) ≡ b
always true = refl
always false = refl

-- the first cash account of this owner is a: it is the first of its own owner, who is the same
of_owner : (day : Day) (a : ℕ) (name : List ℕ) → same_account (first_dca day name) (Some a) ≡ (is_first_dca day a && same_name name (owner day a))
of_owner day a name = here (same_name name (owner day a)) refl
  where
    elsewhere : (o : Option ℕ) → first_dca day name ≡ o → same_name name (owner day a) ≡ false → same_account o (Some a) ≡ false
    elsewhere None e n = refl
    elsewhere (Some b) e n = ne_eqb b a (λ q. never (same_name name (owner day a)) ((bytes_eq-Decides name (owner day a)).1 (sym (first_is_own day name b e) ∙ ap (owner day) q)) n)

    here : (c : Bool) → same_name name (owner day a) ≡ c → same_account (first_dca day name) (Some a) ≡ (is_first_dca day a && same_name name (owner day a))
    here true e =
        ap (λ (n : List ℕ). same_account (first_dca day n) (Some a)) ((bytes_eq-Decides name (owner day a)).0 e)
        ∙ sym (ap (λ c. is_first_dca day a && c) e ∙ always (is_first_dca day a))
    here false e = elsewhere (first_dca day name) refl e ∙ sym (ap (λ c. is_first_dca day a && c) e ∙ and_right (is_first_dca day a) false refl)

of_account : (day : Day) (a : ℕ) (o : Option ℕ) → same_account (first_of day o) (Some a) ≡ (is_first_dca day a && some_passes (λ x. some_passes (λ (r : AccountRecord). same_name r.owner (owner day a)) (account_at day x)) o)
of_account day a None = sym (and_right (is_first_dca day a) false refl)
of_account day a (Some x) = here (account_at day x)
  where
    here : (p : Option AccountRecord) → same_account (first_of_owner day p) (Some a) ≡ (is_first_dca day a && some_passes (λ (r : AccountRecord). same_name r.owner (owner day a)) p)
    here None = sym (and_right (is_first_dca day a) false refl)
    here (Some r) = of_owner day a r.owner

-- ---- by the moves of entries

first_at : (day : Day) (o : Option ℕ) → first_of day (Some (unwrap_or o 0)) ≡ first_of day o
first_at day None = refl
first_at day (Some x) = refl

call_is : (day : Day) (a : ℕ) (e : Entry) → is_called_in day a (move_of day e) ≡ is_called_by day a e
call_is day a e = λ i. same_account (first_at day (account_named day e.debit) i) (Some a) || same_account (first_at day (account_named day e.credit) i) (Some a)

any_moves : (day : Day) (a : ℕ) (es : List Entry) → list_any (is_called_in day a) (map (move_of day) es) ≡ list_any (is_called_by day a) es
any_moves day a [] = refl
any_moves day a (e ∷ es) = λ i. call_is day a e i || any_moves day a es i

pub called_in : (day : Day) (n a : ℕ) → list_any (is_called_in day a) (entry_moves day n) ≡ is_called day n a
called_in day n a = any_moves day a (entries day n)

-- ---- by the owners of their accounts

leads_is : (day : Day) (a : ℕ) (name : List ℕ) → leads_to day a name ≡ (is_first_dca day a && owns day (owner day a) name)
leads_is day a name = of_account day a (account_named day name)

either : (f b c : Bool) → ((f && b) || (f && c)) ≡ (f && (b || c))
either true b c = refl
either false b c = refl

called_by_is : (day : Day) (a : ℕ) (e : Entry) → is_called_by day a e ≡ (is_first_dca day a && is_party day (owner day a) e)
called_by_is day a e = (λ i. leads_is day a e.debit i || leads_is day a e.credit i) ∙ either (is_first_dca day a) (owns day (owner day a) e.debit) (owns day (owner day a) e.credit)

any_and : {X : Type 0} (f : Bool) (p : X → Bool) (xs : List X) → list_any (λ x. f && p x) xs ≡ (f && list_any p xs)
any_and f p [] = sym (and_right f false refl)
any_and f p (x ∷ xs) = ap (λ b. (f && p x) || b) (any_and f p xs) ∙ either f (p x) (list_any p xs)

pub called_is : (day : Day) (n a : ℕ) → is_called day n a ≡ (is_first_dca day a && is_party_of day n (owner day a))
called_is day n a = (λ i. list_any (λ e. called_by_is day a e i) (entries day n)) ∙ any_and (is_first_dca day a) (is_party day (owner day a)) (entries day n)

never_past : (day : Day) (name : List ℕ) (o : Option ℕ) (a : ℕ) → length day.accounts < a → first_dca day name ≡ o → same_account o (Some a) ≡ false
never_past day name None a past e = refl
never_past day name (Some b) a past e = let high = (first_within day name b e).1 in ne_eqb b a (λ z. omega (arith, z, high, past))

-- no account has the number 0
pub zero_uncalled : (day : Day) (n : ℕ) → is_called day n 0 ≡ false
zero_uncalled day n = called_is day n 0 ∙ ap (λ b. b && is_party_of day n (owner day 0)) (never_zero day (owner day 0) (first_dca day (owner day 0)) refl)

-- nor one above that of the last
pub past_uncalled : (day : Day) (n a : ℕ) → length day.accounts < a → is_called day n a ≡ false
past_uncalled day n a past = called_is day n a ∙ ap (λ b. b && is_party_of day n (owner day a)) (never_past day (owner day a) (first_dca day (owner day a)) a past refl)
