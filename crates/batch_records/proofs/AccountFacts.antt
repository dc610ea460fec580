-- What a record of a system or an account is that has no code.
use Rattle.std.proofs.Common.{◌≡◌, ◌<◌, ◌≤◌, ◌+◌, ℕ, List, [], ◌∷◌, Option, Some, None, Bool, true, false, not, length, refl, arith}
use Rattle.std.specs.Prelude.{◌==◌, ◌&&◌, ◌||◌, bytes_eq, is_none, nat_eq, nat_le, nat_lt}
use Rattle.std.specs.List.{list_any}
use Rattle.std.proofs.lemmas.Grind.{common_steps}
use Rattle.cash_amounts.specs.Names.{is_name}
use Rattle.cash_amounts.specs.SoundSetup.{fits, is_listed, is_name_twice, is_role_twice, is_system_name, is_technical_for, lists, owns_dca}
use Rattle.cash_amounts.specs.Tests.{some_passes}
use Rattle.cash_amounts.specs.declared.cents.TheConstants.{MAX_CENTS}
use Rattle.cash_amounts.specs.declared.records.AccountKind.{AccountKind}
use Rattle.cash_amounts.specs.declared.records.AccountKind.TheVariants as account_kinds
use Rattle.cash_amounts.specs.declared.records.AccountRecord.{AccountRecord}
use Rattle.cash_amounts.specs.declared.records.Procedure.{Procedure}
use Rattle.cash_amounts.specs.declared.records.Procedure.TheVariants as procedures
use Rattle.cash_amounts.specs.declared.records.SystemRecord.{SystemRecord}
use Rattle.batch_records.specs.Amounts.{amount_in, cents_of}
use Rattle.batch_records.specs.Codes.{has_bad_setup, is_past_limit, is_role_taken, is_twice, is_unfit}
use Rattle.batch_records.specs.Kinds.{account_kind_in, has_bad_amount, has_other_word, link_names}
use Rattle.batch_records.specs.Made.{account_from, procedure_linked, system_from, system_linked}
use Rattle.batch_records.specs.Records.{Fields, field}
use Rattle.batch_records.specs.Sound.{is_spelled_account, is_spelled_system}
use Rattle.batch_records.specs.Step.{IsAccount, IsLink, IsSystem}
use Rattle.batch_records.specs.Words.{is_procedures, listed, rises_from, technical_named}
use Rattle.batch_records.specs.declared.kinds.RecordKind.TheVariants as record_kinds
use Rattle.batch_records.specs.declared.so_far.SoFar.{SoFar}
use Rattle.batch_records.proofs.BoolFacts.{and_both, le_failed, le_meant, lt_failed, lt_meant, not_false, or_neither}
use Rattle.batch_records.proofs.Fine.{AllHold, IsFine, is_known, names_hold}

-- ---- systems

pub system_texts : (s : SoFar) (r : Fields) → IsFine record_kinds.As s r → IsSystem r
system_texts s r f = (names_hold record_kinds.As s r f).0

pub system_new : (s : SoFar) (r : Fields) → IsFine record_kinds.As s r → is_system_name s.systems (field r 1) ≡ false
unfolding is_twice
system_new s r f = f.twice

pub system_no_bank : (s : SoFar) (r : Fields) → IsFine record_kinds.As s r → owns_dca s.accounts (field r 1) ≡ false
unfolding has_bad_setup
system_no_bank s r f = f.setup

pub system_count : (s : SoFar) (r : Fields) → IsFine record_kinds.As s r → length s.systems < 256
unfolding is_past_limit
system_count s r f = le_failed 256 (length s.systems) f.limit

-- a letter of A to E is one of the five
some_letter : (c : ℕ) → 64 < c → c ≤ 69 → ((c == 65) || ((c == 66) || ((c == 67) || ((c == 68) || ((c == 69) || false))))) ≡ true
some_letter c above below = grind (arith, common_steps)

-- each of five tests goes on by more tests
five_front : (a b c d e v w x y z : Bool) → (a || (b || (c || (d || (e || false))))) ≡ true → ((a || v) || ((b || w) || ((c || x) || ((d || y) || ((e || z) || false))))) ≡ true
five_front true b c d e v w x y z h = refl
five_front false true c d e true w x y z h = refl
five_front false true c d e false w x y z h = refl
five_front false false true d e v w x y z h = grind (arith, common_steps)
five_front false false false true e v w x y z h = grind (arith, common_steps)
five_front false false false false true v w x y z h = grind (arith, common_steps)
five_front false false false false false v w x y z h = cc h

lists_first : (text : List ℕ) → is_procedures text ≡ true → list_any (λ flag. flag) (listed text) ≡ true
unfolding is_procedures listed
lists_first [] e = cc e
lists_first (c ∷ text) e =
    let some = and_both (not (length (c ∷ text) == 0)) (rises_from 64 (c ∷ text)) e in
    let parts = and_both (nat_lt 64 c && nat_le c 69) (rises_from c text) some.1 in
    let ends = and_both (nat_lt 64 c) (nat_le c 69) parts.0 in
    five_front (c == 65) (c == 66) (c == 67) (c == 68) (c == 69) (list_any (λ c. c == 65) text) (list_any (λ c. c == 66) text) (list_any (λ c. c == 67) text) (list_any (λ c. c == 68) text) (list_any (λ c. c == 69) text)
    (some_letter c (lt_meant 64 c ends.0) (le_meant c 69 ends.1))

system_letters : (s : SoFar) (r : Fields) → IsFine record_kinds.As s r → is_procedures (field r 2) ≡ true
unfolding has_other_word
system_letters s r f = not_false (is_procedures (field r 2)) f.words

pub system_spelled : (s : SoFar) (r : Fields) → IsFine record_kinds.As s r → is_spelled_system (system_from r) ≡ true
system_spelled s r f = rw (system_texts s r f) (lists_first (field r 2) (system_letters s r f))

-- ---- accounts

link_holds : (kind : AccountKind) (r : Fields) → AllHold is_name (link_names kind r) → IsLink kind (field r 4)
link_holds account_kinds.Dca r h = tt
link_holds account_kinds.Sub r h = h.0
link_holds account_kinds.Tech r h = tt
link_holds account_kinds.Fund r h = tt

pub account_texts : (s : SoFar) (r : Fields) → IsFine record_kinds.Acc s r → IsAccount r
unfolding has_bad_amount
account_texts s r f =
    let names = names_hold record_kinds.Acc s r f in
    (names.0, names.1.0, is_known (cents_of (field r 5)) f.amounts, link_holds (account_kind_in r) r names.1.1)

link_spelled : (kind : AccountKind) (link : List ℕ) → IsLink kind link → (is_none (system_linked kind link) || some_passes is_name (system_linked kind link)) ≡ true
link_spelled account_kinds.Dca link h = refl
link_spelled account_kinds.Sub link h = h
link_spelled account_kinds.Tech link h = refl
link_spelled account_kinds.Fund link h = refl

pub account_spelled : (s : SoFar) (r : Fields) → IsFine record_kinds.Acc s r → is_spelled_account (account_from r) ≡ true
account_spelled s r f =
    let t = account_texts s r f in
    rw (t.0, t.1) (link_spelled (account_kind_in r) (field r 4) t.3)

account_limits : (s : SoFar) (r : Fields) → IsFine record_kinds.Acc s r → (length s.accounts < 4096) × (s.opened + amount_in (field r 5) ≤ MAX_CENTS)
unfolding is_past_limit
account_limits s r f =
    let limits = or_neither (nat_le 4096 (length s.accounts)) (nat_lt MAX_CENTS (s.opened + amount_in (field r 5))) f.limit in
    (le_failed 4096 (length s.accounts) limits.0, lt_failed MAX_CENTS (s.opened + amount_in (field r 5)) limits.1)

pub account_count : (s : SoFar) (r : Fields) → IsFine record_kinds.Acc s r → length s.accounts < 4096
account_count s r f = (account_limits s r f).0

pub account_opens : (s : SoFar) (r : Fields) → IsFine record_kinds.Acc s r → s.opened + amount_in (field r 5) ≤ MAX_CENTS
account_opens s r f = (account_limits s r f).1

-- ---- an account that fits after others

pub record Joins (systems : List SystemRecord) (accounts : List AccountRecord) (a : AccountRecord) : Type 0 where
  pub name : is_name_twice accounts a ≡ false
  pub role : is_role_twice a.kind a.procedure accounts a ≡ false
  pub fit : fits a.kind systems accounts a ≡ true

account_twice : (s : SoFar) (r : Fields) → IsFine record_kinds.Acc s r → (list_any (λ a. bytes_eq a.name (field r 1)) s.accounts ≡ false) × (is_role_taken (account_kind_in r) s r ≡ false)
unfolding is_twice
account_twice s r f = or_neither (list_any (λ a. bytes_eq a.name (field r 1)) s.accounts) (is_role_taken (account_kind_in r) s r) f.twice

account_unfit : (s : SoFar) (r : Fields) → IsFine record_kinds.Acc s r → is_unfit (account_kind_in r) s r ≡ false
unfolding has_bad_setup
account_unfit s r f = f.setup

technical_free : (p : Option Procedure) (accounts : List AccountRecord) (a : AccountRecord) → some_passes (λ p. list_any (is_technical_for a.owner p) accounts) p ≡ false → is_role_twice account_kinds.Tech p accounts a ≡ false
technical_free None accounts a e = refl
technical_free (Some p) accounts a e = e

role_free : (kind : AccountKind) (s : SoFar) (r : Fields) (a : AccountRecord) → a.owner ≡ field r 3 → is_role_taken kind s r ≡ false → is_role_twice kind (procedure_linked kind (field r 4)) s.accounts a ≡ false
unfolding is_role_taken
role_free account_kinds.Dca s r a own e = refl
role_free account_kinds.Sub s r a own e = refl
role_free account_kinds.Tech s r a own e = technical_free (technical_named (field r 4)) s.accounts a (rw own e)
role_free account_kinds.Fund s r a own e = rw own e

is_zero : (n : ℕ) → not (n == 0) ≡ false → nat_eq n 0 ≡ true
is_zero n e = not_false (nat_eq n 0) e

kind_fits : (kind : AccountKind) (s : SoFar) (r : Fields) (a : AccountRecord) → a.owner ≡ field r 3 → a.system ≡ system_linked kind (field r 4) → a.procedure ≡ procedure_linked kind (field r 4)
    → a.opening ≡ amount_in (field r 5) → is_unfit kind s r ≡ false → fits kind s.systems s.accounts a ≡ true
unfolding is_unfit
kind_fits account_kinds.Dca s r a own link p opening e =
    let both = or_neither (not (length (field r 4) == 0)) (is_system_name s.systems (field r 3)) e in
    rw (own, link, p, both.1) refl
kind_fits account_kinds.Sub s r a own link p opening e =
    let both = or_neither (not (owns_dca s.accounts (field r 3)) || not (lists s.systems (field r 4) procedures.C)) (not (amount_in (field r 5) == 0)) e in
    let front = or_neither (not (owns_dca s.accounts (field r 3))) (not (lists s.systems (field r 4) procedures.C)) both.0 in
    rw (own, link, p, opening, not_false (owns_dca s.accounts (field r 3)) front.0, not_false (lists s.systems (field r 4) procedures.C) front.1, is_zero (amount_in (field r 5)) both.1) refl
kind_fits account_kinds.Tech s r a own link p opening e =
    let both = or_neither (not (is_listed s.systems (field r 3) (technical_named (field r 4)))) (not (amount_in (field r 5) == 0)) e in
    rw (own, link, p, opening, not_false (is_listed s.systems (field r 3) (technical_named (field r 4))) both.0, is_zero (amount_in (field r 5)) both.1) refl
kind_fits account_kinds.Fund s r a own link p opening e =
    let both = or_neither (not (is_system_name s.systems (field r 3))) (not (length (field r 4) == 0)) e in
    rw (own, link, p, not_false (is_system_name s.systems (field r 3)) both.0) refl

pub account_joins : (s : SoFar) (r : Fields) → IsFine record_kinds.Acc s r → Joins s.systems s.accounts (account_from r)
account_joins s r f =
    let twice = account_twice s r f in
    record {
      name = twice.0;
      role = role_free (account_kind_in r) s r (account_from r) refl twice.1;
      fit = kind_fits (account_kind_in r) s r (account_from r) refl refl refl refl (account_unfit s r f);
    }
