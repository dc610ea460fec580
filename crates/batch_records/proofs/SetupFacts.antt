-- A sound setup stays sound when it gains a system or an account.
use Rattle.std.proofs.Common.{◌≡◌, ◌∙◌, List, [], ◌∷◌, ◌++◌, Option, Some, None, Bool, true, false, not, refl, sym, inl, inr, ℕ}
use Rattle.std.specs.Prelude.{◌&&◌, ◌||◌, bytes_eq, is_none, nat_eq, slice_get}
use Rattle.std.specs.List.{list_any}
use Rattle.std.proofs.lemmas.Bool.{cases_Bool}
use Rattle.std.proofs.lemmas.List.Folds.{list_any-append}
use Rattle.std.proofs.lemmas.Slice.Eq.{bytes_eq-Decides}
use Rattle.cash_amounts.specs.Kinds.{flag_of, is_dca}
use Rattle.cash_amounts.specs.SoundSetup.{accounts_are_sound, fits, is_flag_set, is_fund_for, is_listed, is_name_twice, is_role_twice, is_system_name, is_technical_for, links_to, lists, owns_dca, systems_are_sound}
use Rattle.cash_amounts.specs.declared.records.AccountKind.{AccountKind}
use Rattle.cash_amounts.specs.declared.records.AccountKind.TheVariants as account_kinds
use Rattle.cash_amounts.specs.declared.records.AccountRecord.{AccountRecord}
use Rattle.cash_amounts.specs.declared.records.Procedure.{Procedure}
use Rattle.cash_amounts.specs.declared.records.Procedure.TheVariants as procedures
use Rattle.cash_amounts.specs.declared.records.SystemRecord.{SystemRecord}
use Rattle.batch_records.proofs.AccountFacts.{Joins}
use Rattle.batch_records.proofs.BoolFacts.{and_both, not_true, or_false, or_neither}

-- ---- one more account

-- some elements in front of others, the last of them in front
onto : {X : Type 0} → List X → List X → List X
onto [] before = before
onto (x ∷ xs) before = onto xs (x ∷ before)

moved : (a b c : Bool) → (b || (a || c)) ≡ ((a || b) || c)
moved true true c = refl
moved true false c = refl
moved false b c = refl

any_onto : {X : Type 0} (p : X → Bool) (xs before : List X) → list_any p (onto xs before) ≡ (list_any p xs || list_any p before)
unfolding onto
any_onto p [] before = refl
any_onto p (x ∷ xs) before = any_onto p xs (x ∷ before) ∙ moved (p x) (list_any p xs) (list_any p before)

any_same : {X : Type 0} (p : X → Bool) (xs : List X) → list_any p (onto xs []) ≡ list_any p xs
any_same p xs = any_onto p xs [] ∙ or_false (list_any p xs)

role_same : (kind : AccountKind) (p : Option Procedure) (xs : List AccountRecord) (a : AccountRecord) → is_role_twice kind p (onto xs []) a ≡ is_role_twice kind p xs a
role_same account_kinds.Tech (Some p) xs a = any_same (is_technical_for a.owner p) xs
role_same account_kinds.Tech None xs a = refl
role_same account_kinds.Fund p xs a = any_same (is_fund_for a.owner) xs
role_same account_kinds.Dca p xs a = refl
role_same account_kinds.Sub p xs a = refl

fits_same : (kind : AccountKind) (systems : List SystemRecord) (xs : List AccountRecord) (a : AccountRecord) → fits kind systems (onto xs []) a ≡ fits kind systems xs a
fits_same account_kinds.Sub systems xs a = rw (any_same (λ (r : AccountRecord). is_dca r.kind && bytes_eq r.owner a.owner) xs) refl
fits_same account_kinds.Dca systems xs a = refl
fits_same account_kinds.Tech systems xs a = refl
fits_same account_kinds.Fund systems xs a = refl

accounts_from : (systems : List SystemRecord) (before xs : List AccountRecord) (a : AccountRecord) → Joins systems (onto xs before) a
    → accounts_are_sound systems before xs ≡ true → accounts_are_sound systems before (xs ++ a ∷ []) ≡ true
unfolding onto
accounts_from systems before [] a j h = rw (j.name, j.role, j.fit) refl
accounts_from systems before (x ∷ xs) a j h =
    let rest = and_both _ (accounts_are_sound systems (x ∷ before) xs) h in
    rw (rest.0, accounts_from systems (x ∷ before) xs a j rest.1) refl

pub accounts_next : (systems : List SystemRecord) (accounts : List AccountRecord) (a : AccountRecord) → Joins systems accounts a
    → accounts_are_sound systems [] accounts ≡ true → accounts_are_sound systems [] (accounts ++ a ∷ []) ≡ true
accounts_next systems accounts a j h =
    accounts_from systems [] accounts a
    (record {
      name = any_same (λ (q : AccountRecord). bytes_eq q.name a.name) accounts ∙ j.name;
      role = role_same a.kind a.procedure accounts a ∙ j.role;
      fit = fits_same a.kind systems accounts a ∙ j.fit;
    })
    h

-- ---- one more system

apart : (a b : List ℕ) → bytes_eq a b ≡ false → bytes_eq b a ≡ false
apart a b e =
    elim (cases_Bool (bytes_eq b a)) [
      | inl same ↦ cc (e, (bytes_eq-Decides a b).1 (sym ((bytes_eq-Decides b a).0 same)))
      | inr other ↦ other
    ]

or_more : (a b : Bool) → a ≡ true → (a || b) ≡ true
or_more true b e = refl
or_more false b e = cc e

lists_more : (systems : List SystemRecord) (n : SystemRecord) (name : List ℕ) (p : Procedure) → lists systems name p ≡ true → lists (systems ++ n ∷ []) name p ≡ true
lists_more systems n name p e =
    list_any-append (λ (r : SystemRecord). bytes_eq r.name name && is_flag_set (slice_get r.procedures (flag_of p))) systems (n ∷ [])
    ∙ or_more (lists systems name p) (list_any (λ (r : SystemRecord). bytes_eq r.name name && is_flag_set (slice_get r.procedures (flag_of p))) (n ∷ [])) e

links_more : (systems : List SystemRecord) (n : SystemRecord) (link : Option (List ℕ)) → links_to systems link ≡ true → links_to (systems ++ n ∷ []) link ≡ true
links_more systems n None e = e
links_more systems n (Some system) e = lists_more systems n system procedures.C e

listed_more : (systems : List SystemRecord) (n : SystemRecord) (owner : List ℕ) (p : Option Procedure) → is_listed systems owner p ≡ true → is_listed (systems ++ n ∷ []) owner p ≡ true
listed_more systems n owner None e = e
listed_more systems n owner (Some procedures.A) e = lists_more systems n owner procedures.A e
listed_more systems n owner (Some procedures.B) e = lists_more systems n owner procedures.B e
listed_more systems n owner (Some procedures.C) e = lists_more systems n owner procedures.C e
listed_more systems n owner (Some procedures.D) e = lists_more systems n owner procedures.D e
listed_more systems n owner (Some procedures.E) e = e

named_more : (systems : List SystemRecord) (n : SystemRecord) (name : List ℕ) → is_system_name (systems ++ n ∷ []) name ≡ (is_system_name systems name || (bytes_eq n.name name || false))
named_more systems n name = list_any-append (λ (r : SystemRecord). bytes_eq r.name name) systems (n ∷ [])

fits_more : (kind : AccountKind) (systems : List SystemRecord) (n : SystemRecord) (before : List AccountRecord) (a : AccountRecord) → (is_dca kind && bytes_eq a.owner n.name) ≡ false
    → fits kind systems before a ≡ true → fits kind (systems ++ n ∷ []) before a ≡ true
fits_more account_kinds.Dca systems n before a own e =
    let both = and_both (is_none a.system && is_none a.procedure) (not (is_system_name systems a.owner)) e in
    let owner = not_true (is_system_name systems a.owner) both.1 in
    rw (both.0, named_more systems n a.owner, owner, apart a.owner n.name own) refl
fits_more account_kinds.Sub systems n before a own e =
    let opens = and_both _ (nat_eq a.opening 0) e in
    let plain = and_both _ (is_none a.procedure) opens.0 in
    let linked = and_both (owns_dca before a.owner) (links_to systems a.system) plain.0 in
    rw (linked.0, links_more systems n a.system linked.1, plain.1, opens.1) refl
fits_more account_kinds.Tech systems n before a own e =
    let opens = and_both _ (nat_eq a.opening 0) e in
    let listed = and_both (is_none a.system) (is_listed systems a.owner a.procedure) opens.0 in
    rw (listed.0, listed_more systems n a.owner a.procedure listed.1, opens.1) refl
fits_more account_kinds.Fund systems n before a own e =
    let both = and_both (is_none a.system && is_none a.procedure) (is_system_name systems a.owner) e in
    rw (both.0, named_more systems n a.owner, both.1) refl

-- the accounts of a setup fit one more system that owns none of its dedicated cash accounts
pub accounts_under : (systems : List SystemRecord) (n : SystemRecord) (before accounts : List AccountRecord) → owns_dca accounts n.name ≡ false
    → accounts_are_sound systems before accounts ≡ true → accounts_are_sound (systems ++ n ∷ []) before accounts ≡ true
accounts_under systems n before [] none h = refl
accounts_under systems n before (a ∷ accounts) none h =
    let rest = and_both _ (accounts_are_sound systems (a ∷ before) accounts) h in
    let front = and_both (not (is_name_twice before a) && not (is_role_twice a.kind a.procedure before a)) (fits a.kind systems before a) rest.0 in
    let own = or_neither (is_dca a.kind && bytes_eq a.owner n.name) (owns_dca accounts n.name) none in
    rw (front.0, fits_more a.kind systems n before a own.0 front.1, accounts_under systems n (a ∷ before) accounts own.1 rest.1) refl

systems_from : (before xs : List SystemRecord) (n : SystemRecord) → is_system_name (onto xs before) n.name ≡ false → systems_are_sound before xs ≡ true → systems_are_sound before (xs ++ n ∷ []) ≡ true
unfolding onto
systems_from before [] n new h = rw new refl
systems_from before (x ∷ xs) n new h =
    let rest = and_both (not (is_system_name before x.name)) (systems_are_sound (x ∷ before) xs) h in
    rw (rest.0, systems_from (x ∷ before) xs n new rest.1) refl

pub systems_next : (systems : List SystemRecord) (n : SystemRecord) → is_system_name systems n.name ≡ false → systems_are_sound [] systems ≡ true → systems_are_sound [] (systems ++ n ∷ []) ≡ true
systems_next systems n new h = systems_from [] systems n (any_same (λ (r : SystemRecord). bytes_eq r.name n.name) systems ∙ new) h
