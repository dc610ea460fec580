-- The debtor accounts of a batch, entry by entry.
use Rattle.std.proofs.Common.{◌≡◌, ℕ, Bool, true, false, ◌&&◌, ◌||◌, List, [], ◌∷◌, ◌++◌, Option, Some, None, refl, sym, ap, ◌∙◌, cond, inl, inr, ◌+◌, ◌<◌, length, get_or, drop}
use Rattle.std.specs.Prelude.{nat_eq, is_some, map, filter, option_map, option_to_list, unwrap_or, flat_map, if◌then◌else◌}
use Rattle.std.specs.List.{list_all, list_any, find}
use Rattle.std.specs.Option.{option_or}
use Rattle.std.proofs.lemmas.Bool.{and_parts, and_from, or_left, or_right, eq-eqb, not-false}
use Rattle.std.proofs.lemmas.List.{drop_more}
use Rattle.std.proofs.lemmas.List.Folds.{list_all-append}
use Rattle.cash_amounts.specs.Tests.{some_passes}
use Rattle.batch_records.specs.DayRecord.{Day}
use Rattle.batch_records.specs.declared.day.Entry.{Entry}
use Rattle.commit_journal.specs.declared.line.Move.{Move}
use Rattle.commit_journal.specs.Line.{History}
use Rattle.machine.specs.declared.answers.Item.{Item}
use Rattle.machine.specs.declared.answers.Why.{Why}
use Rattle.machine.specs.Words.{only_if, when, same_account}
use Rattle.machine.specs.Records.Setup.{account_named, is_dca_account}
use Rattle.machine.specs.Records.Messages.{BatchB, sort_of, is_b, is_batch, entries, debit_account, is_debit_entry, pays_technical, technical_of, fund_of}
use Rattle.machine.specs.Stages.Intake.{entry_fits}
use Rattle.machine.specs.Making.Accounts.{accounts_of, accounts_of_message, accounts_of_part, payment_of}
use Rattle.machine.specs.Legal.{IsLegal}
use Rattle.machine.specs.Stages.Phases.{phase, is_open}
use Rattle.machine.specs.Stages.Pending.{item, debtors, debit_accounts_as, stands_on, is_blocked}
use Rattle.machine.specs.Stages.Blockers.{first_blocker}
use Rattle.machine.specs.Making.Lines.{is_short_debtor}
use Rattle.machine.specs.Making.Reasons.{blocked, blocked_at, blocked_by, blocked_on, short}
use Rattle.settlement_laws.proofs.Base.Searches.{blocked_is}
use Rattle.settlement_laws.proofs.Base.Lists.{IsIn, all_of}
use Rattle.settlement_laws.proofs.Base.PhaseLaws.{going_accepted, open_going}
use Rattle.settlement_laws.proofs.Base.IntakeFacts.{accepted_taken}
use Rattle.settlement_laws.proofs.ProcedureB.SettledWhole.{b_fits}
use Rattle.rule_book.specs.Moves.{goes_to}
use Rattle.proc_b.specs.Reasons.{blocked_for, debtors_in, short_for}
use Rattle.proc_b.proofs.OfB.{sort-is}

-- ---- one entry more

-- what is left of a list from its item i on
pub item_first : {X : Type 0} (xs : List X) (i : ℕ) (x : X) → i < length xs → x ≡ get_or xs i x → drop i xs ≡ x ∷ drop (i + 1) xs
item_first xs i x h e = drop_more xs i x h ∙ ap (λ y. y ∷ drop (i + 1) xs) (sym e)

blocked-next : (day : Day) (J : History) (n : ℕ) (t : Option ℕ) (m : Move) (ms : List Move) → blocked_on day J (item n 0) (debtors_in t (m ∷ ms)) ≡ option_or (blocked_for day J n t m) (blocked_on day J (item n 0) (debtors_in t ms))
blocked-next day J n t m ms = here (goes_to t m)
  where
    at : (o : Option Item) (b : Bool) → first_blocker day J (item n 0) m.debit ≡ o → is_some o ≡ b →
        blocked_at day J (item n 0) (cond b (Some m.debit) (find (is_blocked day J (item n 0)) (debtors_in t ms))) ≡ option_or (option_map (blocked_by m.debit) o) (blocked_on day J (item n 0) (debtors_in t ms))
    at (Some y) true f h = ap (option_map (blocked_by m.debit)) f
    at (Some y) false f h = cc
    at None true f h = cc
    at None false f h = refl

    here : (q : Bool) → blocked_on day J (item n 0) (map (λ (x : Move). x.debit) (cond q (m ∷ filter (goes_to t) ms) (filter (goes_to t) ms))) ≡ option_or (only_if q (blocked day J (item n 0) m.debit)) (blocked_on day J (item n 0) (debtors_in t ms))
    here true = at (first_blocker day J (item n 0) m.debit) (is_blocked day J (item n 0) m.debit) refl (blocked_is day J (item n 0) m.debit)
    here false = refl

short-next : (day : Day) (J : History) (n : ℕ) (t : Option ℕ) (m : Move) (ms : List Move) → option_map (short day J) (find (is_short_debtor day J n) (debtors_in t (m ∷ ms))) ≡ option_or (short_for day J n t m) (option_map (short day J) (find (is_short_debtor day J n) (debtors_in t ms)))
short-next day J n t m ms = here (goes_to t m) (is_short_debtor day J n m.debit) refl
  where
    here : (q s : Bool) → is_short_debtor day J n m.debit ≡ s →
        option_map (short day J) (find (is_short_debtor day J n) (map (λ (x : Move). x.debit) (cond q (m ∷ filter (goes_to t) ms) (filter (goes_to t) ms)))) ≡ option_or (when (q && s) (short day J m.debit)) (option_map (short day J) (find (is_short_debtor day J n) (debtors_in t ms)))
    here true true h = ap (λ b. option_map (short day J) (cond b (Some m.debit) (find (is_short_debtor day J n) (debtors_in t ms)))) h
    here true false h = ap (λ b. option_map (short day J) (cond b (Some m.debit) (find (is_short_debtor day J n) (debtors_in t ms)))) h
    here false s h = refl

-- what holds of each debtor account holds of that of a debit entry that stands first, and of the others
debtor-next : (test : ℕ → Bool) (day : Day) (n : ℕ) (t : Option ℕ) (m : Move) (ms : List Move) → list_all test (debtors_in t (m ∷ ms)) ≡ true → (goes_to t m ≡ true → test m.debit ≡ true) × (list_all test (debtors_in t ms) ≡ true)
debtor-next test day n t m ms h = here (goes_to t m) refl h
  where
    here : (q : Bool) → goes_to t m ≡ q → list_all test (map (λ (x : Move). x.debit) (cond q (m ∷ filter (goes_to t) ms) (filter (goes_to t) ms))) ≡ true → (goes_to t m ≡ true → test m.debit ≡ true) × (list_all test (debtors_in t ms) ≡ true)
    here true k h = let b = and_parts (test m.debit) (list_all test (debtors_in t ms)) h in (λ _. b.0, b.1)
    here false k h = (λ t. cc, h)

-- ---- a list that begins with this entry

pub blocked-found : (day : Day) (J : History) (n : ℕ) (t : Option ℕ) (m : Move) (ms rest : List Move) (why : Why) → ms ≡ m ∷ rest → Some why ≡ blocked_for day J n t m → Some why ≡ blocked_on day J (item n 0) (debtors_in t ms)
blocked-found day J n t m ms rest why first h =
    ap (λ o. option_or o (blocked_on day J (item n 0) (debtors_in t rest))) h ∙ sym (blocked-next day J n t m rest) ∙ sym (ap (λ xs. blocked_on day J (item n 0) (debtors_in t xs)) first)

pub blocked-passed : (day : Day) (J : History) (n : ℕ) (t : Option ℕ) (m : Move) (ms rest : List Move) → ms ≡ m ∷ rest → None ≡ blocked_for day J n t m → blocked_on day J (item n 0) (debtors_in t rest) ≡ blocked_on day J (item n 0) (debtors_in t ms)
blocked-passed day J n t m ms rest first h =
    ap (λ o. option_or o (blocked_on day J (item n 0) (debtors_in t rest))) h ∙ sym (blocked-next day J n t m rest) ∙ sym (ap (λ xs. blocked_on day J (item n 0) (debtors_in t xs)) first)

pub short-found : (day : Day) (J : History) (n : ℕ) (t : Option ℕ) (m : Move) (ms rest : List Move) (why : Why) → ms ≡ m ∷ rest → Some why ≡ short_for day J n t m → Some why ≡ option_map (short day J) (find (is_short_debtor day J n) (debtors_in t ms))
short-found day J n t m ms rest why first h =
    ap (λ o. option_or o (option_map (short day J) (find (is_short_debtor day J n) (debtors_in t rest)))) h ∙ sym (short-next day J n t m rest) ∙ sym (ap (λ xs. option_map (short day J) (find (is_short_debtor day J n) (debtors_in t xs))) first)

pub short-passed : (day : Day) (J : History) (n : ℕ) (t : Option ℕ) (m : Move) (ms rest : List Move) → ms ≡ m ∷ rest → None ≡ short_for day J n t m → option_map (short day J) (find (is_short_debtor day J n) (debtors_in t rest)) ≡ option_map (short day J) (find (is_short_debtor day J n) (debtors_in t ms))
short-passed day J n t m ms rest first h =
    ap (λ o. option_or o (option_map (short day J) (find (is_short_debtor day J n) (debtors_in t rest)))) h ∙ sym (short-next day J n t m rest) ∙ sym (ap (λ xs. option_map (short day J) (find (is_short_debtor day J n) (debtors_in t xs))) first)

pub debtor-first : (test : ℕ → Bool) (day : Day) (n : ℕ) (t : Option ℕ) (m : Move) (ms rest : List Move) → ms ≡ m ∷ rest → list_all test (debtors_in t ms) ≡ true → (goes_to t m ≡ true → test m.debit ≡ true) × (list_all test (debtors_in t rest) ≡ true)
debtor-first test day n t m ms rest first h = debtor-next test day n t m rest (sym (ap (λ xs. list_all test (debtors_in t xs)) first) ∙ h)

-- ---- a batch of B stands on each of its debtor accounts

found : (xs : List ℕ) (a : ℕ) → IsIn a xs → list_any (λ b. nat_eq b a) xs ≡ true
found [] a i = absurd i
found (b ∷ xs) a (inl e) = or_left (nat_eq b a) _ (eq-eqb b a e)
found (b ∷ xs) a (inr i) = or_right (nat_eq b a) _ (found xs a i)

pub stands_there : (day : Day) (n : ℕ) → is_b (sort_of day n) ≡ true → list_all (λ a. stands_on day a (item n 0)) (debtors day n) ≡ true
stands_there day n h =
    ap (λ s. list_all (λ a. list_any (λ b. nat_eq b a) (debit_accounts_as s day n 0)) (debtors day n)) (sort-is day n h)
    ∙ all_of (λ a. list_any (λ b. nat_eq b a) (debtors day n)) (debtors day n) (λ a i. found (debtors day n) a i)

-- ---- the debtor accounts of an open batch are at hand where all accounts of the batch are

-- of an entry that fits, the debit account has a name in the day
held_debit : (held : ℕ → Bool) (o t : Option ℕ) (dca p q : Bool) (rest : List ℕ) → (is_some o ≡ false → dca ≡ false) → (dca && p || same_account o t && q) ≡ true → list_all held (option_to_list o ++ rest) ≡ true → held (unwrap_or o 0) ≡ true
held_debit held (Some a) t dca p q rest k h all = (and_parts (held a) (list_all held rest) all).0
held_debit held None t true p q rest k h all = cc (k refl)
held_debit held None t false p q rest k h all = cc

unnamed : (test : ℕ → Bool) (o : Option ℕ) → is_some o ≡ false → some_passes test o ≡ false
unnamed test None h = refl
unnamed test (Some a) h = cc

-- the debtor account of each debit entry of the list
abbrev debtors_of : Day → ℕ → List Entry → List ℕ
debtors_of day n es = map (debit_account day) (filter (is_debit_entry day n) es)

held_from : (held : ℕ → Bool) (day : Day) (n : ℕ) (es : List Entry) → list_all (entry_fits BatchB day n) es ≡ true → list_all held (flat_map (accounts_of day) es) ≡ true → list_all held (debtors_of day n es) ≡ true
held_from held day n [] f h = refl
held_from held day n (e ∷ es) f h =
    let fits = and_parts (entry_fits BatchB day n e) (list_all (entry_fits BatchB day n) es) f in
    let parts = and_parts (list_all held (accounts_of day e)) (list_all held (flat_map (accounts_of day) es)) (sym (list_all-append held (accounts_of day e) (flat_map (accounts_of day) es)) ∙ h) in
    here (is_debit_entry day n e)
    (held_debit held (account_named day e.debit) (technical_of day n) (is_dca_account day e.debit) (pays_technical day n e) (is_dca_account day e.credit) (option_to_list (account_named day e.credit))
    (unnamed _ (account_named day e.debit)) fits.0 parts.0)
    (held_from held day n es fits.1 parts.1)
  where
    here : (q : Bool) → held (debit_account day e) ≡ true → list_all held (debtors_of day n es) ≡ true → list_all held (map (debit_account day) (cond q (e ∷ filter (is_debit_entry day n) es) (filter (is_debit_entry day n) es))) ≡ true
    here true d h = and_from _ _ d h
    here false d h = h

pub holds_debtors : (held : ℕ → Bool) (day : Day) (J : History) (n : ℕ) → IsLegal day J → is_b (sort_of day n) ≡ true → is_open (phase day J n) ≡ true → list_all held (accounts_of_message day n) ≡ true → list_all held (debtors day n) ≡ true
holds_debtors held day J n legal b o h =
    let taken = accepted_taken day J n legal (going_accepted day J n (open_going (phase day J n) o)) in
    let fits : list_all (entry_fits BatchB day n) (entries day n) ≡ true = b_fits (sort_of day n) day n b (not-false _ taken.passed_then.entries_right) in
    let first = and_parts (list_all held (flat_map (accounts_of day) (entries day n) ++ accounts_of_part day (payment_of (sort_of day n) day n))) (list_all held (if is_batch (sort_of day n) then option_to_list (fund_of day n) else []))
    (sym (list_all-append held (flat_map (accounts_of day) (entries day n) ++ accounts_of_part day (payment_of (sort_of day n) day n)) (if is_batch (sort_of day n) then option_to_list (fund_of day n) else [])) ∙ h) in
    let second = and_parts (list_all held (flat_map (accounts_of day) (entries day n))) (list_all held (accounts_of_part day (payment_of (sort_of day n) day n)))
    (sym (list_all-append held (flat_map (accounts_of day) (entries day n)) (accounts_of_part day (payment_of (sort_of day n) day n))) ∙ first.0) in
    held_from held day n (entries day n) fits second.0
