-- For an entry of E the machine's tests are those of bilateral entries.
use Rattle.std.proofs.Common.{◌≡◌, ℕ, zero, suc, Bool, true, false, ◌&&◌, ◌||◌, not, Some, None, is_some, refl, ap, ◌∙◌, subst}
use Rattle.std.specs.Prelude.{nat_eq, option_to_list}
use Rattle.std.specs.List.{list_all, list_any}
use Rattle.std.proofs.lemmas.Bool.{and_parts, eq-eqb, not-false}
use Rattle.batch_records.specs.DayRecord.{Day}
use Rattle.batch_records.specs.declared.day.Entry.{Entry}
use Rattle.commit_journal.specs.declared.line.Want.TheVariants as wants
use Rattle.commit_journal.specs.Line.{History}
use Rattle.machine.specs.Words.{same_account}
use Rattle.machine.specs.Records.Setup.{account_named}
use Rattle.machine.specs.Records.Messages.{BatchE, sort_of, is_e, entries, entry_at, part, debit_account}
use Rattle.machine.specs.Telling.History.{booked, is_accepted}
use Rattle.machine.specs.Telling.Facts.{revoked}
use Rattle.machine.specs.Stages.Phases.{phase, is_open, is_booked, is_revoked_entry}
use Rattle.machine.specs.Stages.Pending.{item, is_pending, pending_as, stands_on, debit_accounts_as, debit_account_of_part}
use Rattle.machine.specs.Making.Accounts.{accounts_of_part}
use Rattle.rule_book.specs.Answering.{has_accounts}
use Rattle.machine.specs.Stages.Intake.{entry_fits}
use Rattle.machine.specs.Legal.{IsLegal}
use Rattle.machine.proofs.Lists.{all_get}
use Rattle.settlement_laws.proofs.Base.PhaseLaws.{going_accepted, open_going}
use Rattle.settlement_laws.proofs.Base.IntakeFacts.{accepted_taken}
use Rattle.machine.proofs.SortFacts.{e_is}
use Rattle.settlement_laws.proofs.Wants.Answering.{pending-open, held_named}
use Rattle.proc_e.proofs.Reduced.{no_transfer}

-- ---- what is pending, and where it stands

pub part-is : (day : Day) (n k : ℕ) → is_e (sort_of day n) ≡ true → part day n k ≡ entry_at day n k
part-is day n zero h = no_transfer day n h
part-is day n (suc k) h = refl

pub pending-is : (day : Day) (J : History) (n k : ℕ) → is_e (sort_of day n) ≡ true →
    is_pending day J (item n k) ≡ (is_some (entry_at day n k) && is_open (phase day J n) && not (is_booked J n k) && not (is_revoked_entry day J n k))
pending-is day J n k h = pending-open day J n k ∙ ap (λ s. pending_as s day J n k (phase day J n)) (e_is (sort_of day n) h)

pub is_pending_entry : (day : Day) (J : History) (n k : ℕ) (e : Entry) → is_e (sort_of day n) ≡ true → entry_at day n k ≡ Some e → is_open (phase day J n) ≡ true →
    booked J n k ≡ None → revoked day J n k ≡ None → is_pending day J (item n k) ≡ true
is_pending_entry day J n k e h there open_now fresh kept =
    pending-is day J n k h
    ∙ ap (λ o. is_some o && is_open (phase day J n) && not (is_booked J n k) && not (is_revoked_entry day J n k)) there
    ∙ ap (λ b. b && not (is_booked J n k) && not (is_revoked_entry day J n k)) open_now
    ∙ ap (λ o. not (is_some o) && not (is_revoked_entry day J n k)) fresh
    ∙ ap (λ o. not (is_some o)) kept

pub stands_there : (day : Day) (n k : ℕ) (e : Entry) → is_e (sort_of day n) ≡ true → entry_at day n k ≡ Some e → stands_on day (debit_account day e) (item n k) ≡ true
stands_there day n k e h there =
    let a : ℕ = debit_account day e in
    ap (λ s. list_any (λ b. nat_eq b a) (debit_accounts_as s day n k)) (e_is (sort_of day n) h)
    ∙ ap (λ p. list_any (λ b. nat_eq b a) (debit_account_of_part day p)) (part-is day n k h ∙ there)
    ∙ ap (λ b. b || false) (eq-eqb a a refl)

-- ---- an accepted batch names accounts

fits_at : (day : Day) (n k : ℕ) (e : Entry) → list_all (entry_fits BatchE day n) (entries day n) ≡ true → entry_at day n k ≡ Some e → entry_fits BatchE day n e ≡ true
fits_at day n zero e h there = cc
fits_at day n (suc i) e h there = all_get (entry_fits BatchE day n) (entries day n) i e h there

pub fits_accepted : (day : Day) (J : History) (n k : ℕ) (e : Entry) → IsLegal day J → is_e (sort_of day n) ≡ true → entry_at day n k ≡ Some e → is_open (phase day J n) ≡ true → entry_fits BatchE day n e ≡ true
fits_accepted day J n k e legal h there open_now =
    let accepted : is_accepted J n ≡ true = going_accepted day J n (open_going (phase day J n) open_now) in
    let all : list_all (entry_fits (sort_of day n) day n) (entries day n) ≡ true = not-false _ (accepted_taken day J n legal accepted).passed_then.entries_right in
    fits_at day n k e (subst (λ s. list_all (entry_fits s day n) (entries day n) ≡ true) (e_is (sort_of day n) h) all) there

pub is_held : (held : ℕ → Bool) (day : Day) (J : History) (n k : ℕ) (e : Entry) → IsLegal day J → is_e (sort_of day n) ≡ true → has_accounts held day (wants.Book n k) ≡ true →
    entry_at day n k ≡ Some e → is_open (phase day J n) ≡ true → held (debit_account day e) ≡ true
is_held held day J n k e legal h all there open_now =
    let fits = and_parts _ _ (and_parts _ (not (same_account (account_named day e.debit) (account_named day e.credit))) (fits_accepted day J n k e legal h there open_now)).0 in
    held_named held _ (account_named day e.debit) (option_to_list (account_named day e.credit)) fits.0
    (subst (λ o. list_all held (accounts_of_part day o) ≡ true) (part-is day n k h ∙ there) all)
