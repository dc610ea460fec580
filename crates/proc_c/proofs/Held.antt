-- The accounts of the entries of an accepted batch are the day's, and their balances are at hand.
use Rattle.std.proofs.Common.{◌≡◌, ℕ, zero, suc, Bool, true, [], ◌++◌, Some, ap, subst}
use Rattle.std.specs.Prelude.{is_some, flat_map, option_to_list, if◌then◌else◌}
use Rattle.std.specs.List.{list_all}
use Rattle.batch_records.specs.DayRecord.{Day}
use Rattle.batch_records.specs.declared.day.Entry.{Entry}
use Rattle.commit_journal.specs.declared.line.Want.TheVariants as wants
use Rattle.commit_journal.specs.Line.{History}
use Rattle.machine.specs.Records.Setup.{account_named}
use Rattle.machine.specs.Records.Messages.{sort_of, is_batch, is_c, debit_account, entries, entry_at, fund_of}
use Rattle.machine.specs.Stages.Intake.{entry_fits}
use Rattle.machine.specs.Stages.Phases.{phase, is_open}
use Rattle.machine.specs.Making.Accounts.{accounts_of, accounts_of_part, accounts_of_message, payment_of}
use Rattle.rule_book.specs.Answering.{has_accounts}
use Rattle.machine.specs.Legal.{IsLegal}
use Rattle.machine.proofs.Lists.{all_get}
use Rattle.settlement_laws.proofs.Base.Lists.{all_in, into_flat, into_left}
use Rattle.settlement_laws.proofs.Base.PhaseLaws.{going_accepted, open_going}
use Rattle.settlement_laws.proofs.Balances.MovesOfTheDay.{accepted_fits, fits_named}
use Rattle.machine.proofs.SortFacts.{c_is}
use Rattle.settlement_laws.proofs.Wants.Answering.{entry_in, debit_among}
use Rattle.proc_c.proofs.WantTables.{part_is}

is_batch_too : (day : Day) (n : ℕ) → is_c (sort_of day n) ≡ true → is_batch (sort_of day n) ≡ true
is_batch_too day n c = ap is_batch (c_is (sort_of day n) c)

-- an entry of an open batch has the form of its procedure, so its debit account is one of the day's
debit_named : (day : Day) (J : History) (n k : ℕ) (e : Entry) → IsLegal day J → is_c (sort_of day n) ≡ true → is_open (phase day J n) ≡ true → entry_at day n k ≡ Some e → is_some (account_named day e.debit) ≡ true
debit_named day J n zero e legal c o h = cc
debit_named day J n (suc k) e legal c o h =
    let fit = all_get (entry_fits (sort_of day n) day n) (entries day n) k e (accepted_fits day J n legal (going_accepted day J n (open_going (phase day J n) o))) h in
    (fits_named (sort_of day n) day n e (is_batch_too day n c) fit).0

pub held_for_book : (held : ℕ → Bool) (day : Day) (J : History) (n k : ℕ) (e : Entry) → IsLegal day J → is_c (sort_of day n) ≡ true → is_open (phase day J n) ≡ true → entry_at day n k ≡ Some e →
    has_accounts held day (wants.Book n k) ≡ true → held (debit_account day e) ≡ true
held_for_book held day J n k e legal c o h all =
    all_in held (accounts_of day e) (debit_account day e) (subst (λ x. list_all held (accounts_of_part day x) ≡ true) (part_is day n k e h) all) (debit_among day e (debit_named day J n k e legal c o h))

pub held_for_expire : (held : ℕ → Bool) (day : Day) (J : History) (n k : ℕ) (e : Entry) → IsLegal day J → is_c (sort_of day n) ≡ true → is_open (phase day J n) ≡ true → entry_at day n k ≡ Some e →
    has_accounts held day (wants.Expire n) ≡ true → held (debit_account day e) ≡ true
held_for_expire held day J n k e legal c o h all =
    let a : ℕ = debit_account day e in
    all_in held (accounts_of_message day n) a all
    (into_left a (flat_map (accounts_of day) (entries day n) ++ accounts_of_part day (payment_of (sort_of day n) day n)) (if is_batch (sort_of day n) then option_to_list (fund_of day n) else [])
    (into_left a (flat_map (accounts_of day) (entries day n)) (accounts_of_part day (payment_of (sort_of day n) day n))
    (into_flat (accounts_of day) (entries day n) e a (entry_in day n k e h) (debit_among day e (debit_named day J n k e legal c o h)))))
