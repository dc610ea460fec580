-- What the move of a payment or of a liquidity transfer tells of its accounts.
use Rattle.std.proofs.Common.{◌≡◌, ◌∙◌, ℕ, Bool, true, false, ◌&&◌, ◌||◌, List, ◌++◌, Option, Some, None, ap, subst}
use Rattle.std.specs.Prelude.{option_map, option_to_list, unwrap_or}
use Rattle.std.specs.List.{list_all}
use Rattle.std.proofs.lemmas.Bool.{false≢true, and_parts}
use Rattle.std.proofs.lemmas.Option.{same_Some}
use Rattle.cash_amounts.specs.declared.records.AccountRecord.{AccountRecord}
use Rattle.cash_amounts.specs.declared.records.Procedure.TheVariants.{D}
use Rattle.batch_records.specs.DayRecord.{Day}
use Rattle.batch_records.specs.declared.day.Entry.{Entry}
use Rattle.commit_journal.specs.declared.line.Move.{Move}
use Rattle.commit_journal.specs.declared.line.Want.TheVariants as wants
use Rattle.machine.specs.Words.{is_dca, is_sub, is_technical, same_name, same_procedure, some_passes}
use Rattle.machine.specs.Records.Setup.{account_at, account_named, is_dca_of, is_sub_of}
use Rattle.machine.specs.Records.Messages.{is_liquidity, move_of, sender, sort_of, transfer}
use Rattle.machine.specs.Stages.Intake.{is_technical_d, liquidity_fits, payment_fits}
use Rattle.machine.specs.Making.Accounts.{accounts_of_part, accounts_taken}
use Rattle.rule_book.specs.Answering.{has_accounts}
use Rattle.rule_book.proofs.MoveFacts.{apart_is, passes_is}
use Rattle.settle_floor.proofs.IntakeTables.{liquidity_is}
use Rattle.settle_floor.specs.Codes.{has_transfer_form, is_liquidity_move, is_payment_move}

pub payment_is : (day : Day) (bank : List ℕ) (e : Entry) → is_payment_move day bank (move_of day e) ≡ payment_fits day bank e
payment_is day bank e = apart_is day (λ r. is_dca r.kind && same_name r.owner bank) (λ r. is_dca r.kind) (account_named day e.debit) (account_named day e.credit)

pub transfer_is : (day : Day) (bank : List ℕ) (e : Entry) → is_liquidity_move day bank (move_of day e) ≡ liquidity_fits day bank e
transfer_is day bank e =
    let cash : AccountRecord → Bool = λ r. is_dca r.kind && same_name r.owner bank in
    let sub : AccountRecord → Bool = λ r. is_sub r.kind && same_name r.owner bank in
    let for_d : AccountRecord → Bool = λ r. is_technical r.kind && some_passes (λ p. same_procedure p D) r.procedure in
    λ i.
    passes_is day cash e.debit i && passes_is day sub e.credit i
    || passes_is day sub e.debit i && passes_is day cash e.credit i
    || passes_is day cash e.debit i && passes_is day for_d e.credit i

-- ---- the balance of the debit account of a transfer that has the form

named : (held : ℕ → Bool) (p q : ℕ → Bool) (o : Option ℕ) (a b c : Bool) (rest : List ℕ) → (some_passes p o && a || some_passes q o && b || some_passes p o && c) ≡ true → list_all held (option_to_list o ++ rest) ≡ true → held (unwrap_or o 0) ≡ true
named held p q None a b c rest h all = absurd (false≢true h)
named held p q (Some x) a b c rest h all = (and_parts (held x) (list_all held rest) all).0

of_part : (held : ℕ → Bool) (day : Day) (bank : List ℕ) (o : Option Entry) (m : Move) → some_passes (liquidity_fits day bank) o ≡ true → list_all held (accounts_of_part day o) ≡ true → Some m ≡ option_map (move_of day) o → held m.debit ≡ true
of_part held day bank None m form all is = cc
of_part held day bank (Some e) m form all is =
    ap (λ (x : Move). held x.debit) (same_Some m (move_of day e) is)
    ∙ named held (λ a. some_passes (λ (r : AccountRecord). is_dca r.kind && same_name r.owner bank) (account_at day a)) (λ a. some_passes (λ (r : AccountRecord). is_sub r.kind && same_name r.owner bank) (account_at day a))
    (account_named day e.debit) (is_sub_of day bank e.credit) (is_dca_of day bank e.credit) (is_technical_d day e.credit) (option_to_list (account_named day e.credit)) form all

pub debit_held : (held : ℕ → Bool) (day : Day) (n : ℕ) (m : Move) → is_liquidity (sort_of day n) ≡ true → has_transfer_form day n ≡ true → has_accounts held day (wants.In n) ≡ true → Some m ≡ option_map (move_of day) (transfer day n) → held m.debit ≡ true
debit_held held day n m liquid form all is =
    of_part held day (sender day n) (transfer day n) m form (subst (λ s. list_all held (accounts_taken s day n) ≡ true) (liquidity_is (sort_of day n) liquid) all) is
