-- Which balances are at hand where those of all accounts of a batch are.
use Rattle.std.proofs.Common.{◌≡◌, ℕ, zero, suc, ◌+◌, ◌-◌, ◌<◌, Bool, true, false, ◌&&◌, List, [], ◌∷◌, ◌++◌, length, get_or, Option, Some, None, refl, sym, ap, ◌∙◌, arith}
use Rattle.std.specs.Prelude.{flat_map, is_some, map, nat_eq, option_to_list, unwrap_or, if◌then◌else◌}
use Rattle.std.specs.List.{list_all}
use Rattle.std.proofs.lemmas.Bool.{and_parts}
use Rattle.std.proofs.lemmas.List.Folds.{list_all-append}
use Rattle.batch_records.specs.DayRecord.{Day}
use Rattle.batch_records.specs.declared.day.Entry.{Entry}
use Rattle.batch_records.specs.Sound.{is_sound}
use Rattle.commit_journal.specs.declared.line.Move.{Move}
use Rattle.commit_journal.specs.Line.{History}
use Rattle.machine.specs.Records.Setup.{account_named}
use Rattle.machine.specs.Records.Messages.{Sort, BatchA, BatchB, sort_of, is_a_or_b, is_batch, entries, debit_account, fund_of, fund_account, move_of}
use Rattle.machine.specs.Making.Accounts.{accounts_of, accounts_of_message, accounts_of_part, payment_of}
use Rattle.machine.specs.Telling.Balances.{balance, credited, debited}
use Rattle.machine.specs.Legal.{IsLegal}
use Rattle.machine.specs.Telling.Facts.{answer}
use Rattle.machine.specs.Stages.Phases.{phase, is_answered}
use Rattle.machine.specs.Making.Lines.{is_answered_yes}
use Rattle.rule_book.specs.Moves.{entry_moves}
use Rattle.rule_book.proofs.Debits.{count}
use Rattle.settlement_laws.proofs.Base.PhaseLaws.{answered_asked}
use Rattle.settlement_laws.proofs.Balances.MovesOfTheDay.{asked_fund}
use Rattle.settlement_laws.proofs.Balances.Elsewhere.{never_credited}
use Rattle.settlement_laws.proofs.Base.Sound.{subs_have_dca}

-- an account that has a number
named_held : (held : ℕ → Bool) (o : Option ℕ) (rest : List ℕ) → list_all held (option_to_list o ++ rest) ≡ true → nat_eq (unwrap_or o 0) 0 ≡ false → held (unwrap_or o 0) ≡ true
named_held held None rest h ne = cc
named_held held (Some a) rest h ne = (and_parts (held a) (list_all held rest) h).0

held_at : (held : ℕ → Bool) (day : Day) (es : List Entry) (i : ℕ) (m : Move) → list_all held (flat_map (accounts_of day) es) ≡ true → i < length es → m ≡ get_or (map (move_of day) es) i m
    → nat_eq m.debit 0 ≡ false → held m.debit ≡ true
held_at held day [] i m h low is = absurd (omega arith)
held_at held day (x ∷ es) zero m h low is = λ ne.
    let at : m.debit ≡ debit_account day x = ap (λ (y : Move). y.debit) is in
    let here = (and_parts (list_all held (accounts_of day x)) (list_all held (flat_map (accounts_of day) es)) (sym (list_all-append held (accounts_of day x) (flat_map (accounts_of day) es)) ∙ h)).0 in
    ap held at ∙ named_held held (account_named day x.debit) (option_to_list (account_named day x.credit)) here (ap (λ a. nat_eq a 0) (sym at) ∙ ne)
held_at held day (x ∷ es) (suc i) m h low is =
    held_at held day es i m (and_parts (list_all held (accounts_of day x)) (list_all held (flat_map (accounts_of day) es)) (sym (list_all-append held (accounts_of day x) (flat_map (accounts_of day) es)) ∙ h)).1 (omega arith) is

-- those of its entries
pub move_held : (held : ℕ → Bool) (day : Day) (n i : ℕ) (ms : List Move) (m : Move) → list_all held (accounts_of_message day n) ≡ true → ms ≡ entry_moves day n → i < length ms → m ≡ get_or ms i m
    → nat_eq m.debit 0 ≡ false → held m.debit ≡ true
move_held held day n i ms m h listed low is =
    let es : List ℕ = flat_map (accounts_of day) (entries day n) in
    let pay : List ℕ = accounts_of_part day (payment_of (sort_of day n) day n) in
    let fund : List ℕ = if is_batch (sort_of day n) then option_to_list (fund_of day n) else [] in
    let first = and_parts (list_all held (es ++ pay)) (list_all held fund) (sym (list_all-append held (es ++ pay) fund) ∙ h) in
    let second = and_parts (list_all held es) (list_all held pay) (sym (list_all-append held es pay) ∙ first.0) in
    let all : length ms ≡ length (entries day n) = count day n ms listed in
    held_at held day (entries day n) i m second.0 (omega (arith, low, all)) (is ∙ ap (λ xs. get_or xs i m) listed)

-- number 0, of a name that is no account's, has nothing
none_left : (c d : ℕ) → c ≡ 0 → 0 ≡ (0 + c) - d
none_left c d h = omega arith

pub nothing_at_zero : (day : Day) (J : History) → is_sound day ≡ true → IsLegal day J → 0 ≡ balance day J 0
nothing_at_zero day J sound legal = none_left (credited J 0) (debited J 0) (never_credited day J 0 (subs_have_dca day sound) legal (λ h. omega (arith, h.1)))

-- that of the fund, once the system has answered
some_held : (held : ℕ → Bool) (b : Bool) (o : Option ℕ) → b ≡ true → is_some o ≡ true → list_all held (if b then option_to_list o else []) ≡ true → held (unwrap_or o 0) ≡ true
some_held held true (Some a) t s h = (and_parts (held a) true h).0
some_held held true None t s h = cc
some_held held false o t s h = cc

either_batch : (s : Sort) → is_a_or_b s ≡ true → is_batch s ≡ true
either_batch BatchA h = refl
either_batch BatchB h = refl
either_batch _ h = cc

pub fund_held : (held : ℕ → Bool) (day : Day) (J : History) (n : ℕ) → IsLegal day J → list_all held (accounts_of_message day n) ≡ true → is_answered_yes day J n ≡ true → held (fund_account day n) ≡ true
fund_held held day J n legal h paid =
    let due = and_parts (is_a_or_b (sort_of day n)) (is_answered (phase day J n)) (and_parts (is_a_or_b (sort_of day n) && is_answered (phase day J n)) (unwrap_or (answer day J n) false) paid).0 in
    let asked = asked_fund day J n legal (answered_asked day J n due.1) in
    let own : List ℕ = flat_map (accounts_of day) (entries day n) ++ accounts_of_part day (payment_of (sort_of day n) day n) in
    let fund : List ℕ = if is_batch (sort_of day n) then option_to_list (fund_of day n) else [] in
    some_held held (is_batch (sort_of day n)) (fund_of day n) (either_batch (sort_of day n) due.0) asked (and_parts (list_all held own) (list_all held fund) (sym (list_all-append held own fund) ∙ h)).1
