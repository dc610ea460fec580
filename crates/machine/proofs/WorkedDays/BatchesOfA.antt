-- Days of A batches: debits before credits.
use Rattle.std.specs.Prelude.{◌≡◌, true, [], ◌∷◌, reverse, map, Some, None, refl, codes}
use Rattle.batch_records.specs.DayRecord.{Day}
use Rattle.cash_amounts.specs.declared.records.Procedure.TheVariants.{A}
use Rattle.commit_journal.specs.declared.line.Kind.TheVariants as kinds
use Rattle.commit_journal.specs.declared.line.Code.TheVariants as line_codes
use Rattle.machine.specs.Records.Setup.{account_numbers}
use Rattle.machine.specs.Telling.Balances.{balance}
use Rattle.machine.specs.Making.Lines.{line}
use Rattle.machine.specs.Orders.Order.{plain}
use Rattle.machine.proofs.WorkedDays.Words.{unfunded, funded, entry, bat, obj, cnf, m, X1, Y1, Z1, BANKB, CH1, TA, B1}
use Rattle.machine.proofs.WorkedDays.Open.{everything}

-- debits, then credits

abbrev pub covered_day : Day
covered_day = funded 4000 6000 0 0 []
    (bat 0 CH1 B1 A None None 3 20000
    (entry X1 TA 4000 ∷ entry Y1 TA 6000 ∷ entry TA Z1 10000 ∷ [])
    ∷ [])

covered : reverse (plain covered_day) ≡
    line kinds.In 1 0 line_codes.Ok []
    ∷ line kinds.Book 1 1 line_codes.Ok (m 1 4 4000 ∷ [])
    ∷ line kinds.Book 1 2 line_codes.Ok (m 2 4 6000 ∷ [])
    ∷ line kinds.Book 1 3 line_codes.Ok (m 4 3 10000 ∷ [])
    ∷ line kinds.Time 0 86400 line_codes.Ok []
    ∷ line kinds.End 0 0 line_codes.Ok []
    ∷ []
unfolding everything
covered = refl

covered_closes : map (balance covered_day (plain covered_day)) (account_numbers covered_day) ≡ 0 ∷ 0 ∷ 10000 ∷ 0 ∷ 0 ∷ 0 ∷ 0 ∷ 0 ∷ 0 ∷ []
unfolding everything
covered_closes = refl

-- a debit that isn't covered at the settlement end: what was booked goes back

abbrev pub reversed_day : Day
reversed_day = unfunded 4000 5999 0 []
    (bat 0 CH1 B1 A None (Some 39600) 3 20000
    (entry X1 TA 4000 ∷ entry Y1 TA 6000 ∷ entry TA Z1 10000 ∷ [])
    ∷ [])

reversed : reverse (plain reversed_day) ≡
    line kinds.In 1 0 line_codes.Ok []
    ∷ line kinds.Book 1 1 line_codes.Ok (m 1 4 4000 ∷ [])
    ∷ line kinds.Time 0 39600 line_codes.Ok []
    ∷ line kinds.Expire 1 0 line_codes.Pe (m 4 1 4000 ∷ [])
    ∷ line kinds.Time 0 86400 line_codes.Ok []
    ∷ line kinds.End 0 0 line_codes.Ok []
    ∷ []
unfolding everything
reversed = refl

reversed_closes : map (balance reversed_day (plain reversed_day)) (account_numbers reversed_day) ≡ 4000 ∷ 5999 ∷ 0 ∷ 0 ∷ 0 ∷ 0 ∷ 0 ∷ 0 ∷ []
unfolding everything
reversed_closes = refl

-- the fund pays the debit that isn't booked

abbrev pub paid_by_fund_day : Day
paid_by_fund_day = funded 4000 0 0 8000 (43200 ∷ [])
    (bat 0 CH1 B1 A None (Some 39600) 3 20000
    (entry X1 TA 4000 ∷ entry Y1 TA 6000 ∷ entry TA Z1 10000 ∷ [])
    ∷ cnf 1 CH1 (codes "C1") B1 true
    ∷ [])

paid_by_fund : reverse (plain paid_by_fund_day) ≡
    line kinds.In 1 0 line_codes.Ok []
    ∷ line kinds.Book 1 1 line_codes.Ok (m 1 4 4000 ∷ [])
    ∷ line kinds.Time 0 39600 line_codes.Ok []
    ∷ line kinds.Ask 1 0 line_codes.Ok []
    ∷ line kinds.Time 0 43200 line_codes.Ok []
    ∷ line kinds.In 2 0 line_codes.Ok []
    ∷ line kinds.Cover 1 0 line_codes.Ok (m 9 4 6000 ∷ [])
    ∷ line kinds.Book 1 3 line_codes.Ok (m 4 3 10000 ∷ [])
    ∷ line kinds.Time 0 86400 line_codes.Ok []
    ∷ line kinds.End 0 0 line_codes.Ok []
    ∷ []
unfolding everything
paid_by_fund = refl

paid_by_fund_closes : map (balance paid_by_fund_day (plain paid_by_fund_day)) (account_numbers paid_by_fund_day) ≡ 0 ∷ 0 ∷ 10000 ∷ 0 ∷ 0 ∷ 0 ∷ 0 ∷ 0 ∷ 2000 ∷ []
unfolding everything
paid_by_fund_closes = refl

-- the fund is one cent short

abbrev pub fund_short_day : Day
fund_short_day = funded 4000 0 0 5999 (43200 ∷ [])
    (bat 0 CH1 B1 A None (Some 39600) 3 20000
    (entry X1 TA 4000 ∷ entry Y1 TA 6000 ∷ entry TA Z1 10000 ∷ [])
    ∷ cnf 1 CH1 (codes "C1") B1 true
    ∷ [])

fund_short : reverse (plain fund_short_day) ≡
    line kinds.In 1 0 line_codes.Ok []
    ∷ line kinds.Book 1 1 line_codes.Ok (m 1 4 4000 ∷ [])
    ∷ line kinds.Time 0 39600 line_codes.Ok []
    ∷ line kinds.Ask 1 0 line_codes.Ok []
    ∷ line kinds.Time 0 43200 line_codes.Ok []
    ∷ line kinds.In 2 0 line_codes.Ok []
    ∷ line kinds.Refuse 1 0 line_codes.Gs (m 4 1 4000 ∷ [])
    ∷ line kinds.Time 0 86400 line_codes.Ok []
    ∷ line kinds.End 0 0 line_codes.Ok []
    ∷ []
unfolding everything
fund_short = refl

-- no answer comes

abbrev pub no_answer_day : Day
no_answer_day = funded 4000 0 0 8000 []
    (bat 0 CH1 B1 A None (Some 39600) 3 20000
    (entry X1 TA 4000 ∷ entry Y1 TA 6000 ∷ entry TA Z1 10000 ∷ [])
    ∷ [])

no_answer : reverse (plain no_answer_day) ≡
    line kinds.In 1 0 line_codes.Ok []
    ∷ line kinds.Book 1 1 line_codes.Ok (m 1 4 4000 ∷ [])
    ∷ line kinds.Time 0 39600 line_codes.Ok []
    ∷ line kinds.Ask 1 0 line_codes.Ok []
    ∷ line kinds.Time 0 86400 line_codes.Ok []
    ∷ line kinds.Refuse 1 0 line_codes.Ge (m 4 1 4000 ∷ [])
    ∷ line kinds.End 0 0 line_codes.Ok []
    ∷ []
unfolding everything
no_answer = refl

-- two debits of one account go back, each for itself

abbrev pub two_back_day : Day
two_back_day = unfunded 3000 999 0 []
    (bat 0 CH1 B1 A None (Some 39600) 4 8000
    (entry X1 TA 1000 ∷ entry X1 TA 2000 ∷ entry Y1 TA 1000 ∷ entry TA Z1 4000 ∷ [])
    ∷ [])

two_back : reverse (plain two_back_day) ≡
    line kinds.In 1 0 line_codes.Ok []
    ∷ line kinds.Book 1 1 line_codes.Ok (m 1 4 1000 ∷ [])
    ∷ line kinds.Book 1 2 line_codes.Ok (m 1 4 2000 ∷ [])
    ∷ line kinds.Time 0 39600 line_codes.Ok []
    ∷ line kinds.Expire 1 0 line_codes.Pe (m 4 1 1000 ∷ m 4 1 2000 ∷ [])
    ∷ line kinds.Time 0 86400 line_codes.Ok []
    ∷ line kinds.End 0 0 line_codes.Ok []
    ∷ []
unfolding everything
two_back = refl

-- an objection revokes the whole batch, and its ends stay stops

abbrev pub revoked_day : Day
revoked_day = funded 4000 6000 0 0 []
    (bat 0 CH1 B1 A (Some 36000) (Some 39600) 3 20000
    (entry X1 TA 4000 ∷ entry Y1 TA 6000 ∷ entry TA Z1 10000 ∷ [])
    ∷ obj 0 BANKB (codes "O1") CH1 B1
    ∷ [])

revoked : reverse (plain revoked_day) ≡
    line kinds.In 1 0 line_codes.Ok []
    ∷ line kinds.In 2 0 line_codes.Ok []
    ∷ line kinds.Time 0 36000 line_codes.Ok []
    ∷ line kinds.Time 0 39600 line_codes.Ok []
    ∷ line kinds.Time 0 86400 line_codes.Ok []
    ∷ line kinds.End 0 0 line_codes.Ok []
    ∷ []
unfolding everything
revoked = refl

-- without a stated end the batch expires at midnight, and the fund isn't asked

abbrev pub never_ends_day : Day
never_ends_day = funded 4000 0 0 8000 []
    (bat 0 CH1 B1 A None None 3 20000
    (entry X1 TA 4000 ∷ entry Y1 TA 6000 ∷ entry TA Z1 10000 ∷ [])
    ∷ [])

never_ends : reverse (plain never_ends_day) ≡
    line kinds.In 1 0 line_codes.Ok []
    ∷ line kinds.Book 1 1 line_codes.Ok (m 1 4 4000 ∷ [])
    ∷ line kinds.Time 0 86400 line_codes.Ok []
    ∷ line kinds.Expire 1 0 line_codes.Pe (m 4 1 4000 ∷ [])
    ∷ line kinds.End 0 0 line_codes.Ok []
    ∷ []
unfolding everything
never_ends = refl
