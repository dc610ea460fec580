-- Days of B batches: all or nothing.
use Rattle.std.specs.Prelude.{◌≡◌, true, false, [], ◌∷◌, reverse, map, Some, None, refl, codes}
use Rattle.batch_records.specs.DayRecord.{Day}
use Rattle.cash_amounts.specs.declared.records.Procedure.TheVariants.{B}
use Rattle.commit_journal.specs.declared.line.Kind.TheVariants as kinds
use Rattle.commit_journal.specs.declared.line.Code.TheVariants as line_codes
use Rattle.machine.specs.Records.Setup.{account_numbers}
use Rattle.machine.specs.Telling.Balances.{balance}
use Rattle.machine.specs.Making.Lines.{line}
use Rattle.machine.specs.Orders.Order.{plain}
use Rattle.machine.proofs.WorkedDays.Words.{unfunded, funded, entry, bat, pay, cnf, m, X1, Y1, Z1, BANKA, BANKC, CH1, TB, B1}
use Rattle.machine.proofs.WorkedDays.Open.{everything}

-- the batch waits for one cent, and settles whole

abbrev pub waits_day : Day
waits_day = funded 4000 5999 1 0 (36000 ∷ [])
    (bat 0 CH1 B1 B None None 3 20000
    (entry X1 TB 4000 ∷ entry Y1 TB 6000 ∷ entry TB Z1 10000 ∷ [])
    ∷ pay 1 BANKC (codes "P1") false Z1 Y1 1
    ∷ [])

waits : reverse (plain waits_day) ≡
    line kinds.In 1 0 line_codes.Ok []
    ∷ line kinds.Time 0 36000 line_codes.Ok []
    ∷ line kinds.In 2 0 line_codes.Ok []
    ∷ line kinds.Book 2 0 line_codes.Ok (m 3 2 1 ∷ [])
    ∷ line kinds.All 1 0 line_codes.Ok (m 1 5 4000 ∷ m 2 5 6000 ∷ m 5 3 10000 ∷ [])
    ∷ line kinds.Time 0 86400 line_codes.Ok []
    ∷ line kinds.End 0 0 line_codes.Ok []
    ∷ []
unfolding everything
waits = refl

-- its own credits don't cover its debits

abbrev pub gross_day : Day
gross_day = unfunded 9999 0 0 []
    (bat 0 CH1 B1 B None (Some 39600) 2 20000
    (entry X1 TB 10000 ∷ entry TB X1 10000 ∷ [])
    ∷ [])

gross : reverse (plain gross_day) ≡
    line kinds.In 1 0 line_codes.Ok []
    ∷ line kinds.Time 0 39600 line_codes.Ok []
    ∷ line kinds.Expire 1 0 line_codes.Pe []
    ∷ line kinds.Time 0 86400 line_codes.Ok []
    ∷ line kinds.End 0 0 line_codes.Ok []
    ∷ []
unfolding everything
gross = refl

-- the batch holds back a payment until its settlement end

abbrev pub holds_day : Day
holds_day = unfunded 10000 0 0 []
    (bat 0 CH1 B1 B None (Some 39600) 3 4000
    (entry X1 TB 1000 ∷ entry Y1 TB 1000 ∷ entry TB Z1 2000 ∷ [])
    ∷ pay 0 BANKA (codes "P1") false X1 Z1 500
    ∷ [])

holds : reverse (plain holds_day) ≡
    line kinds.In 1 0 line_codes.Ok []
    ∷ line kinds.In 2 0 line_codes.Ok []
    ∷ line kinds.Time 0 39600 line_codes.Ok []
    ∷ line kinds.Expire 1 0 line_codes.Pe []
    ∷ line kinds.Book 2 0 line_codes.Ok (m 1 3 500 ∷ [])
    ∷ line kinds.Time 0 86400 line_codes.Ok []
    ∷ line kinds.End 0 0 line_codes.Ok []
    ∷ []
unfolding everything
holds = refl

-- the fund pays in place of the debtor that is short

abbrev pub helped_by_fund_day : Day
helped_by_fund_day = funded 4000 5999 0 8000 (43200 ∷ [])
    (bat 0 CH1 B1 B None (Some 39600) 3 20000
    (entry X1 TB 4000 ∷ entry Y1 TB 6000 ∷ entry TB Z1 10000 ∷ [])
    ∷ cnf 1 CH1 (codes "C1") B1 true
    ∷ [])

helped_by_fund : reverse (plain helped_by_fund_day) ≡
    line kinds.In 1 0 line_codes.Ok []
    ∷ line kinds.Time 0 39600 line_codes.Ok []
    ∷ line kinds.Ask 1 0 line_codes.Ok []
    ∷ line kinds.Time 0 43200 line_codes.Ok []
    ∷ line kinds.In 2 0 line_codes.Ok []
    ∷ line kinds.Cover 1 0 line_codes.Ok (m 1 5 4000 ∷ m 9 5 6000 ∷ m 5 3 10000 ∷ [])
    ∷ line kinds.Time 0 86400 line_codes.Ok []
    ∷ line kinds.End 0 0 line_codes.Ok []
    ∷ []
unfolding everything
helped_by_fund = refl

helped_by_fund_closes : map (balance helped_by_fund_day (plain helped_by_fund_day)) (account_numbers helped_by_fund_day) ≡ 0 ∷ 5999 ∷ 10000 ∷ 0 ∷ 0 ∷ 0 ∷ 0 ∷ 0 ∷ 2000 ∷ []
unfolding everything
helped_by_fund_closes = refl

-- the answer is N

abbrev pub fund_says_no_day : Day
fund_says_no_day = funded 4000 5999 0 8000 (43200 ∷ [])
    (bat 0 CH1 B1 B None (Some 39600) 3 20000
    (entry X1 TB 4000 ∷ entry Y1 TB 6000 ∷ entry TB Z1 10000 ∷ [])
    ∷ cnf 1 CH1 (codes "C1") B1 false
    ∷ [])

fund_says_no : reverse (plain fund_says_no_day) ≡
    line kinds.In 1 0 line_codes.Ok []
    ∷ line kinds.Time 0 39600 line_codes.Ok []
    ∷ line kinds.Ask 1 0 line_codes.Ok []
    ∷ line kinds.Time 0 43200 line_codes.Ok []
    ∷ line kinds.In 2 0 line_codes.Ok []
    ∷ line kinds.Refuse 1 0 line_codes.Gn []
    ∷ line kinds.Time 0 86400 line_codes.Ok []
    ∷ line kinds.End 0 0 line_codes.Ok []
    ∷ []
unfolding everything
fund_says_no = refl
