-- Days of payments.
use Rattle.std.specs.Prelude.{◌≡◌, true, false, [], ◌∷◌, reverse, map, refl, codes}
use Rattle.batch_records.specs.DayRecord.{Day}
use Rattle.commit_journal.specs.declared.line.Kind.TheVariants as kinds
use Rattle.commit_journal.specs.declared.line.Code.TheVariants as line_codes
use Rattle.machine.specs.Records.Setup.{account_numbers}
use Rattle.machine.specs.Telling.Balances.{balance}
use Rattle.machine.specs.Making.Lines.{line}
use Rattle.machine.specs.Orders.Order.{plain}
use Rattle.machine.proofs.WorkedDays.Words.{funded, a_day, dca, pay, m, X1, Y1, BANKA, BANKB}
use Rattle.machine.proofs.WorkedDays.Open.{everything}

-- a day without messages

abbrev pub empty_day : Day
empty_day = a_day (dca X1 BANKA 500 ∷ []) [] []
    []

empty : reverse (plain empty_day) ≡
    line kinds.Time 0 86400 line_codes.Ok []
    ∷ line kinds.End 0 0 line_codes.Ok []
    ∷ []
unfolding everything
empty = refl

-- two payments, of which one expires

abbrev pub two_day : Day
two_day = a_day (dca X1 BANKA 10000 ∷ dca Y1 BANKB 0 ∷ []) [] []
    (pay 0 BANKA (codes "P1") false X1 Y1 6000
    ∷ pay 0 BANKA (codes "P2") false X1 Y1 5000
    ∷ [])

two : reverse (plain two_day) ≡
    line kinds.In 1 0 line_codes.Ok []
    ∷ line kinds.In 2 0 line_codes.Ok []
    ∷ line kinds.Book 1 0 line_codes.Ok (m 1 2 6000 ∷ [])
    ∷ line kinds.Time 0 86400 line_codes.Ok []
    ∷ line kinds.Expire 2 0 line_codes.Ed []
    ∷ line kinds.End 0 0 line_codes.Ok []
    ∷ []
unfolding everything
two = refl

two_closes : map (balance two_day (plain two_day)) (account_numbers two_day) ≡ 4000 ∷ 6000 ∷ []
unfolding everything
two_closes = refl

-- a High payment that isn't covered holds back a Normal one

abbrev pub high_holds_back_day : Day
high_holds_back_day = funded 5000 0 0 0 []
    (pay 0 BANKA (codes "P1") true X1 Y1 8000
    ∷ pay 0 BANKA (codes "P2") false X1 Y1 1000
    ∷ [])

high_holds_back : reverse (plain high_holds_back_day) ≡
    line kinds.In 1 0 line_codes.Ok []
    ∷ line kinds.In 2 0 line_codes.Ok []
    ∷ line kinds.Time 0 86400 line_codes.Ok []
    ∷ line kinds.Expire 1 0 line_codes.Ed []
    ∷ line kinds.Expire 2 0 line_codes.Ed []
    ∷ line kinds.End 0 0 line_codes.Ok []
    ∷ []
unfolding everything
high_holds_back = refl

-- a Normal payment passes a Normal one

abbrev pub normal_passes_day : Day
normal_passes_day = funded 5000 0 0 0 []
    (pay 0 BANKA (codes "P1") false X1 Y1 8000
    ∷ pay 0 BANKA (codes "P2") false X1 Y1 1000
    ∷ [])

normal_passes : reverse (plain normal_passes_day) ≡
    line kinds.In 1 0 line_codes.Ok []
    ∷ line kinds.In 2 0 line_codes.Ok []
    ∷ line kinds.Book 2 0 line_codes.Ok (m 1 2 1000 ∷ [])
    ∷ line kinds.Time 0 86400 line_codes.Ok []
    ∷ line kinds.Expire 1 0 line_codes.Ed []
    ∷ line kinds.End 0 0 line_codes.Ok []
    ∷ []
unfolding everything
normal_passes = refl

-- a payment waits for money that comes with the next round

abbrev pub next_round_day : Day
next_round_day = a_day (dca X1 BANKA 5000 ∷ dca Y1 BANKB 1000 ∷ []) [] (36000 ∷ [])
    (pay 0 BANKA (codes "P1") false X1 Y1 6000
    ∷ pay 1 BANKB (codes "P2") false Y1 X1 1000
    ∷ [])

next_round : reverse (plain next_round_day) ≡
    line kinds.In 1 0 line_codes.Ok []
    ∷ line kinds.Time 0 36000 line_codes.Ok []
    ∷ line kinds.In 2 0 line_codes.Ok []
    ∷ line kinds.Book 2 0 line_codes.Ok (m 2 1 1000 ∷ [])
    ∷ line kinds.Book 1 0 line_codes.Ok (m 1 2 6000 ∷ [])
    ∷ line kinds.Time 0 86400 line_codes.Ok []
    ∷ line kinds.End 0 0 line_codes.Ok []
    ∷ []
unfolding everything
next_round = refl
