-- Days of C and D batches, of cycles and of liquidity transfers.
use Rattle.std.specs.Prelude.{◌≡◌, true, false, [], ◌∷◌, reverse, map, None, length, replicate, refl, codes}
use Rattle.batch_records.specs.DayRecord.{Day}
use Rattle.cash_amounts.specs.declared.records.Procedure.TheVariants.{C, D}
use Rattle.commit_journal.specs.declared.line.Kind.TheVariants as kinds
use Rattle.commit_journal.specs.declared.line.Code.TheVariants as line_codes
use Rattle.machine.specs.Records.Setup.{account_numbers}
use Rattle.machine.specs.Telling.Balances.{balance}
use Rattle.machine.specs.Stages.Intake.{afforded_in_order}
use Rattle.machine.specs.Making.Lines.{line}
use Rattle.machine.specs.Orders.Order.{plain}
use Rattle.machine.proofs.WorkedDays.Words.{funded, entry, bat, liq, cyc, m, X1, Y1, Z1, BANKA, CH1, TC, TD, SX, B1}
use Rattle.machine.proofs.WorkedDays.Open.{everything}

-- one entry is booked in the cycle, the other expires with its end

abbrev pub cycle_day : Day
cycle_day = funded 10000 0 0 0 (43200 ∷ [])
    (cyc 0 CH1 (codes "K1") true
    ∷ bat 0 CH1 B1 C None None 2 12000
    (entry SX TC 5000 ∷ entry SX TC 7000 ∷ [])
    ∷ liq 0 BANKA (codes "L1") X1 SX 6000
    ∷ liq 0 BANKA (codes "L2") SX X1 500
    ∷ cyc 1 CH1 (codes "K2") false
    ∷ [])

cycle : reverse (plain cycle_day) ≡
    line kinds.In 1 0 line_codes.Ok []
    ∷ line kinds.In 2 0 line_codes.Ok []
    ∷ line kinds.In 3 0 line_codes.Ok (m 1 8 6000 ∷ [])
    ∷ line kinds.In 4 0 line_codes.Lk []
    ∷ line kinds.Book 2 1 line_codes.Ok (m 8 6 5000 ∷ [])
    ∷ line kinds.Time 0 43200 line_codes.Ok []
    ∷ line kinds.In 5 0 line_codes.Ok []
    ∷ line kinds.Expire 2 0 line_codes.Ce []
    ∷ line kinds.Time 0 86400 line_codes.Ok []
    ∷ line kinds.Sweep 0 8 line_codes.Ok (m 8 1 1000 ∷ [])
    ∷ line kinds.End 0 0 line_codes.Ok []
    ∷ []
unfolding everything
cycle = refl

cycle_closes : map (balance cycle_day (plain cycle_day)) (account_numbers cycle_day) ≡ 5000 ∷ 0 ∷ 0 ∷ 0 ∷ 0 ∷ 5000 ∷ 0 ∷ 0 ∷ 0 ∷ []
unfolding everything
cycle_closes = refl

-- one cycle is open at a time

abbrev pub cycles_day : Day
cycles_day = funded 0 0 0 0 []
    (cyc 0 CH1 (codes "K1") true
    ∷ cyc 0 CH1 (codes "K2") true
    ∷ cyc 0 CH1 (codes "K3") false
    ∷ cyc 0 CH1 (codes "K4") false
    ∷ [])

cycles : reverse (plain cycles_day) ≡
    line kinds.In 1 0 line_codes.Ok []
    ∷ line kinds.In 2 0 line_codes.Cy []
    ∷ line kinds.In 3 0 line_codes.Ok []
    ∷ line kinds.In 4 0 line_codes.Cy []
    ∷ line kinds.Time 0 86400 line_codes.Ok []
    ∷ line kinds.End 0 0 line_codes.Ok []
    ∷ []
unfolding everything
cycles = refl

-- an entry expires at midnight in a cycle that is still open

abbrev pub open_at_midnight_day : Day
open_at_midnight_day = funded 0 0 0 0 []
    (cyc 0 CH1 (codes "K1") true
    ∷ bat 0 CH1 B1 C None None 1 100
    (entry SX TC 100 ∷ [])
    ∷ [])

open_at_midnight : reverse (plain open_at_midnight_day) ≡
    line kinds.In 1 0 line_codes.Ok []
    ∷ line kinds.In 2 0 line_codes.Ok []
    ∷ line kinds.Time 0 86400 line_codes.Ok []
    ∷ line kinds.Expire 2 0 line_codes.Ed []
    ∷ line kinds.End 0 0 line_codes.Ok []
    ∷ []
unfolding everything
open_at_midnight = refl

-- the entries that the prefunded account covers in turn are booked at intake

abbrev pub prefunded_day : Day
prefunded_day = funded 10000 0 0 0 (32400 ∷ [])
    (liq 0 BANKA (codes "L1") X1 TD 10000
    ∷ bat 1 CH1 B1 D None None 3 15000
    (entry TD Y1 6000 ∷ entry TD Z1 5000 ∷ entry TD Y1 4000 ∷ [])
    ∷ [])

prefunded : reverse (plain prefunded_day) ≡
    line kinds.In 1 0 line_codes.Ok (m 1 7 10000 ∷ [])
    ∷ line kinds.Time 0 32400 line_codes.Ok []
    ∷ line kinds.In 2 0 line_codes.Ok (m 7 2 6000 ∷ m 7 2 4000 ∷ [])
    ∷ line kinds.Time 0 86400 line_codes.Ok []
    ∷ line kinds.End 0 0 line_codes.Ok []
    ∷ []
unfolding everything
prefunded = refl

-- a transfer that isn't covered is rejected, and a sub-account is emptied at midnight

abbrev pub transfers_day : Day
transfers_day = funded 10000 0 0 0 []
    (liq 0 BANKA (codes "L1") X1 SX 6000
    ∷ liq 0 BANKA (codes "L2") X1 SX 4001
    ∷ [])

transfers : reverse (plain transfers_day) ≡
    line kinds.In 1 0 line_codes.Ok (m 1 8 6000 ∷ [])
    ∷ line kinds.In 2 0 line_codes.Nc []
    ∷ line kinds.Time 0 86400 line_codes.Ok []
    ∷ line kinds.Sweep 0 8 line_codes.Ok (m 8 1 6000 ∷ [])
    ∷ line kinds.End 0 0 line_codes.Ok []
    ∷ []
unfolding everything
transfers = refl

-- of sixty entries of one cent each the first 39 are covered
long_list : length (afforded_in_order 39 (replicate 60 (entry TD Y1 1))) ≡ 39
long_list = refl
