-- A morning with payments, batches of A, B, C and E, a cycle, a transfer and an answer of the fund.
use Rattle.std.specs.Prelude.{Bool, count_by, ◌≡◌, ℕ, true, false, List, [], ◌∷◌, map, Some, None, length, refl, codes}
use Rattle.batch_records.specs.DayRecord.{Day}
use Rattle.cash_amounts.specs.declared.records.Procedure.TheVariants.{A, B, C, E}
use Rattle.batch_records.specs.Sound.{is_sound}
use Rattle.commit_journal.specs.Line.{History, Line}
use Rattle.machine.specs.Records.Setup.{account_numbers}
use Rattle.machine.specs.Telling.History.{is_in, is_book, is_all, is_time, is_ask, is_cover}
use Rattle.machine.specs.Telling.Balances.{balance}
use Rattle.machine.specs.Orders.Order.{plain}
use Rattle.machine.proofs.WorkedDays.Words.{a_day, dca, sub, tec, fnd, system, entry, bat, pay, liq, cnf, cyc, BANKA, BANKB, BANKC, CH1, B1}
use Rattle.machine.proofs.WorkedDays.Open.{dates, everything}

abbrev morning : Day
morning = a_day
    (dca (codes "A1") BANKA 100000000
    ∷ dca B1 BANKB 100000000
    ∷ dca (codes "C1") BANKC 100000000
    ∷ dca (codes "D1") (codes "BANKD") 100000000
    ∷ dca (codes "E1") (codes "BANKE") 100000000
    ∷ dca (codes "F1") (codes "BANKF") 10000
    ∷ sub (codes "SA") BANKA CH1
    ∷ tec (codes "CA") CH1 A
    ∷ tec (codes "CC") CH1 C
    ∷ fnd (codes "CF") CH1 50000000
    ∷ tec (codes "CB") (codes "CH2") B
    ∷ [])
    (system CH1 (true ∷ false ∷ true ∷ false ∷ true ∷ []) ∷ system (codes "CH2") (false ∷ true ∷ false ∷ false ∷ false ∷ []) ∷ [])
    (25200 ∷ 30600 ∷ 57600 ∷ [])
    (pay 0 BANKB (codes "P1") true B1 (codes "C1") 1000
    ∷ pay 0 BANKC (codes "P2") false (codes "C1") (codes "D1") 2000
    ∷ pay 0 (codes "BANKD") (codes "P3") true (codes "D1") (codes "E1") 3000
    ∷ pay 0 (codes "BANKE") (codes "P4") false (codes "E1") (codes "A1") 4000
    ∷ pay 0 BANKA (codes "P5") true (codes "A1") B1 5000
    ∷ pay 0 BANKB (codes "P6") false B1 (codes "C1") 6000
    ∷ pay 0 BANKC (codes "P7") true (codes "C1") (codes "D1") 7000
    ∷ pay 0 (codes "BANKD") (codes "P8") false (codes "D1") (codes "E1") 8000
    ∷ pay 0 (codes "BANKE") (codes "P9") true (codes "E1") (codes "A1") 9000
    ∷ pay 0 BANKA (codes "P10") false (codes "A1") B1 10000
    ∷ pay 0 BANKB (codes "P11") true B1 (codes "C1") 11000
    ∷ pay 0 BANKC (codes "P12") false (codes "C1") (codes "D1") 12000
    ∷ pay 0 (codes "BANKD") (codes "P13") true (codes "D1") (codes "E1") 13000
    ∷ pay 0 (codes "BANKE") (codes "P14") false (codes "E1") (codes "A1") 14000
    ∷ pay 0 BANKA (codes "P15") true (codes "A1") B1 15000
    ∷ pay 0 BANKB (codes "P16") false B1 (codes "C1") 16000
    ∷ pay 0 BANKC (codes "P17") true (codes "C1") (codes "D1") 17000
    ∷ pay 0 (codes "BANKD") (codes "P18") false (codes "D1") (codes "E1") 18000
    ∷ pay 0 (codes "BANKE") (codes "P19") true (codes "E1") (codes "A1") 19000
    ∷ pay 0 BANKA (codes "P20") false (codes "A1") B1 20000
    ∷ pay 0 BANKB (codes "P21") true B1 (codes "C1") 21000
    ∷ pay 0 BANKC (codes "P22") false (codes "C1") (codes "D1") 22000
    ∷ pay 0 (codes "BANKD") (codes "P23") true (codes "D1") (codes "E1") 23000
    ∷ pay 0 (codes "BANKE") (codes "P24") false (codes "E1") (codes "A1") 24000
    ∷ pay 0 BANKA (codes "P25") true (codes "A1") B1 25000
    ∷ pay 0 BANKB (codes "P26") false B1 (codes "C1") 26000
    ∷ pay 0 BANKC (codes "P27") true (codes "C1") (codes "D1") 27000
    ∷ pay 0 (codes "BANKD") (codes "P28") false (codes "D1") (codes "E1") 28000
    ∷ pay 0 (codes "BANKE") (codes "P29") true (codes "E1") (codes "A1") 29000
    ∷ pay 0 BANKA (codes "P30") false (codes "A1") B1 30000
    ∷ pay 0 BANKB (codes "P31") true B1 (codes "C1") 31000
    ∷ pay 0 BANKC (codes "P32") false (codes "C1") (codes "D1") 32000
    ∷ pay 0 (codes "BANKD") (codes "P33") true (codes "D1") (codes "E1") 33000
    ∷ pay 0 (codes "BANKE") (codes "P34") false (codes "E1") (codes "A1") 34000
    ∷ pay 0 BANKA (codes "P35") true (codes "A1") B1 35000
    ∷ pay 0 BANKB (codes "P36") false B1 (codes "C1") 36000
    ∷ pay 0 BANKC (codes "P37") true (codes "C1") (codes "D1") 37000
    ∷ pay 0 (codes "BANKD") (codes "P38") false (codes "D1") (codes "E1") 38000
    ∷ pay 0 (codes "BANKE") (codes "P39") true (codes "E1") (codes "A1") 39000
    ∷ pay 0 BANKA (codes "P40") false (codes "A1") B1 40000
    ∷ bat 1 CH1 (codes "S1") A (Some 27000) (Some 28800) 3 50000000
    (entry (codes "A1") (codes "CA") 20000000 ∷ entry (codes "F1") (codes "CA") 5000000 ∷ entry (codes "CA") B1 25000000 ∷ [])
    ∷ bat 1 (codes "CH2") (codes "S1") B None (Some 32400) 4 800000
    (entry (codes "A1") (codes "CB") 100000 ∷ entry (codes "C1") (codes "CB") 300000 ∷ entry (codes "CB") (codes "D1") 250000 ∷ entry (codes "CB") (codes "E1") 150000 ∷ [])
    ∷ cyc 1 CH1 (codes "K1") true
    ∷ liq 1 BANKA (codes "L1") (codes "A1") (codes "SA") 500000
    ∷ bat 1 CH1 (codes "S2") E None None 1 70000
    (entry B1 (codes "A1") 70000 ∷ [])
    ∷ cnf 2 CH1 (codes "Q1") (codes "S1") true
    ∷ bat 2 CH1 (codes "S3") C None None 2 350000
    (entry (codes "SA") (codes "CC") 250000 ∷ entry (codes "CC") (codes "SA") 100000 ∷ [])
    ∷ cyc 3 CH1 (codes "K2") false
    ∷ [])

morning_is_sound : is_sound morning ≡ true
unfolding dates
morning_is_sound = refl

-- how many lines stand in a journal of the tests
abbrev lines_of : (Line → Bool) → History → ℕ
lines_of test J = count_by test J

-- how many lines there are of six kinds and in all, and what each account holds
abbrev figures : History → List ℕ × List ℕ
figures J = (
  lines_of (λ l. is_in l.head.kind) J ∷ lines_of (λ l. is_book l.head.kind) J ∷ lines_of (λ l. is_all l.head.kind) J ∷ lines_of (λ l. is_time l.head.kind) J
      ∷ lines_of (λ l. is_ask l.head.kind) J ∷ lines_of (λ l. is_cover l.head.kind) J ∷ length J ∷ [],
  map (balance morning J) (account_numbers morning),
)

-- 48 intakes; the bookings of 40 payments, of one debit and one credit of the A batch, of one entry of E and two of C;
-- a whole settlement; seven times; a question and its cover; with the scan and the end 105 lines
morning_comes_to : figures (plain morning)
    ≡ (
      48 ∷ 45 ∷ 1 ∷ 7 ∷ 1 ∷ 1 ∷ 105 ∷ [],
      79812000 ∷ 124962000 ∷ 99692000 ∷ 100242000 ∷ 100142000 ∷ 10000 ∷ 0 ∷ 0 ∷ 150000 ∷ 45000000 ∷ 0 ∷ [],
    )
unfolding everything
morning_comes_to = refl
