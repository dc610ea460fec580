-- Days that are sound, and days that aren't for one thing each.
use Rattle.std.specs.Prelude.{◌≡◌, Bool, true, false, List, [], ◌∷◌, ◌++◌, Some, None, map, refl, codes}
use Rattle.cash_amounts.specs.declared.records.AccountRecord.{AccountRecord}
use Rattle.cash_amounts.specs.declared.records.Procedure.TheVariants.{A, E}
use Rattle.batch_records.specs.declared.day.Message.{Message}
use Rattle.batch_records.specs.Sound.{is_sound}
use Rattle.machine.proofs.WorkedDays.Open.{dates}
use Rattle.machine.proofs.WorkedDays.Words.{unfunded, a_day, dca, sub, tec, fnd, system, entry, bat, pay, obj, X1, Y1, BANKA, BANKB, CH1, TA, SX, GF, B1, ch1, accounts}
use Rattle.machine.proofs.WorkedDays.Payments.{next_round_day}
use Rattle.machine.proofs.WorkedDays.BatchesOfA.{paid_by_fund_day}
use Rattle.machine.proofs.WorkedDays.LiquidityAndCycles.{cycle_day}

are_sound : map is_sound (unfunded 0 0 0 [] [] ∷ next_round_day ∷ paid_by_fund_day ∷ cycle_day ∷ []) ≡ true ∷ true ∷ true ∷ true ∷ []
unfolding dates
are_sound = refl

-- ---- setups: accounts beside the usual ones, and setups of their own

abbrev with_accounts : List AccountRecord → Bool
with_accounts more = is_sound (a_day (accounts 0 0 0 ++ more) ch1 [] [])

more_accounts : map with_accounts (
    (fnd GF CH1 0 ∷ [])
    ∷ (dca X1 BANKB 0 ∷ [])
    ∷ (dca (codes "X2") CH1 0 ∷ [])
    ∷ (tec (codes "T2") CH1 A ∷ [])
    ∷ (tec (codes "T2") CH1 E ∷ [])
    ∷ (fnd GF CH1 0 ∷ fnd (codes "G2") CH1 0 ∷ [])
    ∷ (fnd GF BANKA 0 ∷ [])
    ∷ (sub (codes "S2") BANKA BANKB ∷ [])
    ∷ (dca (codes "x2") BANKA 0 ∷ [])
    ∷ (dca (codes "") BANKA 0 ∷ [])
    ∷ [])
    ≡ true ∷ false ∷ false ∷ false ∷ false ∷ false ∷ false ∷ false ∷ false ∷ false ∷ []
unfolding dates
more_accounts = refl

-- a sub-account after and before the first account of its bank; two openings of 10^18 cents together, and of one cent more;
-- a procedure that isn't listed; no procedure
other_setups : map is_sound (
    a_day (dca X1 BANKA 0 ∷ sub SX BANKA CH1 ∷ []) ch1 [] []
    ∷ a_day (sub SX BANKA CH1 ∷ dca X1 BANKA 0 ∷ []) ch1 [] []
    ∷ a_day (dca X1 BANKA 999999999999999999 ∷ dca Y1 BANKB 1 ∷ []) [] [] []
    ∷ a_day (dca X1 BANKA 1000000000000000000 ∷ dca Y1 BANKB 1 ∷ []) [] [] []
    ∷ a_day (tec TA CH1 A ∷ []) (system CH1 (false ∷ true ∷ true ∷ true ∷ true ∷ []) ∷ []) [] []
    ∷ a_day [] (system CH1 (false ∷ false ∷ false ∷ false ∷ false ∷ []) ∷ []) [] []
    ∷ [])
    ≡ true ∷ false ∷ true ∷ false ∷ false ∷ false ∷ []
unfolding dates
other_setups = refl

-- ---- stops and rounds

stops_and_rounds : map is_sound (
    unfunded 0 0 0 (1 ∷ 86399 ∷ []) (pay 2 BANKA (codes "P1") true X1 Y1 1 ∷ [])
    ∷ unfunded 0 0 0 (0 ∷ []) []
    ∷ unfunded 0 0 0 (86400 ∷ []) []
    ∷ unfunded 0 0 0 (36000 ∷ 36000 ∷ []) []
    ∷ unfunded 0 0 0 (36000 ∷ []) (pay 2 BANKA (codes "P1") true X1 Y1 1 ∷ [])
    ∷ unfunded 0 0 0 (36000 ∷ []) (pay 1 BANKA (codes "P1") true X1 Y1 1 ∷ pay 0 BANKA (codes "P2") true X1 Y1 1 ∷ [])
    ∷ [])
    ≡ true ∷ false ∷ false ∷ false ∷ false ∷ false ∷ []
unfolding dates
stops_and_rounds = refl

-- ---- messages

abbrev with_message : Message → Bool
with_message m = is_sound (unfunded 0 0 0 [] (m ∷ []))

messages : map with_message (
    pay 0 BANKA (codes "P1") true X1 Y1 9999999999999
    ∷ pay 0 BANKA (codes "P1") true X1 Y1 10000000000000
    ∷ pay 0 BANKA (codes "P1") true X1 Y1 0
    ∷ pay 0 BANKA (codes "P_1") true X1 Y1 1
    ∷ pay 0 BANKA (codes "P1") true X1 (codes "NOWHERE") 1
    ∷ bat 0 CH1 B1 E (Some 86400) (Some 86400) 9999999 1000000000000000000 (entry X1 X1 1 ∷ [])
    ∷ bat 0 CH1 B1 E (Some 86401) None 1 1 (entry X1 Y1 1 ∷ [])
    ∷ bat 0 CH1 B1 E None (Some 86401) 1 1 (entry X1 Y1 1 ∷ [])
    ∷ bat 0 CH1 B1 E None None 10000000 1 (entry X1 Y1 1 ∷ [])
    ∷ bat 0 CH1 B1 E None None 1 1000000000000000001 (entry X1 Y1 1 ∷ [])
    ∷ bat 0 CH1 B1 E None None 1 1 (entry X1 Y1 0 ∷ [])
    ∷ obj 0 BANKA (codes "O-1") CH1 (codes "b1")
    ∷ obj 0 BANKA (codes "O1") (codes "ch1") B1
    ∷ [])
    ≡ true ∷ false ∷ false ∷ false ∷ true ∷ true ∷ false ∷ false ∷ false ∷ false ∷ false ∷ true ∷ false ∷ []
unfolding dates
messages = refl
