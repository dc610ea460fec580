-- The codes with which messages are taken.
use Rattle.std.specs.Prelude.{◌≡◌, true, false, [], ◌∷◌, Option, Some, None, length, refl, codes}
use Rattle.batch_records.specs.DayRecord.{Day}
use Rattle.cash_amounts.specs.declared.records.Procedure.TheVariants.{A, B, C, D, E}
use Rattle.commit_journal.specs.declared.line.Code.TheVariants as line_codes
use Rattle.commit_journal.specs.declared.line.Code.{Code}
use Rattle.machine.specs.Telling.History.{taken_code}
use Rattle.machine.specs.Orders.Order.{plain}
use Rattle.machine.proofs.WorkedDays.Words.{funded, a_day, dca, sub, tec, fnd, entry, bat, pay, liq, obj, cnf, cyc, X1, Y1, Z1, BANKA, BANKB, BANKC, CH1, TA, TB, TC, SX, GF, B1, ch1}
use Rattle.machine.proofs.WorkedDays.Open.{everything}

-- the code of the last message of the day
abbrev last_code : Day → Option Code
last_code day = taken_code (plain day) (length day.messages)

system_pays : last_code (funded 10000 0 0 0 [] (pay 0 CH1 (codes "P1") false X1 Y1 100 ∷ [])) ≡ Some line_codes.Us
unfolding everything
system_pays = refl

unused_procedure : last_code (a_day (dca X1 BANKA 10000 ∷ dca Y1 BANKB 0 ∷ dca Z1 BANKC 0 ∷ tec TA CH1 A ∷ tec TB CH1 B ∷ tec TC CH1 C ∷ sub SX BANKA CH1 ∷ fnd GF CH1 0 ∷ []) ch1 [] (bat 0 CH1 B1 D None None 1 100 (entry X1 Y1 100 ∷ []) ∷ [])) ≡ Some line_codes.Pr
unfolding everything
unused_procedure = refl

no_entries : last_code (funded 10000 0 0 0 [] (bat 0 CH1 B1 E None None 0 0 [] ∷ [])) ≡ Some line_codes.Ct
unfolding everything
no_entries = refl

sides_differ : last_code (funded 10000 0 0 0 [] (bat 0 CH1 B1 A None None 2 300 (entry X1 TA 100 ∷ entry TA Y1 200 ∷ []) ∷ [])) ≡ Some line_codes.Nz
unfolding everything
sides_differ = refl

own_account : last_code (funded 10000 0 0 0 [] (bat 0 CH1 B1 E None None 1 100 (entry X1 X1 100 ∷ []) ∷ [])) ≡ Some line_codes.En
unfolding everything
own_account = refl

ends_with_information : last_code (funded 10000 0 0 0 [] (bat 0 CH1 B1 E (Some 39600) (Some 39600) 1 100 (entry X1 Y1 100 ∷ []) ∷ [])) ≡ Some line_codes.Ti
unfolding everything
ends_with_information = refl

no_cycle : last_code (funded 10000 0 0 0 [] (bat 0 CH1 B1 C None None 1 100 (entry SX TC 100 ∷ []) ∷ [])) ≡ Some line_codes.Cy
unfolding everything
no_cycle = refl

foreign_account : last_code (funded 10000 0 0 0 [] (pay 0 BANKA (codes "P1") false Y1 X1 100 ∷ [])) ≡ Some line_codes.Ac
unfolding everything
foreign_account = refl

one_cent_short : last_code (funded 10000 0 0 0 [] (liq 0 BANKA (codes "L1") X1 SX 10001 ∷ [])) ≡ Some line_codes.Nc
unfolding everything
one_cent_short = refl

no_such_batch : last_code (funded 10000 0 0 0 [] (cnf 0 CH1 (codes "C1") B1 true ∷ [])) ≡ Some line_codes.Bt
unfolding everything
no_such_batch = refl

no_party : last_code (funded 10000 0 0 0 [] (bat 0 CH1 B1 E (Some 36000) None 1 100 (entry X1 Y1 100 ∷ []) ∷ obj 0 BANKC (codes "O1") CH1 B1 ∷ [])) ≡ Some line_codes.Np
unfolding everything
no_party = refl

other_text : last_code (funded 10000 0 0 0 [] (pay 0 BANKA (codes "P1") false X1 Y1 100 ∷ liq 0 BANKA (codes "P1") X1 SX 200 ∷ [])) ≡ Some line_codes.Du
unfolding everything
other_text = refl

repeat_of_rejected : last_code (funded 10000 0 0 0 [] (pay 0 BANKA (codes "P1") false Y1 X1 100 ∷ pay 0 BANKA (codes "P1") false X1 Y1 100 ∷ [])) ≡ Some line_codes.Du
unfolding everything
repeat_of_rejected = refl

bank_sends_batch : last_code (funded 10000 0 0 0 [] (bat 0 BANKA B1 E None None 1 100 (entry X1 Y1 100 ∷ []) ∷ [])) ≡ Some line_codes.Us
unfolding everything
bank_sends_batch = refl

count_off : last_code (funded 10000 0 0 0 [] (bat 0 CH1 B1 E None None 2 100 (entry X1 Y1 100 ∷ []) ∷ [])) ≡ Some line_codes.Ct
unfolding everything
count_off = refl

sum_off : last_code (funded 10000 0 0 0 [] (bat 0 CH1 B1 E None None 1 101 (entry X1 Y1 100 ∷ []) ∷ [])) ≡ Some line_codes.Sm
unfolding everything
sum_off = refl

technical_to_itself : last_code (funded 10000 0 0 0 [] (bat 0 CH1 B1 A None None 1 100 (entry TA TA 100 ∷ []) ∷ [])) ≡ Some line_codes.En
unfolding everything
technical_to_itself = refl

other_technical : last_code (funded 10000 0 0 0 [] (bat 0 CH1 B1 B None None 2 200 (entry X1 TA 100 ∷ entry TA Y1 100 ∷ []) ∷ [])) ≡ Some line_codes.En
unfolding everything
other_technical = refl

information_till_midnight : last_code (funded 10000 0 0 0 [] (bat 0 CH1 B1 E (Some 86400) None 1 100 (entry X1 Y1 100 ∷ []) ∷ [])) ≡ Some line_codes.Ti
unfolding everything
information_till_midnight = refl

ends_before_midnight : last_code (funded 10000 0 0 0 [] (bat 0 CH1 B1 E (Some 86399) (Some 86400) 1 100 (entry X1 Y1 100 ∷ []) ∷ [])) ≡ Some line_codes.Ok
unfolding everything
ends_before_midnight = refl

cycle_states_end : last_code (funded 10000 0 0 0 [] (bat 0 CH1 B1 C None (Some 39600) 1 100 (entry SX TC 100 ∷ []) ∷ [])) ≡ Some line_codes.Ti
unfolding everything
cycle_states_end = refl

end_without_start : last_code (funded 10000 0 0 0 [] (cyc 0 CH1 (codes "K1") false ∷ [])) ≡ Some line_codes.Cy
unfolding everything
end_without_start = refl

locked : last_code (funded 10000 0 0 0 [] (cyc 0 CH1 (codes "K1") true ∷ liq 0 BANKA (codes "L1") SX X1 100 ∷ [])) ≡ Some line_codes.Lk
unfolding everything
locked = refl

empty_sub : last_code (funded 10000 0 0 0 [] (liq 0 BANKA (codes "L1") SX X1 100 ∷ [])) ≡ Some line_codes.Nc
unfolding everything
empty_sub = refl

batch_of_other_message : last_code (funded 10000 0 0 0 [] (pay 0 BANKA B1 false X1 Y1 100 ∷ obj 0 BANKA (codes "O1") CH1 B1 ∷ [])) ≡ Some line_codes.Bt
unfolding everything
batch_of_other_message = refl

answer_before_question : last_code (funded 10000 0 0 0 [] (bat 0 CH1 B1 E (Some 36000) None 1 100 (entry X1 Y1 100 ∷ []) ∷ cnf 0 CH1 (codes "C1") B1 true ∷ [])) ≡ Some line_codes.Ph
unfolding everything
answer_before_question = refl

party : last_code (funded 10000 0 0 0 [] (bat 0 CH1 B1 E (Some 36000) None 1 100 (entry X1 Y1 100 ∷ []) ∷ obj 0 BANKB (codes "O1") CH1 B1 ∷ [])) ≡ Some line_codes.Ok
unfolding everything
party = refl
