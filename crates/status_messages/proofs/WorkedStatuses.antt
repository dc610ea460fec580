-- The messages of worked days, as their texts. Amounts are cents, times are seconds.
use Rattle.std.specs.Prelude.{◌≡◌, ℕ, true, false, List, [], ◌∷◌, ◌++◌, Some, None, refl, codes}
use Rattle.std.specs.List.{flat_map}
use Rattle.std.specs.Fmt.{digits}
use Rattle.cash_amounts.specs.declared.records.AccountRecord.{AccountRecord}
use Rattle.cash_amounts.specs.declared.records.AccountKind.TheVariants as account_kinds
use Rattle.cash_amounts.specs.declared.records.Procedure.{Procedure}
use Rattle.cash_amounts.specs.declared.records.Procedure.TheVariants.{A, D, E}
use Rattle.batch_records.specs.DayRecord.{Day, no_room}
use Rattle.batch_records.specs.declared.day.Message.{Message}
use Rattle.batch_records.specs.declared.day.Entry.{Entry}
use Rattle.batch_records.specs.declared.day.Body.{Body}
use Rattle.batch_records.specs.declared.day.Body.TheVariants as bodies
use Rattle.machine.specs.Telling.History.{place_of, read_first, clock}
use Rattle.machine.specs.Telling.Balances.{credited, debited}
use Rattle.machine.specs.Telling.Facts.{open_cycle, cycle_ended}
use Rattle.machine.specs.Stages.Phases.{phase}
use Rattle.machine.specs.Stages.Intake.{intake_code}
use Rattle.machine.specs.Stages.Pending.{is_pending, is_blocked_by, is_blocked}
use Rattle.machine.specs.Stages.Blockers.{pick_of, first_blocker}
use Rattle.machine.specs.Making.Lines.{is_ready_item, is_ready_message, is_ready, next_stop, all_taken, line_of}
use Rattle.machine.specs.Making.FirstReady.{first_ready}
use Rattle.machine.specs.Orders.Order.{append, one_scan, until, take_all, scan, empty_all, quiet, lap, to_round, to_end, plain}
use Rattle.status_messages.specs.Statuses.{all_statuses, statuses, unafforded_in_order}
use Rattle.status_messages.specs.StatusesAt.{statuses_at}
use Rattle.status_messages.specs.StatusTexts.{status_text}

-- a proof that unfolds this computes the order of lines, the messages and their texts
unfoldable told : ℕ
unfolding place_of read_first clock credited debited open_cycle cycle_ended phase intake_code is_pending is_blocked_by is_blocked pick_of first_blocker is_ready_item is_ready_message is_ready first_ready next_stop all_taken line_of append one_scan until take_all scan empty_all quiet lap to_round to_end plain all_statuses statuses unafforded_in_order status_text digits
told = 0

-- ---- days

abbrev dca : List ℕ → List ℕ → ℕ → AccountRecord
dca name bank opening = record { name = name; kind = account_kinds.Dca; owner = bank; system = None; procedure = None; opening = opening }

abbrev tec : List ℕ → List ℕ → Procedure → AccountRecord
tec name system p = record { name = name; kind = account_kinds.Tech; owner = system; system = None; procedure = Some p; opening = 0 }

abbrev entry : List ℕ → List ℕ → ℕ → Entry
entry debit credit amount = record { debit = debit; credit = credit; amount = amount }

-- a message of a round
abbrev message : ℕ → List ℕ → List ℕ → Body → Message
message round sender id body = record { round = round; sender = sender; id = id; body = body }

-- three banks with the openings x, y and z, and a system that uses A to E, without a fund
abbrev day_of : ℕ → ℕ → ℕ → List ℕ → List Message → Day
day_of x y z stops messages = record {
  version = 1;
  date = record { year = 2025; month = 6; day = 2 };
  accounts =
      dca (codes "X1") (codes "BANKA") x ∷ dca (codes "Y1") (codes "BANKB") y ∷ dca (codes "Z1") (codes "BANKC") z
      ∷ tec (codes "TA") (codes "CH1") A ∷ tec (codes "TD") (codes "CH1") D ∷ [];
  systems = record { name = codes "CH1"; procedures = true ∷ true ∷ true ∷ true ∷ true ∷ [] } ∷ [];
  reserves = [];
  stops = stops;
  room = no_room;
  messages = messages;
}

-- ---- two payments, of which one expires

abbrev two_payments : Day
two_payments = day_of 10000 0 0 []
    (message 0 (codes "BANKA") (codes "P1") (bodies.Pay false (codes "X1") (codes "Y1") 6000)
    ∷ message 0 (codes "BANKA") (codes "P2") (bodies.Pay false (codes "X1") (codes "Y1") 5000)
    ∷ [])

payments_are_told : flat_map status_text (all_statuses two_payments (plain two_payments)) ≡
    codes "S;1;BANKA;ACPT;1;BANKA;P1;0;OK\n"
    ++ codes "S;2;BANKA;ACPT;2;BANKA;P2;0;OK\n"
    ++ codes "S;3;BANKA;DBIT;X1;60.00\n"
    ++ codes "S;3;BANKB;CRDT;Y1;60.00\n"
    ++ codes "S;3;BANKA;SETL;1;BANKA;P1;0;OK\n"
    ++ codes "S;5;BANKA;FAIL;2;BANKA;P2;0;ED\n"
unfolding told
payments_are_told = refl

-- ---- a batch of procedure E with an information end: one objection revokes an entry, and one comes too late

abbrev one_objects : Day
one_objects = day_of 10000 10000 0 (35999 ∷ 36000 ∷ [])
    (message 0 (codes "CH1") (codes "B1") (bodies.Batch E (Some 36000) None (Some 39600) 2 3000
    (entry (codes "X1") (codes "Y1") 1000 ∷ entry (codes "Y1") (codes "Z1") 2000 ∷ []))
    ∷ message 1 (codes "BANKA") (codes "O1") (bodies.Object (codes "CH1") (codes "B1"))
    ∷ message 2 (codes "BANKC") (codes "O2") (bodies.Object (codes "CH1") (codes "B1"))
    ∷ [])

objections_are_told : flat_map status_text (all_statuses one_objects (plain one_objects)) ≡
    codes "S;1;CH1;ACPT;1;CH1;B1;0;OK\n"
    ++ codes "S;1;BANKA;INFO;1;CH1;B1;0;OK\n"
    ++ codes "S;1;BANKB;INFO;1;CH1;B1;0;OK\n"
    ++ codes "S;1;BANKC;INFO;1;CH1;B1;0;OK\n"
    ++ codes "S;3;BANKA;ACPT;2;BANKA;O1;0;OK\n"
    ++ codes "S;3;CH1;RVKD;1;CH1;B1;1;OK\n"
    ++ codes "S;5;BANKC;RJCT;3;BANKC;O2;0;PH\n"
    ++ codes "S;6;BANKB;DBIT;Y1;20.00\n"
    ++ codes "S;6;BANKC;CRDT;Z1;20.00\n"
    ++ codes "S;6;CH1;SETL;1;CH1;B1;0;OK\n"
unfolding told
objections_are_told = refl

-- ---- a batch of procedure D, of which the prefunded account covers two entries of three

abbrev prefunded : Day
prefunded = day_of 10000 0 0 (32400 ∷ [])
    (message 0 (codes "BANKA") (codes "L1") (bodies.Liquidity (codes "X1") (codes "TD") 10000)
    ∷ message 1 (codes "CH1") (codes "B1") (bodies.Batch D None None None 3 15000
    (entry (codes "TD") (codes "Y1") 6000 ∷ entry (codes "TD") (codes "Z1") 5000 ∷ entry (codes "TD") (codes "Y1") 4000 ∷ []))
    ∷ [])

rejected_entries_are_told : flat_map status_text (statuses_at prefunded (plain prefunded) 3) ≡
    codes "S;3;CH1;DBIT;TD;60.00\n"
    ++ codes "S;3;BANKB;CRDT;Y1;60.00\n"
    ++ codes "S;3;CH1;DBIT;TD;40.00\n"
    ++ codes "S;3;BANKB;CRDT;Y1;40.00\n"
    ++ codes "S;3;CH1;ACPT;2;CH1;B1;0;OK\n"
    ++ codes "S;3;CH1;RJCT;2;CH1;B1;2;NC\n"
    ++ codes "S;3;CH1;SETL;2;CH1;B1;0;OK\n"
unfolding told
rejected_entries_are_told = refl
