-- The definitions on small days, of which one is settled otherwise by each of the three orders; and days on which a premise of the laws is
-- missed and the lines differ.
use Rattle.std.specs.Prelude.{◌≡◌, ℕ, true, false, List, [], ◌∷◌, Option, Some, None, refl, codes}
use Rattle.cash_amounts.specs.declared.records.AccountRecord.{AccountRecord}
use Rattle.cash_amounts.specs.declared.records.AccountKind.TheVariants as account_kinds
use Rattle.cash_amounts.specs.declared.records.Procedure.TheVariants.{E}
use Rattle.batch_records.specs.DayRecord.{Day, no_room}
use Rattle.batch_records.specs.declared.day.Message.{Message}
use Rattle.batch_records.specs.declared.day.Body.TheVariants as bodies
use Rattle.commit_journal.specs.declared.line.Kind.TheVariants as kinds
use Rattle.commit_journal.specs.declared.line.Code.TheVariants as line_codes
use Rattle.commit_journal.specs.declared.line.Want.TheVariants as wants
use Rattle.commit_journal.specs.Line.{Line, History}
use Rattle.machine.specs.declared.answers.Phase.TheVariants as phases
use Rattle.machine.specs.Telling.History.{place_of, read_first, clock}
use Rattle.machine.specs.Telling.Balances.{credited, debited}
use Rattle.machine.specs.Telling.Facts.{open_cycle, cycle_ended}
use Rattle.machine.specs.Stages.Intake.{intake_code}
use Rattle.machine.specs.Stages.Phases.{phase}
use Rattle.machine.specs.Stages.Pending.{is_pending, is_blocked, is_blocked_by}
use Rattle.machine.specs.Making.Lines.{line, line_of, is_ready_item, is_ready_message, is_ready, next_stop, all_taken}
use Rattle.machine.specs.Orders.Order.{append, one_scan, until, take_all, scan, empty_all, quiet, lap, to_round, to_end, plain}
use Rattle.machine.specs.Legal.{IsLegal}
use Rattle.live_order.specs.LiveOrder.{Arrives, Stop, Over, events, cut, laps_to, times_to, live, live_journal}
use Rattle.live_order.specs.Longer.{longer}

-- a proof that unfolds this name computes with all that it opens
unfoldable opened : ℕ
unfolding place_of read_first clock credited debited open_cycle cycle_ended intake_code phase is_pending is_blocked_by is_blocked line_of is_ready_item is_ready_message is_ready next_stop all_taken append one_scan until take_all scan empty_all quiet lap to_round to_end plain events cut laps_to times_to live live_journal
opened = 0

abbrev X1 : List ℕ
X1 = codes "X1"

abbrev Y1 : List ℕ
Y1 = codes "Y1"

abbrev BANKA : List ℕ
BANKA = codes "BANKA"

abbrev CH1 : List ℕ
CH1 = codes "CH1"

abbrev account : List ℕ → ℕ → AccountRecord
account name opening = record { name = name; kind = account_kinds.Dca; owner = BANKA; system = None; procedure = None; opening = opening }

-- a normal payment from the first account to the second
abbrev pay : ℕ → List ℕ → ℕ → Message
pay round id amount = record { round = round; sender = BANKA; id = id; body = bodies.Pay false X1 Y1 amount }

-- and one back
abbrev pay_back : ℕ → List ℕ → ℕ → Message
pay_back round id amount = record { round = round; sender = BANKA; id = id; body = bodies.Pay false Y1 X1 amount }

-- a batch of E with one entry of 60, from the first account to the second
abbrev batch : Option ℕ → Option ℕ → Message
batch info till = record { round = 0; sender = CH1; id = codes "B1"; body = bodies.Batch E info None till 1 60 (record { debit = X1; credit = Y1; amount = 60 } ∷ []) }

abbrev of_messages : List ℕ → List Message → Day
of_messages stops messages = record {
  version = 1;
  date = record { year = 2025; month = 6; day = 2 };
  accounts = account X1 100 ∷ account Y1 0 ∷ [];
  systems = record { name = CH1; procedures = false ∷ false ∷ false ∷ false ∷ true ∷ [] } ∷ [];
  reserves = [];
  stops = stops;
  room = no_room;
  messages = messages;
}

-- ---- the lines

abbrev taken : ℕ → Line
taken n = line kinds.In n 0 line_codes.Ok []

abbrev booked : ℕ → ℕ → Line
booked n amount = line kinds.Book n 0 line_codes.Ok (record { debit = 1; credit = 2; amount = amount } ∷ [])

abbrev back : ℕ → ℕ → Line
back n amount = line kinds.Book n 0 line_codes.Ok (record { debit = 2; credit = 1; amount = amount } ∷ [])

abbrev entry_booked : ℕ → Line
entry_booked n = line kinds.Book n 1 line_codes.Ok (record { debit = 1; credit = 2; amount = 60 } ∷ [])

abbrev time : ℕ → Line
time t = line kinds.Time 0 t line_codes.Ok []

abbrev end : Line
end = line kinds.End 0 0 line_codes.Ok []

-- ---- a day and its events

-- a payment and a batch of which the account can pay one, a stop at 1000, and a payment back
abbrev the_day : Day
the_day = of_messages (1000 ∷ []) (pay 0 (codes "P1") 60 ∷ batch None None ∷ pay_back 1 (codes "P3") 30 ∷ [])

the_events : events the_day ≡ Arrives 1 ∷ Arrives 2 ∷ Stop 1 ∷ Arrives 3 ∷ Over ∷ []
unfolding opened
the_events = refl

-- after two events the day has the payment and the batch and no stop, after three the stop too
two_events : cut the_day 2 ≡ of_messages [] (pay 0 (codes "P1") 60 ∷ batch None None ∷ [])
unfolding opened
two_events = refl

three_events : cut the_day 3 ≡ of_messages (1000 ∷ []) (pay 0 (codes "P1") 60 ∷ batch None None ∷ [])
unfolding opened
three_events = refl

-- at the stop the payment of its round isn't taken, though it stands in the day
live_three : live the_day 3 [] ≡ time 1000 ∷ taken 2 ∷ booked 1 60 ∷ taken 1 ∷ []
unfolding opened
live_three = refl

-- ---- the three orders

-- the payment is booked as it comes in, and the batch waits for the money that comes back
live_whole : live_journal the_day ≡ end ∷ time 86400 ∷ entry_booked 2 ∷ back 3 30 ∷ taken 3 ∷ time 1000 ∷ taken 2 ∷ booked 1 60 ∷ taken 1 ∷ []
unfolding opened
live_whole = refl

-- the written order takes both before it books anything, and the batch stands before the payment
plain_whole : plain the_day ≡ end ∷ time 86400 ∷ booked 1 60 ∷ back 3 30 ∷ taken 3 ∷ time 1000 ∷ entry_booked 2 ∷ taken 2 ∷ taken 1 ∷ []
unfolding opened
plain_whole = refl

-- of two workers the system's may be the faster one
abbrev of_workers : History
of_workers = end ∷ time 86400 ∷ booked 1 60 ∷ back 3 30 ∷ taken 3 ∷ time 1000 ∷ taken 1 ∷ entry_booked 2 ∷ taken 2 ∷ []

workers_may : IsLegal the_day of_workers
unfolding opened
workers_may = (((((((((tt, refl), refl), refl), refl), refl), refl), refl), refl), refl)

-- without the payment back each settles what it booked first, and the other is closed
abbrev short_day : Day
short_day = of_messages [] (pay 0 (codes "P1") 60 ∷ batch None None ∷ [])

live_settles_payment : (phase short_day (live_journal short_day) 1 ≡ phases.Settled) × (phase short_day (live_journal short_day) 2 ≡ phases.Closed)
unfolding opened
live_settles_payment = (refl, refl)

plain_settles_batch : (phase short_day (plain short_day) 1 ≡ phases.Closed) × (phase short_day (plain short_day) 2 ≡ phases.Settled)
unfolding opened
plain_settles_batch = (refl, refl)

-- ---- what is ready at a stop

-- a batch whose information period ends at the stop is booked there
abbrev informed_day : Day
informed_day = of_messages (1000 ∷ []) (batch (Some 1000) None ∷ [])

booked_at_stop : live informed_day 2 [] ≡ entry_booked 1 ∷ time 1000 ∷ taken 1 ∷ []
unfolding opened
booked_at_stop = refl

-- turns alone would leave it, as they scan before they move the clock
left_by_laps : (laps_to informed_day 1000 (taken 1 ∷ []) ≡ time 1000 ∷ taken 1 ∷ []) × (is_ready informed_day (laps_to informed_day 1000 (taken 1 ∷ [])) ≡ true)
unfolding opened
left_by_laps = (refl, refl)

-- one whose information period ends before the stop is booked before the clock comes to the stop, and on the way to midnight the clock meets
-- its settlement end
abbrev passed_day : Day
passed_day = of_messages (37800 ∷ []) (batch (Some 36000) (Some 39600) ∷ [])

booked_on_the_way : live passed_day 2 [] ≡ time 37800 ∷ entry_booked 1 ∷ time 36000 ∷ taken 1 ∷ []
unfolding opened
booked_on_the_way = refl

the_same_by_times : times_to passed_day 37800 (taken 1 ∷ []) ≡ live passed_day 2 []
unfolding opened
the_same_by_times = refl

over_the_way : live_journal passed_day ≡ end ∷ time 86400 ∷ time 39600 ∷ time 37800 ∷ entry_booked 1 ∷ time 36000 ∷ taken 1 ∷ []
unfolding opened
over_the_way = refl

-- ---- days that miss a premise

abbrev empty_day : Day
empty_day = of_messages [] []

abbrev P1 : Message
P1 = pay 0 (codes "P1") 60

abbrev late : Message
late = pay 1 (codes "P1") 60

-- from the last of the day's stops on time passes otherwise: a further stop is met first
further_stop : (line_of empty_day [] wants.Time ≡ Some (time 86400)) × (line_of (longer empty_day [] (1000 ∷ [])) [] wants.Time ≡ Some (time 1000))
unfolding opened
further_stop = (refl, refl)

-- and a further message of the round that is reached is taken first
further_message : (line_of empty_day [] wants.Time ≡ Some (time 86400)) × (line_of (longer empty_day (P1 ∷ []) []) [] wants.Time ≡ None)
unfolding opened
further_message = (refl, refl)

-- below the last of the day's stops a further message of an earlier round is also taken first
earlier_round : (line_of (of_messages (1000 ∷ []) []) [] wants.Time ≡ Some (time 1000)) × (line_of (longer (of_messages (1000 ∷ []) []) (P1 ∷ []) []) [] wants.Time ≡ None)
unfolding opened
earlier_round = (refl, refl)

-- a message of the day after more stops than the day has is never reached with the day, and with a further stop it is
own_round : (line_of (of_messages [] (late ∷ [])) (time 2000 ∷ []) (wants.In 1) ≡ None) × (line_of (longer (of_messages [] (late ∷ [])) [] (1000 ∷ [])) (time 2000 ∷ []) (wants.In 1) ≡ Some (taken 1))
unfolding opened
own_round = (refl, refl)

-- a further stop that doesn't rise counts before the day's own
falling_stops : (line_of (of_messages (1000 ∷ []) (late ∷ [])) (time 700 ∷ []) (wants.In 1) ≡ None)
    × (line_of (longer (of_messages (1000 ∷ []) (late ∷ [])) [] (500 ∷ [])) (time 700 ∷ []) (wants.In 1) ≡ Some (taken 1))
unfolding opened
falling_stops = (refl, refl)

-- a history that speaks of a further message: with the day nobody has sent it, and with the longer day it blocks
abbrev blocked_day : Day
blocked_day = of_messages [] (pay 0 (codes "P0") 50 ∷ [])

spoken_beyond : (line_of blocked_day (taken 1 ∷ taken 2 ∷ []) (wants.Book 1 0) ≡ Some (booked 1 50))
    × (line_of (longer blocked_day (record { round = 0; sender = BANKA; id = codes "P9"; body = bodies.Pay true X1 Y1 90 } ∷ []) []) (taken 1 ∷ taken 2 ∷ []) (wants.Book 1 0) ≡ None)
unfolding opened
spoken_beyond = (refl, refl)
