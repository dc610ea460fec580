-- The definitions on a small day.
use Rattle.std.specs.Prelude.{◌≡◌, ℕ, true, false, List, [], ◌∷◌, Some, None, refl, map, codes}
use Rattle.cash_amounts.specs.declared.records.AccountRecord.{AccountRecord}
use Rattle.cash_amounts.specs.declared.records.AccountKind.TheVariants as account_kinds
use Rattle.cash_amounts.specs.declared.records.Procedure.{Procedure}
use Rattle.cash_amounts.specs.declared.records.Procedure.TheVariants.{A, E}
use Rattle.batch_records.specs.DayRecord.{Day, no_room}
use Rattle.batch_records.specs.declared.day.Message.{Message}
use Rattle.batch_records.specs.declared.day.Entry.{Entry}
use Rattle.batch_records.specs.declared.day.Body.TheVariants as bodies
use Rattle.commit_journal.specs.declared.line.Move.{Move}
use Rattle.commit_journal.specs.declared.line.Kind.TheVariants as kinds
use Rattle.commit_journal.specs.declared.line.Code.TheVariants as line_codes
use Rattle.commit_journal.specs.declared.line.Want.TheVariants as wants
use Rattle.commit_journal.specs.Line.{Line, History}
use Rattle.machine.specs.Records.Setup.{account_numbers}
use Rattle.machine.specs.Records.Messages.{item_numbers}
use Rattle.machine.specs.Telling.History.{place_of, read_first, clock}
use Rattle.machine.specs.Telling.Balances.{credited, debited}
use Rattle.machine.specs.Telling.Facts.{open_cycle, cycle_ended}
use Rattle.machine.specs.Stages.Intake.{intake_code}
use Rattle.machine.specs.Stages.Phases.{phase}
use Rattle.machine.specs.Stages.Pending.{is_pending, is_blocked, is_blocked_by}
use Rattle.machine.specs.Making.Lines.{line, line_of, is_ready_item}
use Rattle.scan_laws.specs.Concerns.{concerns}
use Rattle.scan_laws.specs.Items.{concerns_item}
use Rattle.scan_laws.specs.Touched.{touches, waits_on}
use Rattle.scan_laws.specs.Views.{alone}

-- a proof that unfolds this name computes with all that it opens
unfoldable opened : ℕ
unfolding place_of read_first clock credited debited open_cycle cycle_ended intake_code phase is_pending is_blocked_by is_blocked line_of is_ready_item
opened = 0

abbrev X1 : List ℕ
X1 = codes "X1"

abbrev Y1 : List ℕ
Y1 = codes "Y1"

abbrev Z1 : List ℕ
Z1 = codes "Z1"

abbrev TA : List ℕ
TA = codes "TA"

abbrev BANKA : List ℕ
BANKA = codes "BANKA"

abbrev CH1 : List ℕ
CH1 = codes "CH1"

abbrev account : List ℕ → ℕ → AccountRecord
account name opening = record { name = name; kind = account_kinds.Dca; owner = BANKA; system = None; procedure = None; opening = opening }

abbrev technical : AccountRecord
technical = record { name = TA; kind = account_kinds.Tech; owner = CH1; system = None; procedure = Some A; opening = 0 }

abbrev entry : List ℕ → List ℕ → ℕ → Entry
entry debit credit amount = record { debit = debit; credit = credit; amount = amount }

abbrev bat : List ℕ → Procedure → ℕ → ℕ → List Entry → Message
bat id p count sum entries = record { round = 0; sender = CH1; id = id; body = bodies.Batch p None None None count sum entries }

-- accounts 1, 2, 3 and the technical account 4; an E batch, an A batch, and a payment that isn't covered
abbrev the_day : Day
the_day = record {
  version = 1;
  date = record { year = 2025; month = 6; day = 2 };
  accounts = account X1 1000 ∷ account Y1 0 ∷ account Z1 500 ∷ technical ∷ [];
  systems = record { name = CH1; procedures = true ∷ false ∷ false ∷ false ∷ true ∷ [] } ∷ [];
  reserves = [];
  stops = [];
  room = no_room;
  messages =
      bat (codes "B1") E 2 150 (entry X1 Y1 100 ∷ entry Z1 Y1 50 ∷ [])
      ∷ bat (codes "B2") A 3 80 (entry X1 TA 10 ∷ entry Z1 TA 30 ∷ entry TA Y1 40 ∷ [])
      ∷ record { round = 0; sender = BANKA; id = codes "P1"; body = bodies.Pay false Y1 X1 5000 }
      ∷ [];
}

abbrev m : ℕ → ℕ → ℕ → Move
m debit credit amount = record { debit = debit; credit = credit; amount = amount }

abbrev taken : ℕ → Line
taken n = line kinds.In n 0 line_codes.Ok []

abbrev book : ℕ → ℕ → List Move → Line
book n k moves = line kinds.Book n k line_codes.Ok moves

-- all three are taken
abbrev morning : History
morning = taken 3 ∷ taken 2 ∷ taken 1 ∷ []

-- the first entry of the E batch is booked, from account 1 to account 2
abbrev first : Line
first = book 1 1 (m 1 2 100 ∷ [])

is_made : line_of the_day morning (wants.Book 1 1) ≡ Some first
unfolding opened
is_made = refl

-- account 3 isn't touched, though the batch has an entry there
first_touches : map (touches the_day morning first) (account_numbers the_day) ≡ true ∷ true ∷ false ∷ false ∷ []
unfolding opened
first_touches = refl

first_concerns : (concerns the_day morning first 1 ≡ true) × (concerns the_day morning first 2 ≡ false) × (map (concerns_item the_day morning first 1) (item_numbers the_day 1) ≡ false ∷ true ∷ false ∷ [])
unfolding opened
first_concerns = (refl, refl, refl)

-- on account 3 wait the second entry of each batch, before the line and after it, and that of the E batch is ready
wait_there : (map (waits_on the_day morning 3 1) (item_numbers the_day 1) ≡ false ∷ false ∷ true ∷ []) × (map (waits_on the_day (first ∷ morning) 3 2) (item_numbers the_day 2) ≡ false ∷ false ∷ true ∷ false ∷ [])
unfolding opened
wait_there = (refl, refl)

ready_there : (is_ready_item the_day morning 1 2 ≡ true) × (is_ready_item the_day (first ∷ morning) 1 2 ≡ true) × (is_ready_item the_day morning 2 2 ≡ false)
unfolding opened
ready_there = (refl, refl, refl)

-- the first debit of the A batch concerns its own entry, and the last one all
abbrev debit : Line
debit = book 2 1 (m 1 4 10 ∷ [])

abbrev last_debit : Line
last_debit = book 2 2 (m 3 4 30 ∷ [])

debits_concern : (map (concerns_item the_day morning debit 2) (item_numbers the_day 2) ≡ false ∷ true ∷ false ∷ false ∷ []) × (map (concerns_item the_day (debit ∷ morning) last_debit 2) (item_numbers the_day 2) ≡ true ∷ true ∷ true ∷ true ∷ [])
unfolding opened
debits_concern = (refl, refl)

-- midnight touches every account on which an accepted payment or batch stands, and the payment is then ready by its phase alone
abbrev midnight : Line
midnight = line kinds.Time 0 86400 line_codes.Ok []

midnight_touches : map (touches the_day morning midnight) (account_numbers the_day) ≡ true ∷ true ∷ true ∷ true ∷ []
unfolding opened
midnight_touches = refl

ready_alone : alone the_day 3 0 (phase the_day (midnight ∷ morning) 3) 86400 ≡ Some true
unfolding opened
ready_alone = refl

-- one at noon touches none
noon_touches : map (touches the_day morning (line kinds.Time 0 43200 line_codes.Ok [])) (account_numbers the_day) ≡ false ∷ false ∷ false ∷ false ∷ []
unfolding opened
noon_touches = refl
