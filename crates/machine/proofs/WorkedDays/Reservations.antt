-- Days on which accounts keep amounts, and batches that wait for their earliest time.
use Rattle.std.specs.Prelude.{◌≡◌, ℕ, Bool, true, false, List, [], ◌∷◌, ◌++◌, Option, Some, None, reverse, map, refl, codes}
use Rattle.cash_amounts.specs.declared.records.Procedure.{Procedure}
use Rattle.cash_amounts.specs.declared.records.Procedure.TheVariants.{A, B, C, E}
use Rattle.batch_records.specs.DayRecord.{Day, no_room}
use Rattle.batch_records.specs.declared.day.Reserve.{Reserve}
use Rattle.batch_records.specs.declared.day.Message.{Message}
use Rattle.batch_records.specs.declared.day.Body.TheVariants as bodies
use Rattle.batch_records.specs.Sound.{is_sound}
use Rattle.commit_journal.specs.declared.line.Code.{Code}
use Rattle.commit_journal.specs.declared.line.Code.TheVariants as line_codes
use Rattle.commit_journal.specs.declared.line.Kind.TheVariants as kinds
use Rattle.commit_journal.specs.declared.line.Want.{Want}
use Rattle.commit_journal.specs.declared.line.Want.TheVariants as wants
use Rattle.commit_journal.specs.Histories.{oldest}
use Rattle.machine.specs.declared.answers.Phase.TheVariants as phases
use Rattle.machine.specs.declared.answers.Why.{Why}
use Rattle.machine.specs.declared.answers.Why.TheVariants as whys
use Rattle.machine.specs.Stages.Intake.{intake_code}
use Rattle.machine.specs.Making.Lines.{line}
use Rattle.machine.specs.Orders.Order.{plain}
use Rattle.machine.specs.Making.Reasons.{why_of}
use Rattle.machine.proofs.WorkedDays.Words.{funded, entry, bat, liq, pay, m, X1, Y1, Z1, TA, TB, TC, SX, BANKA, CH1, B1}
use Rattle.machine.proofs.WorkedDays.Open.{dates, everything}

-- a day of version 2 on which accounts keep amounts
abbrev keeping : List Reserve → Day → Day
keeping reserves day = record { version = 2; date = day.date; accounts = day.accounts; systems = day.systems; reserves = reserves; stops = day.stops; messages = day.messages; room = no_room }

abbrev res : ℕ → ℕ → ℕ → Reserve
res account urgent high = record { account = account; urgent = urgent; high = high }

abbrev after : Day → ℕ → List Want → List (Option Why)
after day i these = map (why_of day (oldest (plain day) i)) these

-- ---- what payments leave: a normal one both amounts, a high one what is kept for urgent items, an entry nothing

abbrev kept_day : Day
kept_day = keeping (res 1 3000 1000 ∷ []) (funded 10000 0 0 0 (32400 ∷ 36000 ∷ [])
    (pay 0 BANKA (codes "P1") false X1 Y1 6001
    ∷ pay 0 BANKA (codes "P2") false X1 Y1 6000
    ∷ pay 1 BANKA (codes "P3") true X1 Y1 1001
    ∷ bat 2 CH1 B1 E None None 1 4000 (entry X1 Y1 4000 ∷ [])
    ∷ []))

kept_back : reverse (plain kept_day) ≡
    line kinds.In 1 0 line_codes.Ok []
    ∷ line kinds.In 2 0 line_codes.Ok []
    ∷ line kinds.Book 2 0 line_codes.Ok (m 1 2 6000 ∷ [])
    ∷ line kinds.Time 0 32400 line_codes.Ok []
    ∷ line kinds.In 3 0 line_codes.Ok []
    ∷ line kinds.Time 0 36000 line_codes.Ok []
    ∷ line kinds.In 4 0 line_codes.Ok []
    ∷ line kinds.Book 4 1 line_codes.Ok (m 1 2 4000 ∷ [])
    ∷ line kinds.Time 0 86400 line_codes.Ok []
    ∷ line kinds.Expire 1 0 line_codes.Ed []
    ∷ line kinds.Expire 3 0 line_codes.Ed []
    ∷ line kinds.End 0 0 line_codes.Ok []
    ∷ []
unfolding everything
kept_back = refl

-- short with a balance above its amount; the high one is short though one cent less would do
too_little_left : after kept_day 3 (wants.Book 1 0 ∷ []) ≡ Some (whys.Short 1 4000) ∷ []
unfolding everything
too_little_left = refl

high_is_short : after kept_day 5 (wants.Book 3 0 ∷ wants.Book 1 0 ∷ []) ≡ Some (whys.Short 1 4000) ∷ Some (whys.Blocked 1 3 0) ∷ []
unfolding everything
high_is_short = refl

-- a transfer leaves what a normal payment must leave, to the cent
abbrev code_of_transfer : ℕ → Code
code_of_transfer amount = intake_code (keeping (res 1 3000 1000 ∷ []) (funded 10000 0 0 0 [] (liq 0 BANKA (codes "L1") X1 SX amount ∷ []))) [] 1

transfers : map code_of_transfer (6000 ∷ 6001 ∷ []) ≡ line_codes.Ok ∷ line_codes.Nc ∷ []
unfolding everything
transfers = refl

-- ---- a batch with an earliest time

abbrev early : Procedure → Option ℕ → Option ℕ → Option ℕ → List ℕ → Message
early p info from till technical = record {
  round = 0;
  sender = CH1;
  id = B1;
  body = bodies.Batch p info from till 3 20000 (entry X1 technical 4000 ∷ entry Y1 technical 6000 ∷ entry technical Z1 10000 ∷ []);
}

abbrev waiting_day : Day
waiting_day = keeping [] (funded 4000 6000 0 0 [] (early A (Some 32400) (Some 36000) (Some 39600) TA ∷ []))

waits : reverse (plain waiting_day) ≡
    line kinds.In 1 0 line_codes.Ok []
    ∷ line kinds.Time 0 32400 line_codes.Ok []
    ∷ line kinds.Time 0 36000 line_codes.Ok []
    ∷ line kinds.Book 1 1 line_codes.Ok (m 1 4 4000 ∷ [])
    ∷ line kinds.Book 1 2 line_codes.Ok (m 2 4 6000 ∷ [])
    ∷ line kinds.Book 1 3 line_codes.Ok (m 4 3 10000 ∷ [])
    ∷ line kinds.Time 0 39600 line_codes.Ok []
    ∷ line kinds.Time 0 86400 line_codes.Ok []
    ∷ line kinds.End 0 0 line_codes.Ok []
    ∷ []
unfolding everything
waits = refl

informed_then_waiting : after waiting_day 1 (wants.Book 1 1 ∷ []) ++ after waiting_day 2 (wants.Book 1 1 ∷ []) ≡ Some (whys.Phase phases.Information 0) ∷ Some (whys.Phase phases.Waiting 32400) ∷ []
unfolding everything
informed_then_waiting = refl

-- ---- times with which a batch is taken or refused: an earliest time is above the clock and below the settlement end, and not below an
-- information end

abbrev code_of_times : Option ℕ → Option ℕ → Option ℕ → Code
code_of_times info from till = intake_code (keeping [] (funded 0 0 0 0 [] (early B info from till TB ∷ []))) [] 1

times :
    code_of_times None (Some 1) None
    ∷ code_of_times None (Some 0) None
    ∷ code_of_times None (Some 86399) None
    ∷ code_of_times None (Some 86400) None
    ∷ code_of_times None (Some 39599) (Some 39600)
    ∷ code_of_times None (Some 39600) (Some 39600)
    ∷ code_of_times (Some 32400) (Some 32400) (Some 39600)
    ∷ code_of_times (Some 32401) (Some 32400) (Some 39600)
    ∷ []
    ≡ line_codes.Ok ∷ line_codes.Ti ∷ line_codes.Ok ∷ line_codes.Ti ∷ line_codes.Ok ∷ line_codes.Ti ∷ line_codes.Ok ∷ line_codes.Ti ∷ []
unfolding everything
times = refl

-- ---- days that are sound, and days that aren't: of a sub-account, of no account, twice of one, of more than the largest amount

abbrev is_sound_with : List Reserve → Bool
is_sound_with reserves = is_sound (keeping reserves (funded 0 0 0 0 [] []))

reserves_of_days : map is_sound_with (
    (res 1 3000 1000 ∷ res 3 0 0 ∷ [])
    ∷ (res 8 0 0 ∷ [])
    ∷ (res 0 0 0 ∷ [])
    ∷ (res 10 0 0 ∷ [])
    ∷ (res 1 0 0 ∷ res 2 0 0 ∷ res 1 5 5 ∷ [])
    ∷ (res 1 1000000000000000000 0 ∷ [])
    ∷ (res 1 1000000000000000000 1 ∷ [])
    ∷ [])
    ≡ true ∷ false ∷ false ∷ false ∷ false ∷ true ∷ false ∷ []
unfolding dates
reserves_of_days = refl

-- in a day of version 1 no account keeps anything and no batch has an earliest time; in one of version 2 only batches of A and B have one
abbrev first_version : Day → Day
first_version day = record { version = 1; date = day.date; accounts = day.accounts; systems = day.systems; reserves = day.reserves; stops = day.stops; messages = day.messages; room = no_room }

versions :
    is_sound kept_day
    ∷ is_sound (first_version kept_day)
    ∷ is_sound waiting_day
    ∷ is_sound (first_version waiting_day)
    ∷ is_sound (keeping [] (funded 0 0 0 0 [] (early B None (Some 36000) None TB ∷ [])))
    ∷ is_sound (keeping [] (funded 0 0 0 0 [] (early C None (Some 36000) None TC ∷ [])))
    ∷ is_sound (keeping [] (funded 0 0 0 0 [] (early E None (Some 36000) None TA ∷ [])))
    ∷ []
    ≡ true ∷ false ∷ true ∷ false ∷ true ∷ false ∷ false ∷ []
unfolding dates
versions = refl
