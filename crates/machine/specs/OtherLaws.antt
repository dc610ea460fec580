-- Statements of laws that the program does not promise by name.
use Rattle.std.specs.Prelude.{ℕ, ◌+◌, ◌≤◌, ◌≡◌, ◌^◌, ◌⊎◌, Bool, true, false, not, ◌&&◌, List, ◌++◌, Some, None, nat_eq, nat_lt, take, is_some, IsSome}
use Rattle.std.specs.List.{list_all, list_any}
use Rattle.batch_records.specs.DayRecord.{Day}
use Rattle.batch_records.specs.Sound.{is_sound}
use Rattle.commit_journal.specs.declared.line.Move.{Move}
use Rattle.commit_journal.specs.declared.line.Want.{Want}
use Rattle.commit_journal.specs.declared.line.Want.TheVariants as wants
use Rattle.commit_journal.specs.Line.{Line, History}
use Rattle.commit_journal.specs.Histories.{Begins}
use Rattle.machine.specs.declared.answers.Item.{Item}
use Rattle.machine.specs.declared.answers.Phase.TheVariants as phases
use Rattle.cash_amounts.specs.declared.records.Procedure.TheVariants.{B}
use Rattle.machine.specs.Words.{some_passes, is_technical, same_procedure}
use Rattle.machine.specs.Records.Setup.{account_at, opening}
use Rattle.machine.specs.Records.Messages.{sort_of, is_a}
use Rattle.machine.specs.Telling.History.{is_time, covered, is_ended, is_accepted}
use Rattle.machine.specs.Telling.Balances.{credits, debits, credited, debited, balance}
use Rattle.machine.specs.Telling.Facts.{round}
use Rattle.machine.specs.Stages.Phases.{phase}
use Rattle.machine.specs.Stages.Pending.{is_pending, standing, first_unbooked_debit}
use Rattle.machine.specs.Making.Lines.{line_of, is_ready}
use Rattle.machine.specs.Making.FirstReady.{first_ready}
use Rattle.machine.specs.Legal.{IsLegal, want_of, is_complete, moves_in_order}
use Rattle.machine.specs.Making.Accounts.{accounts_of_want}
use Rattle.machine.specs.Orders.Order.{scan, quiet, is_past, to_round, to_end, plain}
use Rattle.machine.specs.Laws.{Laws}

-- an A batch whose debits are booked, or that the fund covers, is settled when time passes
abbrev pub SettlesInTime : Day → Line → History → Type 0
SettlesInTime day l J = is_time l.head.kind ≡ true → (n : ℕ) → is_a (sort_of day n) ≡ true → is_accepted J n ≡ true →
    (first_unbooked_debit day J n ≡ None) ⊎ (is_some (covered J n) ≡ true) → phase day J n ≡ phases.Settled

abbrev pub is_work : Want → Bool
is_work (wants.In n) = false
is_work wants.Time = false
is_work wants.End = false
is_work _ = true

abbrev pub NoneIsReady : Day → History → Type 0
NoneIsReady day J = is_ready day J ≡ false → (want : Want) → is_work want ≡ true → line_of day J want ≡ None

-- what is ready first is such a want, and has a line
abbrev pub FirstReadyHasALine : Day → History → Type 0
FirstReadyHasALine day J = is_ready day J ≡ true → is_ended J ≡ false →
    (want : Want) × (first_ready day J ≡ Some want) × (is_work want ≡ true) × IsSome (line_of day J want)

abbrev pub PlacesDiffer : Day → History → Type 0
PlacesDiffer day J = (x y : Item) → is_pending day J x ≡ true → is_pending day J y ≡ true →
    (standing day J x).active ≡ (standing day J y).active → (standing day J x).intake ≡ (standing day J y).intake → (standing day J x).entry ≡ (standing day J y).entry → x ≡ y

abbrev pub EveryLegalHistoryKeepsTheLaws : Type 0
EveryLegalHistoryKeepsTheLaws = (day : Day) (J : History) → is_sound day ≡ true → IsLegal day J → Laws day J

-- the journal without workers is legal and complete: its fuel suffices
abbrev pub PlainEnds : Type 0
PlainEnds = (day : Day) → is_sound day ≡ true → IsLegal day (plain day) × (is_complete (plain day) ≡ true)

-- no scan adds a line after the scans
abbrev pub ScansStop : Type 0
ScansStop = (day : Day) (J : History) → is_sound day ≡ true → IsLegal day J → scan day (quiet day J) ≡ quiet day J

-- the next round, or the end of the day
abbrev pub RoundEnds : Type 0
RoundEnds = (day : Day) (J : History) → is_sound day ≡ true → IsLegal day J →
    IsLegal day (to_round day J) × Begins J (to_round day J) × (is_past day (round day J) (to_round day J) ≡ true)

abbrev pub DayEnds : Type 0
DayEnds = (day : Day) (J : History) → is_sound day ≡ true → IsLegal day J →
    IsLegal day (to_end day J) × Begins J (to_end day J) × (is_complete (to_end day J) ≡ true)

abbrev pub is_among : List ℕ → ℕ → Bool
is_among these a = list_any (λ b. nat_eq b a) these

abbrev pub moves_among : List ℕ → List Move → Bool
moves_among these moves = list_all (λ (m : Move). is_among these m.debit && is_among these m.credit) moves

abbrev pub TouchesItsAccounts : Day → Line → History → Type 0
TouchesItsAccounts day l J = moves_among (accounts_of_want day (want_of l)) l.moves ≡ true

abbrev pub is_real : Move → Bool
is_real m = not (nat_eq m.debit m.credit) && nat_lt 0 m.amount

abbrev pub MovesAreReal : Line → History → Type 0
MovesAreReal l J = list_all is_real l.moves ≡ true

abbrev pub is_b_account : Day → ℕ → Bool
is_b_account day a = some_passes (λ r. is_technical r.kind && some_passes (λ p. same_procedure p B) r.procedure) (account_at day a)

abbrev pub TechnicalOfBIsEmpty : Day → History → Type 0
TechnicalOfBIsEmpty day J = (a : ℕ) → is_b_account day a ≡ true → balance day J a ≡ 0

abbrev pub CatchesUp : Day → History → History → Type 0
CatchesUp day old later = (a : ℕ) →
    (credited (later ++ old) a ≡ credited old a + credits a (moves_in_order later))
    × (debited (later ++ old) a ≡ debited old a + debits a (moves_in_order later))

-- the same of balances, which no legal history lets fall below zero
abbrev pub BalancesCatchUp : Day → History → History → Type 0
BalancesCatchUp day old later = (a : ℕ) → balance day (later ++ old) a + debits a (moves_in_order later) ≡ balance day old a + credits a (moves_in_order later)

abbrev pub StaysInRange : Day → History → History → Type 0
StaysInRange day old later = (a i : ℕ) →
    (debited old a + debits a (take i (moves_in_order later)) ≤ (opening day a + credited old a) + credits a (take i (moves_in_order later)))
    × ((opening day a + credited old a) + credits a (take i (moves_in_order later)) ≤ 10 ^ 18 + (debited old a + debits a (take i (moves_in_order later))))
