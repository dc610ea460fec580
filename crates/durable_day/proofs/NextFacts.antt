-- What the answers of a floor tell of the next want.
use Rattle.std.proofs.Common.{◌≡◌, ℕ, Bool, true, false, Option, Some, None, is_some, is_none, refl, sym, ap, subst, ◌∙◌}
use Rattle.std.specs.Prelude.{if◌then◌else◌, nat_lt}
use Rattle.std.proofs.lemmas.Bool.{false≢true}
use Rattle.period_calendar.specs.declared.time.TheConstants.{MIDNIGHT}
use Rattle.batch_records.specs.DayRecord.{Day}
use Rattle.batch_records.specs.Sound.{is_sound}
use Rattle.commit_journal.specs.declared.line.Want.{Want}
use Rattle.commit_journal.specs.declared.line.Want.TheVariants as wants
use Rattle.commit_journal.specs.Line.{History, Line}
use Rattle.machine.specs.declared.answers.Why.{Why}
use Rattle.machine.specs.Telling.Facts.{untaken_reached}
use Rattle.machine.specs.Telling.History.{clock, is_ended}
use Rattle.machine.specs.Legal.{IsLegal}
use Rattle.machine.specs.Making.Lines.{line_of}
use Rattle.machine.specs.Making.FirstReady.{first_ready}
use Rattle.machine.specs.Making.Reasons.{why_of}
use Rattle.machine.specs.Orders.Order.{time_want}
use Rattle.settlement_laws.proofs.Wants.ReasonsMatchLines.{complement}
use Rattle.settle_floor.specs.NextLines.{MakesReady}
use Rattle.durable_day.specs.Onward.{IsMade, next_want}
use Rattle.durable_day.proofs.OnwardFacts.{next_has_line, next_is}

-- a want that has a line isn't refused
pub refused_none : (day : Day) (J : History) (w : Want) (why : Why) → why_of day J w ≡ Some why → is_some (line_of day J w) ≡ true → ⊥
refused_none day J w why h made = never (line_of day J w) made (sym (complement day J w) ∙ ap is_some h)
  where
    never : (o : Option Line) → is_some o ≡ true → is_none o ≡ true → ⊥
    never None h k = false≢true h
    never (Some l) h k = false≢true k

pub made_as : (day : Day) (J K : History) (v w : Want) (later : History) (place : ℕ) → K ≡ J → v ≡ w → IsMade day K v later place → IsMade day J w later place
made_as day J K v w later place same is made = subst (λ (u : Want). IsMade day J u later place) is (subst (λ (H : History). IsMade day H v later place) same made)

-- the next want has a line
pub told_line : (day : Day) (J K : History) (v : Want) → is_sound day ≡ true → IsLegal day J → K ≡ J → is_ended J ≡ false → v ≡ next_want day J → is_some (line_of day K v) ≡ true
told_line day J K v sound legal same e is =
    subst (λ (H : History). is_some (line_of day H v) ≡ true) (sym same) (subst (λ (u : Want). is_some (line_of day J u) ≡ true) (sym is) (next_has_line day J sound legal e))

-- ---- which it is

pub next_taken : (day : Day) (J : History) (n : ℕ) → Some n ≡ untaken_reached day J → wants.In n ≡ next_want day J
next_taken day J n u = sym (next_is day J (Some n) (first_ready day J) (sym u) refl)

-- the line of the first want that is ready
pub next_ready : (day : Day) (J later : History) (place : ℕ) → untaken_reached day J ≡ None → MakesReady day J later (Some place) → IsMade day J (next_want day J) later place
next_ready day J later place u m = subst (λ (w : Want). IsMade day J w later place) (sym (next_is day J None (Some m.0) u m.1)) m.2

-- where nothing is ready
pub next_time : (day : Day) (J K : History) (v : Want) → untaken_reached day J ≡ None → first_ready day J ≡ None → K ≡ J → v ≡ time_want K → v ≡ next_want day J
next_time day J K v u f same is = is ∙ ap time_want same ∙ sym (next_is day J None None u f)

-- ---- what the next time tells of the clock

shown : (b : Bool) (t : Option ℕ) (x : ℕ) → t ≡ (if b then Some x else None) → is_some t ≡ b
shown true t x h = ap is_some h
shown false t x h = ap is_some h

pub time_told : (J : History) (t : Option ℕ) (x : ℕ) (b : Bool) → t ≡ (if nat_lt (clock J) MIDNIGHT then Some x else None) → is_some t ≡ b → (if b then wants.Time else wants.End) ≡ time_want J
time_told J t x b h some = ap (λ (c : Bool). if c then wants.Time else wants.End) (sym some ∙ shown (nat_lt (clock J) MIDNIGHT) t x h)
