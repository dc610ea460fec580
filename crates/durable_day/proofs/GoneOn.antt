-- How a journal goes on to the end of the day.
use Rattle.std.proofs.Common.{◌≡◌, ℕ, suc, ◌+◌, ◌-◌, ◌≤◌, Bool, true, false, [], ◌∷◌, List, length, drop, Option, Some, None, is_some, refl, sym, ap, ◌∙◌, arith}
use Rattle.std.specs.Option.{option_or}
use Rattle.std.proofs.lemmas.Bool.{false≢true}
use Rattle.batch_records.specs.DayRecord.{Day}
use Rattle.batch_records.specs.Sound.{is_sound}
use Rattle.commit_journal.specs.declared.line.Want.{Want}
use Rattle.commit_journal.specs.Line.{Line, History}
use Rattle.commit_journal.specs.Histories.{Begins, oldest}
use Rattle.machine.specs.Orders.Bounds.{left}
use Rattle.machine.specs.Telling.History.{ended, is_end, is_ended, place_of}
use Rattle.machine.specs.Words.{when}
use Rattle.machine.specs.Legal.{IsLegal, is_complete}
use Rattle.machine.specs.Making.Lines.{line_of}
use Rattle.machine.specs.Orders.Order.{append, with_line}
use Rattle.settlement_laws.proofs.Base.Growing.{Grows, Runs, grows-append, grows-until, until-next, until-over, until-stops}
use Rattle.settlement_laws.proofs.DayEnd.PlainRuns.{ended-complete}
use Rattle.durable_day.specs.Bytes.{StandsFor}
use Rattle.durable_day.specs.Onward.{StandsOnTheWay, gone_on, next_want, with_next}
use Rattle.durable_day.proofs.OnwardFacts.{next_has_line}

-- ---- a line more

pub appended : (day : Day) (J : History) (w : Want) (l : Line) → line_of day J w ≡ Some l → append day J w ≡ l ∷ J
unfolding append
appended day J w l h = ap (λ o. with_line o J) h

pub some_line : (day : Day) (J : History) (w : Want) → is_some (line_of day J w) ≡ true → (l : Line) × (line_of day J w ≡ Some l)
some_line day J w h = here (line_of day J w) h
  where
    here : (o : Option Line) → is_some o ≡ true → (l : Line) × (o ≡ Some l)
    here (Some l) h = (l, refl)
    here None h = absurd (false≢true h)

pub runs-next : (day : Day) → is_sound day ≡ true → Runs day is_ended (with_next day)
runs-next day sound = record {
  grows = λ K. grows-append day K (next_want day K);
  moves = λ K legal e.
      let line = some_line day K (next_want day K) (next_has_line day K sound legal e) in
      omega (arith, ap length (appended day K (next_want day K) line.0 line.1));
}

pub gone_over : (day : Day) (J : History) → is_ended J ≡ true → gone_on day J ≡ J
unfolding gone_on
gone_over day J e = until-over is_ended (with_next day) (left day J) J e

pub gone_next : (day : Day) (J : History) → is_sound day ≡ true → IsLegal day J → is_ended J ≡ false → gone_on day J ≡ gone_on day (with_next day J)
unfolding gone_on
gone_next day J sound legal e = until-next day sound is_ended (with_next day) (runs-next day sound) J legal e

pub grows-gone_on : (day : Day) (J : History) → Grows day J (gone_on day J)
unfolding gone_on
grows-gone_on day J = grows-until day is_ended (with_next day) (λ K. grows-append day K (next_want day K)) (left day J) J

pub gone_ended : (day : Day) (J : History) → is_sound day ≡ true → IsLegal day J → is_ended (gone_on day J) ≡ true
unfolding gone_on
gone_ended day J sound legal = until-stops day sound is_ended (with_next day) (runs-next day sound) (left day J) J legal (omega arith)

pub gone_complete : (day : Day) (J : History) → is_sound day ≡ true → IsLegal day J → is_complete (gone_on day J) ≡ true
gone_complete day J sound legal = ended-complete day (gone_on day J) ((grows-gone_on day J).legal legal) (gone_ended day J sound legal)

-- ---- the newest line

pub line_last : (J rest : History) (m : Line) (place : ℕ) → place ≡ length J → oldest J place ≡ m ∷ rest → J ≡ m ∷ rest
line_last J rest m place at h =
    let none : length J - place ≡ 0 = omega (arith, at) in
    sym (ap (λ k. drop k J) none) ∙ h

or_some : (o : Option ℕ) (b : Bool) (n : ℕ) → b ≡ true → is_some (option_or o (when b n)) ≡ true
or_some (Some i) b n h = refl
or_some None true n h = refl
or_some None false n h = absurd (false≢true h)

complete_is : (J : History) → is_complete J ≡ true → is_ended J ≡ true
unfolding place_of
complete_is [] h = absurd (false≢true h)
complete_is (l ∷ J) h = or_some (ended J) (is_end l.head.kind) (suc (length J)) h

-- a legal journal has its End line last
pub ends_last : (day : Day) (J : History) → IsLegal day J → is_complete J ≡ is_ended J
ends_last day J legal = here (is_complete J) (is_ended J) (complete_is J) (ended-complete day J legal)
  where
    here : (a b : Bool) → (a ≡ true → b ≡ true) → (b ≡ true → a ≡ true) → a ≡ b
    here true b to from = sym (to refl)
    here false true to from = from refl
    here false false to from = refl

-- ---- on the way

pub begins_same : (J : History) → Begins J J
begins_same J = ([], refl)

pub begins_more : (J K : History) (l : Line) → Begins J K → Begins J (l ∷ K)
begins_more J K l b = (l ∷ b.0, ap (λ (H : History). l ∷ H) b.1)

pub on_the_way : (day : Day) (J K : History) (lines : ℕ) (c : List ℕ) → IsLegal day K → Begins J K → gone_on day K ≡ gone_on day J → length J + lines ≤ length K → StandsFor K c → StandsOnTheWay day J lines c
on_the_way day J K lines c legal from same count stands =
    let to = (grows-gone_on day K).beginning in
    record { journal = K; legal = legal; from = from; to = (to.0, sym same ∙ to.1); count = count; stands = stands }
