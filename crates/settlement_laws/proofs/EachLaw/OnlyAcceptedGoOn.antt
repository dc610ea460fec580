-- Of a message that isn't accepted there is no line but its In line, and none of one that is settled, revoked or closed.
use Rattle.std.proofs.Common.{◌≡◌, ℕ, Bool, true, false, ◌&&◌, not, List, [], ◌∷◌, refl}
use Rattle.std.proofs.lemmas.Bool.{and_parts}
use Rattle.batch_records.specs.DayRecord.{Day}
use Rattle.commit_journal.specs.declared.line.Move.{Move}
use Rattle.commit_journal.specs.declared.line.Code.{Code}
use Rattle.commit_journal.specs.declared.line.Kind.{Kind}
use Rattle.commit_journal.specs.declared.line.Kind.TheVariants as kinds
use Rattle.commit_journal.specs.Line.{History}
use Rattle.machine.specs.declared.answers.Phase.{Phase}
use Rattle.machine.specs.declared.answers.Phase.TheVariants as phases
use Rattle.machine.specs.Records.Messages.{sort_of, is_a_or_b, is_b}
use Rattle.machine.specs.Telling.History.{is_accepted}
use Rattle.machine.specs.Stages.Phases.{phase, is_overdue, is_answered}
use Rattle.machine.specs.Stages.Pending.{is_pending, pending_as}
use Rattle.machine.specs.Making.Lines.{may_lapse, fund_suffices}
use Rattle.machine.specs.Legal.{IsLegal}
use Rattle.machine.specs.Laws.{is_done, is_further, OnlyAcceptedGoOn}
use Rattle.settlement_laws.proofs.Balances.MovesOfTheDay.{pending_going, refusal_going}
use Rattle.settlement_laws.proofs.Base.Made.{Made, made_facts}
use Rattle.settlement_laws.proofs.Base.PhaseLaws.{is_going, going_accepted, overdue_going, answered_going}

-- each line of a message after its In line asks for a phase from Covered on
pub line_going : (kind : Kind) (day : Day) (J : History) (n k : ℕ) (code : Code) (moves : List Move) → is_further kind ≡ true → Made kind day J n k code moves → is_going (phase day J n) ≡ true
unfolding is_pending
line_going kinds.Book day J n k code moves f m =
    pending_going (sort_of day n) day J n k (phase day J n) (and_parts (pending_as (sort_of day n) day J n k (phase day J n)) (not (is_b (sort_of day n))) (and_parts _ _ m.0).0).0
line_going kinds.All day J n k code moves f m =
    pending_going (sort_of day n) day J n 0 (phase day J n) (and_parts (is_b (sort_of day n)) (pending_as (sort_of day n) day J n 0 (phase day J n)) (and_parts _ _ (and_parts _ _ m.0).0).0).1
line_going kinds.Expire day J n k code moves f m = overdue_going (phase day J n) (and_parts (may_lapse (sort_of day n)) (is_overdue (phase day J n)) (and_parts _ _ m.0).0).1
line_going kinds.Ask day J n k code moves f m = overdue_going (phase day J n) (and_parts (is_a_or_b (sort_of day n)) (is_overdue (phase day J n)) (and_parts _ _ (and_parts _ _ m.0).0).0).1
line_going kinds.Cover day J n k code moves f m = answered_going (phase day J n) (and_parts (is_a_or_b (sort_of day n)) (is_answered (phase day J n)) (and_parts _ _ (and_parts _ _ m.0).0).0).1
line_going kinds.Refuse day J n k code moves f m = refusal_going (is_a_or_b (sort_of day n)) (phase day J n) _ (fund_suffices day J n) _ _ _ _ code m.0
line_going _ day J n k code moves f m = cc

going_undone : (p : Phase) → is_going p ≡ true → is_done p ≡ false
going_undone phases.Settled h = cc
going_undone phases.Revoked h = cc
going_undone phases.Closed h = cc
going_undone _ h = refl

line_goes_on : (kind : Kind) (day : Day) (J : History) (n k : ℕ) (code : Code) (moves : List Move) → is_further kind ≡ true → Made kind day J n k code moves → (is_accepted J n ≡ true) × (is_done (phase day J n) ≡ false)
line_goes_on kind day J n k code moves f m =
    let going = line_going kind day J n k code moves f m in
    (going_accepted day J n going, going_undone (phase day J n) going)

pub only_accepted_go_on : (day : Day) (J : History) → IsLegal day J → OnlyAcceptedGoOn day J
only_accepted_go_on day [] legal = tt
only_accepted_go_on day (l ∷ J) legal = (only_accepted_go_on day J legal.0, λ f. line_goes_on l.head.kind day J _ _ _ _ f (made_facts day J l legal.1).1)
