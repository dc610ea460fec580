-- A closed B batch has moved nothing.
use Rattle.std.proofs.Common.{◌≡◌, ℕ, Bool, true, false, ◌&&◌, ◌||◌, List, [], ◌∷◌, refl, subst, cond}
use Rattle.std.proofs.lemmas.Bool.{both_ways, and_parts}
use Rattle.std.specs.Prelude.{is_some, nat_eq}
use Rattle.std.proofs.lemmas.Bool.{eqb-true}
use Rattle.batch_records.specs.DayRecord.{Day}
use Rattle.commit_journal.specs.declared.line.Move.{Move}
use Rattle.commit_journal.specs.declared.line.Code.{Code}
use Rattle.commit_journal.specs.declared.line.Kind.{Kind}
use Rattle.commit_journal.specs.declared.line.Kind.TheVariants as kinds
use Rattle.commit_journal.specs.Line.{Line, History}
use Rattle.machine.specs.Records.Messages.{sort_of, is_a_or_b}
use Rattle.machine.specs.Telling.History.{is_all, is_cover, is_expire_or_refuse, is_closing_of, closed}
use Rattle.machine.specs.Stages.Phases.{phase, is_overdue}
use Rattle.machine.specs.Making.Lines.{may_lapse, fund_suffices}
use Rattle.machine.specs.Legal.{IsLegal}
use Rattle.machine.specs.Laws.{moving_lines, ClosedMovesNothing}
use Rattle.settlement_laws.proofs.Base.Made.{Made, made_facts}
use Rattle.settlement_laws.proofs.Base.PhaseLaws.{is_going, overdue_going}
use Rattle.settlement_laws.proofs.Balances.MovesOfTheDay.{refusal_going}
use Rattle.settlement_laws.proofs.Base.Counting.{newest}
use Rattle.settlement_laws.proofs.ProcedureB.WholeOrNothing.{moves_for, moving_is_whole, nothing_moved, going_unsettled}

-- the phase before a line that closes goes on
closing_going : (kind : Kind) (day : Day) (J : History) (n k : ℕ) (code : Code) (moves : List Move) → is_expire_or_refuse kind ≡ true → Made kind day J n k code moves → is_going (phase day J n) ≡ true
closing_going kinds.Expire day J n k code moves h m = overdue_going (phase day J n) (and_parts (may_lapse (sort_of day n)) (is_overdue (phase day J n)) (and_parts _ _ m.0).0).1
closing_going kinds.Refuse day J n k code moves h m = refusal_going (is_a_or_b (sort_of day n)) (phase day J n) _ (fund_suffices day J n) _ _ _ _ code m.0
closing_going _ day J n k code moves h m = cc

-- and of the same message, if the line is one
pub closes : (day : Day) (J : History) (l : Line) (n : ℕ) → Made l.head.kind day J l.head.msg l.head.entry l.head.code l.moves → is_closing_of n l ≡ true → is_going (phase day J n) ≡ true
closes day J l n m h =
    let p = and_parts (is_expire_or_refuse l.head.kind) (nat_eq l.head.msg n) h in
    subst (λ x. is_going (phase day J x) ≡ true) (eqb-true l.head.msg n p.1) (closing_going l.head.kind day J l.head.msg l.head.entry l.head.code l.moves p.0 m)

-- a line that closes is no line that settles whole
apart : (kind : Kind) (t : Bool) → (is_expire_or_refuse kind && t) ≡ true → (is_all kind || is_cover kind) ≡ true → ⊥
apart kinds.Expire t h k = both_ways false refl k
apart kinds.Refuse t h k = both_ways false refl k
apart _ t h k = both_ways false refl h

pub closed_moves_nothing : (day : Day) (J : History) → IsLegal day J → ClosedMovesNothing day J
closed_moves_nothing day [] legal n b c = refl
closed_moves_nothing day (l ∷ J) legal n b c = here (moves_for n l) refl (is_some (closed J n)) refl (closed_moves_nothing day J legal.0 n b)
  where
    m : Made l.head.kind day J l.head.msg l.head.entry l.head.code l.moves
    m = (made_facts day J l legal.1).1

    here : (t : Bool) → moves_for n l ≡ t → (s : Bool) → is_some (closed J n) ≡ s → (is_some (closed J n) ≡ true → moving_lines n J ≡ []) → cond t (l ∷ moving_lines n J) (moving_lines n J) ≡ []
    here false e true k before = before k
    here false e false k before = nothing_moved day J n legal.0 b (going_unsettled day J n b (closes day J l n m (newest (is_closing_of n) l J c k)))
    here true e true k before = absurd (both_ways (is_some (closed J n)) (moving_is_whole day J l n m b e).unclosed k)
    here true e false k before = absurd (apart l.head.kind (nat_eq l.head.msg n) (newest (is_closing_of n) l J c k) (moving_is_whole day J l n m b e).kind)
