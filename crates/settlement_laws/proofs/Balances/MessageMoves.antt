-- The moves of a message, by account; those of a closed A batch cancel.
use Rattle.std.proofs.Common.{◌≡◌, ℕ, ◌+◌, Bool, true, false, not, ◌&&◌, List, [], ◌∷◌, refl, sym, ◌∙◌, arith, cond}
use Rattle.std.specs.Prelude.{nat_eq, if◌then◌else◌, flat_map}
use Rattle.batch_records.specs.DayRecord.{Day}
use Rattle.commit_journal.specs.declared.line.Move.{Move}
use Rattle.commit_journal.specs.Line.{Line, History}
use Rattle.machine.specs.Words.{is_empty}
use Rattle.machine.specs.Records.Messages.{sort_of}
use Rattle.machine.specs.Telling.Balances.{credits, debits}
use Rattle.machine.specs.Legal.{IsLegal}
use Rattle.machine.specs.Laws.{moving_lines, moves_of_message, ClosedCancels}
use Rattle.machine.proofs.SortFacts.{a_is}
use Rattle.settlement_laws.proofs.ProcedureB.WholeIsCovered.{debits-append, credits-append}
use Rattle.settlement_laws.proofs.Base.LinesOf.{credited_by, debited_by, is_of}
use Rattle.settlement_laws.proofs.Balances.EntryMoves.{}
use Rattle.settlement_laws.proofs.ProcedureA.CancelsOfA.{}
use Rattle.settlement_laws.proofs.ProcedureA.CancelsOfA.{cancelled}

-- ---- the moves of a message

message_credits : (n a : ℕ) (J : History) → credits a (moves_of_message n J) ≡ credited_by (is_of n) J a
message_credits n a [] = refl
message_credits n a (l ∷ J) = here (nat_eq l.head.msg n) (is_empty l.moves) refl (message_credits n a J)
  where
    bare : (moves : List Move) → is_empty moves ≡ true → credits a moves ≡ 0
    bare [] h = refl
    bare (m ∷ moves) h = cc

    here : (b e : Bool) → is_empty l.moves ≡ e → credits a (moves_of_message n J) ≡ credited_by (is_of n) J a → credits a (flat_map (λ (l : Line). l.moves) (cond (b && not e) (l ∷ moving_lines n J) (moving_lines n J))) ≡ credited_by (is_of n) J a + (if b then credits a l.moves else 0)
    here true true q k = let z = bare l.moves q in omega arith
    here true false q k = let z = credits-append a l.moves (moves_of_message n J) in omega arith
    here false e q k = omega arith

message_debits : (n a : ℕ) (J : History) → debits a (moves_of_message n J) ≡ debited_by (is_of n) J a
message_debits n a [] = refl
message_debits n a (l ∷ J) = here (nat_eq l.head.msg n) (is_empty l.moves) refl (message_debits n a J)
  where
    bare : (moves : List Move) → is_empty moves ≡ true → debits a moves ≡ 0
    bare [] h = refl
    bare (m ∷ moves) h = cc

    here : (b e : Bool) → is_empty l.moves ≡ e → debits a (moves_of_message n J) ≡ debited_by (is_of n) J a → debits a (flat_map (λ (l : Line). l.moves) (cond (b && not e) (l ∷ moving_lines n J) (moving_lines n J))) ≡ debited_by (is_of n) J a + (if b then debits a l.moves else 0)
    here true true q k = let z = bare l.moves q in omega arith
    here true false q k = let z = debits-append a l.moves (moves_of_message n J) in omega arith
    here false e q k = omega arith

pub closed_cancels : (day : Day) (J : History) → IsLegal day J → ClosedCancels day J
closed_cancels day J legal n a s z = message_credits n a J ∙ cancelled day n a (a_is (sort_of day n) s) J legal z ∙ sym (message_debits n a J)
