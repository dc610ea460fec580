-- Answers that are written.
use Rattle.std.proofs.Common.{◌≡◌, ℕ, List, Result, Ok, Err, sym, subst, inl, inr}
use Rattle.outside_io.specs.Pieces.{SinkState}
use Rattle.outside_io.specs.Calls.{Puts}
use Rattle.program_answers.specs.Answers.{Answer}
use Rattle.program_answers.specs.Giving.{Says, SaysIfRoom, status_after}

-- a text that is written is said
pub says : {T E : Type 0} (old new : SinkState) (text : List ℕ) (status end : ℕ) (result : Result T E) → Puts old new text result → end ≡ status_after status result →
    Says old new (record { status = status; text = text }) end
says old new text status end (Ok value) put is = inl (is, put.ok)
says old new text status end (Err fault) put is = inr (is, put.err)

-- what is said of an answer is said of one that is the same
pub said_same : {S : Type 0} (state : S → SinkState) (a b : Answer) (old new : S) (status : ℕ) → a ≡ b → SaysIfRoom state old new b status → SaysIfRoom state old new a status
said_same state a b old new status e s = subst (λ x. SaysIfRoom state old new x status) (sym e) s
