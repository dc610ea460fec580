-- What a journal has of a message that it rejects.
use Rattle.std.specs.Prelude.{ℕ, ◌≡◌, Bool, true, false, not, []}
use Rattle.commit_journal.specs.declared.line.Kind.TheVariants as kinds
use Rattle.commit_journal.specs.Line.{Line, History}
use Rattle.machine.specs.Words.{some_passes}
use Rattle.machine.specs.Telling.History.{is_ok, taken_code}
use Rattle.machine.specs.Laws.{EachLine}

-- message n is taken, with another code than OK
abbrev pub is_rejected : History → ℕ → Bool
is_rejected J n = some_passes (λ code. not (is_ok code)) (taken_code J n)

-- the line takes its message, with another code than OK, and moves nothing
abbrev pub IsRejection : Line → Type 0
IsRejection l = (l.head.kind ≡ kinds.In) × (is_ok l.head.code ≡ false) × (l.moves ≡ [])

-- each line of a message that the whole journal rejects is such a line
abbrev pub RejectedDoNothing : History → Type 0
RejectedDoNothing J = EachLine (λ l before. is_rejected J l.head.msg ≡ true → IsRejection l) J
