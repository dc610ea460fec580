-- What is told of the place at which a journal goes wrong.
use Rattle.std.specs.Prelude.{ℕ, suc, List, [], ◌∷◌, ◌++◌, Option, Some, None, length, decimal, codes, option_map}
use Rattle.outside_io.specs.TextLine.{text_line}
use Rattle.batch_records.specs.DayRecord.{Day}
use Rattle.batch_records.specs.Versions.{most_messages}
use Rattle.commit_journal.specs.declared.line.Want.{Want}
use Rattle.commit_journal.specs.Line.{History}
use Rattle.commit_journal.specs.LineGrammar.{read_line}
use Rattle.commit_journal.specs.Text.{line_text}
use Rattle.machine.specs.declared.answers.Why.{Why}
use Rattle.machine.specs.Making.Lines.{made}
use Rattle.machine.specs.Making.Reasons.{why_of}
use Rattle.machine.specs.Legal.{want_of}
use Rattle.day_reasons.specs.Reasons.{reason_fields}

-- the fields in front: `ILLEGAL`, and the place
abbrev pub head_at : ℕ → List ℕ
head_at place = codes "ILLEGAL;" ++ decimal place

-- the place is the one after these lines
abbrev pub wrong_head : History → List ℕ
wrong_head J = head_at (suc (length J))

-- why the machine makes no line of the want that stands there; or that it makes another line, and this line
abbrev pub wrong_want : Day → History → Want → Option Why → List ℕ
wrong_want day J want (Some why) = text_line (wrong_head J ∷ reason_fields day J want why)
wrong_want day J want None = text_line (wrong_head J ∷ codes "OTHER" ∷ []) ++ line_text (suc (length J)) (made day J want)

-- or that the bytes there are no line at all
abbrev pub wrong_there : Day → History → Option Want → List ℕ
wrong_there day J None = text_line (wrong_head J ∷ codes "TEXT" ∷ [])
wrong_there day J (Some want) = wrong_want day J want (why_of day J want)

-- the want of the line of a place with which bytes begin
abbrev pub want_at : Day → ℕ → List ℕ → Option Want
want_at day place bytes = option_map (λ read. want_of read.0) (read_line (most_messages day.version) place bytes)

-- of the bytes behind the machine's lines
unfoldable pub wrong_text : Day → History → List ℕ → List ℕ
wrong_text day J behind = wrong_there day J (want_at day (suc (length J)) behind)
