-- What the text of an output says by itself, as statements.
use Rattle.std.specs.Prelude.{◌≡◌, ℕ, List, true, Ok}
use Rattle.batch_records.specs.DayRecord.{Day}
use Rattle.batch_records.specs.Sound.{is_sound}
use Rattle.commit_journal.specs.Line.{History}
use Rattle.commit_journal.specs.TypedLines.{AreTyped}
use Rattle.machine.specs.Legal.{IsLegal}
use Rattle.as_client.specs.JournalViews.{view_of}
use Rattle.as_client.specs.Views.{text_lines, view}
use Rattle.rtgs_engine.specs.Outputs.{output}

-- Two lists of lines whose outputs over a day are the same text are one list, whatever the day, and legal or not. Their
-- numbers are such as a line in hand can have.
abbrev pub OutputsTell : Type 0
OutputsTell = (day : Day) (J K : History) → AreTyped J → AreTyped K → output day J ≡ output day K → J ≡ K

-- The view of a party over the lines of an output is the report over the journal, whatever the name: what a bank keeps of
-- the written text alone is what the journal says of it.
abbrev pub ViewsOfOutputs : Type 0
ViewsOfOutputs = (day : Day) (J : History) (name : List ℕ) → is_sound day ≡ true → IsLegal day J → view day (text_lines (output day J)) name ≡ Ok (view_of day J name)
