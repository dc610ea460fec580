-- The laws of views over texts.
use Rattle.std.specs.Prelude.{ℕ, ◌≡◌, true, List, [], ◌∷◌, ◌++◌, Ok}
use Rattle.std.specs.List.{filter_map}
use Rattle.batch_records.specs.DayRecord.{Day}
use Rattle.batch_records.specs.Sound.{is_sound}
use Rattle.batch_records.specs.Versions.{most_messages}
use Rattle.commit_journal.specs.Line.{History}
use Rattle.machine.specs.Legal.{IsLegal}
use Rattle.status_messages.specs.declared.status.Status.{Status}
use Rattle.status_messages.specs.StatusGrammar.{most_told, read_status}
use Rattle.status_messages.specs.StatusLaws.{FitsStatus}
use Rattle.status_messages.specs.Statuses.{all_statuses}
use Rattle.status_messages.specs.Telling.{statuses_text}
use Rattle.as_client.specs.Views.{text_lines, view}
use Rattle.as_client.specs.JournalViews.{view_of}
use Rattle.as_client.specs.TextViews.{told_output}

-- the statuses of no message above `most` among the lines
abbrev pub statuses_in : ℕ → List (List ℕ) → List Status
statuses_in most lines = filter_map (read_status most) lines

-- Over lines whose statuses are those of a legal journal, a party refuses none, and its report is that over the journal. Which
-- other lines stand between them makes no difference.
abbrev pub LinesAgree : Type 0
LinesAgree = (day : Day) (J : History) (name : List ℕ) (lines : List (List ℕ)) → is_sound day ≡ true → IsLegal day J →
    statuses_in (most_told day.version) lines ≡ all_statuses day J → view day lines name ≡ Ok (view_of day J name)

abbrev pub AllFit : ℕ → List Status → Type 0
AllFit most [] = Unit {0}
AllFit most (s ∷ ss) = FitsStatus most s × AllFit most ss

abbrev pub LegalStatusesFit : Type 0
LegalStatusesFit = (day : Day) (J : History) → is_sound day ≡ true → IsLegal day J → AllFit (most_messages day.version) (all_statuses day J)

-- a text of whole lines, none of which is a status of a message up to `most`
abbrev pub TellsNothing : ℕ → List ℕ → Type 0
TellsNothing most text = (rest : List ℕ) → statuses_in most (text_lines (text ++ rest)) ≡ statuses_in most (text_lines rest)

-- the view is that over the journal, whatever lines that are no statuses stand before and after its statuses
abbrev pub TextsAgree : Type 0
TextsAgree = (day : Day) (J : History) (name before after : List ℕ) → is_sound day ≡ true → IsLegal day J → TellsNothing (most_told day.version) before → TellsNothing (most_told day.version) after →
    view day (text_lines (before ++ (statuses_text day J ++ after))) name ≡ Ok (view_of day J name)

abbrev pub OutputsAgree : Type 0
OutputsAgree = (day : Day) (J : History) (name : List ℕ) → is_sound day ≡ true → IsLegal day J → view day (text_lines (told_output day J)) name ≡ Ok (view_of day J name)
