-- csv's machine with semicolons between fields, and where a text leaves it.
use Rattle.std.specs.Prelude.{◌≡◌, MatchBool, ℕ, Bool, true, false, ◌==◌, ◌||◌, if◌then◌else◌, List, [], ◌∷◌, ◌++◌}
use Rattle.csv.specs.Machine.{ends_at_end, field_after, fields_after, is_end, step}
use Rattle.csv.specs.Reading.{default_config}
use Rattle.csv.specs.declared.parser.Action.{Action}
use Rattle.csv.specs.declared.parser.Action.TheVariants as actions
use Rattle.csv.specs.declared.parser.Config.{Config}
use Rattle.csv.specs.declared.parser.State.{State}
use Rattle.csv.specs.declared.parser.State.TheVariants as states
use Rattle.record_rows.specs.Rows.{Fields, kept_field, kept_row}
use Rattle.record_rows.specs.declared.machine.Action as own
use Rattle.record_rows.specs.declared.machine.Action.TheVariants as own_actions
use Rattle.record_rows.specs.declared.machine.Stage.{Stage}
use Rattle.record_rows.specs.declared.machine.Stage.TheVariants as stages

-- how records are read: semicolons between fields, and else as csv has it
abbrev pub row_config : Config
row_config = record default_config { delimiter = 59 }

-- a byte that ends a line, or is a part of its end
abbrev pub is_line_end : ℕ → Bool
is_line_end b = (b == 13) || (b == 10)

-- csv's names for where a reader stands, and for what a byte does
abbrev pub state_of : Stage → State
state_of stages.Start = states.StartRecord
state_of stages.StartBehindReturn = states.AfterCr
state_of stages.StartField = states.StartField
state_of stages.InField = states.InField
state_of stages.InQuotes = states.InQuoted
state_of stages.BehindQuote = states.AfterQuote

abbrev pub action_of : own.Action → Action
action_of own_actions.Skip = actions.Skip
action_of own_actions.Copy = actions.Copy
action_of own_actions.EndField = actions.EndField
action_of own_actions.EndRecord = actions.EndRecord

abbrev pub moves : Stage × own.Action → State × Action
moves to = (state_of to.0, action_of to.1)

-- where a reader stands: csv's state, the fields that have ended, and the bytes of the field that is open. After the end of a record
-- the fields are that record's, until a byte comes.
pub record Place : Type 0 where
  pub state : State
  pub fields : Fields
  pub field : List ℕ

-- between two records
abbrev pub is_between : State → Bool
is_between states.StartRecord = true
is_between states.AfterCr = true
is_between _ = false

-- before a text
abbrev pub at_start : Place
at_start = record { state = states.StartRecord; fields = []; field = [] }

-- a record that came whole gives way to the next one
abbrev pub opened : Place → Place
opened p = record { state = p.state; fields = if is_between p.state then [] else p.fields; field = if is_between p.state then [] else p.field }

-- what a byte with this move makes of a record
abbrev pub gone : State × Action → ℕ → Place → Place
gone to b p = record { state = to.0; fields = fields_after to.1 p.fields p.field; field = field_after to.1 b p.field }

-- where a byte leaves a reader
abbrev pub moved : ℕ → Place → Place
moved b p = gone (step row_config p.state b) b (opened p)

-- whether a byte makes a record whole
abbrev pub comes : State → ℕ → Bool
comes s b = is_end (step row_config s b).1

-- where a text leaves a reader
unfoldable pub place_after : Place → List ℕ → Place
place_after p [] = p
place_after p (b ∷ text) = place_after (moved b p) text

-- the records that come whole in a text
unfoldable pub rows_from : Place → List ℕ → List Fields
rows_from p [] = []
rows_from p (b ∷ text) = if comes p.state b then (moved b p).fields ∷ rows_from (moved b p) text else rows_from (moved b p) text

-- the record that is open where a text ends, if one is
abbrev pub open_rows : Place → List Fields
open_rows p = if ends_at_end p.state then ((opened p).fields ++ (opened p).field ∷ []) ∷ [] else []

-- what is kept of a place
abbrev pub shown : Place → Place
shown p = record { state = p.state; fields = kept_row p.fields; field = kept_field p.field }

-- the states in which a reader with no comments and no escapes may be
abbrev pub is_read : State → Bool
is_read states.InComment = false
is_read states.InEscape = false
is_read _ = true

-- a record has begun, and isn't in quotes
abbrev pub is_open : State → Bool
is_open states.StartField = true
is_open states.InField = true
is_open states.AfterQuote = true
is_open _ = false

-- whether a record was open where a text ends, and what is kept of it
abbrev pub Closes : Bool → Place → Fields → Type 0
Closes came p row = MatchBool came ((r : Fields) × (open_rows p ≡ r ∷ []) × (row ≡ kept_row r)) (open_rows p ≡ [])
