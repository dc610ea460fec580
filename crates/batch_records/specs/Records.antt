-- The records of a day part, as `csv` reads them.
use Rattle.std.specs.Prelude.{ℕ, List, [], get_or, take}
use Rattle.csv.specs.Reading.{default_config, records, strip_bom}
use Rattle.csv.specs.declared.parser.Config.{Config}
use Rattle.batch_records.specs.DayPart.{day_len}

-- the fields of a record
abbrev pub Fields : Type 0
Fields = List (List ℕ)

-- the field at a place from 0, empty where there is none
abbrev pub field : Fields → ℕ → List ℕ
field r i = get_or r i []

-- semicolons between fields
abbrev pub day_config : Config
day_config = record default_config { delimiter = 59 }

-- every record of a text, after a byte order mark if it has one
abbrev pub records_of : List ℕ → List Fields
records_of text = records day_config (strip_bom text)

-- the records of the day part of an input
abbrev pub day_records : List ℕ → List Fields
day_records input = records_of (take (day_len input) input)
