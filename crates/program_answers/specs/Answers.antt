-- An answer: a status and a text. The texts and answers that several programs have.
use Rattle.std.specs.Prelude.{ℕ, List, [], ◌∷◌, decimal, codes}
use Rattle.outside_io.specs.TextLine.{text_line}
use Rattle.batch_records.specs.declared.day.DayCode.{DayCode}
use Rattle.batch_records.specs.declared.day.DayCode.TheVariants as day_codes

pub record Answer : Type 0 where
  pub status : ℕ
  pub text : List ℕ

-- ---- texts

abbrev pub day_code_text : DayCode → List ℕ
day_code_text day_codes.Fields = codes "FIELDS"
day_code_text day_codes.Kind = codes "KIND"
day_code_text day_codes.Place = codes "PLACE"
day_code_text day_codes.Date = codes "DATE"
day_code_text day_codes.Closed = codes "CLOSED"
day_code_text day_codes.Name = codes "NAME"
day_code_text day_codes.Id = codes "ID"
day_code_text day_codes.Number = codes "NUMBER"
day_code_text day_codes.Amount = codes "AMOUNT"
day_code_text day_codes.Time = codes "TIME"
day_code_text day_codes.Twice = codes "TWICE"
day_code_text day_codes.Setup = codes "SETUP"
day_code_text day_codes.Limit = codes "LIMIT"
day_code_text day_codes.Cut = codes "CUT"

-- the first bad record with its code
abbrev pub refusal_text : ℕ → DayCode → List ℕ
refusal_text number code = text_line (codes "E" ∷ decimal number ∷ day_code_text code ∷ [])

-- the input is too long
abbrev pub size_text : List ℕ
size_text = text_line (codes "E" ∷ codes "0" ∷ codes "SIZE" ∷ [])

-- a text that goes wrong, with the place or the line where it does
abbrev pub illegal_text : ℕ → List ℕ
illegal_text place = text_line (codes "ILLEGAL" ∷ decimal place ∷ [])

-- that all is well, and of how many lines, messages or days
abbrev pub ok_text : ℕ → List ℕ
ok_text count = text_line (codes "OK" ∷ decimal count ∷ [])

-- ---- answers

abbrev pub done : List ℕ → Answer
done text = record { status = 0; text = text }

abbrev pub refused : ℕ → DayCode → Answer
refused number code = record { status = 3; text = refusal_text number code }

abbrev pub illegal : ℕ → Answer
illegal place = record { status = 6; text = illegal_text place }

abbrev pub too_long : Answer
too_long = record { status = 7; text = size_text }
