-- The records of a live day before its first message or stop.
use Rattle.std.specs.Prelude.{◌+◌, ◌≡◌, true, false, [], ◌∷◌, ◌++◌}
use Rattle.batch_records.specs.Made.{so_far_of}
use Rattle.batch_records.specs.Records.{Fields}
use Rattle.batch_records.specs.Step.{IsInStep}
use Rattle.batch_records.specs.declared.day.DayCode.{DayCode}
use Rattle.batch_records.specs.declared.so_far.SoFar.{SoFar}
use Rattle.record_rows.specs.Rows.{kept_row}
use Rattle.live_records.specs.Heard.{Breaks, Heard, fields_of, hear}
use Rattle.live_records.specs.Kept.{KeptIn}

-- what records come to of which none is a message or a stop
pub record IsOfSetup (s : SoFar) : Type 0 where
  pub step : IsInStep s
  pub messages : s.messages ≡ []
  pub stops : s.stops ≡ []
  pub begun : s.begun ≡ false
  pub in_batch : s.in_batch ≡ false

-- these records were heard, of which none is a message or a stop, and they come to this
pub record IsSetup (h : Heard) (s : SoFar) : Type 0 where
  pub kept : KeptIn h
  pub going : h.broken ≡ false
  pub so_far : s ≡ so_far_of (fields_of h.accepted)
  pub shut : h.batch ≡ []
  pub begun : h.begun ≡ false
  pub passing : h.passing ≡ false

-- with the record of which this is kept as much is heard as is to be heard, and nothing is called for
abbrev pub HearsSetup : Fields → SoFar → SoFar → Type 0
HearsSetup row old new = (h : Heard) (r : Fields) → row ≡ kept_row r → IsSetup h old → IsSetup (hear h r) new × ((hear h r).calls ≡ h.calls)

-- that record has this code, and ends the run
abbrev pub BreaksSetup : Fields → SoFar → DayCode → Type 0
BreaksSetup row s c = (h : Heard) (r : Fields) → row ≡ kept_row r → IsSetup h s → ((hear h r).broken ≡ true) × ((hear h r).calls ≡ h.calls ++ Breaks (h.count + 1) c ∷ [])
