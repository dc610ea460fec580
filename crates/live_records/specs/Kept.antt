-- What holds of the records that were accepted.
use Rattle.std.specs.Prelude.{◌≡◌, ◌++◌, Bool, true, List, []}
use Rattle.std.specs.List.{list_any}
use Rattle.batch_records.specs.Days.{bad_records}
use Rattle.batch_records.specs.Made.{ends_in_batch, is_day, is_late, so_far_of}
use Rattle.batch_records.specs.Records.{Fields}
use Rattle.batch_records.specs.Step.{IsInStep}
use Rattle.live_records.specs.Heard.{Heard, Numbered, fields_of, is_some_of}

-- records that have no code, one after the other
pub record AreFine (rows : List Fields) : Type 0 where
  pub fine : bad_records rows ≡ []
  pub step : IsInStep (so_far_of rows)

-- what holds of the accepted records, and those of the open batch
pub record Kept (accepted : List Numbered) (batch : List Numbered) (begun : Bool) : Type 0 where
  pub day : AreFine (fields_of accepted)
  pub all : AreFine (fields_of (accepted ++ batch))
  pub late : list_any is_late (fields_of (accepted ++ batch)) ≡ true → begun ≡ true
  pub batched : is_some_of batch ≡ true → ends_in_batch (fields_of (accepted ++ batch)) ≡ true
  pub started : begun ≡ true → list_any is_day (fields_of accepted) ≡ true

abbrev pub KeptIn : Heard → Type 0
KeptIn h = Kept h.accepted h.batch h.begun
