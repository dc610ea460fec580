-- What the records of a live day have come to.
use Rattle.std.specs.Prelude.{◌≡◌, true, List}
use Rattle.batch_records.specs.Records.{Fields}
use Rattle.live_records.specs.Heard.{heard}
use Rattle.live_records.specs.Setups.{IsOfSetup, IsSetup}
use Rattle.live_records.specs.declared.setup.Setup.{Setup}
use Rattle.live_day.specs.Rooms.{AreRooms}
use Rattle.live_day.specs.Working.{IsAtWork}
use Rattle.live_day.specs.declared.rooms.Rooms.{Rooms}
use Rattle.live_day.specs.declared.stage.Stage.{Stage}
use Rattle.live_day.specs.declared.stage.Stage.TheVariants as stages

-- none was a message or a stop, and there is room for the greatest day
pub record IsEarly (records : List Fields) (setup : Setup) (rooms : Rooms) : Type 0 where
  pub heard : IsSetup (heard records) setup.so_far
  pub of_setup : IsOfSetup setup.so_far
  pub room : AreRooms rooms

-- These records were heard, and all is made and told that they call for: none was a message or a stop; the day has begun; or a bad
-- record ended the run.
abbrev pub IsAt : Stage → List Fields → Type 0
IsAt (stages.Early setup rooms) records = IsEarly records setup rooms
IsAt (stages.Late work) records = IsAtWork records work × (work.ear.begun ≡ true)
IsAt stages.Over records = (heard records).broken ≡ true

-- the setup is over, as the next record is one of a message or a stop, or the day is over
abbrev pub IsReady : Stage → List Fields → Type 0
IsReady (stages.Early setup rooms) records = IsEarly records setup rooms × (setup.so_far.started ≡ true)
IsReady _ records = ⊥

-- the day is at work
abbrev pub IsOpened : Stage → List Fields → Type 0
IsOpened (stages.Late work) records = IsAtWork records work
IsOpened _ records = ⊥
