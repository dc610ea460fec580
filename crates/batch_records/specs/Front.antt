-- How much of a day part tells its day.
use Rattle.std.specs.Prelude.{ℕ, ◌+◌, ◌==◌, ◌||◌, ◌≡◌, ◌≤◌, Bool, false, if◌then◌else◌, List, [], ◌∷◌, length, take, IfOk}
use Rattle.csv.specs.Reading.{is_bom}
use Rattle.batch_records.specs.DayAnswers.{day_of}
use Rattle.batch_records.specs.Records.{records_of}
use Rattle.batch_records.specs.declared.front.Place.{Place}
use Rattle.batch_records.specs.declared.front.Place.TheVariants as places
use Rattle.batch_records.specs.declared.front.Spot.{Spot}

-- after a byte that stands in no quotes and is none
abbrev pub bare : ℕ → ℕ → Spot
bare c ended =
    if c == 59 then record { place = places.Start; ended = ended + 1 }
    else if (c == 13) || (c == 10) then record { place = places.Start; ended = 0 }
    else record { place = places.Bare; ended = ended }

abbrev pub moved_from : Place → ℕ → ℕ → Spot
moved_from places.Quoted ended c = if c == 34 then record { place = places.Closed; ended = ended } else record { place = places.Quoted; ended = ended }
moved_from places.Bare ended c = bare c ended
moved_from places.Start ended c = if c == 34 then record { place = places.Quoted; ended = ended } else bare c ended
moved_from places.Closed ended c = if c == 34 then record { place = places.Quoted; ended = ended } else bare c ended

-- the spot after a byte
abbrev pub moved : Spot → ℕ → Spot
moved spot c = moved_from spot.place spot.ended c

-- whether a text begins with a byte order mark
abbrev pub is_marked : List ℕ → Bool
is_marked [] = false
is_marked (a ∷ []) = false
is_marked (a ∷ b ∷ []) = false
is_marked (a ∷ b ∷ c ∷ rest) = is_bom a b c

-- so many bytes of a part have the same day, or the same first bad record; where they have a day they are all of it
pub record IsEnough (part : List ℕ) (n : ℕ) : Type 0 where
  pub within : n ≤ length part
  pub answer : day_of (records_of (take n part)) ≡ day_of (records_of part)
  pub whole : IfOk (day_of (records_of (take n part))) (λ day. take n part ≡ part)
