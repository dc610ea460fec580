-- A sink that compares what is written with a text, and hands on what goes beyond it.
use Rattle.std.specs.Prelude.{ℕ, ◌+◌, ◌-◌, ◌==◌, Bool, true, false, ◌&&◌, nat_eq, if◌then◌else◌, List, [], ◌∷◌, length, drop, get_or, Option, Some, None}
use Rattle.std.specs.List.{count_by, starts_with}
use Rattle.std.specs.Borrow.{GName}
use Rattle.std.specs.Coded.{Unit-prop}
use Rattle.std.specs.Io.KnownBytes.{Appends}
use Rattle.std.proofs.Props.{props}
use Rattle.live_day.specs.Resumed.{other_line}
use Rattle.outside_io.specs.Pieces.{Moment, Reading, SinkState}

-- how many bytes at the front of two texts are the same
unfoldable pub common : List ℕ → List ℕ → ℕ
common [] text = 0
common (b ∷ wanted) [] = 0
common (b ∷ wanted) (c ∷ text) = if b == c then common wanted text + 1 else 0

-- a byte differs before one of two texts ends
unfoldable pub differ : List ℕ → List ℕ → Bool
differ [] text = false
differ (b ∷ wanted) [] = false
differ (b ∷ wanted) (c ∷ text) = if b == c then differ wanted text else true

-- what goes beyond a text that another one begins with
abbrev pub beyond : List ℕ → List ℕ → List ℕ
beyond wanted text = if starts_with nat_eq text wanted then drop (length wanted) text else []

-- ---- the state of such a sink

-- what a port's moments are told after the one that says what is compared
abbrev pub marked : Option (List Moment) → List Moment
marked None = []
marked (Some moments) = record { left = None; written = None } ∷ moments

-- What no write changes: what can be read from below, the text that is compared with, and what had been written below when it began.
abbrev pub compares : List ℕ → Option (List ℕ) → Reading → Reading
compares wanted first below = record below { moments = Some (record { left = Some wanted; written = first } ∷ marked below.moments) }

-- All that was written to it is told. What it keeps back is held in front of the sink below. Its last write failed where it was handed on
-- and failed there.
abbrev pub comparing : GName → List ℕ → Option (List ℕ) → List ℕ → Bool → SinkState → SinkState
comparing through wanted first text failed below = record {
  written = Some text;
  faults = below.faults;
  failed = failed && (starts_with nat_eq text wanted && below.failed);
  sure = below.sure;
  layers = record { through = through; held = length text - length (beyond wanted text) } ∷ below.layers;
  reading = compares wanted first below.reading;
}

-- where a text stands after one more byte, of one that hasn't gone beyond the other yet
abbrev pub next_place : List ℕ → ℕ → Bool → ℕ → ℕ × Bool
next_place wanted at differs byte = if differs then (at, true) else if get_or wanted at 0 == byte then (at + 1, false) else (at, true)

pub Appends-prop : (old new : Option (List ℕ)) (text : List ℕ) → IsProp (Appends old new text)
Appends-prop None new text = Unit-prop
Appends-prop (Some x) None text = Prim.hlevel props
Appends-prop (Some x) (Some y) text = Prim.hlevel props

-- ---- the line in which a text is not as wanted

-- how many lines end in a text
abbrev pub lines_in : List ℕ → ℕ
lines_in text = count_by (λ b. b == 10) text

-- the line in which what is written isn't what was to be written, where it doesn't begin that
abbrev pub differing_line : List ℕ → List ℕ → Option ℕ
differing_line written text = if starts_with nat_eq text written then None else Some (other_line written text)
