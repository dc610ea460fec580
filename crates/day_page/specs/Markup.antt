-- Pieces of text one after another, and the texts of values on a page.
use Rattle.std.specs.Prelude.{ℕ, ◌+◌, ◌-◌, ◌/◌, ◌%◌, List, [], ◌∷◌, ◌++◌, Bool, ◌&&◌, not, nat_eq}
use Rattle.std.specs.Option.{option_map_or}
use Rattle.batch_records.specs.DayRecord.{Day}
use Rattle.machine.specs.Records.Setup.{account_at}
use Rattle.machine.specs.Records.Messages.{message_at}

-- the pieces, one after another
abbrev pub markup : List (List ℕ) → List ℕ
markup [] = []
markup (piece ∷ pieces) = piece ++ markup pieces

-- HH:MM:SS of so many seconds, below a hundred hours
unfoldable pub clock_text : ℕ → List ℕ
clock_text seconds =
    (48 + seconds / 36000 % 10) ∷ (48 + seconds / 3600 % 10) ∷ 58
    ∷ (48 + seconds / 600 % 6) ∷ (48 + seconds / 60 % 10) ∷ 58
    ∷ (48 + seconds / 10 % 6) ∷ (48 + seconds % 10) ∷ []

-- ---- names, which stand on the page as the day file has them: no byte of their alphabets is one of the markup

abbrev pub name_of : Day → ℕ → List ℕ
name_of day a = option_map_or (λ found. found.name) (account_at day a) []

abbrev pub sender_of : Day → ℕ → List ℕ
sender_of day n = option_map_or (λ m. m.sender) (message_at day n) []

abbrev pub id_of : Day → ℕ → List ℕ
id_of day n = option_map_or (λ m. m.id) (message_at day n) []

-- `<`, `>`, `&`, and both quotes
abbrev pub is_plain : ℕ → Bool
is_plain byte = not (nat_eq byte 60) && not (nat_eq byte 62) && not (nat_eq byte 38) && not (nat_eq byte 34) && not (nat_eq byte 39)

-- ---- places in a picture, of 940 by 200

-- the clock goes from 60 to 924
unfoldable pub x_of : ℕ → ℕ
x_of clock = 60 + clock / 100

-- an amount stands the higher, the more it is, between 170 and 10; `top` is the greatest of the picture
unfoldable pub y_of : ℕ → ℕ → ℕ
y_of top cents = 170 - cents / (top / 160 + 1)
