-- At which head a search for a key begins, and which of two ways it takes at each depth.
use Rattle.std.specs.Prelude.{◌≡◌, ◌<◌, length, ℕ, ◌+◌, ◌-◌, ◌*◌, ◌/◌, ◌%◌, ◌^◌, Bool, ◌==◌, if◌then◌else◌, nat_lt, slice_index}
use Rattle.std.specs.Int.{bit_at}
use Rattle.first_of_key.specs.declared.key.Key.{Key}

abbrev pub spread : ℕ → ℕ → ℕ
spread mix word = (mix + word) % 2 ^ 64 * 0x9E3779B97F4A7C15 % 2 ^ 64

unfoldable pub stirred : ℕ → ℕ → ℕ
stirred mix word = (spread mix word + spread mix word / 2 ^ 32) % 2 ^ 64

abbrev pub word : Key → ℕ → ℕ
word key i = slice_index key.words i

-- one word of all the words of a key
unfoldable pub mixed : Key → ℕ
mixed key = stirred (stirred (stirred (stirred (stirred (stirred 0 (word key 0)) (word key 1)) (word key 2)) (word key 3)) (word key 4)) (word key 5)

-- of so many heads the one at which a search for a key begins
unfoldable pub head : ℕ → Key → ℕ
head heads key = mixed key % heads

-- the word whose bits tell the way at a depth
unfoldable pub word_at : Key → ℕ → ℕ
word_at key depth = if nat_lt depth 64 then mixed key else word key ((depth / 64 - 1) % 6)

-- the way at a depth, by one bit of that word
unfoldable pub side : Key → ℕ → Bool
side key depth = bit_at (word_at key depth) (63 - depth % 64) == 1

-- six words of 64 bits, as each key has
pub record IsWhole (key : Key) : Type 0 where
  pub six : length key.words ≡ 6
  pub small : (i : ℕ) → i < 6 → word key i < 2 ^ 64
