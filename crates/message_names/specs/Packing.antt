-- How a text is put into words: eight bytes a word, the first one highest, and 0 after the last. No byte of a text is 0.
use Rattle.std.specs.Prelude.{ℕ, zero, suc, ◌+◌, List, [], ◌∷◌, slice_index}
use Rattle.std.specs.Int.{w64, from_be_bytes, to_be_bytes}

-- ---- into words

-- the eight bytes from a place on
unfoldable pub eight_from : List ℕ → ℕ → List ℕ
eight_from text i = slice_index text i ∷ slice_index text (i + 1) ∷ slice_index text (i + 2) ∷ slice_index text (i + 3) ∷ slice_index text (i + 4) ∷ slice_index text (i + 5) ∷ slice_index text (i + 6) ∷ slice_index text (i + 7) ∷ []

unfoldable pub word_at : List ℕ → ℕ → ℕ
word_at text i = from_be_bytes w64 (eight_from text i)

-- a text from a place on, as so many words
unfoldable pub words_from : ℕ → List ℕ → ℕ → List ℕ
words_from zero text i = []
words_from (suc n) text i = word_at text i ∷ words_from n text (i + 8)

-- ---- and back

-- a byte in front of a text, unless it is 0
abbrev pub before : ℕ → List ℕ → List ℕ
before zero text = text
before (suc byte) text = suc byte ∷ text

unfoldable pub all_before : List ℕ → List ℕ → List ℕ
all_before [] text = text
all_before (byte ∷ bytes) text = before byte (all_before bytes text)

-- the text of words
unfoldable pub text_of : List ℕ → List ℕ
text_of [] = []
text_of (word ∷ words) = all_before (to_be_bytes w64 word) (text_of words)
