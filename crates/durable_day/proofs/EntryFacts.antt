-- What the bytes at a place of a store tell of a text.
use Rattle.std.proofs.Common.{◌≡◌, ◌⊎◌, inl, inr, ℕ, ◌+◌, ◌-◌, ◌<◌, ◌≤◌, ◌^◌, List, ◌∷◌, ◌++◌, length, take, drop, refl, sym, ap, ◌∙◌, arith, append_assoc, length-drop}
use Rattle.std.specs.Int.{w32, to_be_bytes, from_be_bytes}
use Rattle.std.proofs.lemmas.List.{length-append, length-take-le, take-append-drop, take_at, drop-drop}
use Rattle.std.proofs.lemmas.Bool.{cases_lt}
use Rattle.std.proofs.lemmas.Nat.{from_be_bytes-to_be_bytes_4}
use Rattle.durable_day.specs.Bytes.{gated}
use Rattle.durable_day.specs.Entries.{IsText, NoTextFits}
use Rattle.durable_day.proofs.StoreFacts.{length_told, length-gated}

-- the places after one
behind : (m n at : ℕ) (seen : List ℕ) → n ≡ at + m → drop m (drop at seen) ≡ drop n seen
behind m n at seen is = drop-drop m at seen ∙ ap (λ (k : ℕ). drop k seen) (sym is)

-- what was read into the front of the room
pub read_there : (buf text seen later : List ℕ) (at n : ℕ) → n ≤ length text → length buf ≡ length (take n text) → buf ≡ take (length (take n text)) (drop at later) → later ≡ seen → take n (buf ++ drop n text) ≡ take n (drop at seen)
read_there buf text seen later at n room long is same =
    let size : length (take n text) ≡ n = length-take-le n text room in
    take_at buf (drop n text) n (long ∙ size) ∙ is ∙ ap (λ (k : ℕ). take k (drop at later)) size ∙ ap (λ (xs : List ℕ). take n (drop at xs)) same

pub still_room : (buf text : List ℕ) (n : ℕ) → n ≤ length text → length buf ≡ length (take n text) → n ≤ length (buf ++ drop n text)
still_room buf text n room long = omega (arith, long, length-take-le n text room, length-append buf (drop n text))

-- what was read at three places is a text after an open gate
pub is_text : (seen text : List ℕ) (at n : ℕ) → drop at seen ≡ 1 ∷ drop (at + 1) seen → to_be_bytes w32 n ≡ take 4 (drop (at + 1) seen) → take n text ≡ take n (drop (at + 5) seen) → n ≤ length text → at + 5 + n ≤ length seen →
    IsText (drop at seen) text n
is_text seen text at n gate number read room inside =
    let rest : List ℕ = drop (at + 5) seen in
    let four : drop (at + 1) seen ≡ to_be_bytes w32 n ++ rest =
    sym (take-append-drop 4 (drop (at + 1) seen)) ∙ ap (λ (xs : List ℕ). xs ++ drop 4 (drop (at + 1) seen)) (sym number) ∙ ap (λ (xs : List ℕ). to_be_bytes w32 n ++ xs) (behind 4 (at + 5) (at + 1) seen (omega arith)) in
    let parts : rest ≡ take n text ++ drop n rest = sym (take-append-drop n rest) ∙ ap (λ (xs : List ℕ). xs ++ drop n rest) (sym read) in
    let last : drop n rest ≡ drop (5 + n) (drop at seen) = drop-drop n (at + 5) seen ∙ sym (behind (5 + n) (at + 5 + n) at seen (omega arith)) in
    let count : n ≡ length (take n text) = sym (length-take-le n text room) in
    record {
      room = room;
      bytes_are = gate
          ∙ ap (λ (xs : List ℕ). 1 ∷ xs) (four ∙ ap (λ (xs : List ℕ). to_be_bytes w32 n ++ xs) parts ∙ sym (append_assoc (to_be_bytes w32 n) (take n text) (drop n rest)))
          ∙ ap (λ (k : ℕ). 1 ∷ ((to_be_bytes w32 k ++ take n text) ++ drop n rest)) count
          ∙ ap (λ (xs : List ℕ). gated (take n text) ++ xs) last;
    }

-- the number tells how long a text that stands there is
told_there : (seen t rest : List ℕ) (at n : ℕ) → n < 2 ^ 32 → to_be_bytes w32 n ≡ take 4 (drop (at + 1) seen) → drop at seen ≡ gated t ++ rest → length t < 2 ^ 32 → n ≡ length t
told_there seen t rest at n small number stands short =
    let there : take 4 (drop (at + 1) seen) ≡ to_be_bytes w32 (length t) = ap (take 4) (sym (behind 1 (at + 1) at seen refl) ∙ ap (drop 1) stands) ∙ length_told t rest in
    sym (from_be_bytes-to_be_bytes_4 n small) ∙ ap (from_be_bytes w32) (number ∙ there) ∙ from_be_bytes-to_be_bytes_4 (length t) short

-- none fits where the number tells more bytes than there are, or more than there is room for
pub none_fits : (seen text : List ℕ) (at n : ℕ) → n < 2 ^ 32 → length text < 2 ^ 32 → at + 5 ≤ length seen → to_be_bytes w32 n ≡ take 4 (drop (at + 1) seen) → (n ≤ length seen - at - 5 → n ≤ length text → ⊥) → NoTextFits (drop at seen) text
none_fits seen text at n small room inside number many t rest stands = by_size (cases_lt (length text) (length t))
  where
    fits : length t ≤ length text → length text < length t
    fits short =
        let told = told_there seen t rest at n small number stands (omega (arith, short, room)) in
        let sizes = ap length stands in
        absurd (many (omega (arith, told, sizes, length-append (gated t) rest, length-gated t, length-drop at seen, inside)) (omega (arith, told, short)))

    by_size : (length text < length t) ⊎ (length t ≤ length text) → length text < length t
    by_size (inl long) = long
    by_size (inr short) = fits short

-- nor where fewer than five bytes are left
pub none_so_short : (bytes text : List ℕ) → length bytes < 5 → NoTextFits bytes text
none_so_short bytes text few t rest stands = absurd (omega (arith, few, ap length stands, length-append (gated t) rest, length-gated t))
