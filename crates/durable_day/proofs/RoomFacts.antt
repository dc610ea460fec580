-- The bytes of a line in their room.
use Rattle.std.proofs.Common.{◌≡◌, ℕ, ◌+◌, ◌-◌, ◌≤◌, ◌^◌, List, [], ◌∷◌, ◌++◌, length, take, drop, sym, ap, ◌∙◌, arith}
use Rattle.std.specs.Int.{w32, to_be_bytes}
use Rattle.std.proofs.Math.Seq.{take-append-add}
use Rattle.std.proofs.lemmas.List.{drop-take, length-append}
use Rattle.outside_io.specs.Pieces.{HasPut, IsCutShort}
use Rattle.durable_day.specs.Pieces.{OnRoom, behind_gate, room_state, unsealed}

pub length-unsealed : (text : List ℕ) → length (unsealed text) ≡ 5 + length text
length-unsealed text = omega (arith, length-append text (0 ∷ []))

-- the room is enough for a line
pub never_short : (cleared put : OnRoom) (text : List ℕ) → cleared.written ≡ [] → length text ≤ 2 ^ 21 → IsCutShort (room_state cleared) (room_state put) (unsealed text) → ⊥
never_short cleared put text empty short cut =
    let none : length cleared.written ≡ 0 = ap length empty in
    let less = cut.short in
    let sure = cut.sure in
    absurd (omega (arith, none, short, less, sure, length-unsealed text))

pub put_is : (cleared put : OnRoom) (text : List ℕ) → cleared.written ≡ [] → HasPut (room_state cleared) (room_state put) (unsealed text) → put.written ≡ unsealed text
put_is cleared put text empty has = has.written ∙ ap (λ (xs : List ℕ). xs ++ unsealed text) empty

pub sealed_is : (put new text : List ℕ) → put ≡ unsealed text → new ≡ to_be_bytes w32 (length put - 5) ++ drop 4 put → new ≡ behind_gate text
sealed_is put new text is seal =
    let count : length put - 5 ≡ length text = omega (arith, ap length is, length-unsealed text) in
    seal ∙ (λ i. to_be_bytes w32 (count i) ++ drop 4 (is i))

-- the first four bytes of what was written are put anew
pub front_put : (four room : List ℕ) (used : ℕ) → length four ≡ 4 → 4 ≤ used → take used (four ++ drop 4 room) ≡ four ++ drop 4 (take used room)
front_put four room used long enough =
    let more : ℕ = used - 4 in
    let whole : used ≡ 4 + more = omega (arith, enough) in
    let at : used ≡ length four + more = omega (arith, enough, long) in
    ap (λ (n : ℕ). take n (four ++ drop 4 room)) at ∙ take-append-add four (drop 4 room) more
    ∙ ap (λ (xs : List ℕ). four ++ xs) (sym (drop-take 4 more room)) ∙ ap (λ (n : ℕ). four ++ drop 4 (take n room)) (sym whole)
