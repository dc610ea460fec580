-- A write that a crash doesn't tear is one of those that it may leave.
use Rattle.std.proofs.Common.{◌≡◌, ◌∙◌, ℕ, ◌+◌, ◌≤◌, List, ◌++◌, length, take, drop, ap, arith, append_assoc, length-append, length-drop}
use Rattle.std.proofs.lemmas.List.{take_at, drop_at, length-take-le}
use Rattle.disk_model.specs.Crashes.{overwritten, Torn}

pub torn_whole : (at : ℕ) (piece old : List ℕ) → at ≤ length old → Torn at (length piece) old (overwritten at piece old)
torn_whole at piece old low =
    let front : length (take at old) ≡ at = length-take-le at old low in
    let rest = drop (at + length piece) old in
    let middle = take at old ++ piece in
    let size : length middle ≡ at + length piece = omega (arith, length-append (take at old) piece, front) in
    record {
      before = ap (take at) (append_assoc (take at old) piece rest) ∙ take_at (take at old) (piece ++ rest) at front;
      behind = λ _. drop_at middle rest (at + length piece) size;
      no_shorter = omega (arith, length-append middle rest, size, length-drop (at + length piece) old);
    }
