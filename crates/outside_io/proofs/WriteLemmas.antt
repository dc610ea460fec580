-- One write after another of one text, piece by piece.
use Rattle.std.proofs.Common.{◌≡◌, ◌∙◌, ℕ, ◌+◌, ◌<◌, ◌≤◌, true, List, ◌++◌, length, take, drop, refl, ap, sym, subst, arith, take-add}
use Rattle.std.proofs.lemmas.List.{length-take-le}
use Rattle.std.proofs.KnownBytes.{Appends-kept}
use Rattle.std.specs.Io.KnownBytes.{Appends, Keeps}
use Rattle.outside_io.specs.Causes.{one_more}
use Rattle.outside_io.specs.Pieces.{held_in, HasPut, IsCutShort, Passes, SinkState}
use Rattle.outside_io.proofs.PutLemmas.{has_put_is, has_put_then, passes_more}

-- so many bytes of a piece were taken
pub took : (old new : SinkState) (piece : List ℕ) (n : ℕ) → n ≤ length piece → Appends old.written new.written (take n piece) → Passes old.layers new.layers n → new.faults ≡ old.faults → new.reading ≡ old.reading →
    old.sure + held_in new.layers ≤ held_in old.layers + n + new.sure → HasPut old new (take n piece)
took old new piece n inside written passed kept unread sure =
    let count : length (take n piece) ≡ n = length-take-le n piece inside in
    record { written = written; passed = subst (λ (m : ℕ). Passes old.layers new.layers m) (sym count) passed; kept = kept; unread = unread; sure = omega (arith, sure, count) }

-- what was put so far, and so many bytes of the rest
pub took_more : (old mid new : SinkState) (bytes piece : List ℕ) (i n : ℕ) → piece ≡ drop i bytes → HasPut old mid (take i bytes) → HasPut mid new (take n piece) → HasPut old new (take (i + n) bytes)
took_more old mid new bytes piece i n is so_far put =
    has_put_is old new (take i bytes ++ take n piece) (take (i + n) bytes) (ap (λ (rest : List ℕ). take i bytes ++ take n rest) is ∙ sym (take-add i n bytes))
    (has_put_then old mid new (take i bytes) (take n piece) so_far put)

-- A write failed when so much was put, and the text is longer.
pub stopped_at : (old mid new : SinkState) (bytes : List ℕ) (i : ℕ) → i < length bytes → HasPut old mid (take i bytes) → Keeps mid.written new.written → Passes mid.layers new.layers 0 →
    mid.faults ≤ new.faults → new.faults ≡ one_more mid.faults → new.failed ≡ true → new.reading ≡ mid.reading → mid.sure + held_in new.layers ≤ held_in mid.layers → (cut : IsCutShort old new bytes) × (cut.count ≡ i)
stopped_at old mid new bytes i inside so_far kept passed later counted stopped unread sure =
    let count : length (take i bytes) ≡ i = length-take-le i bytes (omega (arith, inside)) in
    let cut : IsCutShort old new bytes = record {
      count = i;
      short = inside;
      front = Appends-kept old.written mid.written new.written (take i bytes) so_far.written kept;
      passed = subst (λ (n : ℕ). Passes old.layers new.layers n) (omega (arith, count)) (passes_more old.layers mid.layers new.layers (length (take i bytes)) 0 so_far.passed passed);
      later = omega (arith, so_far.kept, later);
      counted = subst (λ (before : ℕ). new.faults ≡ one_more before) so_far.kept counted;
      stopped = stopped;
      unread = unread ∙ so_far.unread;
      sure = omega (arith, so_far.sure, sure, count);
    } in (cut, refl)
