-- The moments of a port in memory.
use Rattle.std.proofs.Common.{◌≡◌, ◌∙◌, ℕ, ◌+◌, ◌-◌, ◌<◌, ◌≤◌, min, List, [], ◌∷◌, ◌++◌, length, take, drop, map, Result, Ok, Err, Some, refl, sym, ap, arith, take-append-drop}
use Rattle.std.proofs.lemmas.List.{drop-drop, drop_all, length-append, length-drop, map-append, take-append-le, take_all}
use Rattle.std.specs.Io.KnownBytes.{WriteAppends}
use Rattle.outside_io.specs.Marks.{AreWithin, moment_at}
use Rattle.outside_io.specs.declared.port.Mark.{Mark}

-- more was written, and what had been written at each moment is the same
marks_stay : (bytes old more : List ℕ) (marks : List Mark) → AreWithin (length old) marks → map (moment_at bytes (old ++ more)) marks ≡ map (moment_at bytes old) marks
marks_stay bytes old more [] within = refl
marks_stay bytes old more (mark ∷ marks) within = λ i.
    record { left = Some (drop mark.read bytes); written = Some (take-append-le mark.written old more within.0 i) } ∷ marks_stay bytes old more marks within.1 i

within_more : (n m : ℕ) (marks : List Mark) → n ≤ m → AreWithin n marks → AreWithin m marks
within_more n m [] more within = tt
within_more n m (mark ∷ marks) more within = (omega (arith, within.0, more), within_more n m marks more within.1)

-- a write leaves the moments as they are
pub written_stays : {E : Type 0} (bytes old new piece : List ℕ) (marks : List Mark) (result : Result ℕ E) → WriteAppends (Some old) (Some new) result piece → AreWithin (length old) marks → map (moment_at bytes new) marks ≡ map (moment_at bytes old) marks
written_stays bytes old new piece marks (Ok n) appends within = ap (λ (all : List ℕ). map (moment_at bytes all) marks) appends ∙ marks_stay bytes old (take n piece) marks within
written_stays bytes old new piece marks (Err e) appends within = ap (λ (all : List ℕ). map (moment_at bytes all) marks) appends

pub written_within : {E : Type 0} (old new piece : List ℕ) (marks : List Mark) (result : Result ℕ E) → WriteAppends (Some old) (Some new) result piece → AreWithin (length old) marks → AreWithin (length new) marks
written_within old new piece marks (Ok n) appends within = within_more (length old) (length new) marks (let long = ap (length {A = ℕ}) appends in let both = length-append old (take n piece) in omega (arith, long, both)) within
written_within old new piece marks (Err e) appends within = within_more (length old) (length new) marks (let same = ap (length {A = ℕ}) appends in omega (arith, same)) within

-- one moment more
pub mark_within : (n : ℕ) (marks : List Mark) (mark : Mark) → AreWithin n marks → mark.written ≤ n → AreWithin n (marks ++ mark ∷ [])
mark_within n [] mark within last = (last, tt)
mark_within n (m ∷ marks) mark within last = (within.0, mark_within n marks mark within.1 last)

pub marked : (bytes written : List ℕ) (marks : List Mark) (mark : Mark) → mark.written ≡ length written → map (moment_at bytes written) (marks ++ mark ∷ [])
    ≡ map (moment_at bytes written) marks ++ record { left = Some (drop mark.read bytes); written = Some written } ∷ []
marked bytes written marks mark all =
    map-append (moment_at bytes written) marks (mark ∷ [])
    ∙ ap (λ (w : List ℕ). map (moment_at bytes written) marks ++ record { left = Some (drop mark.read bytes); written = Some w } ∷ []) (take_all mark.written written (omega (arith, all)))

-- ---- the bytes that a read takes

from_place : (xs : List ℕ) (at : ℕ) → take (length xs - at) (drop at xs) ≡ drop at xs
from_place xs at = take_all (length xs - at) (drop at xs) (simp length-drop (omega arith))

pub front_is_taken : (bytes buf : List ℕ) (at n : ℕ) → take n buf ≡ take n (take (length bytes - at) (drop at bytes)) → drop at bytes ≡ take n buf ++ drop (at + n) bytes
front_is_taken bytes buf at n front =
    sym (take-append-drop n (drop at bytes))
    ∙ (λ i. (ap (take n) (sym (from_place bytes at)) ∙ sym front) i ++ drop-drop n at bytes i)

pub none_is_left : (bytes : List ℕ) (at n size : ℕ) → n ≡ min (length (take (length bytes - at) (drop at bytes))) size → n ≡ 0 → 0 < size → drop (at + n) bytes ≡ []
none_is_left bytes at n size count none some =
    let long = ap (length {A = ℕ}) (from_place bytes at) in
    let less = length-drop at bytes in
    drop_all (at + n) bytes (omega (arith, long, less, count, none, some))
