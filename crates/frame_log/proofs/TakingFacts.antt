-- What readers take.
use Rattle.std.proofs.Common.{◌≡◌, ℕ, ◌+◌, ◌<◌, ◌≤◌, Bool, true, false, not, ◌&&◌, List, [], ◌∷◌, ◌++◌, length, get_or, take, drop, Option, Some, None, refl, sym, ap, ◌∙◌, arith, append_assoc}
use Rattle.std.specs.Prelude.{bytes_eq}
use Rattle.std.specs.Io.KnownBytes.{Consumes, IsAtEnd}
use Rattle.std.proofs.Math.Seq.{take-add, take-append-add}
use Rattle.std.proofs.lemmas.Bool.{and_right, false≢true, true≢false, le-ltb}
use Rattle.std.proofs.lemmas.List.{drop_all, drop_more, length-append, length-take-le, take-append-drop, take-append-le, take_at}
use Rattle.std.proofs.lemmas.Slice.Eq.{bytes_eq-Decides}
use Rattle.kept_text.specs.Frames.{chained, has_header, header}
use Rattle.frame_log.specs.Reads.{Takes}

-- the buffer is full
pub took_all : (old new : Option (List ℕ)) (buf : List ℕ) → Consumes old new buf → Takes old new buf true
took_all None new buf is = λ bytes e. absurd (none_some bytes e)
  where
    inside : Option (List ℕ) → ℕ
    inside None = 0
    inside (Some x) = 1

    none_some : (bytes : List ℕ) → None ≡ Some bytes → ⊥
    none_some bytes e = absurd (omega (arith, ap inside e))
took_all (Some xs) None buf is = λ bytes e. absurd is
took_all (Some xs) (Some ys) buf is = λ bytes e. (ys, refl, sym (ap inside e) ∙ is)
  where
    inside : Option (List ℕ) → List ℕ
    inside None = []
    inside (Some x) = x

-- the source ended before
pub took_less : (old new : Option (List ℕ)) (buf : List ℕ) (at : ℕ) → at < length buf → Consumes old new (take at buf) → IsAtEnd new → Takes old new buf false
took_less None new buf at low is end = λ bytes e. absurd (none_some bytes e)
  where
    inside : Option (List ℕ) → ℕ
    inside None = 0
    inside (Some x) = 1

    none_some : (bytes : List ℕ) → None ≡ Some bytes → ⊥
    none_some bytes e = absurd (omega (arith, ap inside e))
took_less (Some xs) None buf at low is end = λ bytes e. absurd is
took_less (Some xs) (Some ys) buf at low is end = λ bytes e. omega (arith, low, ap length (ap inside e), ap length is, length-append (take at buf) ys, ap length end, length-take-le at buf (omega (arith, low)))
  where
    inside : Option (List ℕ) → List ℕ
    inside None = []
    inside (Some x) = x

-- one read more
pub took_on : (a b c : Option (List ℕ)) (x y : List ℕ) → Consumes a b x → Consumes b c y → Consumes a c (x ++ y)
took_on None b c x y first second = tt
took_on (Some xs) None c x y first second = absurd first
took_on (Some xs) (Some ys) None x y first second = absurd second
took_on (Some xs) (Some ys) (Some zs) x y first second = first ∙ ap (λ (ws : List ℕ). x ++ ws) second ∙ sym (append_assoc x y zs)

pub took_none : (a : Option (List ℕ)) → Consumes a a []
took_none None = tt
took_none (Some xs) = refl

-- what was read into the rest of a buffer
pub took_part : (at count : ℕ) (buf new rest : List ℕ) → at ≤ length buf → count ≤ length new → take (at + count) (take at buf ++ (new ++ rest)) ≡ take at buf ++ take count new
took_part at count buf new rest low few =
    let front : length (take at buf) ≡ at = length-take-le at buf low in
    ap (λ (n : ℕ). take (n + count) (take at buf ++ (new ++ rest))) (sym front) ∙ take-append-add (take at buf) (new ++ rest) count ∙ ap (λ (xs : List ℕ). take at buf ++ xs) (take-append-le count new rest few)

pub part_size : (at count : ℕ) (buf new rest : List ℕ) → at ≤ length buf → count ≤ length new → at + count ≤ length (take at buf ++ (new ++ rest))
part_size at count buf new rest low few = omega (arith, low, few, length-take-le at buf low, length-append (take at buf) (new ++ rest), length-append new rest)

-- ---- what was read at once

-- of a buffer that is full
pub as_whole : (old new : Option (List ℕ)) (buf bytes : List ℕ) (whole : Bool) → whole ≡ true → Takes old new buf whole → old ≡ Some bytes → (rest : List ℕ) × (new ≡ Some rest) × (bytes ≡ buf ++ rest)
as_whole old new buf bytes true is took e = took bytes e
as_whole old new buf bytes false is took e = absurd (false≢true is)

pub as_short : (old new : Option (List ℕ)) (buf bytes : List ℕ) (whole : Bool) → whole ≡ false → Takes old new buf whole → old ≡ Some bytes → length bytes < length buf
as_short old new buf bytes true is took e = absurd (true≢false is)
as_short old new buf bytes false is took e = took bytes e

pub was_not : (b : Bool) → not b ≡ true → b ≡ false
was_not true e = absurd (false≢true e)
was_not false e = refl

pub was_so : (b : Bool) → not b ≡ false → b ≡ true
was_so true e = refl
was_so false e = absurd (true≢false e)

one_byte : (xs : List ℕ) (at : ℕ) → length xs ≡ at + 1 → drop at xs ≡ get_or xs at 0 ∷ []
one_byte xs at long = drop_more xs at 0 (omega (arith, long)) ∙ ap (λ (ys : List ℕ). get_or xs at 0 ∷ ys) (drop_all (at + 1) xs (omega (arith, long)))

-- the header, and the gate behind it
pub gate_found : (buf bytes rest : List ℕ) → length buf ≡ 17 → bytes ≡ buf ++ rest → bytes_eq (take 16 buf) header ≡ true → bytes ≡ header ++ get_or buf 16 0 ∷ rest
gate_found buf bytes rest long is same =
    let front : take 16 buf ≡ header = (bytes_eq-Decides (take 16 buf) header).0 same in
    let last : drop 16 buf ≡ get_or buf 16 0 ∷ [] = one_byte buf 16 long in
    is ∙ ap (λ (xs : List ℕ). xs ++ rest) (sym (take-append-drop 16 buf)) ∙ append_assoc (take 16 buf) (drop 16 buf) rest ∙ (λ i. front i ++ (last i ++ rest))

pub other_header : (buf bytes rest : List ℕ) → length buf ≡ 17 → bytes ≡ buf ++ rest → bytes_eq (take 16 buf) header ≡ false → has_header bytes ≡ false
other_header buf bytes rest long is differs =
    let front : take 16 bytes ≡ take 16 buf = ap (take 16) is ∙ take-append-le 16 buf rest (omega (arith, long)) in
    and_right _ _ (ap (λ (xs : List ℕ). bytes_eq xs header) front ∙ differs)

pub short_header : (bytes : List ℕ) → length bytes < 17 → has_header bytes ≡ false
short_header bytes short = ap (λ (b : Bool). b && bytes_eq (take 16 bytes) header) (le-ltb 16 (length bytes) (omega (arith, short)))

-- a text, and the gate behind it
pub body_found : (buf left bytes rest : List ℕ) (count : ℕ) → length buf ≡ count + 1 → bytes ≡ buf ++ rest → bytes ≡ take count (buf ++ left) ++ get_or (buf ++ left) count 0 ∷ rest
body_found buf left bytes rest count long is =
    let whole : List ℕ = buf ++ left in
    let inside : count < length whole = omega (arith, long, length-append buf left) in
    let all : buf ≡ take count whole ++ get_or whole count 0 ∷ [] =
    sym (take_at buf left (count + 1) long) ∙ take-add count 1 whole ∙ ap (λ (xs : List ℕ). take count whole ++ take 1 xs) (drop_more whole count 0 inside) in
    is ∙ ap (λ (xs : List ℕ). xs ++ rest) all ∙ append_assoc (take count whole) (get_or whole count 0 ∷ []) rest

pub same_text : (buf left bytes rest : List ℕ) (count : ℕ) → length buf ≡ count + 1 → bytes ≡ buf ++ rest → take count bytes ≡ take count (buf ++ left)
same_text buf left bytes rest count long is =
    ap (take count) is ∙ take-append-le count buf rest (omega (arith, long)) ∙ sym (take-append-le count buf left (omega (arith, long)))

-- a digest that isn't the one that is told
pub other_digest : (before text digest result : List ℕ) → result ≡ chained before text → bytes_eq result digest ≡ false → chained before text ≡ digest → ⊥
other_digest before text digest result is differs same = absurd (true≢false (sym ((bytes_eq-Decides result digest).1 (is ∙ same)) ∙ differs))

pub its_digest : (before text digest result : List ℕ) → result ≡ chained before text → bytes_eq result digest ≡ true → chained before text ≡ digest
its_digest before text digest result is same = sym is ∙ (bytes_eq-Decides result digest).0 same
