-- What comes below of a text that was written to a sink that compares.
use Rattle.std.proofs.Common.{◌≡◌, ◌∙◌, ◌+◌, ◌-◌, ◌≤◌, ◌++◌, ℕ, Bool, true, false, List, [], ◌∷◌, Option, None, Some, Result, Ok, Err, drop, length, length-append, length-drop, take, take-append-drop, refl, sym, ap, subst, arith}
use Rattle.std.specs.Prelude.{◌&&◌, OnOk, if◌then◌else◌, nat_eq}
use Rattle.std.specs.Borrow.{GName}
use Rattle.std.specs.Io.KnownBytes.{Appends}
use Rattle.std.specs.List.{starts_with}
use Rattle.std.proofs.Math.Seq.{take-append_seam}
use Rattle.std.proofs.lemmas.List.{length-take-le}
use Rattle.outside_io.specs.Calls.{Puts}
use Rattle.outside_io.specs.Pieces.{HasPut, IsCutShort, Moment, Passes, Reading, SinkState}
use Rattle.live_day.specs.Comparing.{beyond, compares, comparing, differing_line, marked}
use Rattle.live_day.proofs.PlaceFacts.{beyond_more}

-- ---- what no write changes

same_marks : (a b : Option (List Moment)) → marked a ≡ marked b → a ≡ b
same_marks None None e = refl
same_marks None (Some b) e = cc e
same_marks (Some a) None e = cc e
same_marks (Some a) (Some b) e = ap (λ (l : List Moment). Some (drop 1 l)) e

abbrev moments_of : Option (List Moment) → List Moment
moments_of None = []
moments_of (Some l) = l

abbrev first_of : List Moment → Option (List ℕ) × Option (List ℕ)
first_of [] = (None, None)
first_of (m ∷ l) = (m.left, m.written)

abbrev known_of : Option (List ℕ) → List ℕ
known_of None = []
known_of (Some l) = l

pub same_wanted : (wanted wanted' : List ℕ) (first first' : Option (List ℕ)) (below below' : Reading) → compares wanted' first' below' ≡ compares wanted first below → wanted' ≡ wanted
same_wanted wanted wanted' first first' below below' e = ap (λ (r : Reading). known_of (first_of (moments_of r.moments)).0) e

pub same_first : (wanted wanted' : List ℕ) (first first' : Option (List ℕ)) (below below' : Reading) → compares wanted' first' below' ≡ compares wanted first below → first' ≡ first
same_first wanted wanted' first first' below below' e = ap (λ (r : Reading). (first_of (moments_of r.moments)).1) e

pub same_reading : (wanted wanted' : List ℕ) (first first' : Option (List ℕ)) (below below' : Reading) → compares wanted' first' below' ≡ compares wanted first below → below' ≡ below
same_reading wanted wanted' first first' below below' e =
    let moments : below'.moments ≡ below.moments = same_marks below'.moments below.moments (ap (λ (r : Reading). drop 1 (moments_of r.moments)) e) in
    λ i. record { left = (e i).left; faults = (e i).faults; ends = (e i).ends; moments = moments i }

-- ---- a text, whole or in part

both_of : (a b c : Bool) → (a && (b && c)) ≡ true → (b ≡ true) × (c ≡ true)
both_of true true true e = (refl, refl)
both_of true true false e = cc e
both_of true false c e = cc e
both_of false b c e = cc e

beyond_short : (wanted text : List ℕ) → length (beyond wanted text) ≤ length text
beyond_short wanted text = by (starts_with nat_eq text wanted)
  where
    by : (x : Bool) → length {A = ℕ} (if x then drop (length wanted) text else []) ≤ length text
    by true = let less = length-drop {A = ℕ} (length wanted) text in omega (arith, less)
    by false = omega arith

nothing_beyond : (wanted : List ℕ) → length {A = ℕ} [] - length (beyond wanted []) ≡ 0
nothing_beyond wanted = omega arith

pub put_beyond : (through same : GName) (wanted wanted' text text' : List ℕ) (first first' : Option (List ℕ)) (b c : Bool) (old new : SinkState) → first ≡ old.written →
    Appends first' new.written (beyond wanted' text') → HasPut (comparing through wanted first [] b old) (comparing same wanted' first' text' c new) text → HasPut old new (beyond wanted text)
put_beyond through same wanted wanted' text text' first first' b c old new began handed put =
    let is : text' ≡ text = put.written in
    let kept : wanted' ≡ wanted = same_wanted wanted wanted' first first' old.reading new.reading put.unread in
    let from : first' ≡ old.written = same_first wanted wanted' first first' old.reading new.reading put.unread ∙ began in
    let count : length (beyond wanted' text') ≡ length (beyond wanted text) = λ i. length (beyond (kept i) (is i)) in
    let size : length text' ≡ length text = ap (length {A = ℕ}) is in
    let short = beyond_short wanted text in
    let none = nothing_beyond wanted in
    let even : put.passed.1 ≡ length (beyond wanted text) = omega (arith, put.passed.2, count, size, short, none) in
    record {
      written = subst (λ (o : Option (List ℕ)). Appends o new.written (beyond wanted text)) from ((λ (t : Appends first' new.written (beyond wanted' text')). subst (λ (l : List ℕ). Appends first' new.written l) (λ i. beyond (kept i) (is i)) t) handed);
      passed = subst (λ (n : ℕ). Passes old.layers new.layers n) even put.passed.3;
      kept = put.kept;
      unread = same_reading wanted wanted' first first' old.reading new.reading put.unread;
      sure = omega (arith, put.sure, count, size, short, none);
    }

pub cut_beyond : (through same : GName) (wanted wanted' text text' : List ℕ) (first first' : Option (List ℕ)) (b c : Bool) (old new : SinkState) → first ≡ old.written →
    Appends first' new.written (beyond wanted' text') → IsCutShort (comparing through wanted first [] b old) (comparing same wanted' first' text' c new) text → IsCutShort old new (beyond wanted text)
cut_beyond through same wanted wanted' text text' first first' b c old new began handed cut =
    let is : text' ≡ take cut.count text = cut.front in
    let kept : wanted' ≡ wanted = same_wanted wanted wanted' first first' old.reading new.reading cut.unread in
    let from : first' ≡ old.written = same_first wanted wanted' first first' old.reading new.reading cut.unread ∙ began in
    let stopped = both_of c (starts_with nat_eq text' wanted') new.failed cut.stopped in
    let own : starts_with nat_eq text' wanted ≡ true = (λ i. starts_with nat_eq text' (sym kept i)) ∙ stopped.0 in
    let rest : List ℕ = drop cut.count text in
    let parts : beyond wanted text ≡ beyond wanted text' ++ rest =
    ap (beyond wanted) (sym (take-append-drop cut.count text) ∙ ap (λ (l : List ℕ). l ++ rest) (sym is)) ∙ beyond_more wanted text' rest own in
    let size : length text' ≡ cut.count = ap (length {A = ℕ}) is ∙ length-take-le cut.count text (omega (arith, cut.short)) in
    let left = length-drop {A = ℕ} cut.count text in
    let count : length (beyond wanted' text') ≡ length (beyond wanted text') = ap (λ (w : List ℕ). length (beyond w text')) kept in
    let sum : length (beyond wanted text) ≡ length (beyond wanted text') + length rest = ap (length {A = ℕ}) parts ∙ length-append (beyond wanted text') rest in
    let short = beyond_short wanted text' in
    let none = nothing_beyond wanted in
    let even : cut.passed.1 ≡ length (beyond wanted text') = omega (arith, cut.passed.2, count, size, short, none) in
    let front : beyond wanted' text' ≡ take (length (beyond wanted text')) (beyond wanted text) =
    ap (λ (w : List ℕ). beyond w text') kept ∙ sym (take-append_seam (beyond wanted text') rest) ∙ ap (take (length (beyond wanted text'))) (sym parts) in
    record {
      count = length (beyond wanted text');
      short = omega (arith, sum, left, cut.short);
      front = subst (λ (o : Option (List ℕ)). Appends o new.written (take (length (beyond wanted text')) (beyond wanted text))) from (subst (λ (l : List ℕ). Appends first' new.written l) front handed);
      passed = subst (λ (n : ℕ). Passes old.layers new.layers n) even cut.passed.3;
      later = cut.later;
      counted = cut.counted;
      stopped = stopped.1;
      unread = same_reading wanted wanted' first first' old.reading new.reading cut.unread;
      sure = omega (arith, cut.sure, count, size, short, none);
    }

-- ---- a call that puts it

pub puts_beyond : {T E : Type 0} (through same : GName) (wanted wanted' none text text' : List ℕ) (first first' : Option (List ℕ)) (b c : Bool) (old new : SinkState) (result : Result T E) → none ≡ [] → first ≡ old.written →
    Appends first' new.written (beyond wanted' text') → Puts (comparing through wanted first none b old) (comparing same wanted' first' text' c new) text result → Puts old new (beyond wanted text) result
puts_beyond {T} {E} through same wanted wanted' none text text' first first' b c old new result empty began handed put = by result (subst (λ (l : List ℕ). Puts (comparing through wanted first l b old) (comparing same wanted' first' text' c new) text result) empty put)
  where
    by : (r : Result T E) → Puts (comparing through wanted first [] b old) (comparing same wanted' first' text' c new) text r → Puts old new (beyond wanted text) r
    by (Ok value) p = record { ok = put_beyond through same wanted wanted' text text' first first' b c old new began handed p.ok; err = tt }
    by (Err fault) p = record { ok = tt; err = cut_beyond through same wanted wanted' text text' first first' b c old new began handed p.err }

pub line_beyond : {T E : Type 0} (through same : GName) (wanted wanted' none text text' : List ℕ) (first first' : Option (List ℕ)) (b c : Bool) (old new : SinkState) (result : Result T E) → none ≡ [] →
    Puts (comparing through wanted first none b old) (comparing same wanted' first' text' c new) text result → OnOk result (differing_line wanted' text' ≡ differing_line wanted text)
line_beyond {T} {E} through same wanted wanted' none text text' first first' b c old new result empty put = by result put
  where
    by : (r : Result T E) → Puts (comparing through wanted first none b old) (comparing same wanted' first' text' c new) text r → OnOk r (differing_line wanted' text' ≡ differing_line wanted text)
    by (Ok value) p =
        let kept : wanted' ≡ wanted = same_wanted wanted wanted' first first' old.reading new.reading p.ok.unread in
        let is : text' ≡ text = p.ok.written ∙ ap (λ (l : List ℕ). l ++ text) empty in
        λ i. differing_line (kept i) (is i)
    by (Err fault) p = tt
