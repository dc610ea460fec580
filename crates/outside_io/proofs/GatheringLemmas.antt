-- What is held is handed on from a place on.
use Rattle.std.proofs.Common.{◌≡◌, ◌∙◌, ℕ, ◌+◌, ◌-◌, ◌≤◌, true, false, Bool, ◌&&◌, List, [], ◌∷◌, ◌++◌, length, take, drop, Result, Ok, Err, IsErr, ap, sym, subst, arith, drop-drop, take-take, length-append, length-drop, append-nil, Option, None, Some}
use Rattle.std.proofs.lemmas.List.{length-take-le, take_rest}
use Rattle.std.specs.Borrow.{GName}
use Rattle.std.proofs.Math.Seq.{take-append-add}
use Rattle.std.proofs.KnownBytes.{Appends-nil}
use Rattle.std.specs.Io.KnownBytes.{Appends, append_known}
use Rattle.outside_io.specs.Causes.{one_more}
use Rattle.outside_io.specs.Gathering.{gathering, HandsOn}
use Rattle.outside_io.specs.Pieces.{SinkState, HasPut, IsCutShort, Passes}
use Rattle.outside_io.specs.Calls.{StaysSure}
use Rattle.outside_io.proofs.PutLemmas.{has_put_is, has_put_none, passes_more, passes_none}

-- so far nothing
pub put_first : (old : SinkState) (held : List ℕ) (from : ℕ) → HasPut old old (take (from - from) (drop from held))
put_first old held from = has_put_is old old [] (take (from - from) (drop from held)) (let none : 0 ≡ from - from = omega arith in ap (λ (n : ℕ). take n (drop from held)) none) (has_put_none old)

-- what is left at a place is what is left after what was put so far
pub rest_from : (held : List ℕ) (from at : ℕ) → from ≤ at → take (length held - at) (drop at held) ≡ drop (at - from) (drop from held)
rest_from held from at onward = (let along : at ≡ from + (at - from) = omega (arith, onward) in take_rest held at ∙ ap (λ (n : ℕ). drop n held) along) ∙ sym (drop-drop (at - from) from held)

-- n bytes more
pub put_next : (old new : SinkState) (held : List ℕ) (from at n : ℕ) → from ≤ at → HasPut old new (take (at - from + n) (drop from held)) → HasPut old new (take (at + n - from) (drop from held))
put_next old new held from at n onward put = has_put_is old new (take (at - from + n) (drop from held)) (take (at + n - from) (drop from held)) (let along : at - from + n ≡ at + n - from = omega (arith, onward) in ap (λ (m : ℕ). take m (drop from held)) along) put

-- a front was handed on, up to a place
pub handed_front : {T E : Type 0} (old new : SinkState) (held : List ℕ) (from at : ℕ) (result : Result T E) → from ≤ at → IsErr result → (cut : IsCutShort old new (drop from held)) × (cut.count ≡ at - from) → HandsOn old new (drop from held) (drop at held) result
handed_front old new held from at (Ok value) onward failed cut = absurd (cc)
handed_front old new held from at (Err fault) onward failed cut =
    let along : at ≡ from + (at - from) = omega (arith, onward) in
    record {
      ok = tt;
      err = (cut.0, ap (λ (n : ℕ). drop n held) along ∙ sym (drop-drop (at - from) from held) ∙ ap (λ (n : ℕ). drop n (drop from held)) (sym cut.1));
    }

-- ---- a write to a sink that gathers

-- n bytes of a piece were gathered, and nothing was handed on
pub gathers : (old new : SinkState) (through same : GName) (before now piece : List ℕ) (n : ℕ) → new ≡ old → same ≡ through → n ≤ length piece → now ≡ before ++ take n piece →
    Passes (record { through = through; held = length before } ∷ old.layers) (record { through = same; held = length now } ∷ new.layers) n
gathers old new through same before now piece n is named inside grown =
    (named, 0, omega (arith, ap (length {A = ℕ}) grown, length-append before (take n piece), length-take-le n piece inside), subst (λ (s : SinkState). Passes old.layers s.layers 0) (sym is) (passes_none old.layers))

-- what is handed on and what is held then come out even, also where it failed
pub stays_sure : {T E F : Type 0} (old new : SinkState) (through same : GName) (before now : List ℕ) (b c : Bool) (fault : E) (end : F) → HandsOn {T = T} old new before now (Err fault) →
    StaysSure (gathering through before b old) (gathering same now c new) (Err end)
stays_sure old new through same before now b c fault end handed = record {
  ok = tt;
  err = omega (arith, handed.err.0.sure, handed.err.0.short, ap (length {A = ℕ}) handed.err.1, length-drop handed.err.0.count before);
}

-- ---- what comes below of a text that was written to a sink that gathers, and held nothing before

-- two texts in two parts, cut at the same place
cut_at : (x y text held : List ℕ) (passed n : ℕ) → y ++ held ≡ x ++ text → passed + length held ≡ length text → y ++ take n held ≡ x ++ take (passed + n) text
cut_at x y text held passed n same even =
    let place : length y + n ≡ length x + (passed + n) = omega (arith, even, ap (length {A = ℕ}) same, length-append y held, length-append x text) in
    sym (take-append-add y held n) ∙ ap (λ (all : List ℕ). take (length y + n) all) same ∙ ap (λ (m : ℕ). take m (x ++ text)) place ∙ take-append-add x text (passed + n)

appends_below : (old mid new : Option (List ℕ)) (text held : List ℕ) → Appends (append_known old []) (append_known mid held) text → Appends mid new held → Appends old new text
appends_below None mid new text held first then = tt
appends_below (Some x) None new text held first then = absurd first
appends_below (Some x) (Some y) None text held first then = absurd then
appends_below (Some x) (Some y) (Some z) text held first then = then ∙ first ∙ ap (λ (front : List ℕ). front ++ text) (append-nil x)

appends_front : (old mid new : Option (List ℕ)) (text held : List ℕ) (passed n : ℕ) → passed + length held ≡ length text → Appends (append_known old []) (append_known mid held) text → Appends mid new (take n held) → Appends old new (take (passed + n) text)
appends_front None mid new text held passed n even first then = tt
appends_front (Some x) None new text held passed n even first then = absurd first
appends_front (Some x) (Some y) None text held passed n even first then = absurd then
appends_front (Some x) (Some y) (Some z) text held passed n even first then = then ∙ cut_at x y text held passed n (first ∙ ap (λ (front : List ℕ). front ++ text) (append-nil x)) even

-- all of it, where the rest was handed on
pub put_below : (old mid new : SinkState) (through same : GName) (held text : List ℕ) (b c : Bool) → HasPut (gathering through [] b old) (gathering same held c mid) text → HasPut mid new held → HasPut old new text
put_below old mid new through same held text b c put rest = record {
  written = appends_below old.written mid.written new.written text held put.written rest.written;
  passed = subst (λ (n : ℕ). Passes old.layers new.layers n) (let even : put.passed.1 + length held ≡ length text = omega (arith, put.passed.2) in even) (passes_more old.layers mid.layers new.layers put.passed.1 (length held) put.passed.3 rest.passed);
  kept = rest.kept ∙ put.kept;
  unread = rest.unread ∙ put.unread;
  sure = omega (arith, put.sure, rest.sure);
}

-- a front of it, where the rest was not
pub short_below : (old mid new : SinkState) (through same : GName) (held text : List ℕ) (b c : Bool) → HasPut (gathering through [] b old) (gathering same held c mid) text → IsCutShort mid new held → IsCutShort old new text
short_below old mid new through same held text b c put cut =
    let even : put.passed.1 + length held ≡ length text = omega (arith, put.passed.2) in
    record {
      count = put.passed.1 + cut.count;
      short = omega (arith, even, cut.short);
      front = appends_front old.written mid.written new.written text held put.passed.1 cut.count even put.written cut.front;
      passed = passes_more old.layers mid.layers new.layers put.passed.1 cut.count put.passed.3 cut.passed;
      later = omega (arith, put.kept, cut.later);
      counted = subst (λ (before : ℕ). new.faults ≡ one_more before) put.kept cut.counted;
      stopped = cut.stopped;
      unread = cut.unread ∙ put.unread;
      sure = omega (arith, put.sure, cut.sure, even);
    }

both_stopped : (b c : Bool) → (b && c) ≡ true → c ≡ true
both_stopped false c h = absurd (cc)
both_stopped true c h = h

-- a front of it, where a write failed, and nothing was handed on after that
pub cut_below : (old new : SinkState) (through same : GName) (held text : List ℕ) (b c : Bool) → IsCutShort (gathering through [] b old) (gathering same held c new) text → IsCutShort old new text
cut_below old new through same held text b c cut =
    let passed = cut.passed.1 in
    let fits : length (take cut.count text) ≡ cut.count = length-take-le cut.count text (omega (arith, cut.short)) in
    let even : passed + length held ≡ length (take cut.count text) = omega (arith, cut.passed.2, fits) in
    let front : take (passed + 0) (take cut.count text) ≡ take passed text = ap (λ (m : ℕ). take m (take cut.count text)) (let none : passed + 0 ≡ passed = omega arith in none) ∙ take-take passed cut.count text (omega (arith, cut.passed.2)) in
    record {
      count = passed;
      short = omega (arith, cut.short, cut.passed.2);
      front = subst (λ (bytes : List ℕ). Appends old.written new.written bytes) front (appends_front old.written new.written new.written (take cut.count text) held passed 0 even cut.front (Appends-nil new.written));
      passed = cut.passed.3;
      later = cut.later;
      counted = cut.counted;
      stopped = both_stopped c new.failed cut.stopped;
      unread = cut.unread;
      sure = omega (arith, cut.sure, cut.passed.2);
    }
