-- What one byte more adds to what is passed on.
use Rattle.std.proofs.Common.{◌≡◌, ◌∙◌, ◌+◌, ◌++◌, ◌<◌, ◌≤◌, ◌⊎◌, ℕ, Bool, true, false, List, [], ◌∷◌, Option, Some, None, append_assoc, append-nil, refl, sym, ap, subst, inl, inr, length, arith}
use Rattle.std.specs.Prelude.{◌==◌, if◌then◌else◌, is_some}
use Rattle.std.proofs.lemmas.Bool.{cases_eq, cases_lt, false≢true, le-ltb, lt-ltb, ne_eqb}
use Rattle.std.proofs.lemmas.List.{length-append, take-append-le}
use Rattle.outside_io.specs.TextLine.{line_feed}
use Rattle.party_gate.specs.Lines.{lines_from, open_from, open_line, whole_lines}
use Rattle.party_gate.specs.Passing.{end_ahead, end_of, end_or, end_told, end_with, ends_as, is_last, is_own, longest_line, passed, passed_as, passed_on, told_to, unless_ended, whose_is}
use Rattle.party_gate.specs.declared.passing.Ending.{Ending}
use Rattle.party_gate.specs.declared.passing.Ending.TheVariants as endings
use Rattle.party_gate.specs.declared.passing.Whose.{Whose}
use Rattle.party_gate.specs.declared.passing.Whose.TheVariants as whose

-- ---- lines

pub lines_more : (text begun : List ℕ) (b : ℕ) → lines_from begun (text ++ b ∷ []) ≡ lines_from begun text ++ (if b == line_feed then (open_from begun text ++ b ∷ []) ∷ [] else [])
unfolding lines_from open_from
lines_more [] begun b = refl
lines_more (c ∷ text) begun b = step (λ (w : List ℕ). lines_more text w b) (c == line_feed)
  where
    step : ((w : List ℕ) → lines_from w (text ++ b ∷ []) ≡ lines_from w text ++ (if b == line_feed then (open_from w text ++ b ∷ []) ∷ [] else [])) → (x : Bool) →
        (if x then (begun ++ c ∷ []) ∷ lines_from [] (text ++ b ∷ []) else lines_from (begun ++ c ∷ []) (text ++ b ∷ []))
        ≡ (if x then (begun ++ c ∷ []) ∷ lines_from [] text else lines_from (begun ++ c ∷ []) text) ++ (if b == line_feed then (open_from (if x then [] else begun ++ c ∷ []) text ++ b ∷ []) ∷ [] else [])
    step ih true = ap (λ (ls : List (List ℕ)). (begun ++ c ∷ []) ∷ ls) (ih [])
    step ih false = ih (begun ++ c ∷ [])

pub open_more : (text begun : List ℕ) (b : ℕ) → open_from begun (text ++ b ∷ []) ≡ (if b == line_feed then [] else open_from begun text ++ b ∷ [])
unfolding open_from
open_more [] begun b = refl
open_more (c ∷ text) begun b = open_more text (if c == line_feed then [] else begun ++ c ∷ []) b

-- ---- what they add

or_none : (e : Option Ending) → end_or e None ≡ e
or_none None = refl
or_none (Some x) = refl

unless_none : (e : Option Ending) → unless_ended e [] ≡ []
unless_none None = refl
unless_none (Some x) = refl

pub end_of_more : (name : List ℕ) (lines : List (List ℕ)) (line : List ℕ) → end_of name (lines ++ line ∷ []) ≡ end_or (end_of name lines) (end_with name line)
unfolding end_of
end_of_more name [] line = or_none (end_with name line)
end_of_more name (k ∷ lines) line = step (end_of_more name lines line) (end_with name k)
  where
    step : end_of name (lines ++ line ∷ []) ≡ end_or (end_of name lines) (end_with name line) → (e : Option Ending) → end_or e (end_of name (lines ++ line ∷ [])) ≡ end_or (end_or e (end_of name lines)) (end_with name line)
    step ih None = ih
    step ih (Some x) = refl

pub passed_on_more : (name : List ℕ) (lines : List (List ℕ)) (line : List ℕ) → passed_on name (lines ++ line ∷ []) ≡ passed_on name lines ++ unless_ended (end_of name lines) (passed name line)
unfolding passed_on end_of
passed_on_more name [] line = ap (λ (rest : List ℕ). passed name line ++ rest) (unless_none (end_with name line)) ∙ append-nil (passed name line)
passed_on_more name (k ∷ lines) line = step (passed_on_more name lines line) (end_with name k)
  where
    step : passed_on name (lines ++ line ∷ []) ≡ passed_on name lines ++ unless_ended (end_of name lines) (passed name line) → (e : Option Ending) → passed name k ++ unless_ended e (passed_on name (lines ++ line ∷ [])) ≡ (passed name k ++ unless_ended e (passed_on name lines)) ++ unless_ended (end_or e (end_of name lines)) (passed name line)
    step ih None = ap (λ (rest : List ℕ). passed name k ++ rest) ih ∙ sym (append_assoc (passed name k) (passed_on name lines) (unless_ended (end_of name lines) (passed name line)))
    step ih (Some x) = sym (append-nil (passed name k ++ []))

-- ---- a line feed, and any other byte

pub told_line : (name bytes : List ℕ) → told_to name (bytes ++ line_feed ∷ []) ≡ told_to name bytes ++ unless_ended (end_of name (whole_lines bytes)) (passed name (open_line bytes ++ line_feed ∷ []))
told_line name bytes = ap (passed_on name) (lines_more bytes [] line_feed) ∙ passed_on_more name (whole_lines bytes) (open_line bytes ++ line_feed ∷ [])

pub end_line : (name bytes : List ℕ) → end_told name (bytes ++ line_feed ∷ []) ≡ end_or (end_of name (whole_lines bytes)) (end_with name (open_line bytes ++ line_feed ∷ []))
end_line name bytes =
    ap (λ (begun : List ℕ). end_or (end_of name (whole_lines (bytes ++ line_feed ∷ []))) (end_ahead name begun)) (open_more bytes [] line_feed)
    ∙ or_none (end_of name (whole_lines (bytes ++ line_feed ∷ [])))
    ∙ ap (end_of name) (lines_more bytes [] line_feed) ∙ end_of_more name (whole_lines bytes) (open_line bytes ++ line_feed ∷ [])

lines_same : (bytes : List ℕ) (b : ℕ) → (b == line_feed) ≡ false → whole_lines (bytes ++ b ∷ []) ≡ whole_lines bytes
lines_same bytes b other =
    lines_more bytes [] b ∙ ap (λ (x : Bool). whole_lines bytes ++ (if x then (open_line bytes ++ b ∷ []) ∷ [] else [])) other ∙ append-nil (whole_lines bytes)

pub told_same : (name bytes : List ℕ) (b : ℕ) → (b == line_feed) ≡ false → told_to name (bytes ++ b ∷ []) ≡ told_to name bytes
told_same name bytes b other = ap (passed_on name) (lines_same bytes b other)

pub end_same : (name bytes : List ℕ) (b : ℕ) → (b == line_feed) ≡ false → end_told name (bytes ++ b ∷ []) ≡ end_or (end_of name (whole_lines bytes)) (end_ahead name (open_line bytes ++ b ∷ []))
end_same name bytes b other =
    ap (λ (ls : List (List ℕ)). end_or (end_of name ls) (end_ahead name (open_line (bytes ++ b ∷ [])))) (lines_same bytes b other)
    ∙ ap (λ (begun : List ℕ). end_or (end_of name (whole_lines bytes)) (end_ahead name begun)) (open_more bytes [] b ∙ ap (λ (x : Bool). if x then [] else open_line bytes ++ b ∷ []) other)

-- ---- a line that is too long before it ends

whose_same : (name begun more : List ℕ) → longest_line ≤ length begun → whose_is name (begun ++ more) ≡ whose_is name begun
unfolding whose_is
whose_same name begun more l = ap (λ (front : List ℕ). if is_last front then whose.Last else if is_own name front then whose.Own else whose.Others) (take-append-le longest_line begun more l)

-- what becomes of one, by whose it is
abbrev pub long_end : Whose → Option Ending
long_end whose.Others = None
long_end whose.Own = Some endings.Long
long_end whose.Last = Some endings.Long

long_ends : (w : Whose) (line : List ℕ) → longest_line < length line → ends_as w line ≡ long_end w
long_ends whose.Others line l = refl
long_ends whose.Own line l = ap (λ (x : Bool). if x then Some endings.Long else None) (lt-ltb longest_line (length line) l)
long_ends whose.Last line l = ap (λ (x : Bool). if x then Some endings.Long else Some endings.Last) (lt-ltb longest_line (length line) l)

long_passes : (w : Whose) (line : List ℕ) → longest_line < length line → passed_as w line ≡ []
long_passes whose.Others line l = refl
long_passes whose.Own line l = ap (λ (x : Bool). if x then [] else line) (lt-ltb longest_line (length line) l)
long_passes whose.Last line l = ap (λ (x : Bool). if x then [] else line) (lt-ltb longest_line (length line) l)

longer : (begun : List ℕ) (b : ℕ) → longest_line ≤ length begun → longest_line < length (begun ++ b ∷ [])
longer begun b l = let more = length-append begun (b ∷ []) in omega (arith, more, l)

-- with any byte behind it
pub long_with : (name begun : List ℕ) (b : ℕ) → longest_line ≤ length begun → end_with name (begun ++ b ∷ []) ≡ long_end (whose_is name begun)
long_with name begun b l = long_ends (whose_is name (begun ++ b ∷ [])) (begun ++ b ∷ []) (longer begun b l) ∙ ap long_end (whose_same name begun (b ∷ []) l)

pub long_passed : (name begun : List ℕ) (b : ℕ) → longest_line ≤ length begun → passed name (begun ++ b ∷ []) ≡ []
long_passed name begun b l = long_passes (whose_is name (begun ++ b ∷ [])) (begun ++ b ∷ []) (longer begun b l)

pub ahead_long : (name begun : List ℕ) → longest_line ≤ length begun → end_ahead name begun ≡ long_end (whose_is name begun)
ahead_long name begun l =
    let long : longest_line < length begun + 1 = omega (arith, l) in
    ap (λ (x : Bool). if x then end_with name (begun ++ line_feed ∷ []) else None) (lt-ltb longest_line (length begun + 1) long) ∙ long_with name begun line_feed l

pub ahead_short : (name begun : List ℕ) → length begun < longest_line → end_ahead name begun ≡ None
ahead_short name begun l =
    let short : length begun + 1 ≤ longest_line = omega (arith, l) in
    ap (λ (x : Bool). if x then end_with name (begun ++ line_feed ∷ []) else None) (le-ltb longest_line (length begun + 1) short)

-- one byte more of a line that has so many stays what it was
pub ahead_stays : (name begun : List ℕ) (b : ℕ) → longest_line ≤ length begun → end_ahead name (begun ++ b ∷ []) ≡ end_ahead name begun
ahead_stays name begun b l =
    let more = length-append begun (b ∷ []) in
    let l' : longest_line ≤ length (begun ++ b ∷ []) = omega (arith, more, l) in
    ahead_long name (begun ++ b ∷ []) l' ∙ ap long_end (whose_same name begun (b ∷ []) l) ∙ sym (ahead_long name begun l)

none_some : (e : Ending) → None ≡ Some e → ⊥
none_some e same = false≢true (ap is_some same)

ahead_some : (name begun : List ℕ) (e : Ending) → end_ahead name begun ≡ Some e → longest_line ≤ length begun
ahead_some name begun e is = elim (cases_lt (length begun) longest_line) [
  | inl short ↦ absurd (none_some e (sym (ahead_short name begun short) ∙ is))
  | inr l ↦ l
]

-- ---- what is over stays so

pub stays_over : (name bytes : List ℕ) (b : ℕ) (e : Ending) → end_told name bytes ≡ Some e → (told_to name (bytes ++ b ∷ []) ≡ told_to name bytes) × (end_told name (bytes ++ b ∷ []) ≡ Some e)
stays_over name bytes b e is = by_byte (cases_eq b line_feed)
  where
    -- the lines ended it, or the one that is open
    fed : (o : Option Ending) → o ≡ end_of name (whole_lines bytes) → end_or o (end_ahead name (open_line bytes)) ≡ Some e
        → (unless_ended o (passed name (open_line bytes ++ line_feed ∷ [])) ≡ []) × (end_or o (end_with name (open_line bytes ++ line_feed ∷ [])) ≡ Some e)
    fed (Some x) same over = (refl, over)
    fed None same over =
        let l = ahead_some name (open_line bytes) e over in
        (long_passed name (open_line bytes) line_feed l, long_with name (open_line bytes) line_feed l ∙ sym (ahead_long name (open_line bytes) l) ∙ over)

    other : (o : Option Ending) → end_or o (end_ahead name (open_line bytes)) ≡ Some e → end_or o (end_ahead name (open_line bytes ++ b ∷ [])) ≡ Some e
    other (Some x) over = over
    other None over = ahead_stays name (open_line bytes) b (ahead_some name (open_line bytes) e over) ∙ over

    by_byte : (b ≡ line_feed) ⊎ (b ≡ line_feed → ⊥) → (told_to name (bytes ++ b ∷ []) ≡ told_to name bytes) × (end_told name (bytes ++ b ∷ []) ≡ Some e)
    by_byte (inl same) =
        let both = fed (end_of name (whole_lines bytes)) refl is in
        subst (λ (x : ℕ). (told_to name (bytes ++ x ∷ []) ≡ told_to name bytes) × (end_told name (bytes ++ x ∷ []) ≡ Some e)) (sym same)
        (told_line name bytes ∙ ap (λ (text : List ℕ). told_to name bytes ++ text) both.0 ∙ append-nil (told_to name bytes), end_line name bytes ∙ both.1)
    by_byte (inr differs) =
        let not_feed = ne_eqb b line_feed differs in
        (told_same name bytes b not_feed, end_same name bytes b not_feed ∙ other (end_of name (whole_lines bytes)) is)

-- ---- where nothing ended it before

pub none_before : (name bytes : List ℕ) → end_told name bytes ≡ None → (end_of name (whole_lines bytes) ≡ None) × (end_ahead name (open_line bytes) ≡ None)
none_before name bytes none = by (end_of name (whole_lines bytes)) none
  where
    by : (o : Option Ending) → end_or o (end_ahead name (open_line bytes)) ≡ None → (o ≡ None) × (end_ahead name (open_line bytes) ≡ None)
    by None e = (refl, e)
    by (Some x) e = absurd (none_some x (sym e))

pub fed_told : (name bytes : List ℕ) → end_told name bytes ≡ None → told_to name (bytes ++ line_feed ∷ []) ≡ told_to name bytes ++ passed name (open_line bytes ++ line_feed ∷ [])
fed_told name bytes none = told_line name bytes ∙ ap (λ (o : Option Ending). told_to name bytes ++ unless_ended o (passed name (open_line bytes ++ line_feed ∷ []))) (none_before name bytes none).0

pub fed_end : (name bytes : List ℕ) → end_told name bytes ≡ None → end_told name (bytes ++ line_feed ∷ []) ≡ end_with name (open_line bytes ++ line_feed ∷ [])
fed_end name bytes none = end_line name bytes ∙ ap (λ (o : Option Ending). end_or o (end_with name (open_line bytes ++ line_feed ∷ []))) (none_before name bytes none).0

pub added_end : (name bytes : List ℕ) (b : ℕ) → (b == line_feed) ≡ false → end_told name bytes ≡ None → end_told name (bytes ++ b ∷ []) ≡ end_ahead name (open_line bytes ++ b ∷ [])
added_end name bytes b other none = end_same name bytes b other ∙ ap (λ (o : Option Ending). end_or o (end_ahead name (open_line bytes ++ b ∷ []))) (none_before name bytes none).0
