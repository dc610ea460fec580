-- Where an input is cut, and the whole records of a front of one.
use Rattle.std.proofs.Common.{◌≡◌, ◌∙◌, ℕ, Bool, true, false, List, [], ◌∷◌, ◌++◌, append_assoc, append-nil, refl, sym, ap, inl, inr}
use Rattle.std.specs.Prelude.{if◌then◌else◌}
use Rattle.std.proofs.lemmas.Bool.{cases_Bool}
use Rattle.csv.specs.Reading.{strip_bom}
use Rattle.batch_records.specs.Records.{Fields, records_of}
use Rattle.record_rows.specs.Input.{Came, ends_mark, mark_of, place_of, rows_read}
use Rattle.record_rows.specs.Lines.{line_after, line_from, line_of}
use Rattle.record_rows.specs.Machine.{at_start, comes, moved, open_rows, place_after}
use Rattle.record_rows.specs.Rows.{kept_row}
use Rattle.record_rows.specs.declared.line.Line.{Line}
use Rattle.record_rows.specs.declared.line.Line.TheVariants as lines
use Rattle.record_rows.proofs.CsvRecords.{records_come}
use Rattle.record_rows.proofs.InputFacts.{came_marked, came_next}
use Rattle.record_rows.proofs.LineFacts.{line_more}
use Rattle.live_records.specs.Fates.{IsFront}
use Rattle.live_records.specs.WholeRecords.{cut, cut_from, has_ended, is_over, whole_records}

-- ---- fronts of lists

pub front_same : {A : Type 0} (xs ys : List A) → ys ≡ xs → IsFront xs ys
front_same xs ys e = ([], e ∙ sym (append-nil xs))

pub front_more : {A : Type 0} (xs ys more : List A) → ys ≡ xs ++ more → IsFront xs ys
front_more xs ys more e = (more, e)

pub front_then : {A : Type 0} (xs ys zs : List A) → IsFront xs ys → IsFront ys zs → IsFront xs zs
front_then xs ys zs f g = (f.0 ++ g.0, g.1 ∙ ap (λ l. l ++ g.0) f.1 ∙ append_assoc xs f.0 g.0)

-- ---- a line that is over stays so

pub over_stays : (text : List ℕ) → line_from lines.Over text ≡ lines.Over
unfolding line_from
over_stays [] = refl
over_stays (b ∷ text) = over_stays text

pub line_append : (line : Line) (front rest : List ℕ) → line_from line (front ++ rest) ≡ line_from (line_from line front) rest
unfolding line_from
line_append line [] rest = refl
line_append line (b ∷ front) rest = line_append (line_after line b) front rest

not_over : (line : Line) → (line ≡ lines.Over → ⊥) → is_over line ≡ false
not_over lines.Begun h = refl
not_over lines.HasE h = refl
not_over lines.HasEN h = refl
not_over lines.HasEND h = refl
not_over lines.Other h = refl
not_over lines.Over h = absurd (h refl)

-- ---- where an input is cut

-- nothing of a front in which no line is over
pub cut_front : (line : Line) (front rest : List ℕ) → (line_from line front ≡ lines.Over → ⊥) → cut_from line (front ++ rest) ≡ front ++ cut_from (line_from line front) rest
unfolding cut_from line_from
cut_front line [] rest still = refl
cut_front line (b ∷ front) rest still =
    let going : is_over line ≡ false = not_over line (λ e. still (rw e (over_stays front))) in
    rw going (ap (λ (xs : List ℕ). b ∷ xs) (cut_front (line_after line b) front rest still))

cut_nothing : (line : Line) (rest : List ℕ) → line ≡ lines.Over → cut_from line rest ≡ []
unfolding cut_from
cut_nothing line [] e = refl
cut_nothing line (b ∷ rest) e = rw e refl

-- what stands after a line that is over
pub cut_over : (line : Line) (front rest : List ℕ) → line_from line front ≡ lines.Over → cut_from line (front ++ rest) ≡ cut_from line front
unfolding cut_from line_from
cut_over line [] rest e = cut_nothing line rest e
cut_over line (b ∷ front) rest e = ap (λ (xs : List ℕ). if is_over line then [] else b ∷ xs) (cut_over (line_after line b) front rest e)

pub cut_whole : (input : List ℕ) → (line_of input ≡ lines.Over → ⊥) → cut input ≡ input
unfolding cut_from
cut_whole input still = ap cut (sym (append-nil input)) ∙ cut_front lines.Begun input [] still ∙ append-nil input

pub cut_there : (front rest : List ℕ) (b : ℕ) → (line_of front ≡ lines.Over → ⊥) → line_of (front ++ b ∷ []) ≡ lines.Over → cut (front ++ b ∷ rest) ≡ front ++ b ∷ []
unfolding cut_from
cut_there front rest b still over =
    let going : is_over (line_of front) ≡ false = not_over (line_of front) still in
    let last : cut_from (line_after (line_of front) b) rest ≡ [] = cut_nothing (line_after (line_of front) b) rest (sym (line_more lines.Begun front b) ∙ over) in
    cut_front lines.Begun front (b ∷ rest) still ∙ rw (going, last) refl

-- ---- the whole records of a front

front_came : (came : Bool) (before now : List Fields) (row : Fields) → Came came before now row → IsFront before now
front_came true before now row h = (h.0 ∷ [], h.1)
front_came false before now row h = front_same before now h

rows_more : (input : List ℕ) (b : ℕ) → IsFront (rows_read input) (rows_read (input ++ b ∷ []))
rows_more input b = by (ends_mark (mark_of input) b) refl
  where
    row : Fields
    row = kept_row (moved b (place_of input)).fields

    by : (x : Bool) → ends_mark (mark_of input) b ≡ x → IsFront (rows_read input) (rows_read (input ++ b ∷ []))
    by true e = front_came false (rows_read input) (rows_read (input ++ b ∷ [])) row (came_marked input b row e)
    by false e = front_came (comes (place_of input).state b) (rows_read input) (rows_read (input ++ b ∷ [])) row (came_next (comes (place_of input).state b) input b row e refl refl)

pub rows_front : (front rest : List ℕ) → IsFront (rows_read front) (rows_read (front ++ rest))
rows_front front [] = front_same (rows_read front) (rows_read (front ++ [])) (ap rows_read (append-nil front))
rows_front front (b ∷ rest) =
    let more : rows_read ((front ++ b ∷ []) ++ rest) ≡ rows_read (front ++ b ∷ rest) = ap rows_read (append_assoc front (b ∷ []) rest) in
    front_then (rows_read front) (rows_read (front ++ b ∷ [])) (rows_read (front ++ b ∷ rest)) (rows_more front b)
    (let there = rows_front (front ++ b ∷ []) rest in (there.0, sym more ∙ there.1))

records_front : (front rest : List ℕ) → IsFront (rows_read front) (records_of (front ++ rest))
records_front front rest =
    front_then (rows_read front) (rows_read (front ++ rest)) (records_of (front ++ rest)) (rows_front front rest)
    (open_rows (place_after at_start (strip_bom (front ++ rest))), records_come (strip_bom (front ++ rest)))

still_open : (line : Line) → (line ≡ lines.Over → ⊥) → has_ended false line ≡ false
still_open lines.Begun h = refl
still_open lines.HasE h = refl
still_open lines.HasEN h = refl
still_open lines.HasEND h = refl
still_open lines.Other h = refl
still_open lines.Over h = absurd (h refl)

pub is_over_or : (line : Line) → (is_over line ≡ true → line ≡ lines.Over)
is_over_or lines.Begun e = cc e
is_over_or lines.HasE e = cc e
is_over_or lines.HasEN e = cc e
is_over_or lines.HasEND e = cc e
is_over_or lines.Other e = cc e
is_over_or lines.Over e = refl

pub front_over : (all : Bool) (front rest : List ℕ) → line_of front ≡ lines.Over → whole_records all (front ++ rest) ≡ whole_records false front
unfolding whole_records
front_over all front rest over =
    let there : line_of (front ++ rest) ≡ lines.Over = line_append lines.Begun front rest ∙ ap (λ (l : Line). line_from l rest) over ∙ over_stays rest in
    rw (there, over) (ap records_of (cut_over lines.Begun front rest over))

front_going : (all : Bool) (front rest : List ℕ) → (line_of front ≡ lines.Over → ⊥) → IsFront (whole_records false front) (whole_records all (front ++ rest))
unfolding whole_records
front_going all front rest still =
    let cut_is : cut (front ++ rest) ≡ front ++ cut_from (line_of front) rest = cut_front lines.Begun front rest still in
    rw (still_open (line_of front) still) (by (has_ended all (line_of (front ++ rest))) cut_is)
  where
    by : (x : Bool) → cut (front ++ rest) ≡ front ++ cut_from (line_of front) rest → IsFront (rows_read front) (if x then records_of (cut (front ++ rest)) else rows_read (front ++ rest))
    by true e = rw e (records_front front (cut_from (line_of front) rest))
    by false e = rows_front front rest

-- stand in front of those of the whole, whatever follows
pub whole_front : (all : Bool) (front rest : List ℕ) → IsFront (whole_records false front) (whole_records all (front ++ rest))
whole_front all front rest = elim (cases_Bool (is_over (line_of front))) [
  | inl e ↦ front_same (whole_records false front) (whole_records all (front ++ rest)) (front_over all front rest (is_over_or (line_of front) e))
  | inr e ↦ front_going all front rest (λ over. cc (e, over))
]

-- ---- a reader has them as they come

pub read_as_seen : (all : Bool) (input : List ℕ) → has_ended all (line_of input) ≡ false → whole_records all input ≡ rows_read input
unfolding whole_records
read_as_seen all input e = rw e refl

pub ended_as_seen : (all : Bool) (input : List ℕ) → has_ended all (line_of input) ≡ true → cut input ≡ input → whole_records all input ≡ rows_read input ++ open_rows (place_of input)
unfolding whole_records
ended_as_seen all input e whole = rw e (ap records_of whole ∙ records_come (strip_bom input))
