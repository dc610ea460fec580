-- What a reader of a live day has read and heard, byte by byte.
use Rattle.std.proofs.Common.{◌≡◌, ◌∙◌, ◌+◌, ◌<◌, ◌≤◌, ◌++◌, ℕ, suc, Bool, true, false, not, List, [], ◌∷◌, Result, Ok, append-nil, length, length-append, refl, sym, ap, subst, arith}
use Rattle.std.specs.Prelude.{◌&&◌, ◌||◌, if◌then◌else◌}
use Rattle.std.proofs.lemmas.Bool.{le-leb}
use Rattle.batch_records.specs.Records.{Fields}
use Rattle.outside_io.specs.Calls.{Puts}
use Rattle.outside_io.specs.Pieces.{SinkState}
use Rattle.outside_io.proofs.PutLemmas.{has_put_none, puts_all}
use Rattle.csv.specs.Reading.{is_bom, strip_bom}
use Rattle.record_rows.specs.Input.{Came, place_of, rows_read}
use Rattle.record_rows.specs.Lines.{line_from, line_of}
use Rattle.record_rows.specs.Machine.{Closes, Place, at_start, comes, moved, rows_from}
use Rattle.record_rows.specs.Rows.{kept_row}
use Rattle.record_rows.specs.declared.line.Line.{Line}
use Rattle.record_rows.specs.declared.line.Line.TheVariants as lines
use Rattle.live_records.specs.Heard.{Heard, day_of, has_end, heard, heard_in}
use Rattle.live_records.specs.WholeRecords.{has_ended, is_over}
use Rattle.live_records.proofs.CutFacts.{read_as_seen}
use Rattle.live_records.proofs.FateFacts.{count_all}
use Rattle.live_day.specs.Answers.{is_all, is_settled_by, longest_input, looked_at}
use Rattle.live_day.specs.Endings.{ending_of}
use Rattle.live_day.specs.Listened.{TellsOn, closed_rows}
use Rattle.live_day.specs.NextRecord.{HasEnd, told_last, told_of}
use Rattle.live_day.specs.Told.{has_come, told, told_end}
use Rattle.live_day.specs.Working.{TellsRow}
use Rattle.live_day.specs.declared.endings.Ending.TheVariants as endings
use Rattle.live_day.proofs.HeardFacts.{told_next, told_open}
use Rattle.live_day.proofs.SettledFacts.{looked_whole}

-- ---- texts

pub puts_nothing : {T E : Type 0} (state : SinkState) (text : List ℕ) (value : T) → text ≡ [] → Puts {E = E} state state text (Ok value)
puts_nothing {T} {E} state text value none = subst (λ (bytes : List ℕ). Puts {E = E} state state bytes (Ok value)) (sym none) (puts_all state state [] value (has_put_none state))

-- ---- records

-- a record more
pub told_one : (records : List Fields) (r : Fields) (text : List ℕ) → TellsRow records r text → told_of (records ++ r ∷ []) ≡ told_of records ++ text
told_one records r text t = told_next records (r ∷ []) t.more t.calls ∙ ap (λ (bytes : List ℕ). told_of records ++ bytes) (sym t.is)

pub tells_one : {T E : Type 0} (records : List Fields) (r : Fields) (old new : SinkState) (result : Result T E) → ((text : List ℕ) × TellsRow records r text × Puts old new text result) → TellsOn records (records ++ r ∷ []) old new result
tells_one records r old new result t = record { text = t.0; is = told_one records r t.0 t.1; put = t.2 }

pub tells_as : {T E : Type 0} (records now same : List Fields) (old new : SinkState) (result : Result T E) → same ≡ now → TellsOn records now old new result → TellsOn records same old new result
tells_as records now same old new result e t = record { text = t.text; is = ap told_of e ∙ t.is; put = t.put }

-- no record more
pub tells_none : {T E : Type 0} (records now : List Fields) (state : SinkState) (value : T) → now ≡ records → TellsOn {E = E} records now state state (Ok value)
tells_none records now state value e = record { text = []; is = ap told_of e ∙ sym (append-nil (told_of records)); put = puts_nothing state [] value refl }

-- the number of the next record
pub next_number : (records : List Fields) (count : ℕ) → count ≡ length records → (heard records).broken ≡ false → count + 1 ≡ (heard records).count + 1
next_number records count is going = ap (λ (n : ℕ). n + 1) (is ∙ sym (count_all records going))

pub one_longer : (records : List Fields) (r : Fields) (now : List Fields) (count : ℕ) → count ≡ length records → now ≡ records ++ r ∷ [] → count + 1 ≡ length now
one_longer records r now count is e = ap (λ (n : ℕ). n + 1) is ∙ sym (length-append records (r ∷ [])) ∙ ap length (sym e)

-- ---- what is told where an input has ended

pub last_broken : (records : List Fields) → (heard records).broken ≡ true → told_last records ≡ []
last_broken records e = by (has_end (heard records)) (heard records).broken e
  where
    by : (x y : Bool) → y ≡ true → (if x && not y then told_end (day_of (heard records)) else []) ≡ []
    by true true e = refl
    by false true e = refl
    by x false e = cc e

pub last_none : (records : List Fields) → has_end (heard records) ≡ false → told_last records ≡ []
last_none records e = ap (λ (x : Bool). if x && not (heard records).broken then told_end (day_of (heard records)) else []) e

pub last_end : (records : List Fields) → HasEnd records → told_last records ≡ told_end (day_of (heard records))
last_end records h = λ i. if h.ended i && not (h.going i) then told_end (day_of (heard records)) else []

-- ---- bytes

pub no_rows : rows_read [] ≡ []
unfolding rows_from strip_bom
no_rows = refl

pub no_line : is_over (line_of []) ≡ false
unfolding line_from
no_line = refl

pub none_broken : (heard (rows_read [])).broken ≡ false
unfolding heard rows_from strip_bom
none_broken = refl

few_from : (p : Place) (text : List ℕ) → length (rows_from p text) ≤ length text
unfolding rows_from
few_from p [] = omega arith
few_from p (b ∷ text) = by (comes p.state b) (few_from (moved b p) text)
  where
    by : (x : Bool) → length (rows_from (moved b p) text) ≤ length text → length (if x then (moved b p).fields ∷ rows_from (moved b p) text else rows_from (moved b p) text) ≤ suc (length text)
    by true l = omega (arith, l)
    by false l = omega (arith, l)

few_stripped : (input : List ℕ) → length (strip_bom input) ≤ length input
unfolding strip_bom
few_stripped [] = omega arith
few_stripped (a ∷ []) = omega arith
few_stripped (a ∷ b ∷ []) = omega arith
few_stripped (a ∷ b ∷ c ∷ rest) = by (is_bom a b c)
  where
    by : (x : Bool) → length (if x then rest else a ∷ b ∷ c ∷ rest) ≤ suc (suc (suc (length rest)))
    by true = omega arith
    by false = omega arith

pub few_rows : (input : List ℕ) → length (rows_read input) ≤ length input
few_rows input = let rows = few_from at_start (strip_bom input) in let bytes = few_stripped input in omega (arith, rows, bytes)

-- a count of records fits, where there is one byte more at most than an input may have
pub count_fits : (input : List ℕ) (count : ℕ) → count ≡ length (rows_read input) → length input ≤ longest_input → count + 1 < 18446744073709551616
count_fits input count is l = let rows = few_rows input in omega (arith, is, rows, l)

pub whole_fits : (input : List ℕ) (whole : ℕ) → whole ≡ length (rows_read input) → length input ≤ longest_input → whole + 1 < 18446744073709551616
whole_fits input whole is l = count_fits input whole is l

-- a byte that makes a record whole, and one that doesn't
pub came_one : (came : Bool) (before now : List Fields) (row : Fields) → came ≡ true → Came came before now row → (r : Fields) × (now ≡ before ++ r ∷ []) × (row ≡ kept_row r)
came_one true before now row e h = h
came_one false before now row e h = cc e

pub came_none : (came : Bool) (before now : List Fields) (row : Fields) → came ≡ false → Came came before now row → now ≡ before
came_none true before now row e h = cc e
came_none false before now row e h = h

-- a record that was open at the end, and none
pub closes_one : (came : Bool) (input : List ℕ) (row : Fields) → came ≡ true → Closes came (place_of input) row → (r : Fields) × (closed_rows input ≡ rows_read input ++ r ∷ []) × (row ≡ kept_row r)
closes_one true input row e h = (h.0, ap (λ (rows : List Fields). rows_read input ++ rows) h.1, h.2)
closes_one false input row e h = cc e

pub closes_none : (came : Bool) (input : List ℕ) (row : Fields) → came ≡ false → Closes came (place_of input) row → closed_rows input ≡ rows_read input
closes_none true input row e h = cc e
closes_none false input row e h = ap (λ (rows : List Fields). rows_read input ++ rows) h ∙ append-nil (rows_read input)

-- ---- bytes after which more may come

none_of : (a b c : Bool) → a ≡ false → b ≡ false → c ≡ true → (a || b || not c) ≡ false
none_of a b c d e f = λ i. d i || e i || not (f i)

open_line : (line : Line) → is_over line ≡ false → has_ended false line ≡ false
open_line lines.Begun e = refl
open_line lines.HasE e = refl
open_line lines.HasEN e = refl
open_line lines.HasEND e = refl
open_line lines.Other e = refl
open_line lines.Over e = cc e

open_rows_heard : (input : List ℕ) → is_over (line_of input) ≡ false → heard_in false input ≡ heard (rows_read input)
open_rows_heard input line = ap heard (read_as_seen false input (open_line (line_of input) line))

-- they don't settle the answer
pub open_unsettled : (input : List ℕ) → length input ≤ longest_input → is_over (line_of input) ≡ false → (heard (rows_read input)).broken ≡ false → is_settled_by input ≡ false
open_unsettled input l line going =
    let seen : looked_at input ≡ input = looked_whole input l in
    let h : (heard_in false (looked_at input)).broken ≡ false = ap (λ (s : List ℕ). (heard_in false s).broken) seen ∙ ap (λ (h : Heard). h.broken) (open_rows_heard input line) ∙ going in
    let come : has_come false (looked_at input) ≡ false = ap (has_come false) seen ∙ line in
    none_of (heard_in false (looked_at input)).broken (has_come false (looked_at input)) (is_all input) h come (le-leb (length input) longest_input l)

-- what they call for their records do
pub open_told : (input : List ℕ) → length input ≤ longest_input → is_over (line_of input) ≡ false → told (looked_at input) ≡ told_of (rows_read input)
open_told input l line = ap told (looked_whole input l) ∙ told_open input line

-- ---- how an input ends

pub ending_cut : (records : List Fields) (count : ℕ) → count ≡ length records → (heard records).broken ≡ false → has_end (heard records) ≡ false → endings.Cut (count + 1) ≡ ending_of (heard records)
ending_cut records count is going open_still =
    ap endings.Cut (next_number records count is going)
    ∙ sym (λ i. if going i then endings.Broken else if open_still i then endings.Complete else endings.Cut ((heard records).count + 1))

pub ending_broken : (records : List Fields) → (heard records).broken ≡ true → endings.Broken ≡ ending_of (heard records)
ending_broken records e = sym (λ i. if e i then endings.Broken else if has_end (heard records) then endings.Complete else endings.Cut ((heard records).count + 1))

pub ending_complete : (records : List Fields) → HasEnd records → endings.Complete ≡ ending_of (heard records)
ending_complete records h = sym (λ i. if h.going i then endings.Broken else if h.ended i then endings.Complete else endings.Cut ((heard records).count + 1))
