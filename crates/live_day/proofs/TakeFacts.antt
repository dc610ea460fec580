-- What a live day tells of a byte, and of the end of its input.
use Rattle.std.proofs.Common.{◌≡◌, ◌∙◌, ◌+◌, ◌<◌, ◌≤◌, ◌++◌, ℕ, Bool, true, false, List, [], ◌∷◌, Some, None, Option, Result, Ok, Err, append_assoc, append-nil, length, length-append, refl, sym, ap, subst, arith, inl, inr}
use Rattle.std.specs.Prelude.{if◌then◌else◌, is_some, IfOk}
use Rattle.std.specs.Result.{IsErr}
use Rattle.std.proofs.lemmas.Bool.{cases_Bool}
use Rattle.batch_records.specs.Records.{Fields}
use Rattle.batch_records.specs.declared.day.DayCode.TheVariants as day_codes
use Rattle.outside_io.specs.Calls.{Puts}
use Rattle.outside_io.specs.Pieces.{SinkState}
use Rattle.outside_io.proofs.PutLemmas.{puts_all, puts_cut, puts_first, puts_then}
use Rattle.program_answers.specs.Answers.{Answer, refusal_text}
use Rattle.program_answers.specs.LivePrograms.{Finishes, TellsMore}
use Rattle.record_rows.specs.Input.{place_of, rows_read}
use Rattle.record_rows.specs.Lines.{line_of}
use Rattle.record_rows.specs.Machine.{Place, open_rows, opened}
use Rattle.record_rows.specs.declared.line.Line.{Line}
use Rattle.record_rows.specs.declared.line.Line.TheVariants as lines
use Rattle.csv.specs.Machine.{ends_at_end}
use Rattle.live_records.specs.Heard.{Heard, day_of, has_end, heard}
use Rattle.live_records.specs.WholeRecords.{is_over}
use Rattle.live_records.proofs.Continuing.{records_continue}
use Rattle.live_records.proofs.CutFacts.{is_over_or}
use Rattle.live_day.specs.Answers.{is_settled_by, live_answer, longest_input, looked_at}
use Rattle.live_day.specs.Endings.{answer_as, ending_of, ending_status, ending_text}
use Rattle.live_day.specs.Listened.{IsEnded, IsOpen, Stands, TellsEnd, TellsLast, TellsOn, TellsRest, all_rows, closed_rows, is_last}
use Rattle.live_day.specs.NextRecord.{answer_with, told_last, told_of}
use Rattle.live_day.specs.Promises.{Runs, program_of}
use Rattle.live_day.specs.Told.{told, told_calls}
use Rattle.live_day.specs.declared.endings.Ending.{Ending}
use Rattle.live_day.specs.declared.endings.Ending.TheVariants as endings
use Rattle.live_day.specs.declared.reading.DayReader.{DayReader}
use Rattle.live_day.proofs.Bytes.{broken_settles, cut_open, ends_in_end, ends_open, long_answer_is, over_settles, settled_told}
use Rattle.live_day.proofs.ReadFacts.{few_rows, last_broken, open_told, open_unsettled, puts_nothing}
use Rattle.live_day.proofs.SettledFacts.{settled_stays}
use Rattle.live_day.proofs.ToldFronts.{told_on}

-- ---- texts

-- the same text where a call ends with another value, or fails
pub puts_value : {T U E F : Type 0} (old new : SinkState) (text : List ℕ) (value : T) (other : U) → Puts {E = E} old new text (Ok value) → Puts {E = F} old new text (Ok other)
puts_value old new text value other put = puts_all old new text other put.ok

pub puts_failed : {T U E F : Type 0} (old new : SinkState) (text : List ℕ) (fault : E) (result : Result U F) → IsErr result → Puts {T = T} old new text (Err fault) → Puts old new text result
puts_failed old new text fault result failed put = puts_cut old new text result failed put.err

pub if_failed : {T E : Type 0} (P : T → Type 0) (result : Result T E) → IsErr result → IfOk result P
if_failed P (Ok value) failed = absurd (cc)
if_failed P (Err fault) failed = tt

-- ---- the end of records

pub broken_on : (records more : List Fields) → (heard records).broken ≡ true → heard (records ++ more) ≡ heard records
broken_on records more e = (records_continue records more).broken e

pub ends_broken : {T E : Type 0} (records more : List Fields) (state : SinkState) (value : T) → (heard records).broken ≡ true → TellsEnd {E = E} records (records ++ more) state state (Ok value)
ends_broken records more state value e =
    let same = broken_on records more e in
    let still : (heard (records ++ more)).broken ≡ true = ap (λ (h : Heard). h.broken) same ∙ e in
    record {
      text = [];
      is = (λ i. told_of (records ++ more) ++ last_broken (records ++ more) still i) ∙ append-nil (told_of (records ++ more)) ∙ ap (λ (h : Heard). told_calls (day_of h) 0 h.calls) same ∙ sym (append-nil (told_of records));
      put = puts_nothing state [] value refl;
    }

pub ending_still : (records more : List Fields) → (heard records).broken ≡ true → endings.Broken ≡ ending_of (heard (records ++ more))
ending_still records more e =
    let still : (heard (records ++ more)).broken ≡ true = ap (λ (h : Heard). h.broken) (broken_on records more e) ∙ e in
    sym (λ i. if still i then endings.Broken else if has_end (heard (records ++ more)) then endings.Complete else endings.Cut ((heard (records ++ more)).count + 1))

pub ends_first : {T U E F : Type 0} (before now : List Fields) (old new : SinkState) (fault : E) (result : Result U F) → IsErr result → TellsOn {T = T} before now old new (Err fault) → TellsEnd before now old new result
ends_first before now old new fault result failed t = record {
  text = t.text ++ told_last now;
  is = ap (λ (bytes : List ℕ). bytes ++ told_last now) t.is ∙ append_assoc (told_of before) t.text (told_last now);
  put = puts_first old new t.text (told_last now) fault result failed t.put;
}

pub ends_then : {T U E F : Type 0} (before now : List Fields) (old mid new : SinkState) (value : T) (result : Result U F) → TellsOn {E = E} before now old mid (Ok value) → Puts mid new (told_last now) result → TellsEnd before now old new result
ends_then before now old mid new value result t last = record {
  text = t.text ++ told_last now;
  is = ap (λ (bytes : List ℕ). bytes ++ told_last now) t.is ∙ append_assoc (told_of before) t.text (told_last now);
  put = puts_then old mid new t.text (told_last now) value result t.put last;
}

pub ends_as : {T E : Type 0} (before now same : List Fields) (old new : SinkState) (result : Result T E) → same ≡ now → TellsEnd before now old new result → TellsEnd before same old new result
ends_as before now same old new result e t = record { text = t.text; is = (λ i. told_of (e i) ++ told_last (e i)) ∙ t.is; put = t.put }

-- no record more
pub ends_none : {T E : Type 0} (records same : List Fields) (old new : SinkState) (result : Result T E) → same ≡ records → Puts old new (told_last records) result → TellsEnd records same old new result
ends_none records same old new result e put = record { text = told_last records; is = λ i. told_of (e i) ++ told_last (e i); put = put }

pub ending_as : {E : Type 0} (same records : List Fields) (result : Result Ending E) → same ≡ records → IfOk result (λ ending. ending ≡ ending_of (heard records)) → IfOk result (λ ending. ending ≡ ending_of (heard same))
ending_as same records result e is = subst (λ (rows : List Fields). IfOk result (λ ending. ending ≡ ending_of (heard rows))) (sym e) is

few_open : (p : Place) → length (open_rows p) ≤ 1
few_open p = by (ends_at_end p.state)
  where
    by : (x : Bool) → length {A = Fields} (if x then ((opened p).fields ++ (opened p).field ∷ []) ∷ [] else []) ≤ 1
    by true = omega arith
    by false = omega arith

pub closed_fits : (input : List ℕ) (count : ℕ) → count ≡ length (closed_rows input) → length input ≤ longest_input → count + 1 < 18446744073709551616
closed_fits input count is l =
    let rows = few_rows input in
    let one = few_open (place_of input) in
    let both = length-append (rows_read input) (open_rows (place_of input)) in
    omega (arith, is, rows, one, both, l)

-- the records of an input that has ended
pub all_closed : (input : List ℕ) → is_last (line_of input) ≡ true → all_rows input ≡ closed_rows input
all_closed input e = ap (λ (x : Bool). if x then closed_rows input else rows_read input) e

pub all_read : (input : List ℕ) → is_last (line_of input) ≡ false → all_rows input ≡ rows_read input
all_read input e = ap (λ (x : Bool). if x then closed_rows input else rows_read input) e

-- ---- answers

pub answer_ends : (h : Heard) (text : List ℕ) → answer_with h text ≡ answer_as (ending_of h) text
answer_ends h text = by h.broken (has_end h)
  where
    by : (x y : Bool)
        → (if x then record { status = 3; text = text } else if y then record { status = 0; text = text } else record { status = 3; text = text ++ refusal_text (h.count + 1) day_codes.Cut })
        ≡ answer_as (if x then endings.Broken else if y then endings.Complete else endings.Cut (h.count + 1)) text
    by true y = ap (λ (bytes : List ℕ). record { status = 3; text = bytes }) (sym (append-nil text))
    by false true = ap (λ (bytes : List ℕ). record { status = 0; text = bytes }) (sym (append-nil text))
    by false false = refl

last_line : (line : Line) → is_last line ≡ true → line ≡ lines.HasEND
last_line lines.HasEND e = refl
last_line lines.Begun e = cc e
last_line lines.HasE e = cc e
last_line lines.HasEN e = cc e
last_line lines.Other e = cc e
last_line lines.Over e = cc e

not_last : (line : Line) → is_last line ≡ false → line ≡ lines.HasEND → ⊥
not_last line e is = let clash : true ≡ false = sym (ap is_last is) ∙ e in cc clash

-- where no byte more comes
pub ended_answer : (input : List ℕ) → length input ≤ longest_input → is_over (line_of input) ≡ false
    → live_answer input ≡ answer_as (ending_of (heard (all_rows input))) (told_of (all_rows input) ++ told_last (all_rows input))
ended_answer input l line = elim (cases_Bool (is_last (line_of input))) [
  | inl e ↦ ends_in_end input l (last_line (line_of input) e) (all_rows input) (all_closed input e) ∙ answer_ends (heard (all_rows input)) (told_of (all_rows input) ++ told_last (all_rows input))
  | inr e ↦ ends_open input l line (not_last (line_of input) e)
      ∙ ap (λ (rows : List Fields). answer_with (heard rows) (told_of rows ++ told_last rows)) (sym (all_read input e))
      ∙ answer_ends (heard (all_rows input)) (told_of (all_rows input) ++ told_last (all_rows input))
]

-- ---- one byte more

short_one : (front : List ℕ) (b : ℕ) → length front < longest_input → length (front ++ b ∷ []) ≤ longest_input
short_one front b l = let size = length-append front (b ∷ []) in omega (arith, size, l)

-- a line END has come with it
over_is : (front : List ℕ) (b : ℕ) → is_over (line_of front) ≡ false → length front < longest_input → is_over (line_of (front ++ b ∷ [])) ≡ true
    → (is_settled_by (front ++ b ∷ []) ≡ true) × (told (looked_at (front ++ b ∷ [])) ≡ told_of (closed_rows (front ++ b ∷ [])) ++ told_last (closed_rows (front ++ b ∷ [])))
    × (live_answer (front ++ b ∷ []) ≡ answer_with (heard (closed_rows (front ++ b ∷ []))) (told_of (closed_rows (front ++ b ∷ [])) ++ told_last (closed_rows (front ++ b ∷ []))))
over_is front b line l over = over_settles front b (short_one front b l) line (is_over_or (line_of (front ++ b ∷ [])) over) (closed_rows (front ++ b ∷ [])) refl

rest_over : {T E : Type 0} (front : List ℕ) (b : ℕ) (old new : SinkState) (result : Result T E) → is_over (line_of front) ≡ false → length front < longest_input → is_over (line_of (front ++ b ∷ [])) ≡ true
    → TellsEnd (rows_read (front ++ b ∷ [])) (closed_rows (front ++ b ∷ [])) old new result → TellsRest (front ++ b ∷ []) old new result
rest_over front b old new result line l over t = record { text = t.text; is = (over_is front b line l over).1 ∙ t.is; put = t.put }

rest_failed : {T U E F : Type 0} (input : List ℕ) (old new : SinkState) (fault : E) (result : Result U F) → IsErr result → TellsRest {T = T} input old new (Err fault) → TellsRest input old new result
rest_failed input old new fault result failed t = record { text = t.text; is = t.is; put = puts_failed old new t.text fault result failed t.put }

rest_value : {T U E F : Type 0} (input : List ℕ) (old new : SinkState) (value : T) (other : U) → TellsRest {E = E} input old new (Ok value) → TellsRest {E = F} input old new (Ok other)
rest_value input old new value other t = record { text = t.text; is = t.is; put = puts_value old new t.text value other t.put }

pub rest_over_failed : {T U E F : Type 0} (front : List ℕ) (b : ℕ) (old new : SinkState) (fault : E) (result : Result U F) → IsErr result → is_over (line_of front) ≡ false → length front < longest_input → is_over (line_of (front ++ b ∷ [])) ≡ true
    → TellsEnd {T = T} (rows_read (front ++ b ∷ [])) (closed_rows (front ++ b ∷ [])) old new (Err fault) → TellsRest (front ++ b ∷ []) old new result
rest_over_failed front b old new fault result failed line l over t = rest_failed (front ++ b ∷ []) old new fault result failed (rest_over front b old new (Err fault) line l over t)

pub rest_over_value : {T U E F : Type 0} (front : List ℕ) (b : ℕ) (old new : SinkState) (value : T) (other : U) → is_over (line_of front) ≡ false → length front < longest_input → is_over (line_of (front ++ b ∷ [])) ≡ true
    → TellsEnd {E = E} (rows_read (front ++ b ∷ [])) (closed_rows (front ++ b ∷ [])) old new (Ok value) → TellsRest {E = F} (front ++ b ∷ []) old new (Ok other)
rest_over_value front b old new value other line l over t = rest_value (front ++ b ∷ []) old new value other (rest_over front b old new (Ok value) line l over t)

pub ended_over : (front : List ℕ) (b : ℕ) (ending : Ending) → is_over (line_of front) ≡ false → length front < longest_input → is_over (line_of (front ++ b ∷ [])) ≡ true
    → ending ≡ ending_of (heard (closed_rows (front ++ b ∷ []))) → IsEnded ending (front ++ b ∷ [])
ended_over front b ending line l over e =
    let o = over_is front b line l over in
    let rows = closed_rows (front ++ b ∷ []) in
    record {
      settled = o.0;
      answer = o.2 ∙ answer_ends (heard rows) (told_of rows ++ told_last rows) ∙ sym (λ i. answer_as (e i) (o.1 i));
    }

-- nothing more is told
pub rest_none : {T E : Type 0} (input : List ℕ) (state : SinkState) (value : T) → length input ≤ longest_input → is_over (line_of input) ≡ false → TellsRest {E = E} input state state (Ok value)
rest_none input state value l line = record { text = []; is = open_told input l line ∙ sym (append-nil (told_of (rows_read input))); put = puts_nothing state [] value refl }

pub rest_none_after : {T E : Type 0} (front : List ℕ) (b : ℕ) (state : SinkState) (value : T) → length front < longest_input → is_over (line_of (front ++ b ∷ [])) ≡ false → TellsRest {E = E} (front ++ b ∷ []) state state (Ok value)
rest_none_after front b state value l line = rest_none (front ++ b ∷ []) state value (short_one front b l) line

-- a bad record ended the run
pub ended_broken : (front : List ℕ) (b : ℕ) → length front < longest_input → is_over (line_of (front ++ b ∷ [])) ≡ false → (heard (rows_read (front ++ b ∷ []))).broken ≡ true → IsEnded endings.Broken (front ++ b ∷ [])
ended_broken front b l line broken =
    let input = front ++ b ∷ [] in
    let o = broken_settles input (short_one front b l) (cut_open input line) broken in
    record { settled = o.0; answer = o.2 ∙ (λ i. record { status = 3; text = (sym (append-nil (told_of (rows_read input))) ∙ ap (λ (text : List ℕ). text ++ []) (sym o.1)) i }) }

pub open_one : (front : List ℕ) (b : ℕ) → length front < longest_input → length (front ++ b ∷ []) ≤ longest_input
open_one front b l = short_one front b l

-- what its records call for begins what bytes call for
rest_there : (front : List ℕ) (b : ℕ) → is_over (line_of front) ≡ false → length front < longest_input → (text : List ℕ) × (told (looked_at (front ++ b ∷ [])) ≡ told_of (rows_read (front ++ b ∷ [])) ++ text)
rest_there front b line l = elim (cases_Bool (is_over (line_of (front ++ b ∷ [])))) [
  | inl over ↦
      let input = front ++ b ∷ [] in
      let on = told_on (rows_read input) (open_rows (place_of input)) in (
        on.0 ++ told_last (closed_rows input),
        (over_is front b line l over).1 ∙ ap (λ (text : List ℕ). text ++ told_last (closed_rows input)) on.1 ∙ append_assoc (told_of (rows_read input)) on.0 (told_last (closed_rows input)),
      )
  | inr going ↦ ([], open_told (front ++ b ∷ []) (short_one front b l) going ∙ sym (append-nil (told_of (rows_read (front ++ b ∷ [])))))
]

pub tells_first : {T U E F : Type 0} (front : List ℕ) (b : ℕ) (old new : SinkState) (fault : E) (result : Result U F) → IsErr result → is_over (line_of front) ≡ false → length front < longest_input
    → TellsOn {T = T} (rows_read front) (rows_read (front ++ b ∷ [])) old new (Err fault) → TellsMore (program_of Runs) front (front ++ b ∷ []) old new result
tells_first front b old new fault result failed line l t =
    let rest = rest_there front b line l in
    record {
      text = t.text ++ rest.0;
      is = rest.1 ∙ ap (λ (text : List ℕ). text ++ rest.0) t.is ∙ append_assoc (told_of (rows_read front)) t.text rest.0 ∙ ap (λ (text : List ℕ). text ++ (t.text ++ rest.0)) (sym (open_told front (omega (arith, l)) line));
      put = puts_first old new t.text rest.0 fault result failed t.put;
    }

pub tells_then : {T U E F : Type 0} (front : List ℕ) (b : ℕ) (old mid new : SinkState) (value : T) (result : Result U F) → is_over (line_of front) ≡ false → length front < longest_input
    → TellsOn {E = E} (rows_read front) (rows_read (front ++ b ∷ [])) old mid (Ok value) → TellsRest (front ++ b ∷ []) mid new result → TellsMore (program_of Runs) front (front ++ b ∷ []) old new result
tells_then front b old mid new value result line l t rest = record {
  text = t.text ++ rest.text;
  is = rest.is ∙ ap (λ (text : List ℕ). text ++ rest.text) t.is ∙ append_assoc (told_of (rows_read front)) t.text rest.text ∙ ap (λ (text : List ℕ). text ++ (t.text ++ rest.text)) (sym (open_told front (omega (arith, l)) line));
  put = puts_then old mid new t.text rest.text value result t.put rest.put;
}

-- ---- whether the bytes so far end

module _ {D : Type 0} (HasHeard : D → List Fields → Type 0) where
  pub settled_is : (o : Option Ending) (reader : DayReader D) (input : List ℕ) → Stands HasHeard o reader input → is_some o ≡ is_settled_by input
  settled_is None reader input s = sym (open_unsettled input s.within s.line s.going)
  settled_is (Some ending) reader input s = sym s.settled

  pub none_open : (o : Option Ending) (reader : DayReader D) (input : List ℕ) → is_some o ≡ false → Stands HasHeard o reader input → IsOpen HasHeard reader input
  none_open None reader input e s = s
  none_open (Some ending) reader input e s = cc e

  pub stays_ended : (o : Option Ending) (reader now : DayReader D) (input : List ℕ) (b : ℕ) → is_some o ≡ true → Stands HasHeard o reader input → Stands HasHeard o now (input ++ b ∷ [])
  stays_ended None reader now input b e s = cc e
  stays_ended (Some ending) reader now input b e s =
      let more = settled_told input (b ∷ []) s.settled in
      record { settled = more.0; answer = settled_stays input (b ∷ []) s.settled ∙ s.answer ∙ ap (answer_as ending) (sym more.1) }

  pub tells_settled : {T E : Type 0} (o : Option Ending) (reader : DayReader D) (input : List ℕ) (b : ℕ) (state : SinkState) (value : T) → is_some o ≡ true → Stands HasHeard o reader input → TellsMore {E = E} (program_of Runs) input (input ++ b ∷ []) state state (Ok value)
  tells_settled None reader input b state value e s = cc e
  tells_settled (Some ending) reader input b state value e s = record {
    text = [];
    is = (settled_told input (b ∷ []) s.settled).1 ∙ sym (append-nil (told (looked_at input)));
    put = puts_nothing state [] value refl;
  }

  -- a byte too many
  pub ended_long : (reader : DayReader D) (input : List ℕ) (b : ℕ) → length input ≡ longest_input → IsOpen HasHeard reader input → IsEnded endings.TooLong (input ++ b ∷ [])
  ended_long reader input b l s =
      let o = long_answer_is input b l (open_unsettled input s.within s.line s.going) in
      record { settled = o.0; answer = o.2 ∙ ap (answer_as endings.TooLong) (sym o.1) }

  pub tells_long : {T E : Type 0} (reader : DayReader D) (input : List ℕ) (b : ℕ) (state : SinkState) (value : T) → length input ≡ longest_input → IsOpen HasHeard reader input → TellsMore {E = E} (program_of Runs) input (input ++ b ∷ []) state state (Ok value)
  tells_long reader input b state value l s = record {
    text = [];
    is = (long_answer_is input b l (open_unsettled input s.within s.line s.going)).1 ∙ sym (append-nil (told (looked_at input)));
    put = puts_nothing state [] value refl;
  }

  -- no byte more
  pub last_settled : {E : Type 0} (ending : Ending) (input : List ℕ) (state : SinkState) → IsEnded ending input → TellsLast {E = E} input state state (Ok ending)
  last_settled ending input state s = record {
    ending = ending;
    text = [];
    answer = s.answer ∙ ap (answer_as ending) (sym (append-nil (told (looked_at input))));
    put = puts_nothing state [] ending refl;
    is = refl;
  }

  pub last_open : {E : Type 0} (reader : DayReader D) (input : List ℕ) (old new : SinkState) (result : Result Ending E) → IsOpen HasHeard reader input → TellsEnd (rows_read input) (all_rows input) old new result
      → IfOk result (λ ending. ending ≡ ending_of (heard (all_rows input))) → TellsLast input old new result
  last_open reader input old new result s t is = record {
    ending = ending_of (heard (all_rows input));
    text = t.text;
    answer = ended_answer input s.within s.line ∙ ap (answer_as (ending_of (heard (all_rows input)))) (t.is ∙ ap (λ (text : List ℕ). text ++ t.text) (sym (open_told input s.within s.line)));
    put = t.put;
    is = is;
  }

-- ---- the answer to what was heard

pub finishes_first : {E F : Type 0} (input : List ℕ) (old new : SinkState) (fault : E) (result : Result ℕ F) → IsErr result → TellsLast input old new (Err fault) → Finishes (program_of Runs) input old new result
finishes_first input old new fault result failed t = record {
  text = t.text ++ ending_text t.ending;
  is = ap (λ (a : Answer). a.text) t.answer ∙ append_assoc (told (looked_at input)) t.text (ending_text t.ending);
  status = if_failed _ result failed;
  put = puts_first old new t.text (ending_text t.ending) fault result failed t.put;
}

pub finishes_then : {E F : Type 0} (input : List ℕ) (old mid new : SinkState) (ending : Ending) (result : Result ℕ F) → TellsLast {E = E} input old mid (Ok ending) → Puts mid new (ending_text ending) result
    → IfOk result (λ status. status ≡ ending_status ending) → Finishes (program_of Runs) input old new result
finishes_then {F = F} input old mid new ending result t put status = record {
  text = t.text ++ ending_text ending;
  is = ap (λ (a : Answer). a.text) t.answer ∙ append_assoc (told (looked_at input)) t.text (ending_text t.ending) ∙ ap (λ (e : Ending). told (looked_at input) ++ (t.text ++ ending_text e)) (sym t.is);
  status = status_as result status;
  put = puts_then old mid new t.text (ending_text ending) ending result t.put put;
}
  where
    status_as : (r : Result ℕ F) → IfOk r (λ status. status ≡ ending_status ending) → IfOk r (λ status. status ≡ (live_answer input).status)
    status_as (Ok value) e = e ∙ ap ending_status t.is ∙ ap (λ (a : Answer). a.status) (sym t.answer)
    status_as (Err fault) e = tt
