-- What a run that goes on answers, by how far it has come.
use Rattle.std.proofs.Common.{◌≡◌, ◌∙◌, ◌+◌, ◌≤◌, ◌++◌, ◌⊎◌, ℕ, Bool, true, false, not, List, [], Option, None, Some, Result, Ok, Err, append_assoc, append-nil, drop, length, refl, sym, ap, subst, arith, inl, inr}
use Rattle.std.specs.Prelude.{◌&&◌, ◌||◌, codes, if◌then◌else◌, is_some, nat_eq, IfOk}
use Rattle.std.specs.List.{starts_with}
use Rattle.std.specs.Result.{IsErr}
use Rattle.std.proofs.Math.Seq.{drop-append_seam}
use Rattle.std.proofs.lemmas.Bool.Decides.{Decides-eqb}
use Rattle.std.proofs.lemmas.Slice.Eq.{starts_is}
use Rattle.batch_records.specs.declared.day.DayCode.TheVariants as day_codes
use Rattle.outside_io.specs.Calls.{Puts}
use Rattle.outside_io.specs.Pieces.{SinkState}
use Rattle.outside_io.proofs.PutLemmas.{puts_cut}
use Rattle.program_answers.specs.Answers.{Answer, illegal, illegal_text, refusal_text}
use Rattle.program_answers.specs.LivePrograms.{Finishes, LiveProgram}
use Rattle.live_day.specs.Answers.{is_settled_by, live_answer, longest_input, looked_at}
use Rattle.live_day.specs.GoingOn.{HasGone}
use Rattle.live_day.specs.Headers.{sizes_of}
use Rattle.live_day.specs.Promises.{Resumes, Runs, program_of}
use Rattle.live_day.specs.Resumed.{Before, before_of, behind, behind_records, counted_by, first_line, has_no_header, has_no_output, is_no_header, is_own, is_resume_settled, longest_output, number_within, other_line, portion, resumed_answer, settles, split_at, told_resumed, with_written}
use Rattle.live_day.specs.Resuming.{IsAt, input_of}
use Rattle.live_day.specs.Told.{told}
use Rattle.live_day.specs.declared.resuming.Stage.{Stage}
use Rattle.live_day.specs.declared.resuming.Stage.TheVariants as stages
use Rattle.live_day.proofs.EndFacts.{settled_stays, settled_still, settled_told, told_front}

-- ---- headers that are there

-- one that counts bytes which are there is a header
counted_header : (word : List ℕ) (most : ℕ) (text : List ℕ) (o : Option (List ℕ × List ℕ)) (s : List ℕ × List ℕ) → counted_by word most o ≡ Some s → is_no_header word most text o ≡ false
counted_header word most text None s e = cc e
counted_header word most text (Some split) s e = by (starts_with nat_eq split.0 (word ++ codes ";")) (number_within most (drop (length word + 1) split.0)) e
  where
    by : (x : Bool) (n : Option ℕ) → (if x then split_at split.1 n else None) ≡ Some s → not (x && is_some n) ≡ false
    by true (Some n) e = refl
    by true None e = cc e
    by false n e = cc e

has_output : (o : Option (List ℕ × List ℕ)) (b : Before) → behind_records o ≡ Some b → (s : List ℕ × List ℕ) × (o ≡ Some s) × (has_no_output o ≡ false)
has_output None b e = cc e
has_output (Some s) b e = (s, refl, by (portion (codes "OUTPUT") longest_output s.1) refl e)
  where
    by : (q : Option (List ℕ × List ℕ)) → portion (codes "OUTPUT") longest_output s.1 ≡ q → with_written s.0 q ≡ Some b → is_no_header (codes "OUTPUT") longest_output s.1 (first_line s.1) ≡ false
    by None f e = cc e
    by (Some t) f e = counted_header (codes "OUTPUT") longest_output s.1 (first_line s.1) t f

whole_header : (bytes : List ℕ) (b : Before) → before_of bytes ≡ Some b → has_no_header bytes ≡ false
unfolding before_of
whole_header bytes b e =
    let o = has_output (portion (codes "RECORDS") longest_input bytes) b e in
    let head = counted_header (codes "RECORDS") longest_input bytes (first_line bytes) o.0 o.1 in
    λ i. head i || o.2 i

abbrev read_of : Option Before → List ℕ
read_of None = []
read_of (Some b) = b.read

read_is : (o : Option (List ℕ × List ℕ)) (s : List ℕ × List ℕ) (b : Before) → o ≡ Some s → behind_records o ≡ Some b → b.read ≡ s.0
read_is o s b e f = by (portion (codes "OUTPUT") longest_output s.1) (ap behind_records (sym e) ∙ f)
  where
    by : (q : Option (List ℕ × List ℕ)) → with_written s.0 q ≡ Some b → b.read ≡ s.0
    by None f = cc f
    by (Some t) f = sym (ap read_of f)

read_fits : (bytes : List ℕ) (b : Before) → before_of bytes ≡ Some b → length b.read ≤ longest_input
unfolding before_of
read_fits bytes b e =
    let o = has_output (portion (codes "RECORDS") longest_input bytes) b e in
    let sizes = sizes_of (codes "RECORDS") longest_input bytes o.0 (omega arith) o.1 in
    let few = sizes.first in
    let same : length b.read ≡ length o.0.0 = ap length (read_is (portion (codes "RECORDS") longest_input bytes) o.0 b o.1 e) in
    omega (arith, few, same)

-- ---- whether the answer is settled

-- what follows the bytes that count changes nothing
gone_settled : (Heard : List ℕ → Type 0) (bytes : List ℕ) (gone : HasGone Heard bytes) → is_settled_by bytes ≡ is_settled_by gone.front
gone_settled Heard bytes gone = elim gone.counts [
  | inl none ↦ ap is_settled_by (gone.is ∙ ap (λ (m : List ℕ). gone.front ++ m) none ∙ append-nil gone.front)
  | inr settled ↦ ap is_settled_by gone.is ∙ settled_still gone.front gone.more settled ∙ sym settled
]

gone_answer : (Heard : List ℕ → Type 0) (bytes : List ℕ) (gone : HasGone Heard bytes) → live_answer bytes ≡ live_answer gone.front
gone_answer Heard bytes gone = elim gone.counts [
  | inl none ↦ ap live_answer (gone.is ∙ ap (λ (m : List ℕ). gone.front ++ m) none ∙ append-nil gone.front)
  | inr settled ↦ ap live_answer gone.is ∙ settled_stays gone.front gone.more settled
]

gone_told : (Heard : List ℕ → Type 0) (bytes : List ℕ) (gone : HasGone Heard bytes) → told (looked_at bytes) ≡ told (looked_at gone.front)
gone_told Heard bytes gone = elim gone.counts [
  | inl none ↦ ap (λ (b : List ℕ). told (looked_at b)) (gone.is ∙ ap (λ (m : List ℕ). gone.front ++ m) none ∙ append-nil gone.front)
  | inr settled ↦ ap (λ (b : List ℕ). told (looked_at b)) gone.is ∙ settled_told gone.front gone.more settled
]

settled_goes : (program : LiveProgram) (Heard : List ℕ → Type 0) (bytes : List ℕ) (b : Before) (r : Bool) (gone : HasGone Heard (input_of b)) → program ≡ program_of Runs → before_of bytes ≡ Some b → is_own b ≡ true → r ≡ program.is_settled gone.front → r ≡ is_resume_settled bytes
settled_goes program Heard bytes b r gone is some own said =
    let header = whole_header bytes b some in
    let here : r ≡ is_settled_by (input_of b) = said ∙ ap (λ (p : LiveProgram). p.is_settled gone.front) is ∙ sym (gone_settled Heard (input_of b) gone) in
    here ∙ sym (ap (λ (x : Bool). x || settles (before_of bytes)) header ∙ ap settles some ∙ ap (λ (x : Bool). not x || is_settled_by (input_of b)) own)

-- ---- the answer

if_failed : {T E : Type 0} (P : T → Type 0) (result : Result T E) → IsErr result → IfOk result P
if_failed P (Ok value) failed = absurd (cc)
if_failed P (Err fault) failed = tt

pub no_header_first : {T E F : Type 0} (bytes : List ℕ) (old new : SinkState) (fault : E) (result : Result ℕ F) → before_of bytes ≡ None → IsErr result → Puts {T = T} old new (refusal_text 0 day_codes.Cut) (Err fault) → Finishes (program_of Resumes) bytes old new result
no_header_first bytes old new fault result none failed put = record {
  text = refusal_text 0 day_codes.Cut;
  is = ap (λ (o : Option Before). (resumed_answer o).text) none ∙ sym (ap (λ (o : Option Before). told_resumed o ++ refusal_text 0 day_codes.Cut) none);
  status = if_failed _ result failed;
  put = puts_cut old new (refusal_text 0 day_codes.Cut) result failed put.err;
}

-- what was written isn't its own
differs_answer : (bytes : List ℕ) (b : Before) (line : ℕ) → before_of bytes ≡ Some b → is_own b ≡ false → line ≡ other_line b.written (told b.read) → resumed_answer (before_of bytes) ≡ illegal line
differs_answer bytes b line some other at =
    ap resumed_answer some ∙ ap (λ (x : Bool). if x then behind (length b.written) (live_answer (b.read ++ b.rest)) else illegal (other_line b.written (told b.read))) other ∙ ap illegal (sym at)

differs_told : (bytes : List ℕ) (b : Before) → before_of bytes ≡ Some b → is_own b ≡ false → told_resumed (before_of bytes) ≡ []
differs_told bytes b some other = ap told_resumed some ∙ ap (λ (x : Bool). if x then drop (length b.written) (told (looked_at (b.read ++ b.rest))) else []) other

differs_first : {T E F : Type 0} (bytes : List ℕ) (b : Before) (line : ℕ) (old new : SinkState) (fault : E) (result : Result ℕ F) → before_of bytes ≡ Some b → is_own b ≡ false → line ≡ other_line b.written (told b.read) → IsErr result
    → Puts {T = T} old new (illegal_text line) (Err fault) → Finishes (program_of Resumes) bytes old new result
differs_first bytes b line old new fault result some other at failed put = record {
  text = illegal_text line;
  is = ap (λ (a : Answer). a.text) (differs_answer bytes b line some other at) ∙ sym (ap (λ (t : List ℕ). t ++ illegal_text line) (differs_told bytes b some other));
  status = if_failed _ result failed;
  put = puts_cut old new (illegal_text line) result failed put.err;
}

-- the day goes on: what was written begins what is told
own_begins : (bytes : List ℕ) (b : Before) → before_of bytes ≡ Some b → is_own b ≡ true → (more : List ℕ) × (told (looked_at (b.read ++ b.rest)) ≡ b.written ++ more)
own_begins bytes b some own =
    let here : told b.read ≡ b.written ++ drop (length b.written) (told b.read) = (starts_is Decides-eqb (told b.read) b.written (starts_with nat_eq (told b.read) b.written) refl).0 own in
    let on = told_front b.read b.rest (read_fits bytes b some) in (
      drop (length b.written) (told b.read) ++ on.0,
      on.1 ∙ ap (λ (t : List ℕ). t ++ on.0) here ∙ append_assoc b.written (drop (length b.written) (told b.read)) on.0,
    )

drop_more : (xs whole more text rest : List ℕ) → whole ≡ xs ++ more → rest ≡ whole ++ text → drop (length xs) rest ≡ drop (length xs) whole ++ text
drop_more xs whole more text rest begins is =
    ap (drop (length xs)) (is ∙ ap (λ (t : List ℕ). t ++ text) begins ∙ append_assoc xs more text) ∙ drop-append_seam xs (more ++ text)
    ∙ sym (ap (λ (t : List ℕ). t ++ text) (ap (drop (length xs)) begins ∙ drop-append_seam xs more))

goes_on_finishes : {E : Type 0} (program : LiveProgram) (Heard : List ℕ → Type 0) (bytes : List ℕ) (b : Before) (old new : SinkState) (result : Result ℕ E) (gone : HasGone Heard (input_of b)) → program ≡ program_of Runs → before_of bytes ≡ Some b → is_own b ≡ true
    → Finishes program gone.front old new result → Finishes (program_of Resumes) bytes old new result
goes_on_finishes {E = E} program Heard bytes b old new result gone is some own f =
    let own_f : Finishes (program_of Runs) gone.front old new result = subst (λ (p : LiveProgram). Finishes p gone.front old new result) is f in
    let answer = gone_answer Heard (input_of b) gone in
    let begins = own_begins bytes b some own in
    let now : (live_answer (input_of b)).text ≡ told (looked_at (input_of b)) ++ own_f.text =
    ap (λ (a : Answer). a.text) answer ∙ own_f.is ∙ ap (λ (t : List ℕ). t ++ own_f.text) (sym (gone_told Heard (input_of b) gone)) in
    let resumed : resumed_answer (before_of bytes) ≡ behind (length b.written) (live_answer (input_of b)) =
    ap resumed_answer some ∙ ap (λ (x : Bool). if x then behind (length b.written) (live_answer (b.read ++ b.rest)) else illegal (other_line b.written (told b.read))) own in
    let so_far : told_resumed (before_of bytes) ≡ drop (length b.written) (told (looked_at (input_of b))) =
    ap told_resumed some ∙ ap (λ (x : Bool). if x then drop (length b.written) (told (looked_at (b.read ++ b.rest))) else []) own in
    let status : (live_answer gone.front).status ≡ (resumed_answer (before_of bytes)).status = sym (ap (λ (a : Answer). a.status) answer) ∙ sym (ap (λ (a : Answer). a.status) resumed) in
    record {
      text = own_f.text;
      is = ap (λ (a : Answer). a.text) resumed ∙ drop_more b.written (told (looked_at (input_of b))) begins.0 own_f.text (live_answer (input_of b)).text begins.1 now ∙ ap (λ (t : List ℕ). t ++ own_f.text) (sym so_far);
      status = status_as result status own_f.status;
      put = own_f.put;
    }
  where
    status_as : (r : Result ℕ E) {x y : ℕ} → x ≡ y → IfOk r (λ status. status ≡ x) → IfOk r (λ status. status ≡ y)
    status_as (Ok value) e s = s ∙ e
    status_as (Err fault) e s = tt

-- ---- by how far it has come

pub none_at : (Heard : List ℕ → Type 0) (input : List ℕ) (stage : Stage) (bytes : List ℕ) → (stage ≡ stages.Reads) ⊎ (stage ≡ stages.NoHeader) → IsAt Heard input stage bytes → before_of bytes ≡ None
none_at Heard input stage bytes (inl reads) at = (subst (λ (s : Stage). IsAt Heard input s bytes) reads at).1
none_at Heard input stage bytes (inr header) at = (subst (λ (s : Stage). IsAt Heard input s bytes) header at).0

pub differs_at : {T E F : Type 0} (Heard : List ℕ → Type 0) (input : List ℕ) (stage : Stage) (bytes : List ℕ) (line : ℕ) (old new : SinkState) (fault : E) (result : Result ℕ F) → stage ≡ stages.Differs line → IsAt Heard input stage bytes → IsErr result
    → Puts {T = T} old new (illegal_text line) (Err fault) → Finishes (program_of Resumes) bytes old new result
differs_at Heard input stage bytes line old new fault result is at failed put =
    let here = subst (λ (s : Stage). IsAt Heard input s bytes) is at in
    differs_first bytes here.0 line old new fault result here.1 here.2 here.3 failed put

pub goes_on_at : {E : Type 0} (program : LiveProgram) (Heard : List ℕ → Type 0) (input : List ℕ) (stage : Stage) (bytes : List ℕ) (old new : SinkState) (result : Result ℕ E) → program ≡ program_of Runs → stage ≡ stages.GoesOn → IsAt Heard input stage bytes
    → ((front : List ℕ) → Heard front → Finishes program front old new result) → Finishes (program_of Resumes) bytes old new result
goes_on_at program Heard input stage bytes old new result runs is at ends =
    let here = subst (λ (s : Stage). IsAt Heard input s bytes) is at in
    goes_on_finishes program Heard bytes here.0 old new result here.3 runs here.1 here.2 (ends here.3.front here.3.heard)

pub settled_at : (program : LiveProgram) (Heard : List ℕ → Type 0) (input : List ℕ) (stage : Stage) (bytes : List ℕ) (r : Bool) → program ≡ program_of Runs → stage ≡ stages.GoesOn → IsAt Heard input stage bytes
    → ((front : List ℕ) → Heard front → r ≡ program.is_settled front) → r ≡ is_resume_settled bytes
settled_at program Heard input stage bytes r runs is at said =
    let here = subst (λ (s : Stage). IsAt Heard input s bytes) is at in
    settled_goes program Heard bytes here.0 r here.3 runs here.1 here.2 (said here.3.front here.3.heard)
