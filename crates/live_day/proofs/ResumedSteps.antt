-- How far a run that goes on has come, piece by piece.
use Rattle.std.proofs.Common.{◌≡◌, ◌∙◌, ◌+◌, ◌-◌, ◌≤◌, ◌++◌, ℕ, Bool, true, false, not, List, [], Option, None, Some, Result, Ok, Err, append_assoc, append-nil, drop, length, length-append, take, refl, sym, ap, subst, arith}
use Rattle.std.specs.Prelude.{◌||◌, IfOk, OnOk}
use Rattle.std.proofs.lemmas.List.{drop-append-le}
use Rattle.outside_io.specs.Calls.{Puts}
use Rattle.outside_io.specs.Pieces.{SinkState}
use Rattle.outside_io.proofs.PutLemmas.{has_put_none}
use Rattle.program_answers.specs.LivePrograms.{TellsMore}
use Rattle.live_day.specs.Answers.{is_settled_by, looked_at}
use Rattle.live_day.specs.Beginnings.{before_at, part}
use Rattle.live_day.specs.GoingOn.{HasGone}
use Rattle.live_day.specs.Promises.{Resumes, Runs, program_of}
use Rattle.live_day.specs.Resumed.{Before, before_of, first_line, has_no_header, is_own, is_resume_settled, settles, told_resumed}
use Rattle.live_day.specs.Resuming.{HasResumed, IsAt, SetsOut, before, input_of}
use Rattle.live_day.specs.Told.{told}
use Rattle.live_day.specs.declared.resuming.Resuming.{Resuming}
use Rattle.live_day.specs.declared.resuming.Stage.{Stage}
use Rattle.live_day.specs.declared.resuming.Stage.TheVariants as stages
use Rattle.live_day.proofs.EndFacts.{told_front}
use Rattle.live_day.proofs.HeaderFacts.{before_more, read_within, rest_of}
use Rattle.live_day.proofs.PlaceFacts.{wanted_short}
use Rattle.live_day.proofs.SetOutFacts.{own_is}

-- ---- before any byte

pub none_before : before_of [] ≡ None
unfolding before_of first_line
none_before = refl

pub none_header : has_no_header [] ≡ false
unfolding first_line
none_header = refl

-- ---- what came first

pub quiet : {T E : Type 0} (old input : List ℕ) (s : SinkState) (value : T) → before_of old ≡ None → before_of input ≡ None → TellsMore {E = E} (program_of Resumes) old input s s (Ok value)
quiet old input s value e f = record {
  text = [];
  is = ap told_resumed f ∙ sym (append-nil []) ∙ ap (λ (o : Option Before). told_resumed o ++ []) (sym e);
  put = record { ok = has_put_none s; err = tt };
}

pub begun_told : {T E : Type 0} (old input : List ℕ) (b : Before) (s new : SinkState) (result : Result T E) → before_of old ≡ None → before_of input ≡ Some b → Puts s new (told_resumed (Some b)) result → TellsMore (program_of Resumes) old input s new result
begun_told old input b s new result e f put = record {
  text = told_resumed (Some b);
  is = ap told_resumed f ∙ ap (λ (o : Option Before). told_resumed o ++ told_resumed (Some b)) (sym e);
  put = put;
}

-- by the places where it stands
pub placed_before : (input : List ℕ) (read read_end written written_end : ℕ) → before_of input ≡ Some (before_at input read read_end written written_end)
    → before_of input ≡ Some (before (part input read read_end) (part input written written_end) (take (length input - written_end) (drop written_end input)))
placed_before input read read_end written written_end e = e ∙ ap (λ (t : List ℕ). Some (before (part input read read_end) (part input written written_end) t)) (sym (rest_of input written_end))

sets_at : (Heard : List ℕ → Type 0) (input bytes : List ℕ) (b : Before) (stage : Stage) → before_of bytes ≡ Some b → SetsOut Heard b stage → IsAt Heard input stage bytes
sets_at Heard input bytes b stages.Reads e h = absurd h
sets_at Heard input bytes b stages.NoHeader e h = absurd h
sets_at Heard input bytes b (stages.Differs line) e h = (b, e, h.0, h.1)
sets_at Heard input bytes b stages.GoesOn e h = (b, e, h.0, h.1)

pub set_at : {E : Type 0} (Heard : List ℕ → Type 0) (input : List ℕ) (b : Before) (result : Result Stage E) → before_of input ≡ Some b → IfOk result (λ stage. SetsOut Heard b stage) → IfOk result (λ stage. IsAt Heard input stage input)
set_at Heard input b (Ok stage) e h = sets_at Heard input input b stage e h
set_at Heard input b (Err fault) e h = tt

abbrev sliced : List ℕ → ℕ → ℕ → ℕ → ℕ → Before
sliced input read read_end written written_end = before (part input read read_end) (part input written written_end) (take (length input - written_end) (drop written_end input))

pub placed_told : {T E : Type 0} (old items input : List ℕ) (read read_end written written_end : ℕ) (s new : SinkState) (result : Result T E) → before_of old ≡ None → input ≡ items → before_of input ≡ Some (before_at input read read_end written written_end)
    → Puts s new (told_resumed (Some (sliced input read read_end written written_end))) result → TellsMore (program_of Resumes) old items s new result
placed_told old items input read read_end written written_end s new result e is there put =
    begun_told old items (sliced input read read_end written written_end) s new result e (ap before_of (sym is) ∙ placed_before input read read_end written written_end there) put

pub placed_at : {E : Type 0} (Heard : List ℕ → Type 0) (items input : List ℕ) (read read_end written written_end : ℕ) (result : Result Stage E) → input ≡ items → before_of input ≡ Some (before_at input read read_end written written_end)
    → IfOk result (λ stage. SetsOut Heard (sliced input read read_end written written_end) stage) → IfOk result (λ stage. IsAt Heard items stage items)
placed_at Heard items input read read_end written written_end result is there h =
    set_at Heard items (sliced input read read_end written written_end) result (ap before_of (sym is) ∙ placed_before input read read_end written written_end there) h

-- ---- stages that hear no more

or_last : (x y : Bool) → y ≡ true → (x || y) ≡ true
or_last true y e = refl
or_last false y e = e

pub header_settles : {D : Type 0} (has_heard : D → List ℕ → Type 0) (r : Resuming D) (bytes : List ℕ) → HasResumed has_heard r bytes → r.stage ≡ stages.NoHeader → is_resume_settled bytes ≡ true
header_settles has_heard r bytes h e =
    let at = subst (λ (s : Stage). IsAt (has_heard r.day) r.input.bytes.items s bytes) e h.at in
    ap (λ (x : Bool). x || settles (before_of bytes)) at.1

pub line_settles : {D : Type 0} (has_heard : D → List ℕ → Type 0) (r : Resuming D) (bytes : List ℕ) (line : ℕ) → HasResumed has_heard r bytes → r.stage ≡ stages.Differs line → is_resume_settled bytes ≡ true
line_settles has_heard r bytes line h e =
    let at = subst (λ (s : Stage). IsAt (has_heard r.day) r.input.bytes.items s bytes) e h.at in
    let b = at.0 in
    or_last (has_no_header bytes) (settles (before_of bytes)) (ap settles at.1 ∙ ap (λ (x : Bool). not x || is_settled_by (b.read ++ b.rest)) at.2)

-- ---- the stage that reads

pub reads_at : {D : Type 0} (has_heard : D → List ℕ → Type 0) (r : Resuming D) (bytes : List ℕ) → HasResumed has_heard r bytes → r.stage ≡ stages.Reads → (r.input.bytes.items ≡ bytes) × (before_of bytes ≡ None) × (has_no_header bytes ≡ false) × has_heard r.day []
reads_at has_heard r bytes h e = subst (λ (s : Stage). IsAt (has_heard r.day) r.input.bytes.items s bytes) e h.at

-- ---- the stage that goes on

goes_at_more : {D : Type 0} (has_heard : D → List ℕ → Type 0) (day' : D) (input bytes piece : List ℕ) (b : Before) → before_of bytes ≡ Some b → is_own b ≡ true → HasGone (has_heard day') (input_of b ++ piece) → IsAt (has_heard day') input stages.GoesOn (bytes ++ piece)
goes_at_more has_heard day' input bytes piece b e own gone =
    (record b { rest = b.rest ++ piece }, before_more bytes piece b e, own, subst (HasGone (has_heard day')) (append_assoc b.read b.rest piece) gone)

pub goes_heard : {D T E : Type 0} (has_heard : D → List ℕ → Type 0) (r : Resuming D) (day' : D) (bytes piece : List ℕ) (result : Result T E) → r.stage ≡ stages.GoesOn → HasResumed has_heard r bytes
    → ((all : List ℕ) → HasGone (has_heard r.day) all → OnOk result (HasGone (has_heard day') (all ++ piece))) → OnOk result (HasResumed has_heard (record r { day = day'; size = r.size + length piece }) (bytes ++ piece))
goes_heard {D} {T} {E} has_heard r day' bytes piece result e h goes =
    let at = subst (λ (s : Stage). IsAt (has_heard r.day) r.input.bytes.items s bytes) e h.at in
    by at.0 at.1 at.2 result (goes (input_of at.0) at.3)
  where
    by : (b : Before) → before_of bytes ≡ Some b → is_own b ≡ true → (q : Result T E) → OnOk q (HasGone (has_heard day') (input_of b ++ piece)) → OnOk q (HasResumed has_heard (record r { day = day'; size = r.size + length piece }) (bytes ++ piece))
    by b f own (Ok v) gone = record {
      size = (let s = h.size in let a = length-append bytes piece in omega (arith, s, a));
      at = subst (λ (s : Stage). IsAt (has_heard day') r.input.bytes.items s (bytes ++ piece)) (sym e) (goes_at_more has_heard day' r.input.bytes.items bytes piece b f own gone);
    }
    by b f own (Err v) gone = tt

pub goes_told_more : {D T E : Type 0} (has_heard : D → List ℕ → Type 0) (r : Resuming D) (bytes piece : List ℕ) (old new : SinkState) (result : Result T E) → r.stage ≡ stages.GoesOn → HasResumed has_heard r bytes
    → ((all : List ℕ) → HasGone (has_heard r.day) all → TellsMore (program_of Runs) all (all ++ piece) old new result) → TellsMore (program_of Resumes) bytes (bytes ++ piece) old new result
goes_told_more has_heard r bytes piece old new result e h goes =
    let at = subst (λ (s : Stage). IsAt (has_heard r.day) r.input.bytes.items s bytes) e h.at in
    let b = at.0 in
    let more = goes (input_of b) at.3 in
    let front = told_front b.read b.rest (read_within bytes b at.1) in
    let short = wanted_short b.written (told b.read) at.2 in
    let size = ap (length {A = ℕ}) front.1 in
    let sum = length-append (told b.read) front.0 in
    let inside : length b.written ≤ length (told (looked_at (input_of b))) = omega (arith, short, size, sum) in
    record {
      text = more.text;
      is = ap told_resumed (before_more bytes piece b at.1)
          ∙ own_is (record b { rest = b.rest ++ piece }) true at.2
          ∙ ap (λ (t : List ℕ). drop (length b.written) (told (looked_at t))) (sym (append_assoc b.read b.rest piece))
          ∙ ap (drop (length b.written)) more.is
          ∙ drop-append-le (length b.written) (told (looked_at (input_of b))) more.text inside
          ∙ ap (λ (t : List ℕ). t ++ more.text) (sym (ap told_resumed at.1 ∙ own_is b true at.2));
      put = more.put;
    }
