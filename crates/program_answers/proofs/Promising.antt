-- What a program promises, by the way that a run took.
use Rattle.std.proofs.Common.{◌≡◌, ◌∙◌, ℕ, ◌≤◌, Bool, true, false, List, [], length, Option, refl, ap, sym, subst, arith, inl, inr}
use Rattle.std.specs.Prelude.{◌⊎◌}
use Rattle.std.proofs.lemmas.Bool.{false≢true}
use Rattle.std.specs.Borrow.{GName}
use Rattle.outside_io.specs.Causes.{one_more}
use Rattle.outside_io.specs.declared.gathering.GatheringSink.{GatheringSink}
use Rattle.outside_io.specs.Gathered.{sink_below, through}
use Rattle.refused_memory.specs.{WasRefused}
use Rattle.outside_io.specs.Pieces.{SinkState, TakesAtMost, ToldOnce}
use Rattle.program_answers.specs.Answers.{Answer}
use Rattle.program_answers.specs.Giving.{Says}
use Rattle.program_answers.specs.Programs.{Asks, HasTaken, IsAnswered, IsNoRequest, Program, Promises, WereRead, is_no_answer}
use Rattle.program_answers.specs.Runs.{HasRead, HasWritten, ReadsNothing, Run, WasCutShort, WritesNothing}
use Rattle.program_answers.proofs.Reading.{none_taken, told_once}
use Rattle.program_answers.proofs.Statuses.{asked, clash, none_of, other}

module _ {Request : Type 0} (program : Program Request) (run : Run) where
  -- what the source was asked for a request, for these bytes
  record Sourced (r : Request) (bytes : List ℕ) : Type 0 where
    read : WereRead program run r bytes
    unread : program.reads r ≡ false → ReadsNothing run
    told : (run.ends_after ≡ run.ends) ⊎ ToldOnce run.ends run.ends_after
    kept : run.read_faults_after ≡ run.read_faults

  -- a request that reads was read for
  reads_it : {P : Type 0} (r : Request) → program.reads r ≡ true → program.reads r ≡ false → P
  reads_it r reading idle = absurd (false≢true (sym idle ∙ reading))

  -- nothing is read for whatever the words ask for, where that reads nothing
  unread-asked : (r k : Request) → Asks program run r → (program.reads r ≡ false → ReadsNothing run) → Asks program run k → program.reads k ≡ false → ReadsNothing run
  unread-asked r k w unread t idle = unread (subst (λ x. program.reads x ≡ false) (sym (asked w t)) idle)

  sourced : (r : Request) (bytes : List ℕ) → program.reads r ≡ true → HasRead program.longest_input run bytes → run.read_faults_after ≡ run.read_faults → Sourced r bytes
  sourced r bytes reading read kept = record {
    read = record { input = λ h. read; none = reads_it r reading };
    unread = reads_it r reading;
    told = told_once program.longest_input run bytes read;
    kept = kept;
  }

  unsourced : (r : Request) → program.reads r ≡ false → ReadsNothing run → Sourced r []
  unsourced r idle nothing = record {
    read = record { input = λ reading. reads_it r reading idle; none = λ h. refl };
    unread = λ h. nothing;
    told = inl nothing.ends;
    kept = nothing.faults;
  }

  taken_sourced : (r : Request) (bytes : List ℕ) → HasTaken program run r bytes → Sourced r bytes
  taken_sourced r bytes taken = record { read = taken.read; unread = taken.unread; told = taken.told; kept = taken.kept }

  -- what was read for a request, or nothing
  pub taken-read : (r : Request) (bytes : List ℕ) → Asks program run r → program.reads r ≡ true → HasRead program.longest_input run bytes → length bytes ≤ program.longest_input → run.read_faults_after ≡ run.read_faults → HasTaken program run r bytes
  taken-read r bytes w reading read within kept =
      let source = sourced r bytes reading read kept in
      record { asks = w; within = within; read = source.read; unread = source.unread; told = source.told; kept = kept }

  pub taken-none : (r : Request) → Asks program run r → program.reads r ≡ false → ReadsNothing run → HasTaken program run r []
  taken-none r w idle nothing =
      let source = unsourced r idle nothing in
      record { asks = w; within = omega arith; read = source.read; unread = source.unread; told = source.told; kept = source.kept }

  -- ---- the words are no command line

  pub promise-usage : IsNoRequest program run → ReadsNothing run → Says run.sink run.sink_after (record { status = 2; text = program.usage_text }) run.status → Promises program run
  promise-usage w nothing (inl said) =
      let e = said.0 in
      record {
        status = inl (ap is_no_answer e);
        memory = other _ 2 1 e refl;
        refused = other _ 2 1 e refl;
        usage = λ h. (w, said.1);
        read_fault = other _ 2 4 e refl;
        write_fault = other _ 2 5 e refl;
        no_read_fault = λ h. nothing.faults;
        end_told_once = inl nothing.ends;
        no_write_fault = λ h. said.1.kept;
        other_words = λ h. (inl e, nothing);
        unread = λ r t idle. nothing;
        complete = λ r t a b. clash _ r w t;
        read_faults_stay = omega (arith, nothing.faults);
        write_faults_stay = omega (arith, said.1.kept);
      }
  promise-usage w nothing (inr said) =
      let e = said.0 in
      record {
        status = inl (ap is_no_answer e);
        memory = other _ 5 1 e refl;
        refused = other _ 5 1 e refl;
        usage = other _ 5 2 e refl;
        read_fault = other _ 5 4 e refl;
        write_fault = λ h. (program.usage_text, inl (w, refl), said.1);
        no_read_fault = λ h. nothing.faults;
        end_told_once = inl nothing.ends;
        no_write_fault = λ h. absurd (h e);
        other_words = λ h. (inr e, nothing);
        unread = λ r t idle. nothing;
        complete = λ r t a b. clash _ r w t;
        read_faults_stay = omega (arith, nothing.faults);
        write_faults_stay = said.1.later;
      }

  -- ---- memory is wanting, or a read failed

  promise-short : (r : Request) → Asks program run r → run.status ≡ 1 → WasRefused → program.RanShort run → (program.reads r ≡ false → ReadsNothing run) → (run.ends_after ≡ run.ends) ⊎ ToldOnce run.ends run.ends_after → run.sink_after.faults ≡ run.sink.faults → run.read_faults_after ≡ run.read_faults → Promises program run
  promise-short r w e cause short unread told still kept = record {
    status = inl (ap is_no_answer e);
    memory = λ h. ((r, w), short);
    refused = λ h. cause;
    usage = other _ 1 2 e refl;
    read_fault = other _ 1 4 e refl;
    write_fault = other _ 1 5 e refl;
    no_read_fault = λ h. kept;
    end_told_once = told;
    no_write_fault = λ h. still;
    other_words = λ h. clash _ r h w;
    unread = λ k. unread-asked r k w unread;
    complete = λ k t a b. inl e;
    read_faults_stay = omega (arith, kept);
    write_faults_stay = omega (arith, still);
  }

  pub promise-memory : (r : Request) → Asks program run r → program.reads r ≡ true → run.status ≡ 1 → WasRefused → program.RanShort run → (run.ends_after ≡ run.ends) ⊎ ToldOnce run.ends run.ends_after → run.sink_after.faults ≡ run.sink.faults → run.read_faults_after ≡ run.read_faults → Promises program run
  promise-memory r w reading e cause short = promise-short r w e cause short (reads_it r reading)

  pub promise-fault : (r : Request) → Asks program run r → program.reads r ≡ true → run.status ≡ 4 → TakesAtMost run.left run.left_after program.longest_input → run.ends_after ≡ run.ends → WritesNothing run → run.read_faults_after ≡ one_more run.read_faults → run.read_faults ≤ run.read_faults_after → Promises program run
  promise-fault r w reading e took untold nothing counted stay =
      let still = ap (λ (s : SinkState). s.faults) nothing in
      record {
        status = inl (ap is_no_answer e);
        memory = other _ 4 1 e refl;
        refused = other _ 4 1 e refl;
        usage = other _ 4 2 e refl;
        read_fault = λ h. ((r, w, reading), (took, nothing), counted);
        write_fault = other _ 4 5 e refl;
        no_read_fault = λ h. absurd (h e);
        end_told_once = inl untold;
        no_write_fault = λ h. still;
        other_words = λ h. clash _ r h w;
        unread = λ k. unread-asked r k w (reads_it r reading);
        complete = λ k t a b. absurd (a (omega (arith, counted)));
        read_faults_stay = stay;
        write_faults_stay = omega (arith, still);
      }

  -- ---- what was read was answered

  promise-whole : (r : Request) (bytes : List ℕ) (answer : Answer) → Asks program run r → Sourced r bytes → program.IsAnswer r bytes answer → is_no_answer answer.status ≡ false → run.status ≡ answer.status → HasWritten run answer.text → Promises program run
  promise-whole r bytes answer w source is own said text =
      let no = none_of answer.status own in
      let given : IsAnswered program run r = record { answer = answer; due = record { bytes = bytes; read = source.read; is = is }; status = said; text = text } in
      record {
        status = inr (r, w, given);
        memory = other _ answer.status 1 said no.0;
        refused = other _ answer.status 1 said no.0;
        usage = other _ answer.status 2 said no.1;
        read_fault = other _ answer.status 4 said no.2;
        write_fault = other _ answer.status 5 said no.3;
        no_read_fault = λ h. source.kept;
        end_told_once = source.told;
        no_write_fault = λ h. text.kept;
        other_words = λ h. clash _ r h w;
        unread = λ k. unread-asked r k w source.unread;
        complete = λ k t a b. inr (subst (IsAnswered program run) (asked w t) given);
        read_faults_stay = omega (arith, source.kept);
        write_faults_stay = omega (arith, text.kept);
      }

  promise-cut : (r : Request) (bytes : List ℕ) (answer : Answer) → Asks program run r → Sourced r bytes → program.IsAnswer r bytes answer → run.status ≡ 5 → WasCutShort run answer.text → Promises program run
  promise-cut r bytes answer w source is e cut = record {
    status = inl (ap is_no_answer e);
    memory = other _ 5 1 e refl;
    refused = other _ 5 1 e refl;
    usage = other _ 5 2 e refl;
    read_fault = other _ 5 4 e refl;
    write_fault = λ h. (answer.text, inr (r, w, answer, record { bytes = bytes; read = source.read; is = is }, refl), cut);
    no_read_fault = λ h. source.kept;
    end_told_once = source.told;
    no_write_fault = λ h. absurd (h e);
    other_words = λ h. clash _ r h w;
    unread = λ k. unread-asked r k w source.unread;
    complete = λ k t a b. absurd (b (omega (arith, cut.counted)));
    read_faults_stay = omega (arith, source.kept);
    write_faults_stay = cut.later;
  }

  promise-given : (r : Request) (bytes : List ℕ) (answer : Answer) → Asks program run r → Sourced r bytes → program.IsAnswer r bytes answer → is_no_answer answer.status ≡ false → Says run.sink run.sink_after answer run.status → Promises program run
  promise-given r bytes answer w source is own (inl said) = promise-whole r bytes answer w source is own said.0 said.1
  promise-given r bytes answer w source is own (inr said) = promise-cut r bytes answer w source is said.0 said.1

  pub promise-said : (r : Request) (bytes : List ℕ) (answer : Answer) → Asks program run r → program.reads r ≡ true → HasRead program.longest_input run bytes → program.IsAnswer r bytes answer → is_no_answer answer.status ≡ false → Says run.sink run.sink_after answer run.status → run.read_faults_after ≡ run.read_faults → Promises program run
  promise-said r bytes answer w reading read is own said kept = promise-given r bytes answer w (sourced r bytes reading read kept) is own said

  -- one of the answers that are right, or nothing for want of memory
  promise-some : (r : Request) (bytes : List ℕ) → Asks program run r → Sourced r bytes → (WritesNothing run → program.RanShort run) → ((answer : Answer) → program.IsAnswer r bytes answer → is_no_answer answer.status ≡ false) →
      ((run.status ≡ 1) × WritesNothing run × WasRefused) ⊎ ((answer : Answer) × program.IsAnswer r bytes answer × Says run.sink run.sink_after answer run.status) → Promises program run
  promise-some r bytes w source short own (inl none) = promise-short r w none.0 none.2 (short none.1) source.unread source.told (ap (λ (s : SinkState). s.faults) none.1) source.kept
  promise-some r bytes w source short own (inr said) = promise-given r bytes said.0 w source said.1 (own said.0 said.1) said.2

  took_few : (r : Request) (bytes : List ℕ) → HasTaken program run r bytes → (b : Bool) → program.reads r ≡ b → TakesAtMost run.left run.left_after program.longest_input
  took_few r bytes taken true reading = (bytes, taken.within, (taken.read.input reading).taken)
  took_few r bytes taken false idle = none_taken run.left run.left_after program.longest_input (taken.unread idle).left

  pub promise-taken : (r : Request) (bytes : List ℕ) → HasTaken program run r bytes → (TakesAtMost run.left run.left_after program.longest_input × WritesNothing run → program.RanShort run) → ((answer : Answer) → program.IsAnswer r bytes answer → is_no_answer answer.status ≡ false) →
      ((run.status ≡ 1) × WritesNothing run × WasRefused) ⊎ ((answer : Answer) × program.IsAnswer r bytes answer × Says run.sink run.sink_after answer run.status) → Promises program run
  promise-taken r bytes taken short own said =
      promise-some r bytes taken.asks (taken_sourced r bytes taken) (λ still. short (took_few r bytes taken (program.reads r) refl, still)) own said

-- ---- over a sink that gathers

abbrev run_of : List (List ℕ) → ℕ → Option (List ℕ) → Option (List ℕ) → ℕ → ℕ → Option ℕ → Option ℕ → SinkState → SinkState → Run
run_of words status left left_after faults faults_after ends ends_after sink sink_after = record {
  words = words;
  status = status;
  left = left;
  left_after = left_after;
  read_faults = faults;
  read_faults_after = faults_after;
  ends = ends;
  ends_after = ends_after;
  sink = sink;
  sink_after = sink_after;
}

-- what is promised of the sink below is promised of the one that was lent
pub promised_below : {Request S : Type 0} (program : Program Request) (state : S → SinkState) (words : List (List ℕ)) (status : ℕ) (left left_after : Option (List ℕ)) (faults faults_after : ℕ) (ends ends_after : Option ℕ) (first last : GatheringSink S) (old out : S) (name : GName) →
    through first ≡ name → sink_below first ≡ old → through last ≡ through first → (name ≡ through last → out ≡ sink_below last) → Promises program (run_of words status left left_after faults faults_after ends ends_after (state (sink_below first)) (state (sink_below last))) →
    Promises program (run_of words status left left_after faults faults_after ends ends_after (state old) (state out))
promised_below program state words status left left_after faults faults_after ends ends_after first last old out name named below same is promise =
    subst (λ x. Promises program (run_of words status left left_after faults faults_after ends ends_after (state old) (state x))) (sym (is (sym (same ∙ named))))
    (subst (λ x. Promises program (run_of words status left left_after faults faults_after ends ends_after (state x) (state (sink_below last)))) below promise)
