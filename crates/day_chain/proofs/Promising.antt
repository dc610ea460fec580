-- What the program promises, by the way that a run took.
use Rattle.std.proofs.Common.{◌≡◌, ℕ, suc, ◌<◌, ◌≤◌, false, List, [], ◌∷◌, length, Some, None, refl, ap, sym, subst, arith, inl, inr}
use Rattle.std.specs.Prelude.{if◌then◌else◌, nat_eq, ◌⊎◌}
use Rattle.std.proofs.lemmas.Bool.{lt-ltb}
use Rattle.outside_io.specs.Pieces.{HasPut, SinkState, TakesAtMost}
use Rattle.outside_io.proofs.PutLemmas.{has_put_none}
use Rattle.program_answers.specs.Answers.{Answer, too_long}
use Rattle.program_answers.specs.Giving.{Says}
use Rattle.program_answers.specs.Programs.{Asks, is_no_answer}
use Rattle.program_answers.specs.Runs.{HasRead, Run, WritesNothing}
use Rattle.program_answers.proofs.Promising.{promise-memory, promise-said}
use Rattle.program_answers.proofs.Reading.{told_once}
use Rattle.program_answers.proofs.Statuses.{none_of}
use Rattle.day_chain.specs.Answers.{answer_from, answer_of, longest_input, TellsAll}
use Rattle.refused_memory.specs.{WasRefused}
use Rattle.day_chain.specs.ChainTexts.{parts_text}
use Rattle.day_chain.specs.Promises.{ChainPromises, IsAnswer, IsDefined, RanShort, chain_program, request_of}
use Rattle.day_chain.proofs.Answering.{all_answers, front_none}

-- ---- memory is wanting while the input is read

no_parts : (old new : SinkState) → new ≡ old → HasPut old new (parts_text [])
unfolding parts_text
no_parts old new e = subst (λ s. HasPut old s []) (sym e) (has_put_none old)

pub promise-unread : (run : Run) → Asks chain_program run tt → run.status ≡ 1 → WasRefused → TakesAtMost run.left run.left_after longest_input → run.ends_after ≡ run.ends → WritesNothing run → run.read_faults_after ≡ run.read_faults → ChainPromises run
promise-unread run w e cause took untold nothing kept =
    let short : RanShort run = record {
      bytes = took.0;
      taken = took.2;
      within = omega (arith, took.1);
      told = [];
      rest = took.0;
      front = front_none took.0;
      text = no_parts run.sink run.sink_after nothing;
    } in
    promise-memory chain_program run tt w refl e cause short (inl untold) (ap (λ (s : SinkState). s.faults) nothing) kept

-- ---- the input is too long

answer-long : (bytes : List ℕ) → longest_input < length bytes → answer_of bytes ≡ too_long
unfolding answer_of
answer-long bytes long = ap (λ b. if b then too_long else answer_from (suc (length bytes)) [] bytes) (lt-ltb longest_input (length bytes) long)

pub promise-long : (run : Run) (bytes : List ℕ) → Asks chain_program run tt → HasRead longest_input run bytes → longest_input < length bytes → Says run.sink run.sink_after too_long run.status → run.read_faults_after ≡ run.read_faults → ChainPromises run
promise-long run bytes w read long said kept =
    let is : IsDefined bytes too_long = (sym (answer-long bytes long), inr (refl, record { long = long; is = refl })) in
    promise-said chain_program run tt bytes too_long w refl read is refl said kept

-- ---- the input was told

-- no answer has the status of another end
own_status : (bytes : List ℕ) (answer : Answer) → IsAnswer bytes answer → is_no_answer answer.status ≡ false
own_status bytes answer (inl is) = ap is_no_answer is.0
own_status bytes answer (inr (inl is)) = ap is_no_answer is.0
own_status bytes answer (inr (inr is)) = ap is_no_answer is.0

pub never_five : (bytes : List ℕ) → length bytes ≤ longest_input → nat_eq (answer_of bytes).status 5 ≡ false
never_five bytes short = (none_of (answer_of bytes).status (own_status bytes (answer_of bytes) (all_answers bytes short))).3

pub promise-told : (run : Run) (bytes : List ℕ) → Asks chain_program run tt → HasRead longest_input run bytes → length bytes ≤ longest_input → TellsAll bytes run.sink run.sink_after run.status → run.read_faults_after ≡ run.read_faults → ChainPromises run
promise-told run bytes w read short (inl lack) kept =
    let ran : RanShort run = record { bytes = bytes; taken = read.taken; within = read.within; told = lack.told; rest = lack.rest; front = lack.front; text = lack.put } in
    promise-memory chain_program run tt w refl lack.short lack.refused ran (told_once longest_input run bytes read) lack.put.kept kept
promise-told run bytes w read short (inr said) kept =
    let says = all_answers bytes short in
    promise-said chain_program run tt bytes (answer_of bytes) w refl read (refl, inl (short, says)) (own_status bytes (answer_of bytes) says) said kept

-- ---- words

pub some_words : (words : List (List ℕ)) (n : ℕ) → n ≡ length words → 0 < n → request_of words ≡ None
some_words [] n count some = absurd (omega (arith, count, some))
some_words (word ∷ words) n count some = refl

pub no_words : (words : List (List ℕ)) (n : ℕ) → n ≡ length words → n ≤ 0 → request_of words ≡ Some tt
no_words [] n count none = refl
no_words (word ∷ words) n count none = absurd (omega (arith, count, none))
