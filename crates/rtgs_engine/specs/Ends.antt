-- What every program has to show of its answers.
use Rattle.std.proofs.Common.{◌≡◌, ℕ, ◌<◌, true, false, List, [], length, ap, sym, refl, arith, inl, inr}
use Rattle.program_answers.specs.Answers.{Answer, too_long}
use Rattle.program_answers.specs.Limits.{longest_input}
use Rattle.program_answers.specs.Programs.{is_no_answer}
use Rattle.program_answers.proofs.DayAnswers.{answer_long}
use Rattle.rtgs_engine.specs.declared.words.Command.{Command}
use Rattle.rtgs_engine.specs.declared.words.Command.TheVariants as commands
use Rattle.rtgs_engine.specs.CommandLines.{reads}
use Rattle.rtgs_engine.specs.Promises.{IsAnswer, IsInputAnswer, IsOneOf}

-- an answer to a command that reads
pub of_input : (c : Command) (bytes : List ℕ) (answer : Answer) → reads c ≡ true → IsInputAnswer c bytes answer → IsAnswer c bytes answer
of_input (commands.Settle workers) bytes answer reading is = is
of_input commands.Check bytes answer reading is = is
of_input commands.Migrate bytes answer reading is = is
of_input commands.Replay bytes answer reading is = is
of_input (commands.Follow name) bytes answer reading is = is
of_input (commands.Trial trial) bytes answer reading is = absurd (cc)

-- no answer has the status of another end
one_of_status : (c : Command) (bytes : List ℕ) (answer : Answer) → IsOneOf c bytes answer → is_no_answer answer.status ≡ false
one_of_status c bytes answer (inl is) = ap is_no_answer is.0
one_of_status c bytes answer (inr (inl is)) = ap is_no_answer is.0
one_of_status c bytes answer (inr (inr (inl is))) = ap is_no_answer is.0
one_of_status c bytes answer (inr (inr (inr is))) = ap is_no_answer is.0

pub own_statuses : (c : Command) (bytes : List ℕ) (answer : Answer) → IsAnswer c bytes answer → is_no_answer answer.status ≡ false
own_statuses (commands.Settle workers) bytes answer is = one_of_status (commands.Settle workers) bytes answer is.one_of
own_statuses commands.Check bytes answer is = one_of_status commands.Check bytes answer is.one_of
own_statuses commands.Migrate bytes answer is = one_of_status commands.Migrate bytes answer is.one_of
own_statuses commands.Replay bytes answer is = one_of_status commands.Replay bytes answer is.one_of
own_statuses (commands.Follow name) bytes answer is = one_of_status (commands.Follow name) bytes answer is.one_of
own_statuses (commands.Trial trial) bytes answer is = ap is_no_answer is.0

-- a longer input is told so
pub long_answer : (c : Command) (bytes : List ℕ) → reads c ≡ true → longest_input < length bytes → IsAnswer c bytes too_long
long_answer c bytes reading long = of_input c bytes too_long reading (record {
  journal = [];
  of_day = λ short. absurd (omega (arith, long, short));
  is = sym (answer_long longest_input _ bytes long);
  one_of = inr (inr (inr (refl, record { long = long; is = refl })));
})
