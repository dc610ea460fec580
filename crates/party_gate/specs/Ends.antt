-- What a gate has to show of its answers to what a day tells.
use Rattle.std.proofs.Common.{◌≡◌, ◌<◌, ℕ, Bool, true, false, List, [], Option, Some, None, length, refl}
use Rattle.std.specs.Prelude.{◌||◌, is_some}
use Rattle.std.proofs.lemmas.Bool.{lt-ltb}
use Rattle.program_answers.specs.Programs.{is_no_answer}
use Rattle.party_gate.specs.Lines.{lines_from}
use Rattle.party_gate.specs.Passing.{end_told, is_told_long, longest_told, passed_on, status_of, told_to}
use Rattle.party_gate.specs.Out.{out_answer}
use Rattle.party_gate.specs.declared.passing.Ending.{Ending}
use Rattle.party_gate.specs.declared.passing.Ending.TheVariants as endings

status_own : (ending : Option Ending) (long : Bool) → is_no_answer (status_of ending long) ≡ false
status_own (Some endings.Last) long = refl
status_own (Some endings.Long) long = refl
status_own None true = refl
status_own None false = refl

-- no answer has the status of another end
pub own_status : (name bytes : List ℕ) → is_no_answer (out_answer name bytes).status ≡ false
own_status name bytes = status_own (end_told name bytes) (is_told_long bytes)

or_last : (a b : Bool) → b ≡ true → (a || b) ≡ true
or_last true b t = refl
or_last false b t = t

-- too many bytes settle it
pub long_settles : (name bytes : List ℕ) → longest_told < length bytes → (is_some (end_told name bytes) || is_told_long bytes) ≡ true
long_settles name bytes l = or_last (is_some (end_told name bytes)) (is_told_long bytes) (lt-ltb longest_told (length bytes) l)

pub none_told : (name : List ℕ) → told_to name [] ≡ []
unfolding lines_from passed_on
none_told name = refl
