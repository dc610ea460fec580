-- What was read.
use Rattle.std.proofs.Common.{◌≡◌, ℕ, ◌+◌, ◌≤◌, Bool, true, false, List, [], length, Option, Some, None, Result, Err, refl, sym, subst, arith, inl, inr}
use Rattle.std.specs.Prelude.{nat_lt, ◌⊎◌}
use Rattle.std.specs.Io.KnownBytes.{Consumes, IsAtEnd}
use Rattle.std.proofs.lemmas.Bool.{ltb-false, ltb-true}
use Rattle.outside_io.specs.Pieces.{TakesAtMost, ToldOnce}
use Rattle.batch_records.specs.DayRecord.{Day}
use Rattle.batch_records.specs.declared.day.DayCode.{DayCode}
use Rattle.batch_records.specs.declared.day.DayFault.{DayFault}
use Rattle.batch_records.specs.declared.day.DayFault.TheVariants as day_faults
use Rattle.batch_records.specs.DayAnswers.{Tells}
use Rattle.program_answers.specs.Runs.{HasRead, Run}

-- a source tells its end once where all was read, and else not
pub told_once : (longest : ℕ) (run : Run) (bytes : List ℕ) → HasRead longest run bytes → (run.ends_after ≡ run.ends) ⊎ ToldOnce run.ends run.ends_after
told_once longest run bytes read = go (nat_lt longest (length bytes)) refl
  where
    go : (b : Bool) → nat_lt longest (length bytes) ≡ b → (run.ends_after ≡ run.ends) ⊎ ToldOnce run.ends run.ends_after
    go true e = inl (read.not_told (ltb-true longest (length bytes) e))
    go false e = inr (read.to_the_end (ltb-false longest (length bytes) e)).1

-- where nothing was read nothing was taken
pub none_taken : (old new : Option (List ℕ)) (longest : ℕ) → new ≡ old → TakesAtMost old new longest
none_taken None new longest same = ([], omega arith, tt)
none_taken (Some xs) None longest same = absurd (cc)
none_taken (Some xs) (Some ys) longest same = ([], omega arith, cc same)

pub read-all : (longest : ℕ) (run : Run) (left : List ℕ) (bytes : List ℕ) → bytes ≡ left → Consumes run.left run.left_after left → IsAtEnd run.left_after → ToldOnce run.ends run.ends_after → length left ≤ longest → HasRead longest run bytes
read-all longest run left bytes e taken end told within =
    subst (HasRead longest run) (sym e) (record { taken = taken; within = omega (arith, within); to_the_end = λ short. (end, told); not_told = λ long. absurd (omega (arith, long, within)) })

pub read-long : (longest : ℕ) (run : Run) (bytes : List ℕ) → length bytes ≡ longest + 1 → Consumes run.left run.left_after bytes → run.ends_after ≡ run.ends → HasRead longest run bytes
read-long longest run bytes long taken untold = record { taken = taken; within = omega (arith, long); to_the_end = λ short. absurd (omega (arith, long, short)); not_told = λ more. untold }

-- a day that was refused was refused by the definition
pub told_fault : (fault : DayFault) (read : Result (Day × ℕ) (ℕ × DayCode)) (number : ℕ) (code : DayCode) → fault ≡ day_faults.Record number code → Tells fault read → read ≡ Err (number, code)
told_fault fault read number code e t = subst (λ f. Tells f read) e t
