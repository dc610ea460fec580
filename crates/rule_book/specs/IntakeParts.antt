-- The table of an intake's codes in two parts: what the procedures have alike, and what is a batch's own.
use Rattle.std.specs.Prelude.{ℕ, Bool, true, false, not, ◌&&◌, [], ◌∷◌, Option, is_none, unwrap_or}
use Rattle.std.specs.List.{list_all}
use Rattle.batch_records.specs.DayRecord.{Day}
use Rattle.commit_journal.specs.declared.line.Code.{Code}
use Rattle.commit_journal.specs.declared.line.Code.TheVariants as line_codes
use Rattle.commit_journal.specs.Line.{History}
use Rattle.cash_amounts.specs.declared.records.Procedure.{Procedure}
use Rattle.cash_amounts.specs.declared.records.Procedure.TheVariants.{C}
use Rattle.machine.specs.Words.{first_case, first_some, when}
use Rattle.machine.specs.Records.Setup.{is_system, uses}
use Rattle.machine.specs.Records.Messages.{sort_of_batch, sender, entries, is_repeat}
use Rattle.machine.specs.Telling.History.{taken_code}
use Rattle.machine.specs.Telling.Facts.{open_cycle}
use Rattle.machine.specs.Stages.Intake.{count_is_wrong, sum_is_wrong, is_not_zero, entry_fits, times_are_wrong, intake_code}

-- Of a batch the table is in two parts. The rows that are the same for each procedure:
unfoldable pub common_fault : Procedure → Day → ℕ → Option Code
common_fault p day n = first_some (
    when (is_repeat day n) line_codes.Du
    ∷ when (not (is_system day (sender day n))) line_codes.Us
    ∷ when (not (uses day (sender day n) p)) line_codes.Pr
    ∷ when (count_is_wrong day n) line_codes.Ct
    ∷ when (sum_is_wrong day n) line_codes.Sm
    ∷ [])

-- and after them those that the procedures have for themselves
abbrev pub has_cycles : Procedure → Bool
has_cycles C = true
has_cycles _ = false

unfoldable pub own_code : Procedure → Day → History → ℕ → Code
own_code p day J n = first_case (
    (is_not_zero (sort_of_batch p) day n, line_codes.Nz)
    ∷ (not (list_all (entry_fits (sort_of_batch p) day n) (entries day n)), line_codes.En)
    ∷ (times_are_wrong (sort_of_batch p) day J n, line_codes.Ti)
    ∷ (has_cycles p && is_none (open_cycle day (sender day n) J), line_codes.Cy)
    ∷ []) line_codes.Ok

-- a taken message keeps the code of its In line
abbrev pub code_of : Day → History → ℕ → Code
code_of day J n = unwrap_or (taken_code J n) (intake_code day J n)
