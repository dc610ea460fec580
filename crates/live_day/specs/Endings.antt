-- How a live day ends: the status, and what is told of that after all else.
use Rattle.std.specs.Prelude.{ℕ, ◌+◌, if◌then◌else◌, List, [], ◌++◌}
use Rattle.batch_records.specs.declared.day.DayCode.TheVariants as day_codes
use Rattle.program_answers.specs.Answers.{Answer, refusal_text, size_text}
use Rattle.live_records.specs.Heard.{Heard, has_end}
use Rattle.live_day.specs.declared.endings.Ending.{Ending}
use Rattle.live_day.specs.declared.endings.Ending.TheVariants as endings

abbrev pub ending_status : Ending → ℕ
ending_status endings.Broken = 3
ending_status endings.Complete = 0
ending_status (endings.Cut number) = 3
ending_status endings.TooLong = 7

abbrev pub ending_text : Ending → List ℕ
ending_text endings.Broken = []
ending_text endings.Complete = []
ending_text (endings.Cut number) = refusal_text number day_codes.Cut
ending_text endings.TooLong = size_text

-- the answer where this was told before
abbrev pub answer_as : Ending → List ℕ → Answer
answer_as ending text = record { status = ending_status ending; text = text ++ ending_text ending }

-- the end of an input that has ended, by what was heard of it
abbrev pub ending_of : Heard → Ending
ending_of h = if h.broken then endings.Broken else if has_end h then endings.Complete else endings.Cut (h.count + 1)
