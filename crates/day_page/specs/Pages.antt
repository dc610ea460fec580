-- The text of a page: the figures over a journal, one part after another.
use Rattle.std.specs.Prelude.{ℕ, if◌then◌else◌, List, [], ◌∷◌, ◌++◌, Option, Some, None, length, decimal, codes}
use Rattle.period_calendar.specs.MomentTexts.{date_text}
use Rattle.batch_records.specs.DayRecord.{Day}
use Rattle.commit_journal.specs.Line.{History}
use Rattle.machine.specs.Telling.History.{clock, is_ended}
use Rattle.day_page.specs.declared.words.Request.{Request}
use Rattle.day_page.specs.BalanceTexts.{balances_text}
use Rattle.day_page.specs.Bars.{bars, changes, marks}
use Rattle.day_page.specs.BarTexts.{bars_text}
use Rattle.day_page.specs.CountTexts.{counts_text}
use Rattle.day_page.specs.Courses.{all_points, courses, shown}
use Rattle.day_page.specs.LineTexts.{lines_text}
use Rattle.day_page.specs.Markup.{clock_text, markup}
use Rattle.day_page.specs.Peaks.{peaks}
use Rattle.day_page.specs.Styles.{style_text, patterns_text}
use Rattle.day_page.specs.Waits.{all_waiting}
use Rattle.day_page.specs.WaitTexts.{waiting_text}

-- ---- the head

abbrev pub whose_page : Option (List ℕ) → List ℕ
whose_page None = codes "the whole day"
whose_page (Some party) = party

abbrev pub state_text : History → List ℕ
state_text J = if is_ended J then codes "the day has ended" else codes "the day has not ended"

unfoldable pub title_text : Day → Request → List ℕ
title_text day r = markup (
    codes "<!DOCTYPE html>\n<html lang='en'><head><meta charset='utf-8'><meta name='viewport' content='width=device-width,initial-scale=1'><title>Settlement day " ∷ date_text day.date
    ∷ codes ": " ∷ whose_page r.party ∷ codes "</title>" ∷ [])

unfoldable pub name_text : Day → Request → List ℕ
name_text day r = markup (codes "<main><h1>Settlement day " ∷ date_text day.date ∷ codes ": " ∷ whose_page r.party ∷ codes "</h1>\n<p>" ∷ [])

unfoldable pub clock_words : ℕ → ℕ → List ℕ
clock_words lines now = markup (decimal lines ∷ codes " lines, the clock stands at " ∷ clock_text now ∷ codes ", " ∷ [])

abbrev pub nav_text : List ℕ
nav_text = codes ". Amounts are in euro.</p>\n<nav aria-label='Parts of the page'><ul><li><a href='#figures'>The day in figures</a></li><li><a href='#balances'>Balances over the clock</a></li><li><a href='#waiting'>What waits</a></li><li><a href='#batches'>Batches over the clock</a></li><li><a href='#lines'>Lines in words</a></li></ul></nav>\n"

unfoldable pub standing_of : ℕ → ℕ → List ℕ → List ℕ
standing_of lines now state = clock_words lines now ++ (state ++ nav_text)

unfoldable pub standing_text : History → List ℕ
standing_text J = standing_of (length J) (clock J) (state_text J)

unfoldable pub heading_text : Day → Request → History → List ℕ
heading_text day r J = patterns_text ++ (name_text day r ++ standing_text J)

unfoldable pub head_text : Day → Request → History → List ℕ
head_text day r J = title_text day r ++ (style_text ++ heading_text day r J)

-- ---- the parts

unfoldable pub balances_part : Day → Request → History → List ℕ
balances_part day r J = balances_text day (courses day (shown day r J) J) (all_points day (shown day r J) J)

unfoldable pub waiting_part : Day → Request → History → List ℕ
waiting_part day r J = waiting_text (all_waiting day r J) (peaks day r J)

unfoldable pub bars_part : Day → Request → History → List ℕ
bars_part day r J = bars_text day (bars day r J) (changes (marks day (bars day r J) J) (bars day r J)) (clock J)

abbrev pub foot_text : List ℕ
foot_text = codes "</main></body></html>\n"

unfoldable pub last_parts : Day → Request → History → List ℕ
last_parts day r J = bars_part day r J ++ (lines_text day r J ++ foot_text)

unfoldable pub page_text : Day → Request → History → List ℕ
page_text day r J = head_text day r J ++ (counts_text day r J ++ (balances_part day r J ++ (waiting_part day r J ++ last_parts day r J)))
