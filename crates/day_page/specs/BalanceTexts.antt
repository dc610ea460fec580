-- The text of balances over the clock.
use Rattle.std.specs.Prelude.{ℕ, if◌then◌else◌, List, [], ◌∷◌, ◌++◌, nat_eq, decimal, codes}
use Rattle.std.specs.List.{flat_map}
use Rattle.cash_amounts.specs.AmountText.{amount_text}
use Rattle.batch_records.specs.DayRecord.{Day}
use Rattle.machine.specs.Words.{is_zero}
use Rattle.day_page.specs.declared.courses.Course.{Course}
use Rattle.day_page.specs.declared.courses.Point.{Point}
use Rattle.day_page.specs.CountTexts.{section_end}
use Rattle.day_page.specs.Markup.{clock_text, markup, name_of, x_of, y_of}

-- the frame of a picture, with hours below it
abbrev pub frame_text : List ℕ
frame_text = codes "<path class='axis' d='M60 10V170H924M276 170v5M492 170v5M708 170v5M924 170v5'/><text x='52' y='175' text-anchor='end'>0</text><text x='60' y='188'>00:00</text><text x='276' y='188' text-anchor='middle'>06:00</text><text x='492' y='188' text-anchor='middle'>12:00</text><text x='708' y='188' text-anchor='middle'>18:00</text><text x='924' y='188' text-anchor='end'>24:00</text>"

abbrev pub row_name : Day → ℕ → List ℕ
row_name day a = if is_zero a then codes "All of these accounts" else name_of day a

-- ---- a row

unfoldable pub course_title : Day → Course → List ℕ
course_title day c = markup (
    codes "<section><h3>" ∷ row_name day c.account
    ∷ codes "</h3>\n<p>Opening " ∷ amount_text c.opening
    ∷ codes ", lowest " ∷ amount_text c.lowest
    ∷ codes ", highest " ∷ amount_text c.highest
    ∷ codes ", closing " ∷ amount_text c.closing
    ∷ codes ".</p>\n" ∷ [])

unfoldable pub course_picture : Day → Course → List ℕ
course_picture day c = markup (
    codes "<div class='wide' tabindex='0' role='region' aria-label='Picture: " ∷ row_name day c.account
    ∷ codes "'><svg viewBox='0 -16 940 212' role='img' aria-label='Balance over the clock: " ∷ row_name day c.account
    ∷ codes "'><title>Balance over the clock: " ∷ row_name day c.account
    ∷ codes "</title>" ∷ frame_text
    ∷ codes "<text x='60' y='-2'>" ∷ amount_text c.highest
    ∷ codes "</text><path class='line' d='M60 " ∷ decimal (y_of c.highest c.opening) ∷ [])

-- a step of the line: to the time, then to the balance
unfoldable pub step_text : ℕ → ℕ → List ℕ
step_text x y = markup (codes "H" ∷ decimal x ∷ codes "V" ∷ decimal y ∷ [])

unfoldable pub point_step : Course → Point → List ℕ
point_step c p = if nat_eq p.account c.account then step_text (x_of p.clock) (y_of c.highest p.cents) else []

unfoldable pub course_table : Day → Course → List ℕ
course_table day c = markup (
    codes "'/></svg></div>\n<details><summary>Figures: " ∷ row_name day c.account
    ∷ codes "</summary><table><caption>Balance when the clock left each stop; in the last row that at the end of the journal</caption><thead><tr><th scope='col'>Clock</th><th scope='col'>Balance</th></tr></thead><tbody>\n" ∷ [])

unfoldable pub point_row : Course → Point → List ℕ
point_row c p = if nat_eq p.account c.account then markup (
    codes "<tr><th scope='row'>" ∷ clock_text p.clock ∷ codes "</th><td>" ∷ amount_text p.cents ∷ codes "</td></tr>\n" ∷ []) else []

unfoldable pub course_head : Day → Course → List ℕ
course_head day c = course_title day c ++ course_picture day c

abbrev pub course_path : List Point → Course → List ℕ
course_path points c = flat_map (point_step c) points

abbrev pub course_rows : List Point → Course → List ℕ
course_rows points c = flat_map (point_row c) points

abbrev pub table_tail : List ℕ
table_tail = codes "</tbody></table></details></section>\n"

unfoldable pub course_figures : Day → List Point → Course → List ℕ
course_figures day points c = course_table day c ++ (course_rows points c ++ table_tail)

unfoldable pub course_text : Day → List Point → Course → List ℕ
course_text day points c = course_head day c ++ (course_path points c ++ course_figures day points c)

-- ---- all rows

abbrev pub balances_head : List ℕ
balances_head = codes "<section id='balances'><h2>Balances over the clock</h2>\n<p>Of the whole day the ten dedicated cash accounts that moved most, of a party all of its own (a system has none), and these together. Of stops within five minutes the last is shown; lowest and highest are those at the opening and after each line.</p>\n"

abbrev pub course_texts : Day → List Course → List Point → List ℕ
course_texts day courses points = flat_map (course_text day points) courses

unfoldable pub balances_text : Day → List Course → List Point → List ℕ
balances_text day courses points = balances_head ++ (course_texts day courses points ++ section_end)
