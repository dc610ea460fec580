-- The text of what waits over the clock.
use Rattle.std.specs.Prelude.{ℕ, zero, suc, List, [], ◌∷◌, ◌++◌, decimal, codes}
use Rattle.std.specs.List.{flat_map}
use Rattle.cash_amounts.specs.AmountText.{amount_text}
use Rattle.day_page.specs.declared.peaks.Peaks.{Peaks}
use Rattle.day_page.specs.declared.waits.Queue.{Queue}
use Rattle.day_page.specs.declared.waits.Waiting.{Waiting}
use Rattle.day_page.specs.BalanceTexts.{frame_text, step_text}
use Rattle.day_page.specs.Markup.{clock_text, markup, x_of, y_of}

-- ---- priorities: 0 is urgent, 1 is high, 2 is normal

abbrev pub queue_of : ℕ → Waiting → Queue
queue_of zero w = w.urgent
queue_of (suc zero) w = w.high
queue_of (suc (suc p)) w = w.normal

abbrev pub priority_word : ℕ → List ℕ
priority_word zero = codes "Urgent"
priority_word (suc zero) = codes "High"
priority_word (suc (suc p)) = codes "Normal"

-- the highest sum over every line
abbrev pub peak_of : ℕ → Peaks → ℕ
peak_of zero top = top.urgent
peak_of (suc zero) top = top.high
peak_of (suc (suc p)) top = top.normal

-- ---- a picture for each priority

unfoldable pub queue_head : ℕ → ℕ → List ℕ
queue_head p top = markup (
    codes "<section><h3>" ∷ priority_word p
    ∷ codes "</h3>\n<div class='wide' tabindex='0' role='region' aria-label='Picture: what waits, " ∷ priority_word p
    ∷ codes "'><svg viewBox='0 -16 940 212' role='img' aria-label='Sum of what waits over the clock, priority " ∷ priority_word p
    ∷ codes "'><title>Sum of what waits over the clock, priority " ∷ priority_word p
    ∷ codes "</title>" ∷ frame_text
    ∷ codes "<text x='60' y='-2'>" ∷ amount_text top
    ∷ codes "</text><path class='line' d='M60 170" ∷ [])

unfoldable pub queue_step : ℕ → ℕ → Waiting → List ℕ
queue_step p top w = step_text (x_of w.clock) (y_of top (queue_of p w).cents)

abbrev pub queue_end : List ℕ
queue_end = codes "'/></svg></div></section>\n"

abbrev pub queue_path : List Waiting → ℕ → ℕ → List ℕ
queue_path waiting p top = flat_map (queue_step p top) waiting

unfoldable pub queue_picture : List Waiting → ℕ → ℕ → List ℕ
queue_picture waiting p top = queue_head p top ++ (queue_path waiting p top ++ queue_end)

unfoldable pub queue_text : List Waiting → Peaks → ℕ → List ℕ
queue_text waiting top p = queue_picture waiting p (peak_of p top)

-- ---- the figures of all

unfoldable pub waiting_row : Waiting → List ℕ
waiting_row w = markup (
    codes "<tr><th scope='row'>" ∷ clock_text w.clock
    ∷ codes "</th><td>" ∷ decimal w.urgent.count ∷ codes "</td><td>" ∷ amount_text w.urgent.cents
    ∷ codes "</td><td>" ∷ decimal w.high.count ∷ codes "</td><td>" ∷ amount_text w.high.cents
    ∷ codes "</td><td>" ∷ decimal w.normal.count ∷ codes "</td><td>" ∷ amount_text w.normal.cents
    ∷ codes "</td></tr>\n" ∷ [])

abbrev pub waiting_rows : List Waiting → List ℕ
waiting_rows waiting = flat_map waiting_row waiting

abbrev pub waiting_table_head : List ℕ
waiting_table_head = codes "<details><summary>Figures: what waits</summary><div class='wide' tabindex='0' role='region' aria-label='Figures: what waits'><table><caption>Items that wait when the clock leaves each stop, in the last row at the end of the journal, and what they take once they are booked</caption><thead><tr><th scope='col'>Clock</th><th scope='col'>Urgent</th><th scope='col'>Sum urgent</th><th scope='col'>High</th><th scope='col'>Sum high</th><th scope='col'>Normal</th><th scope='col'>Sum normal</th></tr></thead><tbody>\n"

abbrev pub waiting_table_end : List ℕ
waiting_table_end = codes "</tbody></table></div></details></section>\n"

unfoldable pub waiting_table : List Waiting → List ℕ
waiting_table waiting = waiting_table_head ++ (waiting_rows waiting ++ waiting_table_end)

abbrev pub priorities : List ℕ
priorities = 0 ∷ 1 ∷ 2 ∷ []

unfoldable pub queue_texts : List Waiting → Peaks → List ℕ
queue_texts waiting top = flat_map (queue_text waiting top) priorities

abbrev pub waiting_head : List ℕ
waiting_head = codes "<section id='waiting'><h2>What waits</h2>\n<p>Payments and entries of batches that wait for money or for those before them, by priority. A batch of B is one item. Of a party these are the items that take from its accounts. Of stops within five minutes the last is shown; the figure above each picture is the highest sum after any line.</p>\n"

unfoldable pub waiting_text : List Waiting → Peaks → List ℕ
waiting_text waiting top = waiting_head ++ (queue_texts waiting top ++ waiting_table waiting)
