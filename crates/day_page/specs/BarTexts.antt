-- The text of batches over the clock.
use Rattle.std.specs.Prelude.{ℕ, ◌+◌, ◌-◌, ◌/◌, if◌then◌else◌, List, [], ◌∷◌, ◌++◌, nat_eq, decimal, codes}
use Rattle.std.specs.List.{flat_map}
use Rattle.cash_amounts.specs.AmountText.{amount_text}
use Rattle.batch_records.specs.DayRecord.{Day}
use Rattle.day_page.specs.declared.bars.Mark.{Mark}
use Rattle.day_page.specs.Bars.{phase_word}
use Rattle.day_page.specs.Classes.{order_cents, word_of}
use Rattle.day_page.specs.Markup.{clock_text, id_of, markup, sender_of}

unfoldable pub bar_head : Day → ℕ → List ℕ
bar_head day n = markup (
    codes "<tr><td>" ∷ sender_of day n
    ∷ codes "</td><td>" ∷ word_of day n
    ∷ codes "</td><th scope='row'>" ∷ id_of day n
    ∷ codes "</th><td>" ∷ amount_text (order_cents day n)
    ∷ codes "</td><td><svg class='bar' viewBox='0 0 870 14' preserveAspectRatio='none' role='img' aria-label='Phases of batch " ∷ id_of day n
    ∷ codes "'><title>Phases of batch " ∷ id_of day n
    ∷ codes "</title>" ∷ [])

-- each phase is drawn from the time at which it came to the end of the bar, and the next one over it
unfoldable pub bar_part : ℕ → ℕ → Mark → List ℕ
bar_part end n m = if nat_eq m.msg n then markup (
    codes "<rect class='" ∷ phase_word m.phase
    ∷ codes "' x='" ∷ decimal (m.clock / 100)
    ∷ codes "' y='1' width='" ∷ decimal ((end / 100 + 4) - m.clock / 100)
    ∷ codes "' height='12'/>" ∷ []) else []

unfoldable pub bar_words : ℕ → Mark → List ℕ
bar_words n m = if nat_eq m.msg n then markup (clock_text m.clock ∷ codes " " ∷ phase_word m.phase ∷ codes "<br>" ∷ []) else []

abbrev pub bar_picture : List Mark → ℕ → ℕ → List ℕ
bar_picture changes end n = flat_map (bar_part end n) changes

abbrev pub bar_figures : List Mark → ℕ → List ℕ
bar_figures changes n = flat_map (bar_words n) changes

abbrev pub bar_middle : List ℕ
bar_middle = codes "</svg></td><td class='phases'>"

abbrev pub bar_end : List ℕ
bar_end = codes "</td></tr>\n"

unfoldable pub bar_cells : List Mark → ℕ → List ℕ
bar_cells changes n = bar_middle ++ (bar_figures changes n ++ bar_end)

unfoldable pub bar_row : Day → List Mark → ℕ → ℕ → List ℕ
bar_row day changes end n = bar_head day n ++ (bar_picture changes end n ++ bar_cells changes n)

abbrev pub bar_rows : Day → List ℕ → List Mark → ℕ → List ℕ
bar_rows day drawn changes end = flat_map (bar_row day changes end) drawn

abbrev pub bars_head : List ℕ
bars_head = codes "<section id='batches'><h2>Batches over the clock</h2>\n<p>The first hundred accepted batches, of a party those that it sent or has an account in. Each bar goes from 00:00 at the left to 24:00 at the right.</p>\n<ul class='legend'><li><svg viewBox='0 0 80 14' preserveAspectRatio='none' aria-hidden='true'><rect class='information' width='80' height='14'/></svg> information: banks may object</li><li><svg viewBox='0 0 80 14' preserveAspectRatio='none' aria-hidden='true'><rect class='waiting' width='80' height='14'/></svg> waiting: the earliest time is still to come</li><li><svg viewBox='0 0 80 14' preserveAspectRatio='none' aria-hidden='true'><rect class='open' width='80' height='14'/></svg> open: entries are booked as money comes</li><li><svg viewBox='0 0 80 14' preserveAspectRatio='none' aria-hidden='true'><rect class='asking' width='80' height='14'/></svg> asking: the system is asked for its fund</li><li><svg viewBox='0 0 80 14' preserveAspectRatio='none' aria-hidden='true'><rect class='covered' width='80' height='14'/></svg> covered: the fund has paid</li><li><svg viewBox='0 0 80 14' preserveAspectRatio='none' aria-hidden='true'><rect class='overdue' width='80' height='14'/></svg> overdue, or answered</li><li>empty: not taken yet, or over</li></ul>\n<div class='wide' tabindex='0' role='region' aria-label='Batches over the clock'><table class='bars'><caption>Batches with their phases: the stop at which each was seen first, or the end of the journal</caption><thead><tr><th scope='col'>System</th><th scope='col'>Kind</th><th scope='col'>Batch</th><th scope='col'>Sum</th><th scope='col'>00:00 to 24:00</th><th scope='col'>Phases</th></tr></thead><tbody>\n"

abbrev pub bars_end : List ℕ
bars_end = codes "</tbody></table></div></section>\n"

unfoldable pub bars_text : Day → List ℕ → List Mark → ℕ → List ℕ
bars_text day drawn changes end = bars_head ++ (bar_rows day drawn changes end ++ bars_end)
