-- The text of a view: a line of figures for each place that is asked for, and the number of lines.
use Rattle.std.specs.Prelude.{ℕ, suc, ◌&&◌, if◌then◌else◌, List, [], ◌∷◌, ◌++◌, ℤ, pos, negsuc, length, nat_le, decimal, codes}
use Rattle.std.specs.List.{flat_map, range_with_len}
use Rattle.cash_amounts.specs.AmountText.{amount_text}
use Rattle.outside_io.specs.TextLine.{text_line}
use Rattle.batch_records.specs.DayRecord.{Day}
use Rattle.commit_journal.specs.Line.{History}
use Rattle.commit_journal.specs.Histories.{oldest}
use Rattle.program_answers.specs.Answers.{ok_text}
use Rattle.liquidity_view.specs.declared.view.Figures.{Figures}
use Rattle.liquidity_view.specs.declared.words.Request.{Request}
use Rattle.liquidity_view.specs.Figures.{figures}

-- a minus stands before the text of an amount below zero
abbrev pub signed_text : ℤ → List ℕ
signed_text (pos n) = amount_text n
signed_text (negsuc n) = 45 ∷ amount_text (suc n)

abbrev pub figures_text : ℕ → Figures → List ℕ
figures_text place f = text_line (codes "V" ∷ decimal place ∷ signed_text f.out ∷ signed_text f.into ∷ signed_text f.queued_out ∷ signed_text f.queued_in ∷ signed_text f.position ∷ signed_text f.projected ∷ [])

-- the figures after the line at a place, where it is asked for
abbrev pub text_at : Day → Request → History → ℕ → List ℕ
text_at day r J place = if nat_le r.first place && nat_le place r.last then figures_text place (figures day r.name (oldest J place)) else []

abbrev pub places : History → List ℕ
places J = range_with_len 1 (length J)

unfoldable pub view_text : Day → Request → History → List ℕ
view_text day r J = flat_map (text_at day r J) (places J) ++ ok_text (length J)
