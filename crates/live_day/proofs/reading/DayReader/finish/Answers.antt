use Rattle.std.proofs.Common.{◌≡◌, ◌∙◌, true, false, sym, ap}
use Rattle.record_rows.specs.Input.{Seen, rows_read}
use Rattle.record_rows.specs.Lines.{line_of}
use Rattle.live_day.specs.Listened.{all_rows, closed_rows, is_last}
use Rattle.live_day.proofs.ReadFacts.{count_fits}
use Rattle.live_day.proofs.TakeFacts.{all_closed, all_read, ending_as, ends_as, ends_none}
use Rattle.live_day.proofs.reading.DayReader.finish.Goals as goal

pub end_line-requires : goal.end_line-requires
end_line-requires g c = (c.requires.0, c.requires.1.read, c.requires.1.within)

pub returns-then-is_last-clause-told : goal.returns-then-is_last-clause-told
returns-then-is_last-clause-told g c = λ input open_in.
    let line : is_last (line_of input) ≡ true = ap is_last (sym (ap (λ (s : Seen). s.line) open_in.read.is_seen)) ∙ ap is_last (sym c.line.ensures) ∙ sym c.is_last.ensures ∙ c.if-is_last.true in
    ends_as (rows_read input) (closed_rows input) (all_rows input) _ _ _ (all_closed input line) (c.end_line.ensures.told input open_in.read)

pub returns-then-is_last-clause-ending : goal.returns-then-is_last-clause-ending
returns-then-is_last-clause-ending g c = λ input open_in.
    let line : is_last (line_of input) ≡ true = ap is_last (sym (ap (λ (s : Seen). s.line) open_in.read.is_seen)) ∙ ap is_last (sym c.line.ensures) ∙ sym c.is_last.ensures ∙ c.if-is_last.true in
    ending_as (all_rows input) (closed_rows input) _ (all_closed input line) (c.end_line.ensures.ending input open_in.read)

pub end-requires-clause-few : goal.end-requires-clause-few
end-requires-clause-few g c = count_fits c.requires.0 _ c.requires.1.read.records.count c.requires.1.within

pub returns-else-is_last-clause-told : goal.returns-else-is_last-clause-told
returns-else-is_last-clause-told g c = λ input open_in.
    let line : is_last (line_of input) ≡ false = ap is_last (sym (ap (λ (s : Seen). s.line) open_in.read.is_seen)) ∙ ap is_last (sym c.line.ensures) ∙ sym c.is_last.ensures ∙ c.if-is_last.false in
    ends_none (rows_read input) (all_rows input) _ _ _ (all_read input line) (c.end.ensures.told (rows_read input) open_in.read.records)

pub returns-else-is_last-clause-ending : goal.returns-else-is_last-clause-ending
returns-else-is_last-clause-ending g c = λ input open_in.
    let line : is_last (line_of input) ≡ false = ap is_last (sym (ap (λ (s : Seen). s.line) open_in.read.is_seen)) ∙ ap is_last (sym c.line.ensures) ∙ sym c.is_last.ensures ∙ c.if-is_last.false in
    ending_as (all_rows input) (rows_read input) _ (all_read input line) (c.end.ensures.ending (rows_read input) open_in.read.records)
