use Rattle.std.proofs.Common.{◌∙◌, sym}
use Rattle.record_rows.specs.Input.{place_of, rows_read}
use Rattle.record_rows.specs.Machine.{open_rows}
use Rattle.live_day.specs.Listened.{closed_rows}
use Rattle.live_day.proofs.TakeFacts.{closed_fits, ending_still, ends_broken, ends_first, ends_then}
use Rattle.live_day.proofs.reading.DayReader.end_line.Goals as goal

pub returns-then-is_broken-clause-told : goal.returns-then-is_broken-clause-told
returns-then-is_broken-clause-told g c = λ input read. ends_broken (rows_read input) (open_rows (place_of input)) _ _ (sym (c.is_broken.ensures (rows_read input) read.records.heard) ∙ c.if-is_broken.true)

pub returns-then-is_broken-clause-ending : goal.returns-then-is_broken-clause-ending
returns-then-is_broken-clause-ending g c = λ input read. ending_still (rows_read input) (open_rows (place_of input)) (sym (c.is_broken.ensures (rows_read input) read.records.heard) ∙ c.if-is_broken.true)

pub returns-in_err-close-clause-told : goal.returns-in_err-close-clause-told
returns-in_err-close-clause-told g c = λ input read.
    ends_first (rows_read input) (closed_rows input) _ _ _ _ c.from_residual.ensures.0 (c.in_err-close.ensures.told input read (sym (c.is_broken.ensures (rows_read input) read.records.heard) ∙ c.if-is_broken.false))

pub end-requires-clause-few : goal.end-requires-clause-few
end-requires-clause-few g c =
    let input = c.requires.0 in
    let read = c.requires.1 in
    closed_fits input _ (c.in_ok-close.ensures.heard input read (sym (c.is_broken.ensures (rows_read input) read.records.heard) ∙ c.if-is_broken.false)).count c.requires.2

pub returns-clause-told : goal.returns-clause-told
returns-clause-told g c = λ input read.
    let going = sym (c.is_broken.ensures (rows_read input) read.records.heard) ∙ c.if-is_broken.false in
    ends_then (rows_read input) (closed_rows input) _ _ _ _ _ (c.in_ok-close.ensures.told input read going) (c.end.ensures.told (closed_rows input) (c.in_ok-close.ensures.heard input read going))
