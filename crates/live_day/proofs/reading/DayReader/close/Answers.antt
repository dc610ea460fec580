use Rattle.std.proofs.Common.{◌∙◌, ◌∷◌, ◌++◌, [], List, length, sym, ap, subst}
use Rattle.std.proofs.lemmas.Result.{on_ok_weaker}
use Rattle.batch_records.specs.Records.{Fields}
use Rattle.record_rows.specs.Input.{rows_read}
use Rattle.live_day.specs.Listened.{closed_rows}
use Rattle.live_day.proofs.ReadFacts.{closes_none, closes_one, count_fits, next_number, one_longer, tells_as, tells_none}
use Rattle.live_day.proofs.reading.DayReader.close.Goals as goal

pub hear_row-requires-clause-next : goal.hear_row-requires-clause-next
hear_row-requires-clause-next g c =
    let input = c.requires.0 in
    let read = c.requires.1 in
    let going = c.requires.2 in
    let came = closes_one c.close.result input _ c.if-close.true (c.close.ensures.closes input read.is_seen) in (
      rows_read input,
      came.0,
      read.records.heard,
      record { kept = came.2; number = next_number (rows_read input) _ read.records.count going; going = going },
    )

pub hear_row-requires-clause-few : goal.hear_row-requires-clause-few
hear_row-requires-clause-few g c = count_fits c.requires.0 _ c.requires.1.records.count c.requires.3

pub returns-then-close-clause-told : goal.returns-then-close-clause-told
returns-then-close-clause-told g c = λ input read going.
    let came = closes_one c.close.result input _ c.if-close.true (c.close.ensures.closes input read.is_seen) in
    tells_as (rows_read input) (rows_read input ++ came.0 ∷ []) (closed_rows input) _ _ _ came.1
    (c.hear_row.ensures.told (rows_read input) came.0 read.records.heard (record { kept = came.2; number = next_number (rows_read input) _ read.records.count going; going = going }))

pub returns-then-close-clause-heard : goal.returns-then-close-clause-heard
returns-then-close-clause-heard g c = λ input read going.
    let came = closes_one c.close.result input _ c.if-close.true (c.close.ensures.closes input read.is_seen) in
    on_ok_weaker c.hear_row.result
    (λ now. record {
      heard = subst (λ (rows : List Fields). g.D.Hearer.has_heard c.hear_row.new.self.day rows) (sym came.1) now;
      count = c.hear_row.ensures.count ∙ one_longer (rows_read input) came.0 (closed_rows input) _ read.records.count came.1;
    })
    (c.hear_row.ensures.heard (rows_read input) came.0 read.records.heard (record { kept = came.2; number = next_number (rows_read input) _ read.records.count going; going = going }))

pub returns-clause-told : goal.returns-clause-told
returns-clause-told g c = λ input read going. tells_none (rows_read input) (closed_rows input) _ _ (closes_none c.close.result input _ c.if-close.false (c.close.ensures.closes input read.is_seen))

pub returns-clause-heard : goal.returns-clause-heard
returns-clause-heard g c = λ input read going.
    let same = closes_none c.close.result input _ c.if-close.false (c.close.ensures.closes input read.is_seen) in
    record {
      heard = subst (λ (rows : List Fields). g.D.Hearer.has_heard c.args.self.now.day rows) (sym same) read.records.heard;
      count = read.records.count ∙ ap (length {A = Fields}) (sym same);
    }
