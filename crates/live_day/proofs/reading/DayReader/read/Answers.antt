use Rattle.std.proofs.Common.{◌∙◌, ◌∷◌, ◌++◌, [], List, sym, ap, subst}
use Rattle.std.proofs.lemmas.Result.{on_ok_weaker}
use Rattle.batch_records.specs.Records.{Fields}
use Rattle.record_rows.specs.Input.{Seen, rows_read}
use Rattle.live_day.proofs.ReadFacts.{came_none, came_one, count_fits, next_number, one_longer, tells_as, tells_none, whole_fits}
use Rattle.live_day.proofs.reading.DayReader.read.Goals as goal

pub feed-requires : goal.feed-requires
feed-requires g c = whole_fits c.requires.0 _ (ap (λ (s : Seen). s.whole) c.requires.1.read.is_seen) c.requires.1.within

pub hear_row-requires-clause-next : goal.hear_row-requires-clause-next
hear_row-requires-clause-next g c =
    let input = c.requires.0 in
    let open_in = c.requires.1 in
    let came = came_one c.feed.result (rows_read input) (rows_read (input ++ c.args.b ∷ [])) _ c.if-feed.true (c.feed.ensures.row input open_in.read.is_seen) in (
      rows_read input,
      came.0,
      open_in.read.records.heard,
      record { kept = came.2; number = next_number (rows_read input) _ open_in.read.records.count open_in.going; going = open_in.going },
    )

pub hear_row-requires-clause-few : goal.hear_row-requires-clause-few
hear_row-requires-clause-few g c = count_fits c.requires.0 _ c.requires.1.read.records.count c.requires.1.within

pub returns-then-feed-clause-told : goal.returns-then-feed-clause-told
returns-then-feed-clause-told g c = λ input open_in.
    let came = came_one c.feed.result (rows_read input) (rows_read (input ++ c.args.b ∷ [])) _ c.if-feed.true (c.feed.ensures.row input open_in.read.is_seen) in
    tells_as (rows_read input) (rows_read input ++ came.0 ∷ []) (rows_read (input ++ c.args.b ∷ [])) _ _ _ came.1
    (c.hear_row.ensures.told (rows_read input) came.0 open_in.read.records.heard (record { kept = came.2; number = next_number (rows_read input) _ open_in.read.records.count open_in.going; going = open_in.going }))

pub returns-then-feed-clause-read : goal.returns-then-feed-clause-read
returns-then-feed-clause-read g c = λ input open_in.
    let came = came_one c.feed.result (rows_read input) (rows_read (input ++ c.args.b ∷ [])) _ c.if-feed.true (c.feed.ensures.row input open_in.read.is_seen) in
    on_ok_weaker c.hear_row.result
    (λ now. record {
      is_seen = c.hear_row.ensures.same ∙ c.feed.ensures.seen input open_in.read.is_seen;
      records = record {
        heard = subst (λ (rows : List Fields). g.D.Hearer.has_heard c.hear_row.new.self.day rows) (sym came.1) now;
        count = c.hear_row.ensures.count ∙ one_longer (rows_read input) came.0 (rows_read (input ++ c.args.b ∷ [])) _ open_in.read.records.count came.1;
      };
    })
    (c.hear_row.ensures.heard (rows_read input) came.0 open_in.read.records.heard (record { kept = came.2; number = next_number (rows_read input) _ open_in.read.records.count open_in.going; going = open_in.going }))

pub returns-clause-told : goal.returns-clause-told
returns-clause-told g c = λ input open_in. tells_none (rows_read input) (rows_read (input ++ c.args.b ∷ [])) _ _ (came_none c.feed.result _ _ _ c.if-feed.false (c.feed.ensures.row input open_in.read.is_seen))
