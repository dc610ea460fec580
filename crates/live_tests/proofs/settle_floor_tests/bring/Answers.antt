use Rattle.std.proofs.Common.{◌≡◌, ◌∙◌, List, Option, ap, sym}
use Rattle.std.specs.Prelude.{unwrap_or}
use Rattle.batch_records.specs.Flat.{with_entries}
use Rattle.batch_records.specs.Growing.{with_record}
use Rattle.batch_records.specs.Parts.{entries_at}
use Rattle.batch_records.specs.declared.day.Entry.{Entry}
use Rattle.batch_records.specs.declared.day.Message.{Message}
use Rattle.batch_records.specs.declared.day.MessageRecord.{MessageRecord}
use Rattle.rule_book.specs.Repeated.{with_one}
use Rattle.live_tests.proofs.settle_floor_tests.bring.Goals as goal

pub returns : goal.returns
returns g c = λ last is.
    let own = c.message.result.now in
    let got : with_entries own (entries_at c.args.whole.now.messages c.args.i) ≡ last = ap (λ (o : Option Message). unwrap_or o last) (sym c.message.ensures ∙ is) in
    c.bring_entries.ensures c.args.day.now own (c.push_in_room.ensures ∙ ap (λ (r : MessageRecord). with_record r c.args.day.now) c.record_of.ensures)
    ∙ ap (λ (es : List Entry). with_one c.args.day.now (with_entries own es)) c.entries.ensures
    ∙ ap (with_one c.args.day.now) got
