use Rattle.std.proofs.Common.{◌∙◌, ◌++◌, ◌∷◌, [], List, ap, take}
use Rattle.batch_records.specs.Flat.{with_entries}
use Rattle.batch_records.specs.Growing.{with_last_entry}
use Rattle.batch_records.specs.declared.day.Entry.{Entry}
use Rattle.rule_book.specs.Repeated.{with_one}
use Rattle.live_tests.proofs.ComingFacts.{entry_more, next_entry}
use Rattle.live_tests.proofs.settle_floor_tests.bring_entries.Goals as goal

pub loop-entry-preserved : goal.loop-entry-preserved
loop-entry-preserved g c = λ before own is.
    let so_far = take c.loop-entry.entry-index c.args.entries.now in
    c.push_entry_in_room.ensures ∙ ap (with_last_entry c.entry_of.result) (c.loop-entry.invariant before own is) ∙ entry_more before own so_far c.entry_of.result
    ∙ ap (λ (es : List Entry). with_one before (with_entries own es)) (ap (λ (e : Entry). so_far ++ e ∷ []) c.entry_of.ensures ∙ next_entry c.args.entries.now c.loop-entry.entry-index c.entry-item.result c.loop-entry-test.true c.entry-item.is)
