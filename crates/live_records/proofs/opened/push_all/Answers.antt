use Rattle.live_records.proofs.OpenFacts.{as_all, none_moved, one_moved, same_here, within_room}
use Rattle.live_records.proofs.opened.push_all.Goals as goal

pub loop-entry-init : goal.loop-entry-init
loop-entry-init c = none_moved _ _

pub push_entry_in_room-requires : goal.push_entry_in_room-requires
push_entry_in_room-requires c = within_room _ _ _ _ c.loop-entry-test.true c.requires c.loop-entry.invariant

pub loop-entry-preserved : goal.loop-entry-preserved
loop-entry-preserved c = one_moved _ _ _ _ _ c.copy_of.result c.loop-entry-test.true (same_here c.args.entries.now c.loop-entry.entry-index c.copy_of.result c.entry-item.result c.copy_of.ensures c.entry-item.is) c.push_entry_in_room.ensures c.loop-entry.invariant

pub returns : goal.returns
returns c = as_all _ _ _ _ c.loop-entry-test.false c.loop-entry.invariant
