use Rattle.lock_book.proofs.Catching.{carries_first, carries_last, carries_next, item_first, next_can}
use Rattle.lock_book.proofs.group.carry_all.Goals as goal

pub loop-one-init : goal.loop-one-init
loop-one-init g c = carries_first _ _ _ c.requires.can

pub carry-requires-clause-can : goal.carry-requires-clause-can
carry-requires-clause-can g c = next_can _ _ _ _ _ c.one-item.result (item_first _ _ _ c.loop-one-test.true c.one-item.is) c.loop-one.invariant

pub loop-one-preserved : goal.loop-one-preserved
loop-one-preserved g c = carries_next _ _ _ _ _ c.one-item.result (item_first _ _ _ c.loop-one-test.true c.one-item.is) c.loop-one.invariant c.carry.new.balances.items c.carry.ensures.count c.carry.ensures.each

pub returns-clause-each : goal.returns-clause-each
returns-clause-each g c = carries_last _ _ _ _ _ c.loop-one-test.false c.loop-one.invariant
