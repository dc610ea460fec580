use Rattle.settle_floor.proofs.Carrying.{carries-first, carries-next, carries-last, next_can}
use Rattle.settle_floor.proofs.carry.carry_out.Goals as goal

pub loop-one-init : goal.loop-one-init
loop-one-init g c = carries-first _ _ c.requires

pub transfer-requires-clause-apart : goal.transfer-requires-clause-apart
transfer-requires-clause-apart g c = (next_can _ _ _ _ _ c.loop-one-test.true c.one-item.is c.loop-one.invariant).apart

pub transfer-requires-clause-covered : goal.transfer-requires-clause-covered
transfer-requires-clause-covered g c = (next_can _ _ _ _ _ c.loop-one-test.true c.one-item.is c.loop-one.invariant).covered

pub transfer-requires-clause-fits : goal.transfer-requires-clause-fits
transfer-requires-clause-fits g c = (next_can _ _ _ _ _ c.loop-one-test.true c.one-item.is c.loop-one.invariant).fits

pub loop-one-preserved : goal.loop-one-preserved
loop-one-preserved g c = carries-next _ _ _ _ _ c.one-item.result c.loop-one-test.true c.one-item.is c.loop-one.invariant c.transfer.ensures

pub returns : goal.returns
returns g c = carries-last _ _ _ _ c.loop-one-test.false c.loop-one.invariant
