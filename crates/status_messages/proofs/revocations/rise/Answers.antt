use Rattle.std.proofs.Common.{refl}
use Rattle.status_messages.proofs.ListedTexts.{rise_end, rise_fails, rise_more}
use Rattle.status_messages.proofs.revocations.rise.Goals as goal

pub loop-key-init : goal.loop-key-init
loop-key-init c = refl

pub loop-key-preserved : goal.loop-key-preserved
loop-key-preserved c = rise_more c.args.keys.now c.loop-key.key-index c.loop-key.last _ _ c.loop-key-test.true c.entry_of-k.ensures c.if-k-last.false c.loop-key.invariant

pub returns-then-k-last : goal.returns-then-k-last
returns-then-k-last c = rise_fails c.args.keys.now c.loop-key.key-index c.loop-key.last _ _ c.loop-key-test.true c.entry_of-k.ensures c.if-k-last.true c.loop-key.invariant

pub returns : goal.returns
returns c = rise_end c.args.keys.now c.loop-key.key-index c.loop-key.last c.loop-key-test.false c.loop-key.invariant
