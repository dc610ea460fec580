use Rattle.machine.specs.Making.Accounts.{accounts_of_message}
use Rattle.lock_book.proofs.Needing.{needs_of_more}
use Rattle.lock_book.proofs.needs.Needs.of_items.Goals as goal

pub loop-n-preserved : goal.loop-n-preserved
loop-n-preserved c = needs_of_more (accounts_of_message c.args.setting.now.day) c.args.messages.now c.loop-n.n-index c.loop-n-test.true _ _ _ c.loop-n.invariant c.of_message.ensures c.either-needs.ensures
