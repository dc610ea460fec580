use Rattle.std.proofs.Common.{◌≡◌, take}
use Rattle.std.specs.Prelude.{flat_map}
use Rattle.machine.specs.Making.Accounts.{accounts_of_message}
use Rattle.lock_book.specs.Needs.{needs_of}
use Rattle.lock_book.proofs.needs.Needs.of_items.Given as goal

-- of the messages so far
abbrev pub invariant-loop-n : goal.invariant-loop-n
invariant-loop-n l = l.needs ≡ needs_of (flat_map (accounts_of_message l.setting.day) (take l.n-index l.messages))
