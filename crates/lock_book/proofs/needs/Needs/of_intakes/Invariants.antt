use Rattle.std.proofs.Common.{◌≡◌, take}
use Rattle.std.specs.Prelude.{flat_map}
use Rattle.machine.specs.Making.Accounts.{accounts_taken}
use Rattle.machine.specs.Records.Messages.{sort_of}
use Rattle.lock_book.specs.Needs.{needs_of}
use Rattle.lock_book.proofs.needs.Needs.of_intakes.Given as goal

-- of the messages so far
abbrev pub invariant-loop-n : goal.invariant-loop-n
invariant-loop-n l = l.needs ≡ needs_of (flat_map (λ n. accounts_taken (sort_of l.setting.day n) l.setting.day n) (take l.n-index l.messages))
