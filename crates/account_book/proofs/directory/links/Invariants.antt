use Rattle.std.proofs.Common.{◌≡◌, ◌≤◌, length, take, map}
use Rattle.std.specs.Vec.{vec_capacity}
use Rattle.account_book.specs.Directory.{find_system}
use Rattle.account_book.specs.Filed.{link}
use Rattle.account_book.proofs.directory.links.Given as goal

abbrev pub invariant-loop-account : goal.invariant-loop-account
invariant-loop-account l = (l.links.items ≡ map (link (find_system l.systems)) (take l.account-index l.accounts)) × (length l.accounts ≤ vec_capacity l.links)
