use Rattle.std.proofs.Common.{◌≡◌, ◌≤◌, length, take}
use Rattle.std.specs.Vec.{vec_capacity}
use Rattle.account_book.proofs.copies.copy_accounts.Given as goal

abbrev pub invariant-loop-account : goal.invariant-loop-account
invariant-loop-account l = (l.copies.items ≡ take l.account-index l.accounts) × (length l.accounts ≤ vec_capacity l.copies)
