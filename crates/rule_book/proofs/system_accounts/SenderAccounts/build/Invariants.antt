use Rattle.std.proofs.Common.{◌≡◌, map}
use Rattle.std.specs.List.{range_with_len}
use Rattle.rule_book.specs.Settings.{accounts_of}
use Rattle.rule_book.proofs.system_accounts.SenderAccounts.build.Given as goal

abbrev pub invariant-loop-before : goal.invariant-loop-before
invariant-loop-before l = record {
  accounts : l.senders.accounts ≡ map (accounts_of l.day) (range_with_len 1 l.before);
  most : l.senders.most ≡ l.count;
}
