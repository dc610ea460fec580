use Rattle.std.proofs.Common.{◌≡◌, ap, arith, length}
use Rattle.std.specs.Prelude.{vec_capacity}
use Rattle.rule_book.specs.Senders.{Senders}
use Rattle.rule_book.proofs.system_accounts.SenderAccounts.take.Goals as goal

pub push_reserved-requires : goal.push_reserved-requires
push_reserved-requires c =
    let count : length c.self.inside.items.items ≡ length c.args.self.now.accounts = ap (λ (s : Senders). length s.accounts) c.self.view_is in
    let most : vec_capacity c.self.inside.items ≡ c.args.self.now.most = ap (λ (s : Senders). s.most) c.self.view_is in
    omega (arith, count, most, c.requires.room, c.self.inside.items.ok.0)
