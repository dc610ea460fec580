use Rattle.std.proofs.Common.{◌+◌, arith, length}
use Rattle.status_messages.proofs.Entered.{made_empty, made_long}
use Rattle.status_messages.proofs.walk.StatusWalk.with_room.Goals as goal

pub returns : goal.returns
returns c =
    let count = c.account_count.ensures.count in
    record {
      facts = c.in_ok-facts.ensures;
      banks = made_empty _ (c.account_count.result + 1) c.in_ok-banks.ensures;
      accounts = made_long _ (c.account_count.result + 1) (length c.args.setting.now.day.accounts) c.in_ok-banks.ensures (omega (arith, count));
    }
