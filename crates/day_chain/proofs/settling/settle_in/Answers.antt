use Rattle.std.proofs.Common.{ap}
use Rattle.account_book.specs.Setup.{Setup}
use Rattle.settle_floor.proofs.OpeningFacts.{opens}
use Rattle.day_chain.proofs.settling.settle_in.Goals as goal

pub run_out-requires-clause-at_work : goal.run_out-requires-clause-at_work
run_out-requires-clause-at_work c =
    opens c.args.setting.day c.args.setting.book.accounts c.in_ok-till.till c.in-Ok.floor (ap (λ (b : Setup). b.accounts) c.args.setting.filed) c.in_ok-till.ensures c.in-Ok.ensures.empty c.in-Ok.ensures.opened

pub run_out-requires-clause-empty : goal.run_out-requires-clause-empty
run_out-requires-clause-empty c = c.in-Ok.ensures.empty
