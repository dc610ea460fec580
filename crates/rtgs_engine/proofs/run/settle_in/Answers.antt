use Rattle.std.proofs.Common.{ap}
use Rattle.account_book.specs.Setup.{Setup}
use Rattle.settle_floor.proofs.OpeningFacts.{opens}
use Rattle.rtgs_engine.proofs.run.settle_in.Goals as goal

pub run_out-requires-clause-at_work : goal.run_out-requires-clause-at_work
run_out-requires-clause-at_work c =
    opens c.args.setting.day c.args.setting.book.accounts c.in-Ok.till c.in-Ok-open.floor (ap (λ (b : Setup). b.accounts) c.args.setting.filed) c.in-Ok.ensures c.in-Ok-open.ensures.empty c.in-Ok-open.ensures.opened

pub run_out-requires-clause-empty : goal.run_out-requires-clause-empty
run_out-requires-clause-empty c = c.in-Ok-open.ensures.empty
