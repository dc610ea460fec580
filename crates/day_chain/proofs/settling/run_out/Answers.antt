use Rattle.std.proofs.Common.{◌∙◌, ap}
use Rattle.cash_amounts.specs.Numbers.{numbered}
use Rattle.commit_journal.specs.Kept.{Kept}
use Rattle.machine.specs.Orders.Order.{plain, to_end}
use Rattle.settle_floor.proofs.Appended.{balanced}
use Rattle.day_chain.proofs.settling.run_out.Goals as goal

pub run_out-requires : goal.run_out-requires
run_out-requires c = record { at_work = c.requires.at_work }

pub returns-clause-lines : goal.returns-clause-lines
unfolding plain
returns-clause-lines c =
    ap (λ (j : Kept). j.history) c.into_journal.ensures ∙ c.run_out.ensures.lines ∙ ap (to_end c.args.setting.day) c.requires.empty

pub returns-clause-balanced : goal.returns-clause-balanced
returns-clause-balanced c = balanced c.args.setting.day c.run_out.new.self _ (numbered c.run_out.new.till) c.into_journal.ensures c.run_out.ensures.at_work
