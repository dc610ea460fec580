use Rattle.std.proofs.Common.{◌∙◌, sym, arith}
use Rattle.settlement_laws.proofs.Base.Growing.{one_scan-none}
use Rattle.settlement_laws.proofs.DayEnd.PlainRuns.{emptied-more, empty_all-one_scan}
use Rattle.settle_floor.proofs.Skipping.{none_emptied}
use Rattle.settle_floor.proofs.floor.Floor.empty_all.Goals as goal

pub loop-a-init : goal.loop-a-init
loop-a-init g c = record { lines = sym (one_scan-none _ _); at_work = c.requires.at_work }

pub append-requires : goal.append-requires
append-requires g c = record { at_work = c.loop-a.invariant.at_work }

pub loop-a-preserved : goal.loop-a-preserved
loop-a-preserved g c =
    record { lines = emptied-more _ _ _ _ c.loop-a.a c.loop-a.invariant.lines c.append.ensures.lines; at_work = c.append.ensures.at_work }

pub returns-clause-lines : goal.returns-clause-lines
returns-clause-lines g c = c.loop-a.invariant.lines ∙ empty_all-one_scan _ _ _ (omega arith)

pub returns-then-is_before_midnight-clause-lines : goal.returns-then-is_before_midnight-clause-lines
returns-then-is_before_midnight-clause-lines g c = none_emptied _ _ (sym (c.is_before_midnight.ensures c.args.setting.now.day c.requires.at_work.opened) ∙ c.if-is_before_midnight.true)

pub returns-clause-at_work : goal.returns-clause-at_work
returns-clause-at_work g c = c.loop-a.invariant.at_work
