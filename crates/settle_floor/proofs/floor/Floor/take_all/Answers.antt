use Rattle.std.proofs.Common.{◌∙◌, sym, arith}
use Rattle.settlement_laws.proofs.DayEnd.PlainRuns.{taken-more, take_all-one_scan}
use Rattle.settle_floor.proofs.Skipping.{none_found, none_left}
use Rattle.settle_floor.proofs.floor.Floor.take_all.Goals as goal

pub loop-n-init : goal.loop-n-init
loop-n-init g c = record { lines = c.first_left-first.ensures.still; at_work = c.requires.at_work }

pub append-requires : goal.append-requires
append-requires g c = record { at_work = c.loop-n.invariant.at_work }

pub loop-n-preserved : goal.loop-n-preserved
loop-n-preserved g c =
    record { lines = taken-more _ _ _ _ c.loop-n.n c.loop-n.invariant.lines c.append.ensures.lines; at_work = c.append.ensures.at_work }

pub returns-clause-lines : goal.returns-clause-lines
returns-clause-lines g c = c.loop-n.invariant.lines ∙ take_all-one_scan _ _ _ (omega arith)

pub returns-then-is_all_taken-clause-lines : goal.returns-then-is_all_taken-clause-lines
returns-then-is_all_taken-clause-lines g c =
    none_left _ _ _ c.loop-n.n (omega arith) (none_found _ (sym c.is_all_taken.ensures ∙ c.if-is_all_taken.true)) c.loop-n.invariant.lines

pub returns-clause-at_work : goal.returns-clause-at_work
returns-clause-at_work g c = c.loop-n.invariant.at_work
