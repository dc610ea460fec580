use Rattle.std.proofs.Common.{arith}
use Rattle.due_items.specs.declared.chain.Key.TheVariants as keys
use Rattle.due_items.proofs.NotingFacts.{time_all, time_walks}
use Rattle.due_items.proofs.Walks.{walk_whole}
use Rattle.due_items.proofs.noting.note_time.Goals as goal

pub returns-then-time-ge-MIDNIGHT : goal.returns-then-time-ge-MIDNIGHT
returns-then-time-ge-MIDNIGHT c = time_all c.args.setting.now.day c.args.facts.now c.args.index.now c.args.time _ _ c.renew_all.ensures

pub returns : goal.returns
returns c = let early = c.if-time-ge-MIDNIGHT.false in time_walks c.args.setting.now.day c.args.facts.now c.args.index.now c.args.time _ _ _ _ (omega (arith, early))
    (walk_whole c.args.setting.now.day c.args.facts.now c.args.index.now keys.Info c.args.time _ _ _ (omega (arith, early)) c.newest.ensures c.renew_down.ensures)
    (walk_whole c.args.setting.now.day c.args.facts.now c.args.index.now keys.From c.args.time _ _ _ (omega (arith, early)) c.newest-2.ensures c.renew_down-2.ensures)
    (walk_whole c.args.setting.now.day c.args.facts.now c.args.index.now keys.Till c.args.time _ _ _ (omega (arith, early)) c.newest-3.ensures c.renew_down-3.ensures)
