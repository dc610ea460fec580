use Rattle.std.proofs.Common.{◌∙◌, ap, arith}
use Rattle.std.specs.Prelude.{slice_set}
use Rattle.commit_journal.specs.Histories.{oldest}
use Rattle.machine.specs.Stages.Pending.{is_pending}
use Rattle.liquidity_view.proofs.CountFacts.{no_item, some_item}
use Rattle.liquidity_view.proofs.queue_sums.recount_one.Goals as goal

pub put-requires-clause-within : goal.put-requires-clause-within
put-requires-clause-within c = let room = c.requires.sums.room in let within = c.requires.within in omega (arith, room, within)

pub put-requires-clause-item : goal.put-requires-clause-item
put-requires-clause-item c = some_item _ _ (c.in-Some.ensures c.args.past.now.setting.now.day (oldest c.args.past.now.journal.now.history c.args.past.now.place) c.requires.due c.requires.within)

pub returns-in-Some-clause-set : goal.returns-in-Some-clause-set
returns-in-Some-clause-set c =
    let item = some_item _ _ (c.in-Some.ensures c.args.past.now.setting.now.day (oldest c.args.past.now.journal.now.history c.args.past.now.place) c.requires.due c.requires.within) in
    c.put.ensures.set ∙ ap (slice_set c.args.counted.now.set c.args.number) (c.is_pending.ensures ∙ ap (is_pending c.args.past.now.setting.now.day (oldest c.args.past.now.journal.now.history c.args.past.now.place)) item)

pub returns-in-None-clause-set : goal.returns-in-None-clause-set
returns-in-None-clause-set c = no_item _ (c.in-None.ensures c.args.past.now.setting.now.day (oldest c.args.past.now.journal.now.history c.args.past.now.place) c.requires.due c.requires.within)
