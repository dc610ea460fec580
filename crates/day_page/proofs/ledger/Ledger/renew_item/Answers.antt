use Rattle.std.proofs.Common.{◌∙◌, ap, arith}
use Rattle.std.specs.Prelude.{slice_set}
use Rattle.commit_journal.specs.Histories.{oldest}
use Rattle.machine.specs.declared.answers.Item.{Item}
use Rattle.day_page.specs.Stakes.{stake}
use Rattle.day_page.proofs.StakeFacts.{item_is, never_none}
use Rattle.day_page.proofs.ledger.Ledger.renew_item.Goals as goal

pub put-requires-clause-within : goal.put-requires-clause-within
put-requires-clause-within c = let low = c.requires.within in let size = c.requires.size in omega (arith, low, size)

pub put-requires-clause-item : goal.put-requires-clause-item
put-requires-clause-item c = ap (λ (x : Item). x.msg) (item_is _ _ (c.in-Some.ensures c.args.past.now.setting.now.day (oldest c.args.past.now.journal.now.history c.args.past.now.place) c.requires.due c.requires.within))

pub returns-in-Some-clause-stakes : goal.returns-in-Some-clause-stakes
returns-in-Some-clause-stakes c =
    let day = c.args.past.now.setting.now.day in
    let J = oldest c.args.past.now.journal.now.history c.args.past.now.place in
    let is = item_is _ _ (c.in-Some.ensures day J c.requires.due c.requires.within) in
    c.put.ensures.stakes ∙ ap (slice_set c.args.self.now.stakes.items c.args.i) (c.stake-new.ensures.value ∙ ap (λ (x : Item). stake day c.args.request.now J x.msg x.entry) is)

pub returns-in-None-clause-tallied : goal.returns-in-None-clause-tallied
returns-in-None-clause-tallied c = c.requires.tallied

pub returns-in-None-clause-stakes : goal.returns-in-None-clause-stakes
returns-in-None-clause-stakes c = never_none _ (c.in-None.ensures c.args.past.now.setting.now.day (oldest c.args.past.now.journal.now.history c.args.past.now.place) c.requires.due c.requires.within)
