use Rattle.ready_items.proofs.MemberFacts.{member_within}
use Rattle.settle_floor.proofs.NextLines.{makes_first}
use Rattle.settle_floor.proofs.floor.Floor.make_member.Goals as goal

pub make_item-requires-clause-within : goal.make_item-requires-clause-within
make_item-requires-clause-within g c = member_within c.args.setting.now.day c.args.self.now.journal.history c.args.self.now.index.ready c.in-Some.number c.requires.at_work.opened.index.ready c.in-Some.ensures.passes

pub returns-in-Some-clause-made : goal.returns-in-Some-clause-made
returns-in-Some-clause-made g c = makes_first c.args.setting.now.day c.args.self.now.journal.history c.args.self.now.index.ready c.requires.at_work.opened.index.ready c.requires.renewed c.requires.start c.make_item.new.self.journal.history c.in-Some.number c.make_item.result c.in-Some.ensures c.make_item.ensures.made
