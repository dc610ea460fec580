use Rattle.std.proofs.Common.{◌∙◌, sym}
use Rattle.ready_items.proofs.PutFacts.{candidate_number, uncovered}
use Rattle.ready_items.proofs.placing.head_candidate.Goals as goal

pub returns-then-not-affords : goal.returns-then-not-affords
returns-then-not-affords c = λ J keeps. uncovered c.args.setting.now.day c.args.a c.args.head c.args.money (sym c.affords.ensures ∙ c.if-not-affords.true)

pub returns : goal.returns
returns c = λ J keeps. candidate_number c.args.setting.now.day c.args.a c.args.head c.args.money _ (c.number.ensures c.args.setting.now.day J keeps) (sym c.affords.ensures ∙ c.if-not-affords.false)
