use Rattle.std.proofs.Common.{◌∙◌, ◌<◌, subst, sym}
use Rattle.std.proofs.lemmas.Bool.{ltb-true}
use Rattle.ready_items.proofs.FoundFacts.{lacks_sum}
use Rattle.ready_items.proofs.found.Found.lacks_account.Goals as goal

pub returns : goal.returns
returns c = λ h. lacks_sum c.args.setting.now.day c.args.self.now c.args.n c.args.y c.args.a (subst (λ g. 0 < g) c.gross.ensures (ltb-true 0 c.gross.result h)) (sym c.is_candidate.ensures ∙ c.if-is_candidate.false)
