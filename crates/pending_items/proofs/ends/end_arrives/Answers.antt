use Rattle.std.proofs.Common.{◌∙◌, ◌∷◌, [], ap, length}
use Rattle.std.proofs.lemmas.List.{length-append}
use Rattle.pending_items.proofs.EndFacts.{ends_arrive}
use Rattle.pending_items.proofs.ends.end_arrives.Goals as goal

pub returns-clause-ends : goal.returns-clause-ends
returns-clause-ends c = λ J k e t ends. ends_arrive c.args.setting.now.day k c.args.n c.args.time J c.args.ends.now.times c.push.new.self.times _ e t c.next_end.ensures c.push.ensures.times ends

pub returns-clause-long : goal.returns-clause-long
returns-clause-long c = ap length c.push.ensures.times ∙ length-append c.args.ends.now.times (c.next_end.result ∷ [])
