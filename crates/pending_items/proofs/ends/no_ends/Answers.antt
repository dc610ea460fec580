use Rattle.std.proofs.Common.{◌∙◌, ◌++◌, ◌∷◌, [], Some, ap, arith, length}
use Rattle.pending_items.specs.Ends.{EndTimes}
use Rattle.pending_items.proofs.EndFacts.{ends_none}
use Rattle.pending_items.proofs.ends.no_ends.Goals as goal

pub returns-clause-ends : goal.returns-clause-ends
returns-clause-ends c = λ day. ends_none day c.push.new.self.times (c.push.ensures.times ∙ ap (λ (e : EndTimes). e.times ++ Some 0 ∷ []) c.in_ok-ends.ensures)

pub returns-clause-long : goal.returns-clause-long
returns-clause-long c = ap length (c.push.ensures.times ∙ ap (λ (e : EndTimes). e.times ++ Some 0 ∷ []) c.in_ok-ends.ensures)

pub returns-clause-room : goal.returns-clause-room
returns-clause-room c =
    let room = c.push.ensures.room in
    let most = ap (λ (e : EndTimes). e.room) c.in_ok-ends.ensures in
    omega (arith, room, most)
