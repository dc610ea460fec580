use Rattle.std.proofs.Common.{ℕ, List, ◌++◌, take, drop, ap, ◌∙◌}
use Rattle.durable_day.proofs.RoomFacts.{front_put}
use Rattle.durable_day.proofs.room.put_four.Goals as goal

pub returns : goal.returns
returns c = ap (λ (xs : List ℕ). take c.args.used (xs ++ drop 4 c.args.room.now)) c.copy_from_slice.ensures.after ∙ front_put c.args.four.now c.args.room.now c.args.used c.requires.four c.requires.used
