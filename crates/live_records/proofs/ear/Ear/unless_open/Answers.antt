use Rattle.std.proofs.Common.{◌≡◌, ◌∙◌, true, false, refl, sym}
use Rattle.live_records.specs.OpenRecord.{is_whole}
use Rattle.live_records.proofs.EarRoom.{whole_some}
use Rattle.live_records.proofs.ear.Ear.unless_open.Goals as goal

pub close-requires-clause-some : goal.close-requires-clause-some
close-requires-clause-some c = whole_some c.args.self.now.coming.batch (sym c.is_whole.ensures ∙ c.if-is_whole.true)

pub returns-then-is_whole-clause-spoken : goal.returns-then-is_whole-clause-spoken
returns-then-is_whole-clause-spoken c =
    let test : is_whole c.args.self.now.coming.batch ≡ true = sym c.is_whole.ensures ∙ c.if-is_whole.true in rw test (c.close.ensures.ear, c.close.ensures.day, refl)

pub returns-else-is_whole-clause-spoken : goal.returns-else-is_whole-clause-spoken
returns-else-is_whole-clause-spoken c = let test : is_whole c.args.self.now.coming.batch ≡ false = sym c.is_whole.ensures ∙ c.if-is_whole.false in rw test (refl, refl, refl)
