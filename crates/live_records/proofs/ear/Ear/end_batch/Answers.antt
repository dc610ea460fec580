use Rattle.std.proofs.Common.{◌∙◌, sym}
use Rattle.live_records.proofs.EarGrows.{some_opened}
use Rattle.live_records.proofs.EarRoom.{none_left, some_left}
use Rattle.live_records.proofs.HearingFacts.{ended_told}
use Rattle.live_records.proofs.ear.Ear.end_batch.Goals as goal

pub returns-then-goes_on-clause-shut : goal.returns-then-goes_on-clause-shut
returns-then-goes_on-clause-shut c other = none_left _ c.args.self.now.coming.batch (sym c.goes_on.ensures ∙ c.if-goes_on.true) other

pub close-requires-clause-some : goal.close-requires-clause-some
close-requires-clause-some c = (some_left _ c.args.self.now.coming.batch (sym c.goes_on.ensures ∙ c.if-goes_on.false)).1

pub returns-clause-ended : goal.returns-clause-ended
returns-clause-ended c h r is k e =
    let left = some_left _ c.args.self.now.coming.batch (sym c.goes_on.ensures ∙ c.if-goes_on.false) in
    rw (c.close.ensures.ear, c.close.ensures.day) (ended_told h r c.args.row.now c.args.self.now c.args.day.now is k left.0 left.1)

pub returns-clause-day : goal.returns-clause-day
returns-clause-day c e =
    let left = some_left _ c.args.self.now.coming.batch (sym c.goes_on.ensures ∙ c.if-goes_on.false) in
    rw c.close.ensures.day (some_opened c.args.self.now.coming.batch c.args.day.now left.1)
