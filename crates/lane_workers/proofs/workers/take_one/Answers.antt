use Rattle.lane_workers.proofs.Seeing.{goes_on, takes}
use Rattle.lane_workers.proofs.workers.take_one.Goals as goal

pub take-requires-clause-next : goal.take-requires-clause-next
take-requires-clause-next g c = c.requires.next.earlier

pub returns-clause-seen : goal.returns-clause-seen
returns-clause-seen g c = goes_on g.H.HallName.day c.args.pass.now.lines c.take.new.pass.lines c.take.ensures.legal c.take.ensures.before

pub returns-clause-taken : goal.returns-clause-taken
returns-clause-taken g c =
    let day = g.H.HallName.day in
    let P = c.args.pass.now.lines in
    let K = c.take.new.pass.lines in
    takes day P K c.args.n c.take.result c.take.ensures.legal (goes_on day P K c.take.ensures.legal c.take.ensures.before) c.requires.next c.take.ensures.tells
