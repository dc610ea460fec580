use Rattle.std.proofs.Common.{sym, arith}
use Rattle.commit_journal.proofs.LineLemmas.{few_moves}
use Rattle.commit_journal.proofs.ReadingLemmas.{positive, line_zero, line_no_head, line_no_moves, line_whole}
use Rattle.commit_journal.proofs.reading.take_line.Goals as goal

pub returns-then-place-eq0-clause-read : goal.returns-then-place-eq0-clause-read
returns-then-place-eq0-clause-read c = line_zero c.args.most c.args.place c.args.input.now c.if-place-eq0.true

pub returns-in_err-head-clause-read : goal.returns-in_err-head-clause-read
returns-in_err-head-clause-read c =
    rw c.from_residual.ensures (line_no_head c.args.most c.args.place c.args.input.now (positive c.args.place c.if-place-eq0.false) (sym c.in_err-head.ensures))

pub take_moves-requires-clause-room : goal.take_moves-requires-clause-room
take_moves-requires-clause-room c =
    let h = c.in_ok-head in
    let few = few_moves c.args.most c.args.place c.args.input.now ((h.head, h.count), h.rest.now) (sym h.ensures) in
    omega (arith, few, c.requires.room)

pub returns-in_err-rest-clause-read : goal.returns-in_err-rest-clause-read
returns-in_err-rest-clause-read c =
    let h = c.in_ok-head in
    rw c.from_residual-in_err-rest.ensures (line_no_moves c.args.most c.args.place c.args.input.now ((h.head, h.count), h.rest.now) (positive c.args.place c.if-place-eq0.false) (sym h.ensures) c.in_err-rest.ensures.read)

pub returns-clause-read : goal.returns-clause-read
returns-clause-read c =
    let h = c.in_ok-head in
    line_whole c.args.most c.args.place c.args.input.now ((h.head, h.count), h.rest.now) (c.take_moves.new.moves.moves, c.in_ok-rest.rest.now) (positive c.args.place c.if-place-eq0.false) (sym h.ensures) c.in_ok-rest.ensures.read
