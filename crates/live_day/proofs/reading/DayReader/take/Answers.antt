use Rattle.live_day.proofs.TakeFacts.{tells_first, tells_then}
use Rattle.live_day.proofs.reading.DayReader.take.Goals as goal

pub returns-in_err-read-clause-told : goal.returns-in_err-read-clause-told
returns-in_err-read-clause-told g c = λ input open_in within. tells_first input c.args.b _ _ _ _ c.from_residual.ensures.0 open_in.line within (c.in_err-read.ensures.told input open_in)

pub settle-requires : goal.settle-requires
settle-requires g c = (c.requires.0, c.args.b, record { read = c.in_ok-read.ensures.read c.requires.0 c.requires.1; line = c.requires.1.line; within = c.requires.2 })

pub returns-clause-told : goal.returns-clause-told
returns-clause-told g c = λ input open_in within.
    tells_then input c.args.b _ _ _ _ _ open_in.line within (c.in_ok-read.ensures.told input open_in)
    (c.settle.ensures.told input c.args.b (record { read = c.in_ok-read.ensures.read input open_in; line = open_in.line; within = within }))

pub returns-clause-stands : goal.returns-clause-stands
returns-clause-stands g c = λ input open_in within. c.settle.ensures.stands input c.args.b (record { read = c.in_ok-read.ensures.read input open_in; line = open_in.line; within = within })
