use Rattle.program_answers.proofs.Reading.{told_fault}
use Rattle.day_reasons.proofs.Answering.{says_day, says_refused}
use Rattle.day_reasons.proofs.top.answer_bytes.Goals as goal

pub returns-in-Ok : goal.returns-in-Ok
returns-in-Ok g c = says_day c.args.request.now g.S.Sink.state _ _ c.args.bytes.items c.in-Ok.day c.in-Ok.rest _ (c.in-Ok.ensures.given _ c.requires) c.answer_day.ensures

pub returns-in-Err-Record : goal.returns-in-Err-Record
returns-in-Err-Record g c =
    says_refused c.args.request.now g.S.Sink.state _ _ c.args.bytes.items c.in-Err-Record.number c.in-Err-Record.code _ c.requires
    (told_fault _ _ c.in-Err-Record.number c.in-Err-Record.code c.in-Err-Record.field-0-is c.in-Err-Record.ensures.fault) (rw (c.in-Err-Record.number-is, c.in-Err-Record.code-is) at c.refuse.ensures)
