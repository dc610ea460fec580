use Rattle.program_answers.proofs.Reading.{told_fault}
use Rattle.durable_day.proofs.AnswerFacts.{says_over, says_refused}
use Rattle.durable_day.proofs.top.answer_bytes.Goals as goal

pub returns-in-Ok : goal.returns-in-Ok
returns-in-Ok g c =
    says_over g.S.Sink.state _ _ c.args.request c.args.bytes.items c.in-Ok.day c.in-Ok.rest _ (c.in-Ok.ensures.given _ c.requires) c.answer_day.ensures

pub returns-in-Err-Record : goal.returns-in-Err-Record
returns-in-Err-Record g c =
    let refused = rw (c.in-Err-Record.number-is, c.in-Err-Record.code-is) at c.refuse.ensures in
    says_refused g.S.Sink.state _ _ c.args.request c.args.bytes.items c.in-Err-Record.number c.in-Err-Record.code _ c.requires (told_fault _ _ c.in-Err-Record.number c.in-Err-Record.code c.in-Err-Record.field-0-is c.in-Err-Record.ensures.fault) refused
