use Rattle.program_answers.proofs.Reading.{told_fault}
use Rattle.rtgs_engine.proofs.AnswerFacts.{says_read, says_refusal}
use Rattle.rtgs_engine.proofs.top.answer_bytes.Goals as goal

pub returns-in-Ok : goal.returns-in-Ok
returns-in-Ok g c =
    says_read g.S.Sink.state _ _ c.args.command.now c.args.bytes.items c.in-Ok.day c.in-Ok.rest _ c.requires.input (c.in-Ok.ensures.given _ c.requires.short) c.in-Ok.ensures.count c.answer_day.ensures

pub returns-in-Err-Record : goal.returns-in-Err-Record
returns-in-Err-Record g c =
    says_refusal g.S.Sink.state _ _ c.args.command.now c.args.bytes.items c.in-Err-Record.number c.in-Err-Record.code _ c.requires.short (told_fault _ _ c.in-Err-Record.number c.in-Err-Record.code c.in-Err-Record.field-0-is c.in-Err-Record.ensures.fault)
    (rw (c.in-Err-Record.number-is, c.in-Err-Record.code-is) at c.refuse.ensures)
