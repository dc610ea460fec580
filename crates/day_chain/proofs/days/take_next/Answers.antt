use Rattle.std.proofs.Common.{refl, inl, inr}
use Rattle.program_answers.proofs.Reading.{told_fault}
use Rattle.day_chain.specs.Answers.{refused}
use Rattle.day_chain.proofs.Answering.{next_refused}
use Rattle.day_chain.proofs.Going.{length_within}
use Rattle.day_chain.proofs.days.take_next.Goals as goal

pub returns-in-Ok-clause-told : goal.returns-in-Ok-clause-told
returns-in-Ok-clause-told g c = λ told stands. c.take_day.ensures.told told c.args.bytes.now stands c.in-Ok.ensures.answer c.in-Ok.ensures.within

pub returns-in-Err-Record-clause-told : goal.returns-in-Err-Record-clause-told
returns-in-Err-Record-clause-told g c = λ told stands.
    let number = c.in-Err-Record.number in
    let code = c.in-Err-Record.code in
    let said = rw (c.in-Err-Record.number-is, c.in-Err-Record.code-is) at (c.refuse.ensures told stands.count) in
    inr (inl (refused told (number, code), next_refused told c.args.bytes.now (number, code) (told_fault _ _ number code c.in-Err-Record.field-0-is c.in-Err-Record.ensures.answer), said))

pub returns-clause-told : goal.returns-clause-told
returns-clause-told g c = λ told stands. inl (refl, refl, c.in-Err-Memory.field-0-0.cause)

pub returns-in-Ok-clause-within : goal.returns-in-Ok-clause-within
returns-in-Ok-clause-within g c = length_within _ _ _ c.take_day.ensures.length c.in-Ok.ensures.within
