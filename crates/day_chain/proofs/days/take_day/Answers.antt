use Rattle.std.proofs.Common.{sym, inl, inr}
use Rattle.day_chain.specs.Answers.{apart}
use Rattle.day_chain.proofs.Answering.{next_apart, next_ok}
use Rattle.day_chain.proofs.Going.{not_taken, taken}
use Rattle.day_chain.proofs.days.take_day.Goals as goal

pub fault_behind-requires-clause-stands : goal.fault_behind-requires-clause-stands
fault_behind-requires-clause-stands g c = let s = c.requires.stands in (s.0, c.args.ledger.years.items, s.1.at)

pub returns-in-Some-clause-told : goal.returns-in-Some-clause-told
returns-in-Some-clause-told g c = λ told bytes stands read within.
    let fault = c.in-Some.fault in
    inr (inl (apart told fault, next_apart told bytes (c.args.day, c.args.size) fault read (sym (c.in-Some.ensures told c.args.ledger.years.items stands.at)), c.say_apart-status.ensures told stands.count))

pub tell_day-requires-clause-stands : goal.tell_day-requires-clause-stands
tell_day-requires-clause-stands g c = let s = c.requires.stands in (s.0, s.1, sym (c.in_default.ensures s.0 c.args.ledger.years.items s.1.at))

pub returns-in-Ok-clause-told : goal.returns-in-Ok-clause-told
returns-in-Ok-clause-told g c = λ told bytes stands read within.
    let none = sym (c.in_default.ensures told c.args.ledger.years.items stands.at) in
    taken told bytes c.args.day c.args.size _ _ c.in-Ok.ledger (next_ok told bytes (c.args.day, c.args.size) read none) within (c.in-Ok.ensures told stands none)

pub returns-in-Err-clause-told : goal.returns-in-Err-clause-told
returns-in-Err-clause-told g c = λ told bytes stands read within.
    let none = sym (c.in_default.ensures told c.args.ledger.years.items stands.at) in
    not_taken told bytes c.args.day c.args.size _ _ c.in-Err.status (next_ok told bytes (c.args.day, c.args.size) read none) (c.in-Err.ensures told stands none)
