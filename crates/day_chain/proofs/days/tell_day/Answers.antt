use Rattle.std.proofs.Common.{◌∙◌, refl, sym, ap, inl, inr, arith}
use Rattle.machine.specs.Orders.Order.{plain}
use Rattle.day_chain.proofs.Going.{cut_day, whole_day}
use Rattle.day_chain.proofs.days.tell_day.Goals as goal

pub returns-in-Err : goal.returns-in-Err
returns-in-Err g c = λ told stands fine. inl (refl, refl, c.in-Err.field-0.cause)

pub put_part-requires : goal.put_part-requires
put_part-requires g c =
    let s = c.requires.stands in
    let p = c.in-Ok.ensures s.0 s.1 s.2 in
    p.lines ∙ ap plain (sym p.same)

pub returns-then-is_err : goal.returns-then-is_err
returns-then-is_err g c = λ told stands fine.
    let p = c.in-Ok.ensures told stands fine in
    inr (refl, cut_day _ _ _ _ _ p.same (sym c.is_err.ensures.value ∙ c.if-is_err.true) c.put_part.ensures)

pub keep-requires-clause-few : goal.keep-requires-clause-few
keep-requires-clause-few g c =
    let s = c.requires.stands in
    let prepared = (c.in-Ok.ensures s.0 s.1 s.2).count in
    let count = s.1.count in
    omega (arith, prepared, count, c.requires.few)

pub keep-requires-clause-prepared : goal.keep-requires-clause-prepared
keep-requires-clause-prepared g c =
    let s = c.requires.stands in
    (s.0, c.args.day, c.in-Ok.ensures s.0 s.1 s.2)

pub returns : goal.returns
returns g c = λ told stands fine.
    let p = c.in-Ok.ensures told stands fine in
    (whole_day _ _ _ _ _ p.same (sym c.is_err.ensures.value ∙ c.if-is_err.false) c.put_part.ensures, c.keep.ensures told c.args.day p)
