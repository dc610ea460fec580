use Rattle.std.proofs.Common.{◌∙◌, ◌+◌, ℕ, Option, sym, subst}
use Rattle.live_day.specs.Beginnings.{CountsFrom}
use Rattle.live_day.proofs.HeaderFacts.{line_none, line_there, no_line, portion_by, short_line}
use Rattle.live_day.proofs.beginning.portion_in.Goals as goal

pub returns-in-Some : goal.returns-in-Some
returns-in-Some c w e =
    let line = line_there c.args.text.now c.in-Some.end (sym c.line_end.ensures ∙ c.in-Some.is) in
    portion_by w c.args.word.now c.args.most c.args.text.now c.in-Some.end c.counted_from.result e line.1 line.0
    (subst (λ (o : Option ℕ). CountsFrom c.args.text.now (c.in-Some.end + 1) o c.counted_from.result) c.count_in.ensures c.counted_from.ensures)

pub returns-in-None : goal.returns-in-None
returns-in-None c w e = short_line w c.args.most c.args.text.now (line_none c.args.text.now (sym c.line_end.ensures ∙ c.in-None.is)) (sym (c.may_begin.ensures w e) ∙ c.if-may_begin.true)

pub returns-in-None-2 : goal.returns-in-None-2
returns-in-None-2 c w e = no_line w c.args.most c.args.text.now (line_none c.args.text.now (sym c.line_end.ensures ∙ c.in-None.is)) (sym (c.may_begin.ensures w e) ∙ c.if-may_begin.false)
