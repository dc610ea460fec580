use Rattle.std.proofs.Common.{sym, ◌∙◌}
use Rattle.proc_b.proofs.Answered.{unfinished-is}
use Rattle.settlement_laws.proofs.DayEnd.EndIsLast.{first_with_line, none_with_line}
use Rattle.proc_b.proofs.unfinished_wants.unfinished.Goals as goal

pub returns-clause-exact : goal.returns-clause-exact
returns-clause-exact g c = c.next_want.ensures ∙ sym (unfinished-is (g.D.Desk.day c.args.desk.now) (g.D.Desk.past c.args.desk.now) c.args.n c.requires.batch)

pub returns-clause-first : goal.returns-clause-first
returns-clause-first g c =
    let day = g.D.Desk.day c.args.desk.now in
    let past = g.D.Desk.past c.args.desk.now in
    first_with_line day past (g.D.Desk.sound c.args.desk.now) (g.D.Desk.legal c.args.desk.now) c.args.n c.next_want.result (c.next_want.ensures ∙ sym (unfinished-is (g.D.Desk.day c.args.desk.now) (g.D.Desk.past c.args.desk.now) c.args.n c.requires.batch))

pub returns-clause-none : goal.returns-clause-none
returns-clause-none g c =
    let day = g.D.Desk.day c.args.desk.now in
    let past = g.D.Desk.past c.args.desk.now in
    none_with_line day past c.args.n c.next_want.result (c.next_want.ensures ∙ sym (unfinished-is (g.D.Desk.day c.args.desk.now) (g.D.Desk.past c.args.desk.now) c.args.n c.requires.batch))
