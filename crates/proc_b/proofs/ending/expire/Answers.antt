use Rattle.std.proofs.Common.{[], Some, sym, ap, ◌∙◌}
use Rattle.commit_journal.specs.declared.line.Want.TheVariants as wants
use Rattle.settlement_laws.proofs.Wants.Answering.{line_there}
use Rattle.proc_b.proofs.Answered.{expire_line-is}
use Rattle.proc_b.proofs.ending.expire.Goals as goal

pub returns-in-None : goal.returns-in-None
returns-in-None g c =
    let day = g.D.Desk.day c.args.desk.now in
    let past = g.D.Desk.past c.args.desk.now in
    line_there day past (wants.Expire c.args.n) (sym c.why_not_expire.ensures ∙ c.in-None.is)
    ∙ ap Some (expire_line-is day past c.args.n c.requires)
    ∙ ap (λ h. Some (record { head = h; moves = [] })) (sym c.head.ensures)
