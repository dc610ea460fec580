use Rattle.std.proofs.Common.{sym, ap, ◌∙◌}
use Rattle.commit_journal.specs.declared.line.Kind.TheVariants as kinds
use Rattle.commit_journal.specs.declared.line.Want.TheVariants as wants
use Rattle.machine.specs.Records.Messages.{sort_of}
use Rattle.machine.specs.Making.Lines.{expiry_code}
use Rattle.machine.proofs.SortFacts.{a_is}
use Rattle.settlement_laws.proofs.Wants.Answering.{answered-with}
use Rattle.proc_a.proofs.ending.expire.Goals as goal

pub returns-in-None : goal.returns-in-None
returns-in-None g c =
    let day = g.D.Desk.day c.args.desk.now in
    let J = g.D.Desk.past c.args.desk.now in
    let s = a_is (sort_of day c.args.n) c.requires.batch in (
      answered-with day J (wants.Expire c.args.n) _ _ (sym c.why_not_expire.ensures ∙ c.in-None.is)
          (ap (λ s. record { kind = kinds.Expire; msg = c.args.n; entry = 0; code = expiry_code s day J c.args.n }) s ∙ sym c.head.ensures)
          (sym c.push_reversal.ensures.moves),
      c.push_reversal.ensures.room,
    )
