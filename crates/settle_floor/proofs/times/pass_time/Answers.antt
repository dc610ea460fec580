-- Without a reason the want has its line, at the next stop.
use Rattle.std.proofs.Common.{◌∙◌, ap, refl, sym}
use Rattle.commit_journal.specs.declared.line.Code.TheVariants as line_codes
use Rattle.commit_journal.specs.declared.line.Kind.TheVariants as kinds
use Rattle.commit_journal.specs.declared.line.Want.TheVariants as wants
use Rattle.settlement_laws.proofs.Wants.Answering.{line-is}
use Rattle.settle_floor.proofs.times.pass_time.Goals as goal

pub returns-in-None : goal.returns-in-None
returns-in-None g c = (
  line-is (g.D.Desk.day c.args.desk.now) (g.D.Desk.past c.args.desk.now) wants.Time _ _ (sym c.why_not_passed.ensures ∙ c.in-None.is)
      (c.head.ensures ∙ ap (λ x. record { kind = kinds.Time; msg = 0; entry = x; code = line_codes.Ok }) c.next_stop.ensures) c.requires.empty,
  refl,
)
