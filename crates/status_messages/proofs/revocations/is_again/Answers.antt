use Rattle.std.proofs.lemmas.Bool.{eqb-false, not-true}
use Rattle.status_messages.proofs.revocations.is_again.Goals as goal

pub returns-in-Some : goal.returns-in-Some
returns-in-Some c = λ h. record {
  earlier = c.in-Some.m;
  other = eqb-false c.in-Some.m c.args.n (not-true _ h);
  repeats = c.in-Some.ensures _ c.args.lines.now.stands;
}
