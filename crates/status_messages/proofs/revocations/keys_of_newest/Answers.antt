use Rattle.std.proofs.Common.{arith, refl}
use Rattle.status_messages.proofs.revocations.keys_of_newest.Goals as goal

pub keys_of_line-requires-clause-line : goal.keys_of_line-requires-clause-line
keys_of_line-requires-clause-line c = record {
  line = record { head = c.line.result.0; moves = c.line.result.1.now };
  head_is = refl;
  from = omega (arith, c.if-place-eq0.false);
  to = omega (arith, c.len.ensures, c.if-place-len.false);
  is = c.line.ensures;
}
