use Rattle.outside_io.proofs.TextLineLemmas.{ended}
use Rattle.outside_io.proofs.sink.put_together.Goals as goal

pub returns-clause-line : goal.returns-clause-line
returns-clause-line c = ended (λ (field : _). field.now) c.args.fields.now c.loop-field.field-index c.loop-field.used c.loop-field.room c.loop-field-test.false c.if-used-eq0.false c.loop-field.invariant.within c.loop-field.invariant.fields
