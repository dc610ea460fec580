use Rattle.std.proofs.Common.{add-one, refl}
use Rattle.outside_io.proofs.PutLemmas.{has_put_is, has_put_more, has_put_none, puts_front, puts_last}
use Rattle.outside_io.proofs.TextLineLemmas.{joined_more, line_parts, line_end}
use Rattle.outside_io.proofs.sink.put_each.Goals as goal

pub loop-field-init : goal.loop-field-init
loop-field-init g c = record { put = has_put_none _; mark = refl }

pub returns-in_err-put_field : goal.returns-in_err-put_field
returns-in_err-put_field g c =
    let parts = line_parts (λ (field : _). field.now) c.args.fields.now c.loop-field.field-index _ _ c.loop-field.invariant.mark c.loop-field-test.true in
    puts_front _ _ _ _ _ parts.0 _ _ _ c.from_residual.ensures.0 parts.1 c.loop-field.invariant.put c.in_err-put_field.ensures

pub loop-field-preserved : goal.loop-field-preserved
loop-field-preserved g c = record {
  put = has_put_is _ _ _ _ (joined_more (λ (field : _). field.now) c.args.fields.now c.loop-field.field-index _ _ c.loop-field.invariant.mark c.loop-field-test.true) (has_put_more _ _ _ _ _ _ c.loop-field.invariant.put c.in_ok-put_field.ensures);
  mark = rw add-one;
}

pub returns : goal.returns
returns g c = puts_last _ _ _ _ _ _ _ (line_end (λ (field : _). field.now) c.args.fields.now c.loop-field.field-index c.loop-field-test.false) c.loop-field.invariant.put c.put_all.ensures
