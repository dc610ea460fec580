use Rattle.std.proofs.Common.{◌∙◌, ◌<◌, ◌≤◌, [], get_or, length, take, sym, ap, arith}
use Rattle.std.proofs.lemmas.List.{take_all, take_more}
use Rattle.csv.specs.Records.{fields_of}
use Rattle.record_rows.specs.Rows.{kept_field, kept_row}
use Rattle.record_rows.proofs.row.Row.fill.Goals as goal

pub loop-i-preserved : goal.loop-i-preserved
loop-i-preserved c =
    let fields = fields_of c.args.read.now in
    let within : c.loop-i.i < length fields = omega (arith, c.loop-i-test.true, c.len-i-end.ensures) in
    c.push.ensures (take c.loop-i.i fields) (get_or fields c.loop-i.i []) c.loop-i.invariant (c.of.ensures ∙ ap kept_field c.field_of.ensures)
    ∙ sym (ap kept_row (take_more fields c.loop-i.i [] within))

pub returns : goal.returns
returns c =
    let fields = fields_of c.args.read.now in
    let past : length fields ≤ c.loop-i.i = omega (arith, c.loop-i-test.false, c.len-i-end.ensures) in
    c.loop-i.invariant ∙ ap kept_row (take_all c.loop-i.i fields past)
