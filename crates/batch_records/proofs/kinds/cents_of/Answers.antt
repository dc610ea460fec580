use Rattle.std.proofs.Common.{◌∙◌}
use Rattle.batch_records.proofs.AmountFacts.{amount_read}
use Rattle.batch_records.proofs.kinds.cents_of.Goals as goal

pub returns : goal.returns
returns c = c.ok.ensures.value ∙ amount_read c.args.text.now c.read_cents.result c.read_cents.ensures.ok c.read_cents.ensures.err
