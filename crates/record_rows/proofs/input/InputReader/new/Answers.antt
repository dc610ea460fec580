use Rattle.record_rows.proofs.InputFacts.{seen_nothing}
use Rattle.record_rows.proofs.input.InputReader.new.Goals as goal

pub returns : goal.returns
returns c = seen_nothing c.new.result c.new.ensures
