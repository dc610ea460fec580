use Rattle.std.proofs.Common.{◌∙◌}
use Rattle.rule_book.proofs.batches.found_gross.Goals as goal

pub returns : goal.returns
returns c = c.at.ensures ∙ c.args.setting.now.tabled.0.owes c.args.n c.args.a c.requires
