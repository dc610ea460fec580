use Rattle.std.proofs.Common.{◌∙◌, sym}
use Rattle.party_gate.proofs.WhoseFacts.{is_lasts, is_others, is_owns}
use Rattle.party_gate.proofs.passing.whose_is.Goals as goal

pub returns-then-is_last : goal.returns-then-is_last
returns-then-is_last c = is_lasts c.args.name.now c.args.line.now c.requires (sym c.is_last.ensures ∙ c.if-is_last.true)

pub returns-then-is_own : goal.returns-then-is_own
returns-then-is_own c = is_owns c.args.name.now c.args.line.now c.requires (sym c.is_last.ensures ∙ c.if-is_last.false) (sym c.is_own.ensures ∙ c.if-is_own.true)

pub returns-else-is_own : goal.returns-else-is_own
returns-else-is_own c = is_others c.args.name.now c.args.line.now c.requires (sym c.is_last.ensures ∙ c.if-is_last.false) (sym c.is_own.ensures ∙ c.if-is_own.false)
