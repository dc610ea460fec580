use Rattle.std.proofs.Common.{◌∙◌, ap, sym}
use Rattle.std.specs.Prelude.{nat_eq}
use Rattle.std.proofs.lemmas.Bool.{eqb-true, false≢true}
use Rattle.settle_floor.proofs.desk.are_at_rest.Goals as goal

pub returns-then-not-are_renewed : goal.returns-then-not-are_renewed
returns-then-not-are_renewed c = (λ h. absurd (false≢true h), λ rest. sym c.if-not-are_renewed.true ∙ c.are_renewed.ensures.1 rest.0)

pub returns-then-not-is_at_start : goal.returns-then-not-is_at_start
returns-then-not-is_at_start c = (λ h. absurd (false≢true h), λ rest. sym c.if-not-is_at_start.true ∙ (c.is_at_start.ensures ∙ ap (λ at. nat_eq at 0) rest.1))

pub returns : goal.returns
returns c = (
  λ h. (c.are_renewed.ensures.0 c.if-not-are_renewed.false, eqb-true _ 0 (sym c.is_at_start.ensures ∙ c.if-not-is_at_start.false), c.has_none.ensures.0 h),
  λ rest. c.has_none.ensures.1 rest.2,
)
