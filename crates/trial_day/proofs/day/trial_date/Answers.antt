use Rattle.std.proofs.Common.{refl, sym, subst, ◌∙◌}
use Rattle.std.specs.Result.{IsOk}
use Rattle.trial_day.proofs.Making.{date_is, date_only}
use Rattle.trial_day.proofs.day.trial_date.Goals as goal

pub unwrap-requires : goal.unwrap-requires
unwrap-requires c = subst (λ r. IsOk r) (sym (c.read.ensures.value ∙ date_is)) refl

pub returns : goal.returns
returns c = date_only c.read.result c.unwrap.result c.read.ensures.value c.unwrap.ensures
