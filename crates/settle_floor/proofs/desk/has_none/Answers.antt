use Rattle.std.proofs.Common.{◌∙◌, refl, sym}
use Rattle.std.proofs.lemmas.Bool.{false≢true}
use Rattle.settle_floor.proofs.desk.has_none.Goals as goal

pub returns-in-None : goal.returns-in-None
returns-in-None c = (λ h. c.in-None.ensures, λ none. refl)

pub returns-in-Some : goal.returns-in-Some
returns-in-Some c = (λ h. absurd (false≢true h), λ none. sym (none _ c.in-Some.ensures.at_least) ∙ c.in-Some.ensures.passes)
