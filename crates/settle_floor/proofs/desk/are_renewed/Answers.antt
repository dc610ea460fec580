use Rattle.std.proofs.Common.{◌∙◌, ◌≤◌, refl, sym, arith}
use Rattle.std.proofs.lemmas.Bool.{false≢true}
use Rattle.settle_floor.proofs.desk.are_renewed.Goals as goal

pub returns-in-None : goal.returns-in-None
returns-in-None c = (λ h a. c.in-None.ensures.next a (omega arith), λ all. refl)

pub returns-in-Some : goal.returns-in-Some
returns-in-Some c = (λ h. absurd (false≢true h), λ all. sym (all _) ∙ c.in-Some.ensures.next.passes)
