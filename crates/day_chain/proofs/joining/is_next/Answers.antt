use Rattle.day_chain.proofs.NextFacts.{is_same, isnt_same, no_next, same_next}
use Rattle.day_chain.proofs.joining.is_next.Goals as goal

pub returns-in-Some : goal.returns-in-Some
returns-in-Some c =
    same_next c.args.date c.in-Some.next c.args.later c.eq.result c.in-Some.ensures
    (λ h. is_same c.in-Some.next c.args.later c.eq.result c.eq.ensures h)
    (λ h. isnt_same c.in-Some.next c.args.later c.eq.result c.eq.ensures h)

pub returns-in-None : goal.returns-in-None
returns-in-None c = no_next c.args.date c.args.later c.in-None.ensures
