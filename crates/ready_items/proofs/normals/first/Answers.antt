use Rattle.ready_items.proofs.RisingFacts.{fit_some}
use Rattle.ready_items.proofs.normals.first.Goals as goal

pub returns-in-Some : goal.returns-in-Some
returns-in-Some c = λ size up. fit_some _ _ c.args.from c.args.most c.place.result c.place.ensures up size c.in-Some.place c.number.result c.in-Some.ensures.within c.in-Some.ensures.first c.number.ensures
