use Rattle.ready_items.proofs.ready.ReadyItems.put_candidate.Goals as goal

pub returns-in-Some-clause-found : goal.returns-in-Some-clause-found
returns-in-Some-clause-found c = λ J due pending low cash keeps. c.put_head.ensures.found J due (c.in-Some.ensures J pending) low cash keeps

pub returns-in-None-clause-found : goal.returns-in-None-clause-found
returns-in-None-clause-found c = λ J due pending low cash keeps. c.put_normal_candidate.ensures.found J (c.in-None.ensures J pending) low cash keeps
