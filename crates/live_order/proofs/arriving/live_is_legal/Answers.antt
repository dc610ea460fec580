use Rattle.live_order.proofs.Events.LiveGrows.{grows-live, live_stays, live_ends}
use Rattle.live_order.proofs.Events.Causal.{live_all}
use Rattle.live_order.proofs.arriving.live_is_legal.Goals as goal

pub returns-clause-part : goal.returns-clause-part
returns-clause-part c day k J = (grows-live day k J).legal

pub returns-clause-goes_on : goal.returns-clause-goes_on
returns-clause-goes_on c day k J = (grows-live day k J).beginning

pub returns-clause-stays : goal.returns-clause-stays
returns-clause-stays c = live_stays

pub returns-clause-whole : goal.returns-clause-whole
returns-clause-whole c day sound = (live_ends day sound).0

pub returns-clause-complete : goal.returns-clause-complete
returns-clause-complete c day sound = (live_ends day sound).1

pub returns-clause-last : goal.returns-clause-last
returns-clause-last c = live_all
