use Rattle.live_order.proofs.Events.Causal.{cut_sound, live_causal, live_alike, live_next, cut_onward, cut_whole}
use Rattle.live_order.proofs.arriving.live_is_causal.Goals as goal

pub returns-clause-cut : goal.returns-clause-cut
returns-clause-cut c = cut_sound

pub returns-clause-same : goal.returns-clause-same
returns-clause-same c = live_causal

pub returns-clause-alike : goal.returns-clause-alike
returns-clause-alike c = live_alike

pub returns-clause-next : goal.returns-clause-next
returns-clause-next c = live_next

pub returns-clause-front : goal.returns-clause-front
returns-clause-front c = cut_onward

pub returns-clause-all : goal.returns-clause-all
returns-clause-all c = cut_whole
