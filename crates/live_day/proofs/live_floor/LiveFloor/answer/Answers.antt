use Rattle.std.proofs.Common.{[], true, false}
use Rattle.outside_io.proofs.PutLemmas.{has_put_none, puts_all, puts_first, puts_then}
use Rattle.live_day.proofs.BehindFacts.{puts_is}
use Rattle.live_day.proofs.SaidFacts.{breaks_text, nothing_text, refuses_text, stop_now, stops_count, stops_text, takes_count, takes_text}
use Rattle.live_day.proofs.live_floor.LiveFloor.answer.Goals as goal

pub returns-in_err-take-in-Takes-clause-texts : goal.returns-in_err-take-in-Takes-clause-texts
returns-in_err-take-in-Takes-clause-texts g c = λ k e.
    puts_is _ _ _ _ _ (takes_text c.args.setting.now.day k c.args.number c.args.said c.in-Takes.is)
    (puts_first _ _ _ [] _ _ c.from_residual.ensures.0 (c.in_err-take-in-Takes.ensures.texts k (takes_count k c.args.number _ c.args.said c.in-Takes.is e)))

pub reach-requires : goal.reach-requires
reach-requires g c = stop_now c.args.setting.now.day c.args.said c.args.self.now _ c.in-Stops.is c.last_stop.ensures c.requires

pub returns-in_err-reach-in-Stops-clause-texts : goal.returns-in_err-reach-in-Stops-clause-texts
returns-in_err-reach-in-Stops-clause-texts g c = λ k e.
    puts_is _ _ _ _ _ (stops_text c.args.setting.now.day k c.args.number c.args.said c.in-Stops.is)
    (puts_first _ _ _ [] _ _ c.from_residual-in_err-reach-in-Stops.ensures.0 (c.in_err-reach-in-Stops.ensures.texts k (stops_count k c.args.number _ c.args.said c.in-Stops.is e)))

pub returns-in_err-put_refused-in-Refuses-clause-texts : goal.returns-in_err-put_refused-in-Refuses-clause-texts
returns-in_err-put_refused-in-Refuses-clause-texts g c = λ k e.
    puts_is _ _ _ _ _ (refuses_text c.args.setting.now.day k c.args.number c.args.said _ c.in-Refuses.is) (puts_first _ _ _ [] _ _ c.from_residual-in_err-put_refused-in-Refuses.ensures.0 c.in_err-put_refused-in-Refuses.ensures)

pub returns-in_err-put_bad-in-Breaks-clause-texts : goal.returns-in_err-put_bad-in-Breaks-clause-texts
returns-in_err-put_bad-in-Breaks-clause-texts g c = λ k e.
    puts_is _ _ _ _ _ (breaks_text c.args.setting.now.day k c.args.number c.args.said _ c.in-Breaks.is) (puts_first _ _ _ [] _ _ c.from_residual-in_err-put_bad-in-Breaks.ensures.0 c.in_err-put_bad-in-Breaks.ensures)

pub returns-in-Nothing-clause-texts : goal.returns-in-Nothing-clause-texts
returns-in-Nothing-clause-texts g c = λ k e. puts_is _ _ _ _ _ (nothing_text c.args.setting.now.day k c.args.number c.args.said c.in-Nothing.is) (puts_all _ _ [] true (has_put_none _))

pub returns-in_ok-take-in-Takes-clause-texts : goal.returns-in_ok-take-in-Takes-clause-texts
returns-in_ok-take-in-Takes-clause-texts g c = λ k e.
    puts_is _ _ _ _ _ (takes_text c.args.setting.now.day k c.args.number c.args.said c.in-Takes.is)
    (puts_then _ _ _ _ [] _ _ (c.in_ok-take-in-Takes.ensures.texts k (takes_count k c.args.number _ c.args.said c.in-Takes.is e)) (puts_all _ _ [] true (has_put_none _)))

pub returns-in_ok-reach-in-Stops-clause-texts : goal.returns-in_ok-reach-in-Stops-clause-texts
returns-in_ok-reach-in-Stops-clause-texts g c = λ k e.
    puts_is _ _ _ _ _ (stops_text c.args.setting.now.day k c.args.number c.args.said c.in-Stops.is)
    (puts_then _ _ _ _ [] _ _ (c.in_ok-reach-in-Stops.ensures.texts k (stops_count k c.args.number _ c.args.said c.in-Stops.is e)) (puts_all _ _ [] true (has_put_none _)))

pub returns-in_ok-put_refused-in-Refuses-clause-texts : goal.returns-in_ok-put_refused-in-Refuses-clause-texts
returns-in_ok-put_refused-in-Refuses-clause-texts g c = λ k e.
    puts_is _ _ _ _ _ (refuses_text c.args.setting.now.day k c.args.number c.args.said _ c.in-Refuses.is) (puts_then _ _ _ _ [] _ _ c.in_ok-put_refused-in-Refuses.ensures (puts_all _ _ [] true (has_put_none _)))

pub returns-in_ok-put_bad-in-Breaks-clause-texts : goal.returns-in_ok-put_bad-in-Breaks-clause-texts
returns-in_ok-put_bad-in-Breaks-clause-texts g c = λ k e.
    puts_is _ _ _ _ _ (breaks_text c.args.setting.now.day k c.args.number c.args.said _ c.in-Breaks.is) (puts_then _ _ _ _ [] _ _ c.in_ok-put_bad-in-Breaks.ensures (puts_all _ _ [] false (has_put_none _)))
