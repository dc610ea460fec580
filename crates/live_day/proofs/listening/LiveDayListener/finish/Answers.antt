use Rattle.live_day.proofs.TakeFacts.{finishes_first, finishes_then}
use Rattle.live_day.proofs.listening.LiveDayListener.finish.Goals as goal

pub last_ending-requires : goal.last_ending-requires
last_ending-requires g c = c.requires

pub returns-in_err-ending : goal.returns-in_err-ending
returns-in_err-ending g c = λ input h. finishes_first input _ _ _ _ c.from_residual.ensures.0 (c.in_err-ending.ensures input h)

pub returns : goal.returns
returns g c = λ input h. finishes_then input _ _ _ _ _ (c.in_ok-ending.ensures input h) c.put_ending.ensures.text c.put_ending.ensures.status
