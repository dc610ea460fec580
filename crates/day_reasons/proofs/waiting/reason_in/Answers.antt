use Rattle.std.proofs.Common.{◌∙◌}
use Rattle.day_reasons.proofs.Judged.{kept_clear, none_judged, room_back, some_judged}
use Rattle.day_reasons.proofs.waiting.reason_in.Goals as goal

pub returns-in-Ok-clause-reason : goal.returns-in-Ok-clause-reason
returns-in-Ok-clause-reason c = λ day J want is. none_judged day J want _ _ _ c.in-Ok.is is

pub returns-in-Ok-clause-moves : goal.returns-in-Ok-clause-moves
returns-in-Ok-clause-moves c = λ day J want is. c.clear.ensures ∙ room_back day J want _ _ _ c.in-Ok.is is

pub returns-in-Err-clause-reason : goal.returns-in-Err-clause-reason
returns-in-Err-clause-reason c = λ day J want is. some_judged day J want _ _ _ c.in-Err.is is

pub returns-in-Err-clause-moves : goal.returns-in-Err-clause-moves
returns-in-Err-clause-moves c = λ day J want is. kept_clear day J want _ _ _ c.in-Err.is is
