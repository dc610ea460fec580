use Rattle.std.proofs.Common.{◌≡◌, arith}
use Rattle.std.proofs.lemmas.Grind.{common_steps}
use Rattle.period_calendar.specs.Times.{time_of_text}
use Rattle.period_calendar.proofs.TimeLemmas.{time_places, IfSome-time_text}
use Rattle.period_calendar.proofs.time.read_time.Goals as goal

pub returns-clause-one_text : goal.returns-clause-one_text
returns-clause-one_text c =
    let value : c.clock_time.result ≡ time_of_text c.args.text.now = grind (arith, common_steps, time_places) in
    IfSome-time_text _ _ value
