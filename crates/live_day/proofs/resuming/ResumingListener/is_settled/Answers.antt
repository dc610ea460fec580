use Rattle.live_day.proofs.ResumedListening.{settled_at}
use Rattle.live_day.proofs.resuming.ResumingListener.is_settled.Goals as goal

pub returns-in-GoesOn : goal.returns-in-GoesOn
returns-in-GoesOn g c = λ bytes h. settled_at g.D.Listener.program (g.D.Listener.has_heard c.args.self.now.day) c.args.self.now.input.bytes.items c.args.self.now.stage bytes _ g.met.D.RunsDay.runs c.in-GoesOn.is h.at c.is_settled.ensures
