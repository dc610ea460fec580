use Rattle.live_day.proofs.ResumedListening.{differs_at, goes_on_at, no_header_first, none_at}
use Rattle.live_day.proofs.resuming.ResumingListener.finish.Goals as goal

pub returns-in_err-put_bad-in-Reads : goal.returns-in_err-put_bad-in-Reads
returns-in_err-put_bad-in-Reads g c = λ bytes h. no_header_first bytes _ _ _ _ (none_at (g.D.Listener.has_heard c.args.self.day) c.args.self.input.bytes.items c.args.self.stage bytes c.in-Reads.is h.at) c.from_residual.ensures.0 c.in_err-put_bad-in-Reads.ensures

pub returns-in_err-put_line-in-Differs : goal.returns-in_err-put_line-in-Differs
returns-in_err-put_line-in-Differs g c = λ bytes h.
    differs_at (g.D.Listener.has_heard c.args.self.day) c.args.self.input.bytes.items c.args.self.stage bytes c.in-Differs.line _ _ _ _ c.in-Differs.is h.at c.from_residual-in_err-put_line-in-Differs.ensures.0 c.in_err-put_line-in-Differs.ensures

pub returns-in-GoesOn : goal.returns-in-GoesOn
returns-in-GoesOn g c = λ bytes h. goes_on_at g.D.Listener.program (g.D.Listener.has_heard c.args.self.day) c.args.self.input.bytes.items c.args.self.stage bytes _ _ _ g.met.D.RunsDay.runs c.in-GoesOn.is h.at c.finish.ensures
