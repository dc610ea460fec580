use Rattle.std.proofs.Common.{◌≡◌, ◌∙◌, sym, true, false}
use Rattle.live_day.proofs.ResumedSteps.{goes_heard, goes_told_more, header_settles, line_settles}
use Rattle.live_day.proofs.resuming.ResumingListener.hear.Goals as goal

pub returns-in-GoesOn-clause-heard : goal.returns-in-GoesOn-clause-heard
returns-in-GoesOn-clause-heard g c bytes h = goes_heard g.D.Listener.has_heard c.args.self.now _ bytes c.args.piece.now _ c.in-GoesOn.is h c.go_on.ensures.heard

pub returns-in-GoesOn-clause-told : goal.returns-in-GoesOn-clause-told
returns-in-GoesOn-clause-told g c bytes h = goes_told_more g.D.Listener.has_heard c.args.self.now bytes c.args.piece.now _ _ _ c.in-GoesOn.is h c.go_on.ensures.told

pub returns-in-NoHeader-clause-heard : goal.returns-in-NoHeader-clause-heard
returns-in-NoHeader-clause-heard g c bytes h = absurd (let clash : true ≡ false = sym (header_settles g.D.Listener.has_heard c.args.self.now c.requires.bytes c.requires.heard c.in-NoHeader.is) ∙ c.requires.unsettled in cc clash)

pub returns-in-NoHeader-clause-told : goal.returns-in-NoHeader-clause-told
returns-in-NoHeader-clause-told g c bytes h = absurd (let clash : true ≡ false = sym (header_settles g.D.Listener.has_heard c.args.self.now c.requires.bytes c.requires.heard c.in-NoHeader.is) ∙ c.requires.unsettled in cc clash)

pub returns-in-Differs-clause-heard : goal.returns-in-Differs-clause-heard
returns-in-Differs-clause-heard g c bytes h = absurd (let clash : true ≡ false = sym (line_settles g.D.Listener.has_heard c.args.self.now c.requires.bytes _ c.requires.heard c.in-Differs.is) ∙ c.requires.unsettled in cc clash)

pub returns-in-Differs-clause-told : goal.returns-in-Differs-clause-told
returns-in-Differs-clause-told g c bytes h = absurd (let clash : true ≡ false = sym (line_settles g.D.Listener.has_heard c.args.self.now c.requires.bytes _ c.requires.heard c.in-Differs.is) ∙ c.requires.unsettled in cc clash)
