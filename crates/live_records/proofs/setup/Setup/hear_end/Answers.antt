use Rattle.std.proofs.Common.{◌∙◌, sym}
use Rattle.live_records.proofs.SetupFacts.{end_only}
use Rattle.live_records.proofs.setup.Setup.hear_end.Goals as goal

pub returns-clause-heard : goal.returns-clause-heard
returns-clause-heard c = λ e. end_only c.args.self.now.so_far c.args.row.now c.requires.setup c.requires.fine c.requires.started c.requires.behind (sym c.is_late.ensures ∙ c.if-is_late.false)
