use Rattle.std.proofs.Common.{subst}
use Rattle.batch_records.specs.declared.tally.Piece.{Piece}
use Rattle.live_records.specs.Ears.{FitsPiece}
use Rattle.live_records.proofs.EarRoom.{end_fits}
use Rattle.live_records.proofs.ear.Ear.add.Goals as goal

pub returns-in-End-clause-fits : goal.returns-in-End-clause-fits
returns-in-End-clause-fits c = end_fits c.args.self.now c.args.day.now (subst (λ (p : Piece). FitsPiece p c.args.self.now c.args.day.now) c.in-End.is c.requires)
