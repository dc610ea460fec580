use Rattle.std.proofs.Common.{sym, subst}
use Rattle.batch_records.specs.declared.so_far.SoFar.{SoFar}
use Rattle.live_records.specs.Heard.{nothing}
use Rattle.live_records.specs.Setups.{IsOfSetup, IsSetup}
use Rattle.live_records.proofs.SetupFacts.{first_of_setup, first_setup}
use Rattle.live_records.proofs.setup.Setup.with_room.Goals as goal

pub returns-clause-heard : goal.returns-clause-heard
returns-clause-heard c = subst (λ (s : SoFar). IsSetup nothing s) (sym c.in_ok-so_far.ensures.none) first_setup

pub returns-clause-setup : goal.returns-clause-setup
returns-clause-setup c = subst (λ (s : SoFar). IsOfSetup s) (sym c.in_ok-so_far.ensures.none) first_of_setup
