use Rattle.live_day.proofs.StageFacts.{early_first}
use Rattle.live_day.proofs.stage.Stage.with_room.Goals as goal

pub returns-in-Ok : goal.returns-in-Ok
returns-in-Ok c = early_first c.in_ok-setup.setup c.in-Ok.rooms c.in_ok-setup.ensures.heard c.in_ok-setup.ensures.setup c.in-Ok.ensures
