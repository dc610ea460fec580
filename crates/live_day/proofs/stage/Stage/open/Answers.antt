use Rattle.std.proofs.Common.{sym, subst}
use Rattle.live_day.specs.Stages.{IsEarly, IsOpened, IsReady}
use Rattle.live_day.specs.declared.stage.Stage.{Stage}
use Rattle.live_day.proofs.stage.Stage.open.Goals as goal

pub returns-in-Early : goal.returns-in-Early
returns-in-Early c = λ records ready.
    let is = subst (λ (s : Stage). IsReady s records) (sym c.in-Early.ensures.value) ready in
    subst (λ (s : Stage). IsOpened s records) (sym c.put.ensures) (c.open_day-work.ensures records is.0.heard)
