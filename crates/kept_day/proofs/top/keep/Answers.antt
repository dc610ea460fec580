use Rattle.std.proofs.Common.{◌∙◌, ℕ, Option, ap}
use Rattle.kept_port.specs.declared.keeper.Halt.{Halt}
use Rattle.kept_day.specs.Statuses.{status_of}
use Rattle.kept_day.proofs.SureFacts.{none_kept, run_kept}
use Rattle.kept_day.proofs.top.keep.Goals as goal

pub returns-in-Err : goal.returns-in-Err
returns-in-Err g c = none_kept _ c.requires c.in-Err.field-0.cause

pub returns : goal.returns
returns g c =
    let same = c.status_of.ensures ∙ ap (λ (h : Option Halt). status_of c.live-status.result h c.left_to_skip.result) c.halt.ensures ∙ ap (λ (n : ℕ). status_of c.live-status.result c.live-status.new.port.keeper.halt n) c.left_to_skip.ensures in
    run_kept _ _ _ _ _ c.requires c.live-status.ensures c.in-Ok.ensures g.met.L.Log.finds_sure same
