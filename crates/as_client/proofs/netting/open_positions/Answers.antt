use Rattle.std.proofs.Common.{◌∷◌, [], ◌++◌, List, arith, map, ◌<◌, length, filter, ap, ◌∙◌, sym}
use Rattle.std.proofs.lemmas.List.{length-map}
use Rattle.indexmap.specs.IndexMap.{keys}
use Rattle.as_client.specs.declared.trade.Position.{Position}
use Rattle.as_client.specs.Netting.{is_open}
use Rattle.as_client.specs.Turnovers.{position_in}
use Rattle.as_client.proofs.TurnoverFacts.{positions-more}
use Rattle.as_client.proofs.netting.open_positions.Goals as goal

pub loop-i-preserved : goal.loop-i-preserved
loop-i-preserved c =
    let all = map (position_in c.args.turnovers.now) (keys c.args.turnovers.now) in
    let within : c.loop-i.i < length all =
    omega (arith, length-map (keys c.args.turnovers.now) (position_in c.args.turnovers.now), length-map c.args.turnovers.now.entries (λ e. e.0)) in
    c.in_ok-push_open.ensures ∙ ap (λ (ps : List Position). ps ++ filter is_open (c.position_at.result ∷ [])) c.loop-i.invariant
    ∙ sym (positions-more is_open all c.loop-i.i c.position_at.result within c.position_at.ensures)
