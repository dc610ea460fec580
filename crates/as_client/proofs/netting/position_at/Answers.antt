use Rattle.std.proofs.Common.{rules, ◌≡◌, Some, ap, ◌∙◌, sym, w64, FitsSigned, to_z, of_z}
use Rattle.std.specs.Option.{option_map}
use Rattle.std.specs.Map.Iter.{deref_pair}
use Rattle.std.proofs.lemmas.Int.{to_z-of_z}
use Rattle.as_client.specs.Turnovers.{left}
use Rattle.as_client.proofs.TurnoverFacts.{position_found, small_found}
use Rattle.as_client.proofs.netting.position_at.Goals as goal

pub left-requires : goal.left-requires
left-requires c =
    small_found c.args.turnovers.now c.unwrap.result.0.now c.unwrap.result.1.now (rw c.unwrap.ensures at c.get_index.ensures.value) c.requires.small

pub returns : goal.returns
returns c =
    let fits : FitsSigned w64 c.left.result = search rules in
    let sum : to_z w64 (of_z w64 c.left.result) ≡ left c.unwrap.result.1.now = to_z-of_z w64 c.left.result fits ∙ c.left.ensures in
    position_found c.args.turnovers.now c.args.i c.unwrap.result.0.now c.unwrap.result.1.now (sym c.get_index.ensures.entry ∙ ap (option_map deref_pair) c.unwrap.ensures)
    (rw c.unwrap.ensures at c.get_index.ensures.value)
    ∙ (λ j. Some (record { account = sym c.copy.ensures j; sum = sym sum j }))
