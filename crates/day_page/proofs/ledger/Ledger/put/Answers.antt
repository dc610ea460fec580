use Rattle.std.proofs.Common.{◌≡◌, ◌∙◌, ℕ, List, ap, arith, length}
use Rattle.std.specs.Prelude.{slice_index_or, slice_set}
use Rattle.std.specs.Vec.{with_items}
use Rattle.std.proofs.lemmas.List.{length-set, with_items_is}
use Rattle.day_page.specs.declared.ledger.Ledger.{Ledger}
use Rattle.day_page.proofs.StakeFacts.{stake_is, still_tallied, takes_at}
use Rattle.day_page.proofs.ledger.Ledger.put.Goals as goal

pub renewed-self-requires : goal.renewed-self-requires
renewed-self-requires c =
    let was = c.at-old.ensures ∙ ap (λ (xs : List ℕ). slice_index_or xs c.args.i 0) c.as_slice.ensures.value in
    takes_at c.args.setting.now.day c.args.self.now 0 c.args.i c.args.n c.args.new c.at-old.result c.has_priority.result c.args.self.now.urgent c.requires.tallied c.requires.within c.requires.item c.requires.small c.requires.tallied.urgent was c.has_priority.ensures

pub renewed-self-requires-2 : goal.renewed-self-requires-2
renewed-self-requires-2 c =
    let was = c.at-old.ensures ∙ ap (λ (xs : List ℕ). slice_index_or xs c.args.i 0) c.as_slice.ensures.value in
    takes_at c.args.setting.now.day c.args.self.now 1 c.args.i c.args.n c.args.new c.at-old.result c.has_priority-2.result c.args.self.now.high c.requires.tallied c.requires.within c.requires.item c.requires.small c.requires.tallied.high was c.has_priority-2.ensures

pub renewed-self-requires-3 : goal.renewed-self-requires-3
renewed-self-requires-3 c =
    let was = c.at-old.ensures ∙ ap (λ (xs : List ℕ). slice_index_or xs c.args.i 0) c.as_slice.ensures.value in
    takes_at c.args.setting.now.day c.args.self.now 2 c.args.i c.args.n c.args.new c.at-old.result c.has_priority-3.result c.args.self.now.normal c.requires.tallied c.requires.within c.requires.item c.requires.small c.requires.tallied.normal was c.has_priority-3.ensures

pub returns-clause-tallied : goal.returns-clause-tallied
returns-clause-tallied c =
    let day = c.args.setting.now.day in
    let was = c.at-old.ensures ∙ ap (λ (xs : List ℕ). slice_index_or xs c.args.i 0) c.as_slice.ensures.value in
    let later : Ledger = record { stakes = with_items c.args.self.now.stakes c.put.new.stakes; urgent = c.renewed-self.result; high = c.renewed-self-2.result; normal = c.renewed-self-3.result } in
    let stakes : List ℕ = c.args.self.now.stakes.items in
    let put : c.put.new.stakes ≡ slice_set stakes c.args.i c.args.new = c.put.ensures ∙ ap (λ (xs : List ℕ). slice_set xs c.args.i c.args.new) c.as_mut_slice.ensures.value in
    let size : length c.put.new.stakes ≡ length stakes = ap length put ∙ length-set stakes c.args.i c.args.new in
    still_tallied day c.args.i c.args.new c.args.self.now later c.requires.tallied c.requires.within c.requires.small (with_items_is c.args.self.now.stakes c.put.new.stakes (omega (arith, size, c.args.self.now.stakes.ok.0)) ∙ put)
    (stake_is day 0 c.args.i c.args.n c.args.new c.at-old.result c.has_priority.result _ _ c.args.self.now.stakes.items c.requires.item was c.has_priority.ensures c.renewed-self.ensures)
    (stake_is day 1 c.args.i c.args.n c.args.new c.at-old.result c.has_priority-2.result _ _ c.args.self.now.stakes.items c.requires.item was c.has_priority-2.ensures c.renewed-self-2.ensures)
    (stake_is day 2 c.args.i c.args.n c.args.new c.at-old.result c.has_priority-3.result _ _ c.args.self.now.stakes.items c.requires.item was c.has_priority-3.ensures c.renewed-self-3.ensures)
