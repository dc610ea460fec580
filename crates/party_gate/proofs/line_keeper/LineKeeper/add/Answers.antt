use Rattle.std.proofs.Common.{◌∙◌, ◌++◌, ◌∷◌, [], List, ℕ, ap, refl, sym}
use Rattle.party_gate.specs.Passing.{end_ahead}
use Rattle.party_gate.proofs.KeeperFacts.{filled, full_adds, full_keeps, is_all, short_keeps, unfilled}
use Rattle.party_gate.proofs.line_keeper.LineKeeper.add.Goals as goal

pub returns-then-is_full-clause-ending : goal.returns-then-is_full-clause-ending
returns-then-is_full-clause-ending c = λ begun keeps. sym (full_adds c.args.self.now begun c.args.b keeps (filled _ _ c.is_full.ensures.value c.if-is_full.true))

pub returns-then-is_full-clause-next : goal.returns-then-is_full-clause-next
returns-then-is_full-clause-next c = λ begun keeps none. full_keeps c.args.self.now begun c.args.b keeps (filled _ _ c.is_full.ensures.value c.if-is_full.true)

pub returns-clause-ending : goal.returns-clause-ending
returns-clause-ending c = λ begun keeps.
    let few = unfilled _ _ c.is_full.ensures.value c.if-is_full.false c.is_full.ensures.fits in
    c.end_ahead.ensures ∙ ap (end_ahead c.args.self.now.name) (c.push.ensures.items ∙ ap (λ (t : List ℕ). t ++ c.args.b ∷ []) (is_all c.args.self.now begun keeps few))

pub returns-clause-next : goal.returns-clause-next
returns-clause-next c = λ begun keeps none.
    let few = unfilled _ _ c.is_full.ensures.value c.if-is_full.false c.is_full.ensures.fits in
    let ending = c.end_ahead.ensures ∙ ap (end_ahead c.args.self.now.name) (c.push.ensures.items ∙ ap (λ (t : List ℕ). t ++ c.args.b ∷ []) (is_all c.args.self.now begun keeps few)) in
    short_keeps c.args.self.now (record { name = c.args.self.now.name; line = c.push.new.self }) begun c.args.b keeps few refl c.push.ensures.items (sym ending ∙ none)
