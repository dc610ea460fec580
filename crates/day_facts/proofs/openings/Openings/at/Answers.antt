use Rattle.std.proofs.Common.{◌∙◌, ap, subst, sym}
use Rattle.std.specs.Prelude.{unwrap_or}
use Rattle.day_facts.specs.Openings.{AreInOrder, opening_in, reached}
use Rattle.day_facts.proofs.OpeningLines.{ends_up, opening_reached}
use Rattle.day_facts.proofs.openings.Openings.at.Goals as goal

pub reached-requires : goal.reached-requires
reached-requires c = subst AreInOrder (sym c.as_slice.ensures.value) (ends_up 0 _ _ c.self.invariant.rise)

pub returns-in-Some : goal.returns-in-Some
returns-in-Some c =
    ap (λ o. unwrap_or o 0) c.in-Some.ensures
    ∙ ap (λ rows. unwrap_or (reached rows c.args.t) 0) c.as_slice.ensures.value
    ∙ sym (opening_reached c.self.inside.rows.items _ _ _ c.args.t c.self.invariant)
    ∙ ap (λ openings. opening_in openings c.args.t) c.self.view_is

pub returns-in-None : goal.returns-in-None
returns-in-None c =
    ap (λ o. unwrap_or o 0) c.in-None.ensures
    ∙ ap (λ rows. unwrap_or (reached rows c.args.t) 0) c.as_slice.ensures.value
    ∙ sym (opening_reached c.self.inside.rows.items _ _ _ c.args.t c.self.invariant)
    ∙ ap (λ openings. opening_in openings c.args.t) c.self.view_is
