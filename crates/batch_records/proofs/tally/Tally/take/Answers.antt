use Rattle.std.proofs.Common.{◌∙◌, refl, subst, sym}
use Rattle.batch_records.specs.Tallies.{IsSmall}
use Rattle.batch_records.proofs.TallyFacts.{late_none, late_some, small_after}
use Rattle.batch_records.proofs.tally.Tally.take.Goals as goal

pub returns-in-None-clause-code : goal.returns-in-None-clause-code
returns-in-None-clause-code c =
    let named = (rw c.field.ensures at (sym c.kind_named.ensures)) ∙ c.in-None.is in
    (late_none c.args.self.now c.args.row.now named, refl)

pub returns-in-Some-code_of-clause-code : goal.returns-in-Some-code_of-clause-code
returns-in-Some-code_of-clause-code c =
    let named = (rw c.field.ensures at (sym c.kind_named.ensures)) ∙ c.in-Some.is in
    (late_some c.in-Some.kind c.args.self.now c.args.row.now named ∙ sym c.code_of.ensures ∙ c.in-Some-code_of.is, refl)

pub returns-in-None-code_of-clause-ok : goal.returns-in-None-code_of-clause-ok
returns-in-None-code_of-clause-ok c =
    let named = (rw c.field.ensures at (sym c.kind_named.ensures)) ∙ c.in-Some.is in
    late_some c.in-Some.kind c.args.self.now c.args.row.now named ∙ sym c.code_of.ensures ∙ c.in-None-code_of.is

pub returns-in-None-code_of-clause-small : goal.returns-in-None-code_of-clause-small
returns-in-None-code_of-clause-small c =
    subst IsSmall (sym c.counted.ensures.after)
    (small_after c.in-Some.kind c.args.self.now c.args.row.now c.counted.result (sym c.code_of.ensures ∙ c.in-None-code_of.is) c.counted.ensures.states c.requires)
