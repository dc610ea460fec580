use Rattle.std.proofs.Common.{◌∙◌, inl, inr, true, refl, subst, sym}
use Rattle.batch_records.specs.Tallies.{IsSmall}
use Rattle.batch_records.specs.declared.tally.Tally.{Tally}
use Rattle.live_records.specs.Ears.{AreSpoken, FitsPiece, listening, refused, with_piece}
use Rattle.live_records.proofs.EarRoom.{listening_fits, piece_fits, refused_fits}
use Rattle.live_records.proofs.ear.Ear.step.Goals as goal

pub returns-then-passes_over-clause-heard : goal.returns-then-passes_over-clause-heard
returns-then-passes_over-clause-heard c = inl (sym c.passes_over.ensures ∙ c.if-passes_over.true, (refl, refl, refl))

pub add-requires : goal.add-requires
add-requires c =
    let states = c.in-Ok.ensures.states in
    subst (λ (t : Tally). FitsPiece c.in-Ok.piece (record (listening c.args.self.now) { tally = t; begun = true }) c.args.day.now) (sym states.1)
    (piece_fits c.args.self.now c.args.day.now c.args.row.now c.in-Ok.piece c.requires.fits c.requires.shut c.in-Ok.ensures.ok states.0 (subst IsSmall states.1 c.in-Ok.ensures.small))

pub returns-in-Ok-clause-heard : goal.returns-in-Ok-clause-heard
returns-in-Ok-clause-heard c =
    let states = c.in-Ok.ensures.states in
    inr (inl (
      sym c.passes_over.ensures ∙ c.if-passes_over.false,
      c.in-Ok.ensures.ok,
      (
        c.in-Ok.piece,
        states.0,
        subst (λ (t : Tally). AreSpoken c.add.new.self c.add.new.day c.add.result (with_piece c.in-Ok.piece (record (listening c.args.self.now) { tally = t; begun = true }) c.args.day.now)) states.1 c.add.ensures.spoken,
      ),
    ))

pub returns-in-Err-clause-heard : goal.returns-in-Err-clause-heard
returns-in-Err-clause-heard c =
    let code = c.in-Err.ensures.code in
    inr (inr (
      sym c.passes_over.ensures ∙ c.if-passes_over.false,
      (c.in-Err.code, code.0, (c.refuse.ensures.ear ∙ (λ i. refused (c.is_batch.ensures i) (listening c.args.self.now)), refl, c.refuse.ensures.said)),
    ))

pub returns-in-Err-clause-fits : goal.returns-in-Err-clause-fits
returns-in-Err-clause-fits c = rw c.refuse.ensures.ear (refused_fits (listening c.args.self.now) c.args.day.now c.is_batch.result (listening_fits c.args.self.now c.args.day.now c.requires.fits))
