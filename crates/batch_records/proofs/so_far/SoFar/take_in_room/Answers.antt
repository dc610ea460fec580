use Rattle.std.proofs.Common.{◌∙◌, sym}
use Rattle.batch_records.specs.Tallies.{is_setup_over}
use Rattle.batch_records.proofs.BoolFacts.{not_false}
use Rattle.batch_records.proofs.SetupRoom.{over_behind, over_started, step_kept}
use Rattle.batch_records.proofs.so_far.SoFar.take_in_room.Goals as goal

pub returns-in-None-clause-over : goal.returns-in-None-clause-over
returns-in-None-clause-over c = λ out.
    let s = c.args.self.now in
    let r = c.args.row.now in
    let none = sym c.first_code.ensures ∙ c.in-None.is in
    let over = not_false (is_setup_over r) (sym c.add_to_setup.ensures.over ∙ out) in
    (c.add_to_setup.ensures.stays out, over_started s r none over, over_behind s r none over)

pub returns-in-None-clause-step : goal.returns-in-None-clause-step
returns-in-None-clause-step c =
    step_kept c.args.self.now c.add_to_setup.new.self c.args.row.now c.add_to_setup.result (sym c.first_code.ensures ∙ c.in-None.is) c.requires c.add_to_setup.ensures.added c.add_to_setup.ensures.stays
