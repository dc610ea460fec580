use Rattle.std.proofs.Common.{ℕ, [], refl, subst, inl}
use Rattle.batch_records.specs.DayRecord.{Day}
use Rattle.rtgs_engine.specs.GivenAnswers.{SaysOfMade, settled}
use Rattle.rtgs_engine.specs.Journals.{IsOfDay}
use Rattle.rtgs_engine.proofs.working.work_day.Goals as goal

pub returns-in-Ok : goal.returns-in-Ok
returns-in-Ok g c =
    subst (λ (n : ℕ). SaysOfMade {S = g.row.S.Denot} g.S.Sink.state c.args.output.now c.settle_opened.new.output (IsOfDay n c.args.day) (settled c.args.day) c.settle_opened.result) c.in-Ok.ensures.workers
    (subst (λ (day : Day). SaysOfMade {S = g.row.S.Denot} g.S.Sink.state c.args.output.now c.settle_opened.new.output (IsOfDay c.in-Ok.opened.lanes.workers day) (settled day) c.settle_opened.result) c.in-Ok.ensures.kit c.settle_opened.ensures)

pub returns-in-Err : goal.returns-in-Err
returns-in-Err g c = record { journal = []; made = λ other. absurd (other refl); said = inl (refl, refl, c.in-Err.field-0.cause) }
