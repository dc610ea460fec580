use Rattle.std.proofs.Common.{subst}
use Rattle.live_day.specs.Stages.{IsOpened}
use Rattle.live_day.specs.declared.stage.Stage.{Stage}
use Rattle.live_day.proofs.StageFacts.{late_either}
use Rattle.live_day.proofs.stage.Stage.hear_first.Goals as goal

pub hear-requires : goal.hear-requires
hear-requires g c =
    let ready = c.requires.ready in
    record {
      records = ready.0;
      fields = ready.1;
      is = ready.3.kept;
      at_work = subst (λ (s : Stage). IsOpened s ready.0) c.in-Late.is (c.open.ensures ready.0 ready.2);
      late = late_either _ _ c.requires.late;
    }

pub returns-in-Late-clause-goes : goal.returns-in-Late-clause-goes
returns-in-Late-clause-goes g c = λ records r ready next said.
    let opened = subst (λ (s : Stage). IsOpened s records) c.in-Late.is (c.open.ensures records ready) in
    (c.hear.ensures.goes records r next.kept opened next.number said, c.hear.ensures.begun said)

pub returns-in-Late-clause-breaks : goal.returns-in-Late-clause-breaks
returns-in-Late-clause-breaks g c = λ records r ready next said.
    let opened = subst (λ (s : Stage). IsOpened s records) c.in-Late.is (c.open.ensures records ready) in
    c.hear.ensures.breaks records r next.kept opened next.number said
