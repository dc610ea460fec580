use Rattle.std.proofs.Common.{◌≡◌, ◌∙◌, ◌++◌, ℕ, true, sym, ap}
use Rattle.live_records.specs.Ears.{calls_said}
use Rattle.live_day.specs.Events.{events_in}
use Rattle.live_day.proofs.BehindFacts.{puts_is}
use Rattle.live_day.proofs.WorkFacts.{at_ok, lacks_said, said_breaks, said_count, said_goes, said_told}
use Rattle.live_day.proofs.work.Work.hear_next.Goals as goal

pub answer-requires : goal.answer-requires
answer-requires g c =
    lacks_said c.requires.before c.requires.fields c.hear_into-said.result c.args.self.now.ear c.hear_into-said.new.ear c.args.self.now.setting.day c.hear_into-said.new.setting.day c.args.self.now.floor c.requires.working.heard
    (c.hear_into-said.ensures.told c.requires.before c.requires.fields c.requires.is c.requires.working.heard) c.hear_into-said.ensures.day c.hear_into-said.ensures.fits c.requires.of_day c.requires.next_of_day c.requires.working.told

pub returns-clause-heard : goal.returns-clause-heard
returns-clause-heard g c = λ h r is w of of_next number.
    let told = c.hear_into-said.ensures.told h r is w.heard in
    record {
      said = c.hear_into-said.result;
      calls = told.calls ∙ ap (λ (n : ℕ). h.calls ++ calls_said n c.hear_into-said.result) (sym number);
      told = puts_is _ _ _ _ _ (said_told h r c.hear_into-said.result c.args.number (events_in h.calls) c.hear_into-said.new.ear c.hear_into-said.new.setting.day told)
          (c.answer.ensures.texts (events_in h.calls)
          (said_count h r c.hear_into-said.result c.args.number c.args.self.now.ear c.hear_into-said.new.ear c.args.self.now.setting.day c.hear_into-said.new.setting.day number w.heard told c.hear_into-said.ensures.day of of_next));
      goes = λ e. record {
        heard = told.heard (said_goes _ _ c.answer.ensures.ends e);
        fits = c.hear_into-said.ensures.fits;
        room = c.hear_into-said.ensures.room;
        told = at_ok true _ _ c.answer.ensures.told e;
      };
      breaks = λ e. told.ends ∙ said_breaks _ _ c.answer.ensures.ends e;
    }

pub returns-clause-begun : goal.returns-clause-begun
returns-clause-begun g c = λ e. c.hear_into-said.ensures.begun (said_goes _ _ c.answer.ensures.ends e)
