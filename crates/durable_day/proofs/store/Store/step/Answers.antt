use Rattle.std.proofs.Common.{◌∙◌, sym, ap, subst}
use Rattle.commit_journal.specs.Line.{History}
use Rattle.durable_day.specs.Stores.{IsDurable}
use Rattle.durable_day.proofs.StepFacts.{has_some, made_moments, made_step, made_sure, made_time, not_moments, not_step, not_sure, not_time, older_durable, shown}
use Rattle.durable_day.proofs.store.Store.step.Goals as goal

pub answer-requires : goal.answer-requires
answer-requires g c = record { at_work = c.self.invariant.at_work }

pub of-requires-clause-at_work : goal.of-requires-clause-at_work
of-requires-clause-at_work g c = c.answer.ensures.at_work

pub of-requires-clause-durable : goal.of-requires-clause-durable
of-requires-clause-durable g c = subst (λ (J : History). IsDurable g.D.Disk.seen g.D.Disk.image J c.self.inside.end c.self.inside.disk) (sym c.in-Err.ensures.answered.1) c.self.invariant.durable

pub returns-in-Err-clause-step : goal.returns-in-Err-clause-step
returns-in-Err-clause-step g c =
    let same = ap (λ (J : History). shown c.self.inside.setting.day J c.self.inside.disk) c.in-Err.ensures.answered.1 in
    not_step g.D.Disk.seen g.D.Disk.image g.D.Disk.clock g.D.Disk.since g.D.Disk.lasts g.D.Disk.faults c.self.inside.setting.day c.self.inside.floor.journal.history c.self.inside.disk c.args.self c.of.result c.args.want c.in-Err.why c.self.view_is (c.of.ensures.parts ∙ same) c.of.ensures.known c.in-Err.ensures.answered.0

pub returns-in-Err-clause-moments : goal.returns-in-Err-clause-moments
returns-in-Err-clause-moments g c =
    let same = ap (λ (J : History). shown c.self.inside.setting.day J c.self.inside.disk) c.in-Err.ensures.answered.1 in
    not_moments g.D.Disk.seen g.D.Disk.image g.D.Disk.clock g.D.Disk.since g.D.Disk.lasts g.D.Disk.faults c.self.inside.setting.day c.self.inside.floor.journal.history c.self.inside.end c.self.inside.disk c.args.self c.of.result c.args.want c.self.view_is (c.of.ensures.parts ∙ same) c.self.invariant.durable (g.met.D.Disk.only_now c.self.inside.disk)

pub returns-in-Err-clause-time : goal.returns-in-Err-clause-time
returns-in-Err-clause-time g c =
    let same = ap (λ (J : History). shown c.self.inside.setting.day J c.self.inside.disk) c.in-Err.ensures.answered.1 in
    not_time g.D.Disk.seen g.D.Disk.image g.D.Disk.clock g.D.Disk.since g.D.Disk.lasts g.D.Disk.faults c.self.inside.setting.day c.self.inside.floor.journal.history c.self.inside.disk c.args.self c.of.result c.self.view_is (c.of.ensures.parts ∙ same)

pub returns-in-Err-clause-sure : goal.returns-in-Err-clause-sure
returns-in-Err-clause-sure g c =
    let same = ap (λ (J : History). shown c.self.inside.setting.day J c.self.inside.disk) c.in-Err.ensures.answered.1 in
    not_sure g.D.Disk.seen g.D.Disk.image g.D.Disk.clock g.D.Disk.since g.D.Disk.lasts g.D.Disk.faults g.met.D.Disk.lasts_for_less c.self.inside.setting.day c.self.inside.floor.journal.history c.self.inside.disk c.args.self c.of.result _ c.self.view_is (c.of.ensures.parts ∙ same)

pub with_newest-requires-clause-at_work : goal.with_newest-requires-clause-at_work
with_newest-requires-clause-at_work g c = c.answer.ensures.at_work

pub with_newest-requires-clause-some : goal.with_newest-requires-clause-some
with_newest-requires-clause-some g c = let made = c.in-Ok.ensures.answered in has_some c.self.inside.floor.journal.history _ made.0 made.2

pub with_newest-requires-clause-older : goal.with_newest-requires-clause-older
with_newest-requires-clause-older g c = let made = c.in-Ok.ensures.answered in older_durable g.D.Disk.seen g.D.Disk.image c.self.inside.floor.journal.history _ made.0 _ _ made.2 c.self.invariant.durable

pub returns-in-Ok-clause-step : goal.returns-in-Ok-clause-step
returns-in-Ok-clause-step g c =
    let made = c.in-Ok.ensures.answered in
    let is = made_step g.D.Disk.seen g.D.Disk.image g.D.Disk.clock g.D.Disk.since g.D.Disk.lasts g.D.Disk.faults c.self.inside.setting.day c.self.inside.floor.journal.history c.answer.new.floor.journal.history c.self.inside.disk c.args.self c.args.want made.0 c.in-Ok.place c.with_newest.result c.self.view_is made.1 made.2 made.3 c.with_newest.ensures.made c.with_newest.ensures.fault in
    rw c.step_of.ensures is

pub returns-in-Ok-clause-moments : goal.returns-in-Ok-clause-moments
returns-in-Ok-clause-moments g c =
    let made = c.in-Ok.ensures.answered in
    let is = made_moments g.D.Disk.seen g.D.Disk.image g.D.Disk.clock g.D.Disk.since g.D.Disk.lasts g.D.Disk.faults c.self.inside.setting.day c.self.inside.floor.journal.history c.answer.new.floor.journal.history c.self.inside.disk c.args.self c.args.want made.0 c.in-Ok.place c.with_newest.result c.self.view_is made.1 made.2 c.with_newest.ensures.moments in
    rw c.step_of.ensures is

pub returns-in-Ok-clause-time : goal.returns-in-Ok-clause-time
returns-in-Ok-clause-time g c =
    let is = made_time g.D.Disk.seen g.D.Disk.image g.D.Disk.clock g.D.Disk.since g.D.Disk.lasts g.D.Disk.faults c.self.inside.setting.day c.self.inside.floor.journal.history c.self.inside.disk c.args.self c.in-Ok.place c.with_newest.result c.self.view_is c.with_newest.ensures.time in
    rw c.step_of.ensures is

pub returns-in-Ok-clause-sure : goal.returns-in-Ok-clause-sure
returns-in-Ok-clause-sure g c =
    let made = c.in-Ok.ensures.answered in
    let is = made_sure g.D.Disk.seen g.D.Disk.image g.D.Disk.clock g.D.Disk.since g.D.Disk.lasts g.D.Disk.faults c.self.inside.setting.day c.self.inside.floor.journal.history c.answer.new.floor.journal.history c.self.inside.disk c.args.self c.args.want made.0 c.in-Ok.place c.with_newest.result c.self.view_is made.1 made.2 c.with_newest.ensures.sure in
    rw c.step_of.ensures is
