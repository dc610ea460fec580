use Rattle.std.proofs.Common.{◌∙◌, ap}
use Rattle.machine.specs.Telling.History.{is_ended}
use Rattle.durable_day.specs.Stores.{OnStore}
use Rattle.durable_day.proofs.StepFacts.{has_some, next_cut, next_failed, next_kept, next_line_is, next_moments, next_sure, next_time, older_durable}
use Rattle.durable_day.proofs.store.Store.advance.Goals as goal

pub make_next-requires-clause-at_work : goal.make_next-requires-clause-at_work
make_next-requires-clause-at_work g c = c.self.invariant.at_work

pub make_next-requires-clause-lasts : goal.make_next-requires-clause-lasts
make_next-requires-clause-lasts g c = ap (λ (s : OnStore _). is_ended s.history) c.self.view_is ∙ c.requires

pub with_newest-requires-clause-at_work : goal.with_newest-requires-clause-at_work
with_newest-requires-clause-at_work g c = c.make_next.ensures.at_work

pub with_newest-requires-clause-some : goal.with_newest-requires-clause-some
with_newest-requires-clause-some g c = let made = c.make_next.ensures.made in has_some c.self.inside.floor.journal.history _ made.0 made.2

pub with_newest-requires-clause-older : goal.with_newest-requires-clause-older
with_newest-requires-clause-older g c = let made = c.make_next.ensures.made in older_durable g.D.Disk.seen g.D.Disk.image c.self.inside.floor.journal.history _ made.0 _ _ made.2 c.self.invariant.durable

pub returns-clause-made : goal.returns-clause-made
returns-clause-made g c =
    let day = c.self.inside.setting.day in
    let J = c.self.inside.floor.journal.history in
    let next = next_line_is g.D.Disk.seen g.D.Disk.image g.D.Disk.clock g.D.Disk.since g.D.Disk.lasts g.D.Disk.faults day J c.make_next.new.floor.journal.history c.make_next.result c.make_next.ensures.made in
    next_kept g.D.Disk.seen g.D.Disk.image g.D.Disk.clock g.D.Disk.since g.D.Disk.lasts g.D.Disk.faults day J c.make_next.new.floor.journal.history c.self.inside.disk c.args.self c.with_newest.result c.self.view_is next c.with_newest.ensures.made

pub returns-clause-fault : goal.returns-clause-fault
returns-clause-fault g c = next_failed g.D.Disk.seen g.D.Disk.image g.D.Disk.clock g.D.Disk.since g.D.Disk.lasts g.D.Disk.faults c.self.inside.setting.day c.self.inside.floor.journal.history c.self.inside.disk c.args.self c.with_newest.result c.self.view_is c.with_newest.ensures.fault

pub returns-clause-moments : goal.returns-clause-moments
returns-clause-moments g c =
    let day = c.self.inside.setting.day in
    let J = c.self.inside.floor.journal.history in
    let made = c.make_next.ensures.made in
    let next = next_line_is g.D.Disk.seen g.D.Disk.image g.D.Disk.clock g.D.Disk.since g.D.Disk.lasts g.D.Disk.faults day J c.make_next.new.floor.journal.history c.make_next.result made in
    next_moments g.D.Disk.seen g.D.Disk.image g.D.Disk.clock g.D.Disk.since g.D.Disk.lasts g.D.Disk.faults day J c.make_next.new.floor.journal.history c.self.inside.disk c.args.self made.0 c.with_newest.result c.self.view_is made.2 next c.with_newest.ensures.moments

pub returns-clause-time : goal.returns-clause-time
returns-clause-time g c = next_time g.D.Disk.seen g.D.Disk.image g.D.Disk.clock g.D.Disk.since g.D.Disk.lasts g.D.Disk.faults c.self.inside.setting.day c.self.inside.floor.journal.history c.self.inside.disk c.args.self c.with_newest.result c.self.view_is c.with_newest.ensures.time

pub returns-clause-sure : goal.returns-clause-sure
returns-clause-sure g c =
    let day = c.self.inside.setting.day in
    let J = c.self.inside.floor.journal.history in
    let next = next_line_is g.D.Disk.seen g.D.Disk.image g.D.Disk.clock g.D.Disk.since g.D.Disk.lasts g.D.Disk.faults day J c.make_next.new.floor.journal.history c.make_next.result c.make_next.ensures.made in
    next_sure g.D.Disk.seen g.D.Disk.image g.D.Disk.clock g.D.Disk.since g.D.Disk.lasts g.D.Disk.faults day J c.make_next.new.floor.journal.history c.self.inside.disk c.args.self c.with_newest.result c.self.view_is next c.with_newest.ensures.sure

pub returns-clause-cut : goal.returns-clause-cut
returns-clause-cut g c =
    let day = c.self.inside.setting.day in
    let J = c.self.inside.floor.journal.history in
    let next = next_line_is g.D.Disk.seen g.D.Disk.image g.D.Disk.clock g.D.Disk.since g.D.Disk.lasts g.D.Disk.faults day J c.make_next.new.floor.journal.history c.make_next.result c.make_next.ensures.made in
    next_cut g.D.Disk.seen g.D.Disk.cut_after day J c.make_next.new.floor.journal.history c.self.inside.disk c.args.self c.with_newest.result c.self.view_is next c.with_newest.ensures.cut
