use Rattle.std.proofs.Common.{◌∙◌, sym}
use Rattle.durable_day.proofs.UnderwayFacts.{arrives, comes_nearer, goes_further, sets_out, stops_moments, stops_there}
use Rattle.durable_day.proofs.store.Store.go_on.Goals as goal

pub lines-init : goal.lines-init
lines-init g c = record {
  way = sets_out g.D.Disk.seen g.D.Disk.image g.D.Disk.clock g.D.Disk.since g.D.Disk.lasts g.D.Disk.cut_after g.D.Disk.faults g.met.D.Disk.lasts_for_less g.met.D.Disk.cut_for_less c.args.self c.has_ended-ended.ensures.known (g.met.D.Disk.only_now c.args.self.disk);
  known = c.has_ended-ended.ensures.known;
  ended = c.has_ended-ended.ensures.ended;
}

pub lines-preserved : goal.lines-preserved
lines-preserved g c =
    let e = sym c.lines.invariant.ended ∙ c.lines-test.true in
    record {
      way = goes_further g.D.Disk.seen g.D.Disk.image g.D.Disk.clock g.D.Disk.since g.D.Disk.lasts g.D.Disk.cut_after g.D.Disk.faults g.met.D.Disk.lasts_for_less g.met.D.Disk.cut_for_less c.args.self c.lines.store c.in-Ok.next c.lines.invariant.way c.lines.invariant.known e c.in-Ok.ensures.made c.in-Ok.ensures.moments c.in-Ok.ensures.time c.in-Ok.ensures.sure c.in-Ok.ensures.cut;
      known = c.has_ended-ended-in-Ok.ensures.known;
      ended = c.has_ended-ended-in-Ok.ensures.ended;
    }

pub lines-smaller : goal.lines-smaller
lines-smaller g c =
    let e = sym c.lines.invariant.ended ∙ c.lines-test.true in
    comes_nearer g.D.Disk.seen g.D.Disk.image g.D.Disk.clock g.D.Disk.since g.D.Disk.lasts g.D.Disk.cut_after g.D.Disk.faults g.met.D.Disk.lasts_for_less g.met.D.Disk.cut_for_less c.args.self c.lines.store c.in-Ok.next c.lines.invariant.way c.lines.invariant.known e c.in-Ok.ensures.made.1

pub returns-in-Err-clause-goes_on : goal.returns-in-Err-clause-goes_on
returns-in-Err-clause-goes_on g c =
    let e = sym c.lines.invariant.ended ∙ c.lines-test.true in
    stops_there g.D.Disk.seen g.D.Disk.image g.D.Disk.clock g.D.Disk.since g.D.Disk.lasts g.D.Disk.cut_after g.D.Disk.faults g.met.D.Disk.lasts_for_less g.met.D.Disk.cut_for_less c.args.self c.lines.store c.in-Err.disk c.lines.invariant.way c.lines.invariant.known e c.in-Err.ensures.fault c.in-Err.ensures.moments c.in-Err.ensures.time c.in-Err.ensures.sure c.in-Err.ensures.cut (g.met.D.Disk.counts_now c.in-Err.disk)

pub returns-in-Err-clause-moments : goal.returns-in-Err-clause-moments
returns-in-Err-clause-moments g c =
    let e = sym c.lines.invariant.ended ∙ c.lines-test.true in
    stops_moments g.D.Disk.seen g.D.Disk.image g.D.Disk.clock g.D.Disk.since g.D.Disk.lasts g.D.Disk.cut_after g.D.Disk.faults g.met.D.Disk.lasts_for_less g.met.D.Disk.cut_for_less c.args.self c.lines.store c.in-Err.disk c.lines.invariant.way c.lines.invariant.known e c.in-Err.ensures.moments

pub returns-clause-goes_on : goal.returns-clause-goes_on
returns-clause-goes_on g c = arrives g.D.Disk.seen g.D.Disk.image g.D.Disk.clock g.D.Disk.since g.D.Disk.lasts g.D.Disk.cut_after g.D.Disk.faults g.met.D.Disk.lasts_for_less g.met.D.Disk.cut_for_less c.args.self c.lines.store c.lines.invariant.way c.lines.invariant.known (sym c.lines.invariant.ended ∙ c.lines-test.false)

pub returns-clause-moments : goal.returns-clause-moments
returns-clause-moments g c = c.lines.invariant.way.moments
