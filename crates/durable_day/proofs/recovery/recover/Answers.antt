use Rattle.std.proofs.Common.{ℕ, ◌+◌, ◌*◌, ◌∙◌, List, drop, refl, ap, arith}
use Rattle.durable_day.specs.declared.reading.Entry.TheVariants as entries
use Rattle.durable_day.proofs.RecoverFacts.{ends_closed, ends_foreign, lines_small, place_small, there, walks_on}
use Rattle.durable_day.proofs.ReadFacts.{last_reads, next_reads, place_reads, reads_none, reads_off_on, reads_on}
use Rattle.durable_day.proofs.WalkFacts.{none_closed, walk_begins}
use Rattle.durable_day.specs.Pieces.{room_size}
use Rattle.durable_day.specs.Reads.{finding_time, reads_at}
use Rattle.durable_day.proofs.recovery.recover.Goals as goal

pub lines-init : goal.lines-init
lines-init g c = record {
  walked = walk_begins c.args.setting.now.day (g.D.Disk.seen c.args.disk.now) c.args.floor.now.journal.history c.requires.empty;
  at_work = c.requires.at_work;
  moves = c.requires.moves;
  room = c.requires.room;
  reads = reads_none g.D.Disk.seen g.D.Disk.image g.D.Disk.clock g.D.Disk.since g.D.Disk.lasts g.D.Disk.faults g.D.Disk.cut_after g.met.D.Disk.lasts_for_less g.met.D.Disk.cut_for_less c.args.disk.now (g.met.D.Disk.only_now c.args.disk.now);
  faults = refl;
}

pub overflow_add-at : goal.overflow_add-at
overflow_add-at g c =
    let day = c.args.setting.now.day in
    let seen = g.D.Disk.seen c.args.disk.now in
    let J = c.lines.floor.journal.history in
    let at_work = c.lines.invariant.at_work in
    let next = there day J c.next_at.new.floor.journal.history c.lines.at (g.D.Disk.seen c.lines.disk) seen c.in-Ok-Text.field-0 (entries.Text c.in-Ok-Text.count) c.lines.invariant.reads.looks.same c.in-Ok-Text.field-0-is c.in-Ok-Text.ensures.next in
    let small = place_small day c.args.setting.now.sound seen J c.next_at.new.floor.journal.history c.lines.at c.lines.lines c.in-Ok-Text.count at_work.opened.fits.legal c.lines.invariant.walked next in
    omega (arith, small)

pub overflow_add-at-in-Ok-Text : goal.overflow_add-at-in-Ok-Text
overflow_add-at-in-Ok-Text g c =
    let day = c.args.setting.now.day in
    let seen = g.D.Disk.seen c.args.disk.now in
    let J = c.lines.floor.journal.history in
    let at_work = c.lines.invariant.at_work in
    let next = there day J c.next_at.new.floor.journal.history c.lines.at (g.D.Disk.seen c.lines.disk) seen c.in-Ok-Text.field-0 (entries.Text c.in-Ok-Text.count) c.lines.invariant.reads.looks.same c.in-Ok-Text.field-0-is c.in-Ok-Text.ensures.next in
    let small = place_small day c.args.setting.now.sound seen J c.next_at.new.floor.journal.history c.lines.at c.lines.lines c.in-Ok-Text.count at_work.opened.fits.legal c.lines.invariant.walked next in
    omega (arith, small)

pub overflow_add-lines : goal.overflow_add-lines
overflow_add-lines g c =
    let few = lines_small c.args.setting.now.day c.args.setting.now.sound c.lines.floor.journal.history c.lines.invariant.at_work.opened.fits.legal (g.D.Disk.seen c.args.disk.now) c.lines.at c.lines.lines c.lines.invariant.walked in
    omega (arith, few)

pub lines-preserved : goal.lines-preserved
lines-preserved g c =
    let day = c.args.setting.now.day in
    let seen = g.D.Disk.seen c.args.disk.now in
    let J = c.lines.floor.journal.history in
    let at_work = c.lines.invariant.at_work in
    let next = there day J c.next_at.new.floor.journal.history c.lines.at (g.D.Disk.seen c.lines.disk) seen c.in-Ok-Text.field-0 (entries.Text c.in-Ok-Text.count) c.lines.invariant.reads.looks.same c.in-Ok-Text.field-0-is c.in-Ok-Text.ensures.next in
    record {
      walked = walks_on day seen J c.next_at.new.floor.journal.history c.lines.at c.lines.lines c.in-Ok-Text.count c.lines.invariant.walked next;
      at_work = c.next_at.ensures.at_work;
      moves = c.next_at.ensures.moves;
      room = c.next_at.auto.text ∙ c.lines.invariant.room;
      reads = reads_on g.D.Disk.seen g.D.Disk.image g.D.Disk.clock g.D.Disk.since g.D.Disk.lasts g.D.Disk.faults g.D.Disk.cut_after g.met.D.Disk.lasts_for_less g.met.D.Disk.cut_for_less _ _ _ _ (3 * c.lines.lines) (reads_at room_size (drop c.lines.at (g.D.Disk.seen c.lines.disk))) (3 * (c.lines.lines + 1))
          (omega (arith, ap (λ (bytes : List ℕ). reads_at room_size (drop c.lines.at bytes)) c.lines.invariant.reads.looks.same, next_reads day c.args.setting.now.sound J at_work.opened.fits.legal (drop c.lines.at seen) c.next_at.new.floor.journal.history c.in-Ok-Text.count next))
          c.lines.invariant.reads c.in-Ok-Text.ensures.reads;
      faults = c.in-Ok-Text.ensures.count.kept ∙ c.lines.invariant.faults;
    }

pub returns-in-Ok-Closed-clause-found : goal.returns-in-Ok-Closed-clause-found
returns-in-Ok-Closed-clause-found g c =
    let day = c.args.setting.now.day in
    let seen = g.D.Disk.seen c.args.disk.now in
    let J = c.lines.floor.journal.history in
    let at_work = c.lines.invariant.at_work in
    let next = there day J c.next_at.new.floor.journal.history c.lines.at (g.D.Disk.seen c.lines.disk) seen c.in-Ok-Closed.field-0 entries.Closed c.lines.invariant.reads.looks.same c.in-Ok-Closed.field-0-is c.in-Ok-Closed.ensures.next in
    ends_closed day c.args.setting.now.sound J at_work.opened.fits.legal seen c.next_at.new.floor.journal.history c.lines.at c.lines.lines c.lines.invariant.walked next

pub overflow_add-result : goal.overflow_add-result
overflow_add-result g c =
    let few = lines_small c.args.setting.now.day c.args.setting.now.sound c.lines.floor.journal.history c.lines.invariant.at_work.opened.fits.legal (g.D.Disk.seen c.args.disk.now) c.lines.at c.lines.lines c.lines.invariant.walked in
    omega (arith, few)

pub returns-in-Ok-Neither-clause-found : goal.returns-in-Ok-Neither-clause-found
returns-in-Ok-Neither-clause-found g c =
    let day = c.args.setting.now.day in
    let seen = g.D.Disk.seen c.args.disk.now in
    let J = c.lines.floor.journal.history in
    let at_work = c.lines.invariant.at_work in
    let next = there day J c.next_at.new.floor.journal.history c.lines.at (g.D.Disk.seen c.lines.disk) seen c.in-Ok-Neither.field-0 entries.Neither c.lines.invariant.reads.looks.same c.in-Ok-Neither.field-0-is c.in-Ok-Neither.ensures.next in
    ends_foreign day c.args.setting.now.sound J at_work.opened.fits.legal seen c.next_at.new.floor.journal.history c.lines.at c.lines.lines c.lines.invariant.walked next

pub returns-in-Ok-Closed-clause-reads : goal.returns-in-Ok-Closed-clause-reads
returns-in-Ok-Closed-clause-reads g c =
    let day = c.args.setting.now.day in
    let seen = g.D.Disk.seen c.args.disk.now in
    let J = c.lines.floor.journal.history in
    let at_work = c.lines.invariant.at_work in
    let same = ap (λ (bytes : List ℕ). reads_at room_size (drop c.lines.at bytes)) c.lines.invariant.reads.looks.same in
    let next = there day J c.next_at.new.floor.journal.history c.lines.at (g.D.Disk.seen c.lines.disk) seen c.in-Ok-Closed.field-0 entries.Closed c.lines.invariant.reads.looks.same c.in-Ok-Closed.field-0-is c.in-Ok-Closed.ensures.next in
    let last = last_reads day c.args.setting.now.sound J at_work.opened.fits.legal seen c.lines.at c.lines.lines c.lines.invariant.walked (none_closed day c.args.setting.now.sound J at_work.opened.fits.legal (drop c.lines.at seen) next.0) in
    reads_on g.D.Disk.seen g.D.Disk.image g.D.Disk.clock g.D.Disk.since g.D.Disk.lasts g.D.Disk.faults g.D.Disk.cut_after g.met.D.Disk.lasts_for_less g.met.D.Disk.cut_for_less _ _ _ _ (3 * c.lines.lines) (reads_at room_size (drop c.lines.at (g.D.Disk.seen c.lines.disk))) (finding_time day seen) (omega (arith, same, last)) c.lines.invariant.reads c.in-Ok-Closed.ensures.reads

pub returns-in-Ok-Neither-clause-reads : goal.returns-in-Ok-Neither-clause-reads
returns-in-Ok-Neither-clause-reads g c =
    let day = c.args.setting.now.day in
    let seen = g.D.Disk.seen c.args.disk.now in
    let J = c.lines.floor.journal.history in
    let at_work = c.lines.invariant.at_work in
    let same = ap (λ (bytes : List ℕ). reads_at room_size (drop c.lines.at bytes)) c.lines.invariant.reads.looks.same in
    let next = there day J c.next_at.new.floor.journal.history c.lines.at (g.D.Disk.seen c.lines.disk) seen c.in-Ok-Neither.field-0 entries.Neither c.lines.invariant.reads.looks.same c.in-Ok-Neither.field-0-is c.in-Ok-Neither.ensures.next in
    let last = last_reads day c.args.setting.now.sound J at_work.opened.fits.legal seen c.lines.at c.lines.lines c.lines.invariant.walked next.1 in
    reads_on g.D.Disk.seen g.D.Disk.image g.D.Disk.clock g.D.Disk.since g.D.Disk.lasts g.D.Disk.faults g.D.Disk.cut_after g.met.D.Disk.lasts_for_less g.met.D.Disk.cut_for_less _ _ _ _ (3 * c.lines.lines) (reads_at room_size (drop c.lines.at (g.D.Disk.seen c.lines.disk))) (finding_time day seen) (omega (arith, same, last)) c.lines.invariant.reads c.in-Ok-Neither.ensures.reads

pub returns-in-Err-clause-reads : goal.returns-in-Err-clause-reads
returns-in-Err-clause-reads g c =
    let day = c.args.setting.now.day in
    let seen = g.D.Disk.seen c.args.disk.now in
    let J = c.lines.floor.journal.history in
    let at_work = c.lines.invariant.at_work in
    let same = ap (λ (bytes : List ℕ). reads_at room_size (drop c.lines.at bytes)) c.lines.invariant.reads.looks.same in
    let few = place_reads day c.args.setting.now.sound J at_work.opened.fits.legal seen c.lines.at c.lines.lines c.lines.invariant.walked in
    reads_off_on g.D.Disk.seen g.D.Disk.image g.D.Disk.clock g.D.Disk.since g.D.Disk.lasts g.D.Disk.faults g.D.Disk.cut_after g.met.D.Disk.lasts_for_less g.met.D.Disk.cut_for_less _ _ _ (3 * c.lines.lines) (reads_at room_size (drop c.lines.at (g.D.Disk.seen c.lines.disk))) (finding_time day seen) (omega (arith, same, few)) c.lines.invariant.reads c.in-Err.ensures.reads
