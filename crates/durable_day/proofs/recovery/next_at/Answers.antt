use Rattle.std.proofs.Common.{ℕ, drop, ap, subst, arith}
use Rattle.durable_day.specs.Entries.{IsEntry}
use Rattle.durable_day.proofs.RecoverFacts.{neither_is_none, text_is_next, text_is_none}
use Rattle.durable_day.specs.Reads.{reads_at}
use Rattle.durable_day.proofs.ReadFacts.{reads_as}
use Rattle.durable_day.proofs.ShownFacts.{failed_is}
use Rattle.durable_day.proofs.recovery.next_at.Goals as goal

pub returns-then-takes-clause-next : goal.returns-then-takes-clause-next
returns-then-takes-clause-next g c =
    let bytes = drop c.args.at (g.D.Disk.seen c.args.disk.now) in
    let text = c.entry_at.new.text in
    let stands = subst (IsEntry bytes text) c.in-Text.is c.in_ok-count.ensures.entry in
    text_is_next c.args.setting.now.day c.args.setting.now.sound c.args.floor.now.journal.history c.requires.at_work.opened.fits.legal bytes text c.takes.new.floor.journal.history c.in-Text.count stands (c.takes.ensures.taken c.if-takes.true)

pub returns-else-takes-clause-next : goal.returns-else-takes-clause-next
returns-else-takes-clause-next g c =
    let bytes = drop c.args.at (g.D.Disk.seen c.args.disk.now) in
    let text = c.entry_at.new.text in
    let stands = subst (IsEntry bytes text) c.in-Text.is c.in_ok-count.ensures.entry in
    text_is_none c.args.setting.now.day c.args.setting.now.sound c.args.floor.now.journal.history c.requires.at_work.opened.fits.legal bytes text c.takes.new.floor.journal.history c.in-Text.count stands
    (omega (arith, c.entry_at.auto.text, c.requires.room)) (c.takes.ensures.other c.if-takes.false)

pub returns-in-Neither-clause-next : goal.returns-in-Neither-clause-next
returns-in-Neither-clause-next g c =
    let bytes = drop c.args.at (g.D.Disk.seen c.args.disk.now) in
    let text = c.entry_at.new.text in
    let neither = subst (IsEntry bytes text) c.in-Neither.is c.in_ok-count.ensures.entry in
    neither_is_none c.args.setting.now.day c.args.setting.now.sound c.args.floor.now.journal.history c.requires.at_work.opened.fits.legal bytes text c.args.floor.now.journal.history (omega (arith, c.entry_at.auto.text, c.requires.room)) neither

pub returns-in_err-count-clause-reads : goal.returns-in_err-count-clause-reads
returns-in_err-count-clause-reads g c = rw (failed_is _ c.from_residual.ensures.0) (reads_as g.D.Disk.seen g.D.Disk.image g.D.Disk.clock g.D.Disk.since g.D.Disk.lasts g.D.Disk.faults g.D.Disk.cut_after g.met.D.Disk.lasts_for_less g.met.D.Disk.cut_for_less _ _ _ _ _ (ap (λ (n : ℕ). reads_at n (drop c.args.at (g.D.Disk.seen c.args.disk.now))) c.requires.room) c.in_err-count.ensures.reads)

pub returns-then-takes-clause-reads : goal.returns-then-takes-clause-reads
returns-then-takes-clause-reads g c = reads_as g.D.Disk.seen g.D.Disk.image g.D.Disk.clock g.D.Disk.since g.D.Disk.lasts g.D.Disk.faults g.D.Disk.cut_after g.met.D.Disk.lasts_for_less g.met.D.Disk.cut_for_less _ _ _ _ _ (ap (λ (n : ℕ). reads_at n (drop c.args.at (g.D.Disk.seen c.args.disk.now))) c.requires.room) c.in_ok-count.ensures.reads

pub returns-else-takes-clause-reads : goal.returns-else-takes-clause-reads
returns-else-takes-clause-reads g c = reads_as g.D.Disk.seen g.D.Disk.image g.D.Disk.clock g.D.Disk.since g.D.Disk.lasts g.D.Disk.faults g.D.Disk.cut_after g.met.D.Disk.lasts_for_less g.met.D.Disk.cut_for_less _ _ _ _ _ (ap (λ (n : ℕ). reads_at n (drop c.args.at (g.D.Disk.seen c.args.disk.now))) c.requires.room) c.in_ok-count.ensures.reads

pub returns-in-Closed-clause-reads : goal.returns-in-Closed-clause-reads
returns-in-Closed-clause-reads g c = reads_as g.D.Disk.seen g.D.Disk.image g.D.Disk.clock g.D.Disk.since g.D.Disk.lasts g.D.Disk.faults g.D.Disk.cut_after g.met.D.Disk.lasts_for_less g.met.D.Disk.cut_for_less _ _ _ _ _ (ap (λ (n : ℕ). reads_at n (drop c.args.at (g.D.Disk.seen c.args.disk.now))) c.requires.room) c.in_ok-count.ensures.reads

pub returns-in-Neither-clause-reads : goal.returns-in-Neither-clause-reads
returns-in-Neither-clause-reads g c = reads_as g.D.Disk.seen g.D.Disk.image g.D.Disk.clock g.D.Disk.since g.D.Disk.lasts g.D.Disk.faults g.D.Disk.cut_after g.met.D.Disk.lasts_for_less g.met.D.Disk.cut_for_less _ _ _ _ _ (ap (λ (n : ℕ). reads_at n (drop c.args.at (g.D.Disk.seen c.args.disk.now))) c.requires.room) c.in_ok-count.ensures.reads
