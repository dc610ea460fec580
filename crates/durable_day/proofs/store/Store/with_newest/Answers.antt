use Rattle.std.proofs.Common.{◌⊎◌, ◌∙◌, ◌<◌, true, false, length, drop, sym, ap, subst, arith}
use Rattle.commit_journal.specs.Kept.{Kept}
use Rattle.machine.specs.Legal.{IsLegal}
use Rattle.disk_model.specs.Cut.{IsCut}
use Rattle.disk_model.specs.Lasting.{StillLasts}
use Rattle.disk_model.specs.Runs.{LeavesOnly}
use Rattle.durable_day.specs.Appending.{newest_by, newest_bytes}
use Rattle.durable_day.specs.Bytes.{StandsFor}
use Rattle.durable_day.specs.Stores.{IsDurable, OnStore}
use Rattle.durable_day.proofs.store.Store.with_newest.Goals as goal

pub store_line-requires-clause-legal : goal.store_line-requires-clause-legal
store_line-requires-clause-legal g c = subst (λ (j : Kept). IsLegal c.args.setting.day j.history) (sym c.journal.ensures) c.requires.at_work.opened.fits.legal

pub store_line-requires-clause-some : goal.store_line-requires-clause-some
store_line-requires-clause-some g c = subst (λ (j : Kept). 0 < length j.history) (sym c.journal.ensures) c.requires.some

pub store_line-requires-clause-older : goal.store_line-requires-clause-older
store_line-requires-clause-older g c = subst (λ (j : Kept). IsDurable g.D.Disk.seen g.D.Disk.image (drop 1 j.history) c.args.end c.args.disk) (sym c.journal.ensures) c.requires.older

pub of-requires-clause-durable : goal.of-requires-clause-durable
of-requires-clause-durable g c = subst (λ (j : Kept). IsDurable g.D.Disk.seen g.D.Disk.image j.history c.in-Ok.end c.store_line.new.disk) c.journal.ensures c.in-Ok.ensures.stored

pub returns-in-Ok-clause-made : goal.returns-in-Ok-clause-made
returns-in-Ok-clause-made g c = (
  ap (λ (s : OnStore _). s.day) c.of.ensures.parts,
  ap (λ (s : OnStore _). s.history) c.of.ensures.parts,
  c.of.ensures.known,
  ap (λ (s : OnStore _). g.D.Disk.faults s.disk) c.of.ensures.parts ∙ c.in-Ok.ensures.count.kept,
)

pub returns-in-Ok-clause-moments : goal.returns-in-Ok-clause-moments
returns-in-Ok-clause-moments g c =
    subst (λ d. LeavesOnly g.D.Disk.clock g.D.Disk.since c.args.disk d (λ b. StandsFor (drop 1 c.args.floor.journal.history) b ⊎ StandsFor c.args.floor.journal.history b)) (sym (ap (λ (s : OnStore _). s.disk) c.of.ensures.parts))
    (subst (λ (j : Kept). LeavesOnly g.D.Disk.clock g.D.Disk.since c.args.disk c.store_line.new.disk (λ b. StandsFor (drop 1 j.history) b ⊎ StandsFor j.history b)) c.journal.ensures c.store_line.ensures.moments)

pub returns-in-Ok-clause-sure : goal.returns-in-Ok-clause-sure
returns-in-Ok-clause-sure g c =
    subst (λ d. StillLasts g.D.Disk.lasts g.D.Disk.faults c.args.disk d 4 4 (newest_bytes c.args.floor.journal.history)) (sym (ap (λ (s : OnStore _). s.disk) c.of.ensures.parts))
    (subst (λ (j : Kept). StillLasts g.D.Disk.lasts g.D.Disk.faults c.args.disk c.store_line.new.disk 4 4 (newest_bytes j.history)) c.journal.ensures c.store_line.ensures.sure)

pub returns-in-Err-clause-moments : goal.returns-in-Err-clause-moments
returns-in-Err-clause-moments g c =
    subst (λ (j : Kept). LeavesOnly g.D.Disk.clock g.D.Disk.since c.args.disk c.store_line.new.disk (λ b. StandsFor (drop 1 j.history) b ⊎ StandsFor j.history b)) c.journal.ensures c.store_line.ensures.moments

pub returns-in-Err-clause-sure : goal.returns-in-Err-clause-sure
returns-in-Err-clause-sure g c = subst (λ (j : Kept). StillLasts g.D.Disk.lasts g.D.Disk.faults c.args.disk c.store_line.new.disk 4 4 (newest_bytes j.history)) c.journal.ensures c.store_line.ensures.sure

pub returns-in-Ok-clause-time : goal.returns-in-Ok-clause-time
returns-in-Ok-clause-time g c = omega (arith, c.store_line.ensures.time, ap (λ (s : OnStore _). g.D.Disk.clock s.disk) c.of.ensures.parts)

pub returns-in-Ok-clause-cut : goal.returns-in-Ok-clause-cut
returns-in-Ok-clause-cut g c =
    subst (λ d. IsCut g.D.Disk.seen g.D.Disk.cut_after c.args.disk d true 4 4 (newest_bytes c.args.floor.journal.history) (newest_by c.args.floor.journal.history (g.D.Disk.seen c.args.disk))) (sym (ap (λ (s : OnStore _). s.disk) c.of.ensures.parts))
    (subst (λ (j : Kept). IsCut g.D.Disk.seen g.D.Disk.cut_after c.args.disk c.store_line.new.disk true 4 4 (newest_bytes j.history) (newest_by j.history (g.D.Disk.seen c.args.disk))) c.journal.ensures c.in-Ok.ensures.cut)

pub returns-in-Err-clause-cut : goal.returns-in-Err-clause-cut
returns-in-Err-clause-cut g c = subst (λ (j : Kept). IsCut g.D.Disk.seen g.D.Disk.cut_after c.args.disk c.store_line.new.disk false 4 4 (newest_bytes j.history) (newest_by j.history (g.D.Disk.seen c.args.disk))) c.journal.ensures c.in-Err.ensures.cut
