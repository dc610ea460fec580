use Rattle.std.proofs.Common.{ℕ, ◌∙◌, refl, sym, arith}
use Rattle.disk_model.proofs.CutFacts.{cut_off}
use Rattle.disk_model.proofs.RunFacts.{lasts_less, lasts_on}
use Rattle.durable_day.specs.Reads.{finding_time}
use Rattle.durable_day.specs.Stores.{opening_time}
use Rattle.durable_day.proofs.OpenFacts.{cuts_from, finds_same, opens_from, synced_looks, synced_once}
use Rattle.durable_day.proofs.store.Store.open.Goals as goal

pub find-requires : goal.find-requires
find-requires g c = record { synced = λ bytes now. c.in-Ok.ensures.durable bytes now ∙ sym c.sync.ensures.same }

pub returns-in-Ok-clause-looks : goal.returns-in-Ok-clause-looks
returns-in-Ok-clause-looks g c =
    let day = c.args.setting.day in
    synced_looks g.D.Disk.seen g.D.Disk.image g.D.Disk.clock g.D.Disk.since c.args.disk c.sync.new.self _ (finding_time day (g.D.Disk.seen c.sync.new.self)) day (g.met.D.Disk.only_now c.args.disk) c.sync.ensures.same c.sync.ensures.images c.sync.ensures.time (omega arith) c.find.ensures.looks

pub returns-in-Ok-clause-opens : goal.returns-in-Ok-clause-opens
returns-in-Ok-clause-opens g c = opens_from g.D.Disk.seen g.D.Disk.image g.D.Disk.faults c.args.setting.day c.args.disk c.sync.new.self c.find.result c.sync.ensures.same c.in-Ok.ensures.count.kept c.find.ensures.opens

pub returns-in-Ok-clause-sure : goal.returns-in-Ok-clause-sure
returns-in-Ok-clause-sure g c =
    let day = c.args.setting.day in
    let n = finding_time day (g.D.Disk.seen c.sync.new.self) in
    let same = finds_same day (g.D.Disk.seen c.sync.new.self) (g.D.Disk.seen c.args.disk) c.sync.ensures.same in
    lasts_on g.D.Disk.lasts g.D.Disk.faults g.met.D.Disk.lasts_for_less _ _ _ 1 1 0 n 0 0 (opening_time day (g.D.Disk.seen c.args.disk)) 1 0 (omega (arith, same)) (omega arith) (omega arith) c.sync.ensures.sure c.find.ensures.sure

pub returns-in-Err-clause-looks : goal.returns-in-Err-clause-looks
returns-in-Err-clause-looks g c = synced_once g.D.Disk.seen g.D.Disk.image g.D.Disk.clock g.D.Disk.since c.args.disk c.sync.new.self c.args.setting.day (g.met.D.Disk.only_now c.args.disk) c.sync.ensures.same c.sync.ensures.images c.sync.ensures.time

pub returns-in-Err-clause-opens : goal.returns-in-Err-clause-opens
returns-in-Err-clause-opens g c = c.in-Err.ensures.count.counted

pub returns-in-Err-clause-sure : goal.returns-in-Err-clause-sure
returns-in-Err-clause-sure g c = lasts_less g.D.Disk.lasts g.D.Disk.faults g.met.D.Disk.lasts_for_less _ _ 1 1 0 (opening_time c.args.setting.day (g.D.Disk.seen c.args.disk)) 1 0 (omega arith) (omega arith) (omega arith) c.sync.ensures.sure

pub returns-in-Ok-clause-cut : goal.returns-in-Ok-clause-cut
returns-in-Ok-clause-cut g c = cuts_from g.D.Disk.seen g.D.Disk.cut_after g.met.D.Disk.cut_for_less c.args.setting.day c.args.disk c.sync.new.self c.find.result c.sync.ensures.same c.in-Ok.ensures.cut c.find.ensures.cut

pub returns-in-Err-clause-cut : goal.returns-in-Err-clause-cut
returns-in-Err-clause-cut g c =
    let seen = g.D.Disk.seen c.args.disk in
    cut_off g.D.Disk.seen g.D.Disk.cut_after g.met.D.Disk.cut_for_less _ _ 1 1 0 (opening_time c.args.setting.day seen) 1 0 (λ (k : ℕ). seen) (λ (k : ℕ). seen) (omega arith) (omega arith) (omega arith) (λ k low. refl) c.in-Err.ensures.cut
