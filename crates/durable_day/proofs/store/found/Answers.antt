use Rattle.std.proofs.Common.{ℕ, ◌∙◌, true, sym, ap, subst}
use Rattle.disk_model.specs.Cut.{IsCut}
use Rattle.disk_model.specs.Lasting.{StillLasts}
use Rattle.disk_model.specs.Runs.{OnlyLooks}
use Rattle.durable_day.specs.Found.{IsFound}
use Rattle.durable_day.specs.Reads.{finding_time}
use Rattle.durable_day.specs.Stores.{OnStore}
use Rattle.durable_day.proofs.OpenFacts.{found_durable, stands_for_none}
use Rattle.durable_day.proofs.store.found.Goals as goal

pub store_over-requires-clause-durable : goal.store_over-requires-clause-durable
store_over-requires-clause-durable g c =
    let day = c.args.setting.day in
    let seen = g.D.Disk.seen c.args.disk in
    let is = subst (IsFound day seen c.recover.new.floor.journal.history) c.in-Ok-Stands.field-0-is c.in-Ok-Stands.ensures.found in
    found_durable g.D.Disk.seen g.D.Disk.image g.D.Disk.clock g.D.Disk.since day c.args.disk c.recover.new.disk _ c.in-Ok-Stands.end c.recover.new.floor.journal.history c.args.setting.sound c.requires.synced c.recover.ensures.reads.looks is.0 is.1 is.2

pub returns-in-Ok-Stands-clause-looks : goal.returns-in-Ok-Stands-clause-looks
returns-in-Ok-Stands-clause-looks g c =
    let n = finding_time c.args.setting.day (g.D.Disk.seen c.args.disk) in
    subst (λ d. OnlyLooks g.D.Disk.seen g.D.Disk.image g.D.Disk.clock g.D.Disk.since c.args.disk d n) (sym (ap (λ (s : OnStore _). s.disk) c.store_over.ensures.parts)) c.recover.ensures.reads.looks

pub returns-in-Ok-Stands-clause-sure : goal.returns-in-Ok-Stands-clause-sure
returns-in-Ok-Stands-clause-sure g c =
    let n = finding_time c.args.setting.day (g.D.Disk.seen c.args.disk) in
    subst (λ d. StillLasts g.D.Disk.lasts g.D.Disk.faults c.args.disk d n 0 0) (sym (ap (λ (s : OnStore _). s.disk) c.store_over.ensures.parts)) c.recover.ensures.reads.sure

pub returns-in-Ok-Stands-clause-opens : goal.returns-in-Ok-Stands-clause-opens
returns-in-Ok-Stands-clause-opens g c =
    let day = c.args.setting.day in
    let seen = g.D.Disk.seen c.args.disk in
    let is = subst (IsFound day seen c.recover.new.floor.journal.history) c.in-Ok-Stands.field-0-is c.in-Ok-Stands.ensures.found in
    (c.store_over.ensures.known, ap (λ (s : OnStore _). s.day) c.store_over.ensures.parts, ap (λ (s : OnStore _). s.history) c.store_over.ensures.parts ∙ is.1, ap (λ (s : OnStore _). g.D.Disk.faults s.disk) c.store_over.ensures.parts ∙ c.in-Ok-Stands.ensures.count.kept)

pub returns-in-Ok-Foreign-clause-opens : goal.returns-in-Ok-Foreign-clause-opens
returns-in-Ok-Foreign-clause-opens g c =
    let day = c.args.setting.day in
    let seen = g.D.Disk.seen c.args.disk in
    let is = subst (IsFound day seen c.recover.new.floor.journal.history) c.in-Ok-Foreign.field-0-is c.in-Ok-Foreign.ensures.found in
    (stands_for_none day seen c.args.setting.sound is.0, is.1, c.in-Ok-Foreign.ensures.count.kept)

pub recover-requires-clause-at_work : goal.recover-requires-clause-at_work
recover-requires-clause-at_work g c = c.requires.at_work

pub recover-requires-clause-empty : goal.recover-requires-clause-empty
recover-requires-clause-empty g c = c.requires.empty

pub recover-requires-clause-moves : goal.recover-requires-clause-moves
recover-requires-clause-moves g c = c.requires.moves

pub store_over-requires-clause-at_work : goal.store_over-requires-clause-at_work
store_over-requires-clause-at_work g c = c.recover.ensures.at_work

pub returns-in-Ok-Foreign-clause-looks : goal.returns-in-Ok-Foreign-clause-looks
returns-in-Ok-Foreign-clause-looks g c = c.recover.ensures.reads.looks

pub returns-in-Ok-Foreign-clause-sure : goal.returns-in-Ok-Foreign-clause-sure
returns-in-Ok-Foreign-clause-sure g c = c.recover.ensures.reads.sure

pub returns-in-Err-clause-looks : goal.returns-in-Err-clause-looks
returns-in-Err-clause-looks g c = c.recover.ensures.reads.looks

pub returns-in-Err-clause-opens : goal.returns-in-Err-clause-opens
returns-in-Err-clause-opens g c = c.in-Err.ensures.count.counted

pub returns-in-Err-clause-sure : goal.returns-in-Err-clause-sure
returns-in-Err-clause-sure g c = c.recover.ensures.reads.sure

pub returns-in-Ok-Stands-clause-cut : goal.returns-in-Ok-Stands-clause-cut
returns-in-Ok-Stands-clause-cut g c =
    let n = finding_time c.args.setting.day (g.D.Disk.seen c.args.disk) in
    subst (λ d. IsCut g.D.Disk.seen g.D.Disk.cut_after c.args.disk d true n 0 0 (λ (k : ℕ). g.D.Disk.seen c.args.disk)) (sym (ap (λ (s : OnStore _). s.disk) c.store_over.ensures.parts)) c.in-Ok-Stands.ensures.reads.cut

pub returns-in-Ok-Foreign-clause-cut : goal.returns-in-Ok-Foreign-clause-cut
returns-in-Ok-Foreign-clause-cut g c = c.in-Ok-Foreign.ensures.reads.cut

pub returns-in-Err-clause-cut : goal.returns-in-Err-clause-cut
returns-in-Err-clause-cut g c = c.in-Err.ensures.reads.cut
