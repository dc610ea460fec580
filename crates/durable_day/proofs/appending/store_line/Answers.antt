use Rattle.std.proofs.Common.{◌∙◌, ◌+◌, ℕ, List, length, take, true, false, sym, ap, subst, arith}
use Rattle.commit_journal.specs.Line.{Line}
use Rattle.disk_model.specs.Cut.{IsCut}
use Rattle.disk_model.specs.Lasting.{StillLasts}
use Rattle.disk_model.specs.Runs.{LeavesOnly}
use Rattle.durable_day.specs.Appending.{HasGrown, MayHaveGrown, appended_by}
use Rattle.durable_day.specs.Stores.{IsDurable}
use Rattle.durable_day.proofs.GoneOn.{line_last}
use Rattle.durable_day.proofs.LastLine.{last_bytes, last_closed, last_cut, last_moments, last_short, last_size, last_small, last_stored}
use Rattle.durable_day.proofs.ShownFacts.{failed_is}
use Rattle.durable_day.proofs.appending.store_line.Goals as goal

pub line-requires-clause-from : goal.line-requires-clause-from
line-requires-clause-from g c = omega (arith, c.requires.some, c.len-place.ensures)

pub line-requires-clause-to : goal.line-requires-clause-to
line-requires-clause-to g c = omega (arith, c.len-place.ensures)

pub fill-requires : goal.fill-requires
fill-requires g c =
    let H = c.args.journal.now.history in
    let m : Line = record { head = c.line.result.0; moves = c.line.result.1.now } in
    last_short H _ m c.len-place.result (line_last H _ m c.len-place.result c.len-place.ensures c.line.ensures) c.len-place.ensures c.args.setting.now.day c.args.setting.now.sound c.requires.legal

pub append-requires-clause-only : goal.append-requires-clause-only
append-requires-clause-only g c = c.requires.older.only

pub append-requires-clause-closed : goal.append-requires-clause-closed
append-requires-clause-closed g c =
    let H = c.args.journal.now.history in
    let m : Line = record { head = c.line.result.0; moves = c.line.result.1.now } in
    last_closed H _ m c.len-place.result (line_last H _ m c.len-place.result c.len-place.ensures c.line.ensures) c.len-place.ensures g.D.Disk.seen g.D.Disk.image c.args.end c.args.disk.now c.requires.older

pub append-requires-clause-some : goal.append-requires-clause-some
append-requires-clause-some g c =
    let H = c.args.journal.now.history in
    let m : Line = record { head = c.line.result.0; moves = c.line.result.1.now } in
    let size = last_size H _ m c.len-place.result (line_last H _ m c.len-place.result c.len-place.ensures c.line.ensures) c.len-place.ensures in
    let is = ap length (c.bytes-bytes.ensures ∙ c.fill.ensures) in
    omega (arith, size, is)

pub append-requires-clause-small : goal.append-requires-clause-small
append-requires-clause-small g c =
    let H = c.args.journal.now.history in
    let m : Line = record { head = c.line.result.0; moves = c.line.result.1.now } in
    let last = line_last H _ m c.len-place.result c.len-place.ensures c.line.ensures in
    let size = last_size H _ m c.len-place.result last c.len-place.ensures in
    let short = last_short H _ m c.len-place.result last c.len-place.ensures c.args.setting.now.day c.args.setting.now.sound c.requires.legal in
    let small = last_small H _ m c.len-place.result last c.len-place.ensures g.D.Disk.seen g.D.Disk.image c.args.setting.now.day c.args.setting.now.sound c.requires.legal c.args.end c.args.disk.now c.requires.older in
    let is = ap length (c.bytes-bytes.ensures ∙ c.fill.ensures) in
    omega (arith, size, short, small, is)

pub overflow_add-result : goal.overflow_add-result
overflow_add-result g c =
    let H = c.args.journal.now.history in
    let m : Line = record { head = c.line.result.0; moves = c.line.result.1.now } in
    let last = line_last H _ m c.len-place.result c.len-place.ensures c.line.ensures in
    let is = c.bytes-bytes.ensures ∙ c.fill.ensures in
    let size = last_size H _ m c.len-place.result last c.len-place.ensures in
    let short = last_short H _ m c.len-place.result last c.len-place.ensures c.args.setting.now.day c.args.setting.now.sound c.requires.legal in
    let small = last_small H _ m c.len-place.result last c.len-place.ensures g.D.Disk.seen g.D.Disk.image c.args.setting.now.day c.args.setting.now.sound c.requires.legal c.args.end c.args.disk.now c.requires.older in
    omega (arith, size, short, small, ap length is)

pub returns-clause-stored : goal.returns-clause-stored
returns-clause-stored g c =
    let H = c.args.journal.now.history in
    let m : Line = record { head = c.line.result.0; moves = c.line.result.1.now } in
    let last = line_last H _ m c.len-place.result c.len-place.ensures c.line.ensures in
    let is = c.bytes-bytes.ensures ∙ c.fill.ensures in
    let grown = subst (λ (p : List ℕ). HasGrown (take c.args.end (g.D.Disk.seen c.args.disk.now)) p (g.D.Disk.seen c.append.new.disk)) is c.in_ok-append.ensures.bytes in
    let stored = last_stored H _ m c.len-place.result last c.len-place.ensures g.D.Disk.seen g.D.Disk.image c.args.end c.args.disk.now c.append.new.disk c.requires.older grown c.in_ok-append.ensures.only in
    subst (λ (p : List ℕ). IsDurable g.D.Disk.seen g.D.Disk.image H (c.args.end + length p) c.append.new.disk) (sym is) stored

pub returns-clause-moments : goal.returns-clause-moments
returns-clause-moments g c =
    let H = c.args.journal.now.history in
    let m : Line = record { head = c.line.result.0; moves = c.line.result.1.now } in
    let last = line_last H _ m c.len-place.result c.len-place.ensures c.line.ensures in
    let is = c.bytes-bytes.ensures ∙ c.fill.ensures in
    last_moments H _ m c.len-place.result last c.len-place.ensures g.D.Disk.seen g.D.Disk.image g.D.Disk.clock g.D.Disk.since c.args.end c.args.disk.now c.append.new.disk c.requires.older
    (subst (λ (p : List ℕ). LeavesOnly g.D.Disk.clock g.D.Disk.since c.args.disk.now c.append.new.disk (MayHaveGrown (take c.args.end (g.D.Disk.seen c.args.disk.now)) p)) is c.append.ensures.moments)

pub returns-in_err-append-clause-moments : goal.returns-in_err-append-clause-moments
returns-in_err-append-clause-moments g c =
    let H = c.args.journal.now.history in
    let m : Line = record { head = c.line.result.0; moves = c.line.result.1.now } in
    let last = line_last H _ m c.len-place.result c.len-place.ensures c.line.ensures in
    let is = c.bytes-bytes.ensures ∙ c.fill.ensures in
    last_moments H _ m c.len-place.result last c.len-place.ensures g.D.Disk.seen g.D.Disk.image g.D.Disk.clock g.D.Disk.since c.args.end c.args.disk.now c.append.new.disk c.requires.older
    (subst (λ (p : List ℕ). LeavesOnly g.D.Disk.clock g.D.Disk.since c.args.disk.now c.append.new.disk (MayHaveGrown (take c.args.end (g.D.Disk.seen c.args.disk.now)) p)) is c.append.ensures.moments)

pub returns-clause-sure : goal.returns-clause-sure
returns-clause-sure g c =
    let H = c.args.journal.now.history in
    let m : Line = record { head = c.line.result.0; moves = c.line.result.1.now } in
    let last = line_last H _ m c.len-place.result c.len-place.ensures c.line.ensures in
    let is = c.bytes-bytes.ensures ∙ c.fill.ensures in
    let bytes = ap (λ (p : List ℕ). length p + 1) is ∙ last_bytes H _ m c.len-place.result last c.len-place.ensures in
    subst (λ (n : ℕ). StillLasts g.D.Disk.lasts g.D.Disk.faults c.args.disk.now c.append.new.disk 4 4 n) bytes c.append.ensures.sure

pub returns-in_err-append-clause-sure : goal.returns-in_err-append-clause-sure
returns-in_err-append-clause-sure g c =
    let H = c.args.journal.now.history in
    let m : Line = record { head = c.line.result.0; moves = c.line.result.1.now } in
    let last = line_last H _ m c.len-place.result c.len-place.ensures c.line.ensures in
    let is = c.bytes-bytes.ensures ∙ c.fill.ensures in
    let bytes = ap (λ (p : List ℕ). length p + 1) is ∙ last_bytes H _ m c.len-place.result last c.len-place.ensures in
    subst (λ (n : ℕ). StillLasts g.D.Disk.lasts g.D.Disk.faults c.args.disk.now c.append.new.disk 4 4 n) bytes c.append.ensures.sure

pub returns-clause-cut : goal.returns-clause-cut
returns-clause-cut g c =
    let H = c.args.journal.now.history in
    let m : Line = record { head = c.line.result.0; moves = c.line.result.1.now } in
    let last = line_last H _ m c.len-place.result c.len-place.ensures c.line.ensures in
    let is = c.bytes-bytes.ensures ∙ c.fill.ensures in
    last_cut H _ m c.len-place.result last c.len-place.ensures g.D.Disk.seen g.D.Disk.image g.D.Disk.cut_after c.args.end c.args.disk.now c.append.new.disk true c.requires.older
    (subst (λ (p : List ℕ). IsCut g.D.Disk.seen g.D.Disk.cut_after c.args.disk.now c.append.new.disk true 4 4 (length p + 1) (appended_by c.args.end p (g.D.Disk.seen c.args.disk.now))) is c.in_ok-append.ensures.cut)

pub returns-in_err-append-clause-cut : goal.returns-in_err-append-clause-cut
returns-in_err-append-clause-cut g c =
    let H = c.args.journal.now.history in
    let m : Line = record { head = c.line.result.0; moves = c.line.result.1.now } in
    let last = line_last H _ m c.len-place.result c.len-place.ensures c.line.ensures in
    let is = c.bytes-bytes.ensures ∙ c.fill.ensures in
    rw (failed_is _ c.from_residual.ensures.0) (last_cut H _ m c.len-place.result last c.len-place.ensures g.D.Disk.seen g.D.Disk.image g.D.Disk.cut_after c.args.end c.args.disk.now c.append.new.disk false c.requires.older
    (subst (λ (p : List ℕ). IsCut g.D.Disk.seen g.D.Disk.cut_after c.args.disk.now c.append.new.disk false 4 4 (length p + 1) (appended_by c.args.end p (g.D.Disk.seen c.args.disk.now))) is c.in_err-append.ensures.cut))
