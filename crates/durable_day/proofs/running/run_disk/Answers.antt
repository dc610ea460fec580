use Rattle.std.proofs.Common.{◌+◌, ◌*◌, refl, inl, inr, arith}
use Rattle.machine.specs.Orders.Bounds.{most_lines}
use Rattle.disk_model.specs.Memory.{disk_seen}
use Rattle.durable_day.specs.Running.{most_bytes}
use Rattle.durable_day.proofs.DiskFacts.{fresh_as, made_of, not_made}
use Rattle.durable_day.proofs.running.run_disk.Goals as goal

pub returns-in-Ok : goal.returns-in-Ok
returns-in-Ok g c = λ calls rest fresh.
    let day = c.args.setting.day in
    c.run_opened.ensures calls rest (made_of calls (1 + 4 * most_lines day) (most_bytes day) rest c.args.disk c.in-Ok.disk (fresh_as calls _ (2 + (1 + 4 * most_lines day)) _ rest c.args.disk (omega arith) fresh) c.in-Ok.ensures.store c.in-Ok.ensures.kept c.in-Ok.ensures.cut)

pub returns-in-Err : goal.returns-in-Err
returns-in-Err g c = λ calls rest fresh.
    let day = c.args.setting.day in
    let stops = not_made day c.args.setting.sound calls (1 + 4 * most_lines day) (most_bytes day) rest c.args.disk c.in-Err.disk (fresh_as calls _ (2 + (1 + 4 * most_lines day)) _ rest c.args.disk (omega arith) fresh) c.in-Err.ensures.cut in
    (record { status = 8; text = disk_seen c.in-Err.disk }, inr (inl (refl, stops)), c.say_disk.ensures)
