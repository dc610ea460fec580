use Rattle.std.proofs.Common.{inr}
use Rattle.durable_day.proofs.DiskFacts.{foreign_says, never_fails, opened_whole, show_says}
use Rattle.durable_day.proofs.running.show_opened.Goals as goal

pub returns-in-Ok : goal.returns-in-Ok
returns-in-Ok g c = λ rest made.
    let opens = c.in-Ok.ensures.opens in
    let whole = opened_whole c.args.setting.day rest c.args.disk c.in-Ok.store made.seen opens.0 opens.1 opens.2 c.in-Ok.ensures.looks.same in
    inr (show_says _ _ _ c.args.setting.day rest c.in-Ok.store whole c.show_store.ensures)

pub unreachable-requires : goal.unreachable-requires
unreachable-requires g c =
    let made = c.requires.made in
    let told = c.in-Err-Fault.ensures in
    never_fails c.args.setting.day made.0 c.args.disk c.in-Err-Fault.field-0-0 c.in-Err-Fault.field-0 c.args.setting.sound made.1 c.in-Err-Fault.field-0-is told.cut

pub returns-in-Err-Foreign : goal.returns-in-Err-Foreign
returns-in-Err-Foreign g c = λ rest made.
    inr (foreign_says _ _ c.in-Err-Foreign.place _ c.args.setting.day rest c.args.disk c.in-Err-Foreign.field-0-0 c.in-Err-Foreign.field-0 c.args.setting.sound made.seen c.in-Err-Foreign.field-0-is c.in-Err-Foreign.ensures.opens c.say_foreign.ensures)
