use Rattle.std.proofs.Common.{refl}
use Rattle.durable_day.proofs.DiskFacts.{fault_says, open_ready, opened_whole, run_says, stranger_says, unfailed}
use Rattle.durable_day.proofs.running.run_opened.Goals as goal

pub returns-in-Ok : goal.returns-in-Ok
returns-in-Ok g c = λ calls rest made.
    let day = c.args.setting.day in
    let opens = c.in-Ok.ensures.opens in
    let whole = opened_whole day rest c.args.disk c.in-Ok.store made.seen opens.0 opens.1 opens.2 c.in-Ok.ensures.looks.same in
    let ready = open_ready calls day rest c.args.disk c.in-Ok.store made opens.0 opens.1 opens.2 opens.3 c.in-Ok.ensures.cut in
    run_says _ _ calls _ day rest c.in-Ok.store c.args.disk opens.1 whole c.in-Ok.ensures.looks.same made.seen ready.0 (c.run_store.ensures _ ready.1)

pub returns-in-Err-Fault : goal.returns-in-Err-Fault
returns-in-Err-Fault g c = λ calls rest made.
    let told = c.in-Err-Fault.ensures in
    fault_says _ _ calls _ c.args.setting.day rest c.args.disk c.in-Err-Fault.disk c.in-Err-Fault.field-0 c.args.setting.sound made c.in-Err-Fault.field-0-is told.looks told.cut c.say_disk.ensures

pub returns-in-Err-Foreign : goal.returns-in-Err-Foreign
returns-in-Err-Foreign g c = λ calls rest made.
    let told = c.in-Err-Foreign.ensures in
    stranger_says _ _ calls c.in-Err-Foreign.place _ c.args.setting.day rest c.args.disk c.in-Err-Foreign.field-0-0 c.in-Err-Foreign.field-0 c.args.setting.sound made c.in-Err-Foreign.field-0-is told.opens told.cut c.say_foreign.ensures

pub returns : goal.returns
returns g c = λ calls rest made.
    (unfailed calls _ _ c.args.setting.day rest c.args.disk c.in-Err-Memory.disk c.in-Err-Memory.field-0-1 c.in-Err-Memory.field-0 made c.in-Err-Memory.field-0-is c.in-Err-Memory.ensures.opens, refl, c.in-Err-Memory.field-0-1.cause)
