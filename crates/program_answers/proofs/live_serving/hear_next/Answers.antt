use Rattle.std.proofs.Common.{◌++◌, ◌<◌, ◌≤◌, ℕ, length, length-take, arith, refl, take}
use Rattle.program_answers.proofs.Listening.{ask_ended, ask_failed, can_ask, hand_on_failed, heard_longer, heard_more, heard_short, unsettled_short, within_more}
use Rattle.program_answers.proofs.live_serving.hear_next.Goals as goal

pub hear-requires : goal.hear-requires
hear-requires g c =
    let may = c.requires.open in
    let few : c.in-Ok-ask.count ≤ length c.ask.new.buf = c.in-Ok-ask.ensures.asks.bound.0 in
    record {
      bytes = may.bytes;
      heard = may.heard;
      unsettled = may.unsettled;
      within = omega (arith, few, c.ask.auto.buf, c.min-room.ensures, c.most.ensures may.bytes may.heard, may.within, length-take {A = ℕ});
    }

pub returns-in-Err-clause-goes_on : goal.returns-in-Err-clause-goes_on
returns-in-Err-clause-goes_on g c first heard none has unsettled way =
    hand_on_failed g.L.Listener.program g.P.Sink.state first c.args.gathering.now c.hand_on.new.self heard _ none way c.in-Err.ensures.handed

pub returns-in-Err-ask-clause-goes_on : goal.returns-in-Err-ask-clause-goes_on
returns-in-Err-ask-clause-goes_on g c first heard none has unsettled way =
    let program = g.L.Listener.program in
    let state = g.P.Sink.state in
    let can = can_ask program state first c.args.gathering.now c.hand_on.new.self heard _ none way c.in-Ok.ensures.same_reference c.in-Ok.ensures.handed in
    ask_failed program state first c.hand_on.new.self c.ask.new.self heard _ _ can unsettled c.in-Err-ask.ensures.asks

pub returns-then-count-eq0-clause-goes_on : goal.returns-then-count-eq0-clause-goes_on
returns-then-count-eq0-clause-goes_on g c first heard none has unsettled way =
    let program = g.L.Listener.program in
    let state = g.P.Sink.state in
    let can = can_ask program state first c.args.gathering.now c.hand_on.new.self heard _ none way c.in-Ok.ensures.same_reference c.in-Ok.ensures.handed in
    let short = unsettled_short program heard (g.met.L.Listener.long heard) unsettled in
    let room : 0 < length c.ask.new.buf = omega (arith, c.ask.auto.buf, c.min-room.ensures, c.most.ensures heard has, c.requires.room, short, length-take {A = ℕ}) in
    (has, ask_ended program state first c.hand_on.new.self c.ask.new.self heard _ _ none can unsettled c.in-Ok-ask.ensures.same_reference c.in-Ok-ask.ensures.same c.in-Ok-ask.ensures.asks c.if-count-eq0.true room)

pub returns-in-Ok-hear-clause-goes_on : goal.returns-in-Ok-hear-clause-goes_on
returns-in-Ok-hear-clause-goes_on g c first heard none has unsettled way =
    let program = g.L.Listener.program in
    let state = g.P.Sink.state in
    let buf = c.ask.new.buf in
    let n = c.in-Ok-ask.count in
    let can = can_ask program state first c.args.gathering.now c.hand_on.new.self heard _ none way c.in-Ok.ensures.same_reference c.in-Ok.ensures.handed in
    let some : 0 < n = omega (arith, c.if-count-eq0.false) in
    let few : n ≤ length buf = c.in-Ok-ask.ensures.asks.bound.0 in
    let room : n ≤ c.most.result = omega (arith, few, c.ask.auto.buf, c.min-room.ensures, length-take {A = ℕ}) in
    let within = within_more heard buf n c.most.result program.longest few room (c.most.ensures heard has) some in
    (heard ++ take n buf, c.in-Ok-hear.ensures.heard heard has, heard_longer heard buf n few some, heard_more program state first c.hand_on.new.self c.ask.new.self c.hear.new.sink heard _ buf n _ none can unsettled c.in-Ok-ask.ensures.same_reference c.in-Ok-ask.ensures.same c.in-Ok-ask.ensures.asks some within refl (c.in-Ok-hear.ensures.told heard has))

pub returns-in-Err-hear-clause-goes_on : goal.returns-in-Err-hear-clause-goes_on
returns-in-Err-hear-clause-goes_on g c first heard none has unsettled way =
    let program = g.L.Listener.program in
    let state = g.P.Sink.state in
    let buf = c.ask.new.buf in
    let n = c.in-Ok-ask.count in
    let can = can_ask program state first c.args.gathering.now c.hand_on.new.self heard _ none way c.in-Ok.ensures.same_reference c.in-Ok.ensures.handed in
    let some : 0 < n = omega (arith, c.if-count-eq0.false) in
    let few : n ≤ length buf = c.in-Ok-ask.ensures.asks.bound.0 in
    let room : n ≤ c.most.result = omega (arith, few, c.ask.auto.buf, c.min-room.ensures, length-take {A = ℕ}) in
    let within = within_more heard buf n c.most.result program.longest few room (c.most.ensures heard has) some in
    heard_short program state first c.hand_on.new.self c.ask.new.self c.hear.new.sink heard _ buf n _ none can unsettled c.in-Ok-ask.ensures.same_reference c.in-Ok-ask.ensures.same c.in-Ok-ask.ensures.asks some within refl (c.in-Err-hear.ensures.told heard has)
