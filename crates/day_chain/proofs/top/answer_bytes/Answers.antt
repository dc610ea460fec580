use Rattle.std.proofs.Common.{◌+◌, Ok, Err, arith}
use Rattle.day_chain.proofs.Going.{at_rest, blank_rest, ended, few_so_far, fewer, stopped, way_again, way_on, way_starts}
use Rattle.day_chain.proofs.top.answer_bytes.Goals as goal

pub days-init : goal.days-init
days-init g c = record { inside = omega arith; way = way_starts c.args.bytes.now c.new-ledger.result _ c.new-ledger.ensures }

pub take_next-requires-clause-few : goal.take_next-requires-clause-few
take_next-requires-clause-few g c = few_so_far c.args.bytes.now c.days.at c.days.ledger _ _ c.requires c.days.invariant.way

pub take_next-requires-clause-stands : goal.take_next-requires-clause-stands
take_next-requires-clause-stands g c = (c.days.invariant.way.told, c.days.invariant.way.stands)

pub returns-in-Err : goal.returns-in-Err
returns-in-Err g c = stopped c.args.bytes.now c.days.at c.days.ledger _ _ _ c.in-Err.status c.requires c.days.invariant.way (at_rest c.args.bytes.now c.days.at c.days.ledger _ _ (Err c.in-Err.status) c.in-Err.ensures.told)

pub end_chain-requires : goal.end_chain-requires
end_chain-requires g c =
    let bytes = c.args.bytes.now in
    let stop = way_on bytes c.days.at c.in-Ok.length c.days.ledger c.in-Ok.more _ _ _ c.days.invariant.way (at_rest bytes c.days.at c.days.ledger _ _ (Ok (c.in-Ok.more, c.in-Ok.length)) c.in-Ok.ensures.told) in
    record { stands = (stop.told, stop.stands) }

pub returns-then-is_blank : goal.returns-then-is_blank
returns-then-is_blank g c =
    let bytes = c.args.bytes.now in
    let at = c.days.at + c.in-Ok.length in
    let stop = way_on bytes c.days.at c.in-Ok.length c.days.ledger c.in-Ok.more _ _ _ c.days.invariant.way (at_rest bytes c.days.at c.days.ledger _ _ (Ok (c.in-Ok.more, c.in-Ok.length)) c.in-Ok.ensures.told) in
    ended bytes at c.in-Ok.more _ _ _ _ c.requires stop (blank_rest bytes at _ _ c.is_blank.ensures c.if-is_blank.true) c.end_chain.ensures

pub days-preserved : goal.days-preserved
days-preserved g c =
    let bytes = c.args.bytes.now in
    let at = c.days.at + c.in-Ok.length in
    let stop = way_on bytes c.days.at c.in-Ok.length c.days.ledger c.in-Ok.more _ _ _ c.days.invariant.way (at_rest bytes c.days.at c.days.ledger _ _ (Ok (c.in-Ok.more, c.in-Ok.length)) c.in-Ok.ensures.told) in
    record { inside = stop.within; way = way_again bytes at c.in-Ok.more _ _ stop (blank_rest bytes at _ _ c.is_blank.ensures c.if-is_blank.false) }

pub days-smaller : goal.days-smaller
days-smaller g c =
    let bytes = c.args.bytes.now in
    let at = c.days.at + c.in-Ok.length in
    fewer bytes c.days.at c.in-Ok.length c.days.ledger c.in-Ok.more _ _ _ c.days.invariant.way (at_rest bytes c.days.at c.days.ledger _ _ (Ok (c.in-Ok.more, c.in-Ok.length)) c.in-Ok.ensures.told) (blank_rest bytes at _ _ c.is_blank.ensures c.if-is_blank.false)
