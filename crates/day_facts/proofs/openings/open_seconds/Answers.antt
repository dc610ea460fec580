use Rattle.std.proofs.Common.{arith}
use Rattle.day_facts.proofs.OpeningLines.{held_more, none_new, one_new}
use Rattle.day_facts.proofs.openings.open_seconds.Goals as goal

pub push_reserved-requires : goal.push_reserved-requires
push_reserved-requires c = omega (arith, c.requires.few, c.requires.room, c.end_of-end.ensures, c.if-end-next.false)

pub returns-then-end-next-clause-rows : goal.returns-then-end-next-clause-rows
returns-then-end-next-clause-rows c = none_new c.args.next c.args.time c.end_of-end.result c.args.place c.args.rows.now.items c.requires.rise c.end_of-end.ensures (omega (arith, c.if-end-next.true))

pub returns-clause-held : goal.returns-clause-held
returns-clause-held c =
    held_more c.args.rows.now.items _ (record { end = c.end_of-end.result; place = c.args.place }) c.args.next _ _ _ _ (omega (arith, c.if-end-next.false)) (omega (arith, c.end_of-end.ensures)) c.push_reserved.ensures.items c.push_reserved.ensures.len c.push_reserved.ensures.capacity c.requires

pub returns-clause-rows : goal.returns-clause-rows
returns-clause-rows c = one_new c.args.time c.args.rows.now.items _ (record { end = c.end_of-end.result; place = c.args.place }) c.end_of-end.ensures c.push_reserved.ensures.items
