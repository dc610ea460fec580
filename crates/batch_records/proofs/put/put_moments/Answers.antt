use Rattle.std.proofs.Common.{◌≡◌, ◌≤◌, ◌-◌, length, drop, [], refl, arith}
use Rattle.std.proofs.lemmas.List.{drop_all}
use Rattle.batch_records.specs.Flat.{with_entries}
use Rattle.batch_records.specs.Meets.{is_time}
use Rattle.batch_records.specs.Parts.{entries_at}
use Rattle.batch_records.proofs.ListFacts.{all_drop, all_take}
use Rattle.batch_records.proofs.PartFacts.{rest_is}
use Rattle.batch_records.proofs.PutFacts.{entries_here, message_here, moment_round, moments_all, moments_more, moments_none, moments_stop, times_here}
use Rattle.batch_records.proofs.put.put_moments.Goals as goal

pub loop-i-init : goal.loop-i-init
loop-i-init g c = moments_none _ _ _ _ c.requires.rounds

pub stops_between-part-requires-clause-first : goal.stops_between-part-requires-clause-first
stops_between-part-requires-clause-first g c = (moment_round _ _ _ _ _ _ _ (with_entries c.message-message.result.now (entries_at c.args.day.now.messages c.loop-i.i)) (omega (arith, c.message_count-i-end.ensures)) (message_here c.args.day.now.messages c.loop-i.i c.message-message.result.now (entries_at c.args.day.now.messages c.loop-i.i) c.message-message.ensures refl) c.loop-i.invariant).0

pub stops_between-part-requires-clause-last : goal.stops_between-part-requires-clause-last
stops_between-part-requires-clause-last g c = (moment_round _ _ _ _ _ _ _ (with_entries c.message-message.result.now (entries_at c.args.day.now.messages c.loop-i.i)) (omega (arith, c.message_count-i-end.ensures)) (message_here c.args.day.now.messages c.loop-i.i c.message-message.result.now (entries_at c.args.day.now.messages c.loop-i.i) c.message-message.ensures refl) c.loop-i.invariant).1

pub put_moment-requires-clause-stops : goal.put_moment-requires-clause-stops
put_moment-requires-clause-stops g c =
    rw c.stops_between-part.ensures (all_take is_time (c.message-message.result.now.round - c.loop-i.passed) (drop c.loop-i.passed c.args.stops.now) (all_drop is_time c.loop-i.passed c.args.stops.now c.requires.stops))

pub put_moment-requires-clause-times : goal.put_moment-requires-clause-times
put_moment-requires-clause-times g c = times_here c.args.day.now.messages c.loop-i.i c.message-message.result.now c.requires.ends c.message-message.ensures

pub put_moment-requires-clause-entries : goal.put_moment-requires-clause-entries
put_moment-requires-clause-entries g c = entries_here c.args.day.now.messages c.loop-i.i c.message-message.result.now c.entries-entries.result.now c.message-message.ensures c.entries-entries.ensures

pub returns-in_err-put_moment : goal.returns-in_err-put_moment
returns-in_err-put_moment g c = moments_stop _ _ _ _ _ _ _ _ (with_entries c.message-message.result.now c.entries-entries.result.now) _ _ c.from_residual.ensures.0 (omega (arith, c.message_count-i-end.ensures)) (message_here c.args.day.now.messages c.loop-i.i c.message-message.result.now c.entries-entries.result.now c.message-message.ensures c.entries-entries.ensures) c.loop-i.invariant (rw c.stops_between-part.ensures at c.in_err-put_moment.ensures)

pub loop-i-preserved : goal.loop-i-preserved
loop-i-preserved g c = moments_more _ _ _ _ _ _ _ _ (with_entries c.message-message.result.now c.entries-entries.result.now) _ (omega (arith, c.message_count-i-end.ensures)) (message_here c.args.day.now.messages c.loop-i.i c.message-message.result.now c.entries-entries.result.now c.message-message.ensures c.entries-entries.ensures) c.loop-i.invariant (rw c.stops_between-part.ensures at c.in_ok-put_moment.ensures)

pub put_stops-requires : goal.put_stops-requires
put_stops-requires g c =
    all_take is_time (length c.args.stops.now - c.loop-i.passed) (drop c.loop-i.passed c.args.stops.now) (all_drop is_time c.loop-i.passed c.args.stops.now c.requires.stops)

pub returns : goal.returns
returns g c =
    let past : length c.args.day.now.messages ≤ c.loop-i.i = omega (arith, c.message_count-i-end.ensures) in
    let over : drop c.loop-i.i c.args.day.now.messages ≡ [] = drop_all c.loop-i.i c.args.day.now.messages past in
    moments_all _ _ _ _ _ _ _ _ (rw over at c.loop-i.invariant) (rw rest_is at c.put_stops.ensures)
