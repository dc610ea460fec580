use Rattle.std.proofs.Common.{◌≡◌, ◌∙◌, Bool, ◌++◌, ◌∷◌, ◌+◌, ◌-◌, [], List, ℕ, ap, arith, length, sym}
use Rattle.std.specs.Prelude.{filter, nat_eq, slice_index}
use Rattle.std.specs.List.{range_with_len}
use Rattle.std.proofs.lemmas.List.FromFn.{length-map-range_with_len}
use Rattle.batch_records.proofs.SoundFacts.{few_stops}
use Rattle.settlement_laws.proofs.Base.SoundParts.{sound_parts}
use Rattle.lane_workers.specs.Senders.{lane_of}
use Rattle.lane_workers.proofs.RoundFacts.{firsts_rise}
use Rattle.lane_workers.proofs.StintFacts.{has_more, stint_is}
use Rattle.lane_workers.proofs.lanes.Stints.add_stint.Goals as goal

pub overflow_add-round : goal.overflow_add-round
overflow_add-round c =
    let day = c.args.setting.now.day in
    let le = c.requires.round in
    omega (arith, few_stops day.stops (sound_parts day c.args.setting.now.sound).stops, le)

pub add_messages-requires : goal.add_messages-requires
add_messages-requires c =
    let day = c.args.setting.now.day in
    let rise = firsts_rise day c.args.round (c.args.round + 1) c.args.setting.now.sound (omega arith) in
    let count : length c.args.lanes.now ≡ length day.messages = ap length c.requires.lanes ∙ length-map-range_with_len (lane_of day c.args.workers) 1 (length day.messages) in
    let low = c.first_of-first.ensures.range.0 in
    let high = c.first_of-end.ensures.range.1 in
    let a = c.first_of-first.ensures.first in
    let b = c.first_of-end.ensures.first in
    record { range = (low, omega (arith, rise, a, b), omega (arith, high, count)) }

pub returns : goal.returns
returns c =
    let day = c.args.setting.now.day in
    let test : ℕ → Bool = λ n. nat_eq (slice_index c.args.lanes.now (n - 1)) c.args.lane in
    has_more day c.args.workers c.args.round c.args.lane c.args.self.now _ c.requires.lane c.requires.stints
    (c.in_ok-add_messages.ensures
    ∙ (λ j. c.args.self.now.order.items ++ filter test (range_with_len (c.first_of-first.ensures.first j) (c.first_of-end.ensures.first j - c.first_of-first.ensures.first j)))
    ∙ ap (λ (xs : List ℕ). c.args.self.now.order.items ++ xs) (sym (stint_is day c.args.workers c.args.round c.args.lane c.args.lanes.now c.args.setting.now.sound c.requires.lanes)))
    (c.in_ok-push.ensures.items ∙ ap (λ (n : ℕ). c.args.self.now.begins.items ++ n ∷ []) (c.len.ensures ∙ c.add_messages.new.order.ok.0))
