use Rattle.std.proofs.Common.{◌≡◌, sym, ◌∙◌, arith, rules}
use Rattle.disk_model.proofs.PastFacts.{seen_first, none_told}
use Rattle.disk_model.proofs.memory.MemDisk.make.Goals as goal

pub invariant_of-result : goal.invariant_of-result
invariant_of-result c =
    let same : c.in_ok-first.first.items ≡ c.args.bytes.items = search rules in
    let none = none_told _ _ c.in_ok-done.ensures.items c.in_ok-pieces.ensures.items in
    record {
      seen = seen_first _ _ _ (c.in_ok-reserve.ensures.items ∙ sym same) none.0;
      room_for_bytes = omega (arith, c.in_ok-reserve.ensures.ok);
      room_for_pieces = omega (arith, c.in_ok-pieces.ensures.capacity, c.in_ok-pieces.ensures.len);
      room_for_calls = omega (arith, c.in_ok-done.ensures.capacity, c.in_ok-done.ensures.len);
      up_to_now = none.1 0;
    }

pub returns : goal.returns
returns c =
    let same : c.in_ok-first.first.items ≡ c.args.bytes.items = search rules in
    let none = none_told _ _ c.in_ok-done.ensures.items c.in_ok-pieces.ensures.items in
    λ i. record { first = same i; past = none.0 i; room = c.args.room; records = c.args.records; passes = c.args.passes; clock = 0; faults = 0 }
