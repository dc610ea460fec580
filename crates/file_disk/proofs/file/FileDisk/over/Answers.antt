use Rattle.std.proofs.Common.{◌≡◌, rules}
use Rattle.file_disk.proofs.NoteFacts.{first_held, seen_held, up_to_held}
use Rattle.file_disk.proofs.file.FileDisk.over.Goals as goal

pub invariant_of-result : goal.invariant_of-result
invariant_of-result c =
    let same : c.deref.result.now ≡ c.args.bytes.items = search rules in
    record {
      seen = seen_held _ _ _ c.note.ensures same;
      up_to_now = up_to_held _ c.deref.result.now c.note.ensures;
    }

pub returns : goal.returns
returns c =
    let same : c.deref.result.now ≡ c.args.bytes.items = search rules in
    let held = first_held _ _ c.args.bytes.items c.note.ensures same in
    λ i. record { first = held.0 i; past = held.1 i; room = 0; records = 0; passes = 0; clock = 0; faults = 0 }
