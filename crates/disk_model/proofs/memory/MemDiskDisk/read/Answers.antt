use Rattle.std.proofs.Common.{◌+◌, ◌≡◌, ◌∙◌, sym, true, nat_lt, arith}
use Rattle.std.proofs.lemmas.Bool.{ltb-true}
use Rattle.disk_model.specs.Stored.{disk_of}
use Rattle.disk_model.proofs.PastFacts.{up_to_later, elapses_kept}
use Rattle.disk_model.proofs.memory.MemDiskDisk.read.Goals as goal

pub invariant_of-self : goal.invariant_of-self
invariant_of-self c =
    let was = c.self.invariant in
    record {
      seen = was.seen;
      room_for_bytes = was.room_for_bytes;
      room_for_pieces = was.room_for_pieces;
      room_for_calls = was.room_for_calls;
      up_to_now = up_to_later c.self.inside.clock _ _ (omega (arith, c.saturating_add-self-inside.ensures)) was.up_to_now;
    }

pub returns-then-not-passes_at-clause-time : goal.returns-then-not-passes_at-clause-time
returns-then-not-passes_at-clause-time c =
    elapses_kept (disk_of c.self.inside) _ _ _ c.self.view_is c.self.invariant.up_to_now c.saturating_add-self-inside.ensures (omega arith)

pub invariant_of-self-2 : goal.invariant_of-self-2
invariant_of-self-2 c =
    let was = c.self.invariant in
    record {
      seen = was.seen;
      room_for_bytes = was.room_for_bytes;
      room_for_pieces = was.room_for_pieces;
      room_for_calls = was.room_for_calls;
      up_to_now = up_to_later c.self.inside.clock _ _ (omega arith) was.up_to_now;
    }

pub returns-clause-time : goal.returns-clause-time
returns-clause-time c =
    let passes : nat_lt c.self.inside.clock c.self.inside.passes ≡ true = sym c.passes_at.ensures ∙ c.if-not-passes_at.false in
    elapses_kept (disk_of c.self.inside) _ (c.self.inside.clock + 1) _ c.self.view_is c.self.invariant.up_to_now (omega (arith, ltb-true c.self.inside.clock c.self.inside.passes passes)) (omega arith)
