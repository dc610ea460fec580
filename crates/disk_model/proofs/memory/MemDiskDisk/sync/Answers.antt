use Rattle.std.proofs.Common.{◌+◌, ◌≡◌, true, nat_lt, refl, sym, ◌∙◌, ap, subst, arith}
use Rattle.std.proofs.lemmas.Bool.{lt-ltb, ltb-true}
use Rattle.disk_model.specs.Memory.{Synced, can_record}
use Rattle.disk_model.specs.Stored.{disk_of, AreUpTo}
use Rattle.disk_model.proofs.PastFacts.{told_synced, made, up_to_later, up_to_event, elapses_kept, elapses_to, bytes_with, cut_event, seen_after, only_synced, none_synced}
use Rattle.disk_model.proofs.memory.MemDiskDisk.sync.Goals as goal

pub invariant_of-self : goal.invariant_of-self
invariant_of-self c =
    let was = c.self.invariant in
    record {
      seen = was.seen;
      room_for_bytes = was.room_for_bytes;
      room_for_pieces = was.room_for_pieces;
      room_for_calls = was.room_for_calls;
      up_to_now = up_to_later c.self.inside.clock _ _ (omega (arith, c.saturating_add-self-inside.ensures)) was.up_to_now;
    }

pub returns-then-not-passes_at-clause-time : goal.returns-then-not-passes_at-clause-time
returns-then-not-passes_at-clause-time c =
    elapses_kept (disk_of c.self.inside) _ _ _ c.self.view_is c.self.invariant.up_to_now c.saturating_add-self-inside.ensures (omega arith)

pub invariant_of-self-2 : goal.invariant_of-self-2
invariant_of-self-2 c =
    let was = c.self.invariant in
    let pushed = rw c.unwrap.ensures at c.push.ensures.items in
    let is = told_synced _ _ c.self.inside.pieces.items (c.self.inside.clock + 1) pushed in
    let more = rw c.unwrap.ensures at c.push.ensures.len in
    record {
      seen = was.seen ∙ sym (bytes_with c.self.inside.first.items _ _ _ is);
      room_for_bytes = was.room_for_bytes;
      room_for_pieces = was.room_for_pieces;
      room_for_calls = omega (arith, more, was.room_for_calls, c.push.ensures.capacity, c.if-self-eq0.false);
      up_to_now = subst (AreUpTo (c.self.inside.clock + 1)) (sym is) (up_to_event (c.self.inside.clock + 1) _ _ refl (up_to_later c.self.inside.clock (c.self.inside.clock + 1) _ (omega arith) was.up_to_now));
    }

pub returns-clause-durable : goal.returns-clause-durable
returns-clause-durable c =
    let pushed = rw c.unwrap.ensures at c.push.ensures.items in
    let is = told_synced _ _ c.self.inside.pieces.items (c.self.inside.clock + 1) pushed in
    only_synced (disk_of c.self.inside) _ _ (c.self.inside.clock + 1) c.self.view_is is

pub returns-clause-same : goal.returns-clause-same
returns-clause-same c =
    let pushed = rw c.unwrap.ensures at c.push.ensures.items in
    let is = told_synced _ _ c.self.inside.pieces.items (c.self.inside.clock + 1) pushed in
    seen_after (disk_of c.self.inside) _ _ _ c.self.view_is is

pub returns-clause-images : goal.returns-clause-images
returns-clause-images c =
    let pushed = rw c.unwrap.ensures at c.push.ensures.items in
    let is = told_synced _ _ c.self.inside.pieces.items (c.self.inside.clock + 1) pushed in
    none_synced (disk_of c.self.inside) _ _ (c.self.inside.clock + 1) c.self.view_is is

pub returns-clause-time : goal.returns-clause-time
returns-clause-time c =
    let pushed = rw c.unwrap.ensures at c.push.ensures.items in
    let is = told_synced _ _ c.self.inside.pieces.items (c.self.inside.clock + 1) pushed in
    elapses_to (disk_of c.self.inside) _ _ Synced _ _ (c.self.inside.clock + 1) c.self.view_is c.self.invariant.up_to_now refl is

pub returns-clause-exact : goal.returns-clause-exact
returns-clause-exact c =
    let pushed = rw c.unwrap.ensures at c.push.ensures.items in
    let is = told_synced _ _ c.self.inside.pieces.items (c.self.inside.clock + 1) pushed in
    let i = c.self.inside in
    let passes : nat_lt i.clock i.passes ≡ true = sym c.passes_at.ensures ∙ c.if-not-passes_at.false in
    let records : nat_lt 0 i.records ≡ true = lt-ltb 0 i.records (omega (arith, c.if-self-eq0.false)) in
    let test : can_record (disk_of i) ≡ true = rw (passes, records) refl in
    record {
      when = sym (ap can_record (sym c.self.view_is) ∙ test);
      ok = made (disk_of i) _ _ Synced (λ disk. disk.room) (i.clock + 1) c.self.view_is refl (omega (arith, ltb-true i.clock i.passes passes)) is;
      err = tt;
    }

pub returns-clause-cut : goal.returns-clause-cut
returns-clause-cut c =
    let i = c.self.inside in
    let passes : nat_lt i.clock i.passes ≡ true = sym c.passes_at.ensures ∙ c.if-not-passes_at.false in
    cut_event (disk_of i) _ _ Synced _ 0 _ c.self.view_is (returns-clause-exact c).ok (ltb-true i.clock i.passes passes) (omega arith) (omega arith) refl
