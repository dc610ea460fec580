use Rattle.std.proofs.Common.{rules, arith, ℕ, List, [], ◌∷◌, ◌++◌, length, Some, sym, subst, ap, ◌∙◌, map}
use Rattle.outside_io.specs.Marks.{AreWithin, moment_at}
use Rattle.outside_io.specs.Memory.{MemoryPort, port_state}
use Rattle.outside_io.specs.Pieces.{Moment}
use Rattle.outside_io.specs.Ports.{moment_of}
use Rattle.outside_io.proofs.PortLemmas.{front_is_taken, mark_within, marked, none_is_left}
use Rattle.outside_io.proofs.port.MemPortPort.read.Goals as goal

pub invariant_of-self-2 : goal.invariant_of-self-2
invariant_of-self-2 c =
    let old = c.self.invariant in
    let one = c.push_reserved.ensures.items in
    let long = ap (length {A = ℕ}) c.written.ensures in
    (search rules, search rules, search rules, subst (AreWithin (length c.self.inside.sink.written)) (sym one) (mark_within (length c.self.inside.sink.written) c.self.inside.marks.items _ old.3 (omega (arith, long))))

pub returns-clause-asks : goal.returns-clause-asks
returns-clause-asks c =
    let one = c.push_reserved.ensures.items in
    let n = c.fill-count.result in
    let inside = c.self.inside in
    let same = c.deref-2.ensures.value in
    let count = rw same at c.fill-count.ensures.count in
    let bytes = rw same at c.fill-count.ensures.bytes in
    let view = c.self.view_is in
    let long = ap (length {A = ℕ}) c.written.ensures in
    record {
      bound = search rules;
      bytes = (
        ap (λ (p : MemoryPort). p.source.left) (sym view) ∙ front_is_taken inside.bytes.items c.fill-count.new.buf inside.at n bytes,
        λ none some. none_is_left inside.bytes.items inside.at n _ count none c.requires,
      );
      later = search rules;
      count = search rules;
      end = search rules;
      moment = ap (λ (moments : List Moment). Some moments) (
          ap (map (moment_at inside.bytes.items inside.sink.written)) one
          ∙ marked inside.bytes.items inside.sink.written inside.marks.items _ long
          ∙ ap (λ (p : MemoryPort). p.moments ++ moment_of (port_state p) ∷ []) view
          );
      unwritten = search rules;
    }
