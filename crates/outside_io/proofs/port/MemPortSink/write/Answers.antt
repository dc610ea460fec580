use Rattle.std.proofs.Common.{◌∙◌, List, Some, ap, drop}
use Rattle.outside_io.specs.Memory.{MemoryPort, port_state}
use Rattle.outside_io.specs.Pieces.{Moment}
use Rattle.outside_io.proofs.PortLemmas.{written_stays, written_within}
use Rattle.outside_io.proofs.port.MemPortSink.write.Goals as goal

pub invariant_of-self : goal.invariant_of-self
invariant_of-self c =
    let old = c.self.invariant in
    (old.0, old.1, old.2, written_within c.self.inside.sink.written c.write.new.self.written c.args.piece.now c.self.inside.marks.items c.write.result c.write.ensures.bytes old.3)

pub returns-clause-unread : goal.returns-clause-unread
returns-clause-unread c =
    let inside = c.self.inside in
    ap (λ (moments : List Moment). record { left = Some (drop inside.at inside.bytes.items); faults = inside.faults; ends = Some inside.ends; moments = Some moments })
    (written_stays inside.bytes.items inside.sink.written c.write.new.self.written c.args.piece.now inside.marks.items c.write.result c.write.ensures.bytes c.self.invariant.3)
    ∙ ap (λ (port : MemoryPort). (port_state port).reading) c.self.view_is
