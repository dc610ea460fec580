use Rattle.std.proofs.Common.{◌≡◌, ◌<◌, length, ap, arith}
use Rattle.batch_records.specs.Flat.{joined}
use Rattle.batch_records.specs.Held.{HeldMessages}
use Rattle.batch_records.proofs.FlatFacts.{joined_here, joined_length}
use Rattle.batch_records.proofs.held.HeldMessages.message.Goals as goal

pub index-requires : goal.index-requires
index-requires c =
    let size : length (joined c.self.inside.records.items c.self.inside.entries.rows) ≡ length c.args.self.now.list = ap (λ (h : HeldMessages). length h.list) c.self.view_is in
    omega (arith, c.requires, size, joined_length c.self.inside.records.items c.self.inside.entries.rows, c.self.inside.records.ok.0)

pub returns : goal.returns
returns c =
    let size : length (joined c.self.inside.records.items c.self.inside.entries.rows) ≡ length c.args.self.now.list = ap (λ (h : HeldMessages). length h.list) c.self.view_is in
    let inside : c.args.i < length c.self.inside.records.items = omega (arith, c.requires, size, joined_length c.self.inside.records.items c.self.inside.entries.rows) in
    rw (← c.self.view_is) (joined_here c.self.inside.records.items c.self.inside.entries.rows c.args.i c.index.result.now c.self.invariant.0 inside c.index.ensures)
