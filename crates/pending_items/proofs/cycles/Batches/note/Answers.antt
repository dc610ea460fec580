use Rattle.std.proofs.Common.{◌∙◌, true, ap, if◌then◌else◌}
use Rattle.pending_items.specs.Cycles.{taken_off, with_batch}
use Rattle.pending_items.proofs.cycles.Batches.note.Goals as goal

pub returns : goal.returns
returns c =
    let head = c.args.head in
    (λ i. record {
      set = (c.enter_if.ensures ∙ (λ j. if c.is_begun.ensures j then taken_off (c.index_of.ensures j) true c.self.inside.set else c.self.inside.set)) i;
      size = c.self.inside.size;
    })
    ∙ ap (with_batch c.args.setting.now.day head) c.self.view_is
