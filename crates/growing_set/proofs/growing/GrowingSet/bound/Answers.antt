use Rattle.std.proofs.Common.{◌∙◌, ap, length, sym}
use Rattle.number_set.specs.Members.{has}
use Rattle.growing_set.specs.Growing.{Growing}
use Rattle.growing_set.proofs.GrowingLemmas.{length-flags}
use Rattle.growing_set.proofs.growing.GrowingSet.bound.Goals as goal

pub returns : goal.returns
returns c = sym (length-flags (has c.self.inside.numbers) c.self.inside.count) ∙ ap (λ (v : Growing). length v.set) c.self.view_is
