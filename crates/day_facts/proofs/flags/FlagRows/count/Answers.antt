use Rattle.std.proofs.Common.{◌∙◌, Bool, ap}
use Rattle.std.specs.Option.{option_map_or}
use Rattle.machine.specs.Words.{numbered}
use Rattle.day_facts.specs.Listed.{Rowed}
use Rattle.day_facts.specs.Rows.{count_in}
use Rattle.day_facts.proofs.RowLemmas.{counted_at}
use Rattle.day_facts.proofs.flags.FlagRows.count.Goals as goal

pub returns : goal.returns
returns c =
    c.standing_at.ensures ∙ ap (λ counts. option_map_or (λ count. count) (numbered counts c.args.n) 0) c.as_slice.ensures.value
    ∙ counted_at c.self.inside.ends.items c.self.inside.items c.self.inside.standing.items c.args.n c.self.invariant.is_counted
    ∙ ap (λ (r : Rowed Bool). count_in r.rows c.args.n) c.self.view_is
