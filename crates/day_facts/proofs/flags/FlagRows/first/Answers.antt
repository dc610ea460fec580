use Rattle.std.proofs.Common.{subst, sym}
use Rattle.rule_book.specs.Rows.{Rises}
use Rattle.day_facts.proofs.flags.FlagRows.first.Goals as goal

pub first_in-requires : goal.first_in-requires
first_in-requires c = subst (Rises 0) (sym c.as_slice.ensures.value) c.self.invariant.is_counted.rises
