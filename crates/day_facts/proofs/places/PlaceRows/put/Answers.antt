use Rattle.std.proofs.Common.{subst, sym}
use Rattle.rule_book.specs.Rows.{Rises}
use Rattle.rule_book.proofs.RowLemmas.{rises}
use Rattle.day_facts.proofs.places.PlaceRows.put.Goals as goal

pub put_in-requires-clause-rises : goal.put_in-requires-clause-rises
put_in-requires-clause-rises c = subst (Rises 0) (sym c.as_slice.ensures.value) (rises 0 _ _ c.self.invariant)
