use Rattle.std.proofs.Common.{subst, sym}
use Rattle.rule_book.specs.Rows.{Rises}
use Rattle.rule_book.proofs.RowLemmas.{rises}
use Rattle.day_facts.proofs.places.PlaceRows.at.Goals as goal

pub place_in-requires : goal.place_in-requires
place_in-requires c = subst (Rises 0) (sym c.as_slice.ensures.value) (rises 0 _ _ c.self.invariant)
