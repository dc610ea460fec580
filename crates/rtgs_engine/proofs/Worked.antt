-- The journal that workers make of a day.
use Rattle.std.proofs.Common.{◌≡◌, ℕ, ◌≤◌, true, Option, arith}
use Rattle.batch_records.specs.DayRecord.{Day}
use Rattle.batch_records.specs.Sound.{is_sound}
use Rattle.commit_journal.specs.Kept.{Kept}
use Rattle.machine.specs.Legal.{is_complete}
use Rattle.settlement_laws.proofs.EachLaw.AllLaws.{all_laws}
use Rattle.settle_floor.specs.Floors.{IsBalanced}
use Rattle.rtgs_engine.specs.Journals.{IsOfDay}

pub worked : (workers : ℕ) (day : Day) (journal : Kept) (holdings : ℕ → Option ℕ) → is_sound day ≡ true → 1 ≤ workers → IsBalanced day journal holdings → is_complete journal.history ≡ true → IsOfDay workers day journal.history
worked workers day journal holdings good some balanced complete = record {
  written_order = λ none. absurd (omega (arith, some, none));
  legal = balanced.legal;
  complete = complete;
  laws = all_laws day journal.history good balanced.legal;
}
