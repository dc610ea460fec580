-- A till that has the balance of each account of the day.
use Rattle.std.proofs.Common.{◌≡◌, ℕ, true, List, sym, subst}
use Rattle.cash_amounts.specs.Numbers.{numbered}
use Rattle.batch_records.specs.DayRecord.{Day}
use Rattle.commit_journal.specs.Kept.{Kept}
use Rattle.commit_journal.specs.Line.{History}
use Rattle.machine.specs.Legal.{IsLegal}
use Rattle.settle_floor.specs.Floors.{AtWork, has_all, IsBalanced, IsFor, OnFloor}
use Rattle.settle_floor.specs.Tills.{KeepsBalances}

pub at_work : (day : Day) (J : History) (floor : OnFloor) (till : List ℕ) → has_all (numbered till) day ≡ true → KeepsBalances (numbered till) day J → floor.journal.history ≡ J → IsFor day floor → AtWork day floor (numbered till)
at_work day J floor till all kept same opened = record {
  opened = opened;
  kept = subst (KeepsBalances (numbered till) day) (sym same) kept;
  all = all;
}

pub is_balanced : (day : Day) (J : History) (journal : Kept) (till : List ℕ) → has_all (numbered till) day ≡ true → KeepsBalances (numbered till) day J → journal.history ≡ J → IsLegal day J → IsBalanced day journal (numbered till)
is_balanced day J journal till all kept same legal = record {
  legal = subst (IsLegal day) (sym same) legal;
  kept = subst (KeepsBalances (numbered till) day) (sym same) kept;
  all = all;
}
