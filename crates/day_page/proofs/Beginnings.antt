-- The first lines of a journal.
use Rattle.std.proofs.Common.{◌≡◌, ◌+◌, ◌-◌, ℕ, suc, zero, [], ◌∷◌, length, drop, arith, subst, sym}
use Rattle.std.proofs.lemmas.List.{drop_all}
use Rattle.batch_records.specs.DayRecord.{Day}
use Rattle.commit_journal.specs.Line.{History}
use Rattle.commit_journal.specs.Histories.{oldest}
use Rattle.machine.specs.Legal.{IsLegal}
use Rattle.day_facts.specs.Facts.{Facts, StandsFor}

pub legal_drop : (day : Day) (k : ℕ) (J : History) → IsLegal day J → IsLegal day (drop k J)
legal_drop day zero J legal = legal
legal_drop day (suc k) [] legal = legal
legal_drop day (suc k) (l ∷ J) legal = legal_drop day k J legal.0

pub legal_oldest : (day : Day) (i : ℕ) (J : History) → IsLegal day J → IsLegal day (oldest J i)
legal_oldest day i J legal = legal_drop day (length J - i) J legal

-- no lines
pub none_so_far : (J : History) → oldest J 0 ≡ []
none_so_far J = drop_all (length J - 0) J (omega arith)

pub stands_first : (day : Day) (J : History) (facts : Facts) → StandsFor day [] facts → StandsFor day (oldest J 0) facts
stands_first day J facts first = subst (λ (H : History). StandsFor day H facts) (sym (none_so_far J)) first

pub stands_back : (day : Day) (J : History) (facts : Facts) (i : ℕ) → StandsFor day (oldest J i) facts → StandsFor day (oldest J (i + 1 - 1)) facts
stands_back day J facts i stands = let e : i ≡ i + 1 - 1 = omega arith in subst (λ (k : ℕ). StandsFor day (oldest J k) facts) e stands

pub stands_at_end : (day : Day) (J : History) (facts : Facts) (i : ℕ) → i ≡ length J → StandsFor day (oldest J i) facts → StandsFor day (oldest J (length J)) facts
stands_at_end day J facts i e stands = subst (λ (k : ℕ). StandsFor day (oldest J k) facts) e stands
