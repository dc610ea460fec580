-- What the answer to a want makes of the journal.
use Rattle.std.proofs.Common.{◌≡◌, ℕ, Bool, List, Option, is_some, sym, ap, subst, ◌∙◌}
use Rattle.std.specs.Prelude.{Result}
use Rattle.std.specs.List.{list_all}
use Rattle.std.proofs.Common.{Ok, Err}
use Rattle.batch_records.specs.DayRecord.{Day}
use Rattle.commit_journal.specs.declared.line.Want.{Want}
use Rattle.commit_journal.specs.Kept.{Kept}
use Rattle.machine.specs.declared.answers.Why.{Why}
use Rattle.machine.specs.Orders.Order.{append, with_line}
use Rattle.machine.specs.Records.Setup.{account_numbers}
use Rattle.settle_floor.specs.Floors.{AtWork, HasSame, IsAnswered, IsBalanced, IsFor, OnFloor}
use Rattle.settle_floor.specs.Tills.{KeepsBalances}

pub appended_is : (day : Day) (old new : OnFloor) (w : Want) (holdings later : ℕ → Option ℕ) (r : Result ℕ Why) → IsAnswered day old new w holdings later r → new.journal.history ≡ append day old.journal.history w
unfolding append
appended_is day old new w holdings later (Ok place) h = h.2 ∙ sym (ap (λ o. with_line o old.journal.history) h.1)
appended_is day old new w holdings later (Err why) h = ap (λ (x : OnFloor). x.journal.history) h.1 ∙ sym (ap (λ o. with_line o old.journal.history) h.3)

all_still : (holdings later : ℕ → Option ℕ) → HasSame holdings later → (these : List ℕ) → list_all (λ a. is_some (later a)) these ≡ list_all (λ a. is_some (holdings a)) these
all_still holdings later same these = ap (λ test. list_all test these) same_test
  where
    same_test : ◌≡◌ {A = ℕ → Bool} (λ a. is_some (later a)) (λ a. is_some (holdings a))
    same_test = λ j a. same a j

pub at_work_still : (day : Day) (old new : OnFloor) (holdings later : ℕ → Option ℕ) → AtWork day old holdings → IsFor day new → KeepsBalances later day new.journal.history → HasSame holdings later → AtWork day new later
at_work_still day old new holdings later was opened kept same = record { opened = opened; kept = kept; all = all_still holdings later same (account_numbers day) ∙ was.all }

-- the journal that a floor at work leaves
pub balanced : (day : Day) (floor : OnFloor) (journal : Kept) (holdings : ℕ → Option ℕ) → journal ≡ floor.journal → AtWork day floor holdings → IsBalanced day journal holdings
balanced day floor journal holdings e was =
    subst (λ (j : Kept). IsBalanced day j holdings) (sym e) (record { legal = was.opened.fits.legal; kept = was.kept; all = was.all })
