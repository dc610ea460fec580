-- What is kept of what is ready, and for which lines. The candidates of accounts that a line touched are found anew later.
use Rattle.std.specs.Prelude.{◌≡◌, ℕ, ◌+◌, ◌<◌, ◌≤◌, Bool, true, false, ◌||◌, List, length}
use Rattle.batch_records.specs.DayRecord.{Day}
use Rattle.commit_journal.specs.Line.{History}
use Rattle.number_set.specs.Members.{has}
use Rattle.scan_laws.specs.Candidates.{IsFirstRound}
use Rattle.scan_laws.specs.Numbers.{item_count}
use Rattle.ready_items.specs.Goes.{by_itself_at, goes_at}
use Rattle.ready_items.specs.Normals.{HavePayments, IsAmount, Normals, is_normal_pay}
use Rattle.ready_items.specs.Found.{AreMembers, Found, candidate}

pub record Ready : Type 0 where
  pub normals : Normals
  -- by number: whether the item is ready by its message's phase alone
  pub alone : List Bool
  pub found : Found
  -- by account: whether its candidate is to be found anew
  pub touched : List Bool
  -- the number from which on the scan is
  pub at : ℕ

-- there is room for the day
pub record Fits (day : Day) (v : Ready) : Type 0 where
  pub payments : HavePayments day (length day.messages) v.normals
  pub alone : length v.alone ≡ item_count day
  pub members : AreMembers day v.found
  pub candidates : length v.found.candidates ≡ length v.touched
  pub touched : length day.accounts + 1 ≤ length v.touched

-- what is kept is that of the lines J
pub record KeepsReady (day : Day) (J : History) (v : Ready) : Type 0 where
  pub fits : Fits day v
  pub alone : (i : ℕ) → i < item_count day → has v.alone i ≡ by_itself_at day J i
  pub amounts : (n : ℕ) → 1 ≤ n → n ≤ length day.messages → is_normal_pay day n ≡ true → IsAmount day J v.normals n
  pub first : (a : ℕ) → 1 ≤ a → a ≤ length day.accounts → has v.touched a ≡ false → IsFirstRound (goes_at day J a) v.at (candidate v.found a)

-- every account has its candidate
abbrev pub IsRenewed : Ready → Type 0
IsRenewed v = (a : ℕ) → has v.touched a ≡ false

abbrev pub is_member : Ready → ℕ → Bool
is_member v x = has v.alone x || has v.found.members x

-- the candidate of account a was found anew, and nothing else is changed
pub record IsFound (day : Day) (J : History) (a : ℕ) (old new : Ready) : Type 0 where
  pub same : new ≡ record { normals = old.normals; alone = old.alone; found = new.found; touched = old.touched; at = old.at }
  pub members : AreMembers day new.found
  pub room : length new.found.candidates ≡ length old.found.candidates
  pub own : 1 ≤ a → IsFirstRound (goes_at day J a) old.at (candidate new.found a)
  pub others : (b : ℕ) → (b ≡ a → ⊥) → candidate new.found b ≡ candidate old.found b
