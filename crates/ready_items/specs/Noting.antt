-- What a line brings up to date of what is ready.
use Rattle.std.specs.Prelude.{◌≡◌, ℕ, ◌<◌, ◌≤◌, Bool, true, List, length, Some}
use Rattle.batch_records.specs.DayRecord.{Day}
use Rattle.commit_journal.specs.declared.line.Move.{Move}
use Rattle.commit_journal.specs.Line.{History}
use Rattle.machine.specs.declared.answers.Item.{Item}
use Rattle.machine.specs.Stages.Pending.{item}
use Rattle.number_set.specs.Members.{has}
use Rattle.scan_laws.specs.Numbers.{IsItem, item_count, item_of}
use Rattle.scan_laws.specs.Touched.{moves_on}
use Rattle.pending_items.specs.Parts.{account_of, whole}
use Rattle.ready_items.specs.Goes.{by_itself_at}
use Rattle.ready_items.specs.Normals.{HavePayments, IsAmount, Normals, is_normal_pay}
use Rattle.ready_items.specs.Kept.{Fits, Ready}

-- the flags only grow, and there are as many
pub record Grows (old new : List Bool) : Type 0 where
  pub size : length new ≡ length old
  pub stay : (a : ℕ) → has old a ≡ true → has new a ≡ true

-- besides, each account on which a part of the item stands is touched
pub record Touches (day : Day) (x : Item) (old new : List Bool) : Type 0 where
  pub grows : Grows old new
  pub told : (y : Item) (a : ℕ) → IsItem day y.msg y.entry → whole day y ≡ x → account_of day y ≡ Some a → a < length old → has new a ≡ true

-- besides, each account on which there is a move is touched
pub record TouchesMoves (moves : List Move) (old new : List Bool) : Type 0 where
  pub grows : Grows old new
  pub told : (a : ℕ) → a < length old → moves_on a moves ≡ true → has new a ≡ true

-- what is kept of the item of a number is that of the lines K
pub record IsRight (day : Day) (K : History) (v : Ready) (i : ℕ) : Type 0 where
  pub alone : has v.alone i ≡ by_itself_at day K i
  pub amount : (n : ℕ) → 1 ≤ n → n ≤ length day.messages → item_of day i ≡ item n 0 → is_normal_pay day n ≡ true → IsAmount day K v.normals n

-- these items are right afterwards, and the accounts on which they stand are touched; all items that were right still are
pub record Renews (day : Day) (K : History) (which : ℕ → Type 0) (old new : Ready) : Type 0 where
  pub fits : Fits day new
  pub found : new.found ≡ old.found
  pub at : new.at ≡ old.at
  pub grows : Grows old.touched new.touched
  pub keeps : (i : ℕ) → i < item_count day → IsRight day K old i → IsRight day K new i
  pub right : (i : ℕ) → i < item_count day → which i → IsRight day K new i
  pub told : (i : ℕ) → i < item_count day → which i → Touches day (item_of day i) old.touched new.touched

-- the amount of the item of number i is right afterwards, where it is a normal payment; all that were right still are
pub record PutsNormal (day : Day) (K : History) (i : ℕ) (old new : Normals) : Type 0 where
  pub have : HavePayments day (length day.messages) new
  pub right : (n : ℕ) → 1 ≤ n → n ≤ length day.messages → item_of day i ≡ item n 0 → is_normal_pay day n ≡ true → IsAmount day K new n
  pub keeps : (n : ℕ) → 1 ≤ n → n ≤ length day.messages → is_normal_pay day n ≡ true → IsAmount day K old n → IsAmount day K new n
