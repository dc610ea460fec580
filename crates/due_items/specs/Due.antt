-- Which items are due: the pending ones, and item 0 of a message whose phase asks for a line. Whether something stands before an item, or its
-- account holds too little, doesn't matter here.
use Rattle.std.specs.Prelude.{◌≡◌, ℕ, Bool, true, false, ◌&&◌, ◌||◌, Option, None, Some, is_some, nat_eq, nat_le, nat_lt}
use Rattle.batch_records.specs.DayRecord.{Day}
use Rattle.commit_journal.specs.Line.{History}
use Rattle.machine.specs.declared.answers.Item.{Item}
use Rattle.machine.specs.Orders.Hints.{hint_of}
use Rattle.machine.specs.Stages.Pending.{item}
use Rattle.scan_laws.specs.Numbers.{IsItem, is_earlier, item_of}

-- a worker looks at the item: it has a want, whether or not the want has a line
abbrev pub is_due : Day → History → Item → Bool
is_due day J x = is_some (hint_of day J x)

-- the same by the number of the item
abbrev pub due_at : Day → History → ℕ → Bool
due_at day J i = is_due day J (item_of day i)

-- (n, k) doesn't stand before the item from: by message, then by entry
abbrev pub is_from : Item → ℕ → ℕ → Bool
is_from from n k = nat_lt from.msg n || nat_eq from.msg n && nat_le from.entry k

-- x is the first item of the day that is due and doesn't stand before the item from
pub record IsLeastDue (day : Day) (J : History) (from x : Item) : Type 0 where
  pub is_item : IsItem day x.msg x.entry
  pub behind : is_from from x.msg x.entry ≡ true
  pub due : is_due day J x ≡ true
  pub none_before : (n k : ℕ) → IsItem day n k → is_from from n k ≡ true → is_earlier n k x.msg x.entry ≡ true → is_due day J (item n k) ≡ false

-- the first one; none exactly where there is none
abbrev pub IsFirstDue : Day → History → Item → Option Item → Type 0
IsFirstDue day J from None = (n k : ℕ) → IsItem day n k → is_from from n k ≡ true → is_due day J (item n k) ≡ false
IsFirstDue day J from (Some x) = IsLeastDue day J from x
