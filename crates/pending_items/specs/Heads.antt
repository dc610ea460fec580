-- The blocker of an item by the heads of the urgent and the high rows on an account.
use Rattle.std.specs.Prelude.{◌≡◌, ℕ, true, false, Option, Some, None, option_map, if◌then◌else◌}
use Rattle.std.specs.Option.{option_or}
use Rattle.batch_records.specs.DayRecord.{Day}
use Rattle.commit_journal.specs.Line.{History}
use Rattle.machine.specs.declared.answers.Item.{Item}
use Rattle.machine.specs.Records.Messages.{sort_of}
use Rattle.machine.specs.Stages.Pending.{Standing, is_ahead, is_blocked, is_normal, is_pending, priority_as, standing, stands_on}
use Rattle.pending_items.specs.declared.standing.ItemStanding.{ItemStanding}
use Rattle.pending_items.specs.Parts.{whole}

-- a standing, as the code has it
abbrev pub seen : ItemStanding → Standing
seen s = record { priority = s.priority; active = s.active; intake = s.intake; entry = s.entry }

abbrev pub ahead_of_it : Day → History → Standing → Item → Option Item
ahead_of_it day J t y = if is_ahead (standing day J y) t then Some y else None

-- the item of a head, where it stands ahead of t
abbrev pub ahead_by : Day → History → Standing → Option Item → Option Item
ahead_by day J t None = None
ahead_by day J t (Some x) = ahead_of_it day J t (whole day x)

-- the urgent one where it is ahead, else the high one where it is
abbrev pub blocker_by : Day → History → Item → Option Item → Option Item → Option Item
blocker_by day J x urgent high = option_or (ahead_by day J (standing day J x) urgent) (ahead_by day J (standing day J x) high)

-- ---- the head of an account

-- the item of the urgent head, else that of the high one
abbrev pub head_by : Day → Option Item → Option Item → Option Item
head_by day None high = option_map (whole day) high
head_by day (Some x) high = Some (whole day x)

-- x is pending on the account, and stands before others; nothing stands before it
pub record IsHeadOf (day : Day) (J : History) (a : ℕ) (x : Item) : Type 0 where
  pub pending : is_pending day J x ≡ true
  pub on : stands_on day a x ≡ true
  pub before_others : is_normal (priority_as (sort_of day x.msg) day x.msg) ≡ false
  pub free : is_blocked day J x a ≡ false

-- the item at the head of the account; none where no item that is pending there stands before others
abbrev pub IsHeadOn : Day → History → ℕ → Option Item → Type 0
IsHeadOn day J a None = (y : Item) → is_pending day J y ≡ true → stands_on day a y ≡ true → is_normal (priority_as (sort_of day y.msg) day y.msg) ≡ true
IsHeadOn day J a (Some x) = IsHeadOf day J a x
