-- What a view keeps, and which lines it stands for.
use Rattle.std.specs.Prelude.{ℕ, ◌≡◌, ◌<◌, ◌≤◌, ◌*◌, ◌^◌, true, List}
use Rattle.cash_amounts.specs.declared.limits.TheConstants.{MAX_ACCOUNTS}
use Rattle.batch_records.specs.DayRecord.{Day}
use Rattle.batch_records.specs.Sound.{is_sound}
use Rattle.commit_journal.specs.Line.{History}
use Rattle.machine.specs.Orders.Bounds.{move_limit}
use Rattle.number_set.specs.Members.{has}
use Rattle.scan_laws.specs.Numbers.{item_count}
-- `as`: a StandsFor of this file stands below
use Rattle.day_facts.specs.Facts.{Facts, StandsFor as FactsStand}
use Rattle.due_items.specs.Kept.{Due, KeepsDue}
use Rattle.liquidity_view.specs.declared.sides.Side.TheVariants as sides
use Rattle.liquidity_view.specs.Counted.{AddsUp, Counted, pending_at}
use Rattle.liquidity_view.specs.Figures.{begun_with, settled}

-- what the lines tell of the day, the items that they make due, and those that are pending with the sums over them
pub record OnQueue : Type 0 where
  pub facts : Facts
  pub due : Due
  pub counted : Counted

-- these are those of this name over these lines, which are legal for the day
pub record QueueStands (day : Day) (name : List ℕ) (J : History) (queue : OnQueue) : Type 0 where
  pub facts : FactsStand day J queue.facts
  pub due : KeepsDue day J queue.due
  pub sums : AddsUp day name queue.counted
  pub exact : (i : ℕ) → i < item_count day → has queue.counted.set i ≡ pending_at day J i

-- the name, its queue, what its accounts began with, what left them and what came to them
pub record OnView : Type 0 where
  pub name : List ℕ
  pub queue : OnQueue
  pub begun : ℕ
  pub out : ℕ
  pub into : ℕ

-- the day is sound, the lines are legal for it, and the view's sums are those over these lines
pub record StandsFor (day : Day) (J : History) (view : OnView) : Type 0 where
  pub sound : is_sound day ≡ true
  pub queue : QueueStands day view.name J view.queue
  pub begun : view.begun ≡ begun_with day view.name
  pub out : view.out ≡ settled sides.Out day view.name J
  pub into : view.into ≡ settled sides.In day view.name J

-- ---- how great the sums can be

abbrev pub most_begun : ℕ
most_begun = 10 ^ 18 * MAX_ACCOUNTS

abbrev pub most_settled : ℕ
most_settled = 10 ^ 18 * move_limit

pub record AreSmall (began left came : ℕ) : Type 0 where
  pub few_began : began ≤ most_begun
  pub few_left : left ≤ most_settled
  pub few_came : came ≤ most_settled
