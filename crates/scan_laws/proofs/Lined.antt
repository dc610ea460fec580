-- Which items of the row have a line.
use Rattle.std.proofs.Common.{◌≡◌, ℕ, zero, suc, ◌-◌, ◌<◌, ◌≤◌, length, Bool, true, false, ◌&&◌, not, Option, None, is_some, refl, sym, ap, ◌∙◌, subst, arith, ⊎_elim}
use Rattle.std.specs.Prelude.{if◌then◌else◌}
use Rattle.std.proofs.lemmas.Bool.{and_parts, cases_lt, false_from_ne_true}
use Rattle.batch_records.specs.DayRecord.{Day}
use Rattle.commit_journal.specs.declared.line.Want.TheVariants as wants
use Rattle.commit_journal.specs.Line.{Line, History}
use Rattle.machine.specs.declared.answers.Item.{Item}
use Rattle.machine.specs.declared.answers.Phase.{Phase}
use Rattle.machine.specs.declared.answers.Phase.TheVariants as phases
use Rattle.machine.specs.Records.Messages.{sort_of, is_b}
use Rattle.machine.specs.Telling.History.{is_ended}
use Rattle.machine.specs.Stages.Phases.{phase}
use Rattle.machine.specs.Making.Lines.{line_of, line_if, made, may, may_item, may_ask, may_cover, message_want, item_want, is_ready_item}
use Rattle.machine.specs.Orders.Order.{append, with_line}
use Rattle.machine.specs.Making.Wants.{message_of, entry_of}
use Rattle.settlement_laws.proofs.Wants.ReadyWants.{IsThere, item_there}
use Rattle.settlement_laws.proofs.DayEnd.Stops.{message_is}
use Rattle.scan_laws.specs.Next.{IsNext, Represents}
use Rattle.scan_laws.specs.Numbers.{place_in, items_after, item_count, item_number, item_of, IsItem}
use Rattle.scan_laws.specs.Runs.{line_at, has_line, flat_step, next_ready}
use Rattle.scan_laws.proofs.NextFacts.{next_of-is, next-same, next-seen, none-seen}
use Rattle.scan_laws.proofs.NumberFacts.{place_in-beyond, item-there}

-- what an item wants may be made exactly where the item is ready
message-may : (day : Day) (J : History) (n : ℕ) (p : Phase) → may day J (message_want day J n p) ≡ may_item day J (message_want day J n p)
message-may day J n phases.Overdue = go (may_ask day J n)
  where
    go : (b : Bool) → may day J (if b then wants.Ask n else wants.Expire n) ≡ may_item day J (if b then wants.Ask n else wants.Expire n)
    go true = refl
    go false = refl
message-may day J n phases.Answered = go (may_cover day J n)
  where
    go : (b : Bool) → may day J (if b then wants.Cover n else wants.Refuse n) ≡ may_item day J (if b then wants.Cover n else wants.Refuse n)
    go true = refl
    go false = refl
message-may day J n phases.Asking = refl
message-may day J n _ = go (is_b (sort_of day n))
  where
    go : (b : Bool) → may day J (if b then wants.All n else wants.Book n 0) ≡ may_item day J (if b then wants.All n else wants.Book n 0)
    go true = refl
    go false = refl

item-may : (day : Day) (J : History) (n k : ℕ) → may day J (item_want day J n k) ≡ may_item day J (item_want day J n k)
item-may day J n zero = message-may day J n (phase day J n)
item-may day J n (suc k) = refl

lined : (b : Bool) (l : Line) → is_some (line_if b l) ≡ b
lined true l = refl
lined false l = refl

-- the want of an item has a line exactly where the item is ready and the End line doesn't stand
pub item-ready : (day : Day) (J : History) (n k : ℕ) → is_some (line_of day J (item_want day J n k)) ≡ (not (is_ended J) && is_ready_item day J n k)
unfolding line_of is_ready_item
item-ready day J n k =
    lined (not (is_ended J) && may day J (item_want day J n k)) (made day J (item_want day J n k)) ∙ ap (λ b. not (is_ended J) && b) (item-may day J n k)

pub line-ready : (day : Day) (J : History) (i : ℕ) → has_line day J i ≡ (not (is_ended J) && is_ready_item day J (item_of day i).msg (item_of day i).entry)
unfolding line_at
line-ready day J i = item-ready day J (item_of day i).msg (item_of day i).entry

-- ---- only items of the day

message-of : (day : Day) (J : History) (n : ℕ) (p : Phase) → (message_of (message_want day J n p) ≡ n) × (entry_of (message_want day J n p) ≡ 0)
message-of day J n phases.Overdue = go (may_ask day J n)
  where
    go : (b : Bool) → (message_of (if b then wants.Ask n else wants.Expire n) ≡ n) × (entry_of (if b then wants.Ask n else wants.Expire n) ≡ 0)
    go true = (refl, refl)
    go false = (refl, refl)
message-of day J n phases.Answered = go (may_cover day J n)
  where
    go : (b : Bool) → (message_of (if b then wants.Cover n else wants.Refuse n) ≡ n) × (entry_of (if b then wants.Cover n else wants.Refuse n) ≡ 0)
    go true = (refl, refl)
    go false = (refl, refl)
message-of day J n phases.Asking = (refl, refl)
message-of day J n _ = go (is_b (sort_of day n))
  where
    go : (b : Bool) → (message_of (if b then wants.All n else wants.Book n 0) ≡ n) × (entry_of (if b then wants.All n else wants.Book n 0) ≡ 0)
    go true = (refl, refl)
    go false = (refl, refl)

-- an item's want is of that item
item-of : (day : Day) (J : History) (n k : ℕ) → (message_of (item_want day J n k) ≡ n) × (entry_of (item_want day J n k) ≡ k)
item-of day J n zero = message-of day J n (phase day J n)
item-of day J n (suc k) = (refl, refl)

ready-there : (day : Day) (J : History) (n k : ℕ) → is_ready_item day J n k ≡ true → IsThere day n k
unfolding is_ready_item
ready-there day J n k h =
    let e = item-of day J n k in
    subst (λ j. IsThere day n j) e.1 (subst (λ m. IsThere day m (entry_of (item_want day J n k))) e.0 (item_there day J (item_want day J n k) h))

-- no number from the count on is an item's of the day
beyond : (day : Day) (i : ℕ) → item_count day ≤ i → IsThere day (item_of day i).msg (item_of day i).entry → ⊥
unfolding item_count item_of
beyond day i l there =
    let g = place_in (items_after day) (length day.messages) i in
    let at = message_is day (suc g.0) there.message in
    let n = at.number in
    let w = at.within in
    let k = there.entry in
    ⊎_elim
    (λ (a : length day.messages ≤ g.0). absurd (omega (arith, a, n, w)))
    (λ (b : items_after day g.0 ≤ g.1). absurd (omega (arith, b, k)))
    (place_in-beyond (items_after day) (length day.messages) i l)

pub line-within : (day : Day) (J : History) (i : ℕ) → has_line day J i ≡ true → i < item_count day
line-within day J i h =
    ⊎_elim
    (λ (l : i < item_count day). l)
    (λ (l : item_count day ≤ i). absurd (beyond day i l (ready-there day J (item_of day i).msg (item_of day i).entry (and_parts (not (is_ended J)) _ (sym (line-ready day J i) ∙ h)).1)))
    (cases_lt i (item_count day))

pub line-item : (day : Day) (J : History) (n k : ℕ) → IsItem day n k → line_at day J (item_number day n k) ≡ line_of day J (item_want day J n k)
unfolding line_at
line-item day J n k h = ap (λ (x : Item). line_of day J (item_want day J x.msg x.entry)) (item-there day n k h)

-- its step in the row is the appending of its want
pub step-item : (day : Day) (J : History) (n k : ℕ) → IsItem day n k → flat_step day J (item_number day n k) ≡ append day J (item_want day J n k)
unfolding append
step-item day J n k h = ap (λ o. with_line o J) (line-item day J n k h)

-- ---- the next one

pub next-least : (day : Day) (J : History) (p : ℕ) → IsNext (has_line day J) p (next_ready day J p)
unfolding next_ready
next-least day J p = next_of-is (has_line day J) p (item_count day - p) (λ k low. outside k (omega (arith, low)))
  where
    outside : (k : ℕ) → item_count day ≤ k → has_line day J k ≡ false
    outside k l = false_from_ne_true (has_line day J k) (λ t. let w = line-within day J k t in absurd (omega (arith, l, w)))

pub next-is : (day : Day) (J : History) (p : ℕ) (o : Option ℕ) → IsNext (has_line day J) p o → next_ready day J p ≡ o
next-is day J p o n = next-same (has_line day J) p (next_ready day J p) o (next-least day J p) n

-- where nothing is a member, nothing is next
pub none-by : (day : Day) (J : History) (members : ℕ → Bool) (p q : ℕ) → Represents members (has_line day J) p → ((n : ℕ) → members n ≡ false) → next_ready day J q ≡ None
none-by day J members p q r none = next-is day J q None (λ k low. none-seen members (has_line day J) p r none k)

pub next-by : (day : Day) (J : History) (members : ℕ → Bool) (p : ℕ) (o : Option ℕ) → Represents members (has_line day J) p → IsNext members p o → next_ready day J p ≡ o
next-by day J members p o r n = next-is day J p o (next-seen members (has_line day J) p o r n)
