-- What workers hand on to each other: how far the journal was seen, and which messages are taken in it.
use Rattle.std.specs.Prelude.{◌≡◌, ℕ, ◌+◌, ◌<◌, ◌≤◌, true, get_or, length, IsSome, IfSome}
use Rattle.batch_records.specs.DayRecord.{Day}
use Rattle.batch_records.specs.Sound.{is_sound}
use Rattle.commit_journal.specs.declared.line.Want.{Want}
use Rattle.commit_journal.specs.Line.{History}
use Rattle.commit_journal.specs.Histories.{Begins}
use Rattle.machine.specs.declared.answers.Item.{Item}
use Rattle.machine.specs.Words.{same_name}
use Rattle.machine.specs.Records.Messages.{entries, round_of, sender}
use Rattle.machine.specs.Telling.History.{taken}
use Rattle.machine.specs.Telling.Facts
use Rattle.machine.specs.Stages.Pending.{item}
use Rattle.machine.specs.Orders.Hints.{hint_of}
use Rattle.lock_book.specs.declared.counted.Stepped.{Stepped}
use Rattle.lock_book.specs.Steps.{Tells}
use Rattle.lane_workers.specs.Senders.{lane_of}
use Rattle.lane_workers.specs.Stints.{stint}

-- P is a beginning of K, and of no later round
pub record GoesOn (day : Day) (P K : History) : Type 0 where
  pub begins : Begins P K
  pub rounds : Facts.round day P ≤ Facts.round day K

-- the round is one of the day, and reached
pub record IsReached (day : Day) (round : ℕ) (J : History) : Type 0 where
  pub within : round ≤ length day.stops
  pub reached : round ≤ Facts.round day J

-- each message of the rounds below this one is taken
abbrev pub AreTakenBelow : Day → ℕ → History → Type 0
AreTakenBelow day round J = (n : ℕ) → 0 < n → n ≤ length day.messages → round_of day n < round → IsSome (taken J n)

-- the round is reached, and each message of the rounds before it is taken
pub record HasBegun (day : Day) (round : ℕ) (J : History) : Type 0 where
  pub round_is : IsReached day round J
  pub before : AreTakenBelow day round J

-- message n is one of the day, of a round that is reached, and its sender's earlier messages are taken
pub record IsNextOfSender (day : Day) (J : History) (n : ℕ) : Type 0 where
  pub sound : is_sound day ≡ true
  pub first : 0 < n
  pub last : n ≤ length day.messages
  pub reached : round_of day n ≤ Facts.round day J
  pub earlier : (i : ℕ) → 0 < i → i < n → same_name (sender day i) (sender day n) ≡ true → IsSome (taken J i)

-- each message of this round is taken whose lane is one of these, from the first on and below the end
abbrev pub AreLanesTaken : Day → ℕ → ℕ → ℕ → ℕ → History → Type 0
AreLanesTaken day workers round from end J = (n : ℕ) → 0 < n → n ≤ length day.messages → round_of day n ≡ round →
    from ≤ lane_of day workers n → lane_of day workers n < end → IsSome (taken J n)

-- the first messages of a stint are taken, so many
abbrev pub AreFirstTaken : Day → ℕ → ℕ → ℕ → ℕ → History → Type 0
AreFirstTaken day workers round lane count J = (k : ℕ) → k < count → IsSome (taken J (get_or (stint day workers round lane) k 0))

-- between J and K a step of the want told what came of it
pub record IsStepped (day : Day) (want : Want) (J K : History) : Type 0 where
  pub seen : History
  pub answer : Stepped
  pub tells : Tells day want J seen answer
  pub after : Begins J seen
  pub before : Begins seen K

-- The item had a chance between P and K: at a moment the floor named no want for it, or it named one, which was then stepped.
pub record HadChance (day : Day) (P K : History) (x : Item) : Type 0 where
  pub moment : History
  pub after : Begins P moment
  pub before : Begins moment K
  pub stepped : IfSome (hint_of day moment x) (λ want. IsStepped day want moment K)

-- each item had one of the messages of a stint from a place on and below the end
abbrev pub HadChances : Day → ℕ → ℕ → ℕ → ℕ → ℕ → History → History → Type 0
HadChances day workers round lane place end P K = (i : ℕ) → place ≤ i → i < end → (k : ℕ) → k ≤ length (entries day (get_or (stint day workers round lane) i 0)) →
    HadChance day P K (item (get_or (stint day workers round lane) i 0) k)

-- each item had one whose message is of this round and lane
abbrev pub HadLanesChance : Day → ℕ → ℕ → ℕ → History → History → Type 0
HadLanesChance day workers round lane P K = (n k : ℕ) → 0 < n → n ≤ length day.messages → round_of day n ≡ round → lane_of day workers n ≡ lane →
    k ≤ length (entries day n) → HadChance day P K (item n k)

-- the item had a chance between P and K, once all messages of its lane in this round were taken
pub record HadTurn (day : Day) (workers round : ℕ) (P K : History) (x : Item) : Type 0 where
  pub moment : History
  pub after : Begins P moment
  pub taken : AreLanesTaken day workers round (lane_of day workers x.msg) (lane_of day workers x.msg + 1) moment
  pub chance : HadChance day moment K x

-- each item had its turn whose message is of this round and of one of these lanes, from the first on and below the end
abbrev pub HadTurns : Day → ℕ → ℕ → ℕ → ℕ → History → History → Type 0
HadTurns day workers round from end P K = (n k : ℕ) → 0 < n → n ≤ length day.messages → round_of day n ≡ round →
    from ≤ lane_of day workers n → lane_of day workers n < end → k ≤ length (entries day n) → HadTurn day workers round P K (item n k)
