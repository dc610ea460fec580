-- Flags of items brought up to date.
use Rattle.std.specs.Prelude.{◌≡◌, ℕ, ◌<◌, ◌≤◌, Bool, true, List, length, slice_set}
use Rattle.batch_records.specs.DayRecord.{Day}
use Rattle.commit_journal.specs.Line.{History}
use Rattle.number_set.specs.Members.{has}
use Rattle.scan_laws.specs.Numbers.{item_count, item_of}
use Rattle.day_facts.specs.Facts.{Facts, StandsFor}
use Rattle.due_items.specs.Due.{due_at}
use Rattle.due_items.specs.Index.{Index, IsIndexOf}
use Rattle.due_items.specs.declared.chain.Key.{Key}
use Rattle.due_items.specs.Chains.{has_key}

-- by number: whether the item is due, and whether it was brought up to date since somebody asked
pub record Flags : Type 0 where
  pub due : List Bool
  pub renewed : List Bool
  -- for how many more items there is room
  pub room : ℕ

-- whether item i is due, which is brought up to date by this
abbrev pub put_at : ℕ → Bool → Flags → Flags
put_at i due flags = record flags { due = slice_set flags.due i due; renewed = slice_set flags.renewed i true }

-- there is room for the items of the day
pub record HaveRoom (day : Day) (flags : Flags) : Type 0 where
  pub due : length flags.due ≡ item_count day
  pub renewed : length flags.renewed ≡ item_count day

-- over K the flags of these items are right, and one that was right still is. These items are among those that were brought up to date,
-- and so are all that were before
pub record Renews (day : Day) (K : History) (which : ℕ → ℕ → Type 0) (old new : Flags) : Type 0 where
  pub room : HaveRoom day new
  pub keeps : (i : ℕ) → has old.due i ≡ due_at day K i → has new.due i ≡ due_at day K i
  pub renewed : (i : ℕ) → i < item_count day → which (item_of day i).msg (item_of day i).entry → has new.due i ≡ due_at day K i
  pub spare : new.room ≡ old.room
  pub still_told : (i : ℕ) → has old.renewed i ≡ true → has new.renewed i ≡ true
  pub told : (i : ℕ) → i < item_count day → which (item_of day i).msg (item_of day i).entry → has new.renewed i ≡ true

-- item (n, k) alone
abbrev pub IsThis : ℕ → ℕ → ℕ → ℕ → Type 0
IsThis n k m j = (m ≡ n) × (j ≡ k)

-- the items of message n
abbrev pub IsOf : ℕ → ℕ → ℕ → Type 0
IsOf n m j = m ≡ n

-- those of them below k
abbrev pub IsOfBelow : ℕ → ℕ → ℕ → ℕ → Type 0
IsOfBelow n k m j = (m ≡ n) × (j < k)

-- the items of the messages below n
abbrev pub IsBelow : ℕ → ℕ → ℕ → Type 0
IsBelow n m j = m < n

-- the items of the messages of an end from above a place up to b
pub record IsDownTo (key : Key) (day : Day) (t b above m j : ℕ) : Type 0 where
  pub keyed : has_key key day t m ≡ true
  pub beyond : above < m
  pub within : m ≤ b

-- ---- by the facts of any lines and the index of the day

abbrev pub RenewsBy : Day → Facts → Index → (History → ℕ → ℕ → Type 0) → Flags → Flags → Type 0
RenewsBy day facts index which old new = (K : History) → StandsFor day K facts → IsIndexOf day index → HaveRoom day old → Renews day K (which K) old new
