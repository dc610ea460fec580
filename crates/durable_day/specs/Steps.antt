-- What a step of a store does, and what a crash within it may leave.
use Rattle.std.specs.Prelude.{◌≡◌, ◌⊎◌, ℕ, Bool, true, false, List, ◌∷◌, length, Some, Result, Ok, Err}
use Rattle.std.specs.Option.{option_map_or}
use Rattle.outside_io.specs.Causes.{one_more}
use Rattle.batch_records.specs.DayRecord.{Day}
use Rattle.commit_journal.specs.declared.line.Want.{Want}
use Rattle.commit_journal.specs.declared.line.Want.TheVariants as wants
use Rattle.commit_journal.specs.Line.{Line, History}
use Rattle.machine.specs.declared.answers.Why.{Why}
use Rattle.machine.specs.Making.Lines.{line_of}
use Rattle.machine.specs.Making.Reasons.{why_of}
use Rattle.durable_day.specs.declared.step.StoreStep.{StoreStep}
use Rattle.durable_day.specs.declared.step.StoreStep.TheVariants as store_steps
use Rattle.durable_day.specs.Appending.{newest_bytes}
use Rattle.durable_day.specs.Bytes.{StandsFor}
use Rattle.durable_day.specs.Stores.{OnStore, IsStore}

-- the journal as it was, or with the line of the want
abbrev pub StandsWithOrWithout : Day → History → Want → List ℕ → Type 0
StandsWithOrWithout day J want bytes = StandsFor J bytes ⊎ ((l : Line) × (line_of day J want ≡ Some l) × StandsFor (l ∷ J) bytes)

-- the line of the want moves the clock, or ends the day
abbrev pub moves_on : Want → Bool
moves_on wants.Time = true
moves_on wants.End = true
moves_on _ = false

-- how many bytes a step writes at most
abbrev pub step_bytes : Day → History → Want → ℕ
step_bytes day J want = option_map_or (λ (l : Line). newest_bytes (l ∷ J)) (line_of day J want) 0

-- the want's line is the newest, at this place; or this is the first reason why the want has none, and the lines are as before
abbrev pub HasAnswered : Day → History → History → Want → Result ℕ Why → Type 0
HasAnswered day J K want (Ok place) = (l : Line) × (line_of day J want ≡ Some l) × (K ≡ l ∷ J) × (place ≡ length K)
HasAnswered day J K want (Err why) = (why_of day J want ≡ Some why) × (K ≡ J)

-- a step that made a line comes back with the store, or with the disk of which a call failed
abbrev pub made_or_fault : {D : Type 0} → Result (OnStore D) D → ℕ → StoreStep D
made_or_fault (Ok store) place = store_steps.Made store place
made_or_fault (Err disk) place = store_steps.Fault disk

-- the disk that comes back
abbrev pub disk_after : {D : Type 0} → StoreStep D → D
disk_after (store_steps.Made store place) = store.disk
disk_after (store_steps.Not store why) = store.disk
disk_after (store_steps.Fault disk) = disk

-- The want's line is the newest, stands on the disk whatever a crash leaves, and has this place. Or this is the first reason why
-- the want has no line, and nothing changed. Or it has one, and a call of the disk failed, the last and the only one.
abbrev pub IsStep : {D : Type 0} → (D → List ℕ) → (D → List ℕ → Type 0) → (D → ℕ) → OnStore D → Want → StoreStep D → Type 0
IsStep seen image count store want (store_steps.Made later place) =
    (l : Line) × (line_of store.day store.history want ≡ Some l) × (later.history ≡ l ∷ store.history) × (later.day ≡ store.day)
    × (place ≡ length later.history) × IsStore seen image later × (count later.disk ≡ count store.disk)
IsStep seen image count store want (store_steps.Not later why) =
    (why_of store.day store.history want ≡ Some why) × (later ≡ store) × IsStore seen image later
IsStep seen image count store want (store_steps.Fault later) = ((l : Line) × (line_of store.day store.history want ≡ Some l)) × (count later ≡ one_more (count store.disk))
