-- Which items a line concerns, as the newest one of a history.
use Rattle.std.specs.Prelude.{◌≡◌, ℕ, ◌+◌, ◌<◌, Bool, true, ◌&&◌, List, [], ◌∷◌, Option, Some, None, count_by, nat_eq}
use Rattle.batch_records.specs.DayRecord.{Day}
use Rattle.batch_records.specs.declared.day.Body.{Body}
use Rattle.batch_records.specs.declared.day.Body.TheVariants as bodies
use Rattle.batch_records.specs.declared.day.Message.{Message}
use Rattle.commit_journal.specs.declared.line.Head.{Head}
use Rattle.commit_journal.specs.Line.{History}
use Rattle.machine.specs.declared.answers.Item.{Item}
use Rattle.machine.specs.Records.Messages.{is_a, is_debit, item_numbers, message_at, sort_of}
use Rattle.day_facts.specs.Left.{owes}
use Rattle.day_facts.specs.Told.{aim_of}
pub use Rattle.day_facts.specs.Told.{is_taken_well}
use Rattle.scan_laws.specs.Items.{concerns_item}
use Rattle.number_set.specs.Members.{has}
use Rattle.pending_items.specs.Cycles.{AreBatches, Batches, block}
use Rattle.pending_items.specs.Ends.{AreEnds}
use Rattle.pending_items.specs.Parts.{whole}

-- the newest line has this head, and concerns the item that the row is of
abbrev pub IsMet : Day → Head → History → Item → Type 0
IsMet day head [] x = ⊥
IsMet day head (l ∷ J) x = (l.head ≡ head) × (concerns_item day J l x.msg (whole day x).entry ≡ true)

-- the same, where the ends and the batches of C are those of the lines before it
abbrev pub IsMetBy : Day → Head → List (Option ℕ) → Batches → History → Item → Type 0
IsMetBy day head ends batches [] x = ⊥
IsMetBy day head ends batches (l ∷ J) x =
    (l.head ≡ head) × (concerns_item day J l x.msg (whole day x).entry ≡ true) × AreEnds day J ends × AreBatches day J batches

-- a debit of the batch of A was booked, and none is left
abbrev pub frees : Day → Head → History → Bool
frees day head J = is_a (sort_of day head.msg) && is_debit day head.msg head.entry && nat_eq (count_by (owes day J head.msg) (item_numbers day head.msg)) 0

-- message m names batch n
abbrev pub IsNamed : Day → ℕ → ℕ → Type 0
IsNamed day m n = aim_of day m ≡ Some n

-- message m, once it is accepted, may concern n beside itself: the batch that it answers on, or the batches of its system
abbrev pub tells : Day → Batches → ℕ → ℕ → Body → Type 0
tells day batches m n (bodies.Confirm batch answer) = IsNamed day m n
tells day batches m n (bodies.Cycle start) = (n < batches.size) × (has batches.set (block batches.size day m + n) ≡ true)
tells day batches m n _ = ⊥

abbrev pub tells_by : Day → Batches → ℕ → ℕ → Option Message → Type 0
tells_by day batches m n None = ⊥
tells_by day batches m n (Some message) = tells day batches m n message.body

abbrev pub IsTold : Day → Batches → ℕ → ℕ → Type 0
IsTold day batches m n = tells_by day batches m n (message_at day m)
