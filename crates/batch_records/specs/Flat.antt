-- How messages are kept: each message's own record, and its entries apart from it.
use Rattle.std.specs.Prelude.{ℕ, ◌≡◌, Bool, true, false, List, [], ◌∷◌}
use Rattle.batch_records.specs.declared.day.Body.{Body}
use Rattle.batch_records.specs.declared.day.Body.TheVariants as bodies
use Rattle.batch_records.specs.declared.day.Entry.{Entry}
use Rattle.batch_records.specs.declared.day.Message.{Message}
use Rattle.batch_records.specs.declared.day.MessageRecord.{MessageRecord}
use Rattle.batch_records.specs.declared.day.RecordBody.{RecordBody}
use Rattle.batch_records.specs.declared.day.RecordBody.TheVariants as records

-- what a message asks for by its own record, a batch with these entries after it
abbrev pub body_with_entries : RecordBody → List Entry → Body
body_with_entries (records.Batch procedure info from till count sum) entries = bodies.Batch procedure info from till count sum entries
body_with_entries (records.Pay high debit credit amount) entries = bodies.Pay high debit credit amount
body_with_entries (records.Liquidity debit credit amount) entries = bodies.Liquidity debit credit amount
body_with_entries (records.Object system batch) entries = bodies.Object system batch
body_with_entries (records.Confirm batch answer) entries = bodies.Confirm batch answer
body_with_entries (records.Cycle start) entries = bodies.Cycle start

-- the message of a record, a batch with these entries after it
abbrev pub with_entries : MessageRecord → List Entry → Message
with_entries r entries = record { round = r.round; sender = r.sender; id = r.id; body = body_with_entries r.body entries }

-- what a message states by its own record
abbrev pub own_body : Body → RecordBody
own_body (bodies.Batch procedure info from till count sum entries) = records.Batch procedure info from till count sum
own_body (bodies.Pay high debit credit amount) = records.Pay high debit credit amount
own_body (bodies.Liquidity debit credit amount) = records.Liquidity debit credit amount
own_body (bodies.Object system batch) = records.Object system batch
own_body (bodies.Confirm batch answer) = records.Confirm batch answer
own_body (bodies.Cycle start) = records.Cycle start

abbrev pub without_entries : Message → MessageRecord
without_entries m = record { round = m.round; sender = m.sender; id = m.id; body = own_body m.body }

-- whether a record is a batch's
abbrev pub has_entries : RecordBody → Bool
has_entries (records.Batch procedure info from till count sum) = true
has_entries _ = false

-- messages, of which row i has the entries of record i
unfoldable pub joined : List MessageRecord → List (List Entry) → List Message
joined [] rows = []
joined (r ∷ rs) [] = with_entries r [] ∷ joined rs []
joined (r ∷ rs) (row ∷ rows) = with_entries r row ∷ joined rs rows

-- only a batch has entries
abbrev pub FitsRow : RecordBody → List Entry → Type 0
FitsRow (records.Batch procedure info from till count sum) row = Unit {0}
FitsRow _ row = row ≡ []

-- there is a row for each record
unfoldable pub HaveRows : List MessageRecord → List (List Entry) → Type 0
HaveRows [] [] = Unit {0}
HaveRows [] (row ∷ rows) = ⊥
HaveRows (r ∷ rs) [] = ⊥
HaveRows (r ∷ rs) (row ∷ rows) = FitsRow r.body row × HaveRows rs rows
