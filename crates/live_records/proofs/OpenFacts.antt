-- How the entries of a batch come to a day, one by one.
use Rattle.std.proofs.Common.{◌≡◌, ◌∙◌, ◌<◌, ◌≤◌, ◌+◌, ℕ, true, List, [], ◌∷◌, ◌++◌, length, take, get_or, refl, sym, ap, subst, arith, length-append}
use Rattle.std.proofs.lemmas.List.{take_all, take_more}
use Rattle.std.proofs.lemmas.List.Sums.{sum_by-cons}
use Rattle.batch_records.specs.DayRecord.{Day, Room}
use Rattle.batch_records.specs.Flat.{FitsRow, body_with_entries, has_entries, with_entries}
use Rattle.batch_records.specs.Growing.{entries_of, with_last_entry}
use Rattle.batch_records.specs.Sound.{entries_in}
use Rattle.batch_records.specs.Step.{body_with, with_entry, with_last}
use Rattle.batch_records.specs.declared.day.Body.{Body}
use Rattle.batch_records.specs.declared.day.Body.TheVariants as bodies
use Rattle.batch_records.specs.declared.day.Entry.{Entry}
use Rattle.batch_records.specs.declared.day.Message.{Message}
use Rattle.batch_records.specs.declared.day.MessageRecord.{MessageRecord}
use Rattle.batch_records.specs.declared.day.RecordBody.{RecordBody}
use Rattle.batch_records.specs.declared.day.RecordBody.TheVariants as records
use Rattle.batch_records.proofs.LastFacts.{with_last-split}

one_more : (e : Entry) (r : RecordBody) (row : List Entry) → has_entries r ≡ true → body_with_entries r (row ++ e ∷ []) ≡ body_with e (body_with_entries r row)
one_more e (records.Batch procedure info from till count sum) row b = refl
one_more e (records.Pay high debit credit amount) row b = cc
one_more e (records.Liquidity debit credit amount) row b = cc
one_more e (records.Object system batch) row b = cc
one_more e (records.Confirm batch answer) row b = cc
one_more e (records.Cycle start) row b = cc

same_message : (r : MessageRecord) (row : List Entry) (b : Body) → body_with_entries r.body row ≡ b → with_entries r row ≡ record { round = r.round; sender = r.sender; id = r.id; body = b }
same_message r row b e = λ i. record { round = r.round; sender = r.sender; id = r.id; body = e i }

message_more : (r : MessageRecord) (es : List Entry) (e : Entry) → has_entries r.body ≡ true → with_entries r (es ++ e ∷ []) ≡ with_entry e (with_entries r es)
message_more r es e b = same_message r (es ++ e ∷ []) (body_with e (body_with_entries r.body es)) (one_more e r.body es b)

-- so many of them have come to it
pub record IsMoving (old now : Day) (entries : List Entry) (i : ℕ) : Type 0 where
  pub room : now.room ≡ old.room
  pub few : entries_of now.messages ≤ entries_of old.messages + i
  pub shape : (before : List Message) (r : MessageRecord) → old.messages ≡ before ++ with_entries r [] ∷ [] → FitsRow r.body entries
      → now ≡ record old { messages = before ++ with_entries r (take i entries) ∷ [] }

pub none_moved : (day : Day) (entries : List Entry) → IsMoving day day entries 0
none_moved day entries = record { room = refl; few = omega arith; shape = λ before r e h i. record day { messages = e i } }

one_count : (e : Entry) (b : Body) → length (entries_in (body_with e b)) ≤ length (entries_in b) + 1
one_count e (bodies.Batch procedure info from till count sum entries) = omega (arith, length-append entries (e ∷ []))
one_count e (bodies.Pay high debit credit amount) = omega arith
one_count e (bodies.Liquidity debit credit amount) = omega arith
one_count e (bodies.Object system batch) = omega arith
one_count e (bodies.Confirm batch answer) = omega arith
one_count e (bodies.Cycle start) = omega arith

abbrev counted : Message → ℕ
counted m = length (entries_in m.body)

-- the last message has at most one entry more
last_count : (e : Entry) (messages : List Message) → entries_of (with_last (with_entry e) messages) ≤ entries_of messages + 1
unfolding with_last
last_count e [] = omega arith
last_count e (m ∷ []) = omega (arith, sum_by-cons counted (with_entry e m) [], sum_by-cons counted m [], one_count e m.body)
last_count e (m ∷ n ∷ messages) = omega (arith, sum_by-cons counted m (with_last (with_entry e) (n ∷ messages)), sum_by-cons counted m (n ∷ messages), last_count e (n ∷ messages))

some_batch : (r : RecordBody) (entries : List Entry) → FitsRow r entries → 0 < length entries → has_entries r ≡ true
some_batch (records.Batch procedure info from till count sum) entries h l = refl
some_batch (records.Pay high debit credit amount) entries h l = absurd (omega (arith, l, ap length h))
some_batch (records.Liquidity debit credit amount) entries h l = absurd (omega (arith, l, ap length h))
some_batch (records.Object system batch) entries h l = absurd (omega (arith, l, ap length h))
some_batch (records.Confirm batch answer) entries h l = absurd (omega (arith, l, ap length h))
some_batch (records.Cycle start) entries h l = absurd (omega (arith, l, ap length h))

last_more : (before : List Message) (r : MessageRecord) (row : List Entry) (e : Entry) → has_entries r.body ≡ true → with_last (with_entry e) (before ++ with_entries r row ∷ []) ≡ before ++ with_entries r (row ++ e ∷ []) ∷ []
last_more before r row e b = with_last-split (with_entry e) before (with_entries r row) ∙ ap (λ m. before ++ m ∷ []) (sym (message_more r row e b))

pub one_moved : (old now new : Day) (entries : List Entry) (i : ℕ) (e : Entry) → i < length entries → e ≡ get_or entries i e → new ≡ with_last_entry e now → IsMoving old now entries i → IsMoving old new entries (i + 1)
one_moved old now new entries i e l at is h = record {
  room = ap (λ (d : Day). d.room) is ∙ h.room;
  few = omega (arith, last_count e now.messages, h.few, ap (λ (d : Day). entries_of d.messages) is);
  shape = λ before r s fits.
      let more : take (i + 1) entries ≡ take i entries ++ e ∷ [] = take_more entries i e l ∙ ap (λ x. take i entries ++ x ∷ []) (sym at) in
      is
      ∙ ap (with_last_entry e) (h.shape before r s fits)
      ∙ ap (λ ms. record old { messages = ms }) (last_more before r (take i entries) e (some_batch r.body entries fits (omega (arith, l))))
      ∙ ap (λ es. record old { messages = before ++ with_entries r es ∷ [] }) (sym more);
}

-- it is the one at its place, and so is an equal one
pub same_here : (entries : List Entry) (i : ℕ) (e item : Entry) → e ≡ item → item ≡ get_or entries i item → e ≡ get_or entries i e
same_here entries i e item same at = subst (λ x. x ≡ get_or entries i x) (sym same) at

pub within_room : (old now : Day) (entries : List Entry) (i : ℕ) → i < length entries → entries_of old.messages + length entries ≤ old.room.entries → IsMoving old now entries i → entries_of now.messages < now.room.entries
within_room old now entries i l fits h = omega (arith, l, fits, h.few, ap (λ (r : Room). r.entries) h.room)

pub as_all : (old now : Day) (entries : List Entry) (i : ℕ) → length entries ≤ i → IsMoving old now entries i → (before : List Message) (r : MessageRecord) → old.messages ≡ before ++ with_entries r [] ∷ [] → FitsRow r.body entries
    → now ≡ record old { messages = before ++ with_entries r entries ∷ [] }
as_all old now entries i past h before r s fits = h.shape before r s fits ∙ ap (λ es. record old { messages = before ++ with_entries r es ∷ [] }) (take_all i entries past)
