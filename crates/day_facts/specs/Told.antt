-- What messages that objected to a batch, or confirmed it, say of it.
use Rattle.std.specs.Prelude.{ℕ, suc, ◌+◌, Bool, ◌&&◌, List, [], ◌∷◌, Option, Some, None, map, length, if◌then◌else◌}
use Rattle.std.specs.List.{range_with_len}
use Rattle.std.specs.Option.{option_or, option_map_or}
use Rattle.batch_records.specs.DayRecord.{Day}
use Rattle.batch_records.specs.declared.day.Body.{Body}
use Rattle.batch_records.specs.declared.day.Body.TheVariants as bodies
use Rattle.batch_records.specs.declared.day.Message.{Message}
use Rattle.commit_journal.specs.declared.line.Head.{Head}
use Rattle.commit_journal.specs.Line.{History}
use Rattle.machine.specs.Words.{when, numbered, some_passes}
use Rattle.machine.specs.Records.Messages.{Sort, BatchA, BatchB, BatchE, entries, entry_at, message_at, message_numbers, sort_of}
use Rattle.machine.specs.Telling.History.{is_in, is_ok}
use Rattle.machine.specs.Telling.Facts.{answer, answered, is_party, revoked}
pub use Rattle.rule_book.specs.BatchNames.{named}
use Rattle.day_facts.specs.declared.told.Told.{Told}
use Rattle.day_facts.specs.Lists.{changed, placed}
use Rattle.day_facts.specs.Rows.{place_at}

-- ---- the batch that a message names

abbrev pub aim_in : Day → List ℕ → Body → Option ℕ
aim_in day from (bodies.Object system id) = named day system id
aim_in day from (bodies.Confirm id reply) = named day from id
aim_in day from _ = None

abbrev pub aim_of_message : Day → Option Message → Option ℕ
aim_of_message day None = None
aim_of_message day (Some m) = aim_in day m.sender m.body

abbrev pub aim_of : Day → ℕ → Option ℕ
aim_of day n = aim_of_message day (message_at day n)

-- ---- over a history

-- of a batch of E each item is revoked by itself; of any other message there is one place
abbrev pub parts_of : Sort → Day → ℕ → ℕ
parts_of BatchE day n = suc (length (entries day n))
parts_of _ day n = 1

unfoldable pub told_of : Day → History → ℕ → Told
told_of day J n = record {
  answered = answered day J n;
  answer = answer day J n;
}

abbrev pub tolds_of : Day → History → List Told
tolds_of day J = map (told_of day J) (message_numbers day)

-- the places of the objections that revoked the parts of message n
abbrev pub revoked_row : Day → History → ℕ → List (Option ℕ)
revoked_row day J n = map (revoked day J n) (range_with_len 0 (parts_of (sort_of day n) day n))

abbrev pub revoked_rows : Day → History → List (List (Option ℕ))
revoked_rows day J = map (revoked_row day J) (message_numbers day)

-- ---- after one more accepted message that names the batch

-- the items count on from k; those that pass have this place, unless they have one
unfoldable pub revoked_with : (ℕ → Bool) → ℕ → ℕ → List (Option ℕ) → List (Option ℕ)
revoked_with test place k [] = []
revoked_with test place k (found ∷ more) = option_or found (when (test k) place) ∷ revoked_with test place (k + 1) more

-- an objection of this bank revokes a batch of A or B whole, and of E the entries of which it is a party
abbrev pub is_party_at : Day → ℕ → List ℕ → ℕ → Bool
is_party_at day n bank k = some_passes (is_party day bank) (entry_at day n k)

abbrev pub revoked_as : Sort → Day → ℕ → List ℕ → ℕ → List (Option ℕ) → List (Option ℕ)
revoked_as BatchA day n bank place places = placed 0 place places
revoked_as BatchB day n bank place places = placed 0 place places
revoked_as BatchE day n bank place places = revoked_with (is_party_at day n bank) place 0 places
revoked_as _ day n bank place places = places

abbrev pub ruled : ℕ → Body → Told → Told
ruled place (bodies.Confirm id reply) told = record told { answered = option_or told.answered (Some place); answer = option_or told.answer (Some reply) }
ruled place _ told = told

-- a rule changes what a table has of the batch that an accepted message names
abbrev pub ruled_by : {X : Type 0} → (ℕ → List ℕ → Body → X → X) → ℕ → Option Message → List X → List X
ruled_by rule b None xs = xs
ruled_by rule b (Some m) xs = changed b (rule b m.sender m.body) xs

abbrev pub ruled_on : {X : Type 0} → (ℕ → List ℕ → Body → X → X) → Option ℕ → Option Message → List X → List X
ruled_on rule None message xs = xs
ruled_on rule (Some b) message xs = ruled_by rule b message xs

-- the line of this head accepts a message
abbrev pub is_taken_well : Head → Bool
is_taken_well head = is_in head.kind && is_ok head.code

abbrev pub revoked_rule : Day → ℕ → ℕ → List ℕ → Body → List (Option ℕ) → List (Option ℕ)
revoked_rule day place b from (bodies.Object system id) row = revoked_as (sort_of day b) day b from place row
revoked_rule day place b from _ row = row

abbrev pub rows_objected : Sort → Day → ℕ → List ℕ → ℕ → List (List (Option ℕ)) → List (List (Option ℕ))
rows_objected BatchA day n bank place rows = changed n (placed 0 place) rows
rows_objected BatchB day n bank place rows = changed n (placed 0 place) rows
rows_objected BatchE day n bank place rows = changed n (revoked_with (is_party_at day n bank) place 0) rows
rows_objected _ day n bank place rows = rows

abbrev pub places_revoked : Day → ℕ → ℕ → List ℕ → Body → List (List (Option ℕ)) → List (List (Option ℕ))
places_revoked day place b from (bodies.Object system id) rows = rows_objected (sort_of day b) day b from place rows
places_revoked day place b from _ rows = rows

-- the batch that a message names, where the line of this head accepts it
abbrev pub line_aim : Day → Head → Option ℕ
line_aim day head = if is_taken_well head then aim_of day head.msg else None

-- by a line on the batch, where there is one
abbrev pub revoked_after : Day → Option ℕ → ℕ → Head → List (List (Option ℕ)) → List (List (Option ℕ))
revoked_after day aim place head rows = ruled_on (revoked_rule day place) aim (message_at day head.msg) rows

abbrev pub told_rule : ℕ → ℕ → List ℕ → Body → Told → Told
told_rule place b from body told = ruled place body told

abbrev pub told_with : Day → Option ℕ → ℕ → Head → List Told → List Told
told_with day aim place head tolds = ruled_on (told_rule place) aim (message_at day head.msg) tolds

-- ---- of batch n

abbrev pub answered_in : List Told → ℕ → Option ℕ
answered_in tolds n = option_map_or (λ told. told.answered) (numbered tolds n) None

abbrev pub kept_answer : List Told → ℕ → Option Bool
kept_answer tolds n = option_map_or (λ told. told.answer) (numbered tolds n) None

-- an objection to a batch of A or B revokes it whole
abbrev pub item_for : Sort → ℕ → ℕ
item_for BatchA k = 0
item_for BatchB k = 0
item_for _ k = k

abbrev pub revoked_in : Day → List (List (Option ℕ)) → ℕ → ℕ → Option ℕ
revoked_in day rows n k = place_at rows n (item_for (sort_of day n) k)
