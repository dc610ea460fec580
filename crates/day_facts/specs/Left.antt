-- What is left to be booked of each message, and the place of the debit that was booked last.
use Rattle.std.specs.Prelude.{ℕ, ◌+◌, Bool, true, false, not, ◌&&◌, ◌||◌, List, [], ◌∷◌, Option, map, slice_set, if◌then◌else◌}
use Rattle.std.specs.Option.{option_map_or}
use Rattle.batch_records.specs.DayRecord.{Day}
use Rattle.batch_records.specs.declared.day.Body.{Body}
use Rattle.batch_records.specs.declared.day.Body.TheVariants as bodies
use Rattle.commit_journal.specs.declared.line.Head.{Head}
use Rattle.commit_journal.specs.Line.{History}
use Rattle.machine.specs.Words.{is_zero, numbered}
use Rattle.machine.specs.Records.Messages.{Sort, Pay, BatchA, BatchC, BatchE, is_credit, is_debit, item_numbers, message_at, message_numbers, sort_of}
use Rattle.machine.specs.Telling.History.{is_book}
use Rattle.machine.specs.Stages.Phases.{is_booked, is_revoked_entry}
use Rattle.machine.specs.Stages.Pending.{last_debit_booked}
use Rattle.day_facts.specs.declared.watched.Watched.{Watched}
use Rattle.day_facts.specs.declared.watched.Watched.TheVariants as watches
use Rattle.day_facts.specs.Lists.{changed}
use Rattle.day_facts.specs.Rows.{flag_at}
use Rattle.day_facts.specs.Told.{is_party_at, ruled_on}

-- ---- items

-- the items that have to be booked before the message is settled
abbrev pub counts : Sort → Day → ℕ → ℕ → Bool
counts Pay day n k = is_zero k
counts BatchA day n k = is_credit day n k
counts BatchC day n k = not (is_zero k)
counts BatchE day n k = not (is_zero k)
counts _ day n k = false

-- of E an objection revokes single entries
abbrev pub is_given_up : Sort → Day → History → ℕ → ℕ → Bool
is_given_up BatchE day J n k = is_revoked_entry day J n k
is_given_up _ day J n k = false

-- the entries that can be revoked
abbrev pub is_single : Sort → ℕ → Bool
is_single BatchE k = not (is_zero k)
is_single _ k = false

abbrev pub owes : Day → History → ℕ → ℕ → Bool
owes day J n k = is_debit day n k && not (is_booked J n k)

-- what these lines book and those revoke
abbrev pub waits : Sort → Day → History → History → ℕ → ℕ → Bool
waits s day J K n k = counts s day n k && not (is_booked J n k || is_given_up s day K n k)

abbrev pub is_kept : Sort → Day → History → ℕ → ℕ → Bool
is_kept s day K n k = is_single s k && not (is_revoked_entry day K n k)

-- ---- over a history

abbrev pub debits_row : Day → History → ℕ → List Bool
debits_row day J n = map (owes day J n) (item_numbers day n)

-- what the lines J book and the lines K revoke
abbrev pub waiting_row : Day → History → History → ℕ → List Bool
waiting_row day J K n = map (waits (sort_of day n) day J K n) (item_numbers day n)

abbrev pub kept_row : Day → History → ℕ → List Bool
kept_row day K n = map (is_kept (sort_of day n) day K n) (item_numbers day n)

abbrev pub debits_rows : Day → History → List (List Bool)
debits_rows day J = map (debits_row day J) (message_numbers day)

abbrev pub waiting_rows : Day → History → List (List Bool)
waiting_rows day J = map (waiting_row day J J) (message_numbers day)

abbrev pub kept_rows : Day → History → List (List Bool)
kept_rows day J = map (kept_row day J) (message_numbers day)

abbrev pub last_debits : Day → History → List ℕ
last_debits day J = map (last_debit_booked day J) (message_numbers day)

-- ---- over no lines

abbrev pub is_watched : Watched → Day → ℕ → ℕ → Bool
is_watched watches.Debits day n k = is_debit day n k
is_watched watches.Waiting day n k = counts (sort_of day n) day n k
is_watched watches.Kept day n k = is_single (sort_of day n) k

abbrev pub watched_row : Watched → Day → ℕ → List Bool
watched_row watched day n = map (is_watched watched day n) (item_numbers day n)

-- ---- after one more line

-- the flag of the item that the line books falls
abbrev pub fallen_at : Bool → ℕ → List Bool → List Bool
fallen_at true k row = slice_set row k false
fallen_at false k row = row

abbrev pub row_booked : Head → List Bool → List Bool
row_booked head row = fallen_at (is_book head.kind) head.entry row

-- the flags count on from k; those that pass fall
unfoldable pub fallen : (ℕ → Bool) → ℕ → List Bool → List Bool
fallen test k [] = []
fallen test k (flag ∷ flags) = (flag && not (test k)) ∷ fallen test (k + 1) flags

abbrev pub rows_booked : Head → List (List Bool) → List (List Bool)
rows_booked head rows = if is_book head.kind then changed head.msg (λ row. slice_set row head.entry false) rows else rows

-- of an E batch the bank's entries fall
abbrev pub row_revoked : Sort → Day → ℕ → List ℕ → List Bool → List Bool
row_revoked BatchE day n bank row = fallen (is_party_at day n bank) 0 row
row_revoked _ day n bank row = row

abbrev pub row_rule : Day → ℕ → List ℕ → Body → List Bool → List Bool
row_rule day b from (bodies.Object system id) row = row_revoked (sort_of day b) day b from row
row_rule day b from _ row = row

abbrev pub rows_revoked : Sort → Day → ℕ → List ℕ → List (List Bool) → List (List Bool)
rows_revoked BatchE day n bank rows = changed n (fallen (is_party_at day n bank) 0) rows
rows_revoked _ day n bank rows = rows

abbrev pub rows_ruled : Day → ℕ → List ℕ → Body → List (List Bool) → List (List Bool)
rows_ruled day b from (bodies.Object system id) rows = rows_revoked (sort_of day b) day b from rows
rows_ruled day b from _ rows = rows

abbrev pub debits_after : Head → List (List Bool) → List (List Bool)
debits_after head rows = changed head.msg (row_booked head) rows

abbrev pub waiting_after : Day → Option ℕ → Head → List (List Bool) → List (List Bool)
waiting_after day aim head rows = ruled_on (row_rule day) aim (message_at day head.msg) (changed head.msg (row_booked head) rows)

abbrev pub kept_after : Day → Option ℕ → Head → List (List Bool) → List (List Bool)
kept_after day aim head rows = ruled_on (row_rule day) aim (message_at day head.msg) rows

-- the line books a debit that wasn't booked before
abbrev pub books_debit : Head → List (List Bool) → Bool
books_debit head debits = is_book head.kind && flag_at debits head.msg head.entry

abbrev pub last_after : ℕ → Head → List (List Bool) → List ℕ → List ℕ
last_after place head debits lasts = if books_debit head debits then changed head.msg (λ last. place) lasts else lasts

-- ---- of message n

abbrev pub last_in : List ℕ → ℕ → ℕ
last_in lasts n = option_map_or (λ last. last) (numbered lasts n) 0
