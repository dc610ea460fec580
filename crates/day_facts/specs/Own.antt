-- What the lines about a message say of it.
use Rattle.std.specs.Prelude.{ℕ, Bool, true, false, List, Option, None, map, if◌then◌else◌}
use Rattle.std.specs.Option.{option_or, option_map_or}
use Rattle.batch_records.specs.DayRecord.{Day}
use Rattle.commit_journal.specs.declared.line.Code.{Code}
use Rattle.commit_journal.specs.declared.line.Head.{Head}
use Rattle.commit_journal.specs.Line.{History}
use Rattle.machine.specs.Words.{when, numbered}
use Rattle.machine.specs.Records.Messages.{item_numbers, message_numbers}
use Rattle.machine.specs.Telling.History.{is_in, is_book, is_all, is_ask, is_cover, is_expire_or_refuse, taken, taken_code, booked, settled_whole, asked, covered, closed}
use Rattle.day_facts.specs.declared.own.Own.{Own}
use Rattle.day_facts.specs.Lists.{changed, placed}

-- ---- over a history

unfoldable pub own_of : History → ℕ → Own
own_of J n = record {
  taken = taken J n;
  code = taken_code J n;
  whole = settled_whole J n;
  asked = asked J n;
  covered = covered J n;
  closed = closed J n;
}

abbrev pub owns_of : Day → History → List Own
owns_of day J = map (own_of J) (message_numbers day)

-- the places of the Book lines of the items of message n
abbrev pub booked_row : Day → History → ℕ → List (Option ℕ)
booked_row day J n = map (booked J n) (item_numbers day n)

abbrev pub booked_rows : Day → History → List (List (Option ℕ))
booked_rows day J = map (booked_row day J) (message_numbers day)

-- ---- after one more line about the message

abbrev pub booked_with : Bool → ℕ → ℕ → List (Option ℕ) → List (Option ℕ)
booked_with true k place places = placed k place places
booked_with false k place places = places

abbrev pub row_noted : ℕ → Head → List (Option ℕ) → List (Option ℕ)
row_noted place head row = booked_with (is_book head.kind) head.entry place row

abbrev pub rows_noted : ℕ → Head → List (List (Option ℕ)) → List (List (Option ℕ))
rows_noted place head rows = if is_book head.kind then changed head.msg (placed head.entry place) rows else rows

abbrev pub noted : ℕ → Head → Own → Own
noted place head own = record {
  taken = option_or own.taken (when (is_in head.kind) place);
  code = option_or own.code (when (is_in head.kind) head.code);
  whole = option_or own.whole (when (is_all head.kind) place);
  asked = option_or own.asked (when (is_ask head.kind) place);
  covered = option_or own.covered (when (is_cover head.kind) place);
  closed = option_or own.closed (when (is_expire_or_refuse head.kind) place);
}

-- ---- of message n

abbrev pub place_in : (Own → Option ℕ) → List Own → ℕ → Option ℕ
place_in read owns n = option_map_or read (numbered owns n) None

abbrev pub code_in : List Own → ℕ → Option Code
code_in owns n = option_map_or (λ own. own.code) (numbered owns n) None
