-- The versions of a day file, and all that differs between them: how a batch is stated, whether an account may keep amounts, and the
-- limits of a day.
--
-- version 1: BAT; sender; identification; procedure; information end; settlement end; count; sum
--            An end is a time, or empty where the batch states none.
-- version 2: BAT; sender; identification; procedure; count; sum; info=TIME; from=TIME; till=TIME
--            A time that the batch doesn't state has no field. Only a batch of A or B states from=, before which it isn't settled.
--            RES; account; amount kept for urgent items; amount kept for high payments
-- version 3: the records of version 2
--
-- A day of version 2 or 3 begins with VER. Every other record is the same in all.
use Rattle.std.specs.Prelude.{ℕ, ◌+◌, Bool, false, not, ◌&&◌, ◌||◌, ◌==◌, if◌then◌else◌, bytes_eq, nat_eq, nat_le, List, [], ◌∷◌, drop, length, Option, Some, None, codes, is_none}
use Rattle.std.specs.List.{starts_with}
use Rattle.cash_amounts.specs.declared.limits.TheConstants.{MAX_ENTRIES, MAX_ENTRIES_OF_DAY, MAX_ENTRIES_OF_DAY_BEFORE_THIRD, MAX_ENTRIES_OF_FIRST, MAX_MESSAGES, MAX_MESSAGES_BEFORE_THIRD}
use Rattle.period_calendar.specs.Times.{time_of_text}
use Rattle.batch_records.specs.Records.{Fields, field}

-- ---- which there are

abbrev pub is_third : ℕ → Bool
is_third version = version == 3

-- those whose batches state their times after labels, and whose accounts may keep amounts
abbrev pub has_labels : ℕ → Bool
has_labels version = (version == 2) || is_third version

-- those whose days begin with VER
abbrev pub begins_with_ver : ℕ → Bool
begins_with_ver version = has_labels version

abbrev pub is_version : ℕ → Bool
is_version version = (version == 1) || has_labels version

-- the one to which a day migrates: one of version 3 stays as it is, as version 2 may have no room for it
abbrev pub migrated_version : ℕ → ℕ
migrated_version version = if is_third version then 3 else 2

-- ---- the limits of a day
--
--                             version 1    version 2    version 3
-- messages                      100,000      100,000    1,000,000
-- entries of all its batches  1,000,000    1,000,000    2,000,000
-- entries of a batch             10,000       50,000       50,000

abbrev pub most_messages : ℕ → ℕ
most_messages version = if is_third version then MAX_MESSAGES else MAX_MESSAGES_BEFORE_THIRD

abbrev pub most_entries_of_day : ℕ → ℕ
most_entries_of_day version = if is_third version then MAX_ENTRIES_OF_DAY else MAX_ENTRIES_OF_DAY_BEFORE_THIRD

abbrev pub most_entries : ℕ → ℕ
most_entries version = if has_labels version then MAX_ENTRIES else MAX_ENTRIES_OF_FIRST

-- ---- the fields of a batch

-- its count, and its sum
unfoldable pub count_field : ℕ → Fields → List ℕ
count_field version r = if has_labels version then field r 4 else field r 6

unfoldable pub sum_field : ℕ → Fields → List ℕ
sum_field version r = if has_labels version then field r 5 else field r 7

-- what stands in front of the times in a batch with labels
abbrev pub info_label : List ℕ
info_label = codes "info="

abbrev pub from_label : List ℕ
from_label = codes "from="

abbrev pub till_label : List ℕ
till_label = codes "till="

abbrev pub has_label : List ℕ → List ℕ → Bool
has_label label text = starts_with nat_eq text label

-- the place after a field with this label, where the field at a place has it; and else that place
abbrev pub behind : List ℕ → Fields → ℕ → ℕ
behind label r i = if has_label label (field r i) then i + 1 else i

-- where a batch with labels would state its earliest time: after its information end, if it states one; where its settlement end:
-- after both
abbrev pub from_place : Fields → ℕ
from_place r = behind info_label r 6

abbrev pub till_place : Fields → ℕ
till_place r = behind from_label r (from_place r)

-- C, D and E, whose batches have no earliest time
abbrev pub is_never_early : List ℕ → Bool
is_never_early word = bytes_eq word (codes "C") || bytes_eq word (codes "D") || bytes_eq word (codes "E")

abbrev pub states_from : Fields → Bool
states_from r = has_label from_label (field r (from_place r))

-- Which fields a batch with labels has: six, and after them its information end, its earliest time and its settlement end, in this
-- order, each at most once, and nothing else. A batch of C, D or E has no earliest time.
unfoldable pub has_stated_times : Fields → Bool
has_stated_times r =
    nat_le 6 (length r) && (behind till_label r (till_place r) == length r)
    && not (states_from r && is_never_early (field r 3))

-- what stands after a label, where the text begins with it
abbrev pub text_behind : List ℕ → List ℕ → Option (List ℕ)
text_behind label text = if has_label label text then Some (drop (length label) text) else None

-- a text that isn't empty
abbrev pub text_or_none : List ℕ → Option (List ℕ)
text_or_none [] = None
text_or_none (c ∷ text) = Some (c ∷ text)

-- the texts of the times that a batch states
unfoldable pub info_text : ℕ → Fields → Option (List ℕ)
info_text version r = if has_labels version then text_behind info_label (field r 6) else text_or_none (field r 4)

unfoldable pub from_text : ℕ → Fields → Option (List ℕ)
from_text version r = if has_labels version then text_behind from_label (field r (from_place r)) else None

unfoldable pub till_text : ℕ → Fields → Option (List ℕ)
till_text version r = if has_labels version then text_behind till_label (field r (till_place r)) else text_or_none (field r 5)

-- a text that is stated and is no time
abbrev pub is_no_time : Option (List ℕ) → Bool
is_no_time None = false
is_no_time (Some text) = is_none (time_of_text text)
