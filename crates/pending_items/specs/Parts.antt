-- The rows of pending items: one on the debit account of the item, and of a batch of B one for each of its debit entries, so that an
-- account of several of them has as many.
use Rattle.std.specs.Prelude.{ℕ, ◌+◌, Bool, ◌&&◌, if◌then◌else◌, Option, option_map, is_some, unwrap_or}
use Rattle.batch_records.specs.DayRecord.{Day}
use Rattle.commit_journal.specs.Line.{History}
use Rattle.machine.specs.declared.answers.Item.{Item}
use Rattle.machine.specs.Records.Messages.{Sort, Pay, debit_account, is_b, is_debit, is_high, part, sort_of}
use Rattle.machine.specs.Telling.History.{taken}
use Rattle.machine.specs.Stages.Pending.{active_place, is_pending, item}
use Rattle.payment_queue.specs.declared.row.Place.{Place}
use Rattle.payment_queue.specs.declared.row.Priority.{Priority}
use Rattle.payment_queue.specs.declared.row.Priority.TheVariants.{Urgent, High, Normal}
use Rattle.payment_queue.specs.declared.row.Row.{Row}
use Rattle.pending_items.specs.Numbers.{number}

-- the pending item that a row is of
abbrev pub whole : Day → Item → Item
whole day x = if is_b (sort_of day x.msg) then item x.msg 0 else x

-- the account that it debits, where it debits one; 0 where the name is no account's
abbrev pub account_of : Day → Item → Option ℕ
account_of day x = option_map (debit_account day) (part day x.msg x.entry)

abbrev pub is_part : Day → Item → Bool
is_part day x = if is_b (sort_of day x.msg) then is_debit day x.msg x.entry else is_some (account_of day x)

-- whether the item has a row
abbrev pub waits : Day → History → Item → Bool
waits day J x = is_part day x && is_pending day J (whole day x)

abbrev pub priority_of : Sort → Day → ℕ → Priority
priority_of Pay day n = if is_high day n then High else Normal
priority_of _ day n = Urgent

abbrev pub place_at : Day → History → Item → ℕ → Place
place_at day J x number = record { active = active_place day J (whole day x); intake = unwrap_or (taken J x.msg) 0; entry = number }

-- bands count from 1, so that there is one for what debits no account that there is
abbrev pub band : Day → Item → ℕ
band day x = unwrap_or (account_of day x) 0 + 1

abbrev pub row_of : Day → History → Item → Row
row_of day J x = record {
  account = band day x;
  item = x;
  priority = priority_of (sort_of day x.msg) day x.msg;
  place = place_at day J x (number day x);
}
