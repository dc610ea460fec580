-- The items that a worker looks at, each with its want, whether or not the want has a line.
use Rattle.std.specs.Prelude.{ℕ, Bool, ◌&&◌, ◌||◌, if◌then◌else◌, [], ◌∷◌, Option, Some, None, nat_lt, nat_le, nat_eq, option_map, is_some}
use Rattle.std.specs.List.{find, list_any}
use Rattle.std.specs.Option.{option_or}
use Rattle.batch_records.specs.DayRecord.{Day}
use Rattle.commit_journal.specs.declared.line.Want.{Want}
use Rattle.commit_journal.specs.declared.line.Want.TheVariants as wants
use Rattle.commit_journal.specs.Line.{History}
use Rattle.machine.specs.declared.answers.Item.{Item}
use Rattle.machine.specs.Words.{first_some, when, only_if, is_zero}
use Rattle.machine.specs.Records.Messages.{sort_of, is_b, item_numbers, message_numbers}
use Rattle.machine.specs.Stages.Phases.{phase, is_overdue}
use Rattle.machine.specs.Stages.Pending.{item, is_pending}
use Rattle.machine.specs.Making.Lines.{may_ask, may_lapse, is_answered_yes, is_answered_no, is_unanswered, may_book, may_settle_whole, may_expire}

-- ---- the want of an item

abbrev pub pending_want : Day → Item → Want
pending_want day x = if is_b (sort_of day x.msg) then wants.All x.msg else wants.Book x.msg x.entry

abbrev pub message_hint : Day → History → ℕ → Option Want
message_hint day J n = first_some (
    when (may_ask day J n) (wants.Ask n)
    ∷ when (may_lapse (sort_of day n) && is_overdue (phase day J n)) (wants.Expire n)
    ∷ when (is_answered_yes day J n) (wants.Cover n)
    ∷ when (is_answered_no day J n) (wants.Refuse n)
    ∷ when (is_unanswered day J n) (wants.Refuse n)
    ∷ [])

abbrev pub hint_of : Day → History → Item → Option Want
hint_of day J x = option_or (when (is_pending day J x) (pending_want day x)) (only_if (is_zero x.entry) (message_hint day J x.msg))

-- item (n, k) has a hint, and it doesn't stand before the item from: by message, then by entry
abbrev pub is_hinted : Day → History → Item → ℕ → ℕ → Bool
is_hinted day J from n k = (nat_lt from.msg n || nat_eq from.msg n && nat_le from.entry k) && is_some (hint_of day J (item n k))

abbrev pub hint_in : Day → History → Item → Option ℕ → Option Want
hint_in day J from None = None
hint_in day J from (Some n) = hint_at (find (is_hinted day J from n) (item_numbers day n))
  where
    hint_at : Option ℕ → Option Want
    hint_at None = None
    hint_at (Some k) = hint_of day J (item n k)

-- the want of the least such item at or after this one
abbrev pub hint : Day → History → Item → Option Want
hint day J from = hint_in day J from (find (λ n. list_any (is_hinted day J from n) (item_numbers day n)) (message_numbers day))

-- ---- what is unfinished of a message

-- the first Book, All or Expire want of n that has a line while the day isn't over
abbrev pub unfinished : Day → History → ℕ → Option Want
unfinished day J n = first_some (
    option_map (wants.Book n) (find (may_book day J n) (item_numbers day n))
    ∷ when (may_settle_whole day J n) (wants.All n)
    ∷ when (may_expire day J n) (wants.Expire n)
    ∷ [])
