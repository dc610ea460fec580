-- At which times the clock may stop, midnight aside.
use Rattle.std.specs.Prelude.{ℕ, Bool, ◌&&◌, ◌||◌, nat_eq}
use Rattle.std.specs.List.{list_any}
use Rattle.batch_records.specs.DayRecord.{Day}
use Rattle.commit_journal.specs.declared.line.Head.{Head}
use Rattle.commit_journal.specs.Line.{History}
use Rattle.machine.specs.Words.{some_passes}
use Rattle.machine.specs.Records.Messages.{earliest, info_end, is_batch, message_numbers, sort_of, stated_end}
use Rattle.machine.specs.Telling.History.{is_accepted, is_in, is_ok}
use Rattle.machine.specs.OtherLaws.{is_among}

-- message n states the time, as the end of its information period, as its earliest time or as its settlement end
abbrev pub states_end : Day → ℕ → ℕ → Bool
states_end day t n = some_passes (nat_eq t) (info_end day n) || some_passes (nat_eq t) (earliest day n) || some_passes (nat_eq t) (stated_end day n)

-- it is a batch that was accepted
abbrev pub is_batch_end : Day → History → ℕ → ℕ → Bool
is_batch_end day J t n = is_batch (sort_of day n) && is_accepted J n && states_end day t n

-- the day states the time as a stop, or an accepted batch states it; whether or not the clock has passed it
unfoldable pub is_stop_time : Day → History → ℕ → Bool
is_stop_time day J t = is_among day.stops t || list_any (is_batch_end day J t) (message_numbers day)

-- a line of this head accepts a batch
abbrev pub accepts_batch : Day → Head → Bool
accepts_batch day head = is_in head.kind && is_ok head.code && is_batch (sort_of day head.msg)
