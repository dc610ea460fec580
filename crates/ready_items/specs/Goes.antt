-- What can go on an account: a pending item that stands there, before which nothing stands, where the balance has what it takes and must
-- leave.
use Rattle.std.specs.Prelude.{ℕ, ◌+◌, Bool, false, not, ◌&&◌, ◌||◌, if◌then◌else◌, length, nat_le, nat_lt, unwrap_or}
use Rattle.std.specs.List.{list_all, list_any}
use Rattle.std.specs.Option.{option_map_or}
use Rattle.batch_records.specs.DayRecord.{Day}
use Rattle.commit_journal.specs.Line.{History}
use Rattle.machine.specs.declared.answers.Item.{Item}
use Rattle.machine.specs.Records.Messages.{is_b, part, sort_of}
use Rattle.machine.specs.Records.Reserves.{must_leave}
use Rattle.machine.specs.Telling.History.{clock}
use Rattle.machine.specs.Telling.Balances.{balance}
use Rattle.machine.specs.Stages.Phases.{phase}
use Rattle.machine.specs.Stages.Pending.{debit_accounts, is_blocked, is_pending, stands_on}
use Rattle.machine.specs.Making.Lines.{gross, is_ready_item}
use Rattle.scan_laws.specs.Numbers.{item_count, item_of}
use Rattle.scan_laws.specs.Views.{alone}

-- ---- on an account

-- what the item takes from the account, on which it stands: a batch of B all that it owes there
abbrev pub takes : Day → Item → ℕ → ℕ
takes day x a = if is_b (sort_of day x.msg) then gross day x.msg a else option_map_or (λ e. e.amount) (part day x.msg x.entry) 0

-- what it asks for: that, and what it must leave there
abbrev pub asks : Day → Item → ℕ → ℕ
asks day x a = takes day x a + must_leave day x.msg a

abbrev pub goes_on : Day → History → ℕ → Item → Bool
goes_on day J a x = is_pending day J x && stands_on day a x && not (is_blocked day J x a) && nat_le (asks day x a) (balance day J a)

-- the same by the number of the item
abbrev pub goes_at : Day → History → ℕ → ℕ → Bool
goes_at day J a i = nat_lt i (item_count day) && goes_on day J a (item_of day i)

-- ---- by itself

abbrev pub is_account : Day → ℕ → Bool
is_account day a = nat_le 1 a && nat_le a (length day.accounts)

-- it stands on some account of the day, and on none that the day doesn't have
abbrev pub is_placed : Day → Item → Bool
is_placed day x = list_any (is_account day) (debit_accounts day x) && list_all (is_account day) (debit_accounts day x)

-- it is ready by its message's phase alone, or it is pending and no account of the day can tell of it
abbrev pub by_itself : Day → History → Item → Bool
by_itself day J x = unwrap_or (alone day x.msg x.entry (phase day J x.msg) (clock J)) false || is_pending day J x && not (is_placed day x)

abbrev pub by_itself_at : Day → History → ℕ → Bool
by_itself_at day J i = by_itself day J (item_of day i)

-- ---- ready

abbrev pub ready_at : Day → History → ℕ → Bool
ready_at day J i = nat_lt i (item_count day) && is_ready_item day J (item_of day i).msg (item_of day i).entry
