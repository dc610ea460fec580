-- What a journal says of the liquidity of a bank: what was settled on its dedicated cash accounts, what is queued on them, and where it would stand if all of that were booked.
use Rattle.std.specs.Prelude.{ℕ, ◌+◌, ◌&&◌, if◌then◌else◌, pos, ◌+ℤ◌, ◌-ℤ◌, Bool, List, [], ◌∷◌, filter, sum_by}
use Rattle.std.specs.Option.{option_map_or}
use Rattle.batch_records.specs.DayRecord.{Day}
use Rattle.batch_records.specs.declared.day.Entry.{Entry}
use Rattle.commit_journal.specs.declared.line.Move.{Move}
use Rattle.commit_journal.specs.Line.{History}
use Rattle.machine.specs.Words.{is_dca, same_name, some_passes}
use Rattle.machine.specs.Records.Setup.{account_at, account_numbers, opening}
use Rattle.machine.specs.Records.Messages.{Sort, BatchB, entries, is_credit_entry, is_debit_entry, item_numbers, message_numbers, move_of, part, sort_of}
use Rattle.machine.specs.Telling.Balances.{balance}
use Rattle.machine.specs.Stages.Pending.{is_pending, item}
use Rattle.liquidity_view.specs.declared.sides.Side.{Side}
use Rattle.liquidity_view.specs.declared.sides.Side.TheVariants as sides
use Rattle.liquidity_view.specs.declared.view.Figures.{Figures}

-- ---- the accounts

-- the account is a dedicated cash account of the name
abbrev pub is_own : Day → List ℕ → ℕ → Bool
is_own day name a = some_passes (λ r. is_dca r.kind && same_name r.owner name) (account_at day a)

-- ---- what a move takes from them, or brings to them

abbrev pub account_on : Side → Move → ℕ
account_on sides.Out m = m.debit
account_on sides.In m = m.credit

abbrev pub share : Side → Day → List ℕ → Move → ℕ
share side day name m = if is_own day name (account_on side m) then m.amount else 0

-- ---- settled: the moves of all lines

unfoldable pub settled : Side → Day → List ℕ → History → ℕ
settled side day name [] = 0
settled side day name (l ∷ J) = settled side day name J + sum_by (share side day name) l.moves

-- ---- queued: the items that are pending

abbrev pub entry_share : Side → Day → List ℕ → Entry → ℕ
entry_share side day name e = share side day name (move_of day e)

-- debit entries are on the one side, credit entries on the other
abbrev pub is_entry_on : Side → Day → ℕ → Entry → Bool
is_entry_on sides.Out day n e = is_debit_entry day n e
is_entry_on sides.In day n e = is_credit_entry day n e

-- of a batch of B all its debit entries, or all its credit entries
abbrev pub whole_share : Side → Day → List ℕ → ℕ → ℕ
whole_share side day name n = sum_by (entry_share side day name) (filter (is_entry_on side day n) (entries day n))

-- what item k takes or brings once it is booked: a batch of B is one item
abbrev pub item_share_as : Sort → Side → Day → List ℕ → ℕ → ℕ → ℕ
item_share_as BatchB side day name n k = whole_share side day name n
item_share_as _ side day name n k = option_map_or (entry_share side day name) (part day n k) 0

abbrev pub item_share : Side → Day → List ℕ → ℕ → ℕ → ℕ
item_share side day name n k = item_share_as (sort_of day n) side day name n k

abbrev pub queued_item : Side → Day → List ℕ → History → ℕ → ℕ → ℕ
queued_item side day name J n k = if is_pending day J (item n k) then item_share side day name n k else 0

unfoldable pub queued_of : Side → Day → List ℕ → History → ℕ → ℕ
queued_of side day name J n = sum_by (queued_item side day name J n) (item_numbers day n)

abbrev pub queued : Side → Day → List ℕ → History → ℕ
queued side day name J = sum_by (queued_of side day name J) (message_numbers day)

-- ---- what the accounts hold

abbrev pub position : Day → List ℕ → History → ℕ
position day name J = sum_by (λ a. if is_own day name a then balance day J a else 0) (account_numbers day)

-- what the accounts hold before the first line
abbrev pub opening_of : Day → List ℕ → ℕ → ℕ
opening_of day name a = if is_own day name a then opening day a else 0

abbrev pub begun_with : Day → List ℕ → ℕ
begun_with day name = sum_by (opening_of day name) (account_numbers day)

-- ---- the figures, in cents

abbrev pub figures : Day → List ℕ → History → Figures
figures day name J = record {
  out = pos (settled sides.Out day name J);
  into = pos (settled sides.In day name J);
  queued_out = pos (queued sides.Out day name J);
  queued_in = pos (queued sides.In day name J);
  position = pos (position day name J);
  projected = (pos (position day name J) -ℤ pos (queued sides.Out day name J)) +ℤ pos (queued sides.In day name J);
}
