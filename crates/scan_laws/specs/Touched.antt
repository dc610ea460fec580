-- Which accounts a line touches: those of its moves, and those on which items stand that it concerns.
use Rattle.std.specs.Prelude.{ℕ, Bool, not, ◌&&◌, ◌||◌, List, nat_eq}
use Rattle.std.specs.List.{list_any}
use Rattle.batch_records.specs.DayRecord.{Day}
use Rattle.commit_journal.specs.declared.line.Move.{Move}
use Rattle.commit_journal.specs.Line.{Line, History}
use Rattle.machine.specs.Records.Messages.{sort_of, is_b, message_numbers, item_numbers}
use Rattle.machine.specs.Stages.Pending.{item, is_pending, stands_on}
use Rattle.scan_laws.specs.Items.{concerns_item}

-- a move leads from the account or to it
abbrev pub moves_on : ℕ → List Move → Bool
moves_on a moves = list_any (λ m. nat_eq m.debit a || nat_eq m.credit a) moves

-- an item of message n that the line concerns stands on the account
abbrev pub stands_with : Day → History → Line → ℕ → ℕ → Bool
stands_with day J l a n = list_any (λ k. concerns_item day J l n k && stands_on day a (item n k)) (item_numbers day n)

abbrev pub touches : Day → History → Line → ℕ → Bool
touches day J l a = moves_on a l.moves || list_any (stands_with day J l a) (message_numbers day)

-- item (n, k) waits on the account: it is pending and stands on it, and not on others too, as a B batch does
abbrev pub waits_on : Day → History → ℕ → ℕ → ℕ → Bool
waits_on day J a n k = not (is_b (sort_of day n)) && stands_on day a (item n k) && is_pending day J (item n k)
