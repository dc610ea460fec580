-- The summary of a trial, which speaks of no journal: how many messages, lines and moves there are, and what each dedicated
-- cash account holds in the end.
use Rattle.std.specs.Prelude.{ℕ, ◌≡◌, ◌≤◌, ◌+◌, ◌-◌, Option, Some, List, [], ◌∷◌, ◌++◌, length, flat_map, sum_by, decimal, if◌then◌else◌, codes}
use Rattle.std.specs.List.{range_with_len}
use Rattle.cash_amounts.specs.AmountText.{amount_text}
use Rattle.cash_amounts.specs.declared.records.Procedure.{Procedure}
use Rattle.cash_amounts.specs.declared.records.Procedure.TheVariants.{A, B, E}
use Rattle.cash_amounts.specs.Tests.{same_name}
use Rattle.outside_io.specs.TextLine.{text_line}
use Rattle.batch_records.specs.DayRecord.{Day}
use Rattle.batch_records.specs.declared.day.Entry.{Entry}
use Rattle.batch_records.specs.Sound.{entries_in}
use Rattle.commit_journal.specs.Line.{History}
use Rattle.machine.specs.Telling.Balances.{balance}
use Rattle.machine.specs.Orders.Bounds.{moved}
use Rattle.trial_day.specs.Trial.{dca_name, generated, procedure_of_message}

-- ---- lines and moves

-- the lines that settle a batch: of A and E one for each entry, of B one
abbrev pub lines_by : Procedure → ℕ
lines_by A = 8
lines_by B = 1
lines_by E = 4
lines_by _ = 0

-- one move for each entry
abbrev pub moves_by : Procedure → ℕ
moves_by A = 8
moves_by B = 8
moves_by E = 4
moves_by _ = 0

-- and an In line for each batch, the Time line of midnight, and the End line
abbrev pub trial_lines : ℕ → ℕ
trial_lines batches = batches + sum_by (λ i. lines_by (procedure_of_message i)) (range_with_len 1 batches) + 2

abbrev pub trial_moves : ℕ → ℕ
trial_moves batches = sum_by (λ i. moves_by (procedure_of_message i)) (range_with_len 1 batches)

-- ---- balances

abbrev pub all_entries : Day → List Entry
all_entries day = flat_map (λ m. entries_in m.body) day.messages

abbrev pub received : List ℕ → List Entry → ℕ
received name es = sum_by (λ e. if same_name e.credit name then e.amount else 0) es

abbrev pub paid : List ℕ → List Entry → ℕ
paid name es = sum_by (λ e. if same_name e.debit name then e.amount else 0) es

-- the opening of dedicated cash account a with all entries of the day
abbrev pub closing : Day → ℕ → ℕ
closing day a = 100000000000 + received (dca_name a) (all_entries day) - paid (dca_name a) (all_entries day)

-- ---- the texts

abbrev pub head_text : ℕ → ℕ → ℕ → List ℕ
head_text messages lines moves = text_line (codes "TRIAL" ∷ decimal messages ∷ decimal lines ∷ decimal moves ∷ [])

abbrev pub holding_text : ℕ → ℕ → List ℕ
holding_text a amount = text_line (codes "B" ∷ dca_name a ∷ amount_text amount ∷ [])

-- of each dedicated cash account, with what it holds
unfoldable pub holdings_text : (ℕ → ℕ) → List ℕ
holdings_text held = flat_map (λ a. holding_text a (held a)) (range_with_len 1 16)

unfoldable pub summary : ℕ → ℕ → List ℕ
summary seed batches = head_text batches (trial_lines batches) (trial_moves batches) ++ holdings_text (closing (generated seed batches))

-- the same of a journal: its lines, its moves, and what the accounts hold after it
unfoldable pub summary_of_journal : Day → History → List ℕ
summary_of_journal day J = head_text (length day.messages) (length J) (moved J) ++ holdings_text (balance day J)

-- the balances of the dedicated cash accounts after the journal are at hand
abbrev pub HoldsDcas : Day → History → (ℕ → Option ℕ) → Type 0
HoldsDcas day J holdings = (a : ℕ) → 1 ≤ a → a ≤ 16 → holdings a ≡ Some (balance day J a)
