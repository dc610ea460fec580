-- What is left of the table of intake codes for messages that are no batches.
use Rattle.std.specs.Prelude.{ℕ, ◌+◌, ◌&&◌, ◌||◌, not, Bool, true, false, List, [], ◌∷◌, nat_eq, nat_lt, is_some, is_none}
use Rattle.std.specs.List.{list_any}
use Rattle.cash_amounts.specs.declared.records.Procedure.TheVariants.{C, D}
use Rattle.batch_records.specs.DayRecord.{Day}
use Rattle.batch_records.specs.declared.day.Body.{Body}
use Rattle.batch_records.specs.declared.day.Body.TheVariants as bodies
use Rattle.commit_journal.specs.declared.line.Code.{Code}
use Rattle.commit_journal.specs.declared.line.Code.TheVariants as line_codes
use Rattle.commit_journal.specs.declared.line.Move.{Move}
use Rattle.commit_journal.specs.Line.{History}
use Rattle.machine.specs.Words.{first_case, is_dca, is_sub, is_technical, same_name, same_procedure, some_passes}
use Rattle.machine.specs.Records.Setup.{is_bank, is_system, uses}
use Rattle.machine.specs.Records.Messages.{debit_account, entries, is_repeat, message_at, sender, transfer}
use Rattle.machine.specs.Records.Reserves.{kept}
use Rattle.machine.specs.Telling.Balances.{balance}
use Rattle.machine.specs.Telling.Facts.{is_party, open_cycle}
use Rattle.machine.specs.Stages.Phases.{is_asking, is_information, phase}
use Rattle.machine.specs.Stages.Intake.{is_locked, liquidity_fits, payment_fits, target}
use Rattle.rule_book.specs.Moves.{is_dca_at, passes_at}

-- ---- payments

abbrev pub has_payment_form : Day → ℕ → Bool
has_payment_form day n = some_passes (payment_fits day (sender day n)) (transfer day n)

-- the form of a payment by its move
abbrev pub is_payment_move : Day → List ℕ → Move → Bool
is_payment_move day bank m = passes_at day (λ r. is_dca r.kind && same_name r.owner bank) m.debit && is_dca_at day m.credit && not (nat_eq m.debit m.credit)

unfoldable pub payment_code : Day → ℕ → Code
payment_code day n = first_case (
    (is_repeat day n, line_codes.Du)
    ∷ (not (is_bank day (sender day n)), line_codes.Us)
    ∷ (not (has_payment_form day n), line_codes.Ac)
    ∷ []) line_codes.Ok

-- ---- liquidity transfers

abbrev pub has_transfer_form : Day → ℕ → Bool
has_transfer_form day n = some_passes (liquidity_fits day (sender day n)) (transfer day n)

-- the form of a transfer by its move
abbrev pub is_liquidity_move : Day → List ℕ → Move → Bool
is_liquidity_move day bank m =
    passes_at day (λ r. is_dca r.kind && same_name r.owner bank) m.debit && passes_at day (λ r. is_sub r.kind && same_name r.owner bank) m.credit
    || passes_at day (λ r. is_sub r.kind && same_name r.owner bank) m.debit && passes_at day (λ r. is_dca r.kind && same_name r.owner bank) m.credit
    || passes_at day (λ r. is_dca r.kind && same_name r.owner bank) m.debit && passes_at day (λ r. is_technical r.kind && some_passes (λ p. same_procedure p D) r.procedure) m.credit

abbrev pub leaves_locked : Day → History → ℕ → Bool
leaves_locked day J n = some_passes (λ e. is_locked day J (debit_account day e)) (transfer day n)

abbrev pub is_unafforded : Day → History → ℕ → Bool
is_unafforded day J n = some_passes (λ e. nat_lt (balance day J (debit_account day e)) (e.amount + kept day (debit_account day e) false)) (transfer day n)

unfoldable pub transfer_code : Day → History → ℕ → Code
transfer_code day J n = first_case (
    (is_repeat day n, line_codes.Du)
    ∷ (not (is_bank day (sender day n)), line_codes.Us)
    ∷ (not (has_transfer_form day n), line_codes.Ac)
    ∷ (leaves_locked day J n, line_codes.Lk)
    ∷ (is_unafforded day J n, line_codes.Nc)
    ∷ []) line_codes.Ok

-- ---- objections

abbrev pub takes_part : Day → List ℕ → ℕ → Bool
takes_part day bank b = list_any (is_party day bank) (entries day b)

unfoldable pub objection_code : Day → History → ℕ → Code
objection_code day J n = first_case (
    (is_repeat day n, line_codes.Du)
    ∷ (not (is_bank day (sender day n)), line_codes.Us)
    ∷ (is_none (target day J n), line_codes.Bt)
    ∷ (some_passes (λ b. not (is_information (phase day J b))) (target day J n), line_codes.Ph)
    ∷ (some_passes (λ b. not (takes_part day (sender day n) b)) (target day J n), line_codes.Np)
    ∷ []) line_codes.Ok

-- ---- answers

unfoldable pub answer_code : Day → History → ℕ → Code
answer_code day J n = first_case (
    (is_repeat day n, line_codes.Du)
    ∷ (not (is_system day (sender day n)), line_codes.Us)
    ∷ (is_none (target day J n), line_codes.Bt)
    ∷ (some_passes (λ b. not (is_asking (phase day J b))) (target day J n), line_codes.Ph)
    ∷ []) line_codes.Ok

-- ---- cycle messages

-- whether the message, from this system, starts a cycle while one is open, or ends one while none is
abbrev pub cycle_is_misplaced : Day → History → List ℕ → Body → Bool
cycle_is_misplaced day J system (bodies.Cycle true) = is_some (open_cycle day system J)
cycle_is_misplaced day J system (bodies.Cycle false) = is_none (open_cycle day system J)
cycle_is_misplaced day J system _ = false

abbrev pub cycle_message_is_misplaced : Day → History → ℕ → Bool
cycle_message_is_misplaced day J n = some_passes (λ m. cycle_is_misplaced day J m.sender m.body) (message_at day n)

unfoldable pub cycle_code : Day → History → ℕ → Code
cycle_code day J n = first_case (
    (is_repeat day n, line_codes.Du)
    ∷ (not (is_system day (sender day n)), line_codes.Us)
    ∷ (not (uses day (sender day n) C), line_codes.Pr)
    ∷ (cycle_message_is_misplaced day J n, line_codes.Cy)
    ∷ []) line_codes.Ok
