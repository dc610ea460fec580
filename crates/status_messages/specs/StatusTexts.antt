-- The texts of status messages.
use Rattle.std.specs.Prelude.{ℕ, Bool, true, false, List, [], ◌∷◌, decimal, codes}
use Rattle.cash_amounts.specs.AmountText.{amount_text}
use Rattle.outside_io.specs.TextLine.{text_line}
use Rattle.commit_journal.specs.declared.line.Code.{Code}
use Rattle.commit_journal.specs.Text.{code_text}
use Rattle.status_messages.specs.declared.status.TurnCode.{TurnCode}
use Rattle.status_messages.specs.declared.status.TurnCode.TheVariants as turn_codes
use Rattle.status_messages.specs.declared.status.Status.{Status}
use Rattle.status_messages.specs.declared.status.Status.TheVariants as status

abbrev pub turn_text : TurnCode → List ℕ
turn_text turn_codes.Acpt = codes "ACPT"
turn_text turn_codes.Rjct = codes "RJCT"
turn_text turn_codes.Dupl = codes "DUPL"
turn_text turn_codes.Info = codes "INFO"
turn_text turn_codes.Setl = codes "SETL"
turn_text turn_codes.Askg = codes "ASKG"
turn_text turn_codes.Fail = codes "FAIL"
turn_text turn_codes.Rvkd = codes "RVKD"

-- whether the money left the account
abbrev pub side_text : Bool → List ℕ
side_text true = codes "DBIT"
side_text false = codes "CRDT"

-- that message msg, or with an entry above 0 that entry of it, took a turn
abbrev pub turn_line : ℕ → List ℕ → TurnCode → ℕ → List ℕ → List ℕ → ℕ → Code → List ℕ
turn_line place to turn msg from id entry reason =
    text_line (codes "S" ∷ decimal place ∷ to ∷ turn_text turn ∷ decimal msg ∷ from ∷ id ∷ decimal entry ∷ code_text reason ∷ [])

-- that an amount left an account, or came to it
abbrev pub moved_line : ℕ → List ℕ → Bool → List ℕ → ℕ → List ℕ
moved_line place to debit account amount =
    text_line (codes "S" ∷ decimal place ∷ to ∷ side_text debit ∷ account ∷ amount_text amount ∷ [])

unfoldable pub status_text : Status → List ℕ
status_text (status.Turn place to turn msg from id entry reason) = turn_line place to turn msg from id entry reason
status_text (status.Moved place to debit account amount) = moved_line place to debit account amount
