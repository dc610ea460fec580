-- What the moves of a line do to one account.
use Rattle.std.specs.Prelude.{ℕ, List, [], ◌∷◌, nat_eq, if◌then◌else◌}
use Rattle.commit_journal.specs.declared.line.Move.{Move}
use Rattle.day_page.specs.declared.extents.Extent.{Extent}
use Rattle.day_page.specs.Extents.{lowered, marked, raised}

-- the account of this number is changed
abbrev pub at_account : ℕ → (Extent → Extent) → ℕ → Extent → Extent
at_account n change a x = if nat_eq n a then change x else x

unfoldable pub rise : List Move → ℕ → Extent → Extent
rise [] a x = x
rise (m ∷ moves) a x = rise moves a (at_account m.credit (raised m.amount) a x)

unfoldable pub fall : List Move → ℕ → Extent → Extent
fall [] a x = x
fall (m ∷ moves) a x = fall moves a (at_account m.debit (lowered m.amount) a x)

unfoldable pub tick : List Move → ℕ → Extent → Extent
tick [] a x = x
tick (m ∷ moves) a x = tick moves a (at_account m.credit marked a (at_account m.debit marked a x))
