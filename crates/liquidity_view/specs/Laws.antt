-- What holds of the figures of every journal.
use Rattle.std.specs.Prelude.{ℕ, ◌≡◌, false, List, pos}
use Rattle.batch_records.specs.DayRecord.{Day}
use Rattle.commit_journal.specs.Line.{History}
use Rattle.liquidity_view.specs.declared.view.Figures.{Figures}
use Rattle.liquidity_view.specs.Figures.{figures, is_own}

-- no account is a dedicated cash account of the name
abbrev pub OwnsNone : Day → List ℕ → Type 0
OwnsNone day name = (a : ℕ) → is_own day name a ≡ false

abbrev pub no_figures : Figures
no_figures = record { out = pos 0; into = pos 0; queued_out = pos 0; queued_in = pos 0; position = pos 0; projected = pos 0 }

-- of such a name all figures are 0
abbrev pub OthersHaveNone : Type 0
OthersHaveNone = (day : Day) (name : List ℕ) (J : History) → OwnsNone day name → figures day name J ≡ no_figures
