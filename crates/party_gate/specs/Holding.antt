-- What is kept of what a day tells a party.
use Rattle.std.specs.Prelude.{◌≡◌, List, ℕ, None, Option, length, take}
use Rattle.party_gate.specs.Lines.{open_line}
use Rattle.party_gate.specs.Passing.{end_ahead, end_told, longest_line}
use Rattle.party_gate.specs.declared.filter.LineFilter.{LineFilter}
use Rattle.party_gate.specs.declared.line_keeper.LineKeeper.{LineKeeper}
use Rattle.party_gate.specs.declared.passing.Ending.{Ending}

-- of a line that begins so, and doesn't end what is told
pub record Keeps (keeper : LineKeeper) (begun : List ℕ) : Type 0 where
  pub line : keeper.line.items ≡ take longest_line begun
  pub going : end_ahead keeper.name begun ≡ None

-- of all that was told so far to the party of this name
pub record HasSeen (name : List ℕ) (keeper : LineKeeper) (ending : Option Ending) (size : ℕ) (bytes : List ℕ) : Type 0 where
  pub named : keeper.name ≡ name
  pub ended : ending ≡ end_told name bytes
  pub counted : size ≡ length bytes
  pub kept : ending ≡ None → Keeps keeper (open_line bytes)

-- the same of a filter
abbrev pub HasHeard : {N : Type 0} → List ℕ → LineFilter N → List ℕ → Type 0
HasHeard name filter bytes = HasSeen name filter.keeper filter.ending filter.size bytes
