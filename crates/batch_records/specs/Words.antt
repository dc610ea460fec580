-- The words that fields of a record may be.
use Rattle.std.specs.Prelude.{ℕ, Bool, true, ◌==◌, ◌&&◌, ◌||◌, not, if◌then◌else◌, nat_le, nat_lt, List, [], ◌∷◌, length, Option, Some, None, codes, bytes_eq}
use Rattle.std.specs.List.{list_any}
use Rattle.cash_amounts.specs.declared.records.AccountKind.{AccountKind}
use Rattle.cash_amounts.specs.declared.records.AccountKind.TheVariants as account_kinds
use Rattle.cash_amounts.specs.declared.records.Procedure.{Procedure}
use Rattle.cash_amounts.specs.declared.records.Procedure.TheVariants as procedures

-- the versions that VER states
abbrev pub is_third_word : List ℕ → Bool
is_third_word word = bytes_eq word (codes "3")

abbrev pub is_version_word : List ℕ → Bool
is_version_word word = bytes_eq word (codes "2") || is_third_word word

-- the version of a word that is one's
abbrev pub version_named : List ℕ → ℕ
version_named word = if is_third_word word then 3 else 2

-- the kind of an account
unfoldable pub account_kind_named : List ℕ → Option AccountKind
account_kind_named word =
    if bytes_eq word (codes "DCA") then Some account_kinds.Dca
    else if bytes_eq word (codes "SUB") then Some account_kinds.Sub
    else if bytes_eq word (codes "TEC") then Some account_kinds.Tech
    else if bytes_eq word (codes "FND") then Some account_kinds.Fund
    else None

-- the procedure of a technical account
unfoldable pub technical_named : List ℕ → Option Procedure
technical_named word =
    if bytes_eq word (codes "A") then Some procedures.A
    else if bytes_eq word (codes "B") then Some procedures.B
    else if bytes_eq word (codes "C") then Some procedures.C
    else if bytes_eq word (codes "D") then Some procedures.D
    else None

-- the procedure of a batch
unfoldable pub procedure_named : List ℕ → Option Procedure
procedure_named word = if bytes_eq word (codes "E") then Some procedures.E else technical_named word

-- each letter above the one before it, and none above E
abbrev pub rises_from : ℕ → List ℕ → Bool
rises_from before [] = true
rises_from before (c ∷ text) = nat_lt before c && nat_le c 69 && rises_from c text

-- letters of A to E that rise, at least one
unfoldable pub is_procedures : List ℕ → Bool
is_procedures text = not (length text == 0) && rises_from 64 text

abbrev pub has_letter : ℕ → List ℕ → Bool
has_letter letter text = list_any (λ c. c == letter) text

-- whether each of A to E is among the letters
unfoldable pub listed : List ℕ → List Bool
listed text = has_letter 65 text ∷ has_letter 66 text ∷ has_letter 67 text ∷ has_letter 68 text ∷ has_letter 69 text ∷ []

-- the priorities of a payment
abbrev pub is_high : List ℕ → Bool
is_high word = bytes_eq word (codes "H")

abbrev pub is_priority : List ℕ → Bool
is_priority word = is_high word || bytes_eq word (codes "N")

-- the answers of a system
abbrev pub is_yes : List ℕ → Bool
is_yes word = bytes_eq word (codes "Y")

abbrev pub is_answer : List ℕ → Bool
is_answer word = is_yes word || bytes_eq word (codes "N")

-- the words of a cycle
abbrev pub is_start : List ℕ → Bool
is_start word = bytes_eq word (codes "START")

abbrev pub is_cycle : List ℕ → Bool
is_cycle word = is_start word || bytes_eq word (codes "END")
