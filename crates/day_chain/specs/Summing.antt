-- How the sums of the accounts grow by the moves of a journal.
use Rattle.std.specs.Prelude.{ℕ, zero, suc, ◌+◌, ◌*◌, ◌^◌, ◌≤◌, List, [], ◌∷◌}
use Rattle.cash_amounts.specs.declared.cents.TheConstants.{MAX_CENTS}
use Rattle.batch_records.specs.DayRecord.{Day}
use Rattle.commit_journal.specs.declared.line.Move.{Move}
use Rattle.machine.specs.Records.Setup.{opening}
use Rattle.day_chain.specs.declared.sums.Sums.{Sums}

-- ---- one item changes

-- item i of a list is changed, where there is one
abbrev pub change_at : {X : Type 0} → ℕ → (X → X) → List X → List X
change_at i change [] = []
change_at zero change (x ∷ xs) = change x ∷ xs
change_at (suc i) change (x ∷ xs) = x ∷ change_at i change xs

-- the item of a number that counts from 1
abbrev pub changed : {X : Type 0} → ℕ → (X → X) → List X → List X
changed zero change xs = xs
changed (suc i) change xs = change_at i change xs

-- ---- the sums of an account

-- before the first day of a year
abbrev pub blank : Day → ℕ → Sums
blank day a = record { opening = opening day a; debits = 0; credits = 0; aside = 0 }

abbrev pub more_debits : ℕ → Sums → Sums
more_debits amount s = record s { debits = s.debits + amount }

abbrev pub more_credits : ℕ → Sums → Sums
more_credits amount s = record s { credits = s.credits + amount }

abbrev pub more_aside : ℕ → Sums → Sums
more_aside amount s = record s { aside = s.aside + amount }

-- ---- the sums of all accounts, by number

abbrev pub with_move : Move → List Sums → List Sums
with_move m sums = changed m.credit (more_credits m.amount) (changed m.debit (more_debits m.amount) sums)

unfoldable pub with_moves : List Move → List Sums → List Sums
with_moves [] sums = sums
with_moves (m ∷ moves) sums = with_moves moves (with_move m sums)

-- ---- that the sums stay within 128 bits: there is room for so many amounts more

pub record HasRoom (n : ℕ) (s : Sums) : Type 0 where
  pub debits : s.debits + n * MAX_CENTS ≤ 2 ^ 127
  pub credits : s.credits + n * MAX_CENTS ≤ 2 ^ 127
  pub aside : s.aside + n * MAX_CENTS ≤ 2 ^ 127

abbrev pub HaveRoom : ℕ → List Sums → Type 0
HaveRoom n [] = Unit {0}
HaveRoom n (s ∷ sums) = HasRoom n s × HaveRoom n sums

-- what each account sets aside, up to account k
unfoldable pub asides_to : (ℕ → ℕ) → ℕ → List Sums → List Sums
asides_to amount zero sums = sums
asides_to amount (suc k) sums = changed (suc k) (more_aside (amount (suc k))) (asides_to amount k sums)
