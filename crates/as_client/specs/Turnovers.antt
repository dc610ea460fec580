-- What accounts have received and paid, as it is kept on the way to their positions.
use Rattle.std.specs.Prelude.{◌≡◌, ℕ, ◌+◌, ◌≤◌, List, [], ◌∷◌, ℤ, pos, ◌-ℤ◌, if◌then◌else◌, unwrap_or}
use Rattle.indexmap.specs.IndexMap.{IndexMap, keys, get}
use Rattle.cash_amounts.specs.declared.cents.TheConstants.{MAX_CENTS}
use Rattle.cash_amounts.specs.Tests.{same_name}
use Rattle.as_client.specs.declared.netting.Turnover.{Turnover}
use Rattle.as_client.specs.declared.trade.Trade.{Trade}
use Rattle.as_client.specs.declared.trade.Position.{Position}
use Rattle.as_client.specs.Netting.{accounts_of, received, received_of, paid, paid_of}

-- the name at the end, unless it is there already
abbrev pub with_name : List (List ℕ) → List ℕ → List (List ℕ)
with_name [] name = name ∷ []
with_name (other ∷ others) name = if same_name name other then other ∷ others else other ∷ with_name others name

abbrev pub with_more : Turnover → ℕ → ℕ → Turnover
with_more t more_received more_paid = record { received = t.received + more_received; paid = t.paid + more_paid }

-- what an account with this turnover has after a trade
abbrev pub with_trade : Trade → List ℕ → Turnover → Turnover
with_trade trade account t = with_more t (received_of account trade) (paid_of account trade)

abbrev pub turnover_of : List Trade → List ℕ → Turnover
turnover_of trades account = record { received = received account trades; paid = paid account trades }

abbrev pub HasRoom : Turnover → ℕ → Type 0
HasRoom t amount = (t.received + amount ≤ MAX_CENTS) × (t.paid + amount ≤ MAX_CENTS)

abbrev pub IsSmall : Turnover → Type 0
IsSmall t = (t.received ≤ MAX_CENTS) × (t.paid ≤ MAX_CENTS)

abbrev pub left : Turnover → ℤ
left t = pos t.received -ℤ pos t.paid

module _ {S : Type 0} where
  -- nothing for an account that has no entry
  abbrev pub turnover_in : IndexMap (List ℕ) Turnover S → List ℕ → Turnover
  turnover_in turnovers account = unwrap_or (get same_name turnovers account) (record { received = 0; paid = 0 })

  abbrev pub position_in : IndexMap (List ℕ) Turnover S → List ℕ → Position
  position_in turnovers account = record { account = account; sum = left (turnover_in turnovers account) }

  -- the accounts of the trades, and what each of them has received and paid
  pub record AreTurnovers (trades : List Trade) (turnovers : IndexMap (List ℕ) Turnover S) : Type 0 where
    pub accounts : keys turnovers ≡ accounts_of trades
    pub each : (account : List ℕ) → turnover_in turnovers account ≡ turnover_of trades account
