-- Netting: what each account has received, less what it has paid.
use Rattle.std.specs.Prelude.{ℕ, Bool, false, not, List, [], ◌∷◌, ℤ, pos, negsuc, ◌-ℤ◌, if◌then◌else◌, filter, map, sum_by}
use Rattle.std.specs.List.{flat_map}
use Rattle.machine.specs.Words.{same_name, is_zero}
use Rattle.as_client.specs.declared.trade.Trade.{Trade}
use Rattle.as_client.specs.declared.trade.Position.{Position}

-- the names, each at its first place alone
abbrev pub each_once : List (List ℕ) → List (List ℕ)
each_once [] = []
each_once (name ∷ names) = name ∷ filter (λ other. not (same_name other name)) (each_once names)

-- the accounts that the trades name, the payer of a trade before its payee
abbrev pub mentions : List Trade → List (List ℕ)
mentions trades = flat_map (λ t. t.payer ∷ t.payee ∷ []) trades

-- the same in the order of first mention
abbrev pub accounts_of : List Trade → List (List ℕ)
accounts_of trades = each_once (mentions trades)

abbrev pub amount_of_trade : Trade → ℕ
amount_of_trade t = t.amount

abbrev pub received_of : List ℕ → Trade → ℕ
received_of account t = if same_name t.payee account then t.amount else 0

abbrev pub paid_of : List ℕ → Trade → ℕ
paid_of account t = if same_name t.payer account then t.amount else 0

abbrev pub received : List ℕ → List Trade → ℕ
received account trades = sum_by (received_of account) trades

abbrev pub paid : List ℕ → List Trade → ℕ
paid account trades = sum_by (paid_of account) trades

abbrev pub position_of : List Trade → List ℕ → Position
position_of trades account = record { account = account; sum = pos (received account trades) -ℤ pos (paid account trades) }

abbrev pub is_nought : ℤ → Bool
is_nought (pos n) = is_zero n
is_nought (negsuc n) = false

abbrev pub is_open : Position → Bool
is_open p = not (is_nought p.sum)

-- positions of zero are left out
unfoldable pub net : List Trade → List Position
net trades = filter is_open (map (position_of trades) (accounts_of trades))
