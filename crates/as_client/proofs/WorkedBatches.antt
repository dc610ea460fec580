-- The net positions of worked trades, and the batches of worked positions. Amounts are cents.
use Rattle.std.specs.Prelude.{◌≡◌, ℕ, List, [], ◌∷◌, Some, None, Ok, Err, ℤ, pos, negsuc, refl, codes}
use Rattle.cash_amounts.specs.declared.records.Procedure.TheVariants.{A, B}
use Rattle.batch_records.specs.declared.day.Entry.{Entry}
use Rattle.batch_records.specs.declared.day.Body.TheVariants as bodies
use Rattle.as_client.specs.declared.trade.Trade.{Trade}
use Rattle.as_client.specs.declared.trade.Position.{Position}
use Rattle.as_client.specs.Netting.{net}
use Rattle.as_client.specs.BatchOf.{batch_of}

abbrev trade : List ℕ → List ℕ → ℕ → Trade
trade payer payee amount = record { payer = payer; payee = payee; amount = amount }

abbrev owes : List ℕ → ℕ → Position
owes account less_one = record { account = account; sum = negsuc less_one }

abbrev is_owed : List ℕ → ℕ → Position
is_owed account amount = record { account = account; sum = pos amount }

abbrev entry : List ℕ → List ℕ → ℕ → Entry
entry debit credit amount = record { debit = debit; credit = credit; amount = amount }

abbrev u : List ℕ
u = codes "U"

abbrev v : List ℕ
v = codes "V"

abbrev w : List ℕ
w = codes "W"

abbrev x : List ℕ
x = codes "X"

abbrev ta : List ℕ
ta = codes "TA"

-- ---- net positions

no_trade : net [] ≡ []
unfolding net
no_trade = refl

-- the order is that of first mention, the payer before the payee
there_and_back : net (trade v w 50 ∷ trade x u 50 ∷ trade u x 2 ∷ []) ≡ owes v 49 ∷ is_owed w 50 ∷ owes x 47 ∷ is_owed u 48 ∷ []
unfolding net
there_and_back = refl

-- what is paid to itself, nothing, and what comes back whole
left_out : net (trade x x 3 ∷ trade x u 0 ∷ trade v w 7 ∷ trade w v 7 ∷ []) ≡ []
unfolding net
left_out = refl

largest : net (trade v w 1000000000000000000 ∷ []) ≡ owes v 999999999999999999 ∷ is_owed w 1000000000000000000 ∷ []
unfolding net
largest = refl

-- ---- batches

-- debits stand before credits, each in the order of the positions
two_debits : batch_of (owes v 49 ∷ is_owed w 50 ∷ owes x 47 ∷ is_owed u 48 ∷ []) ta B (Some 30000) None ≡
    Ok (bodies.Batch B (Some 30000) None None 4 196 (entry v ta 50 ∷ entry x ta 48 ∷ entry ta w 50 ∷ entry ta u 48 ∷ []))
unfolding batch_of
two_debits = refl

-- a position of zero has no entry, and nothing has to be owed
zeros : batch_of (is_owed x 0 ∷ is_owed w 9999999999999 ∷ owes v 9999999999998 ∷ []) ta A None None ≡
    Ok (bodies.Batch A None None None 2 19999999999998 (entry v ta 9999999999999 ∷ entry ta w 9999999999999 ∷ []))
unfolding batch_of
zeros = refl

no_position : batch_of [] ta A None None ≡ Ok (bodies.Batch A None None None 0 0 [])
unfolding batch_of
no_position = refl

-- positions that don't sum to zero, by a cent and by as much as two can
a_cent_more : batch_of (owes v 2999 ∷ is_owed w 3001 ∷ []) ta B None None ≡ Err (pos 1)
unfolding batch_of
a_cent_more = refl

a_cent_less : batch_of (owes v 3000 ∷ is_owed w 3000 ∷ []) ta B None None ≡ Err (negsuc 0)
unfolding batch_of
a_cent_less = refl

most_owed : batch_of (is_owed v 9999999999999 ∷ is_owed w 9999999999999 ∷ []) ta B None None ≡ Err (pos 19999999999998)
unfolding batch_of
most_owed = refl
