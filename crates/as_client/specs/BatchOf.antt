-- The batch that settles positions: debits of the negative ones, then credits of the positive ones.
use Rattle.std.specs.Prelude.{◌≡◌, ℕ, zero, suc, Bool, List, [], ◌∷◌, ◌++◌, Option, Some, None, Result, Ok, Err, IsOk, ℤ, pos, negsuc, ◌+ℤ◌, if◌then◌else◌, length, fold, sum_by, nat_le}
use Rattle.std.specs.List.{filter_map}
use Rattle.cash_amounts.specs.declared.records.Procedure.{Procedure}
use Rattle.batch_records.specs.declared.day.Entry.{Entry}
use Rattle.batch_records.specs.declared.day.Body.{Body}
use Rattle.batch_records.specs.declared.day.Body.TheVariants as bodies
use Rattle.machine.specs.Stages.Intake.{amount_of}
use Rattle.as_client.specs.declared.trade.Position.{Position}
use Rattle.as_client.specs.declared.batch.BatchFault.{BatchFault}
use Rattle.as_client.specs.declared.batch.BatchFault.TheVariants.{Sum, Memory}
use Rattle.as_client.specs.Netting.{is_nought}

abbrev pub sum_of_positions : List Position → ℤ
sum_of_positions positions = fold (λ sum p. sum +ℤ p.sum) (pos 0) positions

-- from an account to the technical account what it owes, and from that to an account what it is owed
abbrev pub debit_of : List ℕ → List ℕ → ℤ → Option Entry
debit_of technical account (pos n) = None
debit_of technical account (negsuc n) = Some (record { debit = account; credit = technical; amount = suc n })

abbrev pub credit_of : List ℕ → List ℕ → ℤ → Option Entry
credit_of technical account (pos zero) = None
credit_of technical account (pos (suc n)) = Some (record { debit = technical; credit = account; amount = suc n })
credit_of technical account (negsuc n) = None

abbrev pub debits_of : List ℕ → List Position → List Entry
debits_of technical positions = filter_map (λ p. debit_of technical p.account p.sum) positions

abbrev pub credits_of : List ℕ → List Position → List Entry
credits_of technical positions = filter_map (λ p. credit_of technical p.account p.sum) positions

abbrev pub entries_of_positions : List ℕ → List Position → List Entry
entries_of_positions technical positions = debits_of technical positions ++ credits_of technical positions

abbrev pub body_of_entries : Procedure → Option ℕ → Option ℕ → List Entry → Body
body_of_entries procedure info till entries = bodies.Batch procedure info None till (length entries) (sum_by amount_of entries) entries

-- the batch, or the sum of the positions where it isn't zero
unfoldable pub batch_of : List Position → List ℕ → Procedure → Option ℕ → Option ℕ → Result Body ℤ
batch_of positions technical procedure info till =
    if is_nought (sum_of_positions positions)
    then Ok (body_of_entries procedure info till (entries_of_positions technical positions))
    else Err (sum_of_positions positions)

-- the sum of the positions is told where they make no batch, and want of memory of the others alone
abbrev pub Tells : BatchFault → Result Body ℤ → Type 0
Tells (Sum sum) answer = answer ≡ Err sum
Tells (Memory memory) answer = IsOk answer

-- ---- the positions that may be given

abbrev pub size : ℤ → ℕ
size (pos n) = n
size (negsuc n) = suc n

-- at most what an entry may move
abbrev pub fits_an_entry : Position → Bool
fits_an_entry p = nat_le (size p.sum) 9999999999999

-- ---- on the way to a batch

-- what an account with this position owes, and what it is owed
abbrev pub owing : ℤ → ℕ
owing (pos n) = 0
owing (negsuc n) = suc n

abbrev pub owed : ℤ → ℕ
owed (pos n) = n
owed (negsuc n) = 0

abbrev pub listed : {X : Type 0} → Option X → List X
listed None = []
listed (Some x) = x ∷ []
