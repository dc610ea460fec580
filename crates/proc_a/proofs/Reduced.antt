-- What a message of the sort A is, and what the tables of the machine say of it.
use Rattle.std.proofs.Common.{◌≡◌, ℕ, zero, suc, true, Option, Some, None, refl}
use Rattle.std.specs.Option.{option_map_or}
use Rattle.batch_records.specs.DayRecord.{Day}
use Rattle.batch_records.specs.declared.day.Message.{Message}
use Rattle.batch_records.specs.declared.day.Body.{Body}
use Rattle.batch_records.specs.declared.day.Body.TheVariants as bodies
use Rattle.batch_records.specs.Repeats.{message_at}
use Rattle.machine.specs.Records.Messages.{Missing, sort_of, sort_of_body, is_a, entries, entry_at, part, transfer_in}

-- ---- a batch is no transfer

no_transfer : (b : Body) → is_a (sort_of_body b) ≡ true → transfer_in b ≡ None
no_transfer (bodies.Batch q info early till count sum entries) h = refl
no_transfer (bodies.Pay high debit credit amount) h = cc
no_transfer (bodies.Liquidity debit credit amount) h = cc
no_transfer (bodies.Object system batch) h = refl
no_transfer (bodies.Confirm batch answer) h = refl
no_transfer (bodies.Cycle start) h = refl

no_transfer_at : (o : Option Message) → is_a (option_map_or (λ m. sort_of_body m.body) o Missing) ≡ true → option_map_or (λ m. transfer_in m.body) o None ≡ None
no_transfer_at None h = refl
no_transfer_at (Some m) h = no_transfer m.body h

-- what an item of the batch moves is its entry
pub part-is : (day : Day) (n k : ℕ) → is_a (sort_of day n) ≡ true → part day n k ≡ entry_at day n k
part-is day n zero h = no_transfer_at (message_at day n) h
part-is day n (suc k) h = refl
