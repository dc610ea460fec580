-- For a batch of E the machine's tests are those of bilateral batches.
use Rattle.std.proofs.Common.{◌≡◌, ℕ, true, false, Option, Some, None, refl}
use Rattle.std.specs.Option.{option_map_or}
use Rattle.std.proofs.lemmas.Bool.{false≢true}
use Rattle.batch_records.specs.DayRecord.{Day}
use Rattle.batch_records.specs.declared.day.Message.{Message}
use Rattle.batch_records.specs.declared.day.Body.{Body}
use Rattle.batch_records.specs.declared.day.Body.TheVariants as bodies
use Rattle.batch_records.specs.Repeats.{message_at}
use Rattle.machine.specs.Records.Messages.{Missing, sort_of, sort_of_body, is_e, transfer, transfer_in}

-- ---- a batch of E has no transfer

no_transfer_in : (b : Body) → is_e (sort_of_body b) ≡ true → transfer_in b ≡ None
no_transfer_in (bodies.Batch p info early till count sum es) h = refl
no_transfer_in (bodies.Pay high debit credit amount) h = absurd (false≢true h)
no_transfer_in (bodies.Liquidity debit credit amount) h = absurd (false≢true h)
no_transfer_in (bodies.Object system batch) h = refl
no_transfer_in (bodies.Confirm batch answer) h = refl
no_transfer_in (bodies.Cycle start) h = refl

no_transfer_of : (o : Option Message) → is_e (option_map_or (λ (m : Message). sort_of_body m.body) o Missing) ≡ true → option_map_or (λ (m : Message). transfer_in m.body) o None ≡ None
no_transfer_of None h = refl
no_transfer_of (Some m) h = no_transfer_in m.body h

pub no_transfer : (day : Day) (n : ℕ) → is_e (sort_of day n) ≡ true → transfer day n ≡ None
no_transfer day n h = no_transfer_of (message_at day n) h
