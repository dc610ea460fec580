-- A batch of a sound day has few entries.
use Rattle.std.proofs.Common.{◌≡◌, ◌≤◌, ℕ, zero, suc, true, [], Option, Some, None, length, refl, arith}
use Rattle.std.specs.Prelude.{nat_le}
use Rattle.std.specs.List.{list_all}
use Rattle.std.specs.Option.{option_map_or}
use Rattle.std.proofs.lemmas.Bool.{and_parts, leb-true}
use Rattle.cash_amounts.specs.declared.limits.TheConstants.{MAX_ENTRIES}
use Rattle.batch_records.specs.DayRecord.{Day}
use Rattle.batch_records.specs.declared.day.Message.{Message}
use Rattle.batch_records.specs.declared.day.Body.{Body}
use Rattle.batch_records.specs.declared.day.Body.TheVariants as bodies
use Rattle.batch_records.specs.Repeats.{message_at}
use Rattle.batch_records.specs.Sound.{entries_in, is_amount, is_sound, is_sound_body}
use Rattle.batch_records.proofs.SoundFacts.{message_parts}
use Rattle.machine.specs.Records.Messages.{entries}
use Rattle.machine.proofs.Lists.{all_get}

pub few_in : (b : Body) → is_sound_body b ≡ true → length (entries_in b) ≤ MAX_ENTRIES
few_in (bodies.Batch p info early till count sum es) h =
    let most = and_parts _ (list_all (λ e. is_amount e.amount) es) h in
    leb-true _ _ (and_parts _ (nat_le (length es) MAX_ENTRIES) most.0).1
few_in (bodies.Pay high debit credit amount) h = omega arith
few_in (bodies.Liquidity debit credit amount) h = omega arith
few_in (bodies.Object system batch) h = omega arith
few_in (bodies.Confirm batch answer) h = omega arith
few_in (bodies.Cycle start) h = omega arith

few_at : (day : Day) (n : ℕ) (o : Option Message) → is_sound day ≡ true → message_at day n ≡ o → length (option_map_or (λ (m : Message). entries_in m.body) o []) ≤ MAX_ENTRIES
few_at day n None h e = omega arith
few_at day zero (Some m) h e = cc
few_at day (suc i) (Some m) h e = few_in m.body (all_get (λ (x : Message). is_sound_body x.body) day.messages i m (message_parts day h).bodies e)

pub few_entries : (day : Day) (n : ℕ) → is_sound day ≡ true → length (entries day n) ≤ MAX_ENTRIES
few_entries day n h = few_at day n (message_at day n) h refl
