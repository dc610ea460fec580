-- How many records there were.
use Rattle.std.proofs.Common.{◌≡◌, ◌<◌, ◌+◌, [], ◌∷◌, Bool, true, false, None, length, refl, arith}
use Rattle.std.proofs.lemmas.List.{length-append}
use Rattle.std.proofs.lemmas.List.Sums.{sum_by-append}
use Rattle.batch_records.specs.Codes.{first_code}
use Rattle.batch_records.specs.Made.{account_from, accounts_of, answer_from, batch_from, cycle_from, entry_from, messages_from, objection_from, payment_from, reserve_from, reserves_from, so_far_of, stop_from, stops_of, system_from, systems_of, transfer_from, version_of}
use Rattle.batch_records.specs.Records.{Fields}
use Rattle.batch_records.specs.Sound.{entries_in}
use Rattle.batch_records.specs.Step.{IsInStep, after, after_kind, counted, with_entry, with_message}
use Rattle.batch_records.specs.Versions.{begins_with_ver}
use Rattle.batch_records.specs.declared.day.Message.{Message}
use Rattle.batch_records.specs.declared.kinds.RecordKind.{RecordKind}
use Rattle.batch_records.specs.declared.kinds.RecordKind.TheVariants as record_kinds
use Rattle.batch_records.specs.declared.so_far.SoFar.{SoFar}
use Rattle.batch_records.proofs.EntryFacts.{entry_counts}
use Rattle.batch_records.proofs.Fine.{IsFine, end_place, entry_place, fine, kind_known, started_as, ver_place}
use Rattle.batch_records.proofs.KeptFacts.{messages_so_far, setup_so_far, version_so_far}
use Rattle.batch_records.proofs.LastFacts.{length-with_last}
use Rattle.batch_records.proofs.SoundFacts.{at_most_one, few_reserves, few_stops}
use Rattle.batch_records.proofs.StepFacts.{sum_one}
use Rattle.batch_records.proofs.VersionFacts.{named_begins}
use Rattle.cash_amounts.specs.declared.limits.TheConstants.{MAX_ENTRIES_OF_DAY, MAX_MESSAGES}
use Rattle.batch_records.specs.Records.{field}

pub counted_first : counted (so_far_of []) ≡ 0
unfolding so_far_of version_of accounts_of messages_from reserves_from stops_of systems_of
counted_first = refl

-- one more message, without entries
counted_message : (s : SoFar) (m : Message) (batch : Bool) → s.started ≡ true → length (entries_in m.body) ≡ 0 → counted (with_message m batch s) ≡ counted s + 1
counted_message s m batch started none =
    rw (started, length-append s.messages (m ∷ []), sum_by-append (λ (m : Message). length (entries_in m.body)) s.messages (m ∷ []), sum_one (λ (m : Message). length (entries_in m.body)) m, none) (omega arith)

counted_kind : (kind : RecordKind) (s : SoFar) (r : Fields) → IsFine kind s r → IsInStep s → counted (after_kind kind s r) ≡ counted s + 1
unfolding after_kind
counted_kind record_kinds.Ver s r f h = rw (ver_place s r f, named_begins (field r 1)) (omega arith)
counted_kind record_kinds.Day s r f h = rw (started_as record_kinds.Day s r f) (omega arith)
counted_kind record_kinds.As s r f h = rw (started_as record_kinds.As s r f, length-append s.systems (system_from r ∷ [])) (omega arith)
counted_kind record_kinds.Acc s r f h = rw (started_as record_kinds.Acc s r f, length-append s.accounts (account_from r ∷ [])) (omega arith)
counted_kind record_kinds.Res s r f h = rw (started_as record_kinds.Res s r f, length-append s.reserves (reserve_from s.accounts r ∷ [])) (omega arith)
counted_kind record_kinds.Bat s r f h = counted_message s (batch_from s.version (length s.stops) [] r) true (started_as record_kinds.Bat s r f) refl
counted_kind record_kinds.Ent s r f h =
    rw (started_as record_kinds.Ent s r f, length-with_last (with_entry (entry_from r)) s.messages, entry_counts s.messages (entry_from r) (h.batch (entry_place s r f))) (omega arith)
counted_kind record_kinds.Pay s r f h = counted_message s (payment_from (length s.stops) r) false (started_as record_kinds.Pay s r f) refl
counted_kind record_kinds.Liq s r f h = counted_message s (transfer_from (length s.stops) r) false (started_as record_kinds.Liq s r f) refl
counted_kind record_kinds.Obj s r f h = counted_message s (objection_from (length s.stops) r) false (started_as record_kinds.Obj s r f) refl
counted_kind record_kinds.Cnf s r f h = counted_message s (answer_from (length s.stops) r) false (started_as record_kinds.Cnf s r f) refl
counted_kind record_kinds.Cyc s r f h = counted_message s (cycle_from (length s.stops) r) false (started_as record_kinds.Cyc s r f) refl
counted_kind record_kinds.Tim s r f h = rw (started_as record_kinds.Tim s r f, length-append s.stops (stop_from r ∷ [])) (omega arith)
counted_kind record_kinds.End s r f h = rw (started_as record_kinds.End s r f, end_place s r f) (omega arith)

pub counted_next : (s : SoFar) (r : Fields) → first_code s r ≡ None → IsInStep s → counted (after s r) ≡ counted s + 1
counted_next s r e h =
    let known = kind_known s r e in
    rw known.1 (counted_kind known.0 s r (fine known.0 s r e known.1) h)

-- no more records than a number of 32 bits counts
pub few_records : (s : SoFar) → IsInStep s → counted s < MAX_MESSAGES + MAX_ENTRIES_OF_DAY + 100000
few_records s h =
    let setup = setup_so_far s h in
    let rest = messages_so_far s h in
    let v = version_so_far s h in
    omega (arith, few_reserves s.accounts s.reserves v.each v.once, few_stops s.stops rest.stops_fit, setup.few_systems, setup.few_accounts, rest.few_messages, rest.few_entries, at_most_one s.started, at_most_one s.ended, at_most_one (begins_with_ver s.version))
