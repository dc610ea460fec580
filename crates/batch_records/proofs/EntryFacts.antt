-- One more entry of the last message, which is a batch.
use Rattle.std.proofs.Common.{◌≡◌, ◌<◌, ◌≤◌, ◌+◌, ◌^◌, ℕ, List, [], ◌∷◌, ◌++◌, Bool, true, length, length-append, refl, arith, ◌∙◌}
use Rattle.std.specs.Prelude.{◌&&◌, nat_le, nat_lt, sum_by}
use Rattle.std.specs.List.{list_all}
use Rattle.std.proofs.lemmas.List.Folds.{list_all-append}
use Rattle.std.proofs.lemmas.List.Sums.{sum_by-append}
use Rattle.cash_amounts.specs.Names.{is_id, is_name}
use Rattle.batch_records.specs.Codes.{last_entries}
use Rattle.batch_records.specs.Sound.{entries_in, is_amount, is_sound_body, is_spelled_body, is_spelled_entry, is_spelled_message, are_times, rounds_rise, has_few_entries, has_fit_earliest}
use Rattle.batch_records.specs.Step.{EndInBatch, body_with, is_batch_body, with_entry, with_last}
use Rattle.batch_records.specs.declared.day.Body.{Body}
use Rattle.batch_records.specs.declared.day.Body.TheVariants as body
use Rattle.batch_records.specs.declared.day.Entry.{Entry}
use Rattle.batch_records.specs.declared.day.Message.{Message}
use Rattle.batch_records.specs.declared.day.Reserve.{Reserve}
use Rattle.cash_amounts.specs.declared.records.AccountRecord.{AccountRecord}
use Rattle.batch_records.proofs.BoolFacts.{and_both, le_test}
use Rattle.batch_records.proofs.LastFacts.{last_is, with_last-split}
use Rattle.batch_records.proofs.SoundFacts.{MessageParts, all_next, VersionParts, most_at_most}
use Rattle.batch_records.proofs.StepFacts.{sum_one}
use Rattle.batch_records.specs.Versions.{most_entries, most_entries_of_day}
use Rattle.batch_records.proofs.VersionFacts.{entries_at_most}

-- ---- a batch with one more entry

more_entries : (b : Body) (e : Entry) → is_batch_body b ≡ true → length (entries_in (body_with e b)) ≡ length (entries_in b) + 1
more_entries (body.Batch p info early till count sum entries) e is = length-append entries (e ∷ [])
more_entries (body.Pay high debit credit amount) e is = cc is
more_entries (body.Liquidity debit credit amount) e is = cc is
more_entries (body.Object system batch) e is = cc is
more_entries (body.Confirm batch answer) e is = cc is
more_entries (body.Cycle start) e is = cc is

sound_with : (b : Body) (e : Entry) → is_amount e.amount ≡ true → length (entries_in b) < 50000 → is_sound_body b ≡ true → is_sound_body (body_with e b) ≡ true
sound_with (body.Batch p info early till count sum entries) e amount few h =
    let all = and_both _ (list_all (λ e. is_amount e.amount) entries) h in
    let front = and_both (are_times info early till && nat_le sum (10 ^ 18)) (nat_le (length entries) 50000) all.0 in
    rw (front.0, le_test (length (entries ++ e ∷ [])) 50000 (omega (arith, length-append entries (e ∷ []))), all_next (λ (e : Entry). is_amount e.amount) entries e all.1 amount) refl
sound_with (body.Pay high debit credit sum) e amount few h = h
sound_with (body.Liquidity debit credit sum) e amount few h = h
sound_with (body.Object system batch) e amount few h = h
sound_with (body.Confirm batch answer) e amount few h = h
sound_with (body.Cycle start) e amount few h = h

fit_with : (version : ℕ) (b : Body) (e : Entry) → has_fit_earliest version b ≡ true → has_fit_earliest version (body_with e b) ≡ true
fit_with version (body.Batch p info early till count sum entries) e h = h
fit_with version (body.Pay high debit credit amount) e h = h
fit_with version (body.Liquidity debit credit amount) e h = h
fit_with version (body.Object system batch) e h = h
fit_with version (body.Confirm batch answer) e h = h
fit_with version (body.Cycle start) e h = h

spelled_with : (b : Body) (e : Entry) → is_spelled_entry e ≡ true → is_spelled_body b ≡ true → is_spelled_body (body_with e b) ≡ true
spelled_with (body.Batch p info early till count sum entries) e names h =
    let both = and_both (nat_lt count (10 ^ 7)) (list_all is_spelled_entry entries) h in
    rw (both.0, all_next is_spelled_entry entries e both.1 names) refl
spelled_with (body.Pay high debit credit amount) e names h = h
spelled_with (body.Liquidity debit credit amount) e names h = h
spelled_with (body.Object system batch) e names h = h
spelled_with (body.Confirm batch answer) e names h = h
spelled_with (body.Cycle start) e names h = h

message_spelled_with : (m : Message) (e : Entry) → is_spelled_entry e ≡ true → is_spelled_message m ≡ true → is_spelled_message (with_entry e m) ≡ true
message_spelled_with m e names h =
    let both = and_both (is_name m.sender && is_id m.id) (is_spelled_body m.body) h in
    rw (both.0, spelled_with m.body e names both.1) refl

-- ---- messages whose last is a batch with one more entry

all_split : {X : Type 0} (p : X → Bool) (xs : List X) (y : X) → list_all p (xs ++ y ∷ []) ≡ true → (list_all p xs ≡ true) × (p y ≡ true)
all_split p xs y h =
    let both = and_both (list_all p xs) (list_all p (y ∷ [])) (rw (list_all-append p xs (y ∷ [])) at h) in
    (both.0, (and_both (p y) true both.1).0)

rounds_same : (last before : ℕ) (ms : List Message) (m n : Message) → n.round ≡ m.round → rounds_rise last before (ms ++ m ∷ []) ≡ true → rounds_rise last before (ms ++ n ∷ []) ≡ true
rounds_same last before [] m n is h = rw is h
rounds_same last before (x ∷ xs) m n is h =
    let rest = and_both _ (rounds_rise last x.round (xs ++ m ∷ [])) h in
    rw (rest.0, rounds_same last x.round xs m n is rest.1) refl

sum_split : (ms : List Message) (m : Message) → sum_by (λ m. length (entries_in m.body)) (ms ++ m ∷ []) ≡ sum_by (λ m. length (entries_in m.body)) ms + length (entries_in m.body)
sum_split ms m = sum_by-append (λ (m : Message). length (entries_in m.body)) ms (m ∷ []) ∙ rw (sum_one (λ (m : Message). length (entries_in m.body)) m) refl

pub last_entries_are : (ms : List Message) (m : Message) → last_entries (ms ++ m ∷ []) ≡ length (entries_in m.body)
last_entries_are ms m = rw (last_is ms m) refl

fits_split : (version : ℕ) (stops : List ℕ) (ms : List Message) (m : Message) (e : Entry) → is_batch_body m.body ≡ true → MessageParts version stops (ms ++ m ∷ []) → is_amount e.amount ≡ true → is_spelled_entry e ≡ true
    → last_entries (ms ++ m ∷ []) < most_entries version → sum_by (λ m. length (entries_in m.body)) (ms ++ m ∷ []) < most_entries_of_day version → MessageParts version stops (ms ++ with_entry e m ∷ [])
fits_split version stops ms m e batch p amount names few all_few =
    let bodies = all_split (λ (m : Message). is_sound_body m.body) ms m p.bodies in
    let spelled = all_split is_spelled_message ms m p.spelled_messages in
    let room : length (entries_in m.body) < most_entries version = rw (last_entries_are ms m) at few in
    let own : length (entries_in m.body) < 50000 = omega (arith, room, most_at_most version) in
    let messages = p.few_messages in
    let messages_fit = p.messages_fit in
    let entries_fit : sum_by (λ m. length (entries_in m.body)) (ms ++ with_entry e m ∷ []) ≤ most_entries_of_day version = omega (arith, all_few, sum_split ms m, sum_split ms (with_entry e m), more_entries m.body e batch) in
    record {
      stops_fit = p.stops_fit;
      rounds = rounds_same (length stops) 0 ms m (with_entry e m) refl p.rounds;
      bodies = all_next (λ (m : Message). is_sound_body m.body) ms (with_entry e m) bodies.0 (sound_with m.body e amount own bodies.1);
      messages_fit = omega (arith, messages_fit, length-append ms (m ∷ []), length-append ms (with_entry e m ∷ []));
      entries_fit = entries_fit;
      few_messages = omega (arith, messages, length-append ms (m ∷ []), length-append ms (with_entry e m ∷ []));
      few_entries = omega (arith, entries_fit, entries_at_most version);
      spelled_messages = all_next is_spelled_message ms (with_entry e m) spelled.0 (message_spelled_with m e names spelled.1);
    }

pub entry_fits : (version : ℕ) (stops : List ℕ) (messages : List Message) (e : Entry) → EndInBatch messages → MessageParts version stops messages → is_amount e.amount ≡ true → is_spelled_entry e ≡ true
    → last_entries messages < most_entries version → sum_by (λ m. length (entries_in m.body)) messages < most_entries_of_day version → MessageParts version stops (with_last (with_entry e) messages)
entry_fits version stops messages e b p amount names few all_few =
    rw (b.split, with_last-split (with_entry e) b.before b.last)
    (fits_split version stops b.before b.last e b.batch (rw b.split at p) amount names (rw b.split at few) (rw b.split at all_few))

few_split : (version : ℕ) (accounts : List AccountRecord) (reserves : List Reserve) (ms : List Message) (m : Message) (e : Entry) → is_batch_body m.body ≡ true → VersionParts version accounts reserves (ms ++ m ∷ []) → last_entries (ms ++ m ∷ []) < most_entries version
    → VersionParts version accounts reserves (ms ++ with_entry e m ∷ [])
few_split version accounts reserves ms m e batch v few =
    let before = all_split (has_few_entries version) ms m v.few in
    let room : length (entries_in m.body) < most_entries version = rw (last_entries_are ms m) at few in
    let own : has_few_entries version (with_entry e m) ≡ true = le_test (length (entries_in (body_with e m.body))) (most_entries version) (omega (arith, room, more_entries m.body e batch)) in
    let times = all_split (λ (m : Message). has_fit_earliest version m.body) ms m v.earliest in
    record {
      known = v.known;
      few = all_next (has_few_entries version) ms (with_entry e m) before.0 own;
      earliest = all_next (λ (m : Message). has_fit_earliest version m.body) ms (with_entry e m) times.0 (fit_with version m.body e times.1);
      labels = v.labels;
      each = v.each;
      once = v.once;
    }

pub entry_of_version : (version : ℕ) (accounts : List AccountRecord) (reserves : List Reserve) (messages : List Message) (e : Entry) → EndInBatch messages → VersionParts version accounts reserves messages → last_entries messages < most_entries version
    → VersionParts version accounts reserves (with_last (with_entry e) messages)
entry_of_version version accounts reserves messages e b v few =
    rw (b.split, with_last-split (with_entry e) b.before b.last) (few_split version accounts reserves b.before b.last e b.batch (rw b.split at v) (rw b.split at few))

pub entry_counts : (messages : List Message) (e : Entry) → EndInBatch messages → sum_by (λ m. length (entries_in m.body)) (with_last (with_entry e) messages) ≡ sum_by (λ m. length (entries_in m.body)) messages + 1
entry_counts messages e b =
    rw (b.split, with_last-split (with_entry e) b.before b.last)
    (omega (arith, sum_split b.before b.last, sum_split b.before (with_entry e b.last), more_entries b.last.body e b.batch))

batch_with : (b : Body) (e : Entry) → is_batch_body b ≡ true → is_batch_body (body_with e b) ≡ true
batch_with (body.Batch p info early till count sum entries) e is = refl
batch_with (body.Pay high debit credit amount) e is = cc is
batch_with (body.Liquidity debit credit amount) e is = cc is
batch_with (body.Object system batch) e is = cc is
batch_with (body.Confirm batch answer) e is = cc is
batch_with (body.Cycle start) e is = cc is

pub entry_ends : (messages : List Message) (e : Entry) → EndInBatch messages → EndInBatch (with_last (with_entry e) messages)
entry_ends messages e b = record {
  before = b.before;
  last = with_entry e b.last;
  split = rw b.split (with_last-split (with_entry e) b.before b.last);
  batch = batch_with b.last.body e b.batch;
}
