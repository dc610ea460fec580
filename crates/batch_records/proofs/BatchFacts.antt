-- How records that end in a batch go on by an entry.
use Rattle.std.proofs.Common.{◌≡◌, ◌+◌, ℕ, List, [], ◌∷◌, ◌++◌, Option, Some, None, Bool, true, false, length, refl, cond, inl, inr, ap, zero-add, ◌∙◌}
use Rattle.std.specs.Prelude.{◌||◌, ◌&&◌, count_by, if◌then◌else◌}
use Rattle.std.specs.List.{cons_option, list_all}
use Rattle.std.specs.Option.{option_map_or}
use Rattle.std.proofs.lemmas.Bool.{cases_Bool}
use Rattle.std.proofs.lemmas.List.Sums.{sum_by-append}
use Rattle.batch_records.specs.Kinds.{kind_of}
use Rattle.batch_records.specs.Made.{batch_from, ends_in_batch, entries_at, entry_from, is_batch, is_batch_kind, is_entry, is_entry_kind, message_of, messages_from, stops_of, version_behind}
use Rattle.batch_records.specs.Records.{Fields}
use Rattle.batch_records.specs.Step.{with_entry, with_last}
use Rattle.batch_records.specs.declared.day.Message.{Message}
use Rattle.batch_records.specs.declared.kinds.RecordKind.{RecordKind}
use Rattle.batch_records.specs.declared.kinds.RecordKind.TheVariants as record_kinds
use Rattle.batch_records.proofs.BoolFacts.{and_both, or_either, or_true}

is_batch_known : (o : Option RecordKind) → option_map_or (λ kind. is_batch_kind kind) o false ≡ true → o ≡ Some record_kinds.Bat
is_batch_known None e = cc e
is_batch_known (Some record_kinds.Bat) e = refl
is_batch_known (Some _) e = cc e

pub is_entry_known : (o : Option RecordKind) → option_map_or (λ kind. is_entry_kind kind) o false ≡ true → o ≡ Some record_kinds.Ent
is_entry_known None e = cc e
is_entry_known (Some record_kinds.Ent) e = refl
is_entry_known (Some _) e = cc e

-- ---- whether records end in a batch

and_assoc : (a b c : Bool) → (a && (b && c)) ≡ ((a && b) && c)
and_assoc true b c = refl
and_assoc false b c = refl

all_next : {X : Type 0} (p : X → Bool) (xs : List X) (y : X) → list_all p (xs ++ y ∷ []) ≡ (list_all p xs && p y)
all_next p [] y = elim (p y) as (λ b. (b && true) ≡ b) [ true ↦ refl | false ↦ refl ]
all_next p (x ∷ xs) y = rw (all_next p xs y) (and_assoc (p x) (list_all p xs) (p y))

batch_first : (batch entry : Bool) → ((batch && true) || false) ≡ (batch || (entry && false))
batch_first true entry = refl
batch_first false true = refl
batch_first false false = refl

batch_more : (batch all entry next before : Bool) → ((batch && (all && entry)) || (next || (entry && before))) ≡ (next || (entry && ((batch && all) || before)))
batch_more batch all entry true before = or_true (batch && (all && entry))
batch_more true true true false before = refl
batch_more true true false false before = refl
batch_more true false entry false before = refl
batch_more false all entry false before = refl

-- records end in a batch where the last is one, or an entry after one
pub in_batch_next : (xs : List Fields) (r : Fields) → ends_in_batch (xs ++ r ∷ []) ≡ (is_batch r || (is_entry r && ends_in_batch xs))
in_batch_next [] r = batch_first (is_batch r) (is_entry r)
in_batch_next (x ∷ xs) r =
    rw (in_batch_next xs r, all_next is_entry xs r) (batch_more (is_batch x) (list_all is_entry xs) (is_entry r) (is_batch r) (ends_in_batch xs))

pub entries_count : (xs : List Fields) (r : Fields) → count_by is_entry (xs ++ r ∷ []) ≡ count_by is_entry xs + cond (is_entry r) 1 0
entries_count xs r = sum_by-append (λ x. cond (is_entry x) 1 0) xs (r ∷ []) ∙ ap (λ (n : ℕ). count_by is_entry xs + n) (zero-add (cond (is_entry r) 1 0))

-- ---- the entries at the front of records

pub entries_other : (xs : List Fields) (r : Fields) → is_entry r ≡ false → entries_at (xs ++ r ∷ []) ≡ entries_at xs
entries_other [] r e = rw e refl
entries_other (x ∷ xs) r e = rw (entries_other xs r e) refl

entries_all : (xs : List Fields) (r : Fields) → is_entry r ≡ true → list_all is_entry xs ≡ true → entries_at (xs ++ r ∷ []) ≡ entries_at xs ++ entry_from r ∷ []
entries_all [] r is all = rw is refl
entries_all (x ∷ xs) r is all =
    let both = and_both (is_entry x) (list_all is_entry xs) all in
    rw (both.0, entries_all xs r is both.1) refl

entries_some : (xs : List Fields) (r : Fields) → list_all is_entry xs ≡ false → entries_at (xs ++ r ∷ []) ≡ entries_at xs
entries_some [] r e = cc e
entries_some (x ∷ xs) r e =
    (elim (is_entry x) as (λ b. (b && list_all is_entry xs) ≡ false → (if b then entry_from x ∷ entries_at (xs ++ r ∷ []) else []) ≡ (if b then entry_from x ∷ entries_at xs else [])) [
      | true ↦ λ h. rw (entries_some xs r h) refl
      | false ↦ λ h. refl
    ]) e

-- ---- the messages of records that end in a batch

one_side : (a b : Bool) → (a || b) ≡ true → b ≡ false → a ≡ true
one_side true b e f = refl
one_side false b e f = cc (e, f)

other_side : (a b c : Bool) → ((a && b) || c) ≡ true → b ≡ false → c ≡ true
other_side a true c e f = cc f
other_side true false c e f = e
other_side false false c e f = e

-- entries alone make no message
messages_none : (v n : ℕ) (xs : List Fields) → list_all is_entry xs ≡ true → messages_from v n xs ≡ []
unfolding messages_from
messages_none v n [] all = refl
messages_none v n (x ∷ xs) all =
    let both = and_both (is_entry x) (list_all is_entry xs) all in
    rw (is_entry_known (kind_of x) both.0, messages_none v (n + length (stops_of (x ∷ []))) xs both.1) refl

no_batch_in : (xs : List Fields) → list_all is_entry xs ≡ true → ends_in_batch xs ≡ false
no_batch_in [] all = refl
no_batch_in (x ∷ xs) all =
    let both = and_both (is_entry x) (list_all is_entry xs) all in
    rw (is_entry_known (kind_of x) both.0, no_batch_in xs both.1) refl

messages_some : (v n : ℕ) (xs : List Fields) → ends_in_batch xs ≡ true → (m : Message) × (ms : List Message) × (messages_from v n xs ≡ m ∷ ms)
unfolding messages_from
messages_some v n [] e = cc e
messages_some v n (x ∷ xs) e =
    elim (or_either (is_batch x && list_all is_entry xs) (ends_in_batch xs) e) [
      | inl here ↦
          let both = and_both (is_batch x) (list_all is_entry xs) here in
          (batch_from v n (entries_at xs) x, messages_from (version_behind v x) (n + length (stops_of (x ∷ []))) xs, rw (is_batch_known (kind_of x) both.0) refl)
      | inr later ↦
          let (m, ms, is) = messages_some (version_behind v x) (n + length (stops_of (x ∷ []))) xs later in
          elim (message_of v n (entries_at xs) x) as (λ o. (m2 : Message) × (ms2 : List Message) × (cons_option o (messages_from (version_behind v x) (n + length (stops_of (x ∷ []))) xs) ≡ m2 ∷ ms2)) [
            | None ↦ (m, ms, is)
            | Some m2 ↦ (m2, messages_from (version_behind v x) (n + length (stops_of (x ∷ []))) xs, refl)
          ]
    ]

with_last-cons : {X : Type 0} (f : X → X) (o : Option X) (xs : List X) (y : X) (ys : List X) → xs ≡ y ∷ ys → cons_option o (with_last f xs) ≡ with_last f (cons_option o xs)
unfolding with_last
with_last-cons f None xs y ys e = refl
with_last-cons f (Some x) xs y ys e = rw e refl

-- an entry joins the last message
pub messages_entry : (v n : ℕ) (xs : List Fields) (r : Fields) → is_entry r ≡ true → ends_in_batch xs ≡ true
    → messages_from v n (xs ++ r ∷ []) ≡ with_last (with_entry (entry_from r)) (messages_from v n xs)
unfolding messages_from with_last
messages_entry v n [] r is batch = cc batch
messages_entry v n (x ∷ xs) r is batch =
    elim (cases_Bool (list_all is_entry xs)) [
      | inl all ↦
          let here = one_side (is_batch x && list_all is_entry xs) (ends_in_batch xs) batch (no_batch_in xs all) in
          let named = is_batch_known (kind_of x) (and_both (is_batch x) (list_all is_entry xs) here).0 in
          let every : list_all is_entry (xs ++ r ∷ []) ≡ true = all_next is_entry xs r ∙ rw (all, is) refl in
          rw (entries_all xs r is all, messages_none (version_behind v x) (n + length (stops_of (x ∷ []))) (xs ++ r ∷ []) every, messages_none (version_behind v x) (n + length (stops_of (x ∷ []))) xs all, named) refl
      | inr some ↦
          let later = other_side (is_batch x) (list_all is_entry xs) (ends_in_batch xs) batch some in
          let more = messages_entry (version_behind v x) (n + length (stops_of (x ∷ []))) xs r is later in
          let (m, ms, there) = messages_some (version_behind v x) (n + length (stops_of (x ∷ []))) xs later in
          rw (entries_some xs r some, more) (with_last-cons (with_entry (entry_from r)) (message_of v n (entries_at xs) x) (messages_from (version_behind v x) (n + length (stops_of (x ∷ []))) xs) m ms there)
    ]
