-- From where it has begun, the accepted day goes on by messages and stops alone.
use Rattle.std.proofs.Common.{◌≡◌, ◌∙◌, ◌++◌, ℕ, Bool, true, false, List, [], ◌∷◌, Some, None, Option, length, append_assoc, append-nil, refl, sym, ap, subst}
use Rattle.std.specs.Prelude.{◌||◌, if◌then◌else◌, fold}
use Rattle.std.specs.Option.{option_map_or}
use Rattle.batch_records.specs.Codes.{first_code, is_out_of_place}
use Rattle.std.proofs.lemmas.List.Sums.{fold-append}
use Rattle.batch_records.specs.Made.{batch_from, day_in, entry_from, is_batch, is_day, is_entry, is_entry_kind, is_late, so_far_of, version_of}
use Rattle.std.specs.List.{list_any}
use Rattle.batch_records.specs.Records.{Fields}
use Rattle.batch_records.specs.Step.{after_kind, with_entry, with_last}
use Rattle.batch_records.specs.DayRecord.{Day}
use Rattle.batch_records.specs.declared.day.DayCode.{DayCode}
use Rattle.batch_records.specs.declared.day.Message.{Message}
use Rattle.batch_records.specs.declared.kinds.RecordKind.{RecordKind}
use Rattle.batch_records.specs.declared.kinds.RecordKind.TheVariants as record_kinds
use Rattle.batch_records.specs.declared.so_far.SoFar.{SoFar}
use Rattle.batch_records.proofs.BoolFacts.{or_neither}
use Rattle.batch_records.proofs.Fine.{IsFine, entry_place, fine, kind_known}
use Rattle.batch_records.proofs.LastFacts.{with_last-split}
use Rattle.batch_records.proofs.StepFacts.{so_far_next}
use Rattle.live_records.specs.Heard.{Refuses, Breaks, Heard, Numbered, accept, calls_of, counted, day_of, fields_of, has_all, hear, heard, is_some_of, judge, judged_with, nothing, numbers_of, passed, refuse, taken, unless_whole}
use Rattle.live_records.proofs.AcceptedFacts.{KeptIn, code_behind, entry_kind, fields_alone, fields_last, fields_next, kept_hear, kept_nothing, kept_taken}
use Rattle.live_records.proofs.CallFacts.{after_of_kind, batch_kind, code_alone}
use Rattle.live_records.proofs.Continuing.{broken_stays, grows_hear}
use Rattle.live_records.proofs.FateFacts.{step_of}
use Rattle.live_order.specs.Longer.{longer}

-- ---- a day that goes on

pub record Further (before : Day) (now : Day) : Type 0 where
  pub messages : List Message
  pub stops : List ℕ
  pub is : now ≡ longer before messages stops

abbrev day_with : Day → List Message → List ℕ → Day
day_with day messages stops = record day { messages = messages; stops = stops }

longer_none : (day : Day) → day ≡ longer day [] []
longer_none day = sym (λ i. day_with day (append-nil day.messages i) (append-nil day.stops i))

pub further_not : (day : Day) → Further day day
further_not day = record { messages = []; stops = []; is = longer_none day }

pub further_then : (a b c : Day) → Further a b → Further b c → Further a c
further_then a b c f g = record {
  messages = f.messages ++ g.messages;
  stops = f.stops ++ g.stops;
  is = g.is ∙ ap (λ (day : Day). longer day g.messages g.stops) f.is ∙ (λ i. day_with a (append_assoc a.messages f.messages g.messages i) (append_assoc a.stops f.stops g.stops i));
}

further_by : (a b c : Day) → b ≡ c → Further a b → Further a c
further_by a b c e f = subst (λ (day : Day). Further a day) e f

-- ---- what one record makes of a day, judged where the day has begun

one_message : (s : SoFar) (m : Message) → Further (day_in s) (record (day_in s) { messages = s.messages ++ m ∷ [] })
one_message s m = record { messages = m ∷ []; stops = []; is = sym (λ i. day_with (day_in s) (s.messages ++ m ∷ []) (append-nil s.stops i)) }

one_stop : (s : SoFar) (t : ℕ) → Further (day_in s) (record (day_in s) { stops = s.stops ++ t ∷ [] })
one_stop s t = record { messages = []; stops = t ∷ []; is = sym (λ i. day_with (day_in s) (append-nil s.messages i) (s.stops ++ t ∷ [])) }

further_kind : (kind : RecordKind) (s t : SoFar) (r : Fields) → t.begun ≡ true → t.started ≡ true → IsFine kind t r → is_entry_kind kind ≡ false → Further (day_in s) (day_in (after_kind kind s r))
unfolding after_kind is_out_of_place
further_kind record_kinds.Ver s t r begun started f e = let none = (or_neither t.started _ f.place).0 in cc (none, started)
further_kind record_kinds.Day s t r begun started f e = let none = f.place in cc (none, started)
further_kind record_kinds.As s t r begun started f e = let none = (or_neither _ t.begun f.place).1 in cc (none, begun)
further_kind record_kinds.Acc s t r begun started f e = let none = (or_neither _ t.begun f.place).1 in cc (none, begun)
further_kind record_kinds.Res s t r begun started f e = let none = (or_neither _ t.begun f.place).1 in cc (none, begun)
further_kind record_kinds.Bat s t r begun started f e = one_message s _
further_kind record_kinds.Ent s t r begun started f e = cc e
further_kind record_kinds.Pay s t r begun started f e = one_message s _
further_kind record_kinds.Liq s t r begun started f e = one_message s _
further_kind record_kinds.Obj s t r begun started f e = one_message s _
further_kind record_kinds.Cnf s t r begun started f e = one_message s _
further_kind record_kinds.Cyc s t r begun started f e = one_message s _
further_kind record_kinds.Tim s t r begun started f e = one_stop s _
further_kind record_kinds.End s t r begun started f e = further_not (day_in s)

-- ---- the open batch

-- with its message the day is longer by that
record Opened (a b : List Numbered) : Type 0 where
  messages : List Message
  is : day_in (so_far_of (fields_of (a ++ b))) ≡ longer (day_in (so_far_of (fields_of a))) messages []
  one : is_some_of b ≡ true → (m : Message) × (messages ≡ m ∷ [])

abbrev OpenedIn : Heard → Type 0
OpenedIn h = Opened h.accepted h.batch

opened_not : (a : List Numbered) → Opened a []
opened_not a = record {
  messages = [];
  is = ap (λ (rows : List Fields). day_in (so_far_of rows)) (fields_alone a) ∙ longer_none (day_in (so_far_of (fields_of a)));
  one = λ e. cc e;
}

-- the day of the accepted records, as what they come to
abbrev day_at : List Numbered → Day
day_at records = day_in (so_far_of (fields_of records))

day_is : (h : Heard) → day_of h ≡ day_at h.accepted
unfolding so_far_of
day_is h = refl

entry_step : (s : SoFar) (r : Fields) → day_in (after_kind record_kinds.Ent s r) ≡ record (day_in s) { messages = with_last (with_entry (entry_from r)) s.messages }
unfolding after_kind
entry_step s r = refl

batch_step : (s : SoFar) (r : Fields) → day_in (after_kind record_kinds.Bat s r) ≡ record (day_in s) { messages = s.messages ++ batch_from s.version (length s.stops) [] r ∷ [] }
unfolding after_kind
batch_step s r = refl

opened_entry : (h : Heard) (r : Fields) → KeptIn h → OpenedIn h → is_entry r ≡ true → first_code (judged_with h) r ≡ None → Opened h.accepted (h.batch ++ (h.count, r) ∷ [])
opened_entry h r k o is e =
    let some : is_some_of h.batch ≡ true = entry_place (judged_with h) r (fine record_kinds.Ent (judged_with h) r e (entry_kind r is)) in
    let m : Message = (o.one some).0 in
    let changed : Message = with_entry (entry_from r) m in
    let now : so_far_of (fields_of (h.accepted ++ (h.batch ++ (h.count, r) ∷ []))) ≡ after_kind record_kinds.Ent (so_far_of (fields_of (h.accepted ++ h.batch))) r =
    ap so_far_of (fields_last h.accepted h.batch (h.count, r)) ∙ so_far_next (fields_of (h.accepted ++ h.batch)) r (code_behind h r k e) ∙ after_of_kind record_kinds.Ent (so_far_of (fields_of (h.accepted ++ h.batch))) r (entry_kind r is) in
    record {
      messages = changed ∷ [];
      is = ap day_in now ∙ entry_step (so_far_of (fields_of (h.accepted ++ h.batch))) r
          ∙ ap (λ (day : Day). record day { messages = with_last (with_entry (entry_from r)) day.messages }) (o.is ∙ ap (λ ms. longer (day_at h.accepted) ms []) (o.one some).1)
          ∙ ap (λ ms. day_with (day_at h.accepted) ms ((day_at h.accepted).stops ++ [])) (with_last-split (with_entry (entry_from r)) (day_at h.accepted).messages m);
      one = λ x. (changed, refl);
    }

opened_batch : (h : Heard) (r : Fields) → KeptIn h → h.batch ≡ [] → is_batch r ≡ true → first_code (judged_with h) r ≡ None → Opened h.accepted ((h.count, r) ∷ [])
unfolding one_message
opened_batch h r k none is e =
    let s : SoFar = so_far_of (fields_of h.accepted) in
    let m : Message = batch_from s.version (length s.stops) [] r in
    let now : so_far_of (fields_of (h.accepted ++ (h.count, r) ∷ [])) ≡ after_kind record_kinds.Bat (so_far_of (fields_of h.accepted)) r =
    ap so_far_of (fields_next h.accepted (h.count, r)) ∙ so_far_next (fields_of h.accepted) r (code_alone h r k none e) ∙ after_of_kind record_kinds.Bat (so_far_of (fields_of h.accepted)) r (batch_kind r is) in
    record {
      messages = m ∷ [];
      is = ap day_in now ∙ batch_step (so_far_of (fields_of h.accepted)) r ∙ (one_message (so_far_of (fields_of h.accepted)) m).is;
      one = λ x. (m, refl);
    }

opened_whole : (h : Heard) → OpenedIn h → OpenedIn (unless_whole h)
opened_whole h o = by (has_all (version_of (fields_of h.accepted)) h.batch)
  where
    by : (x : Bool) → OpenedIn (if x then taken h else h)
    by true = opened_not (h.accepted ++ h.batch)
    by false = o

further_taken : (h : Heard) → OpenedIn h → Further (day_at h.accepted) (day_at (taken h).accepted)
further_taken h o = record { messages = o.messages; stops = []; is = o.is }

further_whole : (h : Heard) → OpenedIn h → Further (day_at h.accepted) (day_at (unless_whole h).accepted)
further_whole h o = by (has_all (version_of (fields_of h.accepted)) h.batch)
  where
    by : (x : Bool) → Further (day_at h.accepted) (day_at (if x then taken h else h).accepted)
    by true = further_taken h o
    by false = further_not (day_at h.accepted)

further_single : (h : Heard) (r : Fields) → KeptIn h → h.begun ≡ true → h.batch ≡ [] → is_entry r ≡ false → first_code (judged_with h) r ≡ None → Further (day_at h.accepted) (day_at (h.accepted ++ (h.count, r) ∷ []))
unfolding so_far_of
further_single h r k begun none other e =
    let known = kind_known (judged_with h) r e in
    let kind : RecordKind = known.0 in
    let no_entry : is_entry_kind kind ≡ false = sym (ap (λ (o : Option RecordKind). option_map_or (λ x. is_entry_kind x) o false) known.1) ∙ other in
    let started : list_any is_day (fields_of (h.accepted ++ h.batch)) ≡ true =
    ap (λ (l : List Numbered). list_any is_day (fields_of (h.accepted ++ l))) none ∙ ap (list_any is_day) (fields_alone h.accepted) ∙ k.started begun in
    further_by (day_at h.accepted) (day_in (after_kind kind (so_far_of (fields_of h.accepted)) r)) (day_at (h.accepted ++ (h.count, r) ∷ []))
    (ap day_in (sym (ap so_far_of (fields_next h.accepted (h.count, r)) ∙ so_far_next (fields_of h.accepted) r (code_alone h r k none e) ∙ after_of_kind kind (so_far_of (fields_of h.accepted)) r known.1)))
    (further_kind kind (so_far_of (fields_of h.accepted)) (judged_with h) r begun started (fine kind (judged_with h) r e known.1) no_entry)

-- ---- a record that is heard

opened_accept : (h : Heard) (r : Fields) → KeptIn h → OpenedIn h → (is_entry r ≡ false → h.batch ≡ []) → first_code (judged_with h) r ≡ None → OpenedIn (accept h r)
unfolding accept
opened_accept h r k o none e = by (is_entry r) (is_batch r) refl refl
  where
    by : (x y : Bool) → is_entry r ≡ x → is_batch r ≡ y
        → OpenedIn (if x then unless_whole (record h { batch = h.batch ++ (h.count, r) ∷ [] }) else if y then unless_whole (record h { batch = (h.count, r) ∷ []; begun = true })
        else record h { accepted = h.accepted ++ (h.count, r) ∷ []; begun = h.begun || is_late r; calls = h.calls ++ calls_of r })
    by true y is other = opened_whole (record h { batch = h.batch ++ (h.count, r) ∷ [] }) (opened_entry h r k o is e)
    by false true is other = opened_whole (record h { batch = (h.count, r) ∷ []; begun = true }) (opened_batch h r k (none is) other e)
    by false false is other = subst (λ (l : List Numbered). Opened (h.accepted ++ (h.count, r) ∷ []) l) (sym (none is)) (opened_not (h.accepted ++ (h.count, r) ∷ []))

further_accept : (h : Heard) (r : Fields) → KeptIn h → OpenedIn h → h.begun ≡ true → (is_entry r ≡ false → h.batch ≡ []) → first_code (judged_with h) r ≡ None → Further (day_at h.accepted) (day_at (accept h r).accepted)
unfolding accept
further_accept h r k o begun none e = by (is_entry r) (is_batch r) refl refl
  where
    by : (x y : Bool) → is_entry r ≡ x → is_batch r ≡ y
        → Further (day_at h.accepted) (day_at (if x then unless_whole (record h { batch = h.batch ++ (h.count, r) ∷ [] }) else if y then unless_whole (record h { batch = (h.count, r) ∷ []; begun = true })
        else record h { accepted = h.accepted ++ (h.count, r) ∷ []; begun = h.begun || is_late r; calls = h.calls ++ calls_of r }).accepted)
    by true y is other = further_whole (record h { batch = h.batch ++ (h.count, r) ∷ [] }) (opened_entry h r k o is e)
    by false true is other = further_whole (record h { batch = (h.count, r) ∷ []; begun = true }) (opened_batch h r k (none is) other e)
    by false false is other = further_single h r k begun (none is) is e

opened_refuse : (h : Heard) (r : Fields) (c : DayCode) → OpenedIn h → OpenedIn (refuse h r c)
unfolding refuse
opened_refuse h r c o = by h.begun
  where
    by : (x : Bool) → OpenedIn (if x then record h { batch = []; dropped = h.dropped ++ numbers_of h.batch; passing = is_batch r || is_some_of h.batch; calls = h.calls ++ Refuses h.count c ∷ [] }
        else record h { broken = true; calls = h.calls ++ Breaks h.count c ∷ [] })
    by true = opened_not h.accepted
    by false = o

further_refuse : (h : Heard) (r : Fields) (c : DayCode) → Further (day_at h.accepted) (day_at (refuse h r c).accepted)
unfolding refuse
further_refuse h r c = by h.begun
  where
    by : (x : Bool) → Further (day_at h.accepted) (day_at (if x then record h { batch = []; dropped = h.dropped ++ numbers_of h.batch; passing = is_batch r || is_some_of h.batch; calls = h.calls ++ Refuses h.count c ∷ [] }
        else record h { broken = true; calls = h.calls ++ Breaks h.count c ∷ [] }).accepted)
    by true = further_not (day_at h.accepted)
    by false = further_not (day_at h.accepted)

opened_judge : (h : Heard) (r : Fields) → KeptIn h → OpenedIn h → (is_entry r ≡ false → h.batch ≡ []) → OpenedIn (judge h r)
opened_judge h r k o none = by (first_code (judged_with h) r) refl
  where
    by : (c : Option DayCode) → first_code (judged_with h) r ≡ c → OpenedIn (option_map_or (refuse h r) c (accept h r))
    by None e = opened_accept h r k o none e
    by (Some c) e = opened_refuse h r c o

further_judge : (h : Heard) (r : Fields) → KeptIn h → OpenedIn h → h.begun ≡ true → (is_entry r ≡ false → h.batch ≡ []) → Further (day_at h.accepted) (day_at (judge h r).accepted)
further_judge h r k o begun none = by (first_code (judged_with h) r) refl
  where
    by : (c : Option DayCode) → first_code (judged_with h) r ≡ c → Further (day_at h.accepted) (day_at (option_map_or (refuse h r) c (accept h r)).accepted)
    by None e = further_accept h r k o begun none e
    by (Some c) e = further_refuse h r c

opened_hear : (h : Heard) (r : Fields) → KeptIn h → OpenedIn h → OpenedIn (hear h r)
opened_hear h r k o = by h.broken refl
  where
    ways : (x : Bool) → is_entry r ≡ x → (z : Bool) → OpenedIn (if x then (if z then passed h else judge (counted h) r) else judge (counted (taken h)) r)
    ways true e true = o
    ways true e false = opened_judge (counted h) r k o (λ f. cc (e, f))
    ways false e z = opened_judge (counted (taken h)) r (kept_taken h.accepted h.batch h.begun k) (opened_not (h.accepted ++ h.batch)) (λ f. refl)

    by : (b : Bool) → h.broken ≡ b → OpenedIn (hear h r)
    by true e = subst OpenedIn (sym (broken_stays h r e)) o
    by false e = subst OpenedIn (sym (step_of h r e)) (ways (is_entry r) refl h.passing)

further_hear : (h : Heard) (r : Fields) → KeptIn h → OpenedIn h → h.begun ≡ true → Further (day_at h.accepted) (day_at (hear h r).accepted)
further_hear h r k o begun = by h.broken refl
  where
    ways : (x : Bool) → is_entry r ≡ x → (z : Bool) → Further (day_at h.accepted) (day_at (if x then (if z then passed h else judge (counted h) r) else judge (counted (taken h)) r).accepted)
    ways true e true = further_not (day_at h.accepted)
    ways true e false = further_judge (counted h) r k o begun (λ f. cc (e, f))
    ways false e z =
        further_then (day_at h.accepted) (day_at (taken h).accepted) (day_at (judge (counted (taken h)) r).accepted) (further_taken h o)
        (further_judge (counted (taken h)) r (kept_taken h.accepted h.batch h.begun k) (opened_not (h.accepted ++ h.batch)) begun (λ f. refl))

    by : (b : Bool) → h.broken ≡ b → Further (day_at h.accepted) (day_at (hear h r).accepted)
    by true e = subst (λ (g : Heard). Further (day_at h.accepted) (day_at g.accepted)) (sym (broken_stays h r e)) (further_not (day_at h.accepted))
    by false e = subst (λ (g : Heard). Further (day_at h.accepted) (day_at g.accepted)) (sym (step_of h r e)) (ways (is_entry r) refl h.passing)

-- ---- all of them

record IsHeld (h : Heard) : Type 0 where
  kept : KeptIn h
  open_batch : OpenedIn h

held_hear : (h : Heard) (r : Fields) → IsHeld h → IsHeld (hear h r)
held_hear h r i = record { kept = kept_hear h r i.kept; open_batch = opened_hear h r i.kept i.open_batch }

held_from : (h : Heard) (records : List Fields) → IsHeld h → IsHeld (fold hear h records)
held_from h [] i = i
held_from h (r ∷ records) i = held_from (hear h r) records (held_hear h r i)

further_from : (h : Heard) (records : List Fields) → IsHeld h → h.begun ≡ true → Further (day_at h.accepted) (day_at (fold hear h records).accepted)
further_from h [] i begun = further_not (day_at h.accepted)
further_from h (r ∷ records) i begun =
    further_then (day_at h.accepted) (day_at (hear h r).accepted) (day_at (fold hear (hear h r) records).accepted) (further_hear h r i.kept i.open_batch begun)
    (further_from (hear h r) records (held_hear h r i) ((grows_hear h r).begun begun))

held_all : (records : List Fields) → IsHeld (heard records)
unfolding heard
held_all records = held_from nothing records (record { kept = kept_nothing; open_batch = opened_not [] })

pub day_further : (records more : List Fields) → (heard records).begun ≡ true → Further (day_of (heard records)) (day_of (heard (records ++ more)))
unfolding heard
day_further records more begun =
    let first = day_is (heard records) in
    let last = day_is (heard (records ++ more)) in
    rw (first, last, fold-append hear nothing records more) (further_from (fold hear nothing records) more (held_all records) begun)

-- where the open batch has ended first
pub taken_further : (h : Heard) (r : Fields) → KeptIn h → h.begun ≡ true → Further (day_of (taken h)) (day_of (hear (taken h) r))
taken_further h r k begun =
    let first = day_is (taken h) in
    let last = day_is (hear (taken h) r) in
    rw (first, last) (further_hear (taken h) r (kept_taken h.accepted h.batch h.begun k) (opened_not (h.accepted ++ h.batch)) begun)
