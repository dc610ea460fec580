-- What records call for is what the accepted day has: its messages, each after as many stops, and its stops.
use Rattle.std.proofs.Common.{◌≡◌, ◌∙◌, ◌+◌, ◌++◌, ℕ, suc, Bool, true, false, not, List, [], ◌∷◌, Some, None, Option, append_assoc, append-nil, length, length-append, refl, sym, ap, subst, arith, add-zero, zero-add}
use Rattle.std.specs.Prelude.{◌&&◌, ◌||◌, if◌then◌else◌, fold, map}
use Rattle.std.specs.Option.{option_map_or}
use Rattle.std.proofs.lemmas.List.{map-append}
use Rattle.batch_records.specs.Codes.{code_of, first_code}
use Rattle.batch_records.specs.Kinds.{is_message_kind, kind_of}
use Rattle.batch_records.specs.Made.{is_batch, is_batch_kind, is_entry, is_late, is_late_kind, messages_from, so_far_of, stops_of, version_of}
use Rattle.batch_records.specs.Records.{Fields}
use Rattle.batch_records.specs.Step.{after, after_kind, with_entry, with_last}
use Rattle.batch_records.specs.declared.day.DayCode.{DayCode}
use Rattle.batch_records.specs.declared.day.Entry.{Entry}
use Rattle.batch_records.specs.declared.day.Message.{Message}
use Rattle.batch_records.specs.declared.kinds.RecordKind.{RecordKind}
use Rattle.batch_records.specs.declared.kinds.RecordKind.TheVariants as record_kinds
use Rattle.batch_records.specs.declared.so_far.SoFar.{SoFar}
use Rattle.batch_records.proofs.Fine.{entry_place, fine, kind_known}
use Rattle.batch_records.proofs.StepFacts.{so_far_next}
use Rattle.live_records.specs.Heard.{Call, Takes, Stops, Refuses, Breaks, Heard, Numbered, accept, calls_of, calls_of_batch, counted, day_of, fields_of, has_all, hear, heard, is_some_of, judge, judged_with, nothing, numbers_of, passed, refuse, taken, unless_whole}
use Rattle.live_records.specs.Rounds.{rounds_called, stops_called}
use Rattle.live_records.proofs.AcceptedFacts.{KeptIn, code_behind, entry_kind, fields_alone, fields_last, fields_next, kept_hear, kept_nothing, kept_taken}
use Rattle.live_records.proofs.Continuing.{broken_stays}
use Rattle.live_records.proofs.FateFacts.{step_of}

-- ---- calls, one after the other

stops_append : (xs ys : List Call) → stops_called (xs ++ ys) ≡ stops_called xs + stops_called ys
stops_append [] ys = sym (zero-add (stops_called ys))
stops_append (Takes ∷ xs) ys = stops_append xs ys
stops_append (Stops ∷ xs) ys = let more = stops_append xs ys in omega (arith, more)
stops_append (Refuses n c ∷ xs) ys = stops_append xs ys
stops_append (Breaks n c ∷ xs) ys = stops_append xs ys

rounds_append : (before : ℕ) (xs ys : List Call) → rounds_called before (xs ++ ys) ≡ rounds_called before xs ++ rounds_called (before + stops_called xs) ys
rounds_append before [] ys = ap (λ k. rounds_called k ys) (sym (add-zero before))
rounds_append before (Takes ∷ xs) ys = ap (λ l. before ∷ l) (rounds_append before xs ys)
rounds_append before (Stops ∷ xs) ys =
    let same : before + 1 + stops_called xs ≡ before + suc (stops_called xs) = omega (arith) in
    rounds_append (before + 1) xs ys ∙ ap (λ k. rounds_called (before + 1) xs ++ rounds_called k ys) same
rounds_append before (Refuses n c ∷ xs) ys = rounds_append before xs ys
rounds_append before (Breaks n c ∷ xs) ys = rounds_append before xs ys

-- ---- what one record more makes of messages and stops

abbrev rounds_in : SoFar → List ℕ
rounds_in s = map (λ m. m.round) s.messages

abbrev is_stop_kind : RecordKind → Bool
is_stop_kind kind = is_late_kind kind && not (is_message_kind kind)

rounds_changed : (e : Entry) (ms : List Message) → map (λ (m : Message). m.round) (with_last (with_entry e) ms) ≡ map (λ (m : Message). m.round) ms
unfolding with_last
rounds_changed e [] = refl
rounds_changed e (m ∷ []) = refl
rounds_changed e (m ∷ n ∷ ms) = ap (λ l. m.round ∷ l) (rounds_changed e (n ∷ ms))

rounds_next : (kind : RecordKind) (s : SoFar) (r : Fields) → rounds_in (after_kind kind s r) ≡ rounds_in s ++ (if is_message_kind kind then length s.stops ∷ [] else [])
unfolding after_kind
rounds_next record_kinds.Ver s r = sym (append-nil (rounds_in s))
rounds_next record_kinds.Day s r = sym (append-nil (rounds_in s))
rounds_next record_kinds.As s r = sym (append-nil (rounds_in s))
rounds_next record_kinds.Acc s r = sym (append-nil (rounds_in s))
rounds_next record_kinds.Res s r = sym (append-nil (rounds_in s))
rounds_next record_kinds.Bat s r = map-append (λ (m : Message). m.round) s.messages _
rounds_next record_kinds.Ent s r = rounds_changed _ s.messages ∙ sym (append-nil (rounds_in s))
rounds_next record_kinds.Pay s r = map-append (λ (m : Message). m.round) s.messages _
rounds_next record_kinds.Liq s r = map-append (λ (m : Message). m.round) s.messages _
rounds_next record_kinds.Obj s r = map-append (λ (m : Message). m.round) s.messages _
rounds_next record_kinds.Cnf s r = map-append (λ (m : Message). m.round) s.messages _
rounds_next record_kinds.Cyc s r = map-append (λ (m : Message). m.round) s.messages _
rounds_next record_kinds.Tim s r = sym (append-nil (rounds_in s))
rounds_next record_kinds.End s r = sym (append-nil (rounds_in s))

stops_next : (kind : RecordKind) (s : SoFar) (r : Fields) → length (after_kind kind s r).stops ≡ length s.stops + (if is_stop_kind kind then 1 else 0)
unfolding after_kind
stops_next record_kinds.Ver s r = sym (add-zero (length s.stops))
stops_next record_kinds.Day s r = sym (add-zero (length s.stops))
stops_next record_kinds.As s r = sym (add-zero (length s.stops))
stops_next record_kinds.Acc s r = sym (add-zero (length s.stops))
stops_next record_kinds.Res s r = sym (add-zero (length s.stops))
stops_next record_kinds.Bat s r = sym (add-zero (length s.stops))
stops_next record_kinds.Ent s r = sym (add-zero (length s.stops))
stops_next record_kinds.Pay s r = sym (add-zero (length s.stops))
stops_next record_kinds.Liq s r = sym (add-zero (length s.stops))
stops_next record_kinds.Obj s r = sym (add-zero (length s.stops))
stops_next record_kinds.Cnf s r = sym (add-zero (length s.stops))
stops_next record_kinds.Cyc s r = sym (add-zero (length s.stops))
stops_next record_kinds.Tim s r = length-append s.stops _
stops_next record_kinds.End s r = sym (add-zero (length s.stops))

pub after_of_kind : (kind : RecordKind) (s : SoFar) (r : Fields) → kind_of r ≡ Some kind → after s r ≡ after_kind kind s r
after_of_kind kind s r is = ap (λ (o : Option RecordKind). option_map_or (λ k. after_kind k s r) o s) is

-- ---- calls that fit records

record Fits (rows : List Fields) (calls : List Call) : Type 0 where
  rounds : rounds_in (so_far_of rows) ≡ rounds_called 0 calls
  stops : length (so_far_of rows).stops ≡ stops_called calls

-- calls that are those of a record of a kind
record AreOfKind (kind : RecordKind) (calls : List Call) : Type 0 where
  rounds : (before : ℕ) → rounds_called before calls ≡ (if is_message_kind kind then before ∷ [] else [])
  stops : stops_called calls ≡ (if is_stop_kind kind then 1 else 0)

fits_next : (rows : List Fields) (calls more : List Call) (r : Fields) (kind : RecordKind) → code_of rows r ≡ None → kind_of r ≡ Some kind → AreOfKind kind more → Fits rows calls → Fits (rows ++ r ∷ []) (calls ++ more)
fits_next rows calls more r kind code is of f =
    let now : so_far_of (rows ++ r ∷ []) ≡ after_kind kind (so_far_of rows) r = so_far_next rows r code ∙ after_of_kind kind (so_far_of rows) r is in
    let more_stops : (if is_stop_kind kind then 1 else 0) ≡ stops_called more = sym of.stops in
    let none : 0 + stops_called calls ≡ stops_called calls = zero-add (stops_called calls) in
    record {
      rounds = ap rounds_in now ∙ rounds_next kind (so_far_of rows) r
          ∙ (λ i. f.rounds i ++ (if is_message_kind kind then f.stops i ∷ [] else []))
          ∙ sym (rounds_append 0 calls more ∙ ap (λ l. rounds_called 0 calls ++ l) (ap (λ k. rounds_called k more) none ∙ of.rounds (stops_called calls)));
      stops = ap (λ (s : SoFar). length s.stops) now ∙ stops_next kind (so_far_of rows) r ∙ (λ i. f.stops i + more_stops i) ∙ sym (stops_append calls more);
    }

of_entry : AreOfKind record_kinds.Ent []
of_entry = record { rounds = λ before. refl; stops = refl }

of_batch : AreOfKind record_kinds.Bat (Takes ∷ [])
of_batch = record { rounds = λ before. refl; stops = refl }

of_record : (kind : RecordKind) (r : Fields) → kind_of r ≡ Some kind → AreOfKind kind (calls_of r)
of_record kind r is = subst (λ (l : List Call). AreOfKind kind l) (sym calls) (record {
  rounds = λ before. rounds before (is_message_kind kind) (is_late_kind kind);
  stops = stops (is_message_kind kind) (is_late_kind kind);
})
  where
    calls : calls_of r ≡ (if is_message_kind kind then Takes ∷ [] else if is_late_kind kind then Stops ∷ [] else [])
    calls = ap (λ (o : Option RecordKind). if option_map_or is_message_kind o false then Takes ∷ [] else if option_map_or is_late_kind o false then Stops ∷ [] else []) is

    rounds : (before : ℕ) (x y : Bool) → rounds_called before (if x then Takes ∷ [] else if y then Stops ∷ [] else []) ≡ (if x then before ∷ [] else [])
    rounds before true y = refl
    rounds before false true = refl
    rounds before false false = refl

    stops : (x y : Bool) → stops_called (if x then Takes ∷ [] else if y then Stops ∷ [] else []) ≡ (if y && not x then 1 else 0)
    stops true true = refl
    stops true false = refl
    stops false true = refl
    stops false false = refl

-- ---- what each step keeps

record Called (accepted : List Numbered) (batch : List Numbered) (calls : List Call) : Type 0 where
  day : Fits (fields_of accepted) calls
  all : Fits (fields_of (accepted ++ batch)) (calls ++ calls_of_batch batch)

abbrev CalledIn : Heard → Type 0
CalledIn h = Called h.accepted h.batch h.calls

fits_by : (rows same : List Fields) (calls alike : List Call) → rows ≡ same → calls ≡ alike → Fits rows calls → Fits same alike
fits_by rows same calls alike e g f = subst (λ (l : List Call). Fits same l) g (subst (λ (l : List Fields). Fits l calls) e f)

called_alone : (a : List Numbered) (calls : List Call) → Fits (fields_of a) calls → Called a [] calls
called_alone a calls f = record { day = f; all = fits_by (fields_of a) (fields_of (a ++ [])) calls (calls ++ []) (sym (fields_alone a)) (sym (append-nil calls)) f }

called_taken : (h : Heard) → CalledIn h → CalledIn (taken h)
called_taken h k = called_alone (h.accepted ++ h.batch) (h.calls ++ calls_of_batch h.batch) k.all

called_whole : (h : Heard) → CalledIn h → CalledIn (unless_whole h)
called_whole h k = by (has_all (version_of (fields_of h.accepted)) h.batch)
  where
    by : (x : Bool) → CalledIn (if x then taken h else h)
    by true = called_taken h k
    by false = k

calls_stay : (b : List Numbered) (x : Numbered) → is_some_of b ≡ true → calls_of_batch b ≡ calls_of_batch (b ++ x ∷ [])
calls_stay [] x e = cc e
calls_stay (y ∷ b) x e = refl

called_entry : (h : Heard) (r : Fields) → KeptIn h → CalledIn h → is_entry r ≡ true → first_code (judged_with h) r ≡ None → Called h.accepted (h.batch ++ (h.count, r) ∷ []) h.calls
called_entry h r k c is e =
    let some : is_some_of h.batch ≡ true = entry_place (judged_with h) r (fine record_kinds.Ent (judged_with h) r e (entry_kind r is)) in
    record {
      day = c.day;
      all = fits_by (fields_of (h.accepted ++ h.batch) ++ r ∷ []) (fields_of (h.accepted ++ (h.batch ++ (h.count, r) ∷ []))) ((h.calls ++ calls_of_batch h.batch) ++ []) (h.calls ++ calls_of_batch (h.batch ++ (h.count, r) ∷ []))
          (sym (fields_last h.accepted h.batch (h.count, r))) (append-nil (h.calls ++ calls_of_batch h.batch) ∙ ap (λ l. h.calls ++ l) (calls_stay h.batch (h.count, r) some))
          (fits_next (fields_of (h.accepted ++ h.batch)) (h.calls ++ calls_of_batch h.batch) [] r record_kinds.Ent (code_behind h r k e) (entry_kind r is) of_entry c.all);
    }

pub batch_kind : (r : Fields) → is_batch r ≡ true → kind_of r ≡ Some record_kinds.Bat
batch_kind r e = by (kind_of r) e
  where
    by : (o : Option RecordKind) → option_map_or (λ kind. is_batch_kind kind) o false ≡ true → o ≡ Some record_kinds.Bat
    by None e = cc e
    by (Some record_kinds.Bat) e = refl
    by (Some _) e = cc e

pub code_alone : (h : Heard) (r : Fields) → KeptIn h → h.batch ≡ [] → first_code (judged_with h) r ≡ None → code_of (fields_of h.accepted) r ≡ None
code_alone h r k none e =
    subst (λ (rows : List Fields). code_of rows r ≡ None) (ap (λ (l : List Numbered). fields_of (h.accepted ++ l)) none ∙ fields_alone h.accepted) (code_behind h r k e)

called_batch : (h : Heard) (r : Fields) → KeptIn h → CalledIn h → h.batch ≡ [] → is_batch r ≡ true → first_code (judged_with h) r ≡ None → Called h.accepted ((h.count, r) ∷ []) h.calls
called_batch h r k c none is e = record {
  day = c.day;
  all = subst (λ (rows : List Fields). Fits rows (h.calls ++ Takes ∷ [])) (sym (fields_next h.accepted (h.count, r)))
      (fits_next (fields_of h.accepted) h.calls (Takes ∷ []) r record_kinds.Bat (code_alone h r k none e) (batch_kind r is) of_batch c.day);
}

called_single : (h : Heard) (r : Fields) → KeptIn h → CalledIn h → h.batch ≡ [] → first_code (judged_with h) r ≡ None → Called (h.accepted ++ (h.count, r) ∷ []) h.batch (h.calls ++ calls_of r)
called_single h r k c none e =
    let known = kind_known (judged_with h) r e in
    let kind : RecordKind = known.0 in
    subst (λ (l : List Numbered). Called (h.accepted ++ (h.count, r) ∷ []) l (h.calls ++ calls_of r)) (sym none)
    (called_alone (h.accepted ++ (h.count, r) ∷ []) (h.calls ++ calls_of r)
    (subst (λ (rows : List Fields). Fits rows (h.calls ++ calls_of r)) (sym (fields_next h.accepted (h.count, r)))
    (fits_next (fields_of h.accepted) h.calls (calls_of r) r kind (code_alone h r k none e) known.1 (of_record kind r known.1) c.day)))

called_accept : (h : Heard) (r : Fields) → KeptIn h → CalledIn h → (is_entry r ≡ false → h.batch ≡ []) → first_code (judged_with h) r ≡ None → CalledIn (accept h r)
unfolding accept
called_accept h r k c none e = by (is_entry r) (is_batch r) refl refl
  where
    by : (x y : Bool) → is_entry r ≡ x → is_batch r ≡ y
        → CalledIn (if x then unless_whole (record h { batch = h.batch ++ (h.count, r) ∷ [] }) else if y then unless_whole (record h { batch = (h.count, r) ∷ []; begun = true })
        else record h { accepted = h.accepted ++ (h.count, r) ∷ []; begun = h.begun || is_late r; calls = h.calls ++ calls_of r })
    by true y is other = called_whole (record h { batch = h.batch ++ (h.count, r) ∷ [] }) (called_entry h r k c is e)
    by false true is other = called_whole (record h { batch = (h.count, r) ∷ []; begun = true }) (called_batch h r k c (none is) other e)
    by false false is other = called_single h r k c (none is) e

-- a line of its own takes no message and reaches no stop
fits_told : (rows : List Fields) (calls more : List Call) (x : Call) → ((before : ℕ) (l : List Call) → rounds_called before (x ∷ l) ≡ rounds_called before l) → ((l : List Call) → stops_called (x ∷ l) ≡ stops_called l)
    → Fits rows (calls ++ more) → Fits rows ((calls ++ x ∷ []) ++ more)
fits_told rows calls more x p q f = record {
  rounds = f.rounds ∙ rounds_append 0 calls more ∙ ap (λ l. rounds_called 0 calls ++ l) (sym (p (0 + stops_called calls) more)) ∙ sym (rounds_append 0 calls (x ∷ more)) ∙ ap (rounds_called 0) (sym (append_assoc calls (x ∷ []) more));
  stops = f.stops ∙ stops_append calls more ∙ ap (λ k. stops_called calls + k) (sym (q more)) ∙ sym (stops_append calls (x ∷ more)) ∙ ap stops_called (sym (append_assoc calls (x ∷ []) more));
}

fits_told_last : (rows : List Fields) (calls : List Call) (x : Call) → ((before : ℕ) (l : List Call) → rounds_called before (x ∷ l) ≡ rounds_called before l) → ((l : List Call) → stops_called (x ∷ l) ≡ stops_called l)
    → Fits rows calls → Fits rows (calls ++ x ∷ [])
fits_told_last rows calls x p q f =
    fits_by rows rows ((calls ++ x ∷ []) ++ []) (calls ++ x ∷ []) refl (append-nil (calls ++ x ∷ [])) (fits_told rows calls [] x p q (fits_by rows rows calls (calls ++ []) refl (sym (append-nil calls)) f))

called_refuse : (h : Heard) (r : Fields) (c : DayCode) → CalledIn h → CalledIn (refuse h r c)
unfolding refuse
called_refuse h r c k = by h.begun
  where
    by : (x : Bool) → CalledIn (if x then record h { batch = []; dropped = h.dropped ++ numbers_of h.batch; passing = is_batch r || is_some_of h.batch; calls = h.calls ++ Refuses h.count c ∷ [] }
        else record h { broken = true; calls = h.calls ++ Breaks h.count c ∷ [] })
    by true = called_alone h.accepted (h.calls ++ Refuses h.count c ∷ []) (fits_told_last (fields_of h.accepted) h.calls (Refuses h.count c) (λ before l. refl) (λ l. refl) k.day)
    by false = record {
      day = fits_told_last (fields_of h.accepted) h.calls (Breaks h.count c) (λ before l. refl) (λ l. refl) k.day;
      all = fits_told (fields_of (h.accepted ++ h.batch)) h.calls (calls_of_batch h.batch) (Breaks h.count c) (λ before l. refl) (λ l. refl) k.all;
    }

called_judge : (h : Heard) (r : Fields) → KeptIn h → CalledIn h → (is_entry r ≡ false → h.batch ≡ []) → CalledIn (judge h r)
called_judge h r k c none = by (first_code (judged_with h) r) refl
  where
    by : (o : Option DayCode) → first_code (judged_with h) r ≡ o → CalledIn (option_map_or (refuse h r) o (accept h r))
    by None e = called_accept h r k c none e
    by (Some code) e = called_refuse h r code c

called_hear : (h : Heard) (r : Fields) → KeptIn h → CalledIn h → CalledIn (hear h r)
called_hear h r k c = by h.broken refl
  where
    ways : (x : Bool) → is_entry r ≡ x → (z : Bool) → CalledIn (if x then (if z then passed h else judge (counted h) r) else judge (counted (taken h)) r)
    ways true e true = c
    ways true e false = called_judge (counted h) r k c (λ f. cc (e, f))
    ways false e z = called_judge (counted (taken h)) r (kept_taken h.accepted h.batch h.begun k) (called_taken h c) (λ f. refl)

    by : (b : Bool) → h.broken ≡ b → CalledIn (hear h r)
    by true e = subst CalledIn (sym (broken_stays h r e)) c
    by false e = subst CalledIn (sym (step_of h r e)) (ways (is_entry r) refl h.passing)

called_from : (h : Heard) (records : List Fields) → KeptIn h → CalledIn h → CalledIn (fold hear h records)
called_from h [] k c = c
called_from h (r ∷ records) k c = called_from (hear h r) records (kept_hear h r k) (called_hear h r k c)

none_fits : Fits [] []
unfolding so_far_of messages_from stops_of
none_fits = record { rounds = refl; stops = refl }

called_all : (records : List Fields) → CalledIn (heard records)
unfolding heard
called_all records = called_from nothing records kept_nothing (record { day = none_fits; all = none_fits })

pub rounds_fit : (records : List Fields) → rounds_called 0 (heard records).calls ≡ map (λ (m : Message). m.round) (day_of (heard records)).messages
unfolding so_far_of
rounds_fit records = sym (called_all records).day.rounds

pub stops_fit : (records : List Fields) → stops_called (heard records).calls ≡ length (day_of (heard records)).stops
unfolding so_far_of
stops_fit records = sym (called_all records).day.stops
