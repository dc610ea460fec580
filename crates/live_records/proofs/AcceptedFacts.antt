-- The accepted records have no code, and the day that they make is sound.
use Rattle.std.proofs.Common.{◌≡◌, ◌∙◌, ◌++◌, Bool, true, false, List, [], ◌∷◌, Some, None, Option, append_assoc, append-nil, refl, sym, ap, subst}
use Rattle.std.specs.Prelude.{◌&&◌, ◌||◌, if◌then◌else◌, fold}
use Rattle.std.specs.List.{list_any}
use Rattle.std.specs.Option.{option_map_or}
use Rattle.std.proofs.lemmas.List.{map-append}
use Rattle.std.proofs.lemmas.List.Folds.{list_any-append}
use Rattle.batch_records.specs.Codes.{code_of, first_code}
use Rattle.batch_records.specs.Days.{bad_records}
use Rattle.batch_records.specs.Kinds.{kind_of}
use Rattle.batch_records.specs.Made.{ends_in_batch, is_batch, is_batch_kind, is_day, is_entry, is_late, is_late_kind, so_far_of, version_of}
use Rattle.batch_records.specs.Records.{Fields}
use Rattle.batch_records.specs.Sound.{is_sound}
use Rattle.batch_records.specs.Step.{IsInStep}
use Rattle.batch_records.specs.declared.day.DayCode.{DayCode}
use Rattle.batch_records.specs.declared.kinds.RecordKind.{RecordKind}
use Rattle.batch_records.specs.declared.kinds.RecordKind.TheVariants as record_kinds
use Rattle.batch_records.specs.declared.so_far.SoFar.{SoFar}
use Rattle.batch_records.proofs.BatchFacts.{in_batch_next, is_entry_known}
use Rattle.batch_records.proofs.Fine.{StartedAs, entry_place, fine, kind_known, started_as}
use Rattle.batch_records.proofs.JudgeFacts.{bad_next, bad_none}
use Rattle.batch_records.proofs.KeptFacts.{day_sound, in_step_first, in_step_next}
use Rattle.batch_records.proofs.StepFacts.{so_far_next}
use Rattle.live_records.specs.Heard.{Refuses, Breaks, Heard, Numbered, accept, calls_of, counted, day_of, fields_of, has_all, has_end, hear, heard, is_some_of, judge, judged_with, nothing, numbers_of, passed, refuse, taken, unless_whole}
pub use Rattle.live_records.specs.Kept.{AreFine, Kept, KeptIn}
use Rattle.live_records.proofs.Continuing.{broken_stays}
use Rattle.live_records.proofs.FateFacts.{step_of}
use Rattle.live_records.proofs.JudgedFacts.{code_less}

fine_next : (rows : List Fields) (r : Fields) → code_of rows r ≡ None → AreFine rows → AreFine (rows ++ r ∷ [])
fine_next rows r code f = record {
  fine = bad_next rows r f.fine code;
  step = subst IsInStep (sym (so_far_next rows r code)) (in_step_next (so_far_of rows) r code f.step);
}

-- ---- lists

pub fields_append : (xs ys : List Numbered) → fields_of (xs ++ ys) ≡ fields_of xs ++ fields_of ys
fields_append xs ys = map-append (λ (x : Numbered). x.1) xs ys

pub fields_next : (xs : List Numbered) (x : Numbered) → fields_of (xs ++ x ∷ []) ≡ fields_of xs ++ x.1 ∷ []
fields_next xs x = fields_append xs (x ∷ [])

pub fields_last : (xs ys : List Numbered) (x : Numbered) → fields_of (xs ++ (ys ++ x ∷ [])) ≡ fields_of (xs ++ ys) ++ x.1 ∷ []
fields_last xs ys x = ap fields_of (sym (append_assoc xs ys (x ∷ []))) ∙ fields_next (xs ++ ys) x

pub fields_alone : (xs : List Numbered) → fields_of (xs ++ []) ≡ fields_of xs
fields_alone xs = ap fields_of (append-nil xs)

or_first : (a b : Bool) → a ≡ true → (a || b) ≡ true
or_first true b e = refl
or_first false b e = cc e

pub any_front : (p : Fields → Bool) (xs ys : List Numbered) → list_any p (fields_of xs) ≡ true → list_any p (fields_of (xs ++ ys)) ≡ true
any_front p xs ys e =
    ap (list_any p) (fields_append xs ys) ∙ list_any-append p (fields_of xs) (fields_of ys) ∙ or_first (list_any p (fields_of xs)) (list_any p (fields_of ys)) e

-- ---- records by their kinds

late_started : (kind : RecordKind) (b : Bool) → is_late_kind kind ≡ true → StartedAs kind b → b ≡ true
late_started record_kinds.Ver b e s = cc e
late_started record_kinds.Day b e s = cc e
late_started record_kinds.As b e s = s
late_started record_kinds.Acc b e s = s
late_started record_kinds.Res b e s = s
late_started record_kinds.Bat b e s = s
late_started record_kinds.Ent b e s = s
late_started record_kinds.Pay b e s = s
late_started record_kinds.Liq b e s = s
late_started record_kinds.Obj b e s = s
late_started record_kinds.Cnf b e s = s
late_started record_kinds.Cyc b e s = s
late_started record_kinds.Tim b e s = s
late_started record_kinds.End b e s = s

-- a message or a stop without a code stands after DAY
pub late_behind_day : (s : SoFar) (r : Fields) → first_code s r ≡ None → is_late r ≡ true → s.started ≡ true
late_behind_day s r e late =
    let known = kind_known s r e in
    let is : is_late_kind known.0 ≡ true = rw known.1 at late in
    late_started known.0 s.started is (started_as known.0 s r (fine known.0 s r e known.1))

pub entry_kind : (r : Fields) → is_entry r ≡ true → kind_of r ≡ Some record_kinds.Ent
entry_kind r e = is_entry_known (kind_of r) e

pub entry_not_late : (r : Fields) → is_entry r ≡ true → is_late r ≡ false
entry_not_late r e = rw (entry_kind r e) refl

pub batch_late : (r : Fields) → is_batch r ≡ true → is_late r ≡ true
batch_late r e = by (kind_of r) e
  where
    by : (o : Option RecordKind) → option_map_or (λ kind. is_batch_kind kind) o false ≡ true → option_map_or (λ kind. is_late_kind kind) o false ≡ true
    by None e = cc e
    by (Some record_kinds.Bat) e = refl
    by (Some _) e = cc e

-- ---- what each step keeps

pub kept_taken : (a b : List Numbered) (begun : Bool) → Kept a b begun → Kept (a ++ b) [] begun
kept_taken a b begun k = record {
  day = k.all;
  all = subst AreFine (sym (fields_alone (a ++ b))) k.all;
  late = λ e. k.late (ap (list_any is_late) (sym (fields_alone (a ++ b))) ∙ e);
  batched = λ e. cc e;
  started = λ e. any_front is_day a b (k.started e);
}

pub kept_whole : (h : Heard) → KeptIn h → KeptIn (unless_whole h)
kept_whole h k = by (has_all (version_of (fields_of h.accepted)) h.batch)
  where
    by : (x : Bool) → KeptIn (if x then taken h else h)
    by true = kept_taken h.accepted h.batch h.begun k
    by false = k

-- with a batch refused, or none open
pub kept_alone : (a b : List Numbered) (begun : Bool) → Kept a b begun → Kept a [] begun
kept_alone a b begun k = record {
  day = k.day;
  all = subst AreFine (sym (fields_alone a)) k.day;
  late = λ e. k.late (any_front is_late a b (ap (list_any is_late) (sym (fields_alone a)) ∙ e));
  batched = λ e. cc e;
  started = k.started;
}

-- the code of a record that is fine where it is judged
pub code_behind : (h : Heard) (r : Fields) → KeptIn h → first_code (judged_with h) r ≡ None → code_of (fields_of (h.accepted ++ h.batch)) r ≡ None
unfolding so_far_of
code_behind h r k e = code_less (so_far_of (fields_of (h.accepted ++ h.batch))) h.begun (is_some_of h.batch) r k.late k.batched e

last_any : (p : Fields → Bool) (rows : List Fields) (r : Fields) → list_any p (rows ++ r ∷ []) ≡ (list_any p rows || p r)
last_any p rows r = list_any-append p rows (r ∷ []) ∙ by (list_any p rows) (p r)
  where
    by : (x y : Bool) → (x || (y || false)) ≡ (x || y)
    by true y = refl
    by false true = refl
    by false false = refl

pub kept_entry : (h : Heard) (r : Fields) → KeptIn h → is_entry r ≡ true → first_code (judged_with h) r ≡ None → Kept h.accepted (h.batch ++ (h.count, r) ∷ []) h.begun
unfolding so_far_of
kept_entry h r k is e =
    let longer = fields_last h.accepted h.batch (h.count, r) in
    let code = code_behind h r k e in
    let some : is_some_of h.batch ≡ true = entry_place (judged_with h) r (fine record_kinds.Ent (judged_with h) r e (entry_kind r is)) in
    record {
      day = k.day;
      all = subst AreFine (sym longer) (fine_next (fields_of (h.accepted ++ h.batch)) r code k.all);
      late = λ l. k.late (sym (or_none (list_any is_late (fields_of (h.accepted ++ h.batch))) (is_late r) (entry_not_late r is)) ∙ sym (last_any is_late (fields_of (h.accepted ++ h.batch)) r) ∙ ap (list_any is_late) (sym longer) ∙ l);
      batched = λ l. ap ends_in_batch longer ∙ in_batch_next (fields_of (h.accepted ++ h.batch)) r ∙ both (is_batch r) (is_entry r) (ends_in_batch (fields_of (h.accepted ++ h.batch))) is (k.batched some);
      started = k.started;
    }
  where
    or_none : (x y : Bool) → y ≡ false → (x || y) ≡ x
    or_none true y e = refl
    or_none false y e = e

    both : (x y z : Bool) → y ≡ true → z ≡ true → (x || (y && z)) ≡ true
    both true y z a b = refl
    both false true z a b = b
    both false false z a b = cc a

pub kept_batch : (h : Heard) (r : Fields) → KeptIn h → h.batch ≡ [] → is_batch r ≡ true → first_code (judged_with h) r ≡ None → Kept h.accepted ((h.count, r) ∷ []) true
unfolding so_far_of
kept_batch h r k none is e =
    let alone : fields_of (h.accepted ++ h.batch) ≡ fields_of h.accepted = ap (λ (l : List Numbered). fields_of (h.accepted ++ l)) none ∙ fields_alone h.accepted in
    let code : code_of (fields_of h.accepted) r ≡ None = subst (λ (rows : List Fields). code_of rows r ≡ None) alone (code_behind h r k e) in
    let longer = fields_next h.accepted (h.count, r) in
    let day : list_any is_day (fields_of (h.accepted ++ h.batch)) ≡ true = late_behind_day (judged_with h) r e (batch_late r is) in
    record {
      day = k.day;
      all = subst AreFine (sym longer) (fine_next (fields_of h.accepted) r code k.day);
      late = λ l. refl;
      batched = λ l. ap ends_in_batch longer ∙ in_batch_next (fields_of h.accepted) r ∙ or_first (is_batch r) (is_entry r && ends_in_batch (fields_of h.accepted)) is;
      started = λ l. ap (list_any is_day) (sym alone) ∙ day;
    }

pub kept_single : (h : Heard) (r : Fields) → KeptIn h → h.batch ≡ [] → first_code (judged_with h) r ≡ None → Kept (h.accepted ++ (h.count, r) ∷ []) h.batch (h.begun || is_late r)
unfolding so_far_of
kept_single h r k none e =
    let alone : fields_of (h.accepted ++ h.batch) ≡ fields_of h.accepted = ap (λ (l : List Numbered). fields_of (h.accepted ++ l)) none ∙ fields_alone h.accepted in
    let code : code_of (fields_of h.accepted) r ≡ None = subst (λ (rows : List Fields). code_of rows r ≡ None) alone (code_behind h r k e) in
    let longer = fields_next h.accepted (h.count, r) in
    let more : fields_of ((h.accepted ++ (h.count, r) ∷ []) ++ h.batch) ≡ fields_of h.accepted ++ r ∷ [] =
    ap (λ (l : List Numbered). fields_of ((h.accepted ++ (h.count, r) ∷ []) ++ l)) none ∙ fields_alone (h.accepted ++ (h.count, r) ∷ []) ∙ longer in
    record {
      day = subst AreFine (sym longer) (fine_next (fields_of h.accepted) r code k.day);
      all = subst AreFine (sym more) (fine_next (fields_of h.accepted) r code k.day);
      late = λ l. or_late (list_any is_late (fields_of h.accepted)) (is_late r) h.begun (λ x. k.late (ap (list_any is_late) alone ∙ x)) (sym (last_any is_late (fields_of h.accepted) r) ∙ ap (list_any is_late) (sym more) ∙ l);
      batched = λ l. let clash : false ≡ true = ap is_some_of (sym none) ∙ l in cc clash;
      started = λ l. ap (list_any is_day) longer ∙ last_any is_day (fields_of h.accepted) r
          ∙ or_first (list_any is_day (fields_of h.accepted)) (is_day r) (by h.begun (is_late r) l k.started (λ late. ap (list_any is_day) (sym alone) ∙ late_behind_day (judged_with h) r e late));
    }
  where
    or_late : (x y g : Bool) → (x ≡ true → g ≡ true) → (x || y) ≡ true → (g || y) ≡ true
    or_late true y g h e = or_first g y (h refl)
    or_late false y true h e = refl
    or_late false y false h e = e

    by : (g y : Bool) → (g || y) ≡ true → (g ≡ true → list_any is_day (fields_of h.accepted) ≡ true) → (y ≡ true → list_any is_day (fields_of h.accepted) ≡ true) → list_any is_day (fields_of h.accepted) ≡ true
    by true y l a b = a refl
    by false true l a b = b refl
    by false false l a b = cc l

kept_accept : (h : Heard) (r : Fields) → KeptIn h → (is_entry r ≡ false → h.batch ≡ []) → first_code (judged_with h) r ≡ None → KeptIn (accept h r)
unfolding accept
kept_accept h r k none e = by (is_entry r) (is_batch r) refl refl
  where
    by : (x y : Bool) → is_entry r ≡ x → is_batch r ≡ y
        → KeptIn (if x then unless_whole (record h { batch = h.batch ++ (h.count, r) ∷ [] }) else if y then unless_whole (record h { batch = (h.count, r) ∷ []; begun = true })
        else record h { accepted = h.accepted ++ (h.count, r) ∷ []; begun = h.begun || is_late r; calls = h.calls ++ calls_of r })
    by true y is other = kept_whole (record h { batch = h.batch ++ (h.count, r) ∷ [] }) (kept_entry h r k is e)
    by false true is other = kept_whole (record h { batch = (h.count, r) ∷ []; begun = true }) (kept_batch h r k (none is) other e)
    by false false is other = kept_single h r k (none is) e

pub kept_refuse : (h : Heard) (r : Fields) (c : DayCode) → KeptIn h → KeptIn (refuse h r c)
unfolding refuse
kept_refuse h r c k = by h.begun refl
  where
    by : (x : Bool) → h.begun ≡ x → KeptIn (if x then record h { batch = []; dropped = h.dropped ++ numbers_of h.batch; passing = is_batch r || is_some_of h.batch; calls = h.calls ++ Refuses h.count c ∷ [] }
        else record h { broken = true; calls = h.calls ++ Breaks h.count c ∷ [] })
    by true e = kept_alone h.accepted h.batch h.begun k
    by false e = k

kept_judge : (h : Heard) (r : Fields) → KeptIn h → (is_entry r ≡ false → h.batch ≡ []) → KeptIn (judge h r)
kept_judge h r k none = by (first_code (judged_with h) r) refl
  where
    by : (o : Option DayCode) → first_code (judged_with h) r ≡ o → KeptIn (option_map_or (refuse h r) o (accept h r))
    by None e = kept_accept h r k none e
    by (Some c) e = kept_refuse h r c k

pub kept_hear : (h : Heard) (r : Fields) → KeptIn h → KeptIn (hear h r)
kept_hear h r k = by h.broken refl
  where
    ways : (x : Bool) → is_entry r ≡ x → (z : Bool) → KeptIn (if x then (if z then passed h else judge (counted h) r) else judge (counted (taken h)) r)
    ways true e true = k
    ways true e false = kept_judge (counted h) r k (λ f. cc (e, f))
    ways false e z = kept_judge (counted (taken h)) r (kept_taken h.accepted h.batch h.begun k) (λ f. refl)

    by : (b : Bool) → h.broken ≡ b → KeptIn (hear h r)
    by true e = subst KeptIn (sym (broken_stays h r e)) k
    by false e = subst KeptIn (sym (step_of h r e)) (ways (is_entry r) refl h.passing)

kept_from : (h : Heard) (records : List Fields) → KeptIn h → KeptIn (fold hear h records)
kept_from h [] k = k
kept_from h (r ∷ records) k = kept_from (hear h r) records (kept_hear h r k)

none_fine : AreFine []
none_fine = record { fine = bad_none; step = in_step_first }

pub kept_nothing : KeptIn nothing
kept_nothing = record { day = none_fine; all = none_fine; late = λ e. cc e; batched = λ e. cc e; started = λ e. cc e }

kept_all : (records : List Fields) → KeptIn (heard records)
unfolding heard
kept_all records = kept_from nothing records kept_nothing

pub accepted_fine : (records : List Fields) → bad_records (fields_of (heard records).accepted) ≡ []
accepted_fine records = (kept_all records).day.fine

pub accepted_sound : (records : List Fields) → list_any is_day (fields_of (heard records).accepted) ≡ true → is_sound (day_of (heard records)) ≡ true
unfolding so_far_of
accepted_sound records day = day_sound (so_far_of (fields_of (heard records).accepted)) (kept_all records).day.step day

pub begun_started : (records : List Fields) → (heard records).begun ≡ true → list_any is_day (fields_of (heard records).accepted) ≡ true
begun_started records = (kept_all records).started

pub ended_started : (records : List Fields) → has_end (heard records) ≡ true → list_any is_day (fields_of (heard records).accepted) ≡ true
unfolding so_far_of
ended_started records e = (kept_all records).day.step.started e
