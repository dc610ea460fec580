-- Where a text stands in a record, by the bytes that were looked at, and that a front with too many fields tells the day.
use Rattle.std.proofs.Common.{◌≡◌, ◌∙◌, ◌+◌, ◌-◌, ◌<◌, ◌≤◌, ◌⊎◌, ◌||◌, ℕ, suc, Bool, true, false, List, [], ◌∷◌, ◌++◌, Option, Some, None, length, length-append, append_assoc, take, drop, refl, sym, ap, subst, arith, inl, inr}
use Rattle.std.specs.Prelude.{◌==◌, get_or, if◌then◌else◌, IfOk, Ok, Err, Result}
use Rattle.std.proofs.lemmas.Bool.{cases_Bool, eqb-true, or_parts}
use Rattle.std.proofs.lemmas.List.{append-nil, length-take-le, take-append-drop, take_all, take_more}
use Rattle.csv.specs.Machine.{Read, ends_at_end, field_after, fields_after, in_field, is_end, next_record, step}
use Rattle.csv.specs.Reading.{is_bom, records_from, records_next, strip_bom}
use Rattle.csv.specs.declared.parser.Action.{Action}
use Rattle.csv.specs.declared.parser.Action.TheVariants as actions
use Rattle.csv.specs.declared.parser.State.{State}
use Rattle.csv.specs.declared.parser.State.TheVariants as states
use Rattle.csv.specs.declared.parser.Terminator.TheVariants as terminators
use Rattle.csv.specs.Machine.{after_end}
use Rattle.batch_records.specs.Codes.{code_of}
use Rattle.batch_records.specs.DayAnswers.{day_of}
use Rattle.batch_records.specs.Front.{IsEnough, bare, is_marked, moved, moved_from}
use Rattle.batch_records.specs.Kinds.{kind_of}
use Rattle.batch_records.specs.Made.{so_far_of}
use Rattle.batch_records.specs.Records.{Fields, day_config, records_of}
use Rattle.batch_records.specs.declared.day.DayCode.{DayCode}
use Rattle.batch_records.specs.declared.front.Place.{Place}
use Rattle.batch_records.specs.declared.front.Place.TheVariants as places
use Rattle.batch_records.specs.declared.front.Spot.{Spot}
use Rattle.batch_records.proofs.LongRecords.{day_tells, long, long_code, told_at}

-- one of two spots, and of two moves of the machine
abbrev pick : Bool → Spot → Spot → Spot
pick b x y = if b then x else y

abbrev choose : Bool → State × Action → State × Action → State × Action
choose b x y = if b then x else y

-- ---- the records after a record that is begun

abbrev pub going : ℕ → State → Fields → List ℕ → List ℕ → List Fields
going m s f p ys = records_next (records_from day_config m) (next_record day_config s f p ys)

-- in which states of the machine a spot may be
abbrev pub Matches : Place → State → Fields → Type 0
Matches places.Start s f = ((s ≡ states.StartRecord) × (f ≡ [])) ⊎ (s ≡ states.StartField) ⊎ ((s ≡ states.AfterCr) × (f ≡ []))
Matches places.Bare s f = s ≡ states.InField
Matches places.Quoted s f = s ≡ states.InQuoted
Matches places.Closed s f = s ≡ states.AfterQuote

-- a text has these records, and then one that is begun and has so many fields that have ended
pub record Scanned (xs : List ℕ) (at : Place) (ended : ℕ) : Type 0 where
  pub rows : List Fields
  pub state : State
  pub fields : Fields
  pub field : List ℕ
  pub matches : Matches at state fields
  pub count : ended ≡ length fields
  pub few : length rows ≤ length xs
  pub goes : (ys : List ℕ) (m : ℕ) → records_from day_config (length rows + suc m) states.StartRecord (xs ++ ys) ≡ rows ++ going m state fields field ys

pub scanned_none : Scanned [] places.Start 0
unfolding records_from
scanned_none = record {
  rows = [];
  state = states.StartRecord;
  fields = [];
  field = [];
  matches = inl (refl, refl);
  count = refl;
  few = omega arith;
  goes = λ ys m. let fuel : 0 + suc m ≡ suc m = omega arith in ap (λ k. records_from day_config k states.StartRecord ys) fuel;
}

next_more : (s : State) (f : Fields) (p : List ℕ) (c : ℕ) (ys : List ℕ) (q : State × Action) → step day_config s c ≡ q → is_end q.1 ≡ false
    → next_record day_config s f p (c ∷ ys) ≡ next_record day_config q.0 (fields_after q.1 f p) (field_after q.1 c p) ys
unfolding next_record
next_more s f p c ys q is e =
    ap (λ (x : State × Action). if is_end x.1 then Some (fields_after x.1 f p, x.0, ys) else next_record day_config x.0 (fields_after x.1 f p) (field_after x.1 c p) ys) is
    ∙ ap (λ b. if b then Some (fields_after q.1 f p, q.0, ys) else next_record day_config q.0 (fields_after q.1 f p) (field_after q.1 c p) ys) e

next_end : (s : State) (f : Fields) (p : List ℕ) (c : ℕ) (ys : List ℕ) (q : State × Action) → step day_config s c ≡ q → is_end q.1 ≡ true
    → next_record day_config s f p (c ∷ ys) ≡ Some (fields_after q.1 f p, q.0, ys)
unfolding next_record
next_end s f p c ys q is e =
    ap (λ (x : State × Action). if is_end x.1 then Some (fields_after x.1 f p, x.0, ys) else next_record day_config x.0 (fields_after x.1 f p) (field_after x.1 c p) ys) is
    ∙ ap (λ b. if b then Some (fields_after q.1 f p, q.0, ys) else next_record day_config q.0 (fields_after q.1 f p) (field_after q.1 c p) ys) e

-- ---- one byte more

module _ (xs : List ℕ) (c : ℕ) (rows : List Fields) (s : State) (f : Fields) (p : List ℕ) (few : length rows ≤ length xs)
    (goes : (ys : List ℕ) (m : ℕ) → records_from day_config (length rows + suc m) states.StartRecord (xs ++ ys) ≡ rows ++ going m s f p ys) where
  -- it doesn't end the record
  goes_on : (at : Place) (ended : ℕ) (q : State × Action) → step day_config s c ≡ q → is_end q.1 ≡ false → Matches at q.0 (fields_after q.1 f p) → ended ≡ length (fields_after q.1 f p)
      → Scanned (xs ++ c ∷ []) at ended
  goes_on at ended q is e matches count =
      let longer : length (xs ++ c ∷ []) ≡ length xs + 1 = length-append xs (c ∷ []) in
      record {
        rows = rows;
        state = q.0;
        fields = fields_after q.1 f p;
        field = field_after q.1 c p;
        matches = matches;
        count = count;
        few = omega (arith, few, longer);
        goes = λ ys m. ap (records_from day_config (length rows + suc m) states.StartRecord) (append_assoc xs (c ∷ []) ys) ∙ goes (c ∷ ys) m
            ∙ ap (λ r. rows ++ records_next (records_from day_config m) r) (next_more s f p c ys q is e);
      }

  -- it ends it
  goes_next : (at : Place) (q : State × Action) → step day_config s c ≡ q → is_end q.1 ≡ true → Matches at q.0 [] → Scanned (xs ++ c ∷ []) at 0
  unfolding records_from
  goes_next at q is e matches =
      let longer : length (xs ++ c ∷ []) ≡ length xs + 1 = length-append xs (c ∷ []) in
      let g = fields_after q.1 f p in
      let more : length (rows ++ g ∷ []) ≡ length rows + 1 = length-append rows (g ∷ []) in
      record {
        rows = rows ++ g ∷ [];
        state = q.0;
        fields = [];
        field = [];
        matches = matches;
        count = refl;
        few = omega (arith, few, longer, more);
        goes = λ ys m.
            let fuel : length (rows ++ g ∷ []) + suc m ≡ length rows + suc (suc m) = omega (arith, more) in
            ap (λ k. records_from day_config k states.StartRecord ((xs ++ c ∷ []) ++ ys)) fuel
            ∙ ap (records_from day_config (length rows + suc (suc m)) states.StartRecord) (append_assoc xs (c ∷ []) ys) ∙ goes (c ∷ ys) (suc m)
            ∙ ap (λ r. rows ++ records_next (records_from day_config (suc m)) r) (next_end s f p c ys q is e)
            ∙ sym (append_assoc rows (g ∷ []) (going m q.0 [] [] ys));
      }

  one_more : (g : List ℕ) → length f + 1 ≡ length (f ++ g ∷ [])
  one_more g = sym (length-append f (g ∷ []))

  -- a byte in no quotes, and none
  bare_next : (n : ℕ) → n ≡ length f → step day_config s c ≡ in_field day_config c → Scanned (xs ++ c ∷ []) (bare c n).place (bare c n).ended
  bare_next n count is = by (c == 59) ((c == 13) || (c == 10)) (c == 13) is
    where
      by : (semi ends cr : Bool)
          → step day_config s c ≡ (if semi then (states.StartField, actions.EndField) else (if ends then ((if cr then states.AfterCr else states.StartRecord), actions.EndRecord) else (states.InField, actions.Copy)))
          → Scanned (xs ++ c ∷ []) (pick semi (record { place = places.Start; ended = n + 1 }) (pick (ends) (record { place = places.Start; ended = 0 }) (record { place = places.Bare; ended = n }))).place
          (pick semi (record { place = places.Start; ended = n + 1 }) (pick (ends) (record { place = places.Start; ended = 0 }) (record { place = places.Bare; ended = n }))).ended
      by true ends cr e = goes_on places.Start (n + 1) (states.StartField, actions.EndField) e refl (inr (inl refl)) (ap (λ k. k + 1) count ∙ one_more p)
      by false true true e = goes_next places.Start (states.AfterCr, actions.EndRecord) e refl (inr (inr (refl, refl)))
      by false true false e = goes_next places.Start (states.StartRecord, actions.EndRecord) e refl (inl (refl, refl))
      by false false cr e = goes_on places.Bare n (states.InField, actions.Copy) e refl refl count

  -- a byte that is none of these
  plain : (a b : Bool) → (a || b) ≡ false → b ≡ false
  plain a b e = (or_parts a b e).1

  -- at the start of a record
  start_next : (n : ℕ) → n ≡ length f → f ≡ [] → s ≡ states.StartRecord → Scanned (xs ++ c ∷ []) (moved_from places.Start n c).place (moved_from places.Start n c).ended
  start_next n count none is = by (c == 34) (c == 59) ((c == 13) || (c == 10)) refl refl (ap (λ (x : State). step day_config x c) is)
    where
      by : (quote semi ends : Bool) → (c == 34) ≡ quote → (c == 59) ≡ semi
          → step day_config s c ≡ (if ends then (states.StartRecord, actions.Skip) else (if quote then (states.InQuoted, actions.Skip) else (if semi then (states.StartField, actions.EndField) else (if ends then ((if c == 13 then states.AfterCr else states.StartRecord), actions.EndRecord) else (states.InField, actions.Copy)))))
          → Scanned (xs ++ c ∷ []) (pick quote (record { place = places.Quoted; ended = n }) (pick semi (record { place = places.Start; ended = n + 1 }) (pick (ends) (record { place = places.Start; ended = 0 }) (record { place = places.Bare; ended = n })))).place
          (pick quote (record { place = places.Quoted; ended = n }) (pick semi (record { place = places.Start; ended = n + 1 }) (pick (ends) (record { place = places.Start; ended = 0 }) (record { place = places.Bare; ended = n })))).ended
      by true semi ends q d e =
          let byte : c ≡ 34 = eqb-true c 34 q in
          goes_on places.Quoted n (states.InQuoted, actions.Skip) (ap (λ (x : State). step day_config x c) is ∙ ap (step day_config states.StartRecord) byte) refl refl count
      by false true ends q d e =
          let byte : c ≡ 59 = eqb-true c 59 d in
          goes_on places.Start (n + 1) (states.StartField, actions.EndField) (ap (λ (x : State). step day_config x c) is ∙ ap (step day_config states.StartRecord) byte) refl (inr (inl refl)) (ap (λ k. k + 1) count ∙ one_more p)
      by false false true q d e = goes_on places.Start 0 (states.StartRecord, actions.Skip) e refl (inl (refl, none)) (sym (ap length none))
      by false false false q d e = goes_on places.Bare n (states.InField, actions.Copy) e refl refl count

  -- after a carriage return
  cr_next : (n : ℕ) → n ≡ length f → f ≡ [] → s ≡ states.AfterCr → Scanned (xs ++ c ∷ []) (moved_from places.Start n c).place (moved_from places.Start n c).ended
  cr_next n count none is = by (c == 34) (c == 59) (c == 13) (c == 10) refl refl refl refl (ap (λ (x : State). step day_config x c) is)
    where
      by : (quote semi cr lf : Bool) → (c == 34) ≡ quote → (c == 59) ≡ semi → (c == 13) ≡ cr → (c == 10) ≡ lf
          → step day_config s c ≡ (if lf then (states.StartRecord, actions.Skip) else (if cr || lf then (states.StartRecord, actions.Skip) else (if quote then (states.InQuoted, actions.Skip) else (if semi then (states.StartField, actions.EndField) else (if cr || lf then ((if cr then states.AfterCr else states.StartRecord), actions.EndRecord) else (states.InField, actions.Copy))))))
          → Scanned (xs ++ c ∷ []) (pick quote (record { place = places.Quoted; ended = n }) (pick semi (record { place = places.Start; ended = n + 1 }) (pick (cr || lf) (record { place = places.Start; ended = 0 }) (record { place = places.Bare; ended = n })))).place
          (pick quote (record { place = places.Quoted; ended = n }) (pick semi (record { place = places.Start; ended = n + 1 }) (pick (cr || lf) (record { place = places.Start; ended = 0 }) (record { place = places.Bare; ended = n })))).ended
      by true semi cr lf q d a b e =
          let byte : c ≡ 34 = eqb-true c 34 q in
          goes_on places.Quoted n (states.InQuoted, actions.Skip) (ap (λ (x : State). step day_config x c) is ∙ ap (step day_config states.AfterCr) byte) refl refl count
      by false true cr lf q d a b e =
          let byte : c ≡ 59 = eqb-true c 59 d in
          goes_on places.Start (n + 1) (states.StartField, actions.EndField) (ap (λ (x : State). step day_config x c) is ∙ ap (step day_config states.AfterCr) byte) refl (inr (inl refl)) (ap (λ k. k + 1) count ∙ one_more p)
      by false false true true q d a b e = goes_on places.Start 0 (states.StartRecord, actions.Skip) e refl (inl (refl, none)) (sym (ap length none))
      by false false true false q d a b e = goes_on places.Start 0 (states.StartRecord, actions.Skip) e refl (inl (refl, none)) (sym (ap length none))
      by false false false true q d a b e = goes_on places.Start 0 (states.StartRecord, actions.Skip) e refl (inl (refl, none)) (sym (ap length none))
      by false false false false q d a b e = goes_on places.Bare n (states.InField, actions.Copy) e refl refl count

  -- a quote, or what stands in no quotes
  quote_next : (at : Place) (n : ℕ) (copies : Action) → n ≡ length f → is_end copies ≡ false → fields_after copies f p ≡ f → (other : Place)
      → step day_config s c ≡ (if c == 34 then (states.InQuoted, copies) else in_field day_config c)
      → Scanned (xs ++ c ∷ []) (pick (c == 34) (record { place = places.Quoted; ended = n }) (bare c n)).place (pick (c == 34) (record { place = places.Quoted; ended = n }) (bare c n)).ended
  quote_next at n copies count on same other is = by (c == 34) is
    where
      by : (quote : Bool) → step day_config s c ≡ (if quote then (states.InQuoted, copies) else in_field day_config c)
          → Scanned (xs ++ c ∷ []) (pick quote (record { place = places.Quoted; ended = n }) (bare c n)).place (pick quote (record { place = places.Quoted; ended = n }) (bare c n)).ended
      by true e = goes_on places.Quoted n (states.InQuoted, copies) e on refl (count ∙ sym (ap length same))
      by false e = bare_next n count e

  -- in quotes
  in_next : (n : ℕ) → n ≡ length f → s ≡ states.InQuoted → Scanned (xs ++ c ∷ []) (moved_from places.Quoted n c).place (moved_from places.Quoted n c).ended
  in_next n count is = by (c == 34) (ap (λ (x : State). step day_config x c) is)
    where
      by : (quote : Bool) → step day_config s c ≡ (if quote then (states.AfterQuote, actions.Skip) else (states.InQuoted, actions.Copy))
          → Scanned (xs ++ c ∷ []) (pick quote (record { place = places.Closed; ended = n }) (record { place = places.Quoted; ended = n })).place
          (pick quote (record { place = places.Closed; ended = n }) (record { place = places.Quoted; ended = n })).ended
      by true e = goes_on places.Closed n (states.AfterQuote, actions.Skip) e refl refl count
      by false e = goes_on places.Quoted n (states.InQuoted, actions.Copy) e refl refl count

  next_from : (at : Place) (n : ℕ) → Matches at s f → n ≡ length f → Scanned (xs ++ c ∷ []) (moved_from at n c).place (moved_from at n c).ended
  next_from places.Start n (inl h) count = start_next n count h.1 h.0
  next_from places.Start n (inr (inl h)) count = quote_next places.Start n actions.Skip count refl refl places.Start (ap (λ (x : State). step day_config x c) h)
  next_from places.Start n (inr (inr h)) count = cr_next n count h.1 h.0
  next_from places.Bare n h count = bare_next n count (ap (λ (x : State). step day_config x c) h)
  next_from places.Quoted n h count = in_next n count h
  next_from places.Closed n h count = quote_next places.Closed n actions.Copy count refl refl places.Closed (ap (λ (x : State). step day_config x c) h)

pub scanned_next : (xs : List ℕ) (spot : Spot) (c : ℕ) → Scanned xs spot.place spot.ended → Scanned (xs ++ c ∷ []) (moved spot c).place (moved spot c).ended
scanned_next xs spot c h = next_from xs c h.rows h.state h.fields h.field h.few h.goes spot.place spot.ended h.matches h.count

-- at most one field more has ended
pub moved_few : (spot : Spot) (c : ℕ) → (moved spot c).ended ≤ spot.ended + 1
moved_few spot c = by spot.place (c == 34) (c == 59) ((c == 13) || (c == 10))
  where
    bare_few : (n : ℕ) (semi ends : Bool)
        → (pick semi (record { place = places.Start; ended = n + 1 }) (pick (ends) (record { place = places.Start; ended = 0 }) (record { place = places.Bare; ended = n }))).ended ≤ n + 1
    bare_few n true ends = omega arith
    bare_few n false true = omega arith
    bare_few n false false = omega arith

    by : (at : Place) (quote semi ends : Bool) → (moved_from at spot.ended c).ended ≤ spot.ended + 1
    by places.Bare quote semi ends = bare_few spot.ended (c == 59) ((c == 13) || (c == 10))
    by places.Quoted quote semi ends = elim (cases_Bool (c == 34)) [ inl e ↦ rw e (omega arith) | inr e ↦ rw e (omega arith) ]
    by places.Start quote semi ends = elim (cases_Bool (c == 34)) [ inl e ↦ rw e (omega arith) | inr e ↦ rw e (bare_few spot.ended (c == 59) ((c == 13) || (c == 10))) ]
    by places.Closed quote semi ends = elim (cases_Bool (c == 34)) [ inl e ↦ rw e (omega arith) | inr e ↦ rw e (bare_few spot.ended (c == 59) ((c == 13) || (c == 10))) ]

-- ---- a record that is begun is one of the text's

is_mid : State → Bool
is_mid states.StartRecord = false
is_mid states.StartField = true
is_mid states.InField = true
is_mid states.InQuoted = true
is_mid states.AfterQuote = true
is_mid states.InEscape = true
is_mid states.InComment = false
is_mid states.AfterCr = false

field_mid : (c : ℕ) → is_end (in_field day_config c).1 ≡ false → is_mid (in_field day_config c).0 ≡ true
unfolding is_mid
field_mid c = by (c == 59) ((c == 13) || (c == 10))
  where
    by : (semi ends : Bool) → is_end (choose semi (states.StartField, actions.EndField) (choose ends (after_end terminators.CRLF c, actions.EndRecord) (states.InField, actions.Copy))).1 ≡ false
        → is_mid (choose semi (states.StartField, actions.EndField) (choose ends (after_end terminators.CRLF c, actions.EndRecord) (states.InField, actions.Copy))).0 ≡ true
    by true ends e = refl
    by false true e = cc
    by false false e = refl

quote_mid : (q : State × Action) (c : ℕ) (quote : Bool) → is_mid q.0 ≡ true → is_end (choose quote q (in_field day_config c)).1 ≡ false → is_mid (choose quote q (in_field day_config c)).0 ≡ true
quote_mid q c true mid e = mid
quote_mid q c false mid e = field_mid c e

step_mid : (s : State) (c : ℕ) → is_mid s ≡ true → is_end (step day_config s c).1 ≡ false → is_mid (step day_config s c).0 ≡ true
unfolding is_mid
step_mid states.StartRecord c mid e = cc
step_mid states.StartField c mid e = quote_mid (states.InQuoted, actions.Skip) c (c == 34) refl e
step_mid states.InField c mid e = field_mid c e
step_mid states.InQuoted c mid e = by (c == 34)
  where
    by : (quote : Bool) → is_mid (choose quote (states.AfterQuote, actions.Skip) (states.InQuoted, actions.Copy)).0 ≡ true
    by true = refl
    by false = refl
step_mid states.AfterQuote c mid e = quote_mid (states.InQuoted, actions.Copy) c (c == 34) refl e
step_mid states.InEscape c mid e = refl
step_mid states.InComment c mid e = cc
step_mid states.AfterCr c mid e = cc

at_end : (s : State) → is_mid s ≡ true → ends_at_end s ≡ true
unfolding is_mid
at_end states.StartRecord mid = cc
at_end states.StartField mid = refl
at_end states.InField mid = refl
at_end states.InQuoted mid = refl
at_end states.AfterQuote mid = refl
at_end states.InEscape mid = refl
at_end states.InComment mid = refl
at_end states.AfterCr mid = cc

-- a record goes on from these fields
record Ends (f : Fields) (o : Option Read) : Type 0 where
  behind : Fields
  after : State × List ℕ
  is : o ≡ Some (f ++ behind, after.0, after.1)
  some : 0 < length behind

kept : (a : Action) (f : Fields) (p : List ℕ) → is_end a ≡ true → fields_after a f p ≡ f ++ p ∷ []
kept actions.EndRecord f p e = refl
kept actions.Skip f p e = cc
kept actions.Copy f p e = cc
kept actions.EndField f p e = cc

grown : (a : Action) (f : Fields) (p : List ℕ) (o : Option Read) → is_end a ≡ false → Ends (fields_after a f p) o → Ends f o
grown actions.EndRecord f p o e h = cc
grown actions.Skip f p o e h = h
grown actions.Copy f p o e h = h
grown actions.EndField f p o e h = record {
  behind = p ∷ h.behind;
  after = h.after;
  is = h.is ∙ ap (λ g. Some (g, h.after.0, h.after.1)) (append_assoc f (p ∷ []) h.behind);
  some = omega arith;
}

ends : (s : State) (f : Fields) (p ys : List ℕ) → is_mid s ≡ true → Ends f (next_record day_config s f p ys)
unfolding next_record
ends s f p [] mid = record {
  behind = p ∷ [];
  after = (states.StartRecord, []);
  is = ap (λ b. if b then Some (f ++ p ∷ [], states.StartRecord, []) else None) (at_end s mid);
  some = omega arith;
}
ends s f p (c ∷ ys) mid =
    elim (cases_Bool (is_end (step day_config s c).1)) [
      | inl e ↦ record {
        behind = p ∷ [];
        after = ((step day_config s c).0, ys);
        is = next_end s f p c ys (step day_config s c) refl e ∙ ap (λ g. Some (g, (step day_config s c).0, ys)) (kept (step day_config s c).1 f p e);
        some = omega arith;
      }
      | inr e ↦ let q = step day_config s c in
          let rest = ends q.0 (fields_after q.1 f p) (field_after q.1 c p) ys (step_mid s c mid e) in
          grown q.1 f p _ e (subst (λ o. Ends (fields_after q.1 f p) o) (sym (next_more s f p c ys q refl e)) rest)
    ]

-- ---- a front is enough

begun : (at : Place) (s : State) (f : Fields) → Matches at s f → 0 < length f → is_mid s ≡ true
unfolding is_mid
begun places.Start s f (inl h) l = let none : length f ≡ 0 = ap length h.1 in absurd (omega (arith, l, none))
begun places.Start s f (inr (inl h)) l = ap is_mid h
begun places.Start s f (inr (inr h)) l = let none : length f ≡ 0 = ap length h.1 in absurd (omega (arith, l, none))
begun places.Bare s f h l = ap is_mid h
begun places.Quoted s f h l = ap is_mid h
begun places.Closed s f h l = ap is_mid h

first_same : (f g : Fields) → 0 < length f → kind_of (f ++ g) ≡ kind_of f
first_same [] g l = absurd (omega arith)
first_same (x ∷ xs) g l = refl

-- a text of which a front has more fields in a record than any of a day
module _ (xs : List ℕ) (at : Place) (ended : ℕ) (h : Scanned xs at ended) (many : ended ≡ 16) where
  pub told_of : DayCode
  told_of = long_code (so_far_of h.rows).version (kind_of h.fields)

  pub tells_all : (ys : List ℕ) → day_of (records_from day_config (length (xs ++ ys) + 1) states.StartRecord (xs ++ ys)) ≡ told_at h.rows told_of
  unfolding told_of
  tells_all ys =
      let fields : length h.fields ≡ 16 = sym h.count ∙ many in
      let mid = begun at h.state h.fields h.matches (omega (arith, fields)) in
      let o = ends h.state h.fields h.field ys mid in
      let size : length (xs ++ ys) ≡ length xs + length ys = length-append xs ys in
      let few = h.few in
      let m = length (xs ++ ys) - length h.rows in
      let fuel : length (xs ++ ys) + 1 ≡ length h.rows + suc m = omega (arith, few, size) in
      let r = h.fields ++ o.behind in
      let long_enough : 9 < length r = omega (arith, fields, length-append h.fields o.behind) in
      let found : code_of h.rows r ≡ Some told_of = long (so_far_of h.rows) r long_enough ∙ ap (λ k. Some (long_code (so_far_of h.rows).version k)) (first_same h.fields o.behind (omega (arith, fields))) in
      ap (λ k. day_of (records_from day_config k states.StartRecord (xs ++ ys))) fuel
      ∙ ap day_of (h.goes ys m ∙ ap (λ x. h.rows ++ records_next (records_from day_config m) x) o.is)
      ∙ day_tells h.rows r (records_from day_config m o.after.0 o.after.1) told_of found

-- ---- the byte order mark

unmarked : (zs : List ℕ) → is_marked zs ≡ false → strip_bom zs ≡ zs
unfolding strip_bom
unmarked [] e = refl
unmarked (a ∷ []) e = refl
unmarked (a ∷ b ∷ []) e = refl
unmarked (a ∷ b ∷ c ∷ rest) e = ap (λ x. if x then rest else a ∷ b ∷ c ∷ rest) e

not_marked : (zs : List ℕ) (n : ℕ) → n < 3 → (is_marked zs ≡ true → 3 ≤ n) → is_marked zs ≡ false
not_marked zs n l h = elim (cases_Bool (is_marked zs)) [ inl e ↦ let no = h e in absurd (omega (arith, l, no)) | inr e ↦ e ]

-- a front that has the mark, where there is one, leaves the rest
pub strip_split : (xs ys : List ℕ) → (is_marked (xs ++ ys) ≡ true → 3 ≤ length xs) → strip_bom (xs ++ ys) ≡ strip_bom xs ++ ys
unfolding strip_bom
strip_split [] ys h = unmarked ys (not_marked ys 0 (omega arith) h)
strip_split (a ∷ []) ys h = unmarked (a ∷ ys) (not_marked (a ∷ ys) 1 (omega arith) h)
strip_split (a ∷ b ∷ []) ys h = unmarked (a ∷ b ∷ ys) (not_marked (a ∷ b ∷ ys) 2 (omega arith) h)
strip_split (a ∷ b ∷ c ∷ rest) ys h = by (is_bom a b c)
  where
    by : (x : Bool) → (if x then rest ++ ys else a ∷ b ∷ c ∷ (rest ++ ys)) ≡ (if x then rest else a ∷ b ∷ c ∷ rest) ++ ys
    by true = refl
    by false = refl

pub marked_more : (xs ys : List ℕ) → is_marked xs ≡ true → is_marked (xs ++ ys) ≡ true
marked_more [] ys e = cc
marked_more (a ∷ []) ys e = cc
marked_more (a ∷ b ∷ []) ys e = cc
marked_more (a ∷ b ∷ c ∷ rest) ys e = e

-- ---- what is answered

errs : {X E : Type 0} (r : Result X E) (e : E) (P : X → Type 0) → r ≡ Err e → IfOk r P
errs (Ok x) e P is = cc
errs (Err f) e P is = tt

pub enough : (part : List ℕ) (n : ℕ) (at : Place) (ended : ℕ) → n ≤ length part → (is_marked part ≡ true → 3 ≤ n) → Scanned (strip_bom (take n part)) at ended → ended ≡ 16 → IsEnough part n
enough part n at ended within mark h many =
    let xs = strip_bom (take n part) in
    let ys = drop n part in
    let size : length (take n part) ≡ n = length-take-le n part within in
    let whole : take n part ++ ys ≡ part = take-append-drop n part in
    let all : strip_bom part ≡ xs ++ ys = ap strip_bom (sym whole) ∙ strip_split (take n part) ys (λ e. let low = mark (ap is_marked (sym whole) ∙ e) in omega (arith, low, size)) in
    let front = ap (λ zs. day_of (records_from day_config (length zs + 1) states.StartRecord zs)) (sym (append-nil xs)) ∙ tells_all xs at ended h many [] in
    let every = ap (λ zs. day_of (records_from day_config (length zs + 1) states.StartRecord zs)) all ∙ tells_all xs at ended h many ys in
    record { within = within; answer = front ∙ sym every; whole = errs _ _ _ front }

oks : {X E : Type 0} (r : Result X E) (P : Type 0) → P → IfOk r (λ x. P)
oks (Ok x) P p = p
oks (Err e) P p = tt

-- all of a part is enough
pub all_enough : (part : List ℕ) (n : ℕ) → n ≡ length part → IsEnough part n
all_enough part n is =
    let same : take n part ≡ part = take_all n part (omega (arith, is)) in
    record { within = omega (arith, is); answer = ap (λ xs. day_of (records_of xs)) same; whole = oks (day_of (records_of (take n part))) (take n part ≡ part) same }

-- ---- a part byte by byte

-- before the first byte after the mark
pub scan_start : (part : List ℕ) (n : ℕ) → n ≡ (if is_marked part then 3 else 0) → Scanned (strip_bom (take n part)) places.Start 0 × (is_marked part ≡ true → 3 ≤ n)
unfolding strip_bom
scan_start part n is = by part (is_marked part) refl is
  where
    nothing : (xs : List ℕ) → strip_bom xs ≡ [] → Scanned (strip_bom xs) places.Start 0
    nothing xs none = subst (λ ys. Scanned ys places.Start 0) (sym none) scanned_none

    by : (xs : List ℕ) (b : Bool) → is_marked xs ≡ b → n ≡ (if b then 3 else 0) → Scanned (strip_bom (take n xs)) places.Start 0 × (is_marked xs ≡ true → 3 ≤ n)
    by xs false e none = (rw none (nothing [] refl), λ m. absurd (cc (sym e ∙ m)))
    by [] true e three = absurd (cc)
    by (a ∷ []) true e three = absurd (cc)
    by (a ∷ b ∷ []) true e three = absurd (cc)
    by (a ∷ b ∷ c ∷ rest) true e three = (rw three (nothing (a ∷ b ∷ c ∷ []) (ap (λ x. if x then [] else a ∷ b ∷ c ∷ []) e)), λ m. omega (arith, three))

-- with one byte more
pub scan_more : (part : List ℕ) (i : ℕ) (spot next : Spot) → i < length part → Scanned (strip_bom (take i part)) spot.place spot.ended → (is_marked part ≡ true → 3 ≤ i) → next ≡ moved spot (get_or part i 0)
    → Scanned (strip_bom (take (i + 1) part)) next.place next.ended
scan_more part i spot next within h mark is =
    let c = get_or part i 0 in
    let more : take (i + 1) part ≡ take i part ++ c ∷ [] = take_more part i 0 within in
    let size : length (take i part) ≡ i = length-take-le i part (omega (arith, within)) in
    let whole : (take i part ++ c ∷ []) ++ drop (i + 1) part ≡ part = ap (λ xs. xs ++ drop (i + 1) part) (sym more) ∙ take-append-drop (i + 1) part in
    let all : strip_bom (take (i + 1) part) ≡ strip_bom (take i part) ++ c ∷ [] =
    ap strip_bom more ∙ strip_split (take i part) (c ∷ []) (λ m. let low = mark (ap is_marked (sym whole) ∙ marked_more (take i part ++ c ∷ []) (drop (i + 1) part) m) in omega (arith, low, size)) in
    subst (λ (s : Spot). Scanned (strip_bom (take (i + 1) part)) s.place s.ended) (sym is) (subst (λ xs. Scanned xs (moved spot c).place (moved spot c).ended) (sym all) (scanned_next (strip_bom (take i part)) spot c h))
