-- The records of a text, as csv reads it, are those that come whole and the one that is open at its end.
use Rattle.std.proofs.Common.{◌≡◌, ◌∙◌, ◌+◌, ◌≤◌, ◌||◌, ℕ, zero, suc, Bool, true, false, List, [], ◌∷◌, ◌++◌, Some, None, length, refl, sym, ap, arith, inl, inr}
use Rattle.std.specs.Prelude.{◌==◌, if◌then◌else◌}
use Rattle.std.proofs.lemmas.Bool.{cases_Bool}
use Rattle.csv.specs.Machine.{after_end, ends_at_end, field_after, fields_after, in_field, is_end, next_record, step}
use Rattle.csv.specs.Reading.{records, records_from, records_next}
use Rattle.csv.specs.declared.parser.Action.{Action}
use Rattle.csv.specs.declared.parser.Action.TheVariants as actions
use Rattle.csv.specs.declared.parser.State.{State}
use Rattle.csv.specs.declared.parser.State.TheVariants as states
use Rattle.csv.specs.declared.parser.Terminator.TheVariants as terminators
use Rattle.record_rows.specs.Machine.{Place, at_start, gone, is_between, is_read, moved, open_rows, opened, place_after, row_config, rows_from}
use Rattle.record_rows.specs.Rows.{Fields}
use Rattle.record_rows.proofs.PlaceFacts.{placed}

-- ---- where a byte leads

-- of a move from a state: a reader stays in the states that it may be in, is between two records after a record's end, and else only
-- where it was already, and the byte does nothing
record IsStep (s : State) (to : State × Action) : Type 0 where
  read : is_read to.0 ≡ true
  ended : is_end to.1 ≡ true → is_between to.0 ≡ true
  stays : is_end to.1 ≡ false → is_between to.0 ≡ true → (is_between s ≡ true) × (to.1 ≡ actions.Skip)

picked : {X : Type 0} (P : X → Type 0) (b : Bool) (x y : X) → P x → P y → P (if b then x else y)
picked P true x y p q = p
picked P false x y p q = q

-- into a record
inside : (s : State) (to : State × Action) → is_read to.0 ≡ true → is_end to.1 ≡ false → is_between to.0 ≡ false → IsStep s to
inside s to r e b = record { read = r; ended = λ h. cc (e, h); stays = λ h k. cc (b, k) }

-- to its end
ended_by : (s : State) (to : State × Action) → is_read to.0 ≡ true → is_end to.1 ≡ true → is_between to.0 ≡ true → IsStep s to
ended_by s to r e b = record { read = r; ended = λ h. b; stays = λ h k. cc (e, h) }

-- from between two records to between them
passed : (s t : State) → is_read t ≡ true → is_between s ≡ true → IsStep s (t, actions.Skip)
passed s t r b = record { read = r; ended = λ h. cc; stays = λ h k. (b, refl) }

field_step : (s : State) (b : ℕ) → IsStep s (in_field row_config b)
field_step s b =
    picked (IsStep s) (b == 59) (states.StartField, actions.EndField) (if (b == 13) || (b == 10) then (after_end terminators.CRLF b, actions.EndRecord) else (states.InField, actions.Copy))
    (inside s (states.StartField, actions.EndField) refl refl refl)
    (picked (IsStep s) ((b == 13) || (b == 10)) (after_end terminators.CRLF b, actions.EndRecord) (states.InField, actions.Copy)
    (picked (λ (t : State). IsStep s (t, actions.EndRecord)) (b == 13) states.AfterCr states.StartRecord (ended_by s (states.AfterCr, actions.EndRecord) refl refl refl) (ended_by s (states.StartRecord, actions.EndRecord) refl refl refl))
    (inside s (states.InField, actions.Copy) refl refl refl))

quote_step : (s : State) (b : ℕ) (a : Action) → is_end a ≡ false → IsStep s (if b == 34 then (states.InQuoted, a) else in_field row_config b)
quote_step s b a e = picked (IsStep s) (b == 34) (states.InQuoted, a) (in_field row_config b) (inside s (states.InQuoted, a) refl e refl) (field_step s b)

start_step : (s : State) (b : ℕ) → is_between s ≡ true → IsStep s (step row_config states.StartRecord b)
start_step s b h =
    picked (IsStep s) ((b == 13) || (b == 10)) (states.StartRecord, actions.Skip) (if b == 34 then (states.InQuoted, actions.Skip) else in_field row_config b)
    (passed s states.StartRecord refl h) (quote_step s b actions.Skip refl)

read_step : (s : State) (b : ℕ) → is_read s ≡ true → IsStep s (step row_config s b)
read_step states.StartRecord b r = start_step states.StartRecord b refl
read_step states.AfterCr b r =
    picked (IsStep states.AfterCr) (b == 10) (states.StartRecord, actions.Skip) (step row_config states.StartRecord b) (passed states.AfterCr states.StartRecord refl refl) (start_step states.AfterCr b refl)
read_step states.StartField b r = quote_step states.StartField b actions.Skip refl
read_step states.InField b r = field_step states.InField b
read_step states.AfterQuote b r = quote_step states.AfterQuote b actions.Copy refl
read_step states.InQuoted b r =
    picked (IsStep states.InQuoted) (b == 34) (states.AfterQuote, actions.Skip) (states.InQuoted, actions.Copy)
    (inside states.InQuoted (states.AfterQuote, actions.Skip) refl refl refl) (inside states.InQuoted (states.InQuoted, actions.Copy) refl refl refl)
read_step states.InEscape b r = cc
read_step states.InComment b r = cc

-- after a record's end nothing of it is left
opened_next : (p : Place) (b : ℕ) → is_between (step row_config p.state b).0 ≡ true → opened (moved b p) ≡ placed (step row_config p.state b).0 [] []
opened_next p b e = ap (λ x. placed (step row_config p.state b).0 (if x then [] else (moved b p).fields) (if x then [] else (moved b p).field)) e

-- and else all of it is
opened_same : (p : Place) (b : ℕ) → is_read p.state ≡ true → is_end (step row_config p.state b).1 ≡ false → opened (moved b p) ≡ moved b p
opened_same p b r e = by (is_between (step row_config p.state b).0) refl
  where
    by : (x : Bool) → is_between (step row_config p.state b).0 ≡ x → opened (moved b p) ≡ moved b p
    by false out = ap (λ x. placed (step row_config p.state b).0 (if x then [] else (moved b p).fields) (if x then [] else (moved b p).field)) out
    by true back =
        let both = (read_step p.state b r).stays e back in
        let nothing : opened p ≡ placed p.state [] [] = ap (λ x. placed p.state (if x then [] else p.fields) (if x then [] else p.field)) both.0 in
        let empty : moved b p ≡ placed (step row_config p.state b).0 [] [] =
        (λ i. gone ((step row_config p.state b).0, both.1 i) b (nothing i)) in
        opened_next p b back ∙ sym empty

-- ---- what is read of a text

next_more : (s : State) (f : Fields) (x : List ℕ) (c : ℕ) (ys : List ℕ) → is_end (step row_config s c).1 ≡ false
    → next_record row_config s f x (c ∷ ys) ≡ next_record row_config (step row_config s c).0 (fields_after (step row_config s c).1 f x) (field_after (step row_config s c).1 c x) ys
unfolding next_record
next_more s f x c ys e =
    ap (λ b. if b then Some (fields_after (step row_config s c).1 f x, (step row_config s c).0, ys) else next_record row_config (step row_config s c).0 (fields_after (step row_config s c).1 f x) (field_after (step row_config s c).1 c x) ys) e

next_end : (s : State) (f : Fields) (x : List ℕ) (c : ℕ) (ys : List ℕ) → is_end (step row_config s c).1 ≡ true
    → next_record row_config s f x (c ∷ ys) ≡ Some (fields_after (step row_config s c).1 f x, (step row_config s c).0, ys)
unfolding next_record
next_end s f x c ys e =
    ap (λ b. if b then Some (fields_after (step row_config s c).1 f x, (step row_config s c).0, ys) else next_record row_config (step row_config s c).0 (fields_after (step row_config s c).1 f x) (field_after (step row_config s c).1 c x) ys) e

nothing_left : (n : ℕ) → records_from row_config n states.StartRecord [] ≡ []
unfolding records_from next_record
nothing_left zero = refl
nothing_left (suc n) = refl

abbrev what_is_read : ℕ → Place → List ℕ → List Fields
what_is_read n p text = records_next (records_from row_config n) (next_record row_config p.state (opened p).fields (opened p).field text)

read_at_end : (n : ℕ) (p : Place) → what_is_read n p [] ≡ open_rows p
unfolding next_record
read_at_end n p = by (ends_at_end p.state)
  where
    by : (b : Bool) → records_next (records_from row_config n) (if b then Some ((opened p).fields ++ (opened p).field ∷ [], states.StartRecord, []) else None) ≡ (if b then ((opened p).fields ++ (opened p).field ∷ []) ∷ [] else [])
    by true = ap (λ rows. ((opened p).fields ++ (opened p).field ∷ []) ∷ rows) (nothing_left n)
    by false = refl

-- from a place on, what is read of a text are the records that come whole in it, and the one that is open at its end
read_on : (n : ℕ) (p : Place) (text : List ℕ) → is_read p.state ≡ true → length text ≤ n → what_is_read n p text ≡ rows_from p text ++ open_rows (place_after p text)
unfolding rows_from place_after records_from
read_on n p [] r l = read_at_end n p
read_on zero p (c ∷ text) r l = absurd (omega (arith, l))
read_on (suc n) p (c ∷ text) r l =
    let s = read_step p.state c r in
    elim (cases_Bool (is_end (step row_config p.state c).1)) [
      | inl e ↦
          ap (records_next (records_from row_config (suc n))) (next_end p.state (opened p).fields (opened p).field c text e)
          ∙ ap (λ rows. (moved c p).fields ∷ rows) (ap (λ (o : Place). records_next (records_from row_config n) (next_record row_config o.state o.fields o.field text)) (sym (opened_next p c (s.ended e)))
          ∙ read_on n (moved c p) text s.read (omega (arith, l)))
          ∙ sym (ap (λ b. (if b then (moved c p).fields ∷ rows_from (moved c p) text else rows_from (moved c p) text) ++ open_rows (place_after (moved c p) text)) e)
      | inr e ↦
          ap (records_next (records_from row_config (suc n))) (next_more p.state (opened p).fields (opened p).field c text e)
          ∙ ap (λ (o : Place). records_next (records_from row_config (suc n)) (next_record row_config o.state o.fields o.field text)) (sym (opened_same p c r e))
          ∙ read_on (suc n) (moved c p) text s.read (omega (arith, l))
          ∙ sym (ap (λ b. (if b then (moved c p).fields ∷ rows_from (moved c p) text else rows_from (moved c p) text) ++ open_rows (place_after (moved c p) text)) e)
    ]

pub records_come : (text : List ℕ) → records row_config text ≡ rows_from at_start text ++ open_rows (place_after at_start text)
unfolding records_from
records_come text =
    let fuel : length text + 1 ≡ suc (length text) = omega arith in
    ap (λ k. records_from row_config k states.StartRecord text) fuel ∙ read_on (length text) at_start text refl (omega arith)
