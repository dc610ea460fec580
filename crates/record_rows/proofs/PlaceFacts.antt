-- Where bytes leave a reader, and what is kept there.
use Rattle.std.proofs.Common.{◌≡◌, sym, ◌∙◌, ◌||◌, ◌&&◌, ℕ, Bool, true, false, List, [], ◌∷◌, ◌++◌, refl, ap}
use Rattle.std.specs.Prelude.{◌==◌, if◌then◌else◌}
use Rattle.std.proofs.lemmas.Bool.{eqb-true}
use Rattle.csv.specs.Machine.{after_end, ends_at_end, in_field, is_end, step}
use Rattle.csv.specs.declared.parser.Action.{Action}
use Rattle.csv.specs.declared.parser.Action.TheVariants as actions
use Rattle.csv.specs.declared.parser.State.{State}
use Rattle.csv.specs.declared.parser.State.TheVariants as states
use Rattle.csv.specs.declared.parser.Terminator.TheVariants as terminators
use Rattle.record_rows.specs.Machine.{Closes, Place, comes, gone, is_between, is_line_end, is_open, is_read, moved, opened, place_after, row_config, rows_from, shown}
use Rattle.record_rows.specs.Rows.{Fields, kept_field, kept_row}

-- one of two moves
abbrev choose : Bool → State × Action → State × Action → State × Action
choose b x y = if b then x else y

abbrev pub placed : State → Fields → List ℕ → Place
placed s f x = record { state = s; fields = f; field = x }

pub same_place : (s t : State) (f g : Fields) (x y : List ℕ) → s ≡ t → f ≡ g → x ≡ y → placed s f x ≡ placed t g y
same_place s t f g x y p q r = λ i. record { state = p i; fields = q i; field = r i }

-- what is kept of a record that gives way is nothing
pub opened_shown : (p : Place) → opened (shown p) ≡ shown (opened p)
opened_shown p = by (is_between p.state)
  where
    by : (b : Bool) → placed p.state (if b then [] else kept_row p.fields) (if b then [] else kept_field p.field) ≡ placed p.state (kept_row (if b then [] else p.fields)) (kept_field (if b then [] else p.field))
    by true = refl
    by false = refl

-- one byte more
pub place_more : (p : Place) (text : List ℕ) (b : ℕ) → place_after p (text ++ b ∷ []) ≡ moved b (place_after p text)
unfolding place_after
place_more p [] b = refl
place_more p (c ∷ text) b = place_more (moved c p) text b

pub rows_append : (p : Place) (front rest : List ℕ) → rows_from p (front ++ rest) ≡ rows_from p front ++ rows_from (place_after p front) rest
unfolding place_after rows_from
rows_append p [] rest = refl
rows_append p (c ∷ front) rest = by (comes p.state c) (rows_append (moved c p) front rest)
  where
    by : (b : Bool) → rows_from (moved c p) (front ++ rest) ≡ rows_from (moved c p) front ++ rows_from (place_after (moved c p) front) rest
        → (if b then (moved c p).fields ∷ rows_from (moved c p) (front ++ rest) else rows_from (moved c p) (front ++ rest))
        ≡ (if b then (moved c p).fields ∷ rows_from (moved c p) front else rows_from (moved c p) front) ++ rows_from (place_after (moved c p) front) rest
    by true e = ap (λ rows. (moved c p).fields ∷ rows) e
    by false e = e

-- a record that came whole with the last byte, or none
pub rows_came : (p : Place) (text : List ℕ) (b : ℕ) → comes (place_after p text).state b ≡ true → rows_from p (text ++ b ∷ []) ≡ rows_from p text ++ (moved b (place_after p text)).fields ∷ []
unfolding rows_from
rows_came p text b e = rows_append p text (b ∷ []) ∙ ap (λ c. rows_from p text ++ (if c then (moved b (place_after p text)).fields ∷ [] else [])) e

pub rows_stay : (p : Place) (text : List ℕ) (b : ℕ) → comes (place_after p text).state b ≡ false → rows_from p (text ++ b ∷ []) ≡ rows_from p text ++ []
unfolding rows_from
rows_stay p text b e = rows_append p text (b ∷ []) ∙ ap (λ c. rows_from p text ++ (if c then (moved b (place_after p text)).fields ∷ [] else [])) e

-- what a byte makes of what is kept
pub fed : (p : Place) (b : ℕ) (to : State × Action) (old acted : Place) → old ≡ shown (opened p) → to ≡ step row_config old.state b
    → acted ≡ shown (gone (p.state, to.1) b (opened p)) → placed to.0 acted.fields acted.field ≡ shown (moved b p)
fed p b to old acted is moves acts =
    let same : to ≡ step row_config p.state b = moves ∙ ap (λ (o : Place). step row_config o.state b) is in
    (λ i. placed to.0 (acts i).fields (acts i).field) ∙ ap (λ (t : State × Action). shown (gone t b (opened p))) same

-- ---- which bytes make a record whole

field_comes : (b : ℕ) → is_end (in_field row_config b).1 ≡ ((b == 13) || (b == 10)) && true
field_comes b = by (b == 59) refl
  where
    by : (semi : Bool) → (b == 59) ≡ semi
        → is_end (choose semi (states.StartField, actions.EndField) (choose ((b == 13) || (b == 10)) (after_end terminators.CRLF b, actions.EndRecord) (states.InField, actions.Copy))).1 ≡ ((b == 13) || (b == 10)) && true
    by true e = let byte : b ≡ 59 = eqb-true b 59 e in rw byte refl
    by false e = ends ((b == 13) || (b == 10))
      where
        ends : (x : Bool) → is_end (choose x (after_end terminators.CRLF b, actions.EndRecord) (states.InField, actions.Copy)).1 ≡ x && true
        ends true = refl
        ends false = refl

quote_comes : (b : ℕ) (q : State × Action) → is_end q.1 ≡ false → is_end (choose (b == 34) q (in_field row_config b)).1 ≡ ((b == 13) || (b == 10)) && true
quote_comes b q none = by (b == 34) refl
  where
    by : (quote : Bool) → (b == 34) ≡ quote → is_end (choose quote q (in_field row_config b)).1 ≡ ((b == 13) || (b == 10)) && true
    by true e = let byte : b ≡ 34 = eqb-true b 34 e in none ∙ rw byte refl
    by false e = field_comes b

not_both : (x : Bool) → false ≡ x && false
not_both true = refl
not_both false = refl

-- at the start of a record
start_comes : (b : ℕ) → is_end (step row_config states.StartRecord b).1 ≡ ((b == 13) || (b == 10)) && false
start_comes b = by ((b == 13) || (b == 10)) refl
  where
    by : (x : Bool) → ((b == 13) || (b == 10)) ≡ x
        → is_end (choose x (states.StartRecord, actions.Skip) (choose (b == 34) (states.InQuoted, actions.Skip) (in_field row_config b))).1 ≡ x && false
    by true e = refl
    by false e = quote_comes b (states.InQuoted, actions.Skip) refl ∙ ap (λ x. x && true) e

pub comes_with : (s : State) (b : ℕ) → is_read s ≡ true → comes s b ≡ (is_line_end b && is_open s)
comes_with states.StartRecord b r = start_comes b
comes_with states.AfterCr b r = by (b == 10)
  where
    by : (x : Bool) → is_end (choose x (states.StartRecord, actions.Skip) (step row_config states.StartRecord b)).1 ≡ ((b == 13) || (b == 10)) && false
    by true = not_both _
    by false = start_comes b
comes_with states.StartField b r = quote_comes b (states.InQuoted, actions.Skip) refl
comes_with states.InField b r = field_comes b
comes_with states.AfterQuote b r = quote_comes b (states.InQuoted, actions.Copy) refl
comes_with states.InQuoted b r = by (b == 34)
  where
    by : (x : Bool) → is_end (choose x (states.AfterQuote, actions.Skip) (states.InQuoted, actions.Copy)).1 ≡ ((b == 13) || (b == 10)) && false
    by true = not_both _
    by false = not_both _
comes_with states.InEscape b r = cc
comes_with states.InComment b r = cc

-- ---- where a text ends

between_closed : (s : State) → is_between s ≡ true → ends_at_end s ≡ false
between_closed states.StartRecord e = refl
between_closed states.AfterCr e = refl
between_closed states.StartField e = cc
between_closed states.InField e = cc
between_closed states.InQuoted e = cc
between_closed states.AfterQuote e = cc
between_closed states.InEscape e = cc
between_closed states.InComment e = cc

within_open : (s : State) → is_between s ≡ false → ends_at_end s ≡ true
within_open states.StartRecord e = cc
within_open states.AfterCr e = cc
within_open states.StartField e = refl
within_open states.InField e = refl
within_open states.InQuoted e = refl
within_open states.AfterQuote e = refl
within_open states.InEscape e = refl
within_open states.InComment e = refl

abbrev last_row : Place → Fields
last_row p = (opened p).fields ++ (opened p).field ∷ []

pub none_open : (p old : Place) (row : Fields) → old ≡ shown p → is_between old.state ≡ true → Closes false p row
none_open p old row is e =
    let between : is_between p.state ≡ true = sym (ap (λ (o : Place). is_between o.state) is) ∙ e in
    ap (λ b. if b then last_row p ∷ [] else []) (between_closed p.state between)

pub one_open : (p old new : Place) → old ≡ shown p → is_between old.state ≡ false → new ≡ shown (placed p.state (p.fields ++ p.field ∷ []) []) → Closes true p new.fields
one_open p old new is e ends =
    let within : is_between p.state ≡ false = sym (ap (λ (o : Place). is_between o.state) is) ∙ e in
    let whole : opened p ≡ p = ap (λ b. placed p.state (if b then [] else p.fields) (if b then [] else p.field)) within in (
      p.fields ++ p.field ∷ [],
      ap (λ b. if b then last_row p ∷ [] else []) (within_open p.state within) ∙ ap (λ (o : Place). (o.fields ++ o.field ∷ []) ∷ []) whole,
      ap (λ (o : Place). o.fields) ends,
    )
