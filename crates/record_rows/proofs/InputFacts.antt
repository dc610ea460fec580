-- What a reader has seen of an input, with one byte more.
use Rattle.std.proofs.Common.{◌≡◌, ◌∙◌, ◌+◌, ◌&&◌, ℕ, Bool, true, false, List, [], ◌∷◌, ◌++◌, length, length-append, refl, sym, ap, arith}
use Rattle.std.specs.Prelude.{◌==◌, if◌then◌else◌}
use Rattle.std.proofs.lemmas.Bool.{eqb-true}
use Rattle.std.proofs.lemmas.List.{append-nil}
use Rattle.csv.specs.Reading.{is_bom, strip_bom}
use Rattle.record_rows.specs.Input.{Came, Seen, ends_mark, mark_after, mark_of, place_of, rows_read, seen}
use Rattle.record_rows.specs.Lines.{line_from}
use Rattle.record_rows.specs.Machine.{Place, at_start, comes, moved, place_after, rows_from}
use Rattle.record_rows.specs.Rows.{Fields, kept_row}
use Rattle.record_rows.specs.declared.input.Mark.{Mark}
use Rattle.record_rows.specs.declared.input.Mark.TheVariants as marks
use Rattle.record_rows.specs.declared.line.Line.{Line}
use Rattle.record_rows.specs.declared.line.Line.TheVariants as lines
use Rattle.record_rows.proofs.PlaceFacts.{place_more, rows_came, rows_stay}

-- ---- the byte order mark

pub mark_more : (input : List ℕ) (b : ℕ) → mark_of (input ++ b ∷ []) ≡ mark_after (mark_of input) b
mark_more [] b = refl
mark_more (a ∷ []) b = by (a == 239)
  where
    by : (x : Bool) → (if x && (b == 187) then marks.Second else marks.Past) ≡ mark_after (if x then marks.First else marks.Past) b
    by true = refl
    by false = refl
mark_more (a ∷ c ∷ []) b = by ((a == 239) && (c == 187))
  where
    by : (x : Bool) → marks.Past ≡ mark_after (if x then marks.Second else marks.Past) b
    by true = refl
    by false = refl
mark_more (a ∷ c ∷ d ∷ rest) b = refl

-- a byte that ends no mark is one more after it
pub strip_more : (input : List ℕ) (b : ℕ) → ends_mark (mark_of input) b ≡ false → strip_bom (input ++ b ∷ []) ≡ strip_bom input ++ b ∷ []
unfolding strip_bom
strip_more [] b e = refl
strip_more (a ∷ []) b e = refl
strip_more (a ∷ c ∷ []) b e = by (a == 239) (c == 187) e
  where
    by : (x y : Bool) → ends_mark (if x && y then marks.Second else marks.Past) b ≡ false → (if x && y && (b == 191) then [] else a ∷ c ∷ b ∷ []) ≡ a ∷ c ∷ b ∷ []
    by true true e = ap (λ z. if z then [] else a ∷ c ∷ b ∷ []) e
    by true false e = refl
    by false y e = refl
strip_more (a ∷ c ∷ d ∷ rest) b e = by (is_bom a c d)
  where
    by : (x : Bool) → (if x then rest ++ b ∷ [] else a ∷ c ∷ d ∷ (rest ++ b ∷ [])) ≡ (if x then rest else a ∷ c ∷ d ∷ rest) ++ b ∷ []
    by true = refl
    by false = refl

-- after one that ends it there is nothing
pub strip_mark : (input : List ℕ) (b : ℕ) → ends_mark (mark_of input) b ≡ true → strip_bom (input ++ b ∷ []) ≡ []
unfolding strip_bom
strip_mark [] b e = cc
strip_mark (a ∷ []) b e = by (a == 239) e
  where
    by : (x : Bool) → ends_mark (if x then marks.First else marks.Past) b ≡ true → a ∷ b ∷ [] ≡ []
    by true e = cc e
    by false e = cc e
strip_mark (a ∷ c ∷ []) b e = by (a == 239) (c == 187) e
  where
    by : (x y : Bool) → ends_mark (if x && y then marks.Second else marks.Past) b ≡ true → (if x && y && (b == 191) then [] else a ∷ c ∷ b ∷ []) ≡ []
    by true true e = ap (λ z. if z then [] else a ∷ c ∷ b ∷ []) e
    by true false e = cc e
    by false y e = cc e
strip_mark (a ∷ c ∷ d ∷ rest) b e = cc

-- and no record has come
pub none_read : (input : List ℕ) (b : ℕ) → ends_mark (mark_of input) b ≡ true → rows_read input ≡ []
unfolding strip_bom rows_from
none_read [] b e = cc
none_read (a ∷ []) b e = by (a == 239) e
  where
    by : (x : Bool) → ends_mark (if x then marks.First else marks.Past) b ≡ true → rows_read (a ∷ []) ≡ []
    by true e = cc e
    by false e = cc e
none_read (a ∷ c ∷ []) b e = by (a == 239) (c == 187) refl refl e
  where
    by : (x y : Bool) → (a == 239) ≡ x → (c == 187) ≡ y → ends_mark (if x && y then marks.Second else marks.Past) b ≡ true → rows_read (a ∷ c ∷ []) ≡ []
    by true true p q e =
        let first : a ≡ 239 = eqb-true a 239 p in
        let second : c ≡ 187 = eqb-true c 187 q in
        rw (first, second) refl
    by true false p q e = cc e
    by false y p q e = cc e
none_read (a ∷ c ∷ d ∷ rest) b e = cc

-- ---- the records

abbrev pub seen_by : Place → Mark → Line → ℕ → Seen
seen_by p m l n = record { place = p; mark = m; line = l; whole = n }

pub same_seen : (p q : Place) (m m' : Mark) (l l' : Line) (n n' : ℕ) → p ≡ q → m ≡ m' → l ≡ l' → n ≡ n' → seen_by p m l n ≡ seen_by q m' l' n'
same_seen p q m m' l l' n n' a b c d = λ i. record { place = a i; mark = b i; line = c i; whole = d i }

pub seen_nothing : (p : Place) → p ≡ at_start → seen_by p marks.Begun lines.Begun 0 ≡ seen []
unfolding place_after rows_from line_from strip_bom
seen_nothing p e = same_seen p at_start marks.Begun marks.Begun lines.Begun lines.Begun 0 0 e refl refl refl

-- what is said of the mark of what was seen
pub mark_seen : (m n : Mark) (b : ℕ) (r x : Bool) → r ≡ ends_mark m b → r ≡ x → m ≡ n → ends_mark n b ≡ x
mark_seen m n b r x e h is = sym (ap (λ k. ends_mark k b) is) ∙ sym e ∙ h

-- where a byte that ends no mark leaves a reader
pub place_next : (input : List ℕ) (b : ℕ) → ends_mark (mark_of input) b ≡ false → place_of (input ++ b ∷ []) ≡ moved b (place_of input)
place_next input b e = ap (place_after at_start) (strip_more input b e) ∙ place_more at_start (strip_bom input) b

pub place_marked : (input : List ℕ) (b : ℕ) → ends_mark (mark_of input) b ≡ true → place_of (input ++ b ∷ []) ≡ at_start
unfolding place_after
place_marked input b e = ap (place_after at_start) (strip_mark input b e)

came_by : (came : Bool) (input : List ℕ) (b : ℕ) (row : Fields) → ends_mark (mark_of input) b ≡ false → comes (place_of input).state b ≡ came
    → row ≡ kept_row (moved b (place_of input)).fields → Came came (rows_read input) (rows_read (input ++ b ∷ [])) row
came_by true input b row past e k =
    ((moved b (place_of input)).fields, ap (rows_from at_start) (strip_more input b past) ∙ rows_came at_start (strip_bom input) b e, k)
came_by false input b row past e k =
    ap (rows_from at_start) (strip_more input b past) ∙ rows_stay at_start (strip_bom input) b e ∙ append-nil (rows_read input)

pub came_next : (came : Bool) (input : List ℕ) (b : ℕ) (row : Fields) → ends_mark (mark_of input) b ≡ false → came ≡ comes (place_of input).state b
    → row ≡ kept_row (moved b (place_of input)).fields → Came came (rows_read input) (rows_read (input ++ b ∷ [])) row
came_next came input b row past e k = came_by came input b row past (sym e) k

pub came_marked : (input : List ℕ) (b : ℕ) (row : Fields) → ends_mark (mark_of input) b ≡ true → Came false (rows_read input) (rows_read (input ++ b ∷ [])) row
unfolding rows_from
came_marked input b row e = ap (rows_from at_start) (strip_mark input b e) ∙ sym (none_read input b e)

-- how many have come
pub counted : (came : Bool) (before now : List Fields) (row : Fields) → Came came before now row → length before + (if came then 1 else 0) ≡ length now
counted true before now row h = sym (ap length h.1 ∙ length-append before (h.0 ∷ []))
counted false before now row h = let none : length before + 0 ≡ length before = omega arith in none ∙ sym (ap length h)
