-- What stands after a header, by places.
use Rattle.std.proofs.Common.{◌≡◌, ◌∙◌, ◌+◌, ◌-◌, ◌^◌, ◌≤◌, ◌<◌, ◌++◌, ℕ, suc, Bool, true, false, not, List, [], ◌∷◌, Option, None, Some, drop-drop, length, length-append, length-drop, take, drop, refl, sym, ap, arith, inl, inr}
use Rattle.std.specs.Prelude.{◌&&◌, ◌||◌, ◌==◌, bytes_eq, codes, cond, decimal, if◌then◌else◌, is_some, nat_eq, nat_le, nat_lt}
use Rattle.std.specs.List.{list_all, position, position_or_len, starts_with}
use Rattle.std.specs.Str.Parse.{digits_value}
use Rattle.std.proofs.lemmas.Bool.{cases_Bool, le-leb, lt-leb, le-ltb, lt-ltb, ltb-false, ltb-true}
use Rattle.std.proofs.lemmas.Fmt.{length-decimal-le}
use Rattle.std.proofs.lemmas.List.{drop-append-le, take-append-le, take_all}
use Rattle.cash_amounts.specs.Names.{is_digit}
use Rattle.live_day.specs.Answers.{longest_input}
use Rattle.live_day.specs.Beginnings.{CountsFrom, IsBeginning, IsPortion, count_in, part}
use Rattle.live_day.specs.Headers.{counted, has_this_header, number_is, sizes_of}
use Rattle.live_day.specs.Resumed.{Before, before_of, behind_records, counted_by, first_line, has_no_header, has_no_output, is_no_header, longest_output, may_begin, number_within, one_more, portion, split_at, with_written}
use Rattle.live_day.specs.declared.beginning.Beginning.{Beginning}
use Rattle.live_day.specs.declared.beginning.Beginning.TheVariants as beginnings
use Rattle.live_day.specs.declared.beginning.Portion.{Portion}
use Rattle.live_day.specs.declared.beginning.Portion.TheVariants as portions

-- ---- numbers

none_or_is : (o : Option ℕ) → ((n : ℕ) → o ≡ Some n → ⊥) → o ≡ None
none_or_is None h = refl
none_or_is (Some n) h = absurd (h n refl)

pub long_number : (most : ℕ) (text : List ℕ) → most < 10 ^ 9 → 9 < length text → None ≡ number_within most text
long_number most text low long = sym (none_or_is (number_within most text) (λ n e.
    let is = number_is most text n e in
    let short = length-decimal-le 9 n (omega arith) (omega (arith, low, is.0)) (omega (arith, low, is.0)) in
    let size = ap (length {A = ℕ}) is.1 in
    omega (arith, long, short, size)))

number_by : ℕ → Bool → Bool → Bool → Option ℕ
number_by v a b c = if a && b && c then Some v else None

pub no_digits : (most : ℕ) (text : List ℕ) → list_all is_digit text ≡ false → None ≡ number_within most text
unfolding number_by
no_digits most text e = sym (ap (λ (x : Bool). number_by (digits_value 10 text) x (bytes_eq (decimal (digits_value 10 text)) text) (nat_le (digits_value 10 text) most)) e)

and_no : (x : Bool) → (x && false) ≡ false
and_no true = refl
and_no false = refl

pub other_digits : (most v : ℕ) (text : List ℕ) → v ≡ digits_value 10 text → bytes_eq (decimal v) text ≡ false → None ≡ number_within most text
other_digits most v text is e =
    let none : bytes_eq (decimal (digits_value 10 text)) text ≡ false = ap (λ (n : ℕ). bytes_eq (decimal n) text) (sym is) ∙ e in
    sym (ap (λ (x : Bool). if list_all is_digit text && x && nat_le (digits_value 10 text) most then Some (digits_value 10 text) else None) none
    ∙ ap (λ (x : Bool). if x && nat_le (digits_value 10 text) most then Some (digits_value 10 text) else None) (and_no (list_all is_digit text)))

pub large_number : (most v : ℕ) (text : List ℕ) → v ≡ digits_value 10 text → most < v → None ≡ number_within most text
large_number most v text is more = sym (none_or_is (number_within most text) (λ n e. let one = number_is most text n e in omega (arith, one.0, one.2, is, more)))

pub number_found : (most v : ℕ) (text : List ℕ) → list_all is_digit text ≡ true → v ≡ digits_value 10 text → bytes_eq (decimal v) text ≡ true → v ≤ most → Some v ≡ number_within most text
number_found most v text digits is written low =
    let w : bytes_eq (decimal (digits_value 10 text)) text ≡ true = ap (λ (n : ℕ). bytes_eq (decimal n) text) (sym is) ∙ written in
    let l : nat_le (digits_value 10 text) most ≡ true = le-leb (digits_value 10 text) most (omega (arith, is, low)) in
    ap Some is ∙ sym (λ i. if digits i && w i && l i then Some (digits_value 10 text) else None)

-- ---- lines

abbrev line_at : List ℕ → ℕ → Option (List ℕ × List ℕ)
line_at text n = if nat_lt n (length text) then Some (take n text, drop (n + 1) text) else None

lt_next : (a b : ℕ) → nat_lt (1 + a) (suc b) ≡ nat_lt a b
lt_next a b = elim (cases_Bool (nat_lt a b)) [
  | inl less ↦ lt-ltb (1 + a) (suc b) (let l = ltb-true a b less in omega (arith, l)) ∙ sym less
  | inr more ↦ le-ltb (1 + a) (suc b) (let l = ltb-false a b more in omega (arith, l)) ∙ sym more
]

abbrev line_by : Bool → List ℕ → ℕ → Option (List ℕ × List ℕ)
line_by x text n = if x then Some (take n text, drop (n + 1) text) else None

line_longer : (x : Bool) (b : ℕ) (text : List ℕ) (n : ℕ) → one_more b (line_by x text n) ≡ line_by x (b ∷ text) (1 + n)
line_longer false b text n = refl
line_longer true b text n =
    let one : 1 + n ≡ suc n = omega arith in
    let two : 1 + n + 1 ≡ suc (n + 1) = omega arith in
    λ i. Some (sym (ap (λ (m : ℕ). take m (b ∷ text)) one) i, sym (ap (λ (m : ℕ). drop m (b ∷ text)) two) i)

line_next : (b : ℕ) (text : List ℕ) (n : ℕ) → one_more b (line_at text n) ≡ line_at (b ∷ text) (1 + n)
line_next b text n = line_longer (nat_lt n (length text)) b text n ∙ ap (λ (x : Bool). line_by x (b ∷ text) (1 + n)) (sym (lt_next n (length text)))

abbrev lf : ℕ → Bool
lf b = b == 10

pub first_line_at : (text : List ℕ) → first_line text ≡ line_at text (position_or_len (λ b. b == 10) text)
unfolding first_line
first_line_at [] = refl
first_line_at (b ∷ text) = by (b == 10) (first_line_at text)
  where
    by : (x : Bool) → first_line text ≡ line_at text (position_or_len lf text) → (if x then Some ([], text) else one_more b (first_line text)) ≡ line_at (b ∷ text) (cond (not x) (1 + position_or_len lf text) 0)
    by true further = sym (ap (λ (x : Bool). line_by x (b ∷ text) 0) (lt-ltb 0 (suc (length text)) (omega arith)))
    by false further = ap (one_more b) further ∙ line_next b text (position_or_len lf text)

pub line_there : (text : List ℕ) (n : ℕ) → position (λ b. b == 10) text ≡ Some n → (n < length text) × (first_line text ≡ Some (take n text, drop (n + 1) text))
line_there text n e = by (nat_lt (position_or_len lf text) (length text)) refl e
  where
    by : (x : Bool) → nat_lt (position_or_len lf text) (length text) ≡ x → cond x (Some (position_or_len lf text)) None ≡ Some n → (n < length text) × (first_line text ≡ Some (take n text, drop (n + 1) text))
    by false less e = cc e
    by true less e =
        let is : position_or_len lf text ≡ n = cc e in
        let inside = ltb-true (position_or_len lf text) (length text) less in
        (omega (arith, is, inside), first_line_at text ∙ ap (λ (x : Bool). line_by x text (position_or_len lf text)) less ∙ ap (λ (m : ℕ). Some (take m text, drop (m + 1) text)) is)

pub line_none : (text : List ℕ) → position (λ b. b == 10) text ≡ None → first_line text ≡ None
line_none text e = by (nat_lt (position_or_len lf text) (length text)) refl e
  where
    by : (x : Bool) → nat_lt (position_or_len lf text) (length text) ≡ x → cond x (Some (position_or_len lf text)) None ≡ None → first_line text ≡ None
    by true less e = cc e
    by false less e = first_line_at text ∙ ap (λ (x : Bool). line_by x text (position_or_len lf text)) less

-- ---- portions

abbrev count_of : List ℕ → ℕ → List ℕ → Option ℕ
count_of w most line = if starts_with nat_eq line (w ++ codes ";") then number_within most (drop (length w + 1) line) else None

counts : (w word : List ℕ) (most : ℕ) (line : List ℕ) → word ≡ w ++ codes ";" → count_in word most line ≡ count_of w most line
counts w word most line e =
    let size : length word ≡ length w + 1 = ap (length {A = ℕ}) e ∙ length-append w (codes ";") in
    λ i. if starts_with nat_eq line (e i) then number_within most (drop (size i) line) else None

counted_splits : (w : List ℕ) (most : ℕ) (line rest : List ℕ) → counted_by w most (Some (line, rest)) ≡ split_at rest (count_of w most line)
counted_splits w most line rest = by (starts_with nat_eq line (w ++ codes ";"))
  where
    by : (x : Bool) → (if x then split_at rest (number_within most (drop (length w + 1) line)) else None) ≡ split_at rest (if x then number_within most (drop (length w + 1) line) else None)
    by true = refl
    by false = refl

header_counts : (w : List ℕ) (most : ℕ) (text line rest : List ℕ) → is_no_header w most text (Some (line, rest)) ≡ not (is_some (count_of w most line))
header_counts w most text line rest = by (starts_with nat_eq line (w ++ codes ";"))
  where
    by : (x : Bool) → not (x && is_some (number_within most (drop (length w + 1) line))) ≡ not (is_some (if x then number_within most (drop (length w + 1) line) else None))
    by true = refl
    by false = refl

pub portion_by : (w word : List ℕ) (most : ℕ) (text : List ℕ) (end : ℕ) (p : Portion) → word ≡ w ++ codes ";" → first_line text ≡ Some (take end text, drop (end + 1) text) → end < length text
    → CountsFrom text (end + 1) (count_in word most (take end text)) p → IsPortion w most text p
portion_by w word most text end p e first inside = by p
  where
    left : length (drop (end + 1) text) ≡ length text - (end + 1)
    left = length-drop {A = ℕ} (end + 1) text

    found : (o : Option ℕ) → count_in word most (take end text) ≡ o → portion w most text ≡ split_at (drop (end + 1) text) o
    found o c = ap (counted_by w most) first ∙ counted_splits w most (take end text) (drop (end + 1) text) ∙ ap (split_at (drop (end + 1) text)) (sym (counts w word most (take end text) e) ∙ c)

    header : (o : Option ℕ) → count_in word most (take end text) ≡ o → is_no_header w most text (first_line text) ≡ not (is_some o)
    header o c = ap (is_no_header w most text) first ∙ header_counts w most text (take end text) (drop (end + 1) text) ∙ ap (λ (x : Option ℕ). not (is_some x)) (sym (counts w word most (take end text) e) ∙ c)

    by : (q : Portion) → CountsFrom text (end + 1) (count_in word most (take end text)) q → IsPortion w most text q
    by portions.Short c =
        let few : nat_le c.0 (length (drop (end + 1) text)) ≡ false = lt-leb c.0 (length (drop (end + 1) text)) (let l = left in let m = c.2 in omega (arith, l, m, inside)) in
        (found (Some c.0) c.1 ∙ ap (λ (x : Bool). if x then Some (take c.0 (drop (end + 1) text), drop c.0 (drop (end + 1) text)) else None) few, header (Some c.0) c.1)
    by portions.NoHeader c = (found None c, header None c)
    by (portions.Whole from to) c =
        let n = c.0 in
        let enough : nat_le n (length (drop (end + 1) text)) ≡ true = le-leb n (length (drop (end + 1) text)) (let l = left in let m = c.4 in omega (arith, l, m, inside)) in
        let size : n ≡ to - from = (let a = c.2 in let b = c.3 in omega (arith, a, b)) in
        let back : drop n (drop (end + 1) text) ≡ drop to text = drop-drop n (end + 1) text ∙ ap (λ (m : ℕ). drop m text) (sym c.3) in
        let front : take n (drop (end + 1) text) ≡ part text from to = (λ i. take (size i) (drop (sym c.2 i) text)) in (
          (let a = c.2 in let b = c.3 in omega (arith, a, b)),
          (let b = c.3 in let m = c.4 in omega (arith, b, m)),
          found (Some n) c.1 ∙ ap (λ (x : Bool). if x then Some (take n (drop (end + 1) text), drop n (drop (end + 1) text)) else None) enough ∙ (λ i. Some (front i, back i)),
          header (Some n) c.1,
        )

pub no_line : (w : List ℕ) (most : ℕ) (text : List ℕ) → first_line text ≡ None → may_begin w most text ≡ false → IsPortion w most text portions.NoHeader
no_line w most text none e = (ap (counted_by w most) none, ap (is_no_header w most text) none ∙ ap not e)

pub short_line : (w : List ℕ) (most : ℕ) (text : List ℕ) → first_line text ≡ None → may_begin w most text ≡ true → IsPortion w most text portions.Short
short_line w most text none e = (ap (counted_by w most) none, ap (is_no_header w most text) none ∙ ap not e)

-- whether a line that isn't whole may be a header
pub begins_short : (w word : List ℕ) (most : ℕ) (text : List ℕ) → word ≡ w ++ codes ";" → length text ≤ length word → starts_with nat_eq word text ≡ may_begin w most text
begins_short w word most text e short =
    let size : length word ≡ length w + 1 = ap (length {A = ℕ}) e ∙ length-append w (codes ";") in
    let near : nat_le (length text) (length w + 1) ≡ true = le-leb (length text) (length w + 1) (omega (arith, size, short)) in
    ap (λ (u : List ℕ). starts_with nat_eq u text) e
    ∙ sym (ap (λ (x : Bool). if x then starts_with nat_eq (w ++ codes ";") text else starts_with nat_eq text (w ++ codes ";") && is_some (number_within most (drop (length w + 1) text))) near)

pub begins_long : (w word : List ℕ) (most : ℕ) (text : List ℕ) → word ≡ w ++ codes ";" → length word < length text → is_some (count_in word most text) ≡ may_begin w most text
begins_long w word most text e long =
    let size : length word ≡ length w + 1 = ap (length {A = ℕ}) e ∙ length-append w (codes ";") in
    let far : nat_le (length text) (length w + 1) ≡ false = lt-leb (length text) (length w + 1) (omega (arith, size, long)) in
    ap is_some (counts w word most text e)
    ∙ by (starts_with nat_eq text (w ++ codes ";"))
    ∙ sym (ap (λ (x : Bool). if x then starts_with nat_eq (w ++ codes ";") text else starts_with nat_eq text (w ++ codes ";") && is_some (number_within most (drop (length w + 1) text))) far)
  where
    by : (x : Bool) → is_some (if x then number_within most (drop (length w + 1) text) else None) ≡ (x && is_some (number_within most (drop (length w + 1) text)))
    by true = refl
    by false = refl

-- ---- both

abbrev pub records_word : List ℕ
records_word = codes "RECORDS"

abbrev pub output_word : List ℕ
output_word = codes "OUTPUT"

begin_header : (input : List ℕ) (x : Bool) (o : Option (List ℕ × List ℕ)) → is_no_header records_word longest_input input (first_line input) ≡ x → portion records_word longest_input input ≡ o → has_no_header input ≡ (x || has_no_output o)
begin_header input x o h e = λ i. h i || has_no_output (e i)

begin_before : (input : List ℕ) (o : Option (List ℕ × List ℕ)) → portion records_word longest_input input ≡ o → before_of input ≡ behind_records o
unfolding before_of
begin_before input o e = ap behind_records e

pub begin_short : (input : List ℕ) → IsPortion records_word longest_input input portions.Short → IsBeginning input beginnings.Short
begin_short input p = (begin_before input None p.0, begin_header input false None p.1 p.0)

pub begin_none : (input : List ℕ) → IsPortion records_word longest_input input portions.NoHeader → IsBeginning input beginnings.NoHeader
begin_none input p = (begin_before input None p.0, begin_header input true None p.1 p.0)

-- where the output's portion is, after what was read
abbrev pub placed : ℕ → ℕ → Portion → Beginning
placed read end portions.Short = beginnings.Short
placed read end portions.NoHeader = beginnings.NoHeader
placed read end (portions.Whole from to) = beginnings.Whole read end (end + from) (end + to)

pub begin_whole : (input : List ℕ) (read end : ℕ) (p : Portion) → IsPortion records_word longest_input input (portions.Whole read end) → IsPortion output_word longest_output (drop end input) p → IsBeginning input (placed read end p)
begin_whole input read end portions.Short first q =
    (begin_before input _ first.2 ∙ ap (with_written (part input read end)) q.0, begin_header input false _ first.3 first.2 ∙ q.1)
begin_whole input read end portions.NoHeader first q =
    (begin_before input _ first.2 ∙ ap (with_written (part input read end)) q.0, begin_header input false _ first.3 first.2 ∙ q.1)
begin_whole input read end (portions.Whole from to) first q =
    let left = length-drop {A = ℕ} end input in
    let a = first.0 in
    let b = first.1 in
    let c = q.0 in
    let d = q.1 in
    let size : to - from ≡ (end + to) - (end + from) = omega arith in
    let written : part (drop end input) from to ≡ part input (end + from) (end + to) = (λ i. take (size i) (drop-drop from end input i)) in
    let rest : drop to (drop end input) ≡ drop (end + to) input = drop-drop to end input in (
      a,
      b,
      omega (arith, c),
      omega (arith, d, left, b),
      begin_before input _ first.2 ∙ ap (with_written (part input read end)) q.2 ∙ (λ i. Some (record { read = part input read end; written = written i; rest = rest i })),
      begin_header input false _ first.3 first.2 ∙ q.3,
    )

-- the rest of a text from a place on, as a slice is
pub rest_of : (text : List ℕ) (n : ℕ) → take (length text - n) (drop n text) ≡ drop n text
rest_of text n = take_all (length text - n) (drop n text) (let left = length-drop {A = ℕ} n text in omega (arith, left))

pub places_inside : (input : List ℕ) (read end from to : ℕ) → IsPortion records_word longest_input input (portions.Whole read end) → IsPortion output_word longest_output (take (length input - end) (drop end input)) (portions.Whole from to)
    → (end + from ≤ length input) × (end + to ≤ length input)
places_inside input read end from to first q =
    let left = length-drop {A = ℕ} end input in
    let size = ap (length {A = ℕ}) (rest_of input end) in
    let b = first.1 in
    let c = q.0 in
    let d = q.1 in
    (omega (arith, left, size, b, c, d), omega (arith, left, size, b, d))

-- ---- what comes after a beginning that is whole

pub one_line_more : (text more line rest : List ℕ) → first_line text ≡ Some (line, rest) → first_line (text ++ more) ≡ Some (line, rest ++ more)
unfolding first_line
one_line_more [] more line rest e = cc e
one_line_more (b ∷ text) more line rest e = by (b == 10) (first_line text) (one_line_more text more) refl e
  where
    by : (x : Bool) (o : Option (List ℕ × List ℕ)) → ((l r : List ℕ) → first_line text ≡ Some (l, r) → first_line (text ++ more) ≡ Some (l, r ++ more)) → first_line text ≡ o
        → (if x then Some ([], text) else one_more b o) ≡ Some (line, rest) → (if x then Some ([], text ++ more) else one_more b (first_line (text ++ more))) ≡ Some (line, rest ++ more)
    by true o further h e =
        let same : ◌≡◌ {A = List ℕ × List ℕ} ([], text) (line, rest) = cc e in
        ap (λ (p : List ℕ × List ℕ). Some (p.0, p.1 ++ more)) same
    by false None further h e = cc e
    by false (Some s) further h e =
        let same : ◌≡◌ {A = List ℕ × List ℕ} (b ∷ s.0, s.1) (line, rest) = cc e in
        ap (one_more b) (further s.0 s.1 h) ∙ ap (λ (p : List ℕ × List ℕ). Some (p.0, p.1 ++ more)) same

pub portion_more : (word : List ℕ) (most : ℕ) (text more : List ℕ) (s : List ℕ × List ℕ) → portion word most text ≡ Some s → portion word most (text ++ more) ≡ Some (s.0, s.1 ++ more)
portion_more word most text more s e =
    let c = counted word most text s e in
    let inside : nat_le c.n (length (c.rest ++ more)) ≡ true = le-leb c.n (length (c.rest ++ more)) (let a = c.inside in let b = length-append c.rest more in omega (arith, a, b)) in
    let front = take-append-le c.n c.rest more c.inside in
    let back = drop-append-le c.n c.rest more c.inside in
    ap (counted_by word most) (one_line_more text more c.line c.rest c.first)
    ∙ (λ i. if c.named i then split_at (c.rest ++ more) (c.count i) else None)
    ∙ ap (λ (x : Bool). if x then Some (take c.n (c.rest ++ more), drop c.n (c.rest ++ more)) else None) inside
    ∙ (λ i. Some (front i, back i))
    ∙ ap (λ (p : List ℕ × List ℕ). Some (p.0, p.1 ++ more)) (sym c.is)

-- the two portions of a beginning
record Both (bytes : List ℕ) (b : Before) : Type 0 where
  s : List ℕ × List ℕ
  t : List ℕ × List ℕ
  first : portion records_word longest_input bytes ≡ Some s
  then_is : portion output_word longest_output s.1 ≡ Some t
  is : b ≡ record { read = s.0; written = t.0; rest = t.1 }

both_of : (bytes : List ℕ) (b : Before) → before_of bytes ≡ Some b → Both bytes b
unfolding before_of
both_of bytes b e = by (portion records_word longest_input bytes) refl e
  where
    further : (s : List ℕ × List ℕ) → portion records_word longest_input bytes ≡ Some s → (o : Option (List ℕ × List ℕ)) → portion output_word longest_output s.1 ≡ o → with_written s.0 o ≡ Some b → Both bytes b
    further s first None h e = cc e
    further s first (Some t) h e = record { s = s; t = t; first = first; then_is = h; is = let same : record { read = s.0; written = t.0; rest = t.1 } ≡ b = cc e in sym same }

    by : (o : Option (List ℕ × List ℕ)) → portion records_word longest_input bytes ≡ o → behind_records o ≡ Some b → Both bytes b
    by None h e = cc e
    by (Some s) h e = further s h (portion output_word longest_output s.1) refl e

pub before_more : (bytes more : List ℕ) (b : Before) → before_of bytes ≡ Some b → before_of (bytes ++ more) ≡ Some (record b { rest = b.rest ++ more })
unfolding before_of
before_more bytes more b e =
    let two = both_of bytes b e in
    ap behind_records (portion_more records_word longest_input bytes more two.s two.first)
    ∙ ap (with_written two.s.0) (portion_more output_word longest_output two.s.1 more two.t two.then_is)
    ∙ ap (λ (c : Before). Some (record c { rest = c.rest ++ more })) (sym two.is)

pub has_header : (bytes : List ℕ) (b : Before) → before_of bytes ≡ Some b → has_no_header bytes ≡ false
has_header bytes b e =
    let two = both_of bytes b e in
    begin_header bytes false (Some two.s) (has_this_header records_word longest_input bytes two.s two.first) two.first
    ∙ has_this_header output_word longest_output two.s.1 two.t two.then_is

pub read_within : (bytes : List ℕ) (b : Before) → before_of bytes ≡ Some b → length b.read ≤ longest_input
read_within bytes b e =
    let two = both_of bytes b e in
    let sizes = sizes_of records_word longest_input bytes two.s (omega arith) two.first in
    let is = ap (λ (c : Before). length c.read) two.is in
    let low = sizes.first in
    omega (arith, is, low)
