-- What stands after a header.
use Rattle.std.proofs.Common.{◌≡◌, ◌∙◌, ◌+◌, ◌^◌, ◌≤◌, ◌<◌, ◌++◌, ◌⊎◌, ℕ, suc, Bool, true, false, not, List, [], ◌∷◌, Option, None, Some, length, length-drop, take, drop, refl, sym, ap, arith, inl, inr}
use Rattle.std.specs.Prelude.{◌&&◌, ◌==◌, bytes_eq, codes, decimal, if◌then◌else◌, is_some, nat_eq, nat_le}
use Rattle.std.specs.List.{list_all, starts_with}
use Rattle.std.specs.Str.Parse.{digits_value}
use Rattle.std.proofs.lemmas.Bool.{leb-true, le-leb, lt-leb}
use Rattle.std.proofs.lemmas.List.{length-take-le}
use Rattle.std.proofs.lemmas.Fmt.{length-decimal-le}
use Rattle.std.proofs.lemmas.Slice.Eq.{bytes_eq-Decides}
use Rattle.cash_amounts.specs.Names.{is_digit}
use Rattle.live_day.specs.Resumed.{counted_by, first_line, is_no_header, may_begin, number_within, one_more, portion, split_at}

-- ---- numbers

pub number_is : (most : ℕ) (text : List ℕ) (n : ℕ) → number_within most text ≡ Some n → (n ≤ most) × (decimal n ≡ text) × (digits_value 10 text ≡ n)
number_is most text n e = by (list_all is_digit text) (bytes_eq (decimal (digits_value 10 text)) text) (nat_le (digits_value 10 text) most) refl refl e
  where
    by : (a b c : Bool) → bytes_eq (decimal (digits_value 10 text)) text ≡ b → nat_le (digits_value 10 text) most ≡ c → (if a && b && c then Some (digits_value 10 text) else None) ≡ Some n → (n ≤ most) × (decimal n ≡ text) × (digits_value 10 text ≡ n)
    by true true true h g e =
        let is : digits_value 10 text ≡ n = cc e in
        let low = leb-true (digits_value 10 text) most g in
        (omega (arith, is, low), ap decimal (sym is) ∙ (bytes_eq-Decides (decimal (digits_value 10 text)) text).0 h, is)
    by true true false h g e = cc e
    by true false c h g e = cc e
    by false b c h g e = cc e

none_or_is : (o : Option ℕ) → ((n : ℕ) → o ≡ Some n → ⊥) → o ≡ None
none_or_is None h = refl
none_or_is (Some n) h = absurd (h n refl)

pub no_number : (most : ℕ) (text : List ℕ) → most < 10 ^ 9 → 9 < length text → number_within most text ≡ None
no_number most text low long = none_or_is (number_within most text) (λ n e.
    let is = number_is most text n e in
    let short = length-decimal-le 9 n (omega arith) (omega (arith, low, is.0)) (omega (arith, low, is.0)) in
    let size = ap (length {A = ℕ}) is.1 in
    omega (arith, long, short, size))

-- a line that is too long is no front of a header
pub long_begins : (word : List ℕ) (most : ℕ) (text : List ℕ) → most < 10 ^ 9 → length word + 10 < length text → may_begin word most text ≡ false
long_begins word most text low long =
    let far : nat_le (length text) (length word + 1) ≡ false = lt-leb (length text) (length word + 1) (omega (arith, long)) in
    let left = length-drop {A = ℕ} (length word + 1) text in
    let none = no_number most (drop (length word + 1) text) low (omega (arith, left, long)) in
    (λ i. if far i then starts_with nat_eq (word ++ codes ";") text else starts_with nat_eq text (word ++ codes ";") && is_some (none i))
    ∙ neither (starts_with nat_eq text (word ++ codes ";"))
  where
    neither : (x : Bool) → (x && false) ≡ false
    neither true = refl
    neither false = refl

-- ---- lines

pub line_size : (text line rest : List ℕ) → first_line text ≡ Some (line, rest) → length text ≡ length line + 1 + length rest
unfolding first_line
line_size [] line rest e = cc e
line_size (b ∷ text) line rest e = by (b == 10) (first_line text) (line_size text) refl e
  where
    by : (x : Bool) (o : Option (List ℕ × List ℕ)) → ((l r : List ℕ) → first_line text ≡ Some (l, r) → length text ≡ length l + 1 + length r) → first_line text ≡ o → (if x then Some ([], text) else one_more b o) ≡ Some (line, rest) → suc (length text) ≡ length line + 1 + length rest
    by true o further h e =
        let same : ◌≡◌ {A = List ℕ × List ℕ} ([], text) (line, rest) = cc e in
        let a = ap (λ (p : List ℕ × List ℕ). length p.0) same in
        let c = ap (λ (p : List ℕ × List ℕ). length p.1) same in
        omega (arith, a, c)
    by false None further h e = cc e
    by false (Some s) further h e =
        let same : ◌≡◌ {A = List ℕ × List ℕ} (b ∷ s.0, s.1) (line, rest) = cc e in
        let more = further s.0 s.1 h in
        let a = ap (λ (p : List ℕ × List ℕ). length p.0) same in
        let c = ap (λ (p : List ℕ × List ℕ). length p.1) same in
        omega (arith, a, c, more)

-- ---- portions

-- a header of this word counts what stands in these two parts
pub record Counted (word : List ℕ) (most : ℕ) (text : List ℕ) (s : List ℕ × List ℕ) : Type 0 where
  pub line : List ℕ
  pub rest : List ℕ
  pub n : ℕ
  pub first : first_line text ≡ Some (line, rest)
  pub named : starts_with nat_eq line (word ++ codes ";") ≡ true
  pub count : number_within most (drop (length word + 1) line) ≡ Some n
  pub inside : n ≤ length rest
  pub is : s ≡ (take n rest, drop n rest)

pub counted : (word : List ℕ) (most : ℕ) (text : List ℕ) (s : List ℕ × List ℕ) → portion word most text ≡ Some s → Counted word most text s
counted word most text s e = lines (first_line text) refl e
  where
    sizes : (line rest : List ℕ) (n : ℕ) → first_line text ≡ Some (line, rest) → starts_with nat_eq line (word ++ codes ";") ≡ true → number_within most (drop (length word + 1) line) ≡ Some n
        → (x : Bool) → nat_le n (length rest) ≡ x → (if x then Some (take n rest, drop n rest) else None) ≡ Some s → Counted word most text s
    sizes line rest n first named count true inside e = record {
      line = line;
      rest = rest;
      n = n;
      first = first;
      named = named;
      count = count;
      inside = leb-true n (length rest) inside;
      is = let same : ◌≡◌ {A = List ℕ × List ℕ} (take n rest, drop n rest) s = cc e in sym same;
    }
    sizes line rest n first named count false inside e = cc e

    numbers : (line rest : List ℕ) → first_line text ≡ Some (line, rest) → starts_with nat_eq line (word ++ codes ";") ≡ true
        → (o : Option ℕ) → number_within most (drop (length word + 1) line) ≡ o → split_at rest o ≡ Some s → Counted word most text s
    numbers line rest first named None count e = cc e
    numbers line rest first named (Some n) count e = sizes line rest n first named count (nat_le n (length rest)) refl e

    words : (line rest : List ℕ) → first_line text ≡ Some (line, rest) → (x : Bool) → starts_with nat_eq line (word ++ codes ";") ≡ x
        → (if x then split_at rest (number_within most (drop (length word + 1) line)) else None) ≡ Some s → Counted word most text s
    words line rest first true named e = numbers line rest first named (number_within most (drop (length word + 1) line)) refl e
    words line rest first false named e = cc e

    lines : (o : Option (List ℕ × List ℕ)) → first_line text ≡ o → counted_by word most o ≡ Some s → Counted word most text s
    lines None first e = cc e
    lines (Some l) first e = words l.0 l.1 first (starts_with nat_eq l.0 (word ++ codes ";")) refl e

-- and then there is such a header
pub has_this_header : (word : List ℕ) (most : ℕ) (text : List ℕ) (s : List ℕ × List ℕ) → portion word most text ≡ Some s → is_no_header word most text (first_line text) ≡ false
has_this_header word most text s e =
    let c = counted word most text s e in
    ap (is_no_header word most text) c.first ∙ (λ i. not (c.named i && is_some (c.count i)))

-- how much stands in the parts, beside a header of at most nine digits
pub record Sizes (word : List ℕ) (most : ℕ) (text : List ℕ) (s : List ℕ × List ℕ) : Type 0 where
  pub first : length s.0 ≤ most
  pub whole : length text ≤ length word + 11 + (length s.0 + length s.1)

line_short : (word : List ℕ) (most : ℕ) (line : List ℕ) (n : ℕ) → most < 10 ^ 9 → number_within most (drop (length word + 1) line) ≡ Some n → length line ≤ length word + 10
line_short word most line n low e =
    let is = number_is most (drop (length word + 1) line) n e in
    let short = length-decimal-le 9 n (omega arith) (omega (arith, low, is.0)) (omega (arith, low, is.0)) in
    let size = ap (length {A = ℕ}) is.1 in
    let left = length-drop {A = ℕ} (length word + 1) line in
    omega (arith, short, size, left)

pub sizes_of : (word : List ℕ) (most : ℕ) (text : List ℕ) (s : List ℕ × List ℕ) → most < 10 ^ 9 → portion word most text ≡ Some s → Sizes word most text s
sizes_of word most text s low e =
    let c = counted word most text s e in
    let line = line_short word most c.line c.n low c.count in
    let size = line_size text c.line c.rest c.first in
    let number = number_is most (drop (length word + 1) c.line) c.n c.count in
    let one = ap (λ (p : List ℕ × List ℕ). length p.0) c.is in
    let two = ap (λ (p : List ℕ × List ℕ). length p.1) c.is in
    let front = length-take-le c.n c.rest c.inside in
    let back = length-drop {A = ℕ} c.n c.rest in
    let within = c.inside in
    record { first = omega (arith, one, front, number.0); whole = omega (arith, one, two, front, back, size, line, within) }

-- a text that is long enough has the portion, or no such header
pub there : (word : List ℕ) (most : ℕ) (text : List ℕ) → most < 10 ^ 9 → length word + 11 + most ≤ length text → (is_no_header word most text (first_line text) ≡ true) ⊎ ((s : List ℕ × List ℕ) × (portion word most text ≡ Some s))
there word most text low long = lines (first_line text) refl
  where
    numbers : (line rest : List ℕ) → first_line text ≡ Some (line, rest) → (o : Option ℕ) → number_within most (drop (length word + 1) line) ≡ o
        → (is_some o ≡ false) ⊎ ((s : List ℕ × List ℕ) × (split_at rest o ≡ Some s))
    numbers line rest first None count = inl refl
    numbers line rest first (Some n) count =
        let size = line_size text line rest first in
        let short = line_short word most line n low count in
        let number = number_is most (drop (length word + 1) line) n count in
        let inside : nat_le n (length rest) ≡ true = le-leb n (length rest) (omega (arith, size, short, number.0, long)) in
        inr ((take n rest, drop n rest), ap (λ (x : Bool). if x then Some (take n rest, drop n rest) else None) inside)

    words : (line rest : List ℕ) → first_line text ≡ Some (line, rest) → (x : Bool)
        → (not (x && is_some (number_within most (drop (length word + 1) line))) ≡ true) ⊎ ((s : List ℕ × List ℕ) × ((if x then split_at rest (number_within most (drop (length word + 1) line)) else None) ≡ Some s))
    words line rest first false = inl refl
    words line rest first true = elim (numbers line rest first (number_within most (drop (length word + 1) line)) refl) [
      | inl none ↦ inl (ap not none)
      | inr some ↦ inr some
    ]

    lines : (o : Option (List ℕ × List ℕ)) → first_line text ≡ o → (is_no_header word most text o ≡ true) ⊎ ((s : List ℕ × List ℕ) × (counted_by word most o ≡ Some s))
    lines None first = inl (ap not (long_begins word most text low (omega (arith, long))))
    lines (Some l) first = words l.0 l.1 first (starts_with nat_eq l.0 (word ++ codes ";"))
