-- What a run that goes on is told first, in its form, is taken as what it is.
use Rattle.std.proofs.Common.{◌≡◌, ◌∙◌, ◌+◌, ◌^◌, ◌≤◌, ◌<◌, ◌++◌, ◌≢◌, ℕ, Bool, true, false, not, List, [], ◌∷◌, None, Some, append_assoc, length, length-append, take, drop, refl, sym, ap, arith}
use Rattle.std.specs.Prelude.{◌&&◌, ◌==◌, bytes_eq, codes, decimal, if◌then◌else◌, nat_eq, nat_le}
use Rattle.std.specs.List.{list_all, starts_with}
use Rattle.std.specs.Str.Parse.{digits_value}
use Rattle.std.proofs.Math.Seq.{drop-append_seam, take-append_seam}
use Rattle.std.proofs.lemmas.Bool.{le-leb}
use Rattle.std.proofs.lemmas.Bool.Decides.{Decides-eqb}
use Rattle.std.proofs.lemmas.Fmt.{decimal_is_IsNumeral}
use Rattle.std.proofs.lemmas.List.Folds.{list_all-append}
use Rattle.std.proofs.lemmas.Slice.Eq.{bytes_eq-Decides, starts_is}
use Rattle.std.proofs.lemmas.Str.Parse.{digit_from_value}
use Rattle.std.specs.Str.Parse.{AllDigits}
use Rattle.cash_amounts.specs.Names.{is_digit}
use Rattle.commit_journal.proofs.FieldLemmas.{is_free, number_free}
use Rattle.live_day.specs.Answers.{longest_input}
use Rattle.live_day.specs.BeforeText.{before_text, counted_text}
use Rattle.live_day.specs.Resumed.{Before, before_of, behind_records, counted_by, first_line, longest_output, number_within, one_more, portion, split_at, with_written}

-- ---- a line

pub first_free : (line rest : List ℕ) → is_free 10 line ≡ true → first_line (line ++ 10 ∷ rest) ≡ Some (line, rest)
unfolding first_line
first_free [] rest h = refl
first_free (b ∷ line) rest h = by (b == 10) h (first_free line rest)
  where
    by : (x : Bool) → (not x && is_free 10 line) ≡ true → (is_free 10 line ≡ true → first_line (line ++ 10 ∷ rest) ≡ Some (line, rest))
        → (if x then Some ([], line ++ 10 ∷ rest) else one_more b (first_line (line ++ 10 ∷ rest))) ≡ Some (b ∷ line, rest)
    by true h further = cc h
    by false h further = ap (one_more b) (further h)

-- ---- a number

pub digits_pass : (ds : List ℕ) → AllDigits 10 ds → list_all is_digit ds ≡ true
digits_pass [] d = refl
digits_pass (c ∷ ds) d =
    let r = digit_from_value c d.0 in
    let one : is_digit c ≡ true = (λ i. le-leb 48 c r.0 i && le-leb c 57 r.1 i) in
    (λ i. one i && digits_pass ds d.1 i)

number_taken : (most n : ℕ) → n ≤ most → n < 2 ^ 64 → number_within most (decimal n) ≡ Some n
number_taken most n low small =
    let numeral = decimal_is_IsNumeral n small in
    let digits : list_all is_digit (decimal n) ≡ true = digits_pass (decimal n) numeral.0.1 in
    let written : bytes_eq (decimal (digits_value 10 (decimal n))) (decimal n) ≡ true = (bytes_eq-Decides (decimal (digits_value 10 (decimal n))) (decimal n)).1 (ap decimal numeral.1) in
    let inside : nat_le (digits_value 10 (decimal n)) most ≡ true = ap (λ (m : ℕ). nat_le m most) numeral.1 ∙ le-leb n most low in
    (λ i. if digits i && written i && inside i then Some (digits_value 10 (decimal n)) else None) ∙ ap Some numeral.1

-- ---- a portion

apart : (b : ℕ) → 48 ≤ b → b ≤ 57 → b ≢ 10
apart b low high e = omega (arith, low, e)

-- the header of so many bytes, without its LF
abbrev named_line : List ℕ → List ℕ → List ℕ
named_line word bytes = (word ++ codes ";") ++ decimal (length bytes)

pub portion_taken : (word : List ℕ) (most : ℕ) (bytes rest : List ℕ) → is_free 10 (word ++ codes ";") ≡ true → length bytes ≤ most → length bytes < 2 ^ 64 → portion word most (counted_text word bytes rest) ≡ Some (bytes, rest)
portion_taken word most bytes rest free low small =
    ap (counted_by word most) line
    ∙ (λ i. if named i then split_at (bytes ++ rest) (number_within most (number i)) else None)
    ∙ ap (split_at (bytes ++ rest)) (number_taken most (length bytes) low small)
    ∙ (λ i. if inside i then Some (take (length bytes) (bytes ++ rest), drop (length bytes) (bytes ++ rest)) else None)
    ∙ (λ i. Some (take-append_seam bytes rest i, drop-append_seam bytes rest i))
  where
    all_free : is_free 10 (named_line word bytes) ≡ true
    all_free = list_all-append (λ (b : ℕ). not (b == 10)) (word ++ codes ";") (decimal (length bytes)) ∙ (λ i. free i && number_free 10 (length bytes) apart small i)

    line : first_line (counted_text word bytes rest) ≡ Some (named_line word bytes, bytes ++ rest)
    line = ap first_line (sym (append_assoc (word ++ codes ";") (decimal (length bytes)) (10 ∷ (bytes ++ rest)))) ∙ first_free (named_line word bytes) (bytes ++ rest) all_free

    named : starts_with nat_eq (named_line word bytes) (word ++ codes ";") ≡ true
    named = (starts_is Decides-eqb (named_line word bytes) (word ++ codes ";") (starts_with nat_eq (named_line word bytes) (word ++ codes ";")) refl).1 (decimal (length bytes)) refl

    number : drop (length word + 1) (named_line word bytes) ≡ decimal (length bytes)
    number = ap (λ (k : ℕ). drop k (named_line word bytes)) (sym (length-append word (codes ";"))) ∙ drop-append_seam (word ++ codes ";") (decimal (length bytes))

    inside : nat_le (length bytes) (length (bytes ++ rest)) ≡ true
    inside = let sum = length-append bytes rest in le-leb (length bytes) (length (bytes ++ rest)) (omega (arith, sum))

-- ---- both

pub headers_taken : (b : Before) → length b.read ≤ longest_input → length b.written ≤ longest_output → before_of (before_text b) ≡ Some b
unfolding before_of
headers_taken b read written =
    ap behind_records (portion_taken (codes "RECORDS") longest_input b.read (counted_text (codes "OUTPUT") b.written b.rest) refl read (omega (arith, read)))
    ∙ ap (with_written b.read) (portion_taken (codes "OUTPUT") longest_output b.written b.rest refl written (omega (arith, written)))
