-- Lines of plain fields are read as these fields, and a day part of such lines ends with its line END.
use Rattle.std.proofs.Common.{◌≡◌, ◌<◌, ◌≤◌, ◌+◌, ℕ, zero, suc, List, [], ◌∷◌, ◌++◌, Some, None, Bool, true, false, not, length, refl, ap, arith, append_assoc, append-nil, length-append, ◌∙◌}
use Rattle.std.specs.Prelude.{◌==◌, ◌||◌}
use Rattle.std.specs.List.{flat_map, join_with_byte, list_all}
use Rattle.std.proofs.lemmas.Grind.{flat_map-append}
use Rattle.std.proofs.lemmas.List.Concat.{flat_map-cons}
use Rattle.csv.specs.Machine.{next_record}
use Rattle.csv.specs.Reading.{records_from}
use Rattle.csv.specs.declared.parser.State.TheVariants as states
use Rattle.outside_io.specs.TextLine.{text_line}
use Rattle.batch_records.specs.DayPart.{end_line_len, part_len, starts_line}
use Rattle.batch_records.specs.DayTexts.{end_record}
use Rattle.batch_records.specs.Records.{Fields, day_config}
use Rattle.batch_records.proofs.BoolFacts.{and_both, not_true, or_neither}
use Rattle.batch_records.proofs.ListFacts.{AllIn}

-- ---- plain bytes

-- the bytes that are no plain part of a field
abbrev pub is_mark : ℕ → Bool
is_mark c = (c == 59) || (c == 34) || (c == 13) || (c == 10)

abbrev pub is_plain : List ℕ → Bool
is_plain x = list_all (λ c. not (is_mark c)) x

abbrev IsNoMark : ℕ → Type 0
IsNoMark c = ((c == 59) ≡ false) × ((c == 34) ≡ false) × ((c == 13) ≡ false) × ((c == 10) ≡ false)

no_mark : (c : ℕ) → not (is_mark c) ≡ true → IsNoMark c
no_mark c e =
    let last = or_neither ((c == 59) || (c == 34) || (c == 13)) (c == 10) (not_true (is_mark c) e) in
    let third = or_neither ((c == 59) || (c == 34)) (c == 13) last.0 in
    let first = or_neither (c == 59) (c == 34) third.0 in
    (first.0, first.1, third.1, last.1)

-- ---- a line read by csv

plain_run : (fields : Fields) (field x tail : List ℕ) → is_plain x ≡ true → next_record day_config states.InField fields field (x ++ tail) ≡ next_record day_config states.InField fields (field ++ x) tail
unfolding next_record
plain_run fields field [] tail e = rw (append-nil field) refl
plain_run fields field (b ∷ x) tail e =
    let both = and_both (not (is_mark b)) (is_plain x) e in
    let q = no_mark b both.0 in
    rw (q.0, q.2, q.3) (plain_run fields (field ++ (b ∷ [])) x tail both.1 ∙ ap (λ (f : List ℕ). next_record day_config states.InField fields f tail) (append_assoc field (b ∷ []) x))

-- a byte that is no quote does the same at the start of a field and in one
start_same : (fields : Fields) (c : ℕ) (tail : List ℕ) → (c == 34) ≡ false → next_record day_config states.StartField fields [] (c ∷ tail) ≡ next_record day_config states.InField fields [] (c ∷ tail)
unfolding next_record
start_same fields c tail n = rw n refl

field_start : (fields : Fields) (x : List ℕ) (c : ℕ) (tail : List ℕ) → (c == 34) ≡ false → is_plain x ≡ true → next_record day_config states.StartField fields [] (x ++ (c ∷ tail)) ≡ next_record day_config states.InField fields x (c ∷ tail)
field_start fields [] c tail n e = start_same fields c tail n
field_start fields (b ∷ x) c tail n e =
    let q = no_mark b (and_both (not (is_mark b)) (is_plain x) e).0 in
    start_same fields b (x ++ (c ∷ tail)) q.1 ∙ plain_run fields [] (b ∷ x) (c ∷ tail) e

field_ends : (fields : Fields) (x u : List ℕ) → next_record day_config states.InField fields x (59 ∷ u) ≡ next_record day_config states.StartField (fields ++ (x ∷ [])) [] u
unfolding next_record
field_ends fields x u = refl

record_ends : (fields : Fields) (x tail : List ℕ) → next_record day_config states.InField fields x (10 ∷ tail) ≡ Some (fields ++ x ∷ [], states.StartRecord, tail)
unfolding next_record
record_ends fields x tail = refl

line_one : (x tail : List ℕ) → text_line (x ∷ []) ++ tail ≡ x ++ (10 ∷ tail)
line_one x tail = append_assoc x (10 ∷ []) tail

line_more : (x y : List ℕ) (ys : Fields) (tail : List ℕ) → text_line (x ∷ y ∷ ys) ++ tail ≡ x ++ (59 ∷ (text_line (y ∷ ys) ++ tail))
line_more x y ys tail =
    ap (λ (t : List ℕ). t ++ tail) (append_assoc x (59 ∷ join_with_byte 59 (y ∷ ys)) (10 ∷ []))
    ∙ append_assoc x (59 ∷ text_line (y ∷ ys)) tail

line_run : (fields : Fields) (x : List ℕ) (rest : Fields) (tail : List ℕ) → is_plain x ≡ true → list_all is_plain rest ≡ true
    → next_record day_config states.StartField fields [] (text_line (x ∷ rest) ++ tail) ≡ Some (fields ++ x ∷ rest, states.StartRecord, tail)
line_run fields x [] tail e all = rw (line_one x tail) (field_start fields x 10 tail refl e ∙ record_ends fields x tail)
line_run fields x (y ∷ ys) tail e all =
    let both = and_both (is_plain y) (list_all is_plain ys) all in
    rw (line_more x y ys tail) (field_start fields x 59 (text_line (y ∷ ys) ++ tail) refl e
    ∙ field_ends fields x (text_line (y ∷ ys) ++ tail)
    ∙ line_run (fields ++ (x ∷ [])) y ys tail both.0 both.1
    ∙ ap (λ (f : Fields). Some (f, states.StartRecord, tail)) (append_assoc fields (x ∷ []) (y ∷ ys)))

-- a record whose first field isn't empty
abbrev pub has_word : Fields → Bool
has_word ((c ∷ word) ∷ rest) = true
has_word _ = false

record_same : (c : ℕ) (tail : List ℕ) → (c == 13) ≡ false → (c == 10) ≡ false → next_record day_config states.StartRecord [] [] (c ∷ tail) ≡ next_record day_config states.StartField [] [] (c ∷ tail)
unfolding next_record
record_same c tail r n = rw (r, n) refl

record_start : (c : ℕ) (word : List ℕ) (rest : Fields) (tail : List ℕ) → IsNoMark c
    → next_record day_config states.StartRecord [] [] (text_line ((c ∷ word) ∷ rest) ++ tail) ≡ next_record day_config states.StartField [] [] (text_line ((c ∷ word) ∷ rest) ++ tail)
record_start c word [] tail q = rw (line_one (c ∷ word) tail) (record_same c (word ++ (10 ∷ tail)) q.2 q.3)
record_start c word (y ∷ ys) tail q = rw (line_more (c ∷ word) y ys tail) (record_same c (word ++ (59 ∷ (text_line (y ∷ ys) ++ tail))) q.2 q.3)

pub line_read : (r : Fields) (tail : List ℕ) → has_word r ≡ true → list_all is_plain r ≡ true → next_record day_config states.StartRecord [] [] (text_line r ++ tail) ≡ Some (r, states.StartRecord, tail)
line_read [] tail word plain = cc word
line_read ([] ∷ rest) tail word plain = cc word
line_read ((c ∷ w) ∷ rest) tail word plain =
    let both = and_both (is_plain (c ∷ w)) (list_all is_plain rest) plain in
    let q = no_mark c (and_both (not (is_mark c)) (is_plain w) both.0).0 in
    record_start c w rest tail q ∙ line_run [] (c ∷ w) rest tail both.0 both.1

-- ---- lines

-- a record of plain fields with a word in front
pub record IsPlainRecord (r : Fields) : Type 0 where
  pub word : has_word r ≡ true
  pub plain : list_all is_plain r ≡ true

lines_none : (m : ℕ) → records_from day_config m states.StartRecord [] ≡ []
unfolding records_from next_record
lines_none zero = refl
lines_none (suc m) = refl

lines_from : (rows : List Fields) (m : ℕ) → AllIn IsPlainRecord rows → length rows ≤ m → records_from day_config m states.StartRecord (flat_map text_line rows) ≡ rows
unfolding records_from
lines_from [] m all le = lines_none m
lines_from (r ∷ rows) zero all le = absurd (omega arith)
lines_from (r ∷ rows) (suc m) all le =
    rw (flat_map-cons text_line r rows, line_read r (flat_map text_line rows) all.0.word all.0.plain) (ap (λ (rs : List Fields). r ∷ rs) (lines_from rows m all.1 (omega arith)))

lines_long : (rows : List Fields) → length rows ≤ length (flat_map text_line rows)
lines_long [] = omega arith
lines_long (r ∷ rows) =
    let more = lines_long rows in
    let split = length-append (text_line r) (flat_map text_line rows) in
    let own = length-append (join_with_byte 59 r) (10 ∷ []) in
    rw (flat_map-cons text_line r rows) (omega arith)

pub lines_read : (rows : List Fields) → AllIn IsPlainRecord rows → records_from day_config (length (flat_map text_line rows) + 1) states.StartRecord (flat_map text_line rows) ≡ rows
lines_read rows all = let long = lines_long rows in lines_from rows (length (flat_map text_line rows) + 1) all (omega arith)

-- ---- where the day part ends

abbrev IsNoLineEnd : ℕ → Type 0
IsNoLineEnd c = ((c == 13) ≡ false) × ((c == 10) ≡ false)

part_inside : (x tail : List ℕ) → AllIn IsNoLineEnd x → part_len false (x ++ (10 ∷ tail)) ≡ length x + 1 + part_len true tail
unfolding part_len
part_inside [] tail all = omega arith
part_inside (c ∷ x) tail all =
    let more = part_inside x tail all.1 in
    let still : starts_line c (x ++ (10 ∷ tail)) ≡ false = rw (all.0.0, all.0.1) refl in
    rw (still, more) (omega arith)

part_line : (x tail : List ℕ) → AllIn IsNoLineEnd x → 0 < length x → end_line_len (x ++ (10 ∷ tail)) ≡ None → part_len true (x ++ (10 ∷ tail)) ≡ length x + 1 + part_len true tail
unfolding part_len
part_line [] tail all long other = absurd (omega arith)
part_line (c ∷ x) tail all long other =
    let more = part_inside x tail all.1 in
    let still : starts_line c (x ++ (10 ∷ tail)) ≡ false = rw (all.0.0, all.0.1) refl in
    rw (other, still, more) (omega arith)

plain_free : (x rest : List ℕ) → is_plain x ≡ true → AllIn IsNoLineEnd rest → AllIn IsNoLineEnd (x ++ rest)
plain_free [] rest e all = all
plain_free (c ∷ x) rest e all =
    let both = and_both (not (is_mark c)) (is_plain x) e in
    let q = no_mark c both.0 in
    ((q.2, q.3), plain_free x rest both.1 all)

joined_free : (r : Fields) → list_all is_plain r ≡ true → AllIn IsNoLineEnd (join_with_byte 59 r)
joined_free [] all = tt
joined_free (x ∷ []) all = rw (← append-nil x) (plain_free x [] (and_both (is_plain x) true all).0 tt)
joined_free (x ∷ y ∷ ys) all =
    let both = and_both (is_plain x) (list_all is_plain (y ∷ ys)) all in
    plain_free x (59 ∷ join_with_byte 59 (y ∷ ys)) both.0 ((refl, refl), joined_free (y ∷ ys) both.1)

joined_long : (r : Fields) → has_word r ≡ true → 0 < length (join_with_byte 59 r)
joined_long [] word = cc word
joined_long ([] ∷ rest) word = cc word
joined_long ((c ∷ w) ∷ []) word = omega arith
joined_long ((c ∷ w) ∷ y ∷ ys) word = omega arith

-- and no line of it is END
pub record IsOther (r : Fields) : Type 0 where
  pub plain : IsPlainRecord r
  pub other : (tail : List ℕ) → end_line_len (join_with_byte 59 r ++ (10 ∷ tail)) ≡ None

part_next : (r : Fields) (tail : List ℕ) → IsOther r → part_len true (text_line r ++ tail) ≡ length (text_line r) + part_len true tail
part_next r tail h =
    let whole : text_line r ++ tail ≡ join_with_byte 59 r ++ (10 ∷ tail) = append_assoc (join_with_byte 59 r) (10 ∷ []) tail in
    let long : length (text_line r) ≡ length (join_with_byte 59 r) + 1 = length-append (join_with_byte 59 r) (10 ∷ []) in
    rw (whole, long) (part_line (join_with_byte 59 r) tail (joined_free r h.plain.plain) (joined_long r h.plain.word) (h.other tail))

part_last : part_len true (text_line end_record) ≡ length (text_line end_record)
unfolding part_len end_line_len
part_last = refl

part_lines : (rows : List Fields) (tail : List ℕ) → AllIn IsOther rows → part_len true (flat_map text_line rows ++ tail) ≡ length (flat_map text_line rows) + part_len true tail
part_lines [] tail all = omega arith
part_lines (r ∷ rows) tail all =
    let more = part_lines rows tail all.1 in
    let next = part_next r (flat_map text_line rows ++ tail) all.0 in
    let long = length-append (text_line r) (flat_map text_line rows) in
    rw (flat_map-cons text_line r rows, append_assoc (text_line r) (flat_map text_line rows) tail, next, more, long) (omega arith)

pub part_whole : (rows : List Fields) → AllIn IsOther rows → part_len true (flat_map text_line (rows ++ end_record ∷ [])) ≡ length (flat_map text_line (rows ++ end_record ∷ []))
part_whole rows all =
    let whole : flat_map text_line (rows ++ end_record ∷ []) ≡ flat_map text_line rows ++ text_line end_record = flat_map-append text_line rows (end_record ∷ []) in
    let lines = part_lines rows (text_line end_record) all in
    let last = part_last in
    let long = length-append (flat_map text_line rows) (text_line end_record) in
    rw (whole, lines, last, long) refl
