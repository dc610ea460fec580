-- Rows that are kept in pages.
use Rattle.std.proofs.Common.{◌≡◌, ◌∙◌, ◌≢◌, ℕ, zero, suc, ◌+◌, ◌*◌, ◌-◌, ◌<◌, ◌≤◌, ◌/◌, ◌%◌, List, [], ◌∷◌, ◌++◌, length, slice_set, map, refl, sym, ap, arith, ◌⊎◌, inl, inr, get_or-set_same, get_or-set_other}
use Rattle.std.specs.Prelude.{replicate, slice_index_or, sum_by}
use Rattle.std.specs.List.{range_with_len}
use Rattle.std.proofs.Math.Seq.{get_or-append_seam}
use Rattle.std.proofs.lemmas.Bool.{cases_eq, cases_lt}
use Rattle.std.proofs.lemmas.List.{ext_get_or, get_or-replicate, get_or_append_left, get_or_past, length-append, length-replicate, length-set, set_past}
use Rattle.std.proofs.lemmas.List.Folds.{sum_by-replicate}
use Rattle.std.proofs.lemmas.List.FromFn.{get_or-map-range_with_len, length-map-range_with_len}
use Rattle.std.proofs.lemmas.List.Sums.{sum_by-set}
use Rattle.due_items.specs.Pages.{ArePages, in_page, lacking, row_at, rows_in}

-- ---- one row

-- a row of 0 more is none more
pub more-at : (old new : List ℕ) → new ≡ old ++ 0 ∷ [] → (t : ℕ) → slice_index_or new t 0 ≡ slice_index_or old t 0
more-at old new e t = ap (λ (xs : List ℕ). slice_index_or xs t 0) e ∙ here (cases_lt t (length old)) (cases_eq t (length old))
  where
    here : (t < length old) ⊎ (length old ≤ t) → (t ≡ length old) ⊎ ((t ≡ length old) → ⊥) → slice_index_or (old ++ 0 ∷ []) t 0 ≡ slice_index_or old t 0
    here (inl h) q = get_or_append_left old (0 ∷ []) 0 t h
    here (inr h) (inl q) = ap (λ m. slice_index_or (old ++ 0 ∷ []) m 0) q ∙ (get_or-append_seam old 0 [] 0 ∙ sym (get_or_past old t 0 h))
    here (inr h) (inr ne) =
        let len : length (old ++ 0 ∷ []) ≡ length old + 1 = length-append old (0 ∷ []) in
        get_or_past (old ++ 0 ∷ []) t 0 (omega (arith, len, h, ne)) ∙ sym (get_or_past old t 0 h)

pub page-at : (pages : List ℕ) (p i : ℕ) → 1 ≤ p → in_page pages p i ≡ slice_index_or pages ((p - 1) * 256 + i) 0
page-at pages zero i h = absurd (omega (arith, h))
page-at pages (suc p) i h = let e : p * 256 + i ≡ (suc p - 1) * 256 + i = omega arith in ap (λ m. slice_index_or pages m 0) e

page-same : (old new : List ℕ) → ((i : ℕ) → slice_index_or new i 0 ≡ slice_index_or old i 0) → (p i : ℕ) → in_page new p i ≡ in_page old p i
page-same old new same zero i = refl
page-same old new same (suc p) i = same (p * 256 + i)

pub row-at : (top pages : List ℕ) (t p : ℕ) → slice_index_or top (t / 256) 0 ≡ p → 1 ≤ p → row_at top pages t ≡ slice_index_or pages ((p - 1) * 256 + t % 256) 0
row-at top pages t p e h = ap (λ x. in_page pages x (t % 256)) e ∙ page-at pages p (t % 256) h

pub row-none : (top pages : List ℕ) (t : ℕ) → slice_index_or top (t / 256) 0 ≡ 0 → row_at top pages t ≡ 0
row-none top pages t e = ap (λ x. in_page pages x (t % 256)) e

-- ---- all rows

rows-length : (top pages : List ℕ) → length (rows_in top pages) ≡ 86401
rows-length top pages = length-map-range_with_len (row_at top pages) 0 86401

pub rows-at : (top pages : List ℕ) (t : ℕ) → t < 86401 → slice_index_or (rows_in top pages) t 0 ≡ row_at top pages t
rows-at top pages t low = get_or-map-range_with_len (row_at top pages) 0 86401 t t 0 low (omega arith)

pub rows-past : (top pages : List ℕ) (t : ℕ) → 86401 ≤ t → slice_index_or (rows_in top pages) t 0 ≡ 0
rows-past top pages t past = let len = rows-length top pages in get_or_past (rows_in top pages) t 0 (omega (arith, len, past))

-- after all rows nothing is set
pub nothing-past : (top pages : List ℕ) (t n : ℕ) → 86401 ≤ t → rows_in top pages ≡ slice_set (rows_in top pages) t n
nothing-past top pages t n past = let len = rows-length top pages in sym (set_past (rows_in top pages) t n (omega (arith, len, past)))

rows-same : (top pages new_top new_pages : List ℕ) → ((t : ℕ) → row_at new_top new_pages t ≡ row_at top pages t) → rows_in new_top new_pages ≡ rows_in top pages
rows-same top pages new_top new_pages same =
    let a = rows-length top pages in
    let b = rows-length new_top new_pages in
    ext_get_or 0 (rows_in new_top new_pages) (rows_in top pages) (omega (arith, a, b)) (λ t within.
    let low : t < 86401 = omega (arith, b, within) in
    rows-at new_top new_pages t low ∙ (same t ∙ sym (rows-at top pages t low)))

-- ---- without a page

pub none-are : (top pages : List ℕ) → top ≡ replicate 338 0 → pages ≡ [] → ArePages top pages
none-are top pages t p = record {
  tops = ap length t ∙ length-replicate 338 zero;
  whole = let len : length pages ≡ 0 = ap length p in let all : sum_by lacking top ≡ 338 = ap (sum_by lacking) t ∙ sum_by-replicate lacking 338 0 in omega (arith, len, all);
  made = λ b. let z = zero_at b in omega (arith, z);
  alone = λ b c some same. let z = zero_at b in absurd (omega (arith, z, some));
}
  where
    zero_at : (b : ℕ) → slice_index_or top b 0 ≡ 0
    zero_at b = ap (λ (xs : List ℕ). slice_index_or xs b 0) t ∙ here (cases_lt b 338)
      where
        here : (b < 338) ⊎ (338 ≤ b) → slice_index_or {A = ℕ} (replicate 338 zero) b zero ≡ zero
        here (inl h) = get_or-replicate 338 b zero zero h
        here (inr h) = let len : length {A = ℕ} (replicate 338 zero) ≡ 338 = length-replicate 338 zero in get_or_past (replicate 338 zero) b zero (omega (arith, len, h))

pub none-rows : (top pages : List ℕ) → top ≡ replicate 338 0 → rows_in top pages ≡ map (λ i. 0) (range_with_len 0 86401)
none-rows top pages e =
    let a = rows-length top pages in
    let b : length (map (λ i. zero) (range_with_len 0 86401)) ≡ 86401 = length-map-range_with_len (λ i. zero) 0 86401 in
    ext_get_or 0 (rows_in top pages) (map (λ i. zero) (range_with_len 0 86401)) (omega (arith, a, b)) (λ t within.
    let low : t < 86401 = omega (arith, a, within) in
    rows-at top pages t low
    ∙ (row-none top pages t (ap (λ (xs : List ℕ). slice_index_or xs (t / 256) 0) e ∙ get_or-replicate 338 (t / 256) 0 0 (omega (arith, low)))
    ∙ sym (get_or-map-range_with_len (λ i. zero) 0 86401 t t 0 low (omega arith))))

-- ---- a page is made

pub none-there : (top read : List ℕ) (b page : ℕ) → read ≡ top → page ≡ slice_index_or read b 0 → page ≡ 0 → slice_index_or top b 0 ≡ 0
none-there top read b page same is none = ap (λ (xs : List ℕ). slice_index_or xs b 0) (sym same) ∙ (sym is ∙ none)

-- there is room for it
pub page-lacks : (top pages : List ℕ) (b : ℕ) → ArePages top pages → b < 338 → slice_index_or top b 0 ≡ 0 → length pages + 256 ≤ 86528
page-lacks top pages b are low none =
    let s = sum_by-set lacking top b 1 0 (let len = are.tops in omega (arith, len, low)) in
    let one : lacking (slice_index_or top b 0) ≡ 1 = ap lacking none in
    let whole = are.whole in
    omega (arith, s, one, whole)

-- its number is the count of pages then, as all rows are in whole pages
pub number-is : (top pages : List ℕ) (long number : ℕ) → ArePages top pages → long ≡ length pages + 256 → number ≡ long / 256 → number * 256 ≡ long
number-is top pages long number are len is = let w = are.whole in omega (arith, w, len, is)

pub page-made : (top pages new : List ℕ) (b number : ℕ) → ArePages top pages → b < 338 → slice_index_or top b 0 ≡ 0 → ((i : ℕ) → slice_index_or new i 0 ≡ slice_index_or pages i 0) → length new ≡ length pages + 256 → number * 256 ≡ length new →
    rows_in (slice_set top b number) new ≡ rows_in top pages
page-made top pages new b number are low none same len is = rows-same top pages (slice_set top b number) new (λ t. here t (cases_eq (t / 256) b))
  where
    in_top : b < length top
    in_top = let tops = are.tops in omega (arith, tops, low)

    here : (t : ℕ) → (t / 256 ≡ b) ⊎ ((t / 256 ≡ b) → ⊥) → row_at (slice_set top b number) new t ≡ row_at top pages t
    here t (inl q) =
        let set : slice_index_or (slice_set top b number) (t / 256) 0 ≡ number = ap (λ m. slice_index_or (slice_set top b number) m 0) q ∙ get_or-set_same top b number 0 in_top in
        row-at (slice_set top b number) new t number set (omega (arith, len, is))
        ∙ (same ((number - 1) * 256 + t % 256) ∙ (get_or_past pages ((number - 1) * 256 + t % 256) 0 (omega (arith, len, is))
        ∙ sym (row-none top pages t (ap (λ m. slice_index_or top m 0) q ∙ none))))
    here t (inr ne) =
        ap (λ x. in_page new x (t % 256)) (get_or-set_other top b (t / 256) number 0 ne) ∙ page-same pages new same (slice_index_or top (t / 256) 0) (t % 256)

pub made-are : (top pages new : List ℕ) (b number : ℕ) → ArePages top pages → b < 338 → slice_index_or top b 0 ≡ 0 → length new ≡ length pages + 256 → number * 256 ≡ length new → ArePages (slice_set top b number) new
made-are top pages new b number are low none len is = record {
  tops = length-set top b number ∙ are.tops;
  whole = let s = sum_by-set lacking top b number 0 in_top in let one : lacking (slice_index_or top b 0) ≡ 1 = ap lacking none in let no = lacks-none number (omega (arith, len, is)) in let w = are.whole in omega (arith, s, one, no, w, len);
  made = λ c. up c (cases_eq c b);
  alone = λ c d some same. apart c d some same (cases_eq c b) (cases_eq d b);
}
  where
    in_top : b < length top
    in_top = let tops = are.tops in omega (arith, tops, low)

    lacks-none : (p : ℕ) → 1 ≤ p → lacking p ≡ 0
    lacks-none zero h = absurd (omega (arith, h))
    lacks-none (suc p) h = refl

    at_b : (c : ℕ) → c ≡ b → slice_index_or (slice_set top b number) c 0 ≡ number
    at_b c q = ap (λ m. slice_index_or (slice_set top b number) m 0) q ∙ get_or-set_same top b number 0 in_top

    not_b : (c : ℕ) → ((c ≡ b) → ⊥) → slice_index_or (slice_set top b number) c 0 ≡ slice_index_or top c 0
    not_b c ne = get_or-set_other top b c number 0 ne

    up : (c : ℕ) → (c ≡ b) ⊎ ((c ≡ b) → ⊥) → slice_index_or (slice_set top b number) c 0 * 256 ≤ length new
    up c (inl q) = let e = at_b c q in omega (arith, e, is)
    up c (inr ne) = let e = not_b c ne in let l = are.made c in omega (arith, e, l, len)

    apart : (c d : ℕ) → 1 ≤ slice_index_or (slice_set top b number) c 0 → slice_index_or (slice_set top b number) c 0 ≡ slice_index_or (slice_set top b number) d 0 → (c ≡ b) ⊎ ((c ≡ b) → ⊥) → (d ≡ b) ⊎ ((d ≡ b) → ⊥) → c ≡ d
    apart c d some same (inl q) (inl r) = q ∙ sym r
    apart c d some same (inl q) (inr ne) = let e = at_b c q in let f = not_b d ne in let l = are.made d in absurd (omega (arith, e, f, l, same, is, len))
    apart c d some same (inr ne) (inl r) = let e = at_b d r in let f = not_b c ne in let l = are.made c in absurd (omega (arith, e, f, l, same, is, len))
    apart c d some same (inr n) (inr m) =
        let e = not_b c n in
        are.alone c d (omega (arith, e, some)) (sym e ∙ (same ∙ not_b d m))

-- ---- a row is set

pub set-are : (top pages : List ℕ) (i n : ℕ) → ArePages top pages → ArePages top (slice_set pages i n)
set-are top pages i n are =
    let len : length (slice_set pages i n) ≡ length pages = length-set pages i n in
    record {
      tops = are.tops;
      whole = let w = are.whole in omega (arith, w, len);
      made = λ b. let l = are.made b in omega (arith, l, len);
      alone = are.alone;
    }

-- its place is in the pages
pub place-within : (top pages : List ℕ) (t p : ℕ) → ArePages top pages → slice_index_or top (t / 256) 0 ≡ p → 1 ≤ p → (p - 1) * 256 + t % 256 < length pages
place-within top pages t p are e some = let l = are.made (t / 256) in omega (arith, e, some, l)

pub row-set : (top pages : List ℕ) (t p n : ℕ) → ArePages top pages → t < 86401 → slice_index_or top (t / 256) 0 ≡ p → 1 ≤ p → rows_in top (slice_set pages ((p - 1) * 256 + t % 256) n) ≡ slice_set (rows_in top pages) t n
row-set top pages t p n are low e some =
    let a = rows-length top (slice_set pages place n) in
    let b : length (slice_set (rows_in top pages) t n) ≡ length (rows_in top pages) = length-set (rows_in top pages) t n in
    let c = rows-length top pages in
    ext_get_or 0 (rows_in top (slice_set pages place n)) (slice_set (rows_in top pages) t n) (omega (arith, a, b, c)) (λ k inside.
    let below : k < 86401 = omega (arith, a, inside) in
    rows-at top (slice_set pages place n) k below ∙ here k below (cases_eq k t))
  where
    place : ℕ
    place = (p - 1) * 256 + t % 256

    other : (k q : ℕ) → slice_index_or top (k / 256) 0 ≡ q → (k ≢ t) → in_page (slice_set pages place n) q (k % 256) ≡ in_page pages q (k % 256)
    other k zero f ne = refl
    other k (suc q) f ne = get_or-set_other pages place (q * 256 + k % 256) n 0 (λ same.
        let alike : suc q ≡ p = omega (arith, same, some) in
        let one = are.alone (k / 256) (t / 256) (omega (arith, f)) (f ∙ (alike ∙ sym e)) in
        ne (omega (arith, same, one, alike)))

    here : (k : ℕ) → k < 86401 → (k ≡ t) ⊎ ((k ≡ t) → ⊥) → row_at top (slice_set pages place n) k ≡ slice_index_or (slice_set (rows_in top pages) t n) k 0
    here k below (inl q) =
        let len = rows-length top pages in
        ap (row_at top (slice_set pages place n)) q
        ∙ (row-at top (slice_set pages place n) t p e some ∙ (get_or-set_same pages place n 0 (place-within top pages t p are e some)
        ∙ sym (ap (λ m. slice_index_or (slice_set (rows_in top pages) t n) m 0) q ∙ get_or-set_same (rows_in top pages) t n 0 (omega (arith, len, low)))))
    here k below (inr ne) =
        let len = rows-length top pages in
        other k (slice_index_or top (k / 256) 0) refl ne
        ∙ sym (get_or-set_other (rows_in top pages) t k n 0 ne ∙ rows-at top pages k below)
