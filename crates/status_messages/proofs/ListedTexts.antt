-- The texts of numbered items of which none tells anything but those that rising keys name.
use Rattle.std.proofs.Common.{◌≡◌, ◌∙◌, ℕ, zero, suc, ◌+◌, ◌-◌, ◌<◌, ◌≤◌, Bool, true, false, not, ◌&&◌, ◌||◌, List, [], ◌∷◌, ◌++◌, take, drop, length, get_or, ap, sym, subst, arith, refl, append-nil, take-append-drop, if◌then◌else◌}
use Rattle.std.specs.Prelude.{nat_le, nat_lt}
use Rattle.std.specs.List.{flat_map, range_with_len}
use Rattle.std.proofs.lemmas.Bool.{and_parts, le-ltb, lt-ltb, leb-false, leb-true, ltb-false, ltb-true, ne_eqb, not-true}
use Rattle.std.proofs.lemmas.List.{drop_all, drop_more}
use Rattle.std.proofs.lemmas.Grind.{flat_map-append}
use Rattle.outside_io.proofs.PutLemmas.{numbers_all, numbers_more, numbers_parts}
use Rattle.rule_book.specs.Parties.{entry_of, names_entry}
use Rattle.status_messages.specs.LineTexts.{text_unless}
use Rattle.status_messages.specs.Revoking.{rises_from}

-- ---- keys whose entries rise

unnamed : (low : ℕ) (xs : List ℕ) (j : ℕ) → rises_from low xs ≡ true → j < low → names_entry xs j ≡ false
unfolding rises_from
unnamed low [] j h l = refl
unnamed low (x ∷ xs) j h l =
    let parts = and_parts (not (nat_lt (entry_of x) low)) (rises_from (entry_of x) xs) h in
    let up = ltb-false (entry_of x) low (not-true (nat_lt (entry_of x) low) parts.0) in
    ap (λ b. b || names_entry xs j) (ne_eqb (entry_of x) j (λ e. omega (arith, e, up, l))) ∙ unnamed (entry_of x) xs j parts.1 (omega (arith, up, l))

lower : (a b : ℕ) (xs : List ℕ) → a ≤ b → rises_from b xs ≡ true → rises_from a xs ≡ true
unfolding rises_from
lower a b [] l h = refl
lower a b (x ∷ xs) l h =
    let parts = and_parts (not (nat_lt (entry_of x) b)) (rises_from (entry_of x) xs) h in
    let up = ltb-false (entry_of x) b (not-true (nat_lt (entry_of x) b) parts.0) in
    ap (λ c. not c && rises_from (entry_of x) xs) (le-ltb (entry_of x) a (omega (arith, up, l))) ∙ parts.1

either : (a b : Bool) → (a || b) ≡ false → (a ≡ false) × (b ≡ false)
either true b h = cc
either false b h = (refl, h)

-- ---- one key after another

-- what the items up to one have told, while these keys are left: of the items after it only those tell anything that are named
pub record Left (f : ℕ → List ℕ) (n told : ℕ) (keys : List ℕ) : Type 0 where
  pub within : told ≤ n
  pub rises : rises_from told keys ≡ true
  pub silent : (j : ℕ) → told < j → j ≤ n → names_entry keys j ≡ false → f j ≡ []

-- the next key's item is told, or passed over
pub record Step (f : ℕ → List ℕ) (n told next : ℕ) (more keys : List ℕ) : Type 0 where
  pub left : Left f n next keys
  pub text : flat_map f (take told (range_with_len 1 n)) ++ more ≡ flat_map f (take next (range_with_len 1 n))
  pub rest : List ℕ
  pub front : flat_map f (take told (range_with_len 1 n)) ++ (more ++ rest) ≡ flat_map f (range_with_len 1 n)

module _ (f : ℕ → List ℕ) (n : ℕ) where
  abbrev texts_to : ℕ → List ℕ
  texts_to i = flat_map f (take i (range_with_len 1 n))

  abbrev texts_from : ℕ → List ℕ
  texts_from i = flat_map f (drop i (range_with_len 1 n))

  -- items that tell nothing
  skip : (a d : ℕ) → a + d ≤ n → ((j : ℕ) → a < j → j ≤ a + d → f j ≡ []) → texts_to a ≡ texts_to (a + d)
  skip a zero within none = let e : a ≡ a + 0 = omega arith in ap texts_to e
  skip a (suc d) within none =
      let last : f (a + d + 1) ≡ [] = none (a + d + 1) (omega arith) (omega arith) in
      let next : a + d + 1 ≡ a + suc d = omega arith in
      skip a d (omega (arith, within)) (λ j low high. none j low (omega (arith, high)))
      ∙ sym (append-nil (texts_to (a + d)))
      ∙ ap (λ t. texts_to (a + d) ++ t) (sym last)
      ∙ numbers_more f n (a + d) (omega (arith, within))
      ∙ ap texts_to next

  passed_over : (told x : ℕ) (keys : List ℕ) → Left f n told (x ∷ keys) → (nat_le (entry_of x) told || nat_lt n (entry_of x)) ≡ true → Step f n told told [] keys
  unfolding rises_from
  passed_over told x keys left skipped =
      let parts = and_parts (not (nat_lt (entry_of x) told)) (rises_from (entry_of x) keys) left.rises in
      let up = ltb-false (entry_of x) told (not-true (nat_lt (entry_of x) told) parts.0) in
      record {
        left = record {
          within = left.within;
          rises = lower told (entry_of x) keys up parts.1;
          silent = λ j low high none. left.silent j low high (ap (λ b. b || names_entry keys j) (ne_eqb (entry_of x) j (other j low high (nat_le (entry_of x) told) refl skipped)) ∙ none);
        };
        text = append-nil (texts_to told);
        rest = texts_from told;
        front = sym (flat_map-append f (take told (range_with_len 1 n)) (drop told (range_with_len 1 n))) ∙ ap (flat_map f) (take-append-drop told (range_with_len 1 n));
      }
    where
      other : (j : ℕ) → told < j → j ≤ n → (b : Bool) → nat_le (entry_of x) told ≡ b → (b || nat_lt n (entry_of x)) ≡ true → entry_of x ≡ j → ⊥
      other j low high true e h is = let l = leb-true (entry_of x) told e in omega (arith, l, low, is)
      other j low high false e h is = let l = ltb-true n (entry_of x) h in omega (arith, l, high, is)

  told_next : (told x : ℕ) (keys : List ℕ) → Left f n told (x ∷ keys) → (nat_le (entry_of x) told || nat_lt n (entry_of x)) ≡ false → Step f n told (entry_of x) (f (entry_of x)) keys
  unfolding rises_from
  told_next told x keys left skipped =
      record {
        left = record {
          within = last;
          rises = parts.1;
          silent = λ j low high none. left.silent j (omega (arith, low, first)) high (ap (λ b. b || names_entry keys j) (ne_eqb k j (λ e. omega (arith, e, low))) ∙ none);
        };
        text = ap (λ t. t ++ f k) before ∙ ap (λ i. texts_to (k - 1) ++ f i) (sym one) ∙ numbers_more f n (k - 1) inside ∙ ap texts_to one;
        rest = texts_from k;
        front =
            ap (λ t. t ++ (f k ++ texts_from k)) before
            ∙ ap (λ i. texts_to (k - 1) ++ (f i ++ texts_from i)) (sym one)
            ∙ numbers_parts f n (k - 1) inside;
      }
    where
      k : ℕ
      k = entry_of x

      parts : (not (nat_lt k told) ≡ true) × (rises_from k keys ≡ true)
      parts = and_parts (not (nat_lt k told)) (rises_from k keys) left.rises

      first : told < k
      first = leb-false k told (either (nat_le k told) (nat_lt n k) skipped).0

      last : k ≤ n
      last = ltb-false n k (either (nat_le k told) (nat_lt n k) skipped).1

      one : k - 1 + 1 ≡ k
      one = omega (arith, first)

      inside : k - 1 < n
      inside = omega (arith, first, last)

      silent : (j : ℕ) → told < j → j ≤ told + (k - 1 - told) → f j ≡ []
      silent j low high = left.silent j low (omega (arith, high, last, first)) (ap (λ b. b || names_entry keys j) (ne_eqb k j (λ e. omega (arith, e, high, first))) ∙ unnamed k keys j parts.1 (omega (arith, high, first)))

      before : texts_to told ≡ texts_to (k - 1)
      before = skip told (k - 1 - told) (omega (arith, first, last)) silent ∙ (let e : told + (k - 1 - told) ≡ k - 1 = omega (arith, first) in ap texts_to e)

  pub step : (told x k : ℕ) (keys : List ℕ) (skipped : Bool) → k ≡ entry_of x → skipped ≡ (nat_le k told || nat_lt n k) → Left f n told (x ∷ keys) → Step f n told (if skipped then told else k) (text_unless skipped (f k)) keys
  step told x k keys skipped is e left = subst (λ q. skipped ≡ (nat_le q told || nat_lt n q) → Step f n told (if skipped then told else q) (text_unless skipped (f q)) keys) (sym is) (by skipped) e
    where
      by : (s : Bool) → s ≡ (nat_le (entry_of x) told || nat_lt n (entry_of x)) → Step f n told (if s then told else entry_of x) (text_unless s (f (entry_of x))) keys
      by true h = passed_over told x keys left (sym h)
      by false h = told_next told x keys left (sym h)

  -- no keys are left
  pub all_told : (told : ℕ) → Left f n told [] → texts_to told ≡ flat_map f (range_with_len 1 n)
  all_told told left =
      let within = left.within in
      skip told (n - told) (omega (arith, within)) (λ j low high. left.silent j low (omega (arith, within, high)) refl)
      ∙ numbers_all f n (told + (n - told)) (omega (arith, within))

-- ---- whether they rise, key by key

module _ (keys : List ℕ) (i low k d : ℕ) (inside : i < length keys) (is : k ≡ entry_of (get_or keys i d)) where
  rise_next : rises_from low (drop i keys) ≡ (not (nat_lt k low) && rises_from k (drop (i + 1) keys))
  unfolding rises_from
  rise_next = ap (rises_from low) (drop_more keys i d inside) ∙ ap (λ e. not (nat_lt e low) && rises_from e (drop (i + 1) keys)) (sym is)

  pub rise_more : low ≤ k → rises_from 0 keys ≡ rises_from low (drop i keys) → rises_from 0 keys ≡ rises_from k (drop (i + 1) keys)
  rise_more e so_far = so_far ∙ rise_next ∙ ap (λ b. not b && rises_from k (drop (i + 1) keys)) (le-ltb k low e)

  pub rise_fails : k < low → rises_from 0 keys ≡ rises_from low (drop i keys) → false ≡ rises_from 0 keys
  rise_fails e so_far = sym (so_far ∙ rise_next ∙ ap (λ b. not b && rises_from k (drop (i + 1) keys)) (lt-ltb k low e))

pub rise_end : (keys : List ℕ) (i low : ℕ) → length keys ≤ i → rises_from 0 keys ≡ rises_from low (drop i keys) → true ≡ rises_from 0 keys
unfolding rises_from
rise_end keys i low past so_far = sym (so_far ∙ ap (rises_from low) (drop_all i keys past))

pub none_told : (f : ℕ → List ℕ) (n : ℕ) (keys : List ℕ) → rises_from 0 keys ≡ true → ((j : ℕ) → names_entry keys j ≡ false → f j ≡ []) → Left f n 0 keys
none_told f n keys rises named = record { within = omega arith; rises = rises; silent = λ j low high none. named j none }
