-- A text that is put into words comes back from them.
use Rattle.std.proofs.Common.{◌≡◌, ℕ, zero, suc, ◌+◌, ◌*◌, ◌<◌, ◌≤◌, true, ◌&&◌, List, [], ◌∷◌, length, drop, get_or, refl, ap, sym, ◌∙◌, arith, inl, inr}
use Rattle.std.specs.Prelude.{nat_le, nat_lt}
use Rattle.std.specs.Int.{w64, to_be_bytes}
use Rattle.std.specs.List.{list_all}
use Rattle.std.proofs.lemmas.Bool.{and_parts, cases_lt, leb-true}
use Rattle.std.proofs.lemmas.Bool.Decides.{nat_tests}
use Rattle.std.proofs.lemmas.List.{drop_more, get_or_past}
use Rattle.std.proofs.lemmas.List.Sums.{AllPass-from_list_all}
use Rattle.std.proofs.lemmas.Nat.{be_bytes_8}
use Rattle.std.proofs.Math.ListN.{drop_of_length-le}
use Rattle.cash_amounts.specs.Names.{is_id, is_id_byte, is_name, is_name_byte}
use Rattle.message_names.specs.Packing.{all_before, before, eight_from, text_of, word_at, words_from}

-- ---- bytes

-- so many bytes at most, none of which is 0
pub record HasBytes (most : ℕ) (text : List ℕ) : Type 0 where
  pub few : length text ≤ most
  pub some : (i : ℕ) → i < length text → 0 < get_or text i 0
  pub small : (i : ℕ) → i < length text → get_or text i 0 < 256

name_byte : (b : ℕ) → is_name_byte b ≡ true → (0 < b) × (b < 256)
name_byte b e = (grind (arith, nat_tests), grind (arith, nat_tests))

id_byte : (b : ℕ) → is_id_byte b ≡ true → (0 < b) × (b < 256)
id_byte b e = (grind (arith, nat_tests), grind (arith, nat_tests))

pub name_bytes : (text : List ℕ) → is_name text ≡ true → HasBytes 34 text
name_bytes text e =
    let outer = and_parts (nat_lt 0 (length text) && nat_le (length text) 34) (list_all is_name_byte text) e in
    let inner = and_parts (nat_lt 0 (length text)) (nat_le (length text) 34) outer.0 in
    let all = AllPass-from_list_all is_name_byte text outer.1 in
    record {
      few = leb-true (length text) 34 inner.1;
      some = λ i lt. (name_byte (get_or text i 0) (all i 0 lt)).0;
      small = λ i lt. (name_byte (get_or text i 0) (all i 0 lt)).1;
    }

pub id_bytes : (text : List ℕ) → is_id text ≡ true → HasBytes 35 text
id_bytes text e =
    let outer = and_parts (nat_lt 0 (length text) && nat_le (length text) 35) (list_all is_id_byte text) e in
    let inner = and_parts (nat_lt 0 (length text)) (nat_le (length text) 35) outer.0 in
    let all = AllPass-from_list_all is_id_byte text outer.1 in
    record {
      few = leb-true (length text) 35 inner.1;
      some = λ i lt. (id_byte (get_or text i 0) (all i 0 lt)).0;
      small = λ i lt. (id_byte (get_or text i 0) (all i 0 lt)).1;
    }

-- ---- one word

before_some : (byte : ℕ) (rest : List ℕ) → 0 < byte → before byte rest ≡ byte ∷ rest
before_some zero rest some = absurd (omega arith)
before_some (suc byte) rest some = refl

small_eight : (a b c d e f g h : ℕ) → a < 256 → b < 256 → c < 256 → d < 256 → e < 256 → f < 256 → g < 256 → h < 256
    → (i : ℕ) → get_or (a ∷ b ∷ c ∷ d ∷ e ∷ f ∷ g ∷ h ∷ []) i 0 < 256
small_eight a b c d e f g h pa pb pc pd pe pf pg ph zero = pa
small_eight a b c d e f g h pa pb pc pd pe pf pg ph (suc zero) = pb
small_eight a b c d e f g h pa pb pc pd pe pf pg ph (suc (suc zero)) = pc
small_eight a b c d e f g h pa pb pc pd pe pf pg ph (suc (suc (suc zero))) = pd
small_eight a b c d e f g h pa pb pc pd pe pf pg ph (suc (suc (suc (suc zero)))) = pe
small_eight a b c d e f g h pa pb pc pd pe pf pg ph (suc (suc (suc (suc (suc zero))))) = pf
small_eight a b c d e f g h pa pb pc pd pe pf pg ph (suc (suc (suc (suc (suc (suc zero)))))) = pg
small_eight a b c d e f g h pa pb pc pd pe pf pg ph (suc (suc (suc (suc (suc (suc (suc zero))))))) = ph
small_eight a b c d e f g h pa pb pc pd pe pf pg ph (suc (suc (suc (suc (suc (suc (suc (suc i)))))))) = omega arith

module _ (most : ℕ) (text : List ℕ) (h : HasBytes most text) where
  -- a byte of the text, or nothing past its end, in front of what follows
  step : (i j : ℕ) → i + 1 ≡ j → before (get_or text i 0) (drop j text) ≡ drop i text
  step i j next =
      ap (λ k. before (get_or text i 0) (drop k text)) (sym next)
      ∙ elim (cases_lt i (length text)) [
        | inl lt ↦ before_some (get_or text i 0) (drop (i + 1) text) (h.some i lt) ∙ sym (drop_more text i 0 lt)
        | inr ge ↦ ap (λ b. before b (drop (i + 1) text)) (get_or_past text i 0 ge)
            ∙ (drop_of_length-le text {i = i + 1} (omega arith) ∙ sym (drop_of_length-le text {i = i} ge))
      ]

  steps : (i : ℕ) → all_before (eight_from text i) (drop (i + 8) text) ≡ drop i text
  unfolding all_before eight_from
  steps i =
      let s7 = step (i + 7) (i + 8) (omega arith) in
      let s6 = ap (before (get_or text (i + 6) 0)) s7 ∙ step (i + 6) (i + 7) (omega arith) in
      let s5 = ap (before (get_or text (i + 5) 0)) s6 ∙ step (i + 5) (i + 6) (omega arith) in
      let s4 = ap (before (get_or text (i + 4) 0)) s5 ∙ step (i + 4) (i + 5) (omega arith) in
      let s3 = ap (before (get_or text (i + 3) 0)) s4 ∙ step (i + 3) (i + 4) (omega arith) in
      let s2 = ap (before (get_or text (i + 2) 0)) s3 ∙ step (i + 2) (i + 3) (omega arith) in
      let s1 = ap (before (get_or text (i + 1) 0)) s2 ∙ step (i + 1) (i + 2) (omega arith) in
      ap (before (get_or text i 0)) s1 ∙ step i (i + 1) (omega arith)

  byte_small : (i : ℕ) → get_or text i 0 < 256
  byte_small i = elim (cases_lt i (length text)) [
    | inl lt ↦ h.small i lt
    | inr ge ↦ let none : get_or text i 0 ≡ 0 = get_or_past text i 0 ge in omega arith
  ]

  bytes_back : (i : ℕ) → to_be_bytes w64 (word_at text i) ≡ eight_from text i
  unfolding word_at eight_from
  bytes_back i = be_bytes_8 (eight_from text i) (word_at text i) refl
      (small_eight (get_or text i 0) (get_or text (i + 1) 0) (get_or text (i + 2) 0) (get_or text (i + 3) 0) (get_or text (i + 4) 0) (get_or text (i + 5) 0) (get_or text (i + 6) 0) (get_or text (i + 7) 0)
      (byte_small i) (byte_small (i + 1)) (byte_small (i + 2)) (byte_small (i + 3)) (byte_small (i + 4)) (byte_small (i + 5)) (byte_small (i + 6)) (byte_small (i + 7)))
      refl

  -- ---- all words

  rest_back : (n i : ℕ) → length text ≤ i + 8 * n → text_of (words_from n text i) ≡ drop i text
  unfolding text_of words_from
  rest_back zero i long = sym (drop_of_length-le text {i = i} (omega arith))
  rest_back (suc n) i long =
      (λ k. all_before (bytes_back i k) (rest_back n (i + 8) (omega arith) k)) ∙ steps i

  pub text_back : (n : ℕ) → length text ≤ 8 * n → text_of (words_from n text 0) ≡ text
  text_back n long = rest_back n 0 (omega arith)

pub sender_back : (text : List ℕ) → is_name text ≡ true → text_of (words_from 6 text 0) ≡ text
sender_back text e = let h = name_bytes text e in text_back 34 text h 6 (omega (arith, h.few))

pub id_back : (text : List ℕ) → is_id text ≡ true → text_of (words_from 5 text 0) ≡ text
id_back text e = let h = id_bytes text e in text_back 35 text h 5 (omega (arith, h.few))
