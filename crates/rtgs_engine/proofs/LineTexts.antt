-- The lines of a text.
use Rattle.std.proofs.Common.{◌≡◌, ◌∙◌, ℕ, suc, ◌+◌, ◌<◌, ◌≤◌, Bool, true, false, not, ◌==◌, List, [], ◌∷◌, length, take, drop, Some, None, refl, sym, ap, arith, cond}
use Rattle.std.specs.Prelude.{nat_lt, option_map}
use Rattle.std.specs.List.{position_or_len}
use Rattle.std.proofs.lemmas.Bool.{ltb-true, ltb-false}
use Rattle.std.proofs.lemmas.List.{length-append}
use Rattle.outside_io.specs.TextLine.{line_feed}
use Rattle.commit_journal.specs.FieldGrammar.{around, cut}
use Rattle.commit_journal.proofs.FieldLemmas.{cut-only, some_is}
use Rattle.as_client.specs.Views.{onto_line, text_lines}

abbrev ends_line : ℕ → Bool
ends_line b = b == line_feed

abbrev line_len : List ℕ → ℕ
line_len bytes = position_or_len ends_line bytes

-- a text with a line end
abbrev HasFirst : List ℕ → Type 0
HasFirst bytes = line_len bytes < length bytes → text_lines bytes ≡ take (line_len bytes) bytes ∷ text_lines (drop (line_len bytes + 1) bytes)

first-more : (b : ℕ) (bytes : List ℕ) → ends_line b ≡ false → HasFirst bytes → HasFirst (b ∷ bytes)
unfolding text_lines
first-more b bytes e ih low =
    let one : 1 + line_len bytes ≡ suc (line_len bytes) = omega arith in
    let len : line_len (b ∷ bytes) ≡ suc (line_len bytes) = ap (λ t. cond (not t) (1 + line_len bytes) 0) e ∙ one in
    let less : line_len bytes < length bytes = omega (arith, len, low) in
    let next : suc (line_len bytes + 1) ≡ suc (line_len bytes) + 1 = omega arith in
    ap (λ t. cond t ([] ∷ text_lines bytes) (onto_line b (text_lines bytes))) e
    ∙ ap (onto_line b) (ih less)
    ∙ ap (λ (k : ℕ). take (suc (line_len bytes)) (b ∷ bytes) ∷ text_lines (drop k (b ∷ bytes))) next
    ∙ ap (λ (i : ℕ). take i (b ∷ bytes) ∷ text_lines (drop (i + 1) (b ∷ bytes))) (sym len)

lines-first : (bytes : List ℕ) → HasFirst bytes
unfolding text_lines
lines-first [] low = absurd (omega arith)
lines-first (b ∷ bytes) low = here (ends_line b) refl (lines-first bytes) low
  where
    here : (t : Bool) → ends_line b ≡ t → HasFirst bytes → HasFirst (b ∷ bytes)
    here true e ih less =
        let len : line_len (b ∷ bytes) ≡ 0 = ap (λ x. cond (not x) (1 + line_len bytes) 0) e in
        ap (λ x. cond x ([] ∷ text_lines bytes) (onto_line b (text_lines bytes))) e
        ∙ ap (λ (i : ℕ). take i (b ∷ bytes) ∷ text_lines (drop (i + 1) (b ∷ bytes))) (sym len)
    here false e ih less = first-more b bytes e ih less

-- a text without one
abbrev IsLast : List ℕ → Type 0
IsLast bytes = 0 < length bytes → length bytes ≤ line_len bytes → text_lines bytes ≡ bytes ∷ []

last-more : (b : ℕ) (bytes : List ℕ) → IsLast bytes → length (b ∷ bytes) ≤ line_len (b ∷ bytes) → text_lines (b ∷ bytes) ≡ (b ∷ bytes) ∷ []
unfolding text_lines
last-more b bytes ih past = here (ends_line b) refl bytes ih past
  where
    here : (t : Bool) → ends_line b ≡ t → (xs : List ℕ) → IsLast xs → length (b ∷ xs) ≤ line_len (b ∷ xs) → text_lines (b ∷ xs) ≡ (b ∷ xs) ∷ []
    here true e xs more low =
        let len : line_len (b ∷ xs) ≡ 0 = ap (λ x. cond (not x) (1 + line_len xs) 0) e in
        absurd (omega (arith, len, low))
    here false e [] more low = ap (λ x. cond x ([] ∷ text_lines []) (onto_line b (text_lines []))) e
    here false e (c ∷ xs) more low =
        let len : line_len (b ∷ c ∷ xs) ≡ 1 + line_len (c ∷ xs) = ap (λ x. cond (not x) (1 + line_len (c ∷ xs)) 0) e in
        ap (λ x. cond x ([] ∷ text_lines (c ∷ xs)) (onto_line b (text_lines (c ∷ xs)))) e
        ∙ ap (onto_line b) (more (omega arith) (omega (arith, len, low)))

lines-last : (bytes : List ℕ) → IsLast bytes
lines-last [] some past = absurd (omega arith)
lines-last (b ∷ bytes) some past = last-more b bytes (lines-last bytes) past

-- ---- as the code cuts them

pub lines-cut : (bytes line after : List ℕ) → Some (line, after) ≡ cut line_feed bytes → text_lines bytes ≡ line ∷ text_lines after
unfolding cut
lines-cut bytes line after h = here (nat_lt (line_len bytes) (length bytes)) refl
  where
    here : (t : Bool) → nat_lt (line_len bytes) (length bytes) ≡ t → text_lines bytes ≡ line ∷ text_lines after
    here true e =
        let k : Some (line, after) ≡ Some (around bytes (line_len bytes)) = h ∙ ap (λ x. option_map (around bytes) (cond x (Some (line_len bytes)) None)) e in
        let pair : (line, after) ≡ around bytes (line_len bytes) = some_is _ _ k in
        lines-first bytes (ltb-true (line_len bytes) (length bytes) e)
        ∙ sym (ap (λ (p : List ℕ × List ℕ). p.0 ∷ text_lines p.1) pair)
    here false e =
        let k : Some (line, after) ≡ None = h ∙ ap (λ x. option_map (around bytes) (cond x (Some (line_len bytes)) None)) e in
        absurd (cc k)

pub lines-uncut : (bytes : List ℕ) → 0 < length bytes → None ≡ cut line_feed bytes → text_lines bytes ≡ bytes ∷ text_lines []
unfolding cut text_lines
lines-uncut bytes some h = here (nat_lt (line_len bytes) (length bytes)) refl
  where
    here : (t : Bool) → nat_lt (line_len bytes) (length bytes) ≡ t → text_lines bytes ≡ bytes ∷ text_lines []
    here true e =
        let k : None ≡ Some (around bytes (line_len bytes)) = h ∙ ap (λ x. option_map (around bytes) (cond x (Some (line_len bytes)) None)) e in
        absurd (cc k)
    here false e = lines-last bytes some (ltb-false (line_len bytes) (length bytes) e)

pub cut-shorter : (bytes line after : List ℕ) → Some (line, after) ≡ cut line_feed bytes → length after < length bytes
cut-shorter bytes line after h =
    let all : length bytes ≡ length line + suc (length after) = ap length (cut-only line_feed bytes line after (sym h)) ∙ length-append line (line_feed ∷ after) in
    omega (arith, all)

pub lines-none : (bytes : List ℕ) → length bytes ≡ 0 → text_lines bytes ≡ []
unfolding text_lines
lines-none [] e = refl
lines-none (b ∷ bytes) e = absurd (omega arith)
