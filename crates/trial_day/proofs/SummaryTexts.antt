-- The texts of a summary, part by part.
use Rattle.std.proofs.Common.{◌≡◌, ℕ, zero, suc, ◌+◌, ◌-◌, ◌<◌, List, [], ◌∷◌, ◌++◌, refl, sym, ap, ◌∙◌, subst, arith, length, append_assoc}
use Rattle.std.specs.Prelude.{flat_map, Result}
use Rattle.std.specs.List.{range_with_len}
use Rattle.std.proofs.lemmas.List.{length-append}
use Rattle.outside_io.specs.Pieces.{SinkState}
use Rattle.outside_io.specs.Calls.{Puts}
use Rattle.commit_journal.specs.Line.{History}
use Rattle.commit_journal.specs.Histories.{moves_of}
use Rattle.machine.specs.Orders.Bounds.{moved}
use Rattle.trial_day.specs.Summary.{holding_text, holdings_text}
use Rattle.trial_day.proofs.Making.{flat_more}

-- how many moves the lines have, in the order in which they were made
pub moves_are : (J : History) → length (moves_of J) ≡ moved J
unfolding moves_of
moves_are [] = refl
moves_are (l ∷ J) =
    let a : length (moves_of J ++ l.moves) ≡ length (moves_of J) + length l.moves = length-append (moves_of J) l.moves in
    let k : length (moves_of J) ≡ moved J = moves_are J in
    omega arith

parts : (f : ℕ → List ℕ) (s i m : ℕ) → flat_map f (range_with_len s i) ++ flat_map f (range_with_len (s + i) m) ≡ flat_map f (range_with_len s (i + m))
parts f s zero m = let e : s + 0 ≡ s = omega arith in let z : 0 + m ≡ m = omega arith in λ k. flat_map f (range_with_len (e k) (sym z k))
parts f s (suc i) m =
    let e : s + suc i ≡ s + 1 + i = omega arith in
    let z : suc i + m ≡ suc (i + m) = omega arith in
    append_assoc (f s) (flat_map f (range_with_len (s + 1) i)) (flat_map f (range_with_len (s + suc i) m))
    ∙ ap (λ j. f s ++ (flat_map f (range_with_len (s + 1) i) ++ flat_map f (range_with_len j m))) e
    ∙ ap (λ text. f s ++ text) (parts f (s + 1) i m)
    ∙ ap (λ j. flat_map f (range_with_len s j)) (sym z)

-- the accounts so far
abbrev pub so_far : (ℕ → ℕ) → ℕ → List ℕ
so_far held i = flat_map (λ a. holding_text a (held a)) (range_with_len 1 i)

pub next_holding : (held : ℕ → ℕ) (i : ℕ) → so_far held i ++ holding_text (i + 1) (held (i + 1)) ≡ so_far held (i + 1)
next_holding held i =
    let e : i + 1 ≡ 1 + i = omega arith in
    let z : suc i ≡ i + 1 = omega arith in
    ap (λ a. so_far held i ++ holding_text a (held a)) e ∙ flat_more (λ a. holding_text a (held a)) 1 i ∙ ap (so_far held) z

-- and what comes after the next
abbrev pub rest_of : (ℕ → ℕ) → ℕ → List ℕ
rest_of held i = flat_map (λ a. holding_text a (held a)) (range_with_len (1 + i + 1) (16 - (i + 1)))

pub holding_front : (held : ℕ → ℕ) (i : ℕ) → i < 16 → so_far held i ++ (holding_text (i + 1) (held (i + 1)) ++ rest_of held i) ≡ holdings_text held
unfolding holdings_text
holding_front held i within =
    let e : i + 1 ≡ 1 + i = omega arith in
    let z : i + suc (16 - (i + 1)) ≡ 16 = omega arith in
    ap (λ a. so_far held i ++ (holding_text a (held a) ++ flat_map (λ a. holding_text a (held a)) (range_with_len (1 + i + 1) (16 - (i + 1))))) e
    ∙ parts (λ a. holding_text a (held a)) 1 i (suc (16 - (i + 1)))
    ∙ ap (so_far held) z

pub all_holdings : (held : ℕ → ℕ) (i : ℕ) → i ≡ 16 → so_far held i ≡ holdings_text held
unfolding holdings_text
all_holdings held i e = ap (so_far held) e

-- the same text, as it is written elsewhere
pub puts_same : {T E : Type 0} (old new : SinkState) (text same : List ℕ) (result : Result T E) → text ≡ same → Puts old new text result → Puts old new same result
puts_same old new text same result is put = subst (λ (t : List ℕ). Puts old new t result) is put
