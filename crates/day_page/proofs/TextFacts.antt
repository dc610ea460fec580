-- Pieces of text, and texts that are written elsewhere the same.
use Rattle.std.proofs.Common.{◌≡◌, ◌∙◌, ℕ, ◌+◌, ◌-◌, ◌<◌, List, [], ◌∷◌, ◌++◌, length, take, drop, get_or, Result, refl, sym, ap, arith, subst, append-nil, take-append-drop}
use Rattle.std.specs.Prelude.{map}
use Rattle.std.specs.List.{flat_map}
use Rattle.std.proofs.lemmas.List.{drop_more, take_more}
use Rattle.std.proofs.lemmas.Grind.{flat_map-append}
use Rattle.outside_io.specs.Pieces.{SinkState}
use Rattle.outside_io.specs.Calls.{Puts}
use Rattle.commit_journal.specs.Line.{History}
use Rattle.commit_journal.specs.Histories.{oldest}
use Rattle.day_page.specs.Markup.{markup}

pub markup_is : {X : Type 0} (f : X → List ℕ) (xs : List X) → flat_map f xs ≡ markup (map f xs)
markup_is f [] = refl
markup_is f (x ∷ xs) = ap (λ (rest : List ℕ). f x ++ rest) (markup_is f xs)

-- the texts of the items so far, and of the one at i
pub next_at : {X : Type 0} (f : X → List ℕ) (xs : List X) (i : ℕ) (d : X) → i < length xs → flat_map f (take i xs) ++ f (get_or xs i d) ≡ flat_map f (take (i + 1) xs)
next_at {X} f xs i d inside =
    let x : X = get_or xs i d in
    ap (λ (t : List ℕ). flat_map f (take i xs) ++ t) (sym (append-nil (f x))) ∙ sym (flat_map-append f (take i xs) (x ∷ [])) ∙ ap (flat_map f) (sym (take_more xs i d inside))

-- and of the rest
pub parts_at : {X : Type 0} (f : X → List ℕ) (xs : List X) (i : ℕ) (d : X) → i < length xs → flat_map f (take i xs) ++ (f (get_or xs i d) ++ flat_map f (drop (i + 1) xs)) ≡ flat_map f xs
parts_at {X} f xs i d inside =
    ap (λ (rest : List X). flat_map f (take i xs) ++ flat_map f rest) (sym (drop_more xs i d inside)) ∙ sym (flat_map-append f (take i xs) (drop i xs)) ∙ ap (flat_map f) (take-append-drop i xs)

-- the same text, as it is written elsewhere
pub same_put : {T E : Type 0} (old new : SinkState) (text same : List ℕ) (result : Result T E) → text ≡ same → Puts old new text result → Puts old new same result
same_put old new text same result e put = subst (λ (bytes : List ℕ). Puts old new bytes result) e put

-- all lines up to the last are the whole journal
pub whole : (J : History) → oldest J (length J) ≡ J
whole J = let e : length J - length J ≡ 0 = omega arith in ap (λ (k : ℕ). drop k J) e
