-- The sums by the moves of a journal.
use Rattle.std.proofs.Common.{◌≡◌, ◌∙◌, ℕ, zero, suc, ◌+◌, ◌<◌, ◌≤◌, List, [], ◌∷◌, ◌++◌, length, drop, map, get_or, refl, sym, ap, subst, arith}
use Rattle.std.proofs.lemmas.List.{drop_more}
use Rattle.std.specs.List.{range_with_len}
use Rattle.std.proofs.lemmas.List.FromFn.{map-range_with_len_more}
use Rattle.commit_journal.specs.declared.line.Move.{Move}
use Rattle.day_chain.specs.declared.sums.Sums.{Sums}
use Rattle.day_chain.specs.Summing.{HaveRoom, with_move, with_moves}
use Rattle.day_chain.proofs.Changes.{less_room}

pub less_rooms : (k n : ℕ) (xs : List Sums) → HaveRoom (n + k) xs → HaveRoom n xs
less_rooms zero n xs h = subst (λ m. HaveRoom m xs) (omega arith) h
less_rooms (suc k) n xs h = less_rooms k n xs (less_room (n + k) xs (subst (λ m. HaveRoom m xs) (omega arith) h))

drop_past : {X : Type 0} (xs : List X) (i : ℕ) → length xs ≤ i → drop i xs ≡ []
drop_past [] zero l = refl
drop_past [] (suc i) l = refl
drop_past (x ∷ xs) zero l = absurd (omega arith)
drop_past (x ∷ xs) (suc i) l = drop_past xs i (omega arith)

pub moved_more : (moves : List Move) (i : ℕ) (m : Move) (sums : List Sums) → i < length moves → m ≡ get_or moves i m → with_moves (drop (i + 1) moves) (with_move m sums) ≡ with_moves (drop i moves) sums
unfolding with_moves
moved_more moves i m sums l e = ap (λ (x : Move). with_moves (drop (i + 1) moves) (with_move x sums)) e ∙ sym (ap (λ (ms : List Move). with_moves ms sums) (drop_more moves i m l))

pub moved_all : (moves : List Move) (i : ℕ) (sums : List Sums) → length moves ≤ i → sums ≡ with_moves (drop i moves) sums
unfolding with_moves
moved_all moves i sums l = sym (ap (λ (ms : List Move). with_moves ms sums) (drop_past moves i l))

pub row_more : {X : Type 0} (f : ℕ → X) (old new : List X) (i : ℕ) (x : X) → old ≡ map f (range_with_len 1 i) → x ≡ f (i + 1) → new ≡ old ++ x ∷ [] → new ≡ map f (range_with_len 1 (i + 1))
row_more f old new i x h e n =
    n ∙ ap (λ xs. xs ++ x ∷ []) h ∙ ap (λ y. map f (range_with_len 1 i) ++ y ∷ []) e ∙ sym (map-range_with_len_more f 1 i (i + 1) (omega arith))
