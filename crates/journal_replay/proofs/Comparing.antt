-- Lists of moves that are the same, and the newest line of a journal.
use Rattle.std.proofs.Common.{◌≡◌, Bool, true, ◌&&◌, List, [], ◌∷◌, length, refl, arith}
use Rattle.std.specs.Prelude.{nat_eq}
use Rattle.std.specs.List.{list_all, zip}
use Rattle.std.proofs.lemmas.Bool.{and_from, and_parts, eq-eqb, eqb-true}
use Rattle.commit_journal.specs.declared.line.Move.{Move}
use Rattle.commit_journal.specs.Line.{Line, History}
use Rattle.journal_replay.specs.Same.{is_same_move}

move_is : (one other : Move) → is_same_move one other ≡ true → one ≡ other
move_is one other h =
    let a = and_parts (nat_eq one.debit other.debit && nat_eq one.credit other.credit) (nat_eq one.amount other.amount) h in
    let b = and_parts (nat_eq one.debit other.debit) (nat_eq one.credit other.credit) a.0 in
    let debit : one.debit ≡ other.debit = eqb-true _ _ b.0 in
    let credit : one.credit ≡ other.credit = eqb-true _ _ b.1 in
    let amount : one.amount ≡ other.amount = eqb-true _ _ a.1 in
    λ i. record { debit = debit i; credit = credit i; amount = amount i }

move_itself : (one : Move) → is_same_move one one ≡ true
move_itself one = and_from _ _ (and_from _ _ (eq-eqb one.debit one.debit refl) (eq-eqb one.credit one.credit refl)) (eq-eqb one.amount one.amount refl)

abbrev pub is_same_pair : Move × Move → Bool
is_same_pair pair = is_same_move pair.0 pair.1

pub moves_are : (some others : List Move) → length some ≡ length others → list_all is_same_pair (zip some others) ≡ true → some ≡ others
moves_are [] [] e h = refl
moves_are [] (y ∷ ys) e h = absurd (omega arith)
moves_are (x ∷ xs) [] e h = absurd (omega arith)
moves_are (x ∷ xs) (y ∷ ys) e h =
    let parts = and_parts (is_same_move x y) (list_all is_same_pair (zip xs ys)) h in
    let first : x ≡ y = move_is x y parts.0 in
    let others : xs ≡ ys = moves_are xs ys (omega (arith, e)) parts.1 in
    λ i. first i ∷ others i

pub moves_themselves : (some : List Move) → list_all is_same_pair (zip some some) ≡ true
moves_themselves [] = refl
moves_themselves (x ∷ xs) = and_from _ _ (move_itself x) (moves_themselves xs)

-- ---- the newest line

first_is : (l m : Line) (before rest : History) → l ∷ before ≡ m ∷ rest → l ≡ m
first_is l m before rest e = cc
