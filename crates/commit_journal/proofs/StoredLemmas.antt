-- What is stored, and the history that it stands for.
use Rattle.std.proofs.Common.{◌≡◌, ℕ, zero, suc, ◌+◌, ◌-◌, ◌<◌, ◌≤◌, List, [], ◌∷◌, ◌++◌, length, take, drop, reverse, get_or, refl, sym, ap, ◌∙◌, subst, arith, length-drop, append_assoc}
use Rattle.std.proofs.lemmas.List.{reverse-append, length-reverse, take-append-drop, get_or-reverse, reverse-reverse, length-take-le}
use Rattle.std.proofs.Math.Seq.{take-append_seam, drop-append_seam, drop-cons, drop-drop}
use Rattle.commit_journal.specs.declared.line.Head.{Head}
use Rattle.commit_journal.specs.declared.line.Move.{Move}
use Rattle.commit_journal.specs.declared.journal.Stored.{Stored}
use Rattle.commit_journal.specs.Line.{Line, History}
use Rattle.commit_journal.specs.Histories.{moves_of, oldest}
use Rattle.commit_journal.specs.Kept.{Kept, pushed}
use Rattle.commit_journal.specs.Stored.{unstack, total, IsStacked}

abbrev pub seen : List Stored → List Move → ℕ → ℕ → Kept
seen ss ms room room_for_moves = record { history = unstack (reverse ss) (reverse ms); room_for_lines = room; room_for_moves = room_for_moves }

pub length-unstack : (ss : List Stored) (ms : List Move) → length (unstack ss ms) ≡ length ss
unfolding unstack
length-unstack [] ms = refl
length-unstack (s ∷ ss) ms = ap suc (length-unstack ss (drop s.count ms))

-- a push adds its line in front
pub unstack-push : (ss : List Stored) (ms new : List Move) (h : Head) (at : ℕ) → unstack (reverse (ss ++ record { head = h; from = at; count = length new } ∷ [])) (reverse (ms ++ new)) ≡ record { head = h; moves = new } ∷ unstack (reverse ss) (reverse ms)
unfolding unstack
unstack-push ss ms new h at =
    let s : Stored = record { head = h; from = at; count = length new } in
    let a : reverse (ss ++ s ∷ []) ≡ s ∷ reverse ss = reverse-append ss (s ∷ []) in
    let b : reverse (ms ++ new) ≡ reverse new ++ reverse ms = reverse-append ms new in
    let t : take (length new) (reverse new ++ reverse ms) ≡ reverse new = subst (λ n. take n (reverse new ++ reverse ms) ≡ reverse new) (length-reverse new) (take-append_seam (reverse new) (reverse ms)) in
    let d : drop (length new) (reverse new ++ reverse ms) ≡ reverse ms = subst (λ n. drop n (reverse new ++ reverse ms) ≡ reverse ms) (length-reverse new) (drop-append_seam (reverse new) (reverse ms)) in
    let f : List Move → List Move → History = λ x y. record { head = h; moves = reverse x } ∷ unstack (reverse ss) y in
    let g : List Move → History = λ x. record { head = h; moves = x } ∷ unstack (reverse ss) (reverse ms) in
    ap (λ l. unstack l (reverse (ms ++ new))) a
    ∙ ap (λ l. unstack (s ∷ reverse ss) l) b
    ∙ ap (λ l. f l (drop (length new) (reverse new ++ reverse ms))) t
    ∙ ap (λ l. f (reverse new) l) d
    ∙ ap g (reverse-reverse new)

pub total-push : (ss : List Stored) (s : Stored) → total (reverse (ss ++ s ∷ [])) ≡ s.count + total (reverse ss)
total-push ss s = ap total (reverse-append ss (s ∷ []))

-- the moves of all lines are those that are stored
moves_of-unstack : (ss : List Stored) (ms : List Move) → total ss ≡ length ms → moves_of (unstack ss ms) ≡ reverse ms
unfolding unstack moves_of
moves_of-unstack [] [] e = refl
moves_of-unstack [] (m ∷ ms) e = absurd (omega (arith, e))
moves_of-unstack (s ∷ ss) ms e =
    let len = length-drop s.count ms in
    ap (λ l. l ++ reverse (take s.count ms)) (moves_of-unstack ss (drop s.count ms) (omega (arith, e, len)))
    ∙ sym (reverse-append (take s.count ms) (drop s.count ms))
    ∙ ap reverse (take-append-drop s.count ms)

pub moves_of-stored : (ss : List Stored) (ms : List Move) → total (reverse ss) ≡ length ms → moves_of (unstack (reverse ss) (reverse ms)) ≡ ms
moves_of-stored ss ms e = moves_of-unstack (reverse ss) (reverse ms) (e ∙ sym (length-reverse ms)) ∙ reverse-reverse ms

drop-unstack : (k : ℕ) (ss : List Stored) (ms : List Move) → drop k (unstack ss ms) ≡ unstack (drop k ss) (drop (total (take k ss)) ms)
unfolding unstack
drop-unstack zero ss ms = refl
drop-unstack (suc k) [] ms = refl
drop-unstack (suc k) (s ∷ ss) ms =
    drop-unstack k ss (drop s.count ms) ∙ ap (unstack (drop k ss)) (drop-drop (total (take k ss)) s.count ms)

stacked-drop : (k : ℕ) (ss : List Stored) → IsStacked ss → IsStacked (drop k ss)
stacked-drop zero ss h = h
stacked-drop (suc k) [] h = tt
stacked-drop (suc k) (s ∷ ss) h = stacked-drop k ss h.1

total-split : (k : ℕ) (ss : List Stored) → total ss ≡ total (take k ss) + total (drop k ss)
total-split zero ss = omega arith
total-split (suc k) [] = refl
total-split (suc k) (s ∷ ss) = omega (arith, total-split k ss)

-- a stretch from the front is one from the back of the list turned round
turned : (f c t : ℕ) (ms : List Move) → f + c + t ≡ length ms → reverse (take c (drop t (reverse ms))) ≡ take c (drop f ms)
turned f c t ms e =
    let A = take f ms in
    let R = drop f ms in
    let B = take c R in
    let C = drop c R in
    let parts : ms ≡ A ++ (B ++ C) = sym (take-append-drop f ms) ∙ ap (λ l. A ++ l) (sym (take-append-drop c R)) in
    let back : reverse ms ≡ reverse C ++ (reverse B ++ reverse A) = ap reverse parts ∙ reverse-append A (B ++ C) ∙ ap (λ l. l ++ reverse A) (reverse-append B C) ∙ append_assoc (reverse C) (reverse B) (reverse A) in
    let lr : length R ≡ length ms - f = length-drop f ms in
    let lc : length (reverse C) ≡ t = length-reverse C ∙ length-drop c R ∙ omega (arith, lr, e) in
    let lb : length (reverse B) ≡ c = length-reverse B ∙ length-take-le c R (omega (arith, lr, e)) in
    let dropped : drop t (reverse ms) ≡ reverse B ++ reverse A = ap (drop t) back ∙ subst (λ n. drop n (reverse C ++ (reverse B ++ reverse A)) ≡ reverse B ++ reverse A) lc (drop-append_seam (reverse C) (reverse B ++ reverse A)) in
    let taken : take c (reverse B ++ reverse A) ≡ reverse B = subst (λ n. take n (reverse B ++ reverse A) ≡ reverse B) lb (take-append_seam (reverse B) (reverse A)) in
    ap (λ l. reverse (take c l)) dropped ∙ ap reverse taken ∙ reverse-reverse B

drop_next : (k : ℕ) (J : History) (l : Line) (K : History) → drop k J ≡ l ∷ K → drop (suc k) J ≡ K
drop_next zero [] l K e = absurd (cc)
drop_next zero (x ∷ J) l K e = ap (drop 1) e
drop_next (suc k) [] l K e = absurd (cc)
drop_next (suc k) (x ∷ J) l K e = drop_next k J l K e

-- the line after the first i lines
pub oldest-next : (ss : List Stored) (ms : List Move) (i : ℕ) (s : Stored) → i < length ss → s ≡ get_or ss i s → IsStacked (reverse ss) → total (reverse ss) ≡ length ms → (s.from + s.count ≤ length ms) × (oldest (unstack (reverse ss) (reverse ms)) (i + 1) ≡ record { head = s.head; moves = take s.count (drop s.from ms) } ∷ oldest (unstack (reverse ss) (reverse ms)) i)
unfolding unstack
oldest-next ss ms i s low is stacked counted =
    let J = unstack (reverse ss) (reverse ms) in
    let n = length-unstack (reverse ss) (reverse ms) in
    let m = length-reverse ss in
    let k : ℕ = length ss - (i + 1) in
    let t : ℕ = total (take k (reverse ss)) in
    let rest = drop (suc k) (reverse ss) in
    let c = drop-cons (reverse ss) k s (omega (arith, m)) in
    let at : get_or (reverse ss) k s ≡ s = get_or-reverse ss k s (omega arith) ∙ ap (λ j. get_or ss j s) (omega arith) ∙ sym is in
    let here : drop k (reverse ss) ≡ s ∷ rest = c ∙ ap (λ x. x ∷ rest) at in
    let from : s.from ≡ total rest = (subst IsStacked here (stacked-drop k (reverse ss) stacked)).0 in
    let split = total-split k (reverse ss) in
    let there : total (drop k (reverse ss)) ≡ s.count + total rest = ap total here in
    let exact : s.from + s.count + t ≡ length ms = omega (arith, split, there, from, counted) in
    let mine = turned s.from s.count t ms exact in
    let whole : drop k J ≡ record { head = s.head; moves = reverse (take s.count (drop t (reverse ms))) } ∷ unstack rest (drop s.count (drop t (reverse ms))) = drop-unstack k (reverse ss) (reverse ms) ∙ ap (λ l. unstack l (drop t (reverse ms))) here in
    let next = drop_next k J _ _ whole in
    let first : length J - (i + 1) ≡ k = omega (arith, n, m) in
    let second : suc k ≡ length J - i = omega (arith, n, m) in
    let put : List Move → History → History = λ x K. record { head = s.head; moves = x } ∷ K in
    (omega (arith, exact), ap (λ j. drop j J) first ∙ whole ∙ ap (put (reverse (take s.count (drop t (reverse ms))))) (sym next ∙ ap (λ j. drop j J) second) ∙ ap (λ x. put x (drop (length J - i) J)) mine)

-- what a contract sees after a push
pub kept-push : (ss ss' : List Stored) (ms ms' new : List Move) (h : Head) (at most_lines most_moves lines lines' moves moves' : ℕ) → ss' ≡ ss ++ record { head = h; from = at; count = length new } ∷ [] → ms' ≡ ms ++ new → lines' ≡ lines + 1 → moves' ≡ moves + length new → seen ss' ms' (most_lines - lines') (most_moves - moves') ≡ pushed (seen ss ms (most_lines - lines) (most_moves - moves)) h new
kept-push ss ss' ms ms' new h at most_lines most_moves lines lines' moves moves' es em el en =
    let p = ap (λ l. unstack (reverse l) (reverse ms')) es ∙ ap (λ l. unstack (reverse (ss ++ record { head = h; from = at; count = length new } ∷ [])) (reverse l)) em ∙ unstack-push ss ms new h at in
    let q : most_lines - lines' ≡ most_lines - lines - 1 = omega arith in
    let r : most_moves - moves' ≡ most_moves - moves - length new = omega arith in
    λ i. record { history = p i; room_for_lines = q i; room_for_moves = r i }
