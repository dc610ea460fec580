-- What a settled day adds to the sums of its accounts.
use Rattle.std.proofs.Common.{◌≡◌, ◌∙◌, ℕ, zero, suc, ◌+◌, ◌≤◌, false, List, [], ◌∷◌, length, map, refl, sym, ap, arith, length-append}
use Rattle.std.specs.Prelude.{if◌then◌else◌, nat_eq, nat_le}
use Rattle.std.specs.List.{range_with_len}
use Rattle.std.proofs.lemmas.Bool.{eq-eqb, ne_eqb, le-leb}
use Rattle.std.proofs.lemmas.Bool.Decides.{nat_tests}
use Rattle.batch_records.specs.DayRecord.{Day}
use Rattle.commit_journal.specs.declared.line.Move.{Move}
use Rattle.commit_journal.specs.Line.{History}
use Rattle.commit_journal.specs.Histories.{moves_of}
use Rattle.machine.specs.Telling.Balances.{credits, debits, credited, debited}
use Rattle.machine.specs.Orders.Bounds.{moved}
use Rattle.machine.specs.Orders.Order.{plain}
use Rattle.settlement_laws.proofs.ProcedureB.WholeIsCovered.{credits-append, debits-append}
use Rattle.day_chain.specs.declared.sums.Sums.{Sums}
use Rattle.day_chain.specs.DayEnds.{set_aside}
use Rattle.day_chain.specs.Statements.{sums_of}
use Rattle.day_chain.specs.Summing.{asides_to, blank, changed, more_aside, more_credits, more_debits, with_moves}
use Rattle.day_chain.proofs.Changes.{changed-map, map-from}

-- ---- moves

abbrev pub the_sums : ℕ → ℕ → ℕ → ℕ → Sums
the_sums o d c x = record { opening = o; debits = d; credits = c; aside = x }

pub sums_same : (o d c x d' c' x' : ℕ) → d ≡ d' → c ≡ c' → x ≡ x' → the_sums o d c x ≡ the_sums o d' c' x'
sums_same o d c x d' c' x' p q r = λ i. the_sums o (p i) (q i) (r i)

-- the sums of account a with these moves
abbrev pub with_all : List Move → ℕ → Sums → Sums
with_all moves a s = the_sums s.opening (s.debits + debits a moves) (s.credits + credits a moves) s.aside

debited_one : (m : Move) (s : Sums) → more_debits m.amount s ≡ the_sums s.opening (s.debits + (if nat_eq m.debit m.debit then m.amount else 0)) s.credits s.aside
debited_one m s = sums_same s.opening (s.debits + m.amount) s.credits s.aside (s.debits + (if nat_eq m.debit m.debit then m.amount else 0)) s.credits s.aside (ap (λ b. s.debits + (if b then m.amount else 0)) (sym (eq-eqb m.debit m.debit refl))) refl refl

credited_one : (m : Move) (s : Sums) → more_credits m.amount s ≡ the_sums s.opening s.debits (s.credits + (if nat_eq m.credit m.credit then m.amount else 0)) s.aside
credited_one m s = sums_same s.opening s.debits (s.credits + m.amount) s.aside s.debits (s.credits + (if nat_eq m.credit m.credit then m.amount else 0)) s.aside refl (ap (λ b. s.credits + (if b then m.amount else 0)) (sym (eq-eqb m.credit m.credit refl))) refl

none_more : (x n a : ℕ) (y : ℕ) → (a ≡ n → ⊥) → y ≡ y + (if nat_eq n a then x else 0)
none_more x n a y ne = let e : y + (if nat_eq n a then x else 0) ≡ y + 0 = ap (λ b. y + (if b then x else 0)) (ne_eqb n a (λ q. ne (sym q))) in sym (e ∙ omega arith)

-- one move
abbrev with_debit : Move → (ℕ → Sums) → ℕ → Sums
with_debit m f a = the_sums (f a).opening ((f a).debits + (if nat_eq m.debit a then m.amount else 0)) (f a).credits (f a).aside

abbrev with_credit : Move → (ℕ → Sums) → ℕ → Sums
with_credit m f a = the_sums (f a).opening (f a).debits ((f a).credits + (if nat_eq m.credit a then m.amount else 0)) (f a).aside

debit_map : (m : Move) (f : ℕ → Sums) (n : ℕ) → changed m.debit (more_debits m.amount) (map f (range_with_len 1 n)) ≡ map (with_debit m f) (range_with_len 1 n)
debit_map m f n = changed-map (more_debits m.amount) f (with_debit m f) m.debit n (debited_one m (f m.debit))
    (λ a ne. sums_same (f a).opening (f a).debits (f a).credits (f a).aside _ (f a).credits (f a).aside (none_more m.amount m.debit a (f a).debits ne) refl refl)

credit_map : (m : Move) (f : ℕ → Sums) (n : ℕ) → changed m.credit (more_credits m.amount) (map f (range_with_len 1 n)) ≡ map (with_credit m f) (range_with_len 1 n)
credit_map m f n = changed-map (more_credits m.amount) f (with_credit m f) m.credit n (credited_one m (f m.credit))
    (λ a ne. sums_same (f a).opening (f a).debits (f a).credits (f a).aside (f a).debits _ (f a).aside refl (none_more m.amount m.credit a (f a).credits ne) refl)

pub moves_map : (moves : List Move) (f : ℕ → Sums) (n : ℕ) → with_moves moves (map f (range_with_len 1 n)) ≡ map (λ a. with_all moves a (f a)) (range_with_len 1 n)
unfolding with_moves
moves_map [] f n = map-from f (λ a. with_all [] a (f a)) 1 n (λ a low high. sums_same (f a).opening (f a).debits (f a).credits (f a).aside ((f a).debits + 0) ((f a).credits + 0) (f a).aside (omega arith) (omega arith) refl)
moves_map (m ∷ moves) f n =
    ap (λ (xs : List Sums). with_moves moves (changed m.credit (more_credits m.amount) xs)) (debit_map m f n)
    ∙ ap (with_moves moves) (credit_map m (with_debit m f) n)
    ∙ moves_map moves (with_credit m (with_debit m f)) n
    ∙ map-from (λ a. with_all moves a (with_credit m (with_debit m f) a)) (λ a. with_all (m ∷ moves) a (f a)) 1 n
    (λ a low high. sums_same (f a).opening _ _ (f a).aside _ _ (f a).aside (omega arith) (omega arith) refl)

-- ---- the moves of a journal

pub debits_of_moves : (J : History) (a : ℕ) → debits a (moves_of J) ≡ debited J a
unfolding moves_of debited
debits_of_moves [] a = refl
debits_of_moves (l ∷ J) a = debits-append a (moves_of J) l.moves ∙ ap (λ n. n + debits a l.moves) (debits_of_moves J a)

pub credits_of_moves : (J : History) (a : ℕ) → credits a (moves_of J) ≡ credited J a
unfolding moves_of credited
credits_of_moves [] a = refl
credits_of_moves (l ∷ J) a = credits-append a (moves_of J) l.moves ∙ ap (λ n. n + credits a l.moves) (credits_of_moves J a)

pub count_of_moves : (J : History) → length (moves_of J) ≡ moved J
unfolding moves_of
count_of_moves [] = refl
count_of_moves (l ∷ J) = let e = length-append (moves_of J) l.moves in let h = count_of_moves J in omega arith

-- ---- what is set aside

abbrev aside_to : (ℕ → ℕ) → ℕ → (ℕ → Sums) → ℕ → Sums
aside_to x k f a = if nat_le a k then more_aside (x a) (f a) else f a

le_more : (a k : ℕ) → (a ≡ suc k → ⊥) → nat_le a k ≡ nat_le a (suc k)
le_more a k ne = grind (arith, nat_tests)

gt : (k : ℕ) → nat_le (suc k) k ≡ false
gt k = grind (arith, nat_tests)

pub asides_map : (x : ℕ → ℕ) (k : ℕ) (f : ℕ → Sums) (n : ℕ) → asides_to x k (map f (range_with_len 1 n)) ≡ map (aside_to x k f) (range_with_len 1 n)
unfolding asides_to
asides_map x zero f n = map-from f (aside_to x zero f) 1 n (λ a low high. ap (λ b. if b then more_aside (x a) (f a) else f a) (sym (over_zero a low)))
  where
    over_zero : (a : ℕ) → 1 ≤ a → nat_le a zero ≡ false
    over_zero a low = grind (arith, nat_tests)
asides_map x (suc k) f n =
    ap (changed (suc k) (more_aside (x (suc k)))) (asides_map x k f n)
    ∙ changed-map (more_aside (x (suc k))) (aside_to x k f) (aside_to x (suc k) f) (suc k) n
    (ap (λ b. more_aside (x (suc k)) (if b then more_aside (x (suc k)) (f (suc k)) else f (suc k))) (gt k) ∙ ap (λ b. if b then more_aside (x (suc k)) (f (suc k)) else f (suc k)) (sym (le-leb (suc k) (suc k) (omega arith))))
    (λ a ne. ap (λ b. if b then more_aside (x a) (f a) else f a) (le_more a k ne))

pub asides_none : (x : ℕ → ℕ) (xs : List Sums) → xs ≡ asides_to x 0 xs
unfolding asides_to
asides_none x xs = refl

pub asides_next : (x : ℕ → ℕ) (k : ℕ) (xs : List Sums) → changed (k + 1) (more_aside (x (k + 1))) (asides_to x k xs) ≡ asides_to x (k + 1) xs
unfolding asides_to
asides_next x k xs = let e : k + 1 ≡ suc k = omega arith in (λ i. changed (e i) (more_aside (x (e i))) (asides_to x k xs)) ∙ ap (λ n. asides_to x n xs) (sym e)

pub asides_all : (x : ℕ → ℕ) (f : ℕ → Sums) (n : ℕ) → asides_to x n (map f (range_with_len 1 n)) ≡ map (λ a. more_aside (x a) (f a)) (range_with_len 1 n)
asides_all x f n = asides_map x n f n ∙ map-from (aside_to x n f) (λ a. more_aside (x a) (f a)) 1 n (λ a low high. ap (λ b. if b then more_aside (x a) (f a) else f a) (le-leb a n (omega arith)))

-- ---- a day

-- the sums of account a with those of one day more
abbrev pub added : Day → ℕ → Sums → Sums
added day a s = the_sums s.opening (s.debits + debited (plain day) a) (s.credits + credited (plain day) a) (s.aside + set_aside day a)

pub day_added : (day : Day) (J : History) (f : ℕ → Sums) (n : ℕ) → J ≡ plain day → asides_to (set_aside day) n (with_moves (moves_of J) (map f (range_with_len 1 n))) ≡ map (λ a. added day a (f a)) (range_with_len 1 n)
day_added day J f n e =
    ap (asides_to (set_aside day) n) (moves_map (moves_of J) f n)
    ∙ asides_all (set_aside day) (λ a. with_all (moves_of J) a (f a)) n
    ∙ map-from (λ a. more_aside (set_aside day a) (with_all (moves_of J) a (f a))) (λ a. added day a (f a)) 1 n
    (λ a low high. sums_same (f a).opening _ _ _ _ _ _ (ap (λ d. (f a).debits + d) (debits_of_moves J a ∙ ap (λ j. debited j a) e)) (ap (λ d. (f a).credits + d) (credits_of_moves J a ∙ ap (λ j. credited j a) e)) refl)

-- the first day of a year
pub sums_first : (day : Day) (a : ℕ) → added day a (blank day a) ≡ sums_of (day ∷ []) a
unfolding sums_of
sums_first day a = refl

-- and a later one
pub sums_later : (day last : Day) (days : List Day) (a : ℕ) → added day a (sums_of (last ∷ days) a) ≡ sums_of (day ∷ last ∷ days) a
unfolding sums_of
sums_later day last days a = refl
