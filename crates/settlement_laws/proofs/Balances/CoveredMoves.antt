-- Moves that leave no account below zero.
use Rattle.std.proofs.Common.{◌≡◌, ℕ, zero, suc, ◌+◌, ◌-◌, ◌≤◌, Bool, true, false, List, [], ◌∷◌, refl, sym, ap, subst, arith}
use Rattle.std.specs.Prelude.{nat_lt, nat_eq, if◌then◌else◌, map, take, length, sum_by}
use Rattle.std.specs.List.{list_all}
use Rattle.std.proofs.lemmas.Bool.{eqb-true, ltb-false, and_parts}
use Rattle.std.proofs.lemmas.List.Sums.{sum_by-cons}
use Rattle.std.proofs.Math.Seq.{take-length}
use Rattle.batch_records.specs.DayRecord.{Day}
use Rattle.batch_records.specs.declared.day.Entry.{Entry}
use Rattle.commit_journal.specs.declared.line.Move.{Move}
use Rattle.commit_journal.specs.Line.{Line, History}
use Rattle.machine.specs.Records.Setup.{opening}
use Rattle.machine.specs.Telling.Balances.{credits, debits, credited, debited, balance}
use Rattle.machine.specs.Stages.Intake.{amount_of, afforded_in_order}
use Rattle.machine.specs.Laws.{StaysCovered, IsNeverBelowZero}
pub use Rattle.settlement_laws.proofs.Balances.BackedReversals.{amounts}

-- no account is below zero
abbrev pub IsCovered : Day → History → Type 0
IsCovered day J = (a : ℕ) → debited J a ≤ opening day a + credited J a

pub covered_after : (day : Day) (J : History) (l : Line) → StaysCovered day J l.moves → IsCovered day (l ∷ J)
unfolding debited credited
covered_after day J l h a =
    let k : debited J a + debits a (take (length l.moves) l.moves) ≤ (opening day a + credited J a) + credits a (take (length l.moves) l.moves) = h a (length l.moves) in
    let e : take (length l.moves) l.moves ≡ l.moves = take-length l.moves in
    let d : debits a (take (length l.moves) l.moves) ≡ debits a l.moves = ap (debits a) e in
    let c : credits a (take (length l.moves) l.moves) ≡ credits a l.moves = ap (credits a) e in
    omega arith

pub never_covered : (day : Day) (J : History) → IsNeverBelowZero day J → IsCovered day J
unfolding debited credited
never_covered day [] h a = omega arith
never_covered day (l ∷ J) h a = covered_after day J l h.1 a

-- ---- moves that all come from one account

abbrev pub AllFrom : ℕ → List Move → Type 0
AllFrom f [] = Unit {0}
AllFrom f (m ∷ moves) = (m.debit ≡ f) × AllFrom f moves

debit_more : (b : Bool) (x s t : ℕ) → s ≤ (if b then t else 0) → (if b then x else 0) + s ≤ (if b then x + t else 0)
debit_more true x s t h = omega arith
debit_more false x s t h = omega arith

pub debits_within : (f a i : ℕ) (moves : List Move) → AllFrom f moves → debits a (take i moves) ≤ (if nat_eq f a then amounts moves else 0)
debits_within f a zero moves h = omega arith
debits_within f a (suc i) [] h = omega arith
debits_within f a (suc i) (m ∷ moves) h =
    subst (λ d. (if nat_eq d a then m.amount else 0) + debits a (take i moves) ≤ (if nat_eq f a then m.amount + amounts moves else 0)) (sym h.0)
    (debit_more (nat_eq f a) m.amount (debits a (take i moves)) (amounts moves) (debits_within f a i moves h.1))

pub from_one : (day : Day) (J : History) (f : ℕ) (moves : List Move) → IsCovered day J → AllFrom f moves → amounts moves ≤ balance day J f → StaysCovered day J moves
from_one day J f moves base h fits a i = here (nat_eq f a) refl (debits_within f a i moves h)
  where
    here : (b : Bool) → nat_eq f a ≡ b → debits a (take i moves) ≤ (if b then amounts moves else 0) →
        debited J a + debits a (take i moves) ≤ (opening day a + credited J a) + credits a (take i moves)
    here false e k = let b : debited J a ≤ opening day a + credited J a = base a in omega arith
    here true e k =
        let b : debited J a ≤ opening day a + credited J a = base a in
        let g : amounts moves ≤ (opening day a + credited J a) - debited J a = subst (λ x. amounts moves ≤ balance day J x) (eqb-true f a e) fits in
        omega arith

pub none_stays : (day : Day) (J : History) → IsCovered day J → StaysCovered day J []
none_stays day J base a zero = let b : debited J a ≤ opening day a + credited J a = base a in omega arith
none_stays day J base a (suc i) = let b : debited J a ≤ opening day a + credited J a = base a in omega arith

pub one_stays : (day : Day) (J : History) (m : Move) → IsCovered day J → m.amount ≤ balance day J m.debit → StaysCovered day J (m ∷ [])
one_stays day J m base fits = from_one day J m.debit (m ∷ []) base (refl, tt) (omega arith)

-- ---- the moves of entries

pub amounts_of_map : (f : Entry → Move) → ((e : Entry) → (f e).amount ≡ e.amount) → (es : List Entry) → amounts (map f es) ≡ sum_by amount_of es
amounts_of_map f h [] = refl
amounts_of_map f h (e ∷ es) =
    let k : amounts (map f es) ≡ sum_by amount_of es = amounts_of_map f h es in
    let n : sum_by amount_of (e ∷ es) ≡ e.amount + sum_by amount_of es = sum_by-cons amount_of e es in
    let s : (f e).amount ≡ e.amount = h e in
    omega arith

pub all_from_map : (f : Entry → Move) (a : ℕ) → ((e : Entry) → (f e).debit ≡ a) → (es : List Entry) → AllFrom a (map f es)
all_from_map f a h [] = tt
all_from_map f a h (e ∷ es) = (h e, all_from_map f a h es)

-- ---- the entries that a balance covers in turn

pub turn_within : (available : ℕ) (es : List Entry) → sum_by amount_of (afforded_in_order available es) ≤ available
turn_within available [] = omega arith
turn_within available (e ∷ es) = here (nat_lt available e.amount) refl (turn_within available es) (turn_within (available - e.amount) es)
  where
    here : (b : Bool) → nat_lt available e.amount ≡ b → sum_by amount_of (afforded_in_order available es) ≤ available → sum_by amount_of (afforded_in_order (available - e.amount) es) ≤ available - e.amount →
        sum_by amount_of (elim b [ true ↦ afforded_in_order available es | false ↦ e ∷ afforded_in_order (available - e.amount) es ]) ≤ available
    here true k passed taken = passed
    here false k passed taken =
        let fits : e.amount ≤ available = ltb-false available e.amount k in
        let n : sum_by amount_of (e ∷ afforded_in_order (available - e.amount) es) ≡ e.amount + sum_by amount_of (afforded_in_order (available - e.amount) es) = sum_by-cons amount_of e (afforded_in_order (available - e.amount) es) in
        omega arith

-- what holds of each entry holds of those that are covered in turn
pub all_in_turn : (f : Entry → Move) (a : ℕ) (test : Entry → Bool) → ((e : Entry) → test e ≡ true → (f e).debit ≡ a) → (available : ℕ) (es : List Entry) → list_all test es ≡ true → AllFrom a (map f (afforded_in_order available es))
all_in_turn f a test h available [] p = tt
all_in_turn f a test h available (e ∷ es) p = here (nat_lt available e.amount) (and_parts _ _ p) (all_in_turn f a test h available es (and_parts (test e) (list_all test es) p).1) (all_in_turn f a test h (available - e.amount) es (and_parts (test e) (list_all test es) p).1)
  where
    here : (b : Bool) → (test e ≡ true) × (list_all test es ≡ true) → AllFrom a (map f (afforded_in_order available es)) → AllFrom a (map f (afforded_in_order (available - e.amount) es)) →
        AllFrom a (map f (elim b [ true ↦ afforded_in_order available es | false ↦ e ∷ afforded_in_order (available - e.amount) es ]))
    here true q passed taken = passed
    here false q passed taken = (h e q.0, taken)
