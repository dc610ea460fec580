-- Moves that come from no technical account of A.
use Rattle.std.proofs.Common.{◌≡◌, ℕ, ◌-◌, Bool, true, false, List, [], ◌∷◌, refl, ap, subst, arith, cond}
use Rattle.std.specs.Prelude.{nat_lt, nat_eq, if◌then◌else◌, map, filter}
use Rattle.std.specs.List.{list_all}
use Rattle.std.proofs.lemmas.Bool.{ne_eqb, and_from, and_parts}
use Rattle.batch_records.specs.DayRecord.{Day}
use Rattle.batch_records.specs.declared.day.Entry.{Entry}
use Rattle.commit_journal.specs.declared.line.Move.{Move}
use Rattle.machine.specs.Telling.Balances.{debits}
use Rattle.machine.specs.Stages.Intake.{afforded_in_order}
use Rattle.settlement_laws.proofs.Base.Lists.{never}
use Rattle.settlement_laws.proofs.ProcedureA.DebitedByOwnBatches.{is_a_account}

-- ---- moves that come from no such account

-- each move comes from an account other than t
abbrev pub NoneFrom : ℕ → List Move → Type 0
NoneFrom t moves = debits t moves ≡ 0

-- a isn't t, since t is a technical account of A and a isn't
pub differ : (day : Day) (t a : ℕ) → is_a_account day t ≡ true → is_a_account day a ≡ false → nat_eq a t ≡ false
differ day t a h k = ne_eqb a t (λ e. never (is_a_account day t) h (subst (λ x. is_a_account day x ≡ false) e k))

pub one_none : (t : ℕ) (m : Move) (moves : List Move) → nat_eq m.debit t ≡ false → NoneFrom t moves → NoneFrom t (m ∷ moves)
one_none t m moves h k = let z : (if nat_eq m.debit t then m.amount else 0) ≡ 0 = ap (λ b. if b then m.amount else 0) h in omega arith

pub map_none : (t : ℕ) (f : Entry → Move) (test : Entry → Bool) → ((e : Entry) → test e ≡ true → nat_eq (f e).debit t ≡ false) → (es : List Entry) → list_all test es ≡ true → NoneFrom t (map f es)
map_none t f test h [] k = refl
map_none t f test h (e ∷ es) k = let b = and_parts (test e) (list_all test es) k in one_none t (f e) (map f es) (h e b.0) (map_none t f test h es b.1)

pub all_filtered : (test pick : Entry → Bool) (es : List Entry) → list_all test es ≡ true → list_all test (filter pick es) ≡ true
all_filtered test pick [] h = refl
all_filtered test pick (e ∷ es) h = let b = and_parts (test e) (list_all test es) h in here (pick e) b.0 (all_filtered test pick es b.1)
  where
    here : (p : Bool) → test e ≡ true → list_all test (filter pick es) ≡ true → list_all test (cond p (e ∷ filter pick es) (filter pick es)) ≡ true
    here true t k = and_from (test e) (list_all test (filter pick es)) t k
    here false t k = k

pub all_turned : (test : Entry → Bool) (available : ℕ) (es : List Entry) → list_all test es ≡ true → list_all test (afforded_in_order available es) ≡ true
all_turned test available [] h = refl
all_turned test available (e ∷ es) h = let b = and_parts (test e) (list_all test es) h in here (nat_lt available e.amount) b.0 (all_turned test available es b.1) (all_turned test (available - e.amount) es b.1)
  where
    here : (p : Bool) → test e ≡ true → list_all test (afforded_in_order available es) ≡ true → list_all test (afforded_in_order (available - e.amount) es) ≡ true → list_all test (elim p [ true ↦ afforded_in_order available es | false ↦ e ∷ afforded_in_order (available - e.amount) es ]) ≡ true
    here true t k l = k
    here false t k l = and_from (test e) (list_all test (afforded_in_order (available - e.amount) es)) t l

-- any entries, where no move of f comes from t
pub always_none : (t : ℕ) (f : Entry → Move) → ((e : Entry) → nat_eq (f e).debit t ≡ false) → (es : List Entry) → NoneFrom t (map f es)
always_none t f h [] = refl
always_none t f h (e ∷ es) = one_none t (f e) (map f es) (h e) (always_none t f h es)
