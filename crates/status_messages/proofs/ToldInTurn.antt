-- An entry of D is told as rejected exactly where the balance doesn't cover it with the entries before it that aren't told.
use Rattle.std.proofs.Common.{◌≡◌, ◌∙◌, ℕ, zero, suc, ◌+◌, ◌-◌, ◌<◌, Bool, true, false, not, ◌||◌, List, [], ◌∷◌, Some, refl, ap, sym, arith, eq-eqb, if◌then◌else◌, take}
use Rattle.std.specs.Prelude.{nat_eq, nat_lt, nat_le, slice_get, sum_by}
use Rattle.std.specs.List.{list_any, enumerate_from}
use Rattle.std.proofs.lemmas.Bool.{ne_eqb, ltb-true, ltb-false, le-leb, lt-leb, or_left}
use Rattle.batch_records.specs.DayRecord.{Day}
use Rattle.batch_records.specs.declared.day.Entry.{Entry}
use Rattle.machine.specs.Records.Messages.{entries, entry_at}
use Rattle.machine.specs.Stages.Intake.{amount_of}
use Rattle.machine.specs.Laws.{amount_before}
use Rattle.settlement_laws.proofs.ProcedureD.MovesInTurn.{turns, turn_is, weighed, second, keep, before_number, one_more, one_less}
use Rattle.status_messages.specs.Statuses.{unafforded_in_order}

-- a number below those from which the entries count on isn't told
pub below : (available j k : ℕ) (es : List Entry) → j < k → list_any (nat_eq j) (unafforded_in_order available k es) ≡ false
unfolding unafforded_in_order
below available j k [] low = refl
below available j k (e ∷ es) low =
    let apart : nat_eq j k ≡ false = ne_eqb j k (λ same. omega (arith, same)) in
    here (nat_lt available e.amount) apart (below available j (suc k) es (omega arith)) (below (available - e.amount) j (suc k) es (omega arith))
  where
    here : (b : Bool) → nat_eq j k ≡ false → list_any (nat_eq j) (unafforded_in_order available (suc k) es) ≡ false → list_any (nat_eq j) (unafforded_in_order (available - e.amount) (suc k) es) ≡ false →
        list_any (nat_eq j) (elim b [ true ↦ k ∷ unafforded_in_order available (suc k) es | false ↦ unafforded_in_order (available - e.amount) (suc k) es ]) ≡ false
    here true apart passed taken = (λ i. apart i || passed i)
    here false apart passed taken = taken

-- what isn't covered in its turn is told
told_is : (available s i : ℕ) (es : List Entry) (e : Entry) (j : ℕ) → j ≡ s + i → slice_get es i ≡ Some e → list_any (nat_eq j) (unafforded_in_order available s es) ≡ not (turns available es i)
unfolding unafforded_in_order
told_is available s i [] e j n g = cc
told_is available s zero (x ∷ es) e j n g = here (nat_lt available x.amount) (eq-eqb j s same) (below (available - x.amount) j (suc s) es (omega (arith, same)))
  where
    same : j ≡ s
    same = omega arith

    here : (b : Bool) → nat_eq j s ≡ true → list_any (nat_eq j) (unafforded_in_order (available - x.amount) (suc s) es) ≡ false →
        list_any (nat_eq j) (elim b [ true ↦ s ∷ unafforded_in_order available (suc s) es | false ↦ unafforded_in_order (available - x.amount) (suc s) es ]) ≡ not (not b)
    here true q z = or_left (nat_eq j s) (list_any (nat_eq j) (unafforded_in_order available (suc s) es)) q
    here false q z = z
told_is available s (suc i) (x ∷ es) e j n g =
    here (nat_lt available x.amount) (ne_eqb j s (λ q. omega (arith, q))) (told_is available (suc s) i es e j (omega arith) g) (told_is (available - x.amount) (suc s) i es e j (omega arith) g)
  where
    here : (b : Bool) → nat_eq j s ≡ false → list_any (nat_eq j) (unafforded_in_order available (suc s) es) ≡ not (turns available es i) →
        list_any (nat_eq j) (unafforded_in_order (available - x.amount) (suc s) es) ≡ not (turns (available - x.amount) es i) →
        list_any (nat_eq j) (elim b [ true ↦ s ∷ unafforded_in_order available (suc s) es | false ↦ unafforded_in_order (available - x.amount) (suc s) es ])
        ≡ not (elim b [ true ↦ turns available es i | false ↦ turns (available - x.amount) es i ])
    here true q passed taken = ap (λ c. c || list_any (nat_eq j) (unafforded_in_order available (suc s) es)) q ∙ passed
    here false q passed taken = taken

-- entries that pass both tests alike amount to the same
weighed_same : (q r : ℕ → Bool) (es : List Entry) (i : ℕ) → ((j : ℕ) (e : Entry) → slice_get es j ≡ Some e → q j ≡ r j) → weighed q es i ≡ weighed r es i
weighed_same q r [] i h = refl
weighed_same q r (e ∷ es) zero h = refl
weighed_same q r (e ∷ es) (suc i) h =
    let k = weighed_same (λ j. q (suc j)) (λ j. r (suc j)) es i (λ j x g. h (suc j) x g) in
    let f = h 0 e refl in
    λ t. (if f t then e.amount else 0) + k t

not_within : (a b : ℕ) → not (nat_le a b) ≡ nat_lt b a
not_within a b = here (nat_lt b a) refl
  where
    here : (c : Bool) → nat_lt b a ≡ c → not (nat_le a b) ≡ c
    here true e = ap not (lt-leb a b (ltb-true b a e))
    here false e = ap not (le-leb a b (let l = ltb-false b a e in omega (arith, l)))

not_twice : (b : Bool) → not (not b) ≡ b
not_twice true = refl
not_twice false = refl

-- over the entries of a batch, with what is told as numbers
pub told_beyond : (day : Day) (n held k : ℕ) (e : Entry) → entry_at day n k ≡ Some e →
    list_any (nat_eq k) (unafforded_in_order held 1 (entries day n)) ≡ nat_lt held (e.amount + amount_before day n (λ i. not (list_any (nat_eq i) (unafforded_in_order held 1 (entries day n)))) k)
told_beyond day n held zero e g = cc
told_beyond day n held (suc i) e g =
    told_is held 1 i es e (suc i) (sym (one_more i)) g
    ∙ ap not (turn_is held es i e g)
    ∙ not_within (e.amount + weighed (turns held es) es i) held
    ∙ ap (λ w. nat_lt held (e.amount + w)) (sym (weighed_same (λ j. untold (1 + j)) (turns held es) es i same)
    ∙ sym (before_number untold (λ j. untold (1 + j)) 1 es i (λ j. refl))
    ∙ ap (λ j. sum_by amount_of (second (keep untold (take j (enumerate_from 1 es))))) (sym (one_less i)))
  where
    es : List Entry
    es = entries day n

    untold : ℕ → Bool
    untold j = not (list_any (nat_eq j) (unafforded_in_order held 1 es))

    same : (j : ℕ) (x : Entry) → slice_get es j ≡ Some x → untold (1 + j) ≡ turns held es j
    same j x q = ap not (told_is held 1 j es x (1 + j) refl q) ∙ not_twice (turns held es j)
