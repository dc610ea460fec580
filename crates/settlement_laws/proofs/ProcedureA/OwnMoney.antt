-- What an A batch brought to its technical account covers what it takes; so the account holds it, whatever the others do.
use Rattle.std.proofs.Common.{◌≡◌, ℕ, suc, ◌+◌, ◌-◌, ◌≤◌, Bool, true, false, not, ◌&&◌, ◌||◌, [], ◌∷◌, Option, Some, None, refl, sym, ◌∙◌, ap, subst, arith, ◌⊎◌, inl, inr}
use Rattle.std.specs.Prelude.{is_some, nat_eq, if◌then◌else◌, slice_get}
use Rattle.std.specs.List.{list_all}
use Rattle.std.proofs.lemmas.Bool.{eqb-true, eq-eqb, not-false, not-true}
use Rattle.batch_records.specs.DayRecord.{Day}
use Rattle.batch_records.specs.declared.day.Entry.{Entry}
use Rattle.commit_journal.specs.Line.{Line, History}
use Rattle.machine.specs.Words.{some_passes}
use Rattle.machine.specs.Records.Setup.{opening}
use Rattle.machine.specs.Records.Messages.{Sort, BatchA, sort_of, is_a, entries, entry_at, entry_numbers, technical_account, is_debit, is_credit, is_debit_entry, is_credit_entry, debit_numbers, credit_numbers}
use Rattle.machine.specs.Telling.History.{covered, closed}
use Rattle.machine.specs.Telling.Balances.{credits, debits, credited, debited, balance}
use Rattle.machine.specs.Stages.Phases.{is_booked}
use Rattle.machine.specs.Legal.{IsLegal}
use Rattle.settlement_laws.proofs.Base.Lists.{never, one_fails, all_in, from_filter, into_filter, is_numbered, find_all}
use Rattle.settlement_laws.proofs.Base.Weights.{every, weight_rises, weight_one, weight_nothing}
use Rattle.settlement_laws.proofs.Base.LinesOf.{credited_by, debited_by, is_of}
use Rattle.settlement_laws.proofs.ProcedureA.FactsOfA.{debit_weight, credit_weight, FactsOfA, facts_of_a}
use Rattle.settlement_laws.proofs.ProcedureA.BoundsOfA.{Bounds, bounds}
use Rattle.settlement_laws.proofs.ProcedureA.BookedCredits.{Flags, has_debits}
use Rattle.settlement_laws.proofs.ProcedureA.WantsOfA.{MadeLine}
use Rattle.settlement_laws.proofs.ProcedureA.DebitedByOwnBatches.{is_a_account}
use Rattle.settlement_laws.proofs.ProcedureA.DebitsOfTechnical.{none_debited}

-- ---- numbers of entries

one_more : (i : ℕ) → suc i ≡ 1 + i
one_more i = omega arith

some_there : {X : Type 0} (o : Option X) (x : X) → o ≡ Some x → is_some o ≡ true
some_there o x e = ap is_some e

module _ (day : Day) (J : History) (n : ℕ) where
  -- all debits are there: they come to all
  pub all_debits : has_debits day J n ≡ true → debit_weight day n every ≤ debit_weight day n (is_booked J n)
  all_debits h = weight_rises (is_debit_entry day n) every (is_booked J n) 1 (entries day n) (λ i e g p t. subst (λ k. is_booked J n k ≡ true) (one_more i) (is_there i e g p))
    where
      is_there : (i : ℕ) (e : Entry) → slice_get (entries day n) i ≡ Some e → is_debit_entry day n e ≡ true → is_booked J n (suc i) ≡ true
      is_there i e g p = not-false (is_booked J n (suc i)) (find_all (λ k. not (is_booked J n k)) (debit_numbers day n) h (suc i)
          (into_filter (is_debit day n) (entry_numbers day n) (suc i) (is_numbered (suc i) (entries day n) (some_there (slice_get (entries day n) i) e g)) (ap (some_passes (is_debit_entry day n)) g ∙ p)))

  -- no credit is booked: they come to nothing
  pub no_credits : ((k : ℕ) → is_credit day n k ≡ true → is_booked J n k ≡ false) → credit_weight day n (is_booked J n) ≡ 0
  no_credits h = weight_nothing (is_credit_entry day n) (is_booked J n) 1 (entries day n) (λ i e g p. subst (λ k. is_booked J n k ≡ false) (one_more i) (h (suc i) (ap (some_passes (is_credit_entry day n)) g ∙ p)))

  pub some_credits : credit_weight day n (is_booked J n) ≤ credit_weight day n every
  some_credits = weight_rises (is_credit_entry day n) (is_booked J n) every 1 (entries day n) (λ i e g p t. refl)

  -- with one more
  pub one_credit : (k i : ℕ) (x : Entry) → k ≡ suc i → slice_get (entries day n) i ≡ Some x → is_credit_entry day n x ≡ true → is_booked J n k ≡ false → credit_weight day n (is_booked J n) + x.amount ≤ credit_weight day n every
  one_credit k i x e g p u =
      let a : credit_weight day n (λ j. is_booked J n j || nat_eq k j) ≤ credit_weight day n every = weight_rises (is_credit_entry day n) (λ j. is_booked J n j || nat_eq k j) every 1 (entries day n) (λ i e g p t. refl) in
      let b : credit_weight day n (λ j. is_booked J n j || nat_eq k j) ≡ credit_weight day n (is_booked J n) + (if is_credit_entry day n x && not (is_booked J n k) then x.amount else 0) = weight_one (is_credit_entry day n) (is_booked J n) k 1 i (entries day n) x (omega arith) g in
      let c : (if is_credit_entry day n x && not (is_booked J n k) then x.amount else 0) ≡ x.amount = gain (is_credit_entry day n x) (is_booked J n k) x.amount p u in
      omega arith
    where
      gain : (p b : Bool) (y : ℕ) → p ≡ true → b ≡ false → (if p && not b then y else 0) ≡ y
      gain true false y p h = refl
      gain true true y p h = cc
      gain false b y p h = cc

-- ---- one batch

all_came : (v : Bool) (d b y : ℕ) → (d ≤ b) ⊎ (v ≡ true) → (if v then d else b) ≤ y → d ≤ y
all_came true d b y h k = k
all_came false d b y (inl h) k = omega arith
all_came false d b y (inr h) k = cc

pub part_came : (v : Bool) (d b y : ℕ) → v ≡ false → (if v then d else b) ≤ y → b ≤ y
part_came true d b y h k = cc
part_came false d b y h k = k

pub not_back : (z : Bool) (b c y : ℕ) → z ≡ false → y ≤ c + (if z then b else 0) → y ≤ c
not_back true b c y h k = cc
not_back false b c y h k = omega arith

at_most : (z : Bool) (b c y : ℕ) → y ≤ c + (if z then b else 0) → y ≤ c + b
at_most true b c y k = k
at_most false b c y k = omega arith

-- what came is all that the credits come to, where the debits are there or the fund covers
pub all_is_there : (day : Day) (J : History) (n : ℕ) → FactsOfA day n → Bounds day J n → (has_debits day J n ≡ true) ⊎ (is_some (covered J n) ≡ true) → credit_weight day n every ≤ credited_by (is_of n) J (technical_account day n)
all_is_there day J n facts b h =
    let e = facts.is_even in
    let a : debit_weight day n every ≤ credited_by (is_of n) J (technical_account day n) = all_came (is_some (covered J n)) (debit_weight day n every) (debit_weight day n (is_booked J n)) _ (elim h [ inl u ↦ inl (all_debits day J n u) | inr v ↦ inr v ]) b.enough_came in
    omega arith

pub own_within : (day : Day) (J : History) (n : ℕ) → IsLegal day J → sort_of day n ≡ BatchA → Flags day J n → debited_by (is_of n) J (technical_account day n) ≤ credited_by (is_of n) J (technical_account day n)
own_within day J n legal q f = closed_or (is_some (closed J n)) refl
  where
    b : Bounds day J n
    b = bounds day n J legal q

    unpaid_credits : list_all (λ k. not (is_booked J n k)) (credit_numbers day n) ≡ true → (k : ℕ) → is_credit day n k ≡ true → is_booked J n k ≡ false
    unpaid_credits h k c = not-true (is_booked J n k) (all_in (λ k. not (is_booked J n k)) (credit_numbers day n) k h (into_filter (is_credit day n) (entry_numbers day n) k (is_numbered k (entries day n) (there (entry_at day n k) c)) c))
      where
        there : (o : Option Entry) → some_passes (is_credit_entry day n) o ≡ true → is_some o ≡ true
        there None h = h
        there (Some e) h = refl

    paid_or : is_some (closed J n) ≡ false → (p : Bool) → list_all (λ k. not (is_booked J n k)) (credit_numbers day n) ≡ p → debited_by (is_of n) J (technical_account day n) ≤ credited_by (is_of n) J (technical_account day n)
    paid_or z true e =
        let w : credit_weight day n (is_booked J n) ≡ 0 = no_credits day J n (unpaid_credits e) in
        let g : debited_by (is_of n) J (technical_account day n) ≤ credit_weight day n (is_booked J n) = not_back (is_some (closed J n)) (debit_weight day n (is_booked J n)) (credit_weight day n (is_booked J n)) _ z b.little_went in
        omega arith
    paid_or z false e =
        let x = one_fails (λ k. not (is_booked J n k)) (credit_numbers day n) e in
        let bk : is_booked J n x.0 ≡ true = not-false (is_booked J n x.0) x.2 in
        let c : is_credit day n x.0 ≡ true = (from_filter (is_credit day n) (entry_numbers day n) x.0 x.1).1 in
        let facts : FactsOfA day n = facts_of_a day J n legal q (f.was_accepted x.0 bk) in
        let a = all_is_there day J n facts b (f.waited x.0 c bk) in
        let s = some_credits day J n in
        let g : debited_by (is_of n) J (technical_account day n) ≤ credit_weight day n (is_booked J n) = not_back (is_some (closed J n)) (debit_weight day n (is_booked J n)) (credit_weight day n (is_booked J n)) _ z b.little_went in
        omega arith

    closed_or : (z : Bool) → is_some (closed J n) ≡ z → debited_by (is_of n) J (technical_account day n) ≤ credited_by (is_of n) J (technical_account day n)
    closed_or false z = paid_or z (list_all (λ k. not (is_booked J n k)) (credit_numbers day n)) refl
    closed_or true z =
        let u = f.unpaid z in
        let w : credit_weight day n (is_booked J n) ≡ 0 = no_credits day J n u.0 in
        let g : debited_by (is_of n) J (technical_account day n) ≤ credit_weight day n (is_booked J n) + debit_weight day n (is_booked J n) = at_most (is_some (closed J n)) (debit_weight day n (is_booked J n)) (credit_weight day n (is_booked J n)) _ b.little_went in
        let c : debit_weight day n (is_booked J n) ≤ credited_by (is_of n) J (technical_account day n) = part_came (is_some (covered J n)) (debit_weight day n every) (debit_weight day n (is_booked J n)) _ u.1 b.enough_came in
        omega arith

-- ---- the lines of some messages, and of the others

abbrev without : ℕ → (ℕ → Bool) → ℕ → Bool
without n p m = p m && not (is_of n m)

apart_at : (p o : Bool) (x : ℕ) → (o ≡ true → p ≡ true) → (if p then x else 0) ≡ (if o then x else 0) + (if p && not o then x else 0)
apart_at true true x h = omega arith
apart_at true false x h = omega arith
apart_at false true x h = never false (h refl) refl
apart_at false false x h = omega arith

same_message : (p : ℕ → Bool) (n m : ℕ) → p n ≡ true → is_of n m ≡ true → p m ≡ true
same_message p n m h e = subst (λ x. p x ≡ true) (sym (eqb-true m n e)) h

credited_apart : (p : ℕ → Bool) (n a : ℕ) → p n ≡ true → (J : History) → credited_by p J a ≡ credited_by (is_of n) J a + credited_by (without n p) J a
credited_apart p n a h [] = omega arith
credited_apart p n a h (l ∷ J) =
    let k : credited_by p J a ≡ credited_by (is_of n) J a + credited_by (without n p) J a = credited_apart p n a h J in
    let e = apart_at (p l.head.msg) (is_of n l.head.msg) (credits a l.moves) (same_message p n l.head.msg h) in
    omega arith

debited_apart : (p : ℕ → Bool) (n a : ℕ) → p n ≡ true → (J : History) → debited_by p J a ≡ debited_by (is_of n) J a + debited_by (without n p) J a
debited_apart p n a h [] = omega arith
debited_apart p n a h (l ∷ J) =
    let k : debited_by p J a ≡ debited_by (is_of n) J a + debited_by (without n p) J a = debited_apart p n a h J in
    let e = apart_at (p l.head.msg) (is_of n l.head.msg) (debits a l.moves) (same_message p n l.head.msg h) in
    omega arith

-- of any messages: what their lines took from a technical account of A, they brought
abbrev pub EachWithin : History → ℕ → Type 0
EachWithin J t = (p : ℕ → Bool) → debited_by p J t ≤ credited_by p J t

pub each_within_more : (day : Day) (t : ℕ) (l : Line) (J : History) → is_a_account day t ≡ true → IsLegal day J → MadeLine day J l → EachWithin J t →
    (sort_of day l.head.msg ≡ BatchA → technical_account day l.head.msg ≡ t → debited_by (is_of l.head.msg) (l ∷ J) t ≤ credited_by (is_of l.head.msg) (l ∷ J) t) → EachWithin (l ∷ J) t
each_within_more day t l J is_t legal m before own p = here (p l.head.msg) refl (is_a (sort_of day l.head.msg) && nat_eq (technical_account day l.head.msg) t) refl
  where
    unpicked : (b : Bool) (x : ℕ) → b ≡ false → (if b then x else 0) ≡ 0
    unpicked true x h = cc
    unpicked false x h = refl

    of_a : (s : Sort) (b : Bool) → (is_a s && b) ≡ true → (s ≡ BatchA) × (b ≡ true)
    of_a BatchA b h = (refl, h)
    of_a _ b h = cc

    itself : (p o : Bool) → o ≡ true → (p && not o) ≡ false
    itself true true h = refl
    itself false o h = refl
    itself true false h = cc

    nothing : (b : Bool) (x : ℕ) → x ≡ 0 → (if b then x else 0) ≡ 0
    nothing true x h = h
    nothing false x h = refl

    here : (b : Bool) → p l.head.msg ≡ b → (o : Bool) → (is_a (sort_of day l.head.msg) && nat_eq (technical_account day l.head.msg) t) ≡ o → debited_by p (l ∷ J) t ≤ credited_by p (l ∷ J) t
    here false e o eo =
        let h : debited_by p J t ≤ credited_by p J t = before p in
        let z : (if p l.head.msg then debits t l.moves else 0) ≡ 0 = unpicked (p l.head.msg) (debits t l.moves) e in
        omega arith
    here true e false eo =
        let h : debited_by p J t ≤ credited_by p J t = before p in
        let z : (if p l.head.msg then debits t l.moves else 0) ≡ 0 = nothing (p l.head.msg) (debits t l.moves) (none_debited day J l.head.msg t is_t l.head.kind l.head.entry l.head.code l.moves legal eo m) in
        omega arith
    here true e true eo =
        let o = of_a (sort_of day l.head.msg) (nat_eq (technical_account day l.head.msg) t) eo in
        let w : debited_by (is_of l.head.msg) (l ∷ J) t ≤ credited_by (is_of l.head.msg) (l ∷ J) t = own o.0 (eqb-true (technical_account day l.head.msg) t o.1) in
        let h : debited_by (without l.head.msg p) J t ≤ credited_by (without l.head.msg p) J t = before (without l.head.msg p) in
        let x : (p l.head.msg && not (is_of l.head.msg l.head.msg)) ≡ false = itself (p l.head.msg) (is_of l.head.msg l.head.msg) (eq-eqb l.head.msg l.head.msg refl) in
        let zd : (if without l.head.msg p l.head.msg then debits t l.moves else 0) ≡ 0 = unpicked (without l.head.msg p l.head.msg) (debits t l.moves) x in
        let zc : (if without l.head.msg p l.head.msg then credits t l.moves else 0) ≡ 0 = unpicked (without l.head.msg p l.head.msg) (credits t l.moves) x in
        let d : debited_by p (l ∷ J) t ≡ debited_by (is_of l.head.msg) (l ∷ J) t + debited_by (without l.head.msg p) (l ∷ J) t = debited_apart p l.head.msg t e (l ∷ J) in
        let c : credited_by p (l ∷ J) t ≡ credited_by (is_of l.head.msg) (l ∷ J) t + credited_by (without l.head.msg p) (l ∷ J) t = credited_apart p l.head.msg t e (l ∷ J) in
        omega arith

-- ---- the balance

pub all_credited : (J : History) (a : ℕ) → credited_by every J a ≡ credited J a
unfolding credited
all_credited [] a = refl
all_credited (l ∷ J) a = let k : credited_by every J a ≡ credited J a = all_credited J a in omega arith

pub all_debited : (J : History) (a : ℕ) → debited_by every J a ≡ debited J a
unfolding debited
all_debited [] a = refl
all_debited (l ∷ J) a = let k : debited_by every J a ≡ debited J a = all_debited J a in omega arith

-- the balance is at least what one batch brought, less what it took
pub holds_own : (day : Day) (J : History) (n t x : ℕ) → EachWithin J t → debited_by (is_of n) J t + x ≤ credited_by (is_of n) J t → x ≤ balance day J t
holds_own day J n t x h k =
    let a : credited J t ≡ credited_by (is_of n) J t + credited_by (without n every) J t = sym (all_credited J t) ∙ credited_apart every n t refl J in
    let b : debited J t ≡ debited_by (is_of n) J t + debited_by (without n every) J t = sym (all_debited J t) ∙ debited_apart every n t refl J in
    let c : debited_by (without n every) J t ≤ credited_by (without n every) J t = h (without n every) in
    enough (opening day t) (credited J t) (debited J t) (omega arith)
  where
    enough : (o c d : ℕ) → d + x ≤ c → x ≤ (o + c) - d
    enough o c d h = omega arith
