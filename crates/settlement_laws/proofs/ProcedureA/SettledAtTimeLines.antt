-- At each Time line an A batch whose debits are booked, or that the fund covers, is settled.
use Rattle.std.proofs.Common.{◌≡◌, ℕ, Bool, true, false, not, ◌&&◌, ◌||◌, List, [], ◌∷◌, Option, Some, None, refl, sym, ◌∙◌, ap, subst, cond, ◌⊎◌, inl, inr}
use Rattle.std.specs.Prelude.{is_some, is_none, nat_eq}
use Rattle.std.specs.List.{find}
use Rattle.std.proofs.lemmas.Bool.{false_from_ne_true, not-false, not-true, or_cases, or_from, or_right, and_parts}
use Rattle.batch_records.specs.DayRecord.{Day}
use Rattle.commit_journal.specs.declared.line.Kind.{Kind}
use Rattle.commit_journal.specs.declared.line.Kind.TheVariants as kinds
use Rattle.commit_journal.specs.Line.{Line, History}
use Rattle.machine.specs.declared.answers.Phase.{Phase}
use Rattle.machine.specs.declared.answers.Phase.TheVariants as phases
use Rattle.machine.specs.Records.Messages.{BatchA, sort_of, is_a, is_credit, credit_numbers, debit_numbers, entry_numbers}
use Rattle.machine.specs.Telling.History.{taken, covered, closed, is_time, is_book, is_cover, is_expire_or_refuse, is_in_of, is_book_of, is_ask_of, is_cover_of, is_closing_of}
use Rattle.machine.specs.Telling.Facts.{revokes}
use Rattle.machine.specs.Stages.Phases.{phase, revoked_as, settled_as, is_open, is_covered, is_booked, is_answered, is_information}
use Rattle.machine.specs.Stages.Pending.{item, is_pending, pending_as, first_unbooked_debit}
use Rattle.settlement_laws.proofs.Base.PhaseLaws.{open_unsettled, open_uncovered, answered_going, covered_there}
use Rattle.settlement_laws.proofs.Base.Lists.{IsIn, never, one_fails, from_filter, find_all}
use Rattle.settlement_laws.proofs.Base.LinesOf.{placed_more, stays, accepted_stays}
use Rattle.settlement_laws.proofs.ProcedureA.PhasesOfA.{is_late, late_not_open, late_facts, live_going, cover_answered}
use Rattle.settlement_laws.proofs.ProcedureA.WantsOfA.{MadeLine, cover_of_line, ask_of_line, closing_of_line}
use Rattle.settlement_laws.proofs.ProcedureA.BookedCredits.{has_debits, is_firm, NoCreditPending, open_stays, settled_stays, book_live, left_over}
use Rattle.settlement_laws.proofs.Base.OneBatchOfAName.{revoked_in_time}
use Rattle.settlement_laws.proofs.ProcedureA.PhasesInForce.{InForce, covered_phase, going_in_force, information_facts, settled_phase}
use Rattle.settlement_laws.proofs.Base.Counting.{some_from, not_none}

-- ---- fed: the debits are booked, or the fund covers

-- settled, covered or open
abbrev IsFine : Day → History → ℕ → Type 0
IsFine day J n = (settled_as BatchA day J n ≡ true) ⊎ ((is_some (covered J n) ≡ true) ⊎ (is_open (phase day J n) ≡ true))

pub record Fed (day : Day) (J : History) (n : ℕ) : Type 0 where
  pub in_force : InForce day J n
  pub is_fine : IsFine day J n

found_in : (test : ℕ → Bool) (xs : List ℕ) (x : ℕ) → find test xs ≡ Some x → IsIn x xs × (test x ≡ true)
found_in test [] x e = cc
found_in test (y ∷ ys) x e = here (test y) refl e (found_in test ys x)
  where
    one : (a b : ℕ) → Some a ≡ Some b → a ≡ b
    one a b e = cc

    here : (b : Bool) → test y ≡ b → cond b (Some y) (find test ys) ≡ Some x → (find test ys ≡ Some x → IsIn x ys × (test x ≡ true)) → IsIn x (y ∷ ys) × (test x ≡ true)
    here true t e k = (inl (one y x e), subst (λ z. test z ≡ true) (one y x e) t)
    here false t e k = let r = k e in (inr r.0, r.1)

-- an not-true credit of a covered batch is pending
pub covered_pending : (day : Day) (J : History) (n k : ℕ) → sort_of day n ≡ BatchA → phase day J n ≡ phases.Covered → is_credit day n k ≡ true → is_booked J n k ≡ false → is_pending day J (item n k) ≡ true
unfolding is_pending
covered_pending day J n k q p c b = subst (λ s. pending_as s day J n k (phase day J n) ≡ true) (sym q) (subst (λ p. pending_as BatchA day J n k p ≡ true) (sym p) (both (is_credit day n k) (not (is_booked J n k)) c (ap not b)))
  where
    both : (c b : Bool) → c ≡ true → b ≡ true → (true && c && b) ≡ true
    both true true h k = refl
    both true false h k = cc
    both false b h k = cc

module _ (day : Day) (n : ℕ) (q : sort_of day n ≡ BatchA) where
  fine_not_late : (J : History) → IsFine day J n → is_late (phase day J n) ≡ true → ⊥
  fine_not_late J (inl s) h = never (settled_as BatchA day J n) s (late_facts day J n q h).settled_no
  fine_not_late J (inr (inl v)) h = never (is_some (covered J n)) v (late_facts day J n q h).covered_no
  fine_not_late J (inr (inr o)) h = never (is_open (phase day J n)) o (late_not_open (phase day J n) h)

  fine_not_informed : (J : History) → IsFine day J n → is_information (phase day J n) ≡ true → ⊥
  fine_not_informed J (inl s) h = never (settled_as BatchA day J n) s (information_facts day J n q h).0
  fine_not_informed J (inr (inl v)) h = never (is_some (covered J n)) v (information_facts day J n q h).1
  fine_not_informed J (inr (inr o)) h = never (is_open (phase day J n)) o (closed_to (phase day J n) h)
    where
      closed_to : (p : Phase) → is_information p ≡ true → is_open p ≡ false
      closed_to phases.Open h = sym h
      closed_to _ h = refl

  -- it stays in force, unless a line closes or revokes it
  force_stays : (l : Line) (J : History) → MadeLine day J l → InForce day J n → (is_late (phase day J n) ≡ true → ⊥) ⊎ (is_closing_of n l ≡ false) → (is_information (phase day J n) ≡ true → ⊥) → InForce day (l ∷ J) n
  force_stays l J m f late informed = record {
    taken_yes = not_none (taken (l ∷ J) n) (stays (is_in_of n) l J (some_from (taken J n) f.taken_yes));
    accepted_yes = accepted_stays l J n f.accepted_yes;
    closed_no = placed_more (is_closing_of n) l J ∙ or_from _ _ f.closed_no (elim late [ inl h ↦ false_from_ne_true (is_closing_of n l) (λ z. h (closing_of_line day J l n m z)) | inr z ↦ z ]);
    revoked_no = placed_more (revokes day n 0) l J ∙ or_from _ _ f.revoked_no (false_from_ne_true (revokes day n 0 l) (λ r. informed (revoked_in_time day J l n m r)));
  }

  -- with no credit pending, an open batch that has its debits has settled
  open_settles : (J : History) → (has_debits day J n ≡ true) ⊎ (is_some (covered J n) ≡ true) → NoCreditPending day J n → is_open (phase day J n) ≡ true → ⊥
  open_settles J (inl u) none o = left_over day n q J none o u (one_fails (is_booked J n) (credit_numbers day n) (subst (λ s. settled_as s day J n ≡ false) q (open_unsettled day J n o)))
  open_settles J (inr v) none o = never (is_a BatchA && is_some (covered J n)) v (subst (λ s. (is_a s && is_some (covered J n)) ≡ false) q (open_uncovered day J n o))

  firm_fine : (J : History) → InForce day J n → is_firm day J n ≡ true → IsFine day J n
  firm_fine J f h = elim (or_cases (is_some (closed J n)) _ h) [
    | inl z ↦ never (is_some (closed J n)) z f.closed_no
    | inr x ↦ elim (or_cases (revoked_as BatchA day J n) _ x) [
      | inl r ↦ never (revoked_as BatchA day J n) r f.revoked_no
      | inr y ↦ elim (or_cases (settled_as BatchA day J n) (is_some (covered J n)) y) [ inl s ↦ inl s | inr v ↦ inr (inl v) ]
    ]
  ]

  open_next : (l : Line) (J : History) → MadeLine day J l → is_time l.head.kind ≡ false → InForce day (l ∷ J) n → is_open (phase day J n) ≡ true → IsFine day (l ∷ J) n
  open_next l J m t f o = elim (open_stays day n q l J t (false_from_ne_true (is_ask_of n l) (λ a. never (is_open (phase day J n)) o (late_not_open (phase day J n) (ask_of_line day J l n m a)))) o) [
    | inl firm ↦ firm_fine (l ∷ J) f firm
    | inr p ↦ inr (inr p)
  ]

  fine_stays : (l : Line) (J : History) → MadeLine day J l → (is_time l.head.kind ≡ true → NoCreditPending day J n) → (has_debits day J n ≡ true) ⊎ (is_some (covered J n) ≡ true) → InForce day (l ∷ J) n → IsFine day J n → IsFine day (l ∷ J) n
  fine_stays l J m none u f (inl s) = inl (settled_stays day n q l J s)
  fine_stays l J m none u f (inr (inl v)) = inr (inl (stays (is_cover_of n) l J v))
  fine_stays l J m none u f (inr (inr o)) = here (is_time l.head.kind) refl
    where
      here : (t : Bool) → is_time l.head.kind ≡ t → IsFine day (l ∷ J) n
      here true t = absurd (open_settles J u (none t) o)
      here false t = open_next l J m t f o

  fed_stays : (l : Line) (J : History) → MadeLine day J l → (is_time l.head.kind ≡ true → NoCreditPending day J n) → (has_debits day J n ≡ true) ⊎ (is_some (covered J n) ≡ true) → Fed day J n → Fed day (l ∷ J) n
  fed_stays l J m none u f =
      let g : InForce day (l ∷ J) n = force_stays l J m f.in_force (inl (fine_not_late J f.is_fine)) (fine_not_informed J f.is_fine) in
      record { in_force = g; is_fine = fine_stays l J m none u g f.is_fine }

  -- the last debit is booked
  fed_by_book : (l : Line) (J : History) (k : ℕ) → MadeLine day J l → is_book_of n k l ≡ true → Fed day (l ∷ J) n
  fed_by_book l J k m b =
      let live = book_live day n q l J k m b in
      let g : InForce day (l ∷ J) n = force_stays l J m (going_in_force day J n q (live_going (phase day J n) live)) (inl (λ h. not_late (phase day J n) live h)) (not_informed (phase day J n) live) in
      record {
        in_force = g;
        is_fine = elim (or_cases (is_open (phase day J n)) (is_covered (phase day J n)) live) [
          | inl o ↦ open_next l J m (book_not_time l.head.kind (and_parts (is_book l.head.kind) (nat_eq l.head.msg n) (and_parts _ (nat_eq l.head.entry k) b).0).0) g o
          | inr v ↦ inr (inl (stays (is_cover_of n) l J (covered_there day J n v)))
        ];
      }
    where
      not_late : (p : Phase) → (is_open p || is_covered p) ≡ true → is_late p ≡ true → ⊥
      not_late phases.Open h k = never false k refl
      not_late phases.Covered h k = never false k refl
      not_late _ h k = never false h refl

      not_informed : (p : Phase) → (is_open p || is_covered p) ≡ true → is_information p ≡ true → ⊥
      not_informed phases.Open h k = never false k refl
      not_informed phases.Covered h k = never false k refl
      not_informed _ h k = never false h refl

      book_not_time : (kind : Kind) → is_book kind ≡ true → is_time kind ≡ false
      book_not_time kinds.Time h = sym h
      book_not_time _ h = refl

  fed_by_cover : (l : Line) (J : History) → MadeLine day J l → is_cover_of n l ≡ true → Fed day (l ∷ J) n
  fed_by_cover l J m v =
      let a : is_answered (phase day J n) ≡ true = cover_answered day J n (cover_of_line day J l n m v) in
      let g : InForce day (l ∷ J) n = force_stays l J m (going_in_force day J n q (answered_going (phase day J n) a)) (inr (not_closing l.head.kind (and_parts _ (nat_eq l.head.msg n) v).0)) (not_informed (phase day J n) a) in
      record { in_force = g; is_fine = inr (inl (placed_more (is_cover_of n) l J ∙ or_right (is_some (covered J n)) (is_cover_of n l) v)) }
    where
      not_closing : (kind : Kind) → is_cover kind ≡ true → (is_expire_or_refuse kind && nat_eq l.head.msg n) ≡ false
      not_closing kinds.Cover h = refl
      not_closing _ h = never false h refl

      not_informed : (p : Phase) → is_answered p ≡ true → is_information p ≡ true → ⊥
      not_informed phases.Answered h k = never false k refl
      not_informed _ h k = never false h refl

  -- a debit that wasn't booked before is booked now
  newly_booked : (l : Line) (J : History) → has_debits day J n ≡ false → has_debits day (l ∷ J) n ≡ true → (k : ℕ) × (is_book_of n k l ≡ true)
  newly_booked l J old now = here (some_number (first_unbooked_debit day J n) old)
    where
      some_number : (o : Option ℕ) → is_none o ≡ false → (k : ℕ) × (o ≡ Some k)
      some_number None h = never false (sym h) refl
      some_number (Some k) h = (k, refl)

      second : (a b : Bool) → a ≡ false → (a || b) ≡ true → b ≡ true
      second true b h k = cc
      second false b h k = k

      here : (k : ℕ) × (first_unbooked_debit day J n ≡ Some k) → (k : ℕ) × (is_book_of n k l ≡ true)
      here k =
          let i = found_in (λ k. not (is_booked J n k)) (debit_numbers day n) k.0 k.1 in
          let b : is_booked (l ∷ J) n k.0 ≡ true = not-false (is_booked (l ∷ J) n k.0) (find_all (λ k. not (is_booked (l ∷ J) n k)) (debit_numbers day n) now k.0 i.0) in
          (k.0, second (is_booked J n k.0) (is_book_of n k.0 l) (not-true (is_booked J n k.0) i.1) (sym (placed_more (is_book_of n k.0) l J) ∙ b))

  pub fed_more : (l : Line) (J : History) → MadeLine day J l → (is_time l.head.kind ≡ true → NoCreditPending day J n) →
      ((has_debits day J n ≡ true) ⊎ (is_some (covered J n) ≡ true) → Fed day J n) → (has_debits day (l ∷ J) n ≡ true) ⊎ (is_some (covered (l ∷ J) n) ≡ true) → Fed day (l ∷ J) n
  fed_more l J m none before (inl u) = here (has_debits day J n) refl
    where
      here : (b : Bool) → has_debits day J n ≡ b → Fed day (l ∷ J) n
      here true e = fed_stays l J m none (inl e) (before (inl e))
      here false e = let k = newly_booked l J e u in fed_by_book l J k.0 m k.1
  fed_more l J m none before (inr v) = elim (or_cases (is_some (covered J n)) (is_cover_of n l) (sym (placed_more (is_cover_of n) l J) ∙ v)) [
    | inl e ↦ fed_stays l J m none (inr e) (before (inr e))
    | inr e ↦ fed_by_cover l J m e
  ]

  -- with no credit pending, a fed batch is settled
  pub fed_settled : (J : History) → (has_debits day J n ≡ true) ⊎ (is_some (covered J n) ≡ true) → NoCreditPending day J n → Fed day J n → phase day J n ≡ phases.Settled
  fed_settled J u none f = here (settled_as BatchA day J n) refl
    where
      here : (b : Bool) → settled_as BatchA day J n ≡ b → phase day J n ≡ phases.Settled
      here true e = settled_phase day J n q f.in_force e
      here false e = absurd (elim f.is_fine [
        | inl s ↦ never (settled_as BatchA day J n) s e
        | inr (inl v) ↦ covered_left (covered_phase day J n q f.in_force e v) (one_fails (is_booked J n) (credit_numbers day n) e)
        | inr (inr o) ↦ open_settles J u none o
      ])
        where
          covered_left : phase day J n ≡ phases.Covered → (x : ℕ) × IsIn x (credit_numbers day n) × (is_booked J n x ≡ false) → ⊥
          covered_left p x = none x.0 (from_filter (is_credit day n) (entry_numbers day n) x.0 x.1).1 (covered_pending day J n x.0 q p (from_filter (is_credit day n) (entry_numbers day n) x.0 x.1).1 x.2)
