-- No pending item is passed over.
use Rattle.std.proofs.Common.{◌≡◌, ◌∙◌, ℕ, Bool, true, false, not, ◌&&◌, ◌||◌, [], Option, Some, None, refl, sym, ap, subst, inl, inr}
use Rattle.std.specs.Prelude.{if◌then◌else◌, is_none, is_some, nat_eq}
use Rattle.std.proofs.lemmas.Bool.{and_parts, or_cases, or_from, not-true, both_ways, eqb-true}
use Rattle.batch_records.specs.DayRecord.{Day}
use Rattle.batch_records.specs.declared.day.Entry.{Entry}
use Rattle.commit_journal.specs.declared.line.Want.{Want}
use Rattle.commit_journal.specs.declared.line.Want.TheVariants as wants
use Rattle.commit_journal.specs.Line.{History}
use Rattle.machine.specs.declared.answers.Phase.{Phase}
use Rattle.machine.specs.declared.answers.Phase.TheVariants as phases
use Rattle.machine.specs.Words.{is_zero, only_if, some_passes}
use Rattle.machine.specs.Records.Messages.{Sort, Pay, BatchA, BatchB, BatchC, BatchD, BatchE, Missing, Liquidity, Object, Confirm, Cycle, entry_at, is_a, is_b, is_credit, is_debit, is_debit_entry, is_e, sort_of}
use Rattle.machine.specs.Telling.History.{covered, is_book_of, place_of}
use Rattle.machine.specs.Telling.Facts.{revoked}
use Rattle.machine.specs.Stages.Phases.{is_booked, is_covered, is_open, is_revoked_entry, phase}
use Rattle.machine.specs.Stages.Pending.{first_unbooked_debit, is_next_of_a, is_pending, item, pending_as}
use Rattle.machine.specs.Making.Lines.{made, may}
use Rattle.machine.specs.Legal.{IsLegal}
use Rattle.settlement_laws.proofs.Base.Induction.{legal_induction}
use Rattle.settlement_laws.proofs.Base.PhaseLaws.{open_uncovered, open_unsettled}
use Rattle.settlement_laws.proofs.Base.Places.{place-other}
use Rattle.settlement_laws.proofs.DayEnd.LineBound.{bookable}
use Rattle.day_reasons.specs.Waits.{is_done, is_unfinished, settling, settling_as}
use Rattle.day_reasons.specs.Laws.{PendingItemsWait}

-- ---- its message is told of with its items

open_waits : (p : Phase) → is_open p ≡ true → is_unfinished p ≡ true
open_waits phases.Open h = refl
open_waits _ h = cc

covered_waits : (p : Phase) → is_covered p ≡ true → is_unfinished p ≡ true
covered_waits phases.Covered h = refl
covered_waits _ h = cc

unfinished : (s : Sort) (day : Day) (J : History) (n k : ℕ) (p : Phase) → pending_as s day J n k p ≡ true → is_unfinished p ≡ true
unfinished Pay day J n k p h = open_waits p (and_parts (is_zero k) (is_open p) h).1
unfinished BatchA day J n k p h = elim (or_cases (is_open p && is_next_of_a day J n k) (is_covered p && is_credit day n k && not (is_booked J n k)) h) [
  | inl o ↦ open_waits p (and_parts _ _ o).0
  | inr c ↦ covered_waits p (and_parts _ _ (and_parts (is_covered p && is_credit day n k) _ c).0).0
]
unfinished BatchB day J n k p h = open_waits p (and_parts (is_zero k) (is_open p) h).1
unfinished BatchC day J n k p h = open_waits p (and_parts _ _ (and_parts _ _ h).0).1
unfinished BatchE day J n k p h = open_waits p (and_parts _ _ (and_parts _ _ (and_parts _ _ h).0).0).1
unfinished _ day J n k p h = cc

-- ---- it isn't booked: of a batch of B no line books an item

no_book : (day : Day) (n k : ℕ) → is_b (sort_of day n) ≡ true → (J : History) (w : Want) → may day J w ≡ true → is_book_of n k (made day J w) ≡ false
no_book day n k b J (wants.In m) h = refl
no_book day n k b J (wants.Book m i) h = go (nat_eq m n && nat_eq i k) refl
  where
    go : (x : Bool) → (nat_eq m n && nat_eq i k) ≡ x → (nat_eq m n && nat_eq i k) ≡ false
    go false e = e
    go true e =
        let other : is_b (sort_of day m) ≡ false = not-true _ (and_parts (is_pending day J (item m i)) _ (and_parts _ _ h).0).1 in
        absurd (both_ways (is_b (sort_of day m)) other (subst (λ x. is_b (sort_of day x) ≡ true) (sym (eqb-true m n (and_parts (nat_eq m n) (nat_eq i k) e).0)) b))
no_book day n k b J (wants.All m) h = refl
no_book day n k b J wants.Time h = refl
no_book day n k b J (wants.Expire m) h = refl
no_book day n k b J (wants.Ask m) h = refl
no_book day n k b J (wants.Cover m) h = refl
no_book day n k b J (wants.Refuse m) h = refl
no_book day n k b J (wants.Sweep a) h = refl
no_book day n k b J wants.End h = refl

none_booked : (n k : ℕ) → is_booked [] n k ≡ false
unfolding place_of
none_booked n k = refl

whole_unbooked : (day : Day) (n k : ℕ) → is_b (sort_of day n) ≡ true → (J : History) → IsLegal day J → is_booked J n k ≡ false
whole_unbooked day n k b = legal_induction day (λ J. is_booked J n k ≡ false) (none_booked n k)
    (λ J w legal before e m. ap is_some (place-other (is_book_of n k) (made day J w) J (no_book day n k b J w m)) ∙ before)

unbooked : (day : Day) (J : History) (n k : ℕ) → IsLegal day J → pending_as (sort_of day n) day J n k (phase day J n) ≡ true → is_booked J n k ≡ false
unbooked day J n k legal h = go (is_b (sort_of day n)) refl
  where
    go : (b : Bool) → is_b (sort_of day n) ≡ b → is_booked J n k ≡ false
    go true e = whole_unbooked day n k e J legal
    go false e = (bookable (sort_of day n) day J n k (phase day J n) (open_unsettled day J n) (ap not e) h).unbooked

-- ---- no objection revoked it, and the fund didn't pay it

kept : (s : Sort) (day : Day) (J : History) (n k : ℕ) (p : Phase) → pending_as s day J n k p ≡ true → is_some (only_if (is_e s) (revoked day J n k)) ≡ false
kept BatchE day J n k p h = not-true (is_revoked_entry day J n k) (and_parts _ _ h).1
kept Missing day J n k p h = refl
kept Pay day J n k p h = refl
kept BatchA day J n k p h = refl
kept BatchB day J n k p h = refl
kept BatchC day J n k p h = refl
kept BatchD day J n k p h = refl
kept Liquidity day J n k p h = refl
kept Object day J n k p h = refl
kept Confirm day J n k p h = refl
kept Cycle day J n k p h = refl

only_none : (b : Bool) (o : Option ℕ) → is_some o ≡ false → is_some (only_if b o) ≡ false
only_none true o h = h
only_none false o h = refl

-- a credit entry is no debit entry
credit_only : (day : Day) (n : ℕ) (e : Option Entry) → some_passes (λ x. not (is_debit_entry day n x)) e ≡ true → some_passes (is_debit_entry day n) e ≡ false
credit_only day n None h = refl
credit_only day n (Some e) h = not-true (is_debit_entry day n e) h

unpaid : (s : Sort) (day : Day) (J : History) (n k : ℕ) (p : Phase) → (is_open p ≡ true → (is_a s && is_some (covered J n)) ≡ false) → pending_as s day J n k p ≡ true →
    is_some (only_if (is_a s && is_debit day n k) (covered J n)) ≡ false
unpaid BatchA day J n k p fresh h = elim (or_cases (is_open p && is_next_of_a day J n k) (is_covered p && is_credit day n k && not (is_booked J n k)) h) [
  | inl o ↦ only_none (is_debit day n k) (covered J n) (fresh (and_parts _ _ o).0)
  | inr c ↦ ap (λ b. is_some (only_if b (covered J n))) (credit_only day n (entry_at day n k) (and_parts _ _ (and_parts (is_covered p && is_credit day n k) _ c).0).1)
]
unpaid Missing day J n k p fresh h = refl
unpaid Pay day J n k p fresh h = refl
unpaid BatchB day J n k p fresh h = refl
unpaid BatchC day J n k p fresh h = refl
unpaid BatchD day J n k p fresh h = refl
unpaid BatchE day J n k p fresh h = refl
unpaid Liquidity day J n k p fresh h = refl
unpaid Object day J n k p fresh h = refl
unpaid Confirm day J n k p fresh h = refl
unpaid Cycle day J n k p fresh h = refl

undone : (day : Day) (J : History) (n k : ℕ) → IsLegal day J → pending_as (sort_of day n) day J n k (phase day J n) ≡ true → is_done day J n k ≡ false
undone day J n k legal h =
    or_from _ _ (or_from _ _ (unbooked day J n k legal h) (kept (sort_of day n) day J n k (phase day J n) h))
    (unpaid (sort_of day n) day J n k (phase day J n) (open_uncovered day J n) h)

-- ---- so it has a want that would settle it

settled_by : (s : Sort) (day : Day) (J : History) (n k : ℕ) (p : Phase) → pending_as s day J n k p ≡ true → is_some (settling_as s n k) ≡ true
settled_by Pay day J n ℕ.zero p h = refl
settled_by Pay day J n (ℕ.suc k) p h = cc
settled_by BatchB day J n ℕ.zero p h = refl
settled_by BatchB day J n (ℕ.suc k) p h = cc
settled_by BatchA day J n ℕ.zero p h = absurd (no_entry (is_open p) (is_covered p) (not (is_booked J n 0)) (is_none (first_unbooked_debit day J n)) h)
  where
    no_entry : (o v b u : Bool) → (o && (b && (false || false && u)) || v && false && b) ≡ true → ⊥
    no_entry true true true u h = cc
    no_entry true true false u h = cc
    no_entry true false true u h = cc
    no_entry true false false u h = cc
    no_entry false true true u h = cc
    no_entry false true false u h = cc
    no_entry false false true u h = cc
    no_entry false false false u h = cc
settled_by BatchA day J n (ℕ.suc k) p h = refl
settled_by BatchC day J n ℕ.zero p h = cc
settled_by BatchC day J n (ℕ.suc k) p h = refl
settled_by BatchE day J n ℕ.zero p h = cc
settled_by BatchE day J n (ℕ.suc k) p h = refl
settled_by _ day J n k p h = cc

wanted : (done : Bool) (o : Option Want) → done ≡ false → is_some o ≡ true → is_some (if done then None else o) ≡ true
wanted false o e h = h
wanted true o e h = cc

pub pending_wait : PendingItemsWait
unfolding is_pending
pending_wait day J n k legal h = (
  unfinished (sort_of day n) day J n k (phase day J n) h,
  wanted (is_done day J n k) (settling day n k) (undone day J n k legal h) (settled_by (sort_of day n) day J n k (phase day J n) h),
)
