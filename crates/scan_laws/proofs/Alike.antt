-- A message that a line doesn't concern: its items are pending as before, and stand where they stood.
use Rattle.std.proofs.Common.{◌≡◌, ◌∙◌, ℕ, ◌≤◌, Bool, true, false, not, ◌&&◌, ◌||◌, ◌∷◌, refl, sym, ap, subst, arith, max}
use Rattle.std.specs.Prelude.{is_some, is_none, nat_eq, nat_lt, if◌then◌else◌, unwrap_or, fold}
use Rattle.std.specs.List.{find}
use Rattle.std.proofs.lemmas.Bool.{or_parts}
use Rattle.batch_records.specs.DayRecord.{Day}
use Rattle.commit_journal.specs.Line.{Line, History}
use Rattle.machine.specs.declared.answers.Phase.{Phase}
use Rattle.machine.specs.Words.{some_passes}
use Rattle.machine.specs.Records.Messages.{Sort, BatchA, BatchC, BatchE, sort_of, is_a, is_a_or_b, is_debit, is_credit, entry_at, debit_numbers, info_end, earliest, settlement_start}
use Rattle.machine.specs.Telling.History.{is_time, is_accepted, clock}
use Rattle.machine.specs.Stages.Phases.{phase, is_open, is_covered}
use Rattle.machine.specs.Stages.Pending.{item, pending_as, is_pending, priority_as, active_place, standing, opened_at, first_unbooked_debit, last_debit_booked}
use Rattle.machine.specs.Legal.{IsLegal}
use Rattle.settlement_laws.proofs.Base.LinesOf.{clock_stays}
use Rattle.settlement_laws.proofs.Base.Lists.{never}
use Rattle.scan_laws.specs.Concerns.{SameFacts, concerns, is_about, is_due, ends_as}
use Rattle.scan_laws.specs.Unchanged.{IsUnchanged}
use Rattle.scan_laws.proofs.Kept.{facts_stay}
use Rattle.scan_laws.proofs.PhaseKept.{phase_by, phase_same, rejected_phase, accepted_cycle}
use Rattle.scan_laws.proofs.Passing.{facts_of_time, time_later, new_clock, open_at_time, midnight_at_time, info_at_time, opened_at_time, opened_else, is_within, info_by, passed_by, info_stop, early_stop, end_stop, start_low, start_by}

module _ (day : Day) (K J : History) (n : ℕ) (f : SameFacts day K J n) where
  unbooked_same : first_unbooked_debit day K n ≡ first_unbooked_debit day J n
  unbooked_same = λ i. find (λ k. not (is_some (f.same_booked k i))) (debit_numbers day n)

  last_same : last_debit_booked day K n ≡ last_debit_booked day J n
  last_same = λ i. fold (λ last k. max last (unwrap_or (f.same_booked k i) 0)) 0 (debit_numbers day n)

  pending_row : (s : Sort) (k : ℕ) (p : Phase) → pending_as s day K n k p ≡ pending_as s day J n k p
  pending_row BatchA k p = λ i.
      is_open p && (not (is_some (f.same_booked k i)) && (is_debit day n k || is_credit day n k && is_none (unbooked_same i)))
      || is_covered p && is_credit day n k && not (is_some (f.same_booked k i))
  pending_row BatchC k p = λ i. is_some (entry_at day n k) && is_open p && not (is_some (f.same_booked k i))
  pending_row BatchE k p = λ i. is_some (entry_at day n k) && is_open p && not (is_some (f.same_booked k i)) && not (is_some (f.same_revoked k i))
  pending_row _ k p = refl

  pending_same : phase day K n ≡ phase day J n → (k : ℕ) → is_pending day K (item n k) ≡ is_pending day J (item n k)
  unfolding is_pending
  pending_same h k = ap (pending_as (sort_of day n) day K n k) h ∙ pending_row (sort_of day n) k (phase day J n)

  active_same : opened_at day K n (settlement_start day n) ≡ opened_at day J n (settlement_start day n) → (k : ℕ) → active_place day K (item n k) ≡ active_place day J (item n k)
  active_same h k = λ i. if is_a (sort_of day n) && is_credit day n k then unwrap_or (f.same_covered i) (last_same i) else h i

  standing_same : opened_at day K n (settlement_start day n) ≡ opened_at day J n (settlement_start day n) → (k : ℕ) → standing day K (item n k) ≡ standing day J (item n k)
  standing_same h k = λ i. record {
    priority = priority_as (sort_of day n) day n;
    active = active_same h k i;
    intake = unwrap_or (f.same_taken i) 0;
    entry = k;
  }

  pub alike : phase day K n ≡ phase day J n → (is_accepted J n ≡ true → (is_a_or_b (sort_of day n) && nat_eq (clock K) 86400) ≡ (is_a_or_b (sort_of day n) && nat_eq (clock J) 86400)) →
      (is_accepted J n ≡ true → opened_at day K n (settlement_start day n) ≡ opened_at day J n (settlement_start day n)) → IsUnchanged day K J n
  alike p m o = record {
    same_facts = f;
    same_phase = p;
    same_midnight = m;
    same_unbooked = unbooked_same;
    same_last = last_same;
    same_opened = o;
    same_pending = pending_same p;
    same_standing = λ a. standing_same (o a);
  }

-- ---- lines other than Time

pub unchanged_else : (day : Day) (J : History) (l : Line) (n : ℕ) → is_time l.head.kind ≡ false → is_about day J l n ≡ false → IsUnchanged day (l ∷ J) J n
unchanged_else day J l n t h =
    let f = facts_stay day J l n h in
    let c : clock (l ∷ J) ≡ clock J = clock_stays l J t in
    alike day (l ∷ J) J n f (phase_same day (l ∷ J) J n f c) (λ _. ap (λ x. is_a_or_b (sort_of day n) && nat_eq x 86400) c) (λ _. opened_else day l J n t f.same_taken (settlement_start day n))

-- ---- Time lines

accepted_at_time : (day : Day) (J : History) (l : Line) (n : ℕ) → IsLegal day (l ∷ J) → is_time l.head.kind ≡ true → is_accepted J n ≡ true → is_due day l.head.entry n ≡ false → IsUnchanged day (l ∷ J) J n
accepted_at_time day J l n legal t a h =
    let f = facts_of_time day J l n t in
    let c : clock (l ∷ J) ≡ l.head.entry = new_clock l J t in
    let later = time_later day J l legal t in
    let p = or_parts (some_passes (nat_eq l.head.entry) (info_end day n) || some_passes (nat_eq l.head.entry) (earliest day n)) (ends_as (sort_of day n) day n (nat_eq l.head.entry)) h in
    let s = or_parts (some_passes (nat_eq l.head.entry) (info_end day n)) (some_passes (nat_eq l.head.entry) (earliest day n)) p.0 in
    let i = info_by (clock J) l.head.entry (info_end day n) (info_stop day J l n legal t a) s.0 in
    let w = info_by (clock J) l.head.entry (earliest day n) (early_stop day J l n legal t a) s.1 in
    let e = passed_by (clock J) l.head.entry later.1 (sort_of day n) day n (end_stop day J l n legal t a) p.1 in
    let after : clock J ≤ l.head.entry = omega (arith, later.0) in
    alike day (l ∷ J) J n f
    (phase_by day (l ∷ J) J n f
    (ap (λ x. some_passes (nat_lt x) (info_end day n)) c ∙ info_at_time (info_end day n) (clock J) l.head.entry after i)
    (ap (λ x. some_passes (nat_lt x) (earliest day n)) c ∙ info_at_time (earliest day n) (clock J) l.head.entry after w)
    (λ a. open_at_time (sort_of day n) day (l ∷ J) J n (subst (λ x. clock J ≤ x) (sym c) after) (accepted_cycle (sort_of day n) day (l ∷ J) J n a f.same_cycle) (subst (λ x. ends_as (sort_of day n) day n (is_within (clock J) x) ≡ false) (sym c) e)))
    (λ _. ap (λ x. is_a_or_b (sort_of day n) && nat_eq x 86400) c ∙ midnight_at_time (sort_of day n) day (clock J) l.head.entry n later.0 later.1 e)
    (λ _. opened_at_time day l J n f (settlement_start day n) (start_low day J l n legal t a) (start_by (earliest day n) (info_end day n) (is_within (clock J) l.head.entry) i w))

pub unchanged_at_time : (day : Day) (J : History) (l : Line) (n : ℕ) → IsLegal day (l ∷ J) → is_time l.head.kind ≡ true → (is_accepted J n && is_due day l.head.entry n) ≡ false → IsUnchanged day (l ∷ J) J n
unchanged_at_time day J l n legal t h = here (is_accepted J n) refl h
  where
    here : (b : Bool) → is_accepted J n ≡ b → (b && is_due day l.head.entry n) ≡ false → IsUnchanged day (l ∷ J) J n
    here true e h = accepted_at_time day J l n legal t e h
    here false e h =
        let f = facts_of_time day J l n t in
        alike day (l ∷ J) J n f (rejected_phase day (l ∷ J) J n f e) (λ a. never (is_accepted J n) a e) (λ a. never (is_accepted J n) a e)

-- ---- all lines

pub unconcerned : (day : Day) (J : History) (l : Line) (n : ℕ) → IsLegal day (l ∷ J) → concerns day J l n ≡ false → IsUnchanged day (l ∷ J) J n
unconcerned day J l n legal h = here (is_time l.head.kind) refl h
  where
    here : (b : Bool) → is_time l.head.kind ≡ b → (if b then is_accepted J n && is_due day l.head.entry n else is_about day J l n) ≡ false → IsUnchanged day (l ∷ J) J n
    here true e h = unchanged_at_time day J l n legal e h
    here false e h = unchanged_else day J l n e h

pub phase_at_time : (day : Day) (J : History) (l : Line) (n : ℕ) → IsLegal day (l ∷ J) → is_time l.head.kind ≡ true → (is_accepted J n && is_due day l.head.entry n) ≡ false → phase day (l ∷ J) n ≡ phase day J n
phase_at_time day J l n legal t h = (unchanged_at_time day J l n legal t h).same_phase
