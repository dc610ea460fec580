-- What the phase of an A batch tells, and what lines want of it.
use Rattle.std.proofs.Common.{◌≡◌, ℕ, zero, suc, Bool, true, false, not, ◌&&◌, ◌||◌, [], ◌∷◌, Some, refl, sym, subst, arith}
use Rattle.std.specs.Prelude.{is_some, is_none, nat_lt}
use Rattle.std.proofs.lemmas.Grind.{common_steps}
use Rattle.std.proofs.lemmas.Bool.{not-true, and_parts}
use Rattle.batch_records.specs.DayRecord.{Day}
use Rattle.commit_journal.specs.declared.line.Code.{Code}
use Rattle.commit_journal.specs.Line.{History}
use Rattle.machine.specs.declared.answers.Phase.{Phase}
use Rattle.machine.specs.declared.answers.Phase.TheVariants as phases
use Rattle.machine.specs.Words.{some_passes, when, first_some}
use Rattle.machine.specs.Records.Messages.{BatchA, sort_of, is_a, is_a_or_b, is_debit, is_credit, earliest, info_end}
use Rattle.machine.specs.Telling.History.{taken, is_accepted, asked, covered, closed, clock}
use Rattle.machine.specs.Telling.Facts.{answered}
use Rattle.machine.specs.Stages.Phases.{phase, is_no_order, revoked_as, settled_as, open_as, is_open, is_covered, is_overdue, is_answered, is_asking, is_booked}
use Rattle.machine.specs.Stages.Pending.{item, is_pending, pending_as, first_unbooked_debit}
use Rattle.machine.specs.Making.Lines.{may_ask, may_expire, may_cover, may_lapse, refusal, fund_suffices}
use Rattle.settlement_laws.proofs.Base.PhaseLaws.{table, is_going}
use Rattle.settlement_laws.proofs.Balances.MovesOfTheDay.{no_entry_zero}

-- ---- late phases

abbrev pub is_late : Phase → Bool
is_late phases.Overdue = true
is_late phases.Answered = true
is_late phases.Asking = true
is_late _ = false

pub late_going : (p : Phase) → is_late p ≡ true → is_going p ≡ true
late_going phases.Overdue h = refl
late_going phases.Answered h = refl
late_going phases.Asking h = refl
late_going _ h = cc

pub late_not_open : (p : Phase) → is_late p ≡ true → is_open p ≡ false
late_not_open phases.Open h = sym h
late_not_open _ h = refl

overdue_late : (p : Phase) → is_overdue p ≡ true → is_late p ≡ true
overdue_late phases.Overdue h = refl
overdue_late _ h = cc

pub late_table : (a b c d e f g h i j w k : Bool) → is_late (table a b c d e f g h i j w k) ≡ true → (d ≡ false) × (e ≡ false) × (f ≡ false) × (g ≡ false)
late_table false false false false false false false h i j w k p = (refl, refl, refl, refl)
late_table true b c d e f g h i j w k p = cc
late_table false true c d e f g h i j w k p = cc
late_table false false true d e f g h i j w k p = cc
late_table false false false true e f g h i j w k p = cc
late_table false false false false true f g h i j w k p = cc
late_table false false false false false true g h i j w k p = cc
late_table false false false false false false true h i j w k p = cc

-- a late A batch isn't closed, revoked, settled or covered
pub record LateFacts (day : Day) (J : History) (n : ℕ) : Type 0 where
  pub closed_no : is_some (closed J n) ≡ false
  pub revoked_no : revoked_as BatchA day J n ≡ false
  pub settled_no : settled_as BatchA day J n ≡ false
  pub covered_no : is_some (covered J n) ≡ false

pub late_facts : (day : Day) (J : History) (n : ℕ) → sort_of day n ≡ BatchA → is_late (phase day J n) ≡ true → LateFacts day J n
unfolding phase
late_facts day J n q h =
    let t : (is_some (closed J n) ≡ false) × (revoked_as (sort_of day n) day J n ≡ false) × (settled_as (sort_of day n) day J n ≡ false) × ((is_a (sort_of day n) && is_some (covered J n)) ≡ false) =
    late_table (is_none (taken J n)) (not (is_accepted J n)) (is_no_order (sort_of day n)) (is_some (closed J n)) (revoked_as (sort_of day n) day J n) (settled_as (sort_of day n) day J n) (is_a (sort_of day n) && is_some (covered J n)) (is_some (asked J n) && is_some (answered day J n)) (is_some (asked J n)) (some_passes (nat_lt (clock J)) (info_end day n)) (some_passes (nat_lt (clock J)) (earliest day n)) (open_as (sort_of day n) day J n) h in
    record {
      closed_no = t.0;
      revoked_no = subst (λ s. revoked_as s day J n ≡ false) q t.1;
      settled_no = subst (λ s. settled_as s day J n ≡ false) q t.2;
      covered_no = subst (λ s. (is_a s && is_some (covered J n)) ≡ false) q t.3;
    }

-- ---- what lines want

refusal_late : (s : Bool) (p : Phase) (a f m : Bool) (gn gs ge code : Code) →
    first_some (when (s && is_answered p && not a) gn ∷ when ((s && is_answered p && a) && not f) gs ∷ when (s && is_asking p && m) ge ∷ []) ≡ Some code → is_late p ≡ true
refusal_late true phases.Answered a f m gn gs ge code h = refl
refusal_late true phases.Asking a f m gn gs ge code h = refl
refusal_late true _ a f m gn gs ge code h = cc
refusal_late false p a f m gn gs ge code h = cc

pub expire_late : (day : Day) (J : History) (n : ℕ) → may_expire day J n ≡ true → is_late (phase day J n) ≡ true
expire_late day J n h = overdue_late (phase day J n) (and_parts (may_lapse (sort_of day n)) (is_overdue (phase day J n)) (and_parts _ _ h).0).1

pub refuse_late : (day : Day) (J : History) (n : ℕ) (code : Code) → refusal day J n ≡ Some code → is_late (phase day J n) ≡ true
refuse_late day J n code h = refusal_late (is_a_or_b (sort_of day n)) (phase day J n) _ (fund_suffices day J n) _ _ _ _ code h

pub ask_late : (day : Day) (J : History) (n : ℕ) → may_ask day J n ≡ true → is_late (phase day J n) ≡ true
ask_late day J n h = overdue_late (phase day J n) (and_parts (is_a_or_b (sort_of day n)) (is_overdue (phase day J n)) (and_parts _ _ (and_parts _ (nat_lt (clock J) 86400) h).0).0).1

pub cover_answered : (day : Day) (J : History) (n : ℕ) → may_cover day J n ≡ true → is_answered (phase day J n) ≡ true
cover_answered day J n h = (and_parts (is_a_or_b (sort_of day n)) (is_answered (phase day J n)) (and_parts _ _ (and_parts _ _ h).0).0).1

-- o: open, v: covered, b: not booked, d: a debit, r: a credit, u: no debit is unbooked
a_unbooked : (o v b d r u : Bool) → (o && (b && (d || r && u)) || v && r && b) ≡ true → b ≡ true
a_unbooked o v b d r u h = grind (arith, common_steps)

a_open_or_covered : (o v b d r u : Bool) → (o && (b && (d || r && u)) || v && r && b) ≡ true → (o || v) ≡ true
a_open_or_covered o v b d r u h = grind (arith, common_steps)

-- a pending entry of an A batch
pub record PendingOfA (day : Day) (J : History) (n k : ℕ) : Type 0 where
  pub is_unbooked : is_booked J n k ≡ false
  pub open_or_covered : (is_open (phase day J n) || is_covered (phase day J n)) ≡ true
  pub index : ℕ
  pub number : k ≡ suc index

pub pending_of_a : (day : Day) (J : History) (n k : ℕ) → sort_of day n ≡ BatchA → is_pending day J (item n k) ≡ true → PendingOfA day J n k
unfolding is_pending
pending_of_a day J n k q h = here k (subst (λ s. pending_as s day J n k (phase day J n) ≡ true) q h)
  where
    here : (k : ℕ) → pending_as BatchA day J n k (phase day J n) ≡ true → PendingOfA day J n k
    here zero h = absurd (no_entry_zero (is_open (phase day J n)) (is_covered (phase day J n)) (not (is_booked J n 0)) (is_none (first_unbooked_debit day J n)) h)
    here (suc i) h = record {
      is_unbooked = not-true (is_booked J n (suc i)) (a_unbooked (is_open (phase day J n)) (is_covered (phase day J n)) (not (is_booked J n (suc i))) (is_debit day n (suc i)) (is_credit day n (suc i)) (is_none (first_unbooked_debit day J n)) h);
      open_or_covered = a_open_or_covered (is_open (phase day J n)) (is_covered (phase day J n)) (not (is_booked J n (suc i))) (is_debit day n (suc i)) (is_credit day n (suc i)) (is_none (first_unbooked_debit day J n)) h;
      index = i;
      number = refl;
    }

-- ---- a phase that goes on

pub going_table : (a b c d e f g h i j w k : Bool) → is_going (table a b c d e f g h i j w k) ≡ true → (d ≡ false) × (e ≡ false) × (f ≡ false)
going_table false false false false false false g h i j w k p = (refl, refl, refl)
going_table true b c d e f g h i j w k p = cc
going_table false true c d e f g h i j w k p = cc
going_table false false true d e f g h i j w k p = cc
going_table false false false true e f g h i j w k p = cc
going_table false false false false true f g h i j w k p = cc
going_table false false false false false true g h i j w k p = cc

-- a message that goes on isn't closed, revoked or settled
pub going_facts : (day : Day) (J : History) (n : ℕ) → sort_of day n ≡ BatchA → is_going (phase day J n) ≡ true → (is_some (closed J n) ≡ false) × (revoked_as BatchA day J n ≡ false) × (settled_as BatchA day J n ≡ false)
unfolding phase
going_facts day J n q h =
    let t : (is_some (closed J n) ≡ false) × (revoked_as (sort_of day n) day J n ≡ false) × (settled_as (sort_of day n) day J n ≡ false) =
    going_table (is_none (taken J n)) (not (is_accepted J n)) (is_no_order (sort_of day n)) (is_some (closed J n)) (revoked_as (sort_of day n) day J n) (settled_as (sort_of day n) day J n) (is_a (sort_of day n) && is_some (covered J n)) (is_some (asked J n) && is_some (answered day J n)) (is_some (asked J n)) (some_passes (nat_lt (clock J)) (info_end day n)) (some_passes (nat_lt (clock J)) (earliest day n)) (open_as (sort_of day n) day J n) h in
    (t.0, subst (λ s. revoked_as s day J n ≡ false) q t.1, subst (λ s. settled_as s day J n ≡ false) q t.2)

pub live_going : (p : Phase) → (is_open p || is_covered p) ≡ true → is_going p ≡ true
live_going phases.Open h = refl
live_going phases.Covered h = refl
live_going _ h = cc

pub live_not_late : (p : Phase) → (is_open p || is_covered p) ≡ true → is_late p ≡ false
live_not_late phases.Open h = refl
live_not_late phases.Covered h = refl
live_not_late _ h = cc

open_when : (a b c d e f g h i j w k : Bool) → a ≡ false → b ≡ false → c ≡ false → d ≡ false → e ≡ false → f ≡ false → g ≡ false → h ≡ false → i ≡ false → j ≡ false → w ≡ false → k ≡ true → is_open (table a b c d e f g h i j w k) ≡ true
open_when false false false false false false false false false false true k ea eb ec ed ee ef eg eh ei ej ew ek = cc
open_when false false false false false false false false false false false true ea eb ec ed ee ef eg eh ei ej ew ek = refl
open_when true b c d e f g h i j w k ea eb ec ed ee ef eg eh ei ej ew ek = cc
open_when false true c d e f g h i j w k ea eb ec ed ee ef eg eh ei ej ew ek = cc
open_when false false true d e f g h i j w k ea eb ec ed ee ef eg eh ei ej ew ek = cc
open_when false false false true e f g h i j w k ea eb ec ed ee ef eg eh ei ej ew ek = cc
open_when false false false false true f g h i j w k ea eb ec ed ee ef eg eh ei ej ew ek = cc
open_when false false false false false true g h i j w k ea eb ec ed ee ef eg eh ei ej ew ek = cc
open_when false false false false false false true h i j w k ea eb ec ed ee ef eg eh ei ej ew ek = cc
open_when false false false false false false false true i j w k ea eb ec ed ee ef eg eh ei ej ew ek = cc
open_when false false false false false false false false true j w k ea eb ec ed ee ef eg eh ei ej ew ek = cc
open_when false false false false false false false false false true w k ea eb ec ed ee ef eg eh ei ej ew ek = cc
open_when false false false false false false false false false false false false ea eb ec ed ee ef eg eh ei ej ew ek = cc

pub open_from : (day : Day) (J : History) (n : ℕ) → is_none (taken J n) ≡ false → not (is_accepted J n) ≡ false → is_no_order (sort_of day n) ≡ false → is_some (closed J n) ≡ false → revoked_as (sort_of day n) day J n ≡ false → settled_as (sort_of day n) day J n ≡ false →
    (is_a (sort_of day n) && is_some (covered J n)) ≡ false → (is_some (asked J n) && is_some (answered day J n)) ≡ false → is_some (asked J n) ≡ false → some_passes (nat_lt (clock J)) (info_end day n) ≡ false → some_passes (nat_lt (clock J)) (earliest day n) ≡ false → open_as (sort_of day n) day J n ≡ true → is_open (phase day J n) ≡ true
unfolding phase
open_from day J n a b c d e f g h i j w k = open_when (is_none (taken J n)) (not (is_accepted J n)) (is_no_order (sort_of day n)) (is_some (closed J n)) (revoked_as (sort_of day n) day J n) (settled_as (sort_of day n) day J n) (is_a (sort_of day n) && is_some (covered J n)) (is_some (asked J n) && is_some (answered day J n)) (is_some (asked J n)) (some_passes (nat_lt (clock J)) (info_end day n)) (some_passes (nat_lt (clock J)) (earliest day n)) (open_as (sort_of day n) day J n) a b c d e f g h i j w k
