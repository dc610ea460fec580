-- A phase is a function of the facts of a message and of two comparisons with the clock.
use Rattle.std.proofs.Common.{◌≡◌, ◌∙◌, ℕ, Bool, true, false, not, ◌&&◌, ◌||◌, refl, sym, ap, cond}
use Rattle.std.specs.Prelude.{is_some, is_none, nat_lt}
use Rattle.std.specs.List.{list_all}
use Rattle.batch_records.specs.DayRecord.{Day}
use Rattle.commit_journal.specs.Line.{History}
use Rattle.machine.specs.declared.answers.Phase.{Phase}
use Rattle.machine.specs.declared.answers.Phase.TheVariants as phases
use Rattle.machine.specs.Words.{some_passes}
use Rattle.machine.specs.Records.Messages.{Sort, Pay, BatchA, BatchB, BatchC, BatchE, sort_of, is_a, is_c, info_end, earliest, settlement_end, entry_numbers, credit_numbers}
use Rattle.machine.specs.Telling.History.{is_ok, taken, is_accepted, clock}
use Rattle.machine.specs.Telling.Facts.{cycle_ended}
use Rattle.machine.specs.Stages.Phases.{phase, is_no_order, revoked_as, settled_as, open_as}
use Rattle.settlement_laws.proofs.Base.PhaseLaws.{table}
use Rattle.scan_laws.specs.Concerns.{SameFacts}

rejected : (a d b e : Bool) → a ≡ d → b ≡ true → e ≡ true → (p q : Phase) → cond a phases.Untaken (cond b phases.Rejected p) ≡ cond d phases.Untaken (cond e phases.Rejected q)
rejected true true b e h k g p q = refl
rejected false false true true h k g p q = refl
rejected true false b e h k g p q = cc
rejected false true b e h k g p q = cc
rejected false false false e h k g p q = cc
rejected false false true false h k g p q = cc

module _ (day : Day) (K J : History) (n : ℕ) (f : SameFacts day K J n) where
  revoked_row : (s : Sort) → revoked_as s day K n ≡ revoked_as s day J n
  revoked_row BatchA = ap is_some (f.same_revoked 0)
  revoked_row BatchB = ap is_some (f.same_revoked 0)
  revoked_row BatchE = λ i. list_all (λ k. is_some (f.same_revoked k i)) (entry_numbers day n)
  revoked_row _ = refl

  settled_row : (s : Sort) → settled_as s day K n ≡ settled_as s day J n
  settled_row Pay = ap is_some (f.same_booked 0)
  settled_row BatchA = λ i. list_all (λ k. is_some (f.same_booked k i)) (credit_numbers day n)
  settled_row BatchB = λ i. is_some (f.same_whole i) || is_some (f.same_covered i)
  settled_row BatchC = λ i. list_all (λ k. is_some (f.same_booked k i)) (entry_numbers day n)
  settled_row BatchE = λ i. list_all (λ k. is_some (f.same_booked k i) || is_some (f.same_revoked k i)) (entry_numbers day n)
  settled_row _ = refl

  phase_rows : some_passes (nat_lt (clock K)) (info_end day n) ≡ some_passes (nat_lt (clock J)) (info_end day n) → some_passes (nat_lt (clock K)) (earliest day n) ≡ some_passes (nat_lt (clock J)) (earliest day n) → open_as (sort_of day n) day K n ≡ open_as (sort_of day n) day J n → phase day K n ≡ phase day J n
  unfolding phase
  phase_rows g w o = λ i. table (is_none (f.same_taken i)) (not (some_passes is_ok (f.same_code i))) (is_no_order (sort_of day n)) (is_some (f.same_closed i))
      (revoked_row (sort_of day n) i) (settled_row (sort_of day n) i) (is_a (sort_of day n) && is_some (f.same_covered i))
      (is_some (f.same_asked i) && is_some (f.same_answered i)) (is_some (f.same_asked i)) (g i) (w i) (o i)

  -- of a message that isn't accepted nothing more is asked
  pub rejected_phase : is_accepted J n ≡ false → phase day K n ≡ phase day J n
  unfolding phase
  rejected_phase r = rejected (is_none (taken K n)) (is_none (taken J n)) (not (is_accepted K n)) (not (is_accepted J n)) (ap is_none f.same_taken) (ap not (ap (some_passes is_ok) f.same_code ∙ r)) (ap not r) _ _

  pub phase_by : some_passes (nat_lt (clock K)) (info_end day n) ≡ some_passes (nat_lt (clock J)) (info_end day n) → some_passes (nat_lt (clock K)) (earliest day n) ≡ some_passes (nat_lt (clock J)) (earliest day n) → (is_accepted J n ≡ true → open_as (sort_of day n) day K n ≡ open_as (sort_of day n) day J n) → phase day K n ≡ phase day J n
  phase_by g w o = here (is_accepted J n) refl
    where
      here : (b : Bool) → is_accepted J n ≡ b → phase day K n ≡ phase day J n
      here true e = phase_rows g w (o e)
      here false e = rejected_phase e

-- ---- with the clock as it was

pub accepted_cycle : (s : Sort) (day : Day) (K J : History) (n : ℕ) → is_accepted J n ≡ true → (is_c s && is_accepted J n && cycle_ended day n K) ≡ (is_c s && is_accepted J n && cycle_ended day n J) → (is_c s && cycle_ended day n K) ≡ (is_c s && cycle_ended day n J)
accepted_cycle s day K J n a h = sym (with_it (is_c s) (is_accepted J n) (cycle_ended day n K) a) ∙ h ∙ with_it (is_c s) (is_accepted J n) (cycle_ended day n J) a
  where
    with_it : (c a x : Bool) → a ≡ true → (c && a && x) ≡ (c && x)
    with_it false a x h = refl
    with_it true true x h = refl
    with_it true false x h = cc

pub open_row : (s : Sort) (day : Day) (K J : History) (n : ℕ) → clock K ≡ clock J → (is_c s && cycle_ended day n K) ≡ (is_c s && cycle_ended day n J) → open_as s day K n ≡ open_as s day J n
open_row BatchA day K J n c e = ap (λ t. nat_lt t (settlement_end day n)) c
open_row BatchB day K J n c e = ap (λ t. nat_lt t (settlement_end day n)) c
open_row BatchE day K J n c e = ap (λ t. nat_lt t (settlement_end day n)) c
open_row BatchC day K J n c e = λ i. nat_lt (c i) 86400 && not (e i)
open_row Pay day K J n c e = ap (λ t. nat_lt t 86400) c
open_row _ day K J n c e = refl

pub phase_same : (day : Day) (K J : History) (n : ℕ) → SameFacts day K J n → clock K ≡ clock J → phase day K n ≡ phase day J n
phase_same day K J n f c = phase_by day K J n f (ap (λ t. some_passes (nat_lt t) (info_end day n)) c) (ap (λ t. some_passes (nat_lt t) (earliest day n)) c) (λ a. open_row (sort_of day n) day K J n c (accepted_cycle (sort_of day n) day K J n a f.same_cycle))
