-- The phase of an A batch that is neither closed nor revoked.
use Rattle.std.proofs.Common.{◌≡◌, ℕ, Bool, true, false, not, ◌&&◌, refl, sym, ap, subst, cond}
use Rattle.std.specs.Prelude.{is_some, is_none, nat_lt}
use Rattle.batch_records.specs.DayRecord.{Day}
use Rattle.commit_journal.specs.Line.{History}
use Rattle.machine.specs.declared.answers.Phase.TheVariants as phases
use Rattle.machine.specs.Words.{some_passes}
use Rattle.machine.specs.Records.Messages.{BatchA, sort_of, is_a, earliest, info_end}
use Rattle.machine.specs.Telling.History.{taken, is_accepted, asked, covered, closed, clock}
use Rattle.machine.specs.Telling.Facts.{answered}
use Rattle.machine.specs.Stages.Phases.{phase, is_no_order, revoked_as, settled_as, open_as, is_information}
use Rattle.settlement_laws.proofs.Base.PhaseLaws.{table, is_going, going_accepted}
use Rattle.settlement_laws.proofs.ProcedureA.PhasesOfA.{going_facts}

-- ---- phases

in_force_table : (a b c d e f g h i j w k : Bool) → a ≡ false → b ≡ false → c ≡ false → d ≡ false → e ≡ false → f ≡ true → table a b c d e f g h i j w k ≡ phases.Settled
in_force_table false false false false false true g h i j w k ea eb ec ed ee ef = refl
in_force_table true b c d e f g h i j w k ea eb ec ed ee ef = cc
in_force_table false true c d e f g h i j w k ea eb ec ed ee ef = cc
in_force_table false false true d e f g h i j w k ea eb ec ed ee ef = cc
in_force_table false false false true e f g h i j w k ea eb ec ed ee ef = cc
in_force_table false false false false true f g h i j w k ea eb ec ed ee ef = cc
in_force_table false false false false false false g h i j w k ea eb ec ed ee ef = cc

covered_table : (a b c d e f g h i j w k : Bool) → a ≡ false → b ≡ false → c ≡ false → d ≡ false → e ≡ false → f ≡ false → g ≡ true → table a b c d e f g h i j w k ≡ phases.Covered
covered_table false false false false false false true h i j w k ea eb ec ed ee ef eg = refl
covered_table true b c d e f g h i j w k ea eb ec ed ee ef eg = cc
covered_table false true c d e f g h i j w k ea eb ec ed ee ef eg = cc
covered_table false false true d e f g h i j w k ea eb ec ed ee ef eg = cc
covered_table false false false true e f g h i j w k ea eb ec ed ee ef eg = cc
covered_table false false false false true f g h i j w k ea eb ec ed ee ef eg = cc
covered_table false false false false false true g h i j w k ea eb ec ed ee ef eg = cc
covered_table false false false false false false false h i j w k ea eb ec ed ee ef eg = cc

pub information_table : (a b c d e f g h i j w k : Bool) → is_information (table a b c d e f g h i j w k) ≡ true → (f ≡ false) × (g ≡ false) × (j ≡ true)
information_table false false false false false false false false false true w k p = (refl, refl, refl)
information_table true b c d e f g h i j w k p = cc
information_table false true c d e f g h i j w k p = cc
information_table false false true d e f g h i j w k p = cc
information_table false false false true e f g h i j w k p = cc
information_table false false false false true f g h i j w k p = cc
information_table false false false false false true g h i j w k p = cc
information_table false false false false false false true h i j w k p = cc
information_table false false false false false false false true i j w k p = cc
information_table false false false false false false false false true j w k p = cc
information_table false false false false false false false false false false true k p = cc
information_table false false false false false false false false false false false k p = information_last k p
  where
    information_last : (k : Bool) → is_information (cond k phases.Open phases.Overdue) ≡ true → (false ≡ false) × (false ≡ false) × (false ≡ true)
    information_last true p = cc
    information_last false p = cc

-- an accepted batch that is neither closed nor revoked
pub record InForce (day : Day) (J : History) (n : ℕ) : Type 0 where
  pub taken_yes : is_none (taken J n) ≡ false
  pub accepted_yes : is_accepted J n ≡ true
  pub closed_no : is_some (closed J n) ≡ false
  pub revoked_no : revoked_as BatchA day J n ≡ false

no_order_no : (day : Day) (n : ℕ) → sort_of day n ≡ BatchA → is_no_order (sort_of day n) ≡ false
no_order_no day n q = ap is_no_order q

pub settled_phase : (day : Day) (J : History) (n : ℕ) → sort_of day n ≡ BatchA → InForce day J n → settled_as BatchA day J n ≡ true → phase day J n ≡ phases.Settled
unfolding phase
settled_phase day J n q f s = in_force_table (is_none (taken J n)) (not (is_accepted J n)) (is_no_order (sort_of day n)) (is_some (closed J n)) (revoked_as (sort_of day n) day J n) (settled_as (sort_of day n) day J n) (is_a (sort_of day n) && is_some (covered J n)) (is_some (asked J n) && is_some (answered day J n)) (is_some (asked J n)) (some_passes (nat_lt (clock J)) (info_end day n)) (some_passes (nat_lt (clock J)) (earliest day n)) (open_as (sort_of day n) day J n)
    f.taken_yes (ap not f.accepted_yes) (no_order_no day n q) f.closed_no (subst (λ s. revoked_as s day J n ≡ false) (sym q) f.revoked_no) (subst (λ s. settled_as s day J n ≡ true) (sym q) s)

pub covered_phase : (day : Day) (J : History) (n : ℕ) → sort_of day n ≡ BatchA → InForce day J n → settled_as BatchA day J n ≡ false → is_some (covered J n) ≡ true → phase day J n ≡ phases.Covered
unfolding phase
covered_phase day J n q f s v = covered_table (is_none (taken J n)) (not (is_accepted J n)) (is_no_order (sort_of day n)) (is_some (closed J n)) (revoked_as (sort_of day n) day J n) (settled_as (sort_of day n) day J n) (is_a (sort_of day n) && is_some (covered J n)) (is_some (asked J n) && is_some (answered day J n)) (is_some (asked J n)) (some_passes (nat_lt (clock J)) (info_end day n)) (some_passes (nat_lt (clock J)) (earliest day n)) (open_as (sort_of day n) day J n)
    f.taken_yes (ap not f.accepted_yes) (no_order_no day n q) f.closed_no (subst (λ s. revoked_as s day J n ≡ false) (sym q) f.revoked_no) (subst (λ s. settled_as s day J n ≡ false) (sym q) s) (subst (λ s. (is_a s && is_some (covered J n)) ≡ true) (sym q) v)

pub information_facts : (day : Day) (J : History) (n : ℕ) → sort_of day n ≡ BatchA → is_information (phase day J n) ≡ true → (settled_as BatchA day J n ≡ false) × (is_some (covered J n) ≡ false)
unfolding phase
information_facts day J n q h =
    let t : (settled_as (sort_of day n) day J n ≡ false) × ((is_a (sort_of day n) && is_some (covered J n)) ≡ false) × (some_passes (nat_lt (clock J)) (info_end day n) ≡ true) =
    information_table (is_none (taken J n)) (not (is_accepted J n)) (is_no_order (sort_of day n)) (is_some (closed J n)) (revoked_as (sort_of day n) day J n) (settled_as (sort_of day n) day J n) (is_a (sort_of day n) && is_some (covered J n)) (is_some (asked J n) && is_some (answered day J n)) (is_some (asked J n)) (some_passes (nat_lt (clock J)) (info_end day n)) (some_passes (nat_lt (clock J)) (earliest day n)) (open_as (sort_of day n) day J n) h in
    (subst (λ s. settled_as s day J n ≡ false) q t.0, subst (λ s. (is_a s && is_some (covered J n)) ≡ false) q t.1)

taken_table : (a b c d e f g h i j w k : Bool) → is_going (table a b c d e f g h i j w k) ≡ true → a ≡ false
taken_table true b c d e f g h i j w k p = cc
taken_table false b c d e f g h i j w k p = refl

going_taken : (day : Day) (J : History) (n : ℕ) → is_going (phase day J n) ≡ true → is_none (taken J n) ≡ false
unfolding phase
going_taken day J n h = taken_table (is_none (taken J n)) (not (is_accepted J n)) (is_no_order (sort_of day n)) (is_some (closed J n)) (revoked_as (sort_of day n) day J n) (settled_as (sort_of day n) day J n) (is_a (sort_of day n) && is_some (covered J n)) (is_some (asked J n) && is_some (answered day J n)) (is_some (asked J n)) (some_passes (nat_lt (clock J)) (info_end day n)) (some_passes (nat_lt (clock J)) (earliest day n)) (open_as (sort_of day n) day J n) h

pub going_in_force : (day : Day) (J : History) (n : ℕ) → sort_of day n ≡ BatchA → is_going (phase day J n) ≡ true → InForce day J n
going_in_force day J n q h = let g = going_facts day J n q h in record { taken_yes = going_taken day J n h; accepted_yes = going_accepted day J n h; closed_no = g.0; revoked_no = g.1 }
