-- What the phases say of the tests of their table.
use Rattle.std.proofs.Common.{◌≡◌, ℕ, Bool, true, false, ◌&&◌, not, refl}
use Rattle.std.specs.Prelude.{is_some, is_none, nat_lt}
use Rattle.batch_records.specs.DayRecord.{Day}
use Rattle.commit_journal.specs.Line.{History}
use Rattle.machine.specs.Words.{some_passes}
use Rattle.machine.specs.Records.Messages.{sort_of, is_a, earliest, info_end}
use Rattle.machine.specs.Telling.History.{taken, is_accepted, asked, covered, closed, clock}
use Rattle.machine.specs.Telling.Facts.{answered}
use Rattle.machine.specs.Stages.Phases.{phase, is_no_order, revoked_as, settled_as, open_as, is_open, is_overdue, is_answered, is_asking}
use Rattle.settlement_laws.proofs.Base.PhaseLaws.{table, is_going}

-- a going message is taken and accepted, is neither closed nor revoked nor settled
pub record Going (untaken rejected no_order closed revoked settled : Bool) : Type 0 where
  pub untaken_no : untaken ≡ false
  pub rejected_no : rejected ≡ false
  pub no_order_no : no_order ≡ false
  pub closed_no : closed ≡ false
  pub revoked_no : revoked ≡ false
  pub settled_no : settled ≡ false

going_rows : (a b c d e f g h i j w k : Bool) → is_going (table a b c d e f g h i j w k) ≡ true → Going a b c d e f
going_rows true b c d e f g h i j w k p = cc
going_rows false true c d e f g h i j w k p = cc
going_rows false false true d e f g h i j w k p = cc
going_rows false false false true e f g h i j w k p = cc
going_rows false false false false true f g h i j w k p = cc
going_rows false false false false false true g h i j w k p = cc
going_rows false false false false false false g h i j w k p = record { untaken_no = refl; rejected_no = refl; no_order_no = refl; closed_no = refl; revoked_no = refl; settled_no = refl }

overdue_rows : (a b c d e f g h i j w k : Bool) → is_overdue (table a b c d e f g h i j w k) ≡ true → (g ≡ false) × (i ≡ false)
overdue_rows true b c d e f g h i j w k p = cc
overdue_rows false true c d e f g h i j w k p = cc
overdue_rows false false true d e f g h i j w k p = cc
overdue_rows false false false true e f g h i j w k p = cc
overdue_rows false false false false true f g h i j w k p = cc
overdue_rows false false false false false true g h i j w k p = cc
overdue_rows false false false false false false true h i j w k p = cc
overdue_rows false false false false false false false true i j w k p = cc
overdue_rows false false false false false false false false true j w k p = cc
overdue_rows false false false false false false false false false true w k p = cc
overdue_rows false false false false false false false false false false true k p = cc
overdue_rows false false false false false false false false false false false true p = cc
overdue_rows false false false false false false false false false false false false p = (refl, refl)

answered_rows : (a b c d e f g h i j w k : Bool) → is_answered (table a b c d e f g h i j w k) ≡ true → (g ≡ false) × (h ≡ true)
answered_rows true b c d e f g h i j w k p = cc
answered_rows false true c d e f g h i j w k p = cc
answered_rows false false true d e f g h i j w k p = cc
answered_rows false false false true e f g h i j w k p = cc
answered_rows false false false false true f g h i j w k p = cc
answered_rows false false false false false true g h i j w k p = cc
answered_rows false false false false false false true h i j w k p = cc
answered_rows false false false false false false false true i j w k p = (refl, refl)
answered_rows false false false false false false false false true j w k p = cc
answered_rows false false false false false false false false false true w k p = cc
answered_rows false false false false false false false false false false true k p = cc
answered_rows false false false false false false false false false false false true p = cc
answered_rows false false false false false false false false false false false false p = cc

asking_rows : (a b c d e f g h i j w k : Bool) → is_asking (table a b c d e f g h i j w k) ≡ true → (g ≡ false) × (i ≡ true)
asking_rows true b c d e f g h i j w k p = cc
asking_rows false true c d e f g h i j w k p = cc
asking_rows false false true d e f g h i j w k p = cc
asking_rows false false false true e f g h i j w k p = cc
asking_rows false false false false true f g h i j w k p = cc
asking_rows false false false false false true g h i j w k p = cc
asking_rows false false false false false false true h i j w k p = cc
asking_rows false false false false false false false true i j w k p = cc
asking_rows false false false false false false false false true j w k p = (refl, refl)
asking_rows false false false false false false false false false true w k p = cc
asking_rows false false false false false false false false false false true k p = cc
asking_rows false false false false false false false false false false false true p = cc
asking_rows false false false false false false false false false false false false p = cc

open_rows : (a b c d e f g h i j w k : Bool) → is_open (table a b c d e f g h i j w k) ≡ true → (g ≡ false) × (k ≡ true)
open_rows true b c d e f g h i j w k p = cc
open_rows false true c d e f g h i j w k p = cc
open_rows false false true d e f g h i j w k p = cc
open_rows false false false true e f g h i j w k p = cc
open_rows false false false false true f g h i j w k p = cc
open_rows false false false false false true g h i j w k p = cc
open_rows false false false false false false true h i j w k p = cc
open_rows false false false false false false false true i j w k p = cc
open_rows false false false false false false false false true j w k p = cc
open_rows false false false false false false false false false true w k p = cc
open_rows false false false false false false false false false false true k p = cc
open_rows false false false false false false false false false false false true p = (refl, refl)
open_rows false false false false false false false false false false false false p = cc

abbrev pub IsGoing : Day → History → ℕ → Type 0
IsGoing day J n = Going (is_none (taken J n)) (not (is_accepted J n)) (is_no_order (sort_of day n)) (is_some (closed J n)) (revoked_as (sort_of day n) day J n) (settled_as (sort_of day n) day J n)

pub going_facts : (day : Day) (J : History) (n : ℕ) → is_going (phase day J n) ≡ true → IsGoing day J n
unfolding phase
going_facts day J n p = going_rows (is_none (taken J n)) (not (is_accepted J n)) (is_no_order (sort_of day n)) (is_some (closed J n)) (revoked_as (sort_of day n) day J n) (settled_as (sort_of day n) day J n) (is_a (sort_of day n) && is_some (covered J n)) (is_some (asked J n) && is_some (answered day J n)) (is_some (asked J n)) (some_passes (nat_lt (clock J)) (info_end day n)) (some_passes (nat_lt (clock J)) (earliest day n)) (open_as (sort_of day n) day J n) p

-- an overdue one is neither asked nor, of A, covered
pub overdue_facts : (day : Day) (J : History) (n : ℕ) → is_overdue (phase day J n) ≡ true → ((is_a (sort_of day n) && is_some (covered J n)) ≡ false) × (is_some (asked J n) ≡ false)
unfolding phase
overdue_facts day J n p = overdue_rows (is_none (taken J n)) (not (is_accepted J n)) (is_no_order (sort_of day n)) (is_some (closed J n)) (revoked_as (sort_of day n) day J n) (settled_as (sort_of day n) day J n) (is_a (sort_of day n) && is_some (covered J n)) (is_some (asked J n) && is_some (answered day J n)) (is_some (asked J n)) (some_passes (nat_lt (clock J)) (info_end day n)) (some_passes (nat_lt (clock J)) (earliest day n)) (open_as (sort_of day n) day J n) p

pub answered_facts : (day : Day) (J : History) (n : ℕ) → is_answered (phase day J n) ≡ true → ((is_a (sort_of day n) && is_some (covered J n)) ≡ false) × ((is_some (asked J n) && is_some (answered day J n)) ≡ true)
unfolding phase
answered_facts day J n p = answered_rows (is_none (taken J n)) (not (is_accepted J n)) (is_no_order (sort_of day n)) (is_some (closed J n)) (revoked_as (sort_of day n) day J n) (settled_as (sort_of day n) day J n) (is_a (sort_of day n) && is_some (covered J n)) (is_some (asked J n) && is_some (answered day J n)) (is_some (asked J n)) (some_passes (nat_lt (clock J)) (info_end day n)) (some_passes (nat_lt (clock J)) (earliest day n)) (open_as (sort_of day n) day J n) p

pub asking_facts : (day : Day) (J : History) (n : ℕ) → is_asking (phase day J n) ≡ true → ((is_a (sort_of day n) && is_some (covered J n)) ≡ false) × (is_some (asked J n) ≡ true)
unfolding phase
asking_facts day J n p = asking_rows (is_none (taken J n)) (not (is_accepted J n)) (is_no_order (sort_of day n)) (is_some (closed J n)) (revoked_as (sort_of day n) day J n) (settled_as (sort_of day n) day J n) (is_a (sort_of day n) && is_some (covered J n)) (is_some (asked J n) && is_some (answered day J n)) (is_some (asked J n)) (some_passes (nat_lt (clock J)) (info_end day n)) (some_passes (nat_lt (clock J)) (earliest day n)) (open_as (sort_of day n) day J n) p

pub open_now : (day : Day) (J : History) (n : ℕ) → is_open (phase day J n) ≡ true → ((is_a (sort_of day n) && is_some (covered J n)) ≡ false) × (open_as (sort_of day n) day J n ≡ true)
unfolding phase
open_now day J n p = open_rows (is_none (taken J n)) (not (is_accepted J n)) (is_no_order (sort_of day n)) (is_some (closed J n)) (revoked_as (sort_of day n) day J n) (settled_as (sort_of day n) day J n) (is_a (sort_of day n) && is_some (covered J n)) (is_some (asked J n) && is_some (answered day J n)) (is_some (asked J n)) (some_passes (nat_lt (clock J)) (info_end day n)) (some_passes (nat_lt (clock J)) (earliest day n)) (open_as (sort_of day n) day J n) p
