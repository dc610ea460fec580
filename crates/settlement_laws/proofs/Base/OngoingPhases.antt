-- More of what a phase says: a message that goes on is taken, an answered batch isn't settled, and where a message stands at midnight.
use Rattle.std.proofs.Common.{◌≡◌, ℕ, Bool, true, false, not, ◌&&◌, [], ◌∷◌, Option, Some, None, refl, subst, length, suc}
use Rattle.settlement_laws.proofs.Base.Counting.{some_from, not_none, when_some}
use Rattle.std.proofs.lemmas.Bool.{and_left, not_from_true, and_parts}
use Rattle.std.specs.Prelude.{is_some, is_none, nat_lt, nat_eq}
use Rattle.std.specs.Option.{option_or}
use Rattle.std.proofs.lemmas.Bool.{eqb-true}
use Rattle.batch_records.specs.DayRecord.{Day}
use Rattle.commit_journal.specs.declared.line.Code.{Code}
use Rattle.commit_journal.specs.Line.{History}
use Rattle.machine.specs.Words.{some_passes, when}
use Rattle.machine.specs.Records.Messages.{sort_of, is_a, is_a_or_b, earliest, info_end}
use Rattle.machine.specs.Telling.History.{is_ask, is_ask_of, is_in_of, is_ok, taken, is_accepted, taken_code, asked, covered, closed, clock, place_of, read_first}
use Rattle.machine.specs.Telling.Facts.{answered}
use Rattle.machine.specs.Stages.Phases.{phase, is_no_order, revoked_as, settled_as, open_as, is_overdue}
use Rattle.machine.specs.Making.Lines.{may_ask}
use Rattle.machine.specs.Legal.{IsLegal}
use Rattle.settlement_laws.proofs.Base.PhaseLaws.{table, is_going}
use Rattle.settlement_laws.proofs.Base.Made.{made_facts, made_ask}

-- ---- a message that goes on is taken

going_table : (a b c d e f g h i j w k : Bool) → is_going (table a b c d e f g h i j w k) ≡ true → a ≡ false
going_table true b c d e f g h i j w k p = cc
going_table false b c d e f g h i j w k p = refl

pub going_taken : (day : Day) (J : History) (n : ℕ) → is_going (phase day J n) ≡ true → is_some (taken J n) ≡ true
unfolding phase
going_taken day J n h = some_from (taken J n) (going_table (is_none (taken J n)) (not (is_accepted J n)) (is_no_order (sort_of day n)) (is_some (closed J n)) (revoked_as (sort_of day n) day J n) (settled_as (sort_of day n) day J n) (is_a (sort_of day n) && is_some (covered J n)) (is_some (asked J n) && is_some (answered day J n)) (is_some (asked J n)) (some_passes (nat_lt (clock J)) (info_end day n)) (some_passes (nat_lt (clock J)) (earliest day n)) (open_as (sort_of day n) day J n) h)

-- a message that is accepted is taken
pub accepted_there : (J : History) (n : ℕ) → is_accepted J n ≡ true → is_some (taken J n) ≡ true
unfolding place_of read_first
accepted_there [] n h = cc
accepted_there (l ∷ J) n h = here (taken_code J n) (taken J n) (is_in_of n l) h (accepted_there J n)
  where
    here : (o : Option Code) (p : Option ℕ) (b : Bool) → some_passes is_ok (option_or o (when b l.head.code)) ≡ true → (some_passes is_ok o ≡ true → is_some p ≡ true) → is_some (option_or p (when b (suc (length J)))) ≡ true
    here o (Some p) b h k = refl
    here o None true h k = refl
    here (Some c) None false h k = k h
    here None None false h k = cc

-- ---- what isn't so of a message that is answered, or overdue: not closed, not settled

pub record GoesOn (closed settled : Bool) : Type 0 where
  pub closed_no : closed ≡ false
  pub settled_no : settled ≡ false

going_on_table : (a b c d e f g h i j w k : Bool) → is_going (table a b c d e f g h i j w k) ≡ true → GoesOn d f
going_on_table false false false false false false g h i j w k p = record { closed_no = refl; settled_no = refl }
going_on_table true b c d e f g h i j w k p = cc
going_on_table false true c d e f g h i j w k p = cc
going_on_table false false true d e f g h i j w k p = cc
going_on_table false false false true e f g h i j w k p = cc
going_on_table false false false false true f g h i j w k p = cc
going_on_table false false false false false true g h i j w k p = cc

pub going_on : (day : Day) (J : History) (n : ℕ) → is_going (phase day J n) ≡ true → GoesOn (is_some (closed J n)) (settled_as (sort_of day n) day J n)
unfolding phase
going_on day J n h = going_on_table (is_none (taken J n)) (not (is_accepted J n)) (is_no_order (sort_of day n)) (is_some (closed J n)) (revoked_as (sort_of day n) day J n) (settled_as (sort_of day n) day J n) (is_a (sort_of day n) && is_some (covered J n)) (is_some (asked J n) && is_some (answered day J n)) (is_some (asked J n)) (some_passes (nat_lt (clock J)) (info_end day n)) (some_passes (nat_lt (clock J)) (earliest day n)) (open_as (sort_of day n) day J n) h

-- ---- an Ask line stands only for A and B

pub asked_sort : (day : Day) (J : History) (n : ℕ) → IsLegal day J → is_some (asked J n) ≡ true → is_a_or_b (sort_of day n) ≡ true
unfolding place_of
asked_sort day [] n legal h = cc
asked_sort day (l ∷ J) n legal h = here (asked J n) (asked_sort day J n legal.0) h
  where
    here : (o : Option ℕ) → (is_some o ≡ true → is_a_or_b (sort_of day n) ≡ true) → is_some (option_or o (when (is_ask_of n l) (suc (length J)))) ≡ true → is_a_or_b (sort_of day n) ≡ true
    here (Some i) before h = before h
    here None before h =
        let b = and_parts (is_ask l.head.kind) (nat_eq l.head.msg n) (when_some (is_ask_of n l) (suc (length J)) h) in
        let m : may_ask day J l.head.msg ≡ true = made_ask l.head.kind day J _ _ _ _ b.0 (made_facts day J l legal.1).1 in
        subst (λ x. is_a_or_b (sort_of day x) ≡ true) (eqb-true l.head.msg n b.1) (and_parts (is_a_or_b (sort_of day l.head.msg)) (is_overdue (phase day J l.head.msg)) (and_parts _ _ (and_parts _ (nat_lt (clock J) 86400) m).0).0).0

-- ---- where no row but five can hold

-- closed, revoked, settled or overdue
pub record OneOfFour (closed revoked settled overdue : Bool) : Type 0 where
  pub or_overdue : closed ≡ false → revoked ≡ false → settled ≡ false → overdue ≡ true

four_table : (a b c d e f g h i j w k : Bool) → a ≡ false → b ≡ false → c ≡ false → g ≡ false → h ≡ false → i ≡ false → j ≡ false → w ≡ false → k ≡ false → OneOfFour d e f (is_overdue (table a b c d e f g h i j w k))
four_table false false false d e f false false false false true k pa pb pc pg ph pi pj pw pk = cc
four_table false false false d e f false false false false false false pa pb pc pg ph pi pj pw pk = record { or_overdue = λ pd pe pf. at d e f pd pe pf }
  where
    at : (d e f : Bool) → d ≡ false → e ≡ false → f ≡ false → is_overdue (table false false false d e f false false false false false false) ≡ true
    at false false false pd pe pf = refl
    at true e f pd pe pf = cc
    at false true f pd pe pf = cc
    at false false true pd pe pf = cc
four_table true b c d e f g h i j w k pa pb pc pg ph pi pj pw pk = cc
four_table false true c d e f g h i j w k pa pb pc pg ph pi pj pw pk = cc
four_table false false true d e f g h i j w k pa pb pc pg ph pi pj pw pk = cc
four_table false false false d e f true h i j w k pa pb pc pg ph pi pj pw pk = cc
four_table false false false d e f false true i j w k pa pb pc pg ph pi pj pw pk = cc
four_table false false false d e f false false true j w k pa pb pc pg ph pi pj pw pk = cc
four_table false false false d e f false false false true w k pa pb pc pg ph pi pj pw pk = cc
four_table false false false d e f false false false false false true pa pb pc pg ph pi pj pw pk = cc

-- an accepted order that wasn't covered and wasn't asked for, past its times
pub one_of_four : (day : Day) (J : History) (n : ℕ) → is_accepted J n ≡ true → is_no_order (sort_of day n) ≡ false → (is_a (sort_of day n) && is_some (covered J n)) ≡ false → is_some (asked J n) ≡ false →
    some_passes (nat_lt (clock J)) (info_end day n) ≡ false → some_passes (nat_lt (clock J)) (earliest day n) ≡ false → open_as (sort_of day n) day J n ≡ false →
    OneOfFour (is_some (closed J n)) (revoked_as (sort_of day n) day J n) (settled_as (sort_of day n) day J n) (is_overdue (phase day J n))
unfolding phase
one_of_four day J n a o c k i w p = four_table (is_none (taken J n)) (not (is_accepted J n)) (is_no_order (sort_of day n)) (is_some (closed J n)) (revoked_as (sort_of day n) day J n) (settled_as (sort_of day n) day J n) (is_a (sort_of day n) && is_some (covered J n)) (is_some (asked J n) && is_some (answered day J n)) (is_some (asked J n)) (some_passes (nat_lt (clock J)) (info_end day n)) (some_passes (nat_lt (clock J)) (earliest day n)) (open_as (sort_of day n) day J n)
    (not_none (taken J n) (accepted_there J n a)) (not_from_true (is_accepted J n) a) o c (and_left (is_some (asked J n)) (is_some (answered day J n)) k) k i w p
