-- Where no want is ready, no payment or batch is overdue, answered or covered.
use Rattle.std.proofs.Common.{◌≡◌, ℕ, Bool, true, false, not, ◌&&◌, ◌||◌, List, [], ◌∷◌, refl, ap}
use Rattle.std.specs.Prelude.{is_some, is_none, nat_eq, nat_lt}
use Rattle.std.proofs.lemmas.Bool.{not-true, and_from, and_parts}
use Rattle.batch_records.specs.DayRecord.{Day}
use Rattle.commit_journal.specs.declared.line.Move.{Move}
use Rattle.commit_journal.specs.declared.line.Code.{Code}
use Rattle.commit_journal.specs.declared.line.Code.TheVariants as line_codes
use Rattle.commit_journal.specs.declared.line.Kind.{Kind}
use Rattle.commit_journal.specs.declared.line.Kind.TheVariants as kinds
use Rattle.commit_journal.specs.declared.line.Want.TheVariants as wants
use Rattle.commit_journal.specs.Line.{History}
use Rattle.machine.specs.declared.answers.Phase.{Phase}
use Rattle.machine.specs.declared.answers.Phase.TheVariants as phases
use Rattle.machine.specs.Words.{when, first_some, some_passes}
use Rattle.machine.specs.Records.Messages.{Sort, Pay, BatchA, BatchB, BatchC, BatchD, BatchE, sort_of, is_a, is_a_or_b, is_credit, credit_numbers, entry_numbers, earliest, info_end}
use Rattle.machine.specs.Telling.History.{taken, is_accepted, asked, covered, closed, clock, is_time, is_end}
use Rattle.machine.specs.Telling.Facts.{answered}
use Rattle.machine.specs.Stages.Phases.{phase, is_no_order, revoked_as, settled_as, open_as, is_overdue, is_answered, is_covered, is_booked}
use Rattle.machine.specs.Making.Lines.{may_ask, may_expire, may_cover, may_lapse, refusal, fund_suffices, is_ready, all_taken}
use Rattle.machine.specs.Legal.{IsLegal}
use Rattle.machine.specs.Laws.{EachLine, NothingIsDue, is_due, is_order}
use Rattle.machine.proofs.SortFacts.{a_is}
use Rattle.settlement_laws.proofs.Base.Made.{Made, made_facts}
use Rattle.settlement_laws.proofs.Base.PhaseLaws.{is_going, answered_asked, covered_is_covered}
use Rattle.settlement_laws.proofs.Base.Lists.{never, one_fails, from_filter}
use Rattle.settlement_laws.proofs.ProcedureA.PhasesOfA.{is_late, late_table, going_facts}
use Rattle.settlement_laws.proofs.ProcedureA.ForemostCredit.{no_credit_pending}
use Rattle.settlement_laws.proofs.Wants.ReadyWants.{idle}
use Rattle.settlement_laws.proofs.Base.OngoingPhases.{asked_sort}
use Rattle.settlement_laws.proofs.ProcedureA.NeverBelowZero.{sound_a}
use Rattle.settlement_laws.proofs.ProcedureA.SettledAtTimeLines.{covered_pending}

-- ---- where no want is ready, a message has none

pub record NoWant (day : Day) (J : History) (n : ℕ) : Type 0 where
  pub no_expire : may_expire day J n ≡ false
  pub no_ask : may_ask day J n ≡ false
  pub no_cover : may_cover day J n ≡ false
  pub no_refusal : is_some (refusal day J n) ≡ false

pub no_want : (day : Day) (J : History) (n : ℕ) → is_ready day J ≡ false → NoWant day J n
no_want day J n r = record {
  no_expire = idle day J (wants.Expire n) r;
  no_ask = idle day J (wants.Ask n) r;
  no_cover = idle day J (wants.Cover n) r;
  no_refusal = idle day J (wants.Refuse n) r;
}

-- ---- each due phase

lapses : (s : Sort) (day : Day) (J : History) (n : ℕ) → is_order s ≡ true → settled_as s day J n ≡ false → may_lapse s ≡ true
lapses Pay day J n o h = refl
lapses BatchA day J n o h = refl
lapses BatchB day J n o h = refl
lapses BatchC day J n o h = refl
lapses BatchE day J n o h = refl
lapses BatchD day J n o h = never true refl h
lapses _ day J n o h = never false o refl

pub late_unsettled : (day : Day) (J : History) (n : ℕ) → is_late (phase day J n) ≡ true → settled_as (sort_of day n) day J n ≡ false
unfolding phase
late_unsettled day J n h =
    (late_table (is_none (taken J n)) (not (is_accepted J n)) (is_no_order (sort_of day n)) (is_some (closed J n)) (revoked_as (sort_of day n) day J n) (settled_as (sort_of day n) day J n) (is_a (sort_of day n) && is_some (covered J n)) (is_some (asked J n) && is_some (answered day J n)) (is_some (asked J n)) (some_passes (nat_lt (clock J)) (info_end day n)) (some_passes (nat_lt (clock J)) (earliest day n)) (open_as (sort_of day n) day J n) h).2

-- s: of A or B, p: answered, a: the answer is Y, f: the fund covers
answer_served : (s p a f u : Bool) (x y z : Code) → s ≡ true → p ≡ true → (s && p && a && f) ≡ false → is_some (first_some (when (s && p && not a) x ∷ when ((s && p && a) && not f) y ∷ when u z ∷ [])) ≡ false → ⊥
answer_served true true true true u x y z es ep c r = never true refl c
answer_served true true true false u x y z es ep c r = never true refl r
answer_served true true false f u x y z es ep c r = never true refl r
answer_served false p a f u x y z es ep c r = never false es refl
answer_served true false a f u x y z es ep c r = never false ep refl

not_covered : (day : Day) (J : History) (n : ℕ) → IsLegal day J → is_ready day J ≡ false → phase day J n ≡ phases.Covered → ⊥
not_covered day J n legal none p =
    let q : sort_of day n ≡ BatchA = a_is (sort_of day n) (and_parts (is_a (sort_of day n)) (is_some (covered J n)) (covered_is_covered day J n (ap is_covered p))).0 in
    let u : settled_as BatchA day J n ≡ false = (going_facts day J n q (ap is_going p)).2 in
    let x = one_fails (is_booked J n) (credit_numbers day n) u in
    let c : is_credit day n x.0 ≡ true = (from_filter (is_credit day n) (entry_numbers day n) x.0 x.1).1 in
    no_credit_pending day J legal (sound_a day J legal).within none n q x.0 c (covered_pending day J n x.0 q p c x.2)

pub nothing_due : (day : Day) (J : History) (n : ℕ) → IsLegal day J → is_ready day J ≡ false → is_order (sort_of day n) ≡ true → is_due (phase day J n) ≡ false
nothing_due day J n legal none o = here (phase day J n) refl
  where
    w : NoWant day J n
    w = no_want day J n none

    here : (p : Phase) → phase day J n ≡ p → is_due p ≡ false
    here phases.Overdue e = never (may_expire day J n) (and_from _ _ (and_from _ _ (lapses (sort_of day n) day J n o (late_unsettled day J n (ap is_late e))) (ap is_overdue e)) (ap not w.no_ask)) w.no_expire
    here phases.Answered e = absurd (answer_served (is_a_or_b (sort_of day n)) (is_answered (phase day J n)) _ (fund_suffices day J n) _ line_codes.Gn line_codes.Gs line_codes.Ge (asked_sort day J n legal (answered_asked day J n (ap is_answered e))) (ap is_answered e) w.no_cover w.no_refusal)
    here phases.Covered e = absurd (not_covered day J n legal none e)
    here _ e = refl

-- ---- the law

none_ready : (kind : Kind) (day : Day) (J : History) (n k : ℕ) (code : Code) (moves : List Move) → (is_time kind || is_end kind) ≡ true → Made kind day J n k code moves → is_ready day J ≡ false
none_ready kinds.Time day J n k code moves h m = not-true _ (and_parts (nat_lt (clock J) 86400 && all_taken day J) (not (is_ready day J)) m.0).1
none_ready kinds.End day J n k code moves h m = not-true _ (and_parts (nat_eq (clock J) 86400) (not (is_ready day J)) m.0).1
none_ready _ day J n k code moves h m = cc

pub nothing_is_due : (day : Day) (J : History) → IsLegal day J → EachLine (NothingIsDue day) J
nothing_is_due day [] legal = tt
nothing_is_due day (l ∷ J) legal = (nothing_is_due day J legal.0, λ t n o. nothing_due day J n legal.0 (none_ready l.head.kind day J _ _ _ _ t (made_facts day J l legal.1).1) o)
