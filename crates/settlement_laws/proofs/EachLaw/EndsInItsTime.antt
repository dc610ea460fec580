-- No Ask, Cover, Expire or Refuse line of a message stands before its time is over.
use Rattle.std.proofs.Common.{◌≡◌, ℕ, ◌≤◌, Bool, true, false, ◌&&◌, ◌||◌, not, List, [], ◌∷◌, refl, sym, ap, ◌∙◌, subst, arith, inl, inr}
use Rattle.std.specs.Prelude.{is_some, is_none, nat_eq, nat_lt}
use Rattle.std.proofs.lemmas.Bool.{and_cases, and_parts, or_cases, eqb-true, ltb-false, not-false}
use Rattle.batch_records.specs.DayRecord.{Day}
use Rattle.batch_records.specs.Sound.{is_sound}
use Rattle.commit_journal.specs.declared.line.Move.{Move}
use Rattle.commit_journal.specs.declared.line.Code.{Code}
use Rattle.commit_journal.specs.declared.line.Kind.{Kind}
use Rattle.commit_journal.specs.declared.line.Kind.TheVariants as kinds
use Rattle.commit_journal.specs.Line.{History}
use Rattle.machine.specs.Words.{some_passes}
use Rattle.machine.specs.Records.Messages.{Sort, Pay, BatchA, BatchB, BatchC, BatchE, sort_of, is_a, is_a_or_b, is_c, info_end, earliest, settlement_end}
use Rattle.machine.specs.Telling.History.{place_of, is_ask, is_ask_of, is_cover, is_expire_or_refuse, taken, is_accepted, asked, covered, closed, clock}
use Rattle.machine.specs.Telling.Facts.{answered, cycle_ended}
use Rattle.machine.specs.Stages.Phases.{phase, is_no_order, revoked_as, settled_as, open_as, is_overdue, is_answered}
use Rattle.machine.specs.Making.Lines.{may_ask, may_lapse, fund_suffices}
use Rattle.machine.specs.Legal.{IsLegal}
use Rattle.machine.specs.Laws.{IsOver, EndsInItsTime}
use Rattle.settlement_laws.proofs.Base.LinesOf.{placed_more}
use Rattle.settlement_laws.proofs.Base.Made.{Made, made_facts, made_ask}
use Rattle.settlement_laws.proofs.Base.PhaseLaws.{table, answered_asked}
use Rattle.settlement_laws.proofs.Base.PhaseFacts.{asking_facts}
use Rattle.settlement_laws.proofs.DayEnd.SubAccountsAtMidnight.{end_within}
use Rattle.settlement_laws.proofs.EachLaw.WithinLimits.{clock_goes_on, refused_phase}

-- ---- what is overdue isn't open

overdue_rows : (a b c d e f g h i j w k : Bool) → is_overdue (table a b c d e f g h i j w k) ≡ true → k ≡ false
overdue_rows true b c d e f g h i j w k p = cc
overdue_rows false true c d e f g h i j w k p = cc
overdue_rows false false true d e f g h i j w k p = cc
overdue_rows false false false true e f g h i j w k p = cc
overdue_rows false false false false true f g h i j w k p = cc
overdue_rows false false false false false true g h i j w k p = cc
overdue_rows false false false false false false true h i j w k p = cc
overdue_rows false false false false false false false true i j w k p = cc
overdue_rows false false false false false false false false true j w k p = cc
overdue_rows false false false false false false false false false true w k p = cc
overdue_rows false false false false false false false false false false true k p = cc
overdue_rows false false false false false false false false false false false true p = cc
overdue_rows false false false false false false false false false false false false p = refl

not_open : (day : Day) (J : History) (n : ℕ) → is_overdue (phase day J n) ≡ true → open_as (sort_of day n) day J n ≡ false
unfolding phase
not_open day J n p = overdue_rows (is_none (taken J n)) (not (is_accepted J n)) (is_no_order (sort_of day n)) (is_some (closed J n)) (revoked_as (sort_of day n) day J n) (settled_as (sort_of day n) day J n) (is_a (sort_of day n) && is_some (covered J n)) (is_some (asked J n) && is_some (answered day J n)) (is_some (asked J n)) (some_passes (nat_lt (clock J)) (info_end day n)) (some_passes (nat_lt (clock J)) (earliest day n)) (open_as (sort_of day n) day J n) p

over_now : (s : Sort) (day : Day) (J : History) (n : ℕ) → sort_of day n ≡ s → settlement_end day n ≤ 86400 → may_lapse s ≡ true → open_as s day J n ≡ false → IsOver day J n
over_now BatchA day J n e w m o = inl (ltb-false (clock J) (settlement_end day n) o)
over_now BatchB day J n e w m o = inl (ltb-false (clock J) (settlement_end day n) o)
over_now BatchE day J n e w m o = inl (ltb-false (clock J) (settlement_end day n) o)
over_now Pay day J n e w m o = let late : 86400 ≤ clock J = ltb-false (clock J) 86400 o in inl (omega (arith, late, w))
over_now BatchC day J n e w m o = elim (and_cases (nat_lt (clock J) 86400) (not (cycle_ended day n J)) o) [
  | inl l ↦ let late : 86400 ≤ clock J = ltb-false (clock J) 86400 l in inl (omega (arith, late, w))
  | inr c ↦ inr (ap is_c e, not-false (cycle_ended day n J) c)
]
over_now _ day J n e w m o = cc

-- ---- the fund is asked, and answers, after the settlement end

past_end : (s : Sort) (day : Day) (J : History) (n : ℕ) → is_a_or_b s ≡ true → open_as s day J n ≡ false → settlement_end day n ≤ clock J
past_end BatchA day J n m o = ltb-false (clock J) (settlement_end day n) o
past_end BatchB day J n m o = ltb-false (clock J) (settlement_end day n) o
past_end _ day J n m o = cc

ask_over : (day : Day) (J : History) (n : ℕ) → may_ask day J n ≡ true → settlement_end day n ≤ clock J
ask_over day J n h =
    let b = and_parts (is_a_or_b (sort_of day n)) (is_overdue (phase day J n)) (and_parts _ _ (and_parts _ (nat_lt (clock J) 86400) h).0).0 in
    past_end (sort_of day n) day J n b.0 (not_open day J n b.1)

asked_over : (day : Day) (J : History) (n : ℕ) → IsLegal day J → is_some (asked J n) ≡ true → settlement_end day n ≤ clock J
unfolding place_of
asked_over day [] n legal h = cc
asked_over day (l ∷ J) n legal h =
    let on : clock J ≤ clock (l ∷ J) = clock_goes_on day l J legal in
    elim (or_cases (is_some (asked J n)) (is_ask_of n l) (sym (placed_more (is_ask_of n) l J) ∙ h)) [
      | inl before ↦ let past : settlement_end day n ≤ clock J = asked_over day J n legal.0 before in omega (arith, past, on)
      | inr here ↦
          let b = and_parts (is_ask l.head.kind) (nat_eq l.head.msg n) here in
          let past : settlement_end day n ≤ clock J = subst (λ x. settlement_end day x ≤ clock J) (eqb-true l.head.msg n b.1) (ask_over day J l.head.msg (made_ask l.head.kind day J _ _ _ _ b.0 (made_facts day J l legal.1).1)) in
          omega (arith, past, on)
    ]

answered_over : (day : Day) (J : History) (n : ℕ) → IsLegal day J → is_answered (phase day J n) ≡ true → IsOver day J n
answered_over day J n legal h = inl (asked_over day J n legal (answered_asked day J n h))

-- ---- each line

line_over : (kind : Kind) (day : Day) (J : History) (n k : ℕ) (code : Code) (moves : List Move) → is_sound day ≡ true → IsLegal day J → (is_ask kind || is_cover kind || is_expire_or_refuse kind) ≡ true → Made kind day J n k code moves → IsOver day J n
line_over kinds.Ask day J n k code moves sound legal h m = inl (ask_over day J n m.0)
line_over kinds.Cover day J n k code moves sound legal h m =
    answered_over day J n legal (and_parts (is_a_or_b (sort_of day n)) (is_answered (phase day J n)) (and_parts _ _ (and_parts _ (fund_suffices day J n) m.0).0).0).1
line_over kinds.Expire day J n k code moves sound legal h m =
    let b = and_parts (may_lapse (sort_of day n)) (is_overdue (phase day J n)) (and_parts _ _ m.0).0 in
    over_now (sort_of day n) day J n refl (end_within day n sound) b.0 (not_open day J n b.1)
line_over kinds.Refuse day J n k code moves sound legal h m = elim (refused_phase (is_a_or_b (sort_of day n)) (phase day J n) _ (fund_suffices day J n) _ _ _ _ code m.0) [
  | inl a ↦ answered_over day J n legal a
  | inr a ↦ inl (asked_over day J n legal (asking_facts day J n a).1)
]
line_over _ day J n k code moves sound legal h m = cc

pub ends_in_its_time : (day : Day) (J : History) → is_sound day ≡ true → IsLegal day J → EndsInItsTime day J
ends_in_its_time day [] sound legal = tt
ends_in_its_time day (l ∷ J) sound legal = (ends_in_its_time day J sound legal.0, λ h. line_over l.head.kind day J _ _ _ _ sound legal.0 h (made_facts day J l legal.1).1)
