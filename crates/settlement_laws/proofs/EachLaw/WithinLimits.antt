-- Which lines can't stand: of a batch any but its In line before its times, a Book or All line once its end has come or its cycle is over,
-- one that moves something else than is stated, one that takes what is to be left, and one that takes from a locked sub-account.
use Rattle.std.proofs.Common.{◌≡◌, ℕ, ◌+◌, ◌≤◌, ◌<◌, Bool, true, false, not, ◌&&◌, ◌||◌, List, [], ◌∷◌, ◌++◌, Option, Some, None, refl, sym, ◌∙◌, ap, subst, arith, ◌⊎◌, inl, inr}
use Rattle.std.specs.Prelude.{is_some, is_none, nat_eq, nat_lt, map, unwrap_or}
use Rattle.std.specs.Option.{option_map_or}
use Rattle.std.proofs.lemmas.Bool.{false≢true, eqb-true, and_parts, or_cases, or_parts, not-true, ltb-true, ltb-false, leb-true}
use Rattle.batch_records.specs.DayRecord.{Day}
use Rattle.batch_records.specs.declared.day.Entry.{Entry}
use Rattle.batch_records.specs.declared.day.Body.{Body}
use Rattle.batch_records.specs.declared.day.Body.TheVariants as bodies
use Rattle.batch_records.specs.declared.day.Message.{Message}
use Rattle.cash_amounts.specs.declared.records.Procedure.{Procedure}
use Rattle.cash_amounts.specs.declared.records.Procedure.TheVariants.{A, B, C, D, E}
use Rattle.commit_journal.specs.declared.line.Move.{Move}
use Rattle.commit_journal.specs.declared.line.Code.{Code}
use Rattle.commit_journal.specs.declared.line.Code.TheVariants as line_codes
use Rattle.commit_journal.specs.declared.line.Kind.{Kind}
use Rattle.commit_journal.specs.declared.line.Kind.TheVariants as kinds
use Rattle.commit_journal.specs.declared.line.Want.{Want}
use Rattle.commit_journal.specs.declared.line.Want.TheVariants as wants
use Rattle.commit_journal.specs.Line.{Line, History}
use Rattle.machine.specs.declared.answers.Phase.{Phase}
use Rattle.machine.specs.declared.answers.Phase.TheVariants as phases
use Rattle.machine.specs.Words.{some_passes, first_some, when}
use Rattle.machine.specs.Records.Setup.{is_sub_account, linked}
use Rattle.machine.specs.Records.Messages.{Sort, Missing, Pay, BatchA, BatchB, BatchC, BatchD, BatchE, Liquidity, sort_of, sort_of_body, sort_of_batch, till_in, message_at, stated_end, settlement_end, is_batch, is_a, is_b, is_c, is_d, is_liquidity, is_a_or_b, sender, entry_at, is_credit, transfer, part, debit_account, debit_entries, credit_entries, move_of, info_end, earliest}
use Rattle.machine.specs.Records.Reserves.{kept, must_leave}
use Rattle.machine.specs.Telling.History.{place_of, is_in, is_ok, is_book, is_all, is_ask, is_ask_of, is_cover, is_cover_of, is_expire_or_refuse, taken, is_accepted, asked, covered, closed, clock}
use Rattle.machine.specs.Telling.Balances.{balance}
use Rattle.machine.specs.Telling.Facts.{answered, takes_well, open_cycle, cycle_ended}
use Rattle.machine.specs.Stages.Phases.{phase, is_no_order, revoked_as, settled_as, open_as, is_open, is_covered, is_overdue, is_answered, is_asking, is_booked, is_revoked_entry}
use Rattle.machine.specs.Stages.Intake.{intake_code, times_are_wrong, states_a_time, is_locked, accounts_are_wrong, liquidity_fits, moves_as, intake_moves, transfer_moves}
use Rattle.machine.specs.Stages.Pending.{item, is_pending, pending_as, is_next_of_a}
use Rattle.machine.specs.Making.Lines.{may, made, may_book, may_ask, may_cover, may_lapse, refusal, fund_suffices, is_free_part, is_covered_part, moves_of_part, reversal, return_of, debit_entries_by, is_ready}
use Rattle.machine.specs.Legal.{IsLegal, want_of}
use Rattle.machine.specs.Laws.{may_move, GivesBackTheBooked, MovedAsStated}
use Rattle.settlement_laws.specs.LineLimits.{HasBegun, AfterItsStart, BeforeItsEnd, BookedInItsCycle, Leaves, ReservesAreKept, IsUnlocked, LockedInCycles}
use Rattle.settlement_laws.proofs.Base.Induction.{line_of-some}
use Rattle.settlement_laws.proofs.Base.LinesOf.{placed_more}
use Rattle.settlement_laws.proofs.Base.Made.{Made, made_facts, made_ask, made_book}
use Rattle.settlement_laws.proofs.Base.IntakeFacts.{IsPassed, passed_intake, accepted_taken}
use Rattle.settlement_laws.proofs.Base.PhaseLaws.{table, covered_there, answered_asked, going_accepted, open_going}
use Rattle.settlement_laws.proofs.Base.PhaseFacts.{asking_facts, open_now}
use Rattle.settlement_laws.proofs.DayEnd.Stops.{next_stop-bounds}
use Rattle.settlement_laws.proofs.ProcedureD.MovesInTurn.{taken_moves}

-- ---- an open or overdue message is past its times

past_rows : (a b c d e f g h i j w k : Bool) → (is_open (table a b c d e f g h i j w k) || is_overdue (table a b c d e f g h i j w k)) ≡ true → (j ≡ false) × (w ≡ false)
past_rows true b c d e f g h i j w k p = cc
past_rows false true c d e f g h i j w k p = cc
past_rows false false true d e f g h i j w k p = cc
past_rows false false false true e f g h i j w k p = cc
past_rows false false false false true f g h i j w k p = cc
past_rows false false false false false true g h i j w k p = cc
past_rows false false false false false false true h i j w k p = cc
past_rows false false false false false false false true i j w k p = cc
past_rows false false false false false false false false true j w k p = cc
past_rows false false false false false false false false false true w k p = cc
past_rows false false false false false false false false false false true k p = cc
past_rows false false false false false false false false false false false k p = (refl, refl)

reached : (now time : ℕ) (o : Option ℕ) → some_passes (nat_lt now) o ≡ false → o ≡ Some time → time ≤ now
reached now time None h e = cc
reached now time (Some t) h e = let l : t ≤ now = ltb-false now t h in let s : t ≡ time = same t time e in omega (arith, l, s)
  where
    same : (x y : ℕ) → Some x ≡ Some y → x ≡ y
    same x y p = cc

has_begun : (day : Day) (J : History) (n : ℕ) → (is_open (phase day J n) || is_overdue (phase day J n)) ≡ true → HasBegun day J n
unfolding phase
has_begun day J n p time s =
    let b = past_rows (is_none (taken J n)) (not (is_accepted J n)) (is_no_order (sort_of day n)) (is_some (closed J n)) (revoked_as (sort_of day n) day J n) (settled_as (sort_of day n) day J n) (is_a (sort_of day n) && is_some (covered J n)) (is_some (asked J n) && is_some (answered day J n)) (is_some (asked J n)) (some_passes (nat_lt (clock J)) (info_end day n)) (some_passes (nat_lt (clock J)) (earliest day n)) (open_as (sort_of day n) day J n) p in
    elim s [
      | inl i ↦ reached (clock J) time (info_end day n) b.0 i
      | inr e ↦ reached (clock J) time (earliest day n) b.1 e
    ]

open_or : (p : Phase) → is_open p ≡ true → (is_open p || is_overdue p) ≡ true
open_or phases.Open h = refl
open_or _ h = cc

overdue_or : (p : Phase) → is_overdue p ≡ true → (is_open p || is_overdue p) ≡ true
overdue_or phases.Overdue h = refl
overdue_or _ h = cc

-- ---- and stays so, as the clock goes on

made_clock : (day : Day) (J : History) (w : Want) → may day J w ≡ true → clock J ≤ clock (made day J w ∷ J)
unfolding clock
made_clock day J wants.Time h =
    let b = next_stop-bounds day J (ltb-true (clock J) 86400 (and_parts (nat_lt (clock J) 86400) _ (and_parts _ (not (is_ready day J)) h).0).0) in
    omega (arith, b.0)
made_clock day J (wants.In n) h = omega arith
made_clock day J (wants.Book n k) h = omega arith
made_clock day J (wants.All n) h = omega arith
made_clock day J (wants.Expire n) h = omega arith
made_clock day J (wants.Ask n) h = omega arith
made_clock day J (wants.Cover n) h = omega arith
made_clock day J (wants.Refuse n) h = omega arith
made_clock day J (wants.Sweep a) h = omega arith
made_clock day J wants.End h = omega arith

pub clock_goes_on : (day : Day) (l : Line) (J : History) → IsLegal day (l ∷ J) → clock J ≤ clock (l ∷ J)
clock_goes_on day l J legal =
    let h = line_of-some day J (want_of l) l legal.1 in
    subst (λ x. clock J ≤ clock (x ∷ J)) h.2 (made_clock day J (want_of l) h.1)

begun_later : (day : Day) (l : Line) (J : History) (n : ℕ) → IsLegal day (l ∷ J) → HasBegun day J n → HasBegun day (l ∷ J) n
begun_later day l J n legal b time s =
    let now : time ≤ clock J = b time s in
    let on : clock J ≤ clock (l ∷ J) = clock_goes_on day l J legal in
    omega (arith, now, on)

-- ---- so the fund is asked for a batch in its time, and pays for it

overdue_begun : (day : Day) (J : History) (n : ℕ) → is_overdue (phase day J n) ≡ true → HasBegun day J n
overdue_begun day J n h = has_begun day J n (overdue_or (phase day J n) h)

ask_begun : (day : Day) (J : History) (n : ℕ) → may_ask day J n ≡ true → HasBegun day J n
ask_begun day J n h = overdue_begun day J n (and_parts (is_a_or_b (sort_of day n)) (is_overdue (phase day J n)) (and_parts _ _ (and_parts _ (nat_lt (clock J) 86400) h).0).0).1

asked_begun : (day : Day) (J : History) (n : ℕ) → IsLegal day J → is_some (asked J n) ≡ true → HasBegun day J n
unfolding place_of
asked_begun day [] n legal h = cc
asked_begun day (l ∷ J) n legal h = begun_later day l J n legal (elim (or_cases (is_some (asked J n)) (is_ask_of n l) (sym (placed_more (is_ask_of n) l J) ∙ h)) [
  | inl before ↦ asked_begun day J n legal.0 before
  | inr here ↦
      let b = and_parts (is_ask l.head.kind) (nat_eq l.head.msg n) here in
      subst (HasBegun day J) (eqb-true l.head.msg n b.1) (ask_begun day J l.head.msg (made_ask l.head.kind day J _ _ _ _ b.0 (made_facts day J l legal.1).1))
])

answered_begun : (day : Day) (J : History) (n : ℕ) → IsLegal day J → is_answered (phase day J n) ≡ true → HasBegun day J n
answered_begun day J n legal h = asked_begun day J n legal (answered_asked day J n h)

cover_begun : (day : Day) (J : History) (n : ℕ) → IsLegal day J → may_cover day J n ≡ true → HasBegun day J n
cover_begun day J n legal h =
    answered_begun day J n legal (and_parts (is_a_or_b (sort_of day n)) (is_answered (phase day J n)) (and_parts _ _ (and_parts _ (fund_suffices day J n) h).0).0).1

made_cover : (kind : Kind) (day : Day) (J : History) (n k : ℕ) (code : Code) (moves : List Move) → is_cover kind ≡ true → Made kind day J n k code moves → may_cover day J n ≡ true
made_cover kinds.Cover day J n k code moves h m = m.0
made_cover _ day J n k code moves h m = cc

covered_begun : (day : Day) (J : History) (n : ℕ) → IsLegal day J → is_some (covered J n) ≡ true → HasBegun day J n
unfolding place_of
covered_begun day [] n legal h = cc
covered_begun day (l ∷ J) n legal h = begun_later day l J n legal (elim (or_cases (is_some (covered J n)) (is_cover_of n l) (sym (placed_more (is_cover_of n) l J) ∙ h)) [
  | inl before ↦ covered_begun day J n legal.0 before
  | inr here ↦
      let b = and_parts (is_cover l.head.kind) (nat_eq l.head.msg n) here in
      subst (HasBegun day J) (eqb-true l.head.msg n b.1) (cover_begun day J l.head.msg legal.0 (made_cover l.head.kind day J _ _ _ _ b.0 (made_facts day J l legal.1).1))
])

-- ---- a pending item's message is open, or covered

of_a : (o v d r b : Bool) → (o && d || v && r && b) ≡ true → (o ≡ true) ⊎ (v ≡ true)
of_a true v d r b h = inl refl
of_a false true d r b h = inr refl
of_a false false d r b h = cc

pending_live : (s : Sort) (day : Day) (J : History) (n k : ℕ) (p : Phase) → pending_as s day J n k p ≡ true → (is_open p ≡ true) ⊎ (is_covered p ≡ true)
pending_live Pay day J n k p h = inl (and_parts _ _ h).1
pending_live BatchA day J n k p h = of_a (is_open p) (is_covered p) (is_next_of_a day J n k) (is_credit day n k) (not (is_booked J n k)) h
pending_live BatchB day J n k p h = inl (and_parts _ _ h).1
pending_live BatchC day J n k p h = inl (and_parts (is_some (entry_at day n k)) _ (and_parts _ _ h).0).1
pending_live BatchE day J n k p h = inl (and_parts (is_some (entry_at day n k)) _ (and_parts _ _ (and_parts _ (not (is_revoked_entry day J n k)) h).0).0).1
pending_live _ day J n k p h = cc

pending_begun : (day : Day) (J : History) (n k : ℕ) → IsLegal day J → is_pending day J (item n k) ≡ true → HasBegun day J n
unfolding is_pending
pending_begun day J n k legal h = elim (pending_live (sort_of day n) day J n k (phase day J n) h) [
  | inl o ↦ has_begun day J n (open_or (phase day J n) o)
  | inr v ↦ covered_begun day J n legal (covered_there day J n v)
]

-- ---- each line but In

pub refused_phase : (s : Bool) (p : Phase) (a f m : Bool) (gn gs ge code : Code) →
    first_some (when (s && is_answered p && not a) gn ∷ when ((s && is_answered p && a) && not f) gs ∷ when (s && is_asking p && m) ge ∷ []) ≡ Some code → (is_answered p ≡ true) ⊎ (is_asking p ≡ true)
refused_phase true phases.Answered a f m gn gs ge code h = inl refl
refused_phase true phases.Asking a f m gn gs ge code h = inr refl
refused_phase true _ a f m gn gs ge code h = cc
refused_phase false p a f m gn gs ge code h = cc

refuse_begun : (day : Day) (J : History) (n : ℕ) (code : Code) → IsLegal day J → refusal day J n ≡ Some code → HasBegun day J n
refuse_begun day J n code legal h = elim (refused_phase (is_a_or_b (sort_of day n)) (phase day J n) _ (fund_suffices day J n) _ _ _ _ code h) [
  | inl a ↦ answered_begun day J n legal a
  | inr a ↦ asked_begun day J n legal (asking_facts day J n a).1
]

-- message 0 is none, and states no time
none_begun : (day : Day) (J : History) (n : ℕ) → n ≡ 0 → HasBegun day J n
none_begun day J n z = subst (HasBegun day J) (sym z) none
  where
    none : HasBegun day J 0
    none time (inl e) = cc
    none time (inr e) = cc

line_begun : (kind : Kind) (day : Day) (J : History) (n k : ℕ) (code : Code) (moves : List Move) → IsLegal day J → is_in kind ≡ false → Made kind day J n k code moves → HasBegun day J n
line_begun kinds.In day J n k code moves legal i m = cc
line_begun kinds.Book day J n k code moves legal i m = pending_begun day J n k legal (and_parts (is_pending day J (item n k)) _ (and_parts _ _ m.0).0).0
line_begun kinds.All day J n k code moves legal i m = pending_begun day J n 0 legal (and_parts _ (is_pending day J (item n 0)) (and_parts _ _ (and_parts _ _ m.0).0).0).1
line_begun kinds.Time day J n k code moves legal i m = none_begun day J n m.3
line_begun kinds.Expire day J n k code moves legal i m = overdue_begun day J n (and_parts (may_lapse (sort_of day n)) (is_overdue (phase day J n)) (and_parts _ _ m.0).0).1
line_begun kinds.Ask day J n k code moves legal i m = ask_begun day J n m.0
line_begun kinds.Cover day J n k code moves legal i m = cover_begun day J n legal m.0
line_begun kinds.Refuse day J n k code moves legal i m = refuse_begun day J n code legal m.0
line_begun kinds.Sweep day J n k code moves legal i m = none_begun day J n m.3
line_begun kinds.End day J n k code moves legal i m = none_begun day J n m.3

pub after_its_start : (day : Day) (J : History) → IsLegal day J → AfterItsStart day J
after_its_start day [] legal = tt
after_its_start day (l ∷ J) legal =
    (after_its_start day J legal.0, λ i. line_begun l.head.kind day J _ _ _ _ legal.0 i (made_facts day J l legal.1).1)

-- ---- the settlement end

-- a payment states no settlement end, and no batch of C that is accepted does
no_end_of_pay : (o : Option Message) → option_map_or (λ m. sort_of_body m.body) o Missing ≡ Pay → option_map_or (λ m. till_in m.body) o None ≡ None
no_end_of_pay None h = refl
no_end_of_pay (Some m) h = here m.body h
  where
    no_batch : (p : Procedure) → sort_of_batch p ≡ Pay → ⊥
    no_batch A h = absurd (let k : is_batch BatchA ≡ is_batch Pay = ap is_batch h in cc)
    no_batch B h = absurd (let k : is_batch BatchB ≡ is_batch Pay = ap is_batch h in cc)
    no_batch C h = absurd (let k : is_batch BatchC ≡ is_batch Pay = ap is_batch h in cc)
    no_batch D h = absurd (let k : is_batch BatchD ≡ is_batch Pay = ap is_batch h in cc)
    no_batch E h = absurd (let k : is_batch BatchE ≡ is_batch Pay = ap is_batch h in cc)

    here : (b : Body) → sort_of_body b ≡ Pay → till_in b ≡ None
    here (bodies.Batch p info from till count sum entries) h = absurd (no_batch p h)
    here (bodies.Pay high debit credit amount) h = refl
    here (bodies.Liquidity debit credit amount) h = refl
    here (bodies.Object system batch) h = refl
    here (bodies.Confirm batch answer) h = refl
    here (bodies.Cycle start) h = refl

none_there : (o : Option ℕ) → is_some o ≡ false → o ≡ None
none_there None h = refl
none_there (Some x) h = cc

no_end_of_c : (s : Sort) (day : Day) (J : History) (n : ℕ) → s ≡ BatchC → times_are_wrong s day J n ≡ false → stated_end day n ≡ None
no_end_of_c s day J n c h =
    let t : states_a_time day n ≡ false = subst (λ x. times_are_wrong x day J n ≡ false) c h in
    none_there (stated_end day n) (or_parts (is_some (info_end day n) || is_some (earliest day n)) (is_some (stated_end day n)) t).1

before_midnight : (day : Day) (J : History) (n : ℕ) → clock J < 86400 → stated_end day n ≡ None → clock J < settlement_end day n
before_midnight day J n h e = subst (λ o. clock J < unwrap_or o 86400) (sym e) h

open_before_end : (s : Sort) (day : Day) (J : History) (n : ℕ) → sort_of day n ≡ s → IsLegal day J → is_accepted J n ≡ true → open_as s day J n ≡ true → clock J < settlement_end day n
open_before_end BatchA day J n e legal a o = ltb-true (clock J) (settlement_end day n) o
open_before_end BatchB day J n e legal a o = ltb-true (clock J) (settlement_end day n) o
open_before_end BatchE day J n e legal a o = ltb-true (clock J) (settlement_end day n) o
open_before_end BatchC day J n e legal a o =
    let t = accepted_taken day J n legal a in
    before_midnight day J n (ltb-true (clock J) 86400 (and_parts (nat_lt (clock J) 86400) _ o).0) (no_end_of_c (sort_of day n) day t.past n e t.passed_then.times_right)
open_before_end Pay day J n e legal a o = before_midnight day J n (ltb-true (clock J) 86400 o) (no_end_of_pay (message_at day n) e)
open_before_end _ day J n e legal a o = cc

pending_before_end : (day : Day) (J : History) (n k : ℕ) → IsLegal day J → is_pending day J (item n k) ≡ true → covered J n ≡ None → clock J < settlement_end day n
unfolding is_pending
pending_before_end day J n k legal h c = elim (pending_live (sort_of day n) day J n k (phase day J n) h) [
  | inl o ↦ open_before_end (sort_of day n) day J n refl legal (going_accepted day J n (open_going (phase day J n) o)) (open_now day J n o).1
  | inr v ↦ absurd (uncovered (covered J n) c (covered_there day J n v))
]
  where
    uncovered : (o : Option ℕ) → o ≡ None → is_some o ≡ true → ⊥
    uncovered None e h = absurd (cc)
    uncovered (Some x) e h = absurd (cc)

line_before_end : (kind : Kind) (day : Day) (J : History) (n k : ℕ) (code : Code) (moves : List Move) → IsLegal day J → (is_book kind || is_all kind) ≡ true → Made kind day J n k code moves → covered J n ≡ None → clock J < settlement_end day n
line_before_end kinds.Book day J n k code moves legal b m c = pending_before_end day J n k legal (and_parts (is_pending day J (item n k)) _ (and_parts _ _ m.0).0).0 c
line_before_end kinds.All day J n k code moves legal b m c = pending_before_end day J n 0 legal (and_parts _ (is_pending day J (item n 0)) (and_parts _ _ (and_parts _ _ m.0).0).0).1 c
line_before_end _ day J n k code moves legal b m c = cc

pub before_its_end : (day : Day) (J : History) → IsLegal day J → BeforeItsEnd day J
before_its_end day [] legal = tt
before_its_end day (l ∷ J) legal =
    (before_its_end day J legal.0, λ b c. line_before_end l.head.kind day J _ _ _ _ legal.0 b (made_facts day J l legal.1).1 c)

-- ---- cycles

open_of_c : (s : Sort) (day : Day) (J : History) (n k : ℕ) (p : Phase) → is_c s ≡ true → pending_as s day J n k p ≡ true → is_open p ≡ true
open_of_c BatchC day J n k p c h = (and_parts (is_some (entry_at day n k)) _ (and_parts _ _ h).0).1
open_of_c _ day J n k p c h = cc

not_ended : (s : Sort) (day : Day) (J : History) (n : ℕ) → is_c s ≡ true → open_as s day J n ≡ true → cycle_ended day n J ≡ false
not_ended BatchC day J n c h = not-true (cycle_ended day n J) (and_parts (nat_lt (clock J) 86400) _ h).1
not_ended _ day J n c h = cc

cycle_goes_on : (day : Day) (J : History) (n k : ℕ) → may_book day J n k ≡ true → is_c (sort_of day n) ≡ true → cycle_ended day n J ≡ false
unfolding is_pending
cycle_goes_on day J n k h c =
    let p : pending_as (sort_of day n) day J n k (phase day J n) ≡ true = (and_parts (pending_as (sort_of day n) day J n k (phase day J n)) _ (and_parts _ _ h).0).0 in
    not_ended (sort_of day n) day J n c (open_now day J n (open_of_c (sort_of day n) day J n k (phase day J n) c p)).1

pub booked_in_its_cycle : (day : Day) (J : History) → IsLegal day J → BookedInItsCycle day J
booked_in_its_cycle day [] legal = tt
booked_in_its_cycle day (l ∷ J) legal =
    (booked_in_its_cycle day J legal.0, λ b c. cycle_goes_on day J l.head.msg l.head.entry (made_book l.head.kind day J _ _ _ _ b (made_facts day J l legal.1).1) c)

-- ---- what accounts keep

book_moves : (kind : Kind) (day : Day) (J : History) (n k : ℕ) (code : Code) (moves : List Move) → is_book kind ≡ true → Made kind day J n k code moves → moves ≡ moves_of_part day (part day n k)
book_moves kinds.Book day J n k code moves h m = m.2
book_moves _ day J n k code moves h m = cc

part_leaves : (day : Day) (l : Line) (J : History) (n k : ℕ) (o : Option Entry) → some_passes (λ e. is_free_part day J (item n k) e && is_covered_part day J n e) o ≡ true → l.moves ≡ moves_of_part day o → Leaves day l J (must_leave day n)
part_leaves day l J n k None h e = cc
part_leaves day l J n k (Some x) h e =
    (move_of day x, e, leb-true (x.amount + must_leave day n (debit_account day x)) (balance day J (debit_account day x)) (and_parts (is_free_part day J (item n k) x) (is_covered_part day J n x) h).1)

book_leaves : (day : Day) (l : Line) (J : History) → Made l.head.kind day J l.head.msg l.head.entry l.head.code l.moves → is_book l.head.kind ≡ true → Leaves day l J (must_leave day l.head.msg)
book_leaves day l J m b =
    part_leaves day l J l.head.msg l.head.entry (part day l.head.msg l.head.entry)
    (and_parts _ _ (made_book l.head.kind day J _ _ _ _ b m)).1
    (book_moves l.head.kind day J _ _ _ _ b m)

-- ---- what a liquidity transfer tells that is taken with code OK

pub record Transferred (day : Day) (l : Line) (J : History) : Type 0 where
  pub entry : Entry
  pub moves : l.moves ≡ move_of day entry ∷ []
  pub leaves : nat_lt (balance day J (debit_account day entry)) (entry.amount + kept day (debit_account day entry) false) ≡ false
  pub unlocked : is_locked day J (debit_account day entry) ≡ false

in_code : (kind : Kind) (day : Day) (J : History) (n k : ℕ) (code : Code) (moves : List Move) → is_in kind ≡ true → Made kind day J n k code moves → code ≡ intake_code day J n
in_code kinds.In day J n k code moves h m = m.1
in_code _ day J n k code moves h m = cc

is_transfer : (s : Sort) → is_liquidity s ≡ true → s ≡ Liquidity
is_transfer Liquidity h = refl
is_transfer _ h = cc

other_fails : (a b : Bool) → a ≡ true → (a && b) ≡ false → b ≡ false
other_fails true b h k = k
other_fails false b h k = cc

transferred : (day : Day) (l : Line) (J : History) → Made l.head.kind day J l.head.msg l.head.entry l.head.code l.moves → takes_well l ≡ true → is_liquidity (sort_of day l.head.msg) ≡ true → Transferred day l J
transferred day l J m well q =
    let n : ℕ = l.head.msg in
    let w = and_parts (is_in l.head.kind) (is_ok l.head.code) well in
    let s : sort_of day n ≡ Liquidity = is_transfer (sort_of day n) q in
    let p : IsPassed day J n = passed_intake day J n (subst (λ c. is_ok c ≡ true) (in_code l.head.kind day J _ _ _ _ w.0 m) w.1) in
    here (transfer day n)
    (ap (λ t. accounts_are_wrong t day n) (sym s) ∙ p.accounts_right)
    (other_fails (is_liquidity (sort_of day n)) _ q p.short_right)
    (other_fails (is_liquidity (sort_of day n)) _ q p.locked_right)
    (taken_moves l.head.kind day J _ _ _ _ w.0 w.1 m ∙ ap (λ t. moves_as t day J n) s)
  where
    here : (o : Option Entry) → not (some_passes (liquidity_fits day (sender day l.head.msg)) o) ≡ false →
        some_passes (λ e. nat_lt (balance day J (debit_account day e)) (e.amount + kept day (debit_account day e) false)) o ≡ false →
        some_passes (λ e. is_locked day J (debit_account day e)) o ≡ false →
        l.moves ≡ transfer_moves day o → Transferred day l J
    here None f short lock e = cc
    here (Some x) f short lock e = record { entry = x; moves = e; leaves = short; unlocked = lock }

transfer_leaves : (day : Day) (l : Line) (J : History) → Transferred day l J → Leaves day l J (λ a. kept day a false)
transfer_leaves day l J t = (move_of day t.entry, t.moves, ltb-false (balance day J (debit_account day t.entry)) (t.entry.amount + kept day (debit_account day t.entry) false) t.leaves)

transfer_moved : (day : Day) (l : Line) (J : History) → Made l.head.kind day J l.head.msg l.head.entry l.head.code l.moves → takes_well l ≡ true → is_liquidity (sort_of day l.head.msg) ≡ true → l.moves ≡ transfer_moves day (transfer day l.head.msg)
transfer_moved day l J m well q =
    let w = and_parts (is_in l.head.kind) (is_ok l.head.code) well in
    let s : sort_of day l.head.msg ≡ Liquidity = is_transfer (sort_of day l.head.msg) q in
    taken_moves l.head.kind day J _ _ _ _ w.0 w.1 m ∙ ap (λ t. moves_as t day J l.head.msg) s

-- what a line of a batch of A gives back that ends it
gives_back : (s : Sort) (day : Day) (J : History) (n : ℕ) → is_a s ≡ true → reversal s day J n ≡ map (return_of day n) (debit_entries_by day n (is_booked J n))
gives_back BatchA day J n h = refl
gives_back _ day J n h = cc

end_moves : (kind : Kind) (day : Day) (J : History) (n k : ℕ) (code : Code) (moves : List Move) → is_expire_or_refuse kind ≡ true → is_a (sort_of day n) ≡ true → Made kind day J n k code moves → GivesBackTheBooked day J n moves
end_moves kinds.Expire day J n k code moves h a m = m.2 ∙ gives_back (sort_of day n) day J n a
end_moves kinds.Refuse day J n k code moves h a m = m.2 ∙ gives_back (sort_of day n) day J n a
end_moves _ day J n k code moves h a m = cc

-- and lines that move nothing
no_reversal : (s : Sort) (day : Day) (J : History) (n : ℕ) → is_a s ≡ false → reversal s day J n ≡ []
no_reversal BatchA day J n h = cc
no_reversal _ day J n h = refl

none_moved : (s : Sort) (day : Day) (J : History) (n : ℕ) → (is_liquidity s || is_d s) ≡ false → moves_as s day J n ≡ []
none_moved Liquidity day J n h = cc
none_moved BatchD day J n h = cc
none_moved _ day J n h = refl

none_taken : (c : Code) (day : Day) (J : History) (n : ℕ) → (is_ok c && (is_liquidity (sort_of day n) || is_d (sort_of day n))) ≡ false → intake_moves day J n c ≡ []
none_taken line_codes.Ok day J n h = none_moved (sort_of day n) day J n h
none_taken _ day J n h = refl

stays_still : (kind : Kind) (day : Day) (J : History) (n k : ℕ) (code : Code) (moves : List Move) → may_move kind code (sort_of day n) ≡ false → Made kind day J n k code moves → moves ≡ []
stays_still kinds.In day J n k code moves h m = m.2 ∙ none_taken (intake_code day J n) day J n ((λ i. is_ok (sym m.1 i) && (is_liquidity (sort_of day n) || is_d (sort_of day n))) ∙ h)
stays_still kinds.Time day J n k code moves h m = m.2
stays_still kinds.Expire day J n k code moves h m = m.2 ∙ no_reversal (sort_of day n) day J n h
stays_still kinds.Ask day J n k code moves h m = m.2
stays_still kinds.Refuse day J n k code moves h m = m.2 ∙ no_reversal (sort_of day n) day J n h
stays_still kinds.End day J n k code moves h m = m.2
stays_still kinds.All day J n k code moves h m =
    absurd (false≢true (sym h ∙ (and_parts (is_b (sort_of day n)) (is_pending day J (item n 0)) (and_parts _ _ (and_parts _ _ m.0).0).0).0))
stays_still kinds.Cover day J n k code moves h m =
    absurd (false≢true (sym h ∙ (and_parts (is_a_or_b (sort_of day n)) (is_answered (phase day J n)) (and_parts _ _ (and_parts _ _ m.0).0).0).0))
stays_still _ day J n k code moves h m = cc

whole_moves : (kind : Kind) (day : Day) (J : History) (n k : ℕ) (code : Code) (moves : List Move) → is_all kind ≡ true → Made kind day J n k code moves → moves ≡ map (move_of day) (debit_entries day n) ++ map (move_of day) (credit_entries day n)
whole_moves kinds.All day J n k code moves h m = m.2
whole_moves _ day J n k code moves h m = cc

pub moved_as_stated : (day : Day) (J : History) → IsLegal day J → MovedAsStated day J
moved_as_stated day [] legal = tt
moved_as_stated day (l ∷ J) legal =
    let m = (made_facts day J l legal.1).1 in
    (moved_as_stated day J legal.0, (λ b. book_moves l.head.kind day J _ _ _ _ b m, λ w q. transfer_moved day l J m w q, λ e a. end_moves l.head.kind day J _ _ _ _ e a m, λ s. stays_still l.head.kind day J _ _ _ _ s m, λ w. whole_moves l.head.kind day J _ _ _ _ w m))

pub reserves_are_kept : (day : Day) (J : History) → IsLegal day J → ReservesAreKept day J
reserves_are_kept day [] legal = tt
reserves_are_kept day (l ∷ J) legal =
    let m = (made_facts day J l legal.1).1 in
    (reserves_are_kept day J legal.0, (λ b. book_leaves day l J m b, λ w q. transfer_leaves day l J (transferred day l J m w q)))

-- ---- sub-accounts

is_unlocked : (day : Day) (J : History) (a : ℕ) → is_locked day J a ≡ false → IsUnlocked day J a
is_unlocked day J a h sub system e = here (linked day a) (other_fails (is_sub_account day a) _ sub h) e
  where
    same : (x y : List ℕ) → Some x ≡ Some y → x ≡ y
    same x y p = cc

    here : (o : Option (List ℕ)) → some_passes (λ name. is_some (open_cycle day name J)) o ≡ false → o ≡ Some system → open_cycle day system J ≡ None
    here None h e = cc
    here (Some name) h e = none_there (open_cycle day system J) (subst (λ x. is_some (open_cycle day x J) ≡ false) (same name system e) h)

pub locked_in_cycles : (day : Day) (J : History) → IsLegal day J → LockedInCycles day J
locked_in_cycles day [] legal = tt
locked_in_cycles day (l ∷ J) legal =
    (locked_in_cycles day J legal.0, λ w q. let t = transferred day l J (made_facts day J l legal.1).1 w q in (move_of day t.entry, t.moves, is_unlocked day J (debit_account day t.entry) t.unlocked))
