-- Laws that follow from one line's condition: credits follow debits, repeats do nothing, balances catch up.
use Rattle.std.proofs.Common.{◌≡◌, ℕ, zero, suc, ◌+◌, Bool, true, false, not, ◌&&◌, ◌||◌, List, [], ◌∷◌, ◌++◌, Option, Some, None, refl, sym, ◌∙◌, ap, subst, arith, cond, ◌⊎◌, inl, inr}
use Rattle.std.specs.Prelude.{is_some, is_none, nat_eq, IsSome, reverse, flat_map}
use Rattle.std.proofs.lemmas.Grind.{flat_map-append}
use Rattle.std.proofs.lemmas.Bool.{eqb-true, and_parts}
use Rattle.std.proofs.lemmas.List.{reverse-append}
use Rattle.batch_records.specs.DayRecord.{Day}
use Rattle.batch_records.specs.declared.day.Entry.{Entry}
use Rattle.commit_journal.specs.declared.line.Move.{Move}
use Rattle.commit_journal.specs.declared.line.Code.{Code}
use Rattle.commit_journal.specs.declared.line.Kind.{Kind}
use Rattle.commit_journal.specs.declared.line.Kind.TheVariants as kinds
use Rattle.commit_journal.specs.Line.{Line, History}
use Rattle.machine.specs.declared.answers.Phase.{Phase}
use Rattle.machine.specs.Words.{some_passes}
use Rattle.machine.specs.Records.Messages.{Sort, BatchA, sort_of, is_a, is_b, is_credit, is_debit_entry, entry_at, is_a_or_b, is_repeat}
use Rattle.machine.specs.Telling.History.{is_book, covered, is_accepted}
use Rattle.machine.specs.Telling.Balances.{credits, debits, credited, debited}
use Rattle.machine.specs.Stages.Phases.{phase, is_open, is_covered, is_overdue, is_answered, is_booked}
use Rattle.machine.specs.Stages.Pending.{is_pending, pending_as, first_unbooked_debit}
use Rattle.machine.specs.Making.Lines.{may_book, may_lapse, fund_suffices}
use Rattle.commit_journal.specs.declared.line.Code.TheVariants as line_codes
use Rattle.machine.specs.Stages.Intake.{intake_code, intake_moves}
use Rattle.settlement_laws.proofs.Base.IntakeFacts.{accepted_taken}
use Rattle.settlement_laws.proofs.Balances.MovesOfTheDay.{pending_going, refusal_going}
use Rattle.machine.specs.Legal.{IsLegal, moves_in_order}
use Rattle.machine.specs.Laws.{WaitsForDebits, CreditsFollowDebits, RepeatsDoNothing}
use Rattle.machine.specs.OtherLaws.{CatchesUp}
use Rattle.settlement_laws.proofs.Base.Made.{Made, made_facts, made_book}
use Rattle.settlement_laws.proofs.Base.PhaseLaws.{covered_is_covered, going_accepted, overdue_going, answered_going}
use Rattle.settlement_laws.proofs.ProcedureB.WholeIsCovered.{debits-append, credits-append}

-- ---- A credits wait for the debits, or for the fund

-- o: open, v: covered, b: not booked, d: a debit, u: no debit is unbooked
waits : (o v b d u : Bool) → (o && (b && (d || not d && u)) || v && not d && b) ≡ true → not d ≡ true → (u ≡ true) ⊎ (v ≡ true)
waits o v b true u h k = inl (absurd (no k))
  where
    no : false ≡ true → ⊥
    no z = cc
waits o true b false u h k = inr refl
waits o false b false true h k = inl refl
waits true false true false false h k = cc
waits true false false false false h k = cc
waits false false b false false h k = cc

none_is : {X : Type 0} (o : Option X) → is_none o ≡ true → o ≡ None
none_is None h = refl
none_is (Some x) h = cc

pub credit_waits : (day : Day) (J : History) (n k : ℕ) (e : Option Entry) (s : Sort) (p : Phase) → is_a s ≡ true → entry_at day n k ≡ e → is_credit day n k ≡ true → pending_as s day J n k p ≡ true → (is_none (first_unbooked_debit day J n) ≡ true) ⊎ (is_covered p ≡ true)
credit_waits day J n k None BatchA p a e c h = absurd (no (sym (ap (some_passes (λ e. not (is_debit_entry day n e))) e) ∙ c))
  where
    no : false ≡ true → ⊥
    no z = cc
credit_waits day J n k (Some x) BatchA p a e c h = waits (is_open p) (is_covered p) (not (is_booked J n k)) (is_debit_entry day n x) (is_none (first_unbooked_debit day J n))
    (subst (λ o. (is_open p && (not (is_booked J n k) && (some_passes (is_debit_entry day n) o || some_passes (λ e. not (is_debit_entry day n e)) o && is_none (first_unbooked_debit day J n))) || is_covered p && some_passes (λ e. not (is_debit_entry day n e)) o && not (is_booked J n k)) ≡ true) e h)
    (subst (λ o. some_passes (λ e. not (is_debit_entry day n e)) o ≡ true) e c)
credit_waits day J n k x _ p a e c h = cc

pub waits_for_debits : (day : Day) (J : History) (n k : ℕ) → is_a (sort_of day n) ≡ true → is_credit day n k ≡ true → may_book day J n k ≡ true → (first_unbooked_debit day J n ≡ None) ⊎ IsSome (covered J n)
unfolding is_pending
waits_for_debits day J n k a c h =
    let p : pending_as (sort_of day n) day J n k (phase day J n) ≡ true = (and_parts (pending_as (sort_of day n) day J n k (phase day J n)) (not (is_b (sort_of day n))) (and_parts _ _ h).0).0 in
    elim (credit_waits day J n k (entry_at day n k) (sort_of day n) (phase day J n) a refl c p) [
      | inl u ↦ inl (none_is (first_unbooked_debit day J n) u)
      | inr v ↦ inr (and_parts (is_a (sort_of day n)) (is_some (covered J n)) (covered_is_covered day J n v)).1
    ]

line_waits : (day : Day) (l : Line) (J : History) → Made l.head.kind day J l.head.msg l.head.entry l.head.code l.moves → WaitsForDebits day l J
line_waits day l J m n k b a c =
    let i = and_parts (is_book l.head.kind && nat_eq l.head.msg n) (nat_eq l.head.entry k) b in
    let j = and_parts (is_book l.head.kind) (nat_eq l.head.msg n) i.0 in
    let h : may_book day J l.head.msg l.head.entry ≡ true = made_book l.head.kind day J _ _ _ _ j.0 m in
    waits_for_debits day J n k a c (subst (λ x. may_book day J x k ≡ true) (eqb-true l.head.msg n j.1) (subst (λ y. may_book day J l.head.msg y ≡ true) (eqb-true l.head.entry k i.1) h))

pub credits_follow_debits : (day : Day) (J : History) → IsLegal day J → CreditsFollowDebits day J
credits_follow_debits day [] legal = tt
credits_follow_debits day (l ∷ J) legal = (credits_follow_debits day J legal.0, line_waits day l J (made_facts day J l legal.1).1)

-- ---- catching up

pub moves_more : (l : Line) (later : History) → moves_in_order (l ∷ later) ≡ moves_in_order later ++ l.moves
moves_more l later = ap (flat_map (λ (x : Line). x.moves)) (reverse-append (l ∷ []) later) ∙ flat_map-append (λ (x : Line). x.moves) (reverse later) (l ∷ []) ∙ ap (λ x. moves_in_order later ++ x) (append_nil l.moves)
  where
    append_nil : (xs : List Move) → xs ++ [] ≡ xs
    append_nil [] = refl
    append_nil (x ∷ xs) = ap (λ r. x ∷ r) (append_nil xs)

pub catches_up : (day : Day) (old later : History) → CatchesUp day old later
unfolding credited debited
catches_up day old [] a = (omega arith, omega arith)
catches_up day old (l ∷ later) a =
    let k : (credited (later ++ old) a ≡ credited old a + credits a (moves_in_order later)) × (debited (later ++ old) a ≡ debited old a + debits a (moves_in_order later)) = catches_up day old later a in
    let c : credits a (moves_in_order (l ∷ later)) ≡ credits a (moves_in_order later) + credits a l.moves = ap (credits a) (moves_more l later) ∙ credits-append a (moves_in_order later) l.moves in
    let d : debits a (moves_in_order (l ∷ later)) ≡ debits a (moves_in_order later) + debits a l.moves = ap (debits a) (moves_more l later) ∙ debits-append a (moves_in_order later) l.moves in
    (omega (arith, k.0), omega (arith, k.1))

-- ---- what a line tells of its message: it takes it, there is none, or the message was accepted

pub record Takes (kind : Kind) (day : Day) (J : History) (n k : ℕ) (code : Code) (moves : List Move) : Type 0 where
  pub intake : kind ≡ kinds.In
  pub made_so : Made kinds.In day J n k code moves

abbrev pub Tells : Kind → Day → History → ℕ → ℕ → Code → List Move → Type 0
Tells kind day J n k code moves = Takes kind day J n k code moves ⊎ ((n ≡ 0) ⊎ (is_accepted J n ≡ true))

pub tells : (kind : Kind) (day : Day) (J : History) (n k : ℕ) (code : Code) (moves : List Move) → Made kind day J n k code moves → Tells kind day J n k code moves
unfolding is_pending
tells kinds.In day J n k code moves m = inl (record { intake = refl; made_so = m })
tells kinds.Book day J n k code moves m = inr (inr (going_accepted day J n (pending_going (sort_of day n) day J n k (phase day J n) (and_parts (pending_as (sort_of day n) day J n k (phase day J n)) (not (is_b (sort_of day n))) (and_parts _ _ m.0).0).0)))
tells kinds.All day J n k code moves m = inr (inr (going_accepted day J n (pending_going (sort_of day n) day J n 0 (phase day J n) (and_parts (is_b (sort_of day n)) (pending_as (sort_of day n) day J n 0 (phase day J n)) (and_parts _ _ (and_parts _ _ m.0).0).0).1)))
tells kinds.Expire day J n k code moves m = inr (inr (going_accepted day J n (overdue_going (phase day J n) (and_parts (may_lapse (sort_of day n)) (is_overdue (phase day J n)) (and_parts _ _ m.0).0).1)))
tells kinds.Ask day J n k code moves m = inr (inr (going_accepted day J n (overdue_going (phase day J n) (and_parts (is_a_or_b (sort_of day n)) (is_overdue (phase day J n)) (and_parts _ _ (and_parts _ _ m.0).0).0).1)))
tells kinds.Cover day J n k code moves m = inr (inr (going_accepted day J n (answered_going (phase day J n) (and_parts (is_a_or_b (sort_of day n)) (is_answered (phase day J n)) (and_parts _ _ (and_parts _ _ m.0).0).0).1)))
tells kinds.Refuse day J n k code moves m = inr (inr (going_accepted day J n (refusal_going (is_a_or_b (sort_of day n)) (phase day J n) _ (fund_suffices day J n) _ _ _ _ code m.0)))
tells kinds.Sweep day J n k code moves m = inr (inl m.3)
tells kinds.Time day J n k code moves m = inr (inl m.3)
tells kinds.End day J n k code moves m = inr (inl m.3)

-- ---- a repeat is taken as a repeat, and nothing else

-- the code of a repeat
repeat_code : (day : Day) (J : History) (n : ℕ) → is_repeat day n ≡ true → intake_code day J n ≡ line_codes.Du
unfolding intake_code
repeat_code day J n h = first_du (is_repeat day n) _ h
  where
    first_du : (b : Bool) (c : Code) → b ≡ true → cond b line_codes.Du c ≡ line_codes.Du
    first_du true c h = refl
    first_du false c h = cc

repeat_moves : (day : Day) (J : History) (n : ℕ) (c : Code) → c ≡ line_codes.Du → intake_moves day J n c ≡ []
repeat_moves day J n line_codes.Ok e = cc
repeat_moves day J n _ e = refl

never_accepted : {X : Type 0} (day : Day) (J : History) (n : ℕ) → IsLegal day J → is_repeat day n ≡ true → is_accepted J n ≡ true → X
never_accepted day J n legal r a = absurd (no (sym (accepted_taken day J n legal a).passed_then.repeat_right ∙ r))
  where
    no : false ≡ true → ⊥
    no z = cc

number_zero : (day : Day) (n : ℕ) → n ≡ 0 → is_repeat day n ≡ false
number_zero day zero e = refl
number_zero day (suc n) e = absurd (omega arith)

no_repeat : {X : Type 0} (day : Day) (n : ℕ) → n ≡ 0 → is_repeat day n ≡ true → X
no_repeat day n e r = absurd (no (sym (number_zero day n e) ∙ r))
  where
    no : false ≡ true → ⊥
    no z = cc

abbrev AsRepeat : Kind → Code → List Move → Type 0
AsRepeat kind code moves = (kind ≡ kinds.In) × (code ≡ line_codes.Du) × (moves ≡ [])

repeat_line : (kind : Kind) (day : Day) (J : History) (n k : ℕ) (code : Code) (moves : List Move) → IsLegal day J → is_repeat day n ≡ true → Tells kind day J n k code moves → AsRepeat kind code moves
repeat_line kind day J n k code moves legal r (inl t) = (t.intake, t.made_so.1 ∙ repeat_code day J n r, t.made_so.2 ∙ repeat_moves day J n (intake_code day J n) (repeat_code day J n r))
repeat_line kind day J n k code moves legal r (inr (inl e)) = no_repeat day n e r
repeat_line kind day J n k code moves legal r (inr (inr a)) = never_accepted day J n legal r a

pub repeats_do_nothing : (day : Day) (J : History) → IsLegal day J → RepeatsDoNothing day J
repeats_do_nothing day [] legal = tt
repeats_do_nothing day (l ∷ J) legal = (repeats_do_nothing day J legal.0, λ r. repeat_line l.head.kind day J l.head.msg l.head.entry l.head.code l.moves legal.0 r (tells l.head.kind day J _ _ _ _ (made_facts day J l legal.1).1))
