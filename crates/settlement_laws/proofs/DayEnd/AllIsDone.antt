-- At the end every accepted payment or batch is settled, revoked or closed.
use Rattle.std.proofs.Common.{◌≡◌, ℕ, ◌≤◌, ◌<◌, Bool, true, false, not, ◌&&◌, List, [], ◌∷◌, Option, Some, None, refl, sym, ap, ◌∙◌, arith, ◌⊎◌, inl, inr}
use Rattle.std.specs.Prelude.{is_some, is_none, nat_eq, nat_lt, unwrap_or}
use Rattle.std.specs.List.{list_all}
use Rattle.std.specs.Option.{option_map_or}
use Rattle.std.proofs.lemmas.Bool.{eqb-true, ltb-true, leb-true, not-true, and_left, and_parts}
use Rattle.batch_records.specs.DayRecord.{Day}
use Rattle.batch_records.specs.declared.day.Message.{Message}
use Rattle.batch_records.specs.declared.day.Body.{Body}
use Rattle.batch_records.specs.declared.day.Body.TheVariants as bodies
use Rattle.batch_records.specs.Sound.{is_sound, is_sound_body, is_time_or_none, is_amount}
use Rattle.commit_journal.specs.declared.line.Move.{Move}
use Rattle.commit_journal.specs.declared.line.Code.{Code}
use Rattle.commit_journal.specs.declared.line.Code.TheVariants as line_codes
use Rattle.commit_journal.specs.declared.line.Kind.{Kind}
use Rattle.commit_journal.specs.declared.line.Kind.TheVariants as kinds
use Rattle.commit_journal.specs.Line.{History}
use Rattle.machine.specs.declared.answers.Phase.{Phase}
use Rattle.machine.specs.declared.answers.Phase.TheVariants as phases
use Rattle.machine.specs.Words.{when, first_some, some_passes}
use Rattle.machine.specs.Records.Messages.{Sort, Pay, BatchA, BatchB, BatchC, BatchE, sort_of, is_a, is_a_or_b, message_at, info_in, earliest_in, till_in, earliest, info_end, stated_end}
use Rattle.machine.specs.Telling.History.{taken, is_accepted, asked, covered, closed, clock, is_end}
use Rattle.machine.specs.Telling.Facts.{answered, cycle_ended}
use Rattle.machine.specs.Stages.Phases.{phase, is_no_order, revoked_as, settled_as, open_as, is_open, is_asking, is_waiting, is_information}
use Rattle.machine.specs.Making.Lines.{is_ready, refusal, is_answered_no, is_answered_yes, fund_suffices}
use Rattle.machine.specs.Legal.{IsLegal}
use Rattle.machine.specs.Laws.{AllIsDone, is_due, is_done, is_order}
use Rattle.settlement_laws.proofs.DayEnd.EndChangesNothing.{end_is, accepted_end, phase_end}
use Rattle.settlement_laws.proofs.Base.Made.{Made, made_facts}
use Rattle.settlement_laws.proofs.Base.PhaseLaws.{table, OpenFacts, open_facts}
use Rattle.settlement_laws.proofs.Base.Lists.{never}
use Rattle.settlement_laws.proofs.ProcedureA.PhasesInForce.{information_table}
use Rattle.settlement_laws.proofs.ProcedureA.SettlesInTime.{sound_message}
use Rattle.settlement_laws.proofs.DayEnd.NothingIsDue.{NoWant, no_want, nothing_due}
use Rattle.settlement_laws.proofs.Base.OngoingPhases.{asked_sort, accepted_there}

-- ---- phases

is_out : Phase → Bool
is_out phases.Untaken = true
is_out phases.Rejected = true
is_out _ = false

out_table : (a b c d e f g h i j w k : Bool) → is_out (table a b c d e f g h i j w k) ≡ true → (a ≡ true) ⊎ (b ≡ true)
unfolding is_out
out_table true b c d e f g h i j w k p = inl refl
out_table false true c d e f g h i j w k p = inr refl
out_table false false true d e f g h i j w k p = cc
out_table false false false true e f g h i j w k p = cc
out_table false false false false true f g h i j w k p = cc
out_table false false false false false true g h i j w k p = cc
out_table false false false false false false true h i j w k p = cc
out_table false false false false false false false true i j w k p = cc
out_table false false false false false false false false true j w k p = cc
out_table false false false false false false false false false true w k p = cc
out_table false false false false false false false false false false true k p = cc
out_table false false false false false false false false false false false true p = cc
out_table false false false false false false false false false false false false p = cc

waiting_table : (a b c d e f g h i j w k : Bool) → is_waiting (table a b c d e f g h i j w k) ≡ true → w ≡ true
waiting_table true b c d e f g h i j w k p = cc
waiting_table false true c d e f g h i j w k p = cc
waiting_table false false true d e f g h i j w k p = cc
waiting_table false false false true e f g h i j w k p = cc
waiting_table false false false false true f g h i j w k p = cc
waiting_table false false false false false true g h i j w k p = cc
waiting_table false false false false false false true h i j w k p = cc
waiting_table false false false false false false false true i j w k p = cc
waiting_table false false false false false false false false true j w k p = cc
waiting_table false false false false false false false false false true w k p = cc
waiting_table false false false false false false false false false false true k p = refl
waiting_table false false false false false false false false false false false true p = cc
waiting_table false false false false false false false false false false false false p = cc

asking_table : (a b c d e f g h i j w k : Bool) → is_asking (table a b c d e f g h i j w k) ≡ true → i ≡ true
asking_table true b c d e f g h i j w k p = cc
asking_table false true c d e f g h i j w k p = cc
asking_table false false true d e f g h i j w k p = cc
asking_table false false false true e f g h i j w k p = cc
asking_table false false false false true f g h i j w k p = cc
asking_table false false false false false true g h i j w k p = cc
asking_table false false false false false false true h i j w k p = cc
asking_table false false false false false false false true i j w k p = cc
asking_table false false false false false false false false true j w k p = refl
asking_table false false false false false false false false false true w k p = cc
asking_table false false false false false false false false false false true k p = cc
asking_table false false false false false false false false false false false true p = cc
asking_table false false false false false false false false false false false false p = cc

module _ (day : Day) (J : History) (n : ℕ) where
  not_out : is_accepted J n ≡ true → is_out (phase day J n) ≡ true → ⊥
  unfolding phase
  not_out a h = elim (out_table (is_none (taken J n)) (not (is_accepted J n)) (is_no_order (sort_of day n)) (is_some (closed J n)) (revoked_as (sort_of day n) day J n) (settled_as (sort_of day n) day J n) (is_a (sort_of day n) && is_some (covered J n)) (is_some (asked J n) && is_some (answered day J n)) (is_some (asked J n)) (some_passes (nat_lt (clock J)) (info_end day n)) (some_passes (nat_lt (clock J)) (earliest day n)) (open_as (sort_of day n) day J n) h) [
    | inl u ↦ never (is_none (taken J n)) u (some_none (taken J n) (accepted_there J n a))
    | inr r ↦ never (not (is_accepted J n)) r (ap not a)
  ]
    where
      some_none : (o : Option ℕ) → is_some o ≡ true → is_none o ≡ false
      some_none None h = sym h
      some_none (Some x) h = refl

  asking_asked : is_asking (phase day J n) ≡ true → is_some (asked J n) ≡ true
  unfolding phase
  asking_asked h = asking_table (is_none (taken J n)) (not (is_accepted J n)) (is_no_order (sort_of day n)) (is_some (closed J n)) (revoked_as (sort_of day n) day J n) (settled_as (sort_of day n) day J n) (is_a (sort_of day n) && is_some (covered J n)) (is_some (asked J n) && is_some (answered day J n)) (is_some (asked J n)) (some_passes (nat_lt (clock J)) (info_end day n)) (some_passes (nat_lt (clock J)) (earliest day n)) (open_as (sort_of day n) day J n) h

  informed_before : is_information (phase day J n) ≡ true → some_passes (nat_lt (clock J)) (info_end day n) ≡ true
  unfolding phase
  informed_before h = (information_table (is_none (taken J n)) (not (is_accepted J n)) (is_no_order (sort_of day n)) (is_some (closed J n)) (revoked_as (sort_of day n) day J n) (settled_as (sort_of day n) day J n) (is_a (sort_of day n) && is_some (covered J n)) (is_some (asked J n) && is_some (answered day J n)) (is_some (asked J n)) (some_passes (nat_lt (clock J)) (info_end day n)) (some_passes (nat_lt (clock J)) (earliest day n)) (open_as (sort_of day n) day J n) h).2

  waited_before : is_waiting (phase day J n) ≡ true → some_passes (nat_lt (clock J)) (earliest day n) ≡ true
  unfolding phase
  waited_before h = waiting_table (is_none (taken J n)) (not (is_accepted J n)) (is_no_order (sort_of day n)) (is_some (closed J n)) (revoked_as (sort_of day n) day J n) (settled_as (sort_of day n) day J n) (is_a (sort_of day n) && is_some (covered J n)) (is_some (asked J n) && is_some (answered day J n)) (is_some (asked J n)) (some_passes (nat_lt (clock J)) (info_end day n)) (some_passes (nat_lt (clock J)) (earliest day n)) (open_as (sort_of day n) day J n) h

  open_before : is_open (phase day J n) ≡ true → open_as (sort_of day n) day J n ≡ true
  unfolding OpenFacts
  open_before h = (open_facts day J n h).open_yes

-- ---- no time of a sound day is past midnight

not_past : (c t : ℕ) → c ≡ 86400 → t ≤ 86400 → nat_lt c t ≡ false
not_past c t e h = here (nat_lt c t) refl
  where
    here : (b : Bool) → nat_lt c t ≡ b → b ≡ false
    here true k = absurd (let x : c < t = ltb-true c t k in omega arith)
    here false k = refl

within : (o : Option ℕ) (c : ℕ) → is_time_or_none o ≡ true → c ≡ 86400 → (some_passes (nat_lt c) o ≡ false) × (nat_lt c (unwrap_or o 86400) ≡ false)
within None c h e = (refl, not_past c 86400 e (omega arith))
within (Some t) c h e = let x : nat_lt c t ≡ false = not_past c t e (leb-true t 86400 h) in (x, x)

body_times : (b : Body) → is_sound_body b ≡ true → (is_time_or_none (info_in b) ≡ true) × (is_time_or_none (earliest_in b) ≡ true) × (is_time_or_none (till_in b) ≡ true)
body_times (bodies.Batch p info early till count sum entries) h =
    let x = and_parts (is_time_or_none info && is_time_or_none early) (is_time_or_none till) (and_parts _ _ (and_parts _ _ (and_parts _ (list_all (λ e. is_amount e.amount) entries) h).0).0).0 in
    let y = and_parts (is_time_or_none info) (is_time_or_none early) x.0 in
    (y.0, y.1, x.1)
body_times _ h = (refl, refl, refl)

times_within : (day : Day) (n : ℕ) → is_sound day ≡ true → (is_time_or_none (info_end day n) ≡ true) × (is_time_or_none (earliest day n) ≡ true) × (is_time_or_none (stated_end day n) ≡ true)
times_within day n sound = here (message_at day n) (λ m e. sound_message day n m sound e)
  where
    here : (o : Option Message) → ((m : Message) → o ≡ Some m → is_sound_body m.body ≡ true) → (is_time_or_none (option_map_or (λ (m : Message). info_in m.body) o None) ≡ true) × (is_time_or_none (option_map_or (λ (m : Message). earliest_in m.body) o None) ≡ true) × (is_time_or_none (option_map_or (λ (m : Message). till_in m.body) o None) ≡ true)
    here None h = (refl, refl, refl)
    here (Some m) h = body_times m.body (h m refl)

never_open : (s : Sort) (day : Day) (J : History) (n : ℕ) → clock J ≡ 86400 → is_time_or_none (stated_end day n) ≡ true → open_as s day J n ≡ false
never_open BatchA day J n c h = (within (stated_end day n) (clock J) h c).1
never_open BatchB day J n c h = (within (stated_end day n) (clock J) h c).1
never_open BatchE day J n c h = (within (stated_end day n) (clock J) h c).1
never_open BatchC day J n c h = and_left (nat_lt (clock J) 86400) (not (cycle_ended day n J)) (not_past (clock J) 86400 c (omega arith))
never_open Pay day J n c h = not_past (clock J) 86400 c (omega arith)
never_open _ day J n c h = refl

-- ---- the law

unanswered : (a b s p m : Bool) (x y z : Code) → s ≡ true → p ≡ true → m ≡ true → is_some (first_some (when a x ∷ when b y ∷ when (s && p && m) z ∷ [])) ≡ true
unanswered true b s p m x y z es ep em = refl
unanswered false true s p m x y z es ep em = refl
unanswered false false true true true x y z es ep em = refl
unanswered false false false p m x y z es ep em = never false es refl
unanswered false false true false m x y z es ep em = never false ep refl
unanswered false false true true false x y z es ep em = never false em refl

done : (day : Day) (J : History) (n : ℕ) → is_sound day ≡ true → IsLegal day J → nat_eq (clock J) 86400 ≡ true → is_ready day J ≡ false → is_order (sort_of day n) ≡ true → is_accepted J n ≡ true → is_done (phase day J n) ≡ true
unfolding is_out
done day J n sound legal midnight none o a = here (phase day J n) refl
  where
    w : NoWant day J n
    w = no_want day J n none

    due : is_due (phase day J n) ≡ false
    due = nothing_due day J n legal none o

    c : clock J ≡ 86400
    c = eqb-true (clock J) 86400 midnight

    here : (p : Phase) → phase day J n ≡ p → is_done p ≡ true
    here phases.Settled e = refl
    here phases.Revoked e = refl
    here phases.Closed e = refl
    here phases.Overdue e = never (is_due (phase day J n)) (ap is_due e) due
    here phases.Answered e = never (is_due (phase day J n)) (ap is_due e) due
    here phases.Covered e = never (is_due (phase day J n)) (ap is_due e) due
    here phases.Untaken e = absurd (not_out day J n a (ap is_out e))
    here phases.Rejected e = absurd (not_out day J n a (ap is_out e))
    here phases.Asking e = never (is_some (refusal day J n)) (unanswered (is_answered_no day J n) (is_answered_yes day J n && not (fund_suffices day J n)) (is_a_or_b (sort_of day n)) (is_asking (phase day J n)) (nat_eq (clock J) 86400) line_codes.Gn line_codes.Gs line_codes.Ge (asked_sort day J n legal (asking_asked day J n (ap is_asking e))) (ap is_asking e) midnight) w.no_refusal
    here phases.Information e = never (some_passes (nat_lt (clock J)) (info_end day n)) (informed_before day J n (ap is_information e)) (within (info_end day n) (clock J) (times_within day n sound).0 c).0
    here phases.Waiting e = never (some_passes (nat_lt (clock J)) (earliest day n)) (waited_before day J n (ap is_waiting e)) (within (earliest day n) (clock J) (times_within day n sound).1 c).0
    here phases.Open e = never (open_as (sort_of day n) day J n) (open_before day J n (ap is_open e)) (never_open (sort_of day n) day J n c (times_within day n sound).2)

end_clock : (kind : Kind) (day : Day) (J : History) (n k : ℕ) (code : Code) (moves : List Move) → is_end kind ≡ true → Made kind day J n k code moves → (nat_eq (clock J) 86400 ≡ true) × (is_ready day J ≡ false)
end_clock kinds.End day J n k code moves h m = let b = and_parts (nat_eq (clock J) 86400) (not (is_ready day J)) m.0 in (b.0, not-true _ b.1)
end_clock _ day J n k code moves h m = cc

pub all_is_done : (day : Day) (J : History) → is_sound day ≡ true → IsLegal day J → AllIsDone day J
all_is_done day [] sound legal e n o a = cc
all_is_done day (l ∷ J) sound legal e n o a =
    let t = end_clock l.head.kind day J _ _ _ _ e (made_facts day J l legal.1).1 in
    let accepted : is_accepted J n ≡ true = sym (accepted_end J n) ∙ ap (λ x. is_accepted (x ∷ J) n) (end_is day l J legal e) ∙ a in
    let before : is_done (phase day J n) ≡ true = done day J n sound legal.0 t.0 t.1 o accepted in
    ap (λ x. is_done (phase day (x ∷ J) n)) (sym (end_is day l J legal e)) ∙ ap is_done (phase_end day J n) ∙ before
