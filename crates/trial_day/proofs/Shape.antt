-- The whole journal of an ample day: lines that take and settle, one Time line, and the End line.
use Rattle.std.proofs.Common.{◌≡◌, ℕ, zero, suc, ◌<◌, Bool, true, false, not, ◌&&◌, ◌||◌, [], ◌∷◌, Option, Some, None, refl, sym, ap, ◌∙◌, arith, ◌⊎◌, inl, inr}
use Rattle.std.specs.Prelude.{is_some, is_none, nat_eq, nat_lt, if◌then◌else◌}
use Rattle.std.specs.List.{list_all}
use Rattle.std.specs.Option.{option_or}
use Rattle.std.proofs.lemmas.Bool.{and_parts, eqb-true, ltb-true, not-true}
use Rattle.batch_records.specs.DayRecord.{Day}
use Rattle.batch_records.specs.declared.day.Entry.{Entry}
use Rattle.commit_journal.specs.declared.line.Code.{Code}
use Rattle.commit_journal.specs.declared.line.Code.TheVariants as line_codes
use Rattle.commit_journal.specs.declared.line.Kind.TheVariants as kinds
use Rattle.commit_journal.specs.declared.line.Want.{Want}
use Rattle.commit_journal.specs.declared.line.Want.TheVariants as wants
use Rattle.commit_journal.specs.Line.{Line, History}
use Rattle.machine.specs.declared.answers.Phase.{Phase}
use Rattle.machine.specs.declared.answers.Phase.TheVariants as phases
use Rattle.machine.specs.Words.{some_passes}
use Rattle.machine.specs.Records.Setup.{is_sub_account}
use Rattle.machine.specs.Records.Messages.{Sort, Pay, BatchA, BatchB, BatchC, BatchD, BatchE, sort_of, is_message, is_a, is_b, is_a_or_b, entry_at, entry_numbers, credit_numbers, part, earliest, info_end}
use Rattle.machine.specs.Telling.History.{is_end, is_ok, is_time, is_ended, read_first, taken, taken_code, is_accepted, asked, covered, closed, clock, is_in_of, is_book_of, is_all_of, is_cover_of, is_closing_of}
use Rattle.machine.specs.Telling.Facts.{answered, revoked, revokes, is_reached, untaken_earlier}
use Rattle.machine.specs.Stages.Phases.{phase, is_no_order, revoked_as, settled_as, open_as, is_overdue, is_answered, is_booked}
use Rattle.machine.specs.Stages.Intake.{intake_code, intake_moves, moves_as}
use Rattle.machine.specs.Stages.Pending.{item, is_pending, pending_as}
use Rattle.machine.specs.Making.Lines.{line, may, made, in_line, end_line, all_line, book_line, moves_of_part, may_ask, may_book, may_lapse, may_settle_whole, is_free_part, is_covered_part, refusal, next_stop, is_ready, all_taken}
use Rattle.machine.specs.Legal.{IsLegal, is_complete}
use Rattle.machine.specs.OtherLaws.{is_among}
use Rattle.settlement_laws.specs.NextStop.{IsStop}
use Rattle.settlement_laws.proofs.DayEnd.LineBound.{lapses_message, a_or_b_message, refused_row}
use Rattle.settlement_laws.proofs.Base.Counting.{stands_now}
use Rattle.settlement_laws.proofs.Base.Induction.{legal_induction}
use Rattle.settlement_laws.proofs.DayEnd.NextStopIsTheLeast.{next_stop_is_the_least}
use Rattle.settlement_laws.proofs.Base.Lists.{never}
use Rattle.settlement_laws.proofs.Base.LinesOf.{clock_stays}
use Rattle.settlement_laws.proofs.DayEnd.SubAccountsAtMidnight.{code_is}
use Rattle.settlement_laws.proofs.Base.PhaseLaws.{table, is_going, untaken_phase, answered_going}
use Rattle.settlement_laws.proofs.Base.OngoingPhases.{going_taken}
use Rattle.settlement_laws.proofs.ProcedureA.PhasesOfA.{is_late, late_going, expire_late, refuse_late, ask_late, cover_answered}
use Rattle.settlement_laws.proofs.Base.Places.{place-other}
use Rattle.settlement_laws.proofs.Balances.MovesOfTheDay.{pending_going}
use Rattle.trial_day.proofs.Ample.{Ample, is_drawn}
use Rattle.trial_day.proofs.Morning.{IsWork, Morning, morning_phase, no_transfer}
use Rattle.trial_day.proofs.Settling.{pending_message, all_settled}

-- ---- a Time line leaves settled what is

abbrev pub time_at : ℕ → Line
time_at t = line kinds.Time 0 t line_codes.Ok []

accepted_over : (t : ℕ) (J : History) (n : ℕ) → is_accepted (time_at t ∷ J) n ≡ is_accepted J n
unfolding read_first
accepted_over t J n = here (taken_code J n)
  where
    here : (o : Option Code) → some_passes is_ok (option_or o None) ≡ some_passes is_ok o
    here None = refl
    here (Some c) = refl

pub booked_over : (t : ℕ) (J : History) (n k : ℕ) → is_booked (time_at t ∷ J) n k ≡ is_booked J n k
booked_over t J n k = ap is_some (place-other (is_book_of n k) (time_at t) J refl)

revoked_over : (day : Day) (t : ℕ) (J : History) (n k : ℕ) → revoked day (time_at t ∷ J) n k ≡ revoked day J n k
revoked_over day t J n k = place-other (revokes day n k) (time_at t) J refl

covered_over : (t : ℕ) (J : History) (n : ℕ) → covered (time_at t ∷ J) n ≡ covered J n
covered_over t J n = place-other (is_cover_of n) (time_at t) J refl

revoked_as_over : (s : Sort) (day : Day) (t : ℕ) (J : History) (n : ℕ) → revoked_as s day (time_at t ∷ J) n ≡ revoked_as s day J n
revoked_as_over BatchA day t J n = ap is_some (revoked_over day t J n 0)
revoked_as_over BatchB day t J n = ap is_some (revoked_over day t J n 0)
revoked_as_over BatchE day t J n = λ i. list_all (λ k. is_some (revoked_over day t J n k i)) (entry_numbers day n)
revoked_as_over _ day t J n = refl

settled_as_over : (s : Sort) (day : Day) (t : ℕ) (J : History) (n : ℕ) → settled_as s day (time_at t ∷ J) n ≡ settled_as s day J n
settled_as_over Pay day t J n = booked_over t J n 0
settled_as_over BatchA day t J n = λ i. list_all (λ k. booked_over t J n k i) (credit_numbers day n)
settled_as_over BatchB day t J n = λ i. is_some (place-other (is_all_of n) (time_at t) J refl i) || is_some (covered_over t J n i)
settled_as_over BatchC day t J n = λ i. list_all (λ k. booked_over t J n k i) (entry_numbers day n)
settled_as_over BatchD day t J n = refl
settled_as_over BatchE day t J n = λ i. list_all (λ k. booked_over t J n k i || is_some (revoked_over day t J n k i)) (entry_numbers day n)
settled_as_over _ day t J n = refl

-- the rows after the settled one don't count
settled_table : (a b c d e f g h i j w k g' h' i' j' w' k' : Bool) → table a b c d e f g h i j w k ≡ phases.Settled → table a b c d e f g' h' i' j' w' k' ≡ phases.Settled
settled_table true b c d e f g h i j w k g' h' i' j' w' k' p = cc
settled_table false true c d e f g h i j w k g' h' i' j' w' k' p = cc
settled_table false false true d e f g h i j w k g' h' i' j' w' k' p = refl
settled_table false false false true e f g h i j w k g' h' i' j' w' k' p = cc
settled_table false false false false true f g h i j w k g' h' i' j' w' k' p = cc
settled_table false false false false false true g h i j w k g' h' i' j' w' k' p = refl
settled_table false false false false false false true h i j w k g' h' i' j' w' k' p = cc
settled_table false false false false false false false true i j w k g' h' i' j' w' k' p = cc
settled_table false false false false false false false false true j w k g' h' i' j' w' k' p = cc
settled_table false false false false false false false false false true w k g' h' i' j' w' k' p = cc
settled_table false false false false false false false false false false true k g' h' i' j' w' k' p = cc
settled_table false false false false false false false false false false false true g' h' i' j' w' k' p = cc
settled_table false false false false false false false false false false false false g' h' i' j' w' k' p = cc

pub settled_over : (day : Day) (t : ℕ) (J : History) (n : ℕ) → phase day J n ≡ phases.Settled → phase day (time_at t ∷ J) n ≡ phases.Settled
unfolding phase
settled_over day t J n h = (λ i. table
    (is_none (place-other (is_in_of n) (time_at t) J refl i))
    (not (accepted_over t J n i))
    (is_no_order (sort_of day n))
    (is_some (place-other (is_closing_of n) (time_at t) J refl i))
    (revoked_as_over (sort_of day n) day t J n i)
    (settled_as_over (sort_of day n) day t J n i)
    (is_a (sort_of day n) && is_some (covered (time_at t ∷ J) n))
    (is_some (asked (time_at t ∷ J) n) && is_some (answered day (time_at t ∷ J) n))
    (is_some (asked (time_at t ∷ J) n))
    (some_passes (nat_lt (clock (time_at t ∷ J))) (info_end day n))
    (some_passes (nat_lt (clock (time_at t ∷ J))) (earliest day n))
    (open_as (sort_of day n) day (time_at t ∷ J) n))
    ∙ settled_table (is_none (taken J n)) (not (is_accepted J n)) (is_no_order (sort_of day n)) (is_some (closed J n)) (revoked_as (sort_of day n) day J n) (settled_as (sort_of day n) day J n)
    (is_a (sort_of day n) && is_some (covered J n)) (is_some (asked J n) && is_some (answered day J n)) (is_some (asked J n)) (some_passes (nat_lt (clock J)) (info_end day n)) (some_passes (nat_lt (clock J)) (earliest day n)) (open_as (sort_of day n) day J n) _ _ _ _ _ _ h

-- ---- the three shapes

abbrev pub AllSettled : Day → History → Type 0
AllSettled day J = (n : ℕ) → is_message (sort_of day n) ≡ true → phase day J n ≡ phases.Settled

-- the lines before the one Time line
pub record Worked (day : Day) (J : History) : Type 0 where
  pub legal : IsLegal day J
  pub morning : Morning day J
  pub settled : AllSettled day J

abbrev pub Evening : Day → History → Type 0
Evening day J = (K : History) × (J ≡ time_at 86400 ∷ K) × Worked day K

abbrev pub Night : Day → History → Type 0
Night day J = (K : History) × (J ≡ end_line ∷ time_at 86400 ∷ K) × Worked day K

abbrev pub Shape : Day → History → Type 0
Shape day J = Morning day J ⊎ (Evening day J ⊎ Night day J)

first_shape : (day : Day) → Morning day []
unfolding clock
first_shape day = record { no_time = refl; works = tt }

-- ---- in the morning

module _ (day : Day) (ample : Ample day) (J : History) (legal : IsLegal day J) (over : is_ended J ≡ false) where
  one_more : (l : Line) → Morning day J → IsWork day l → is_time l.head.kind ≡ false → Morning day (l ∷ J)
  one_more l m w t = record { no_time = clock_stays l J t ∙ m.no_time; works = (m.works, w) }

  -- a message has no late phase
  never_late : Morning day J → (n : ℕ) → is_message (sort_of day n) ≡ true → is_late (phase day J n) ≡ true → ⊥
  never_late m n is h = here (settled_as (sort_of day n) day J n) (morning_phase day ample J m n is (going_taken day J n (late_going (phase day J n) h)))
    where
      here : (b : Bool) → phase day J n ≡ (if b then phases.Settled else phases.Open) → ⊥
      here true e = never (is_late (phase day J n)) h (ap is_late e)
      here false e = never (is_late (phase day J n)) h (ap is_late e)

  in_work : (n : ℕ) → Morning day J → may day J (wants.In n) ≡ true → IsWork day (in_line day J n)
  in_work n m h =
      let is : is_message (sort_of day n) ≡ true = (and_parts (is_message (sort_of day n)) (is_none (taken J n)) (and_parts _ (is_reached day J n) (and_parts _ (is_none (untaken_earlier day J n)) h).0).0).0 in
      let c : intake_code day J n ≡ line_codes.Ok = ample.taken_well J n is m.no_time in
      inl (record { msg = n; message = is; is = ap (λ c. line kinds.In n 0 c (intake_moves day J n c)) c ∙ ap (line kinds.In n 0 line_codes.Ok) (no_moves (sort_of day n) (ample.drawn n is)) })
    where
      no_moves : (s : Sort) → is_drawn s ≡ true → moves_as s day J n ≡ []
      no_moves BatchA d = refl
      no_moves BatchB d = refl
      no_moves BatchE d = refl
      no_moves _ d = cc

  book_work : (n k : ℕ) → may_book day J n k ≡ true → IsWork day (book_line day n k)
  unfolding is_pending
  book_work n k h = here k refl (part day n k) refl (and_parts _ (some_passes (λ e. is_free_part day J (item n k) e && is_covered_part day J n e) (part day n k)) h).1
    where
      both : (pending_as (sort_of day n) day J n k (phase day J n) ≡ true) × (not (is_b (sort_of day n)) ≡ true)
      both = and_parts (pending_as (sort_of day n) day J n k (phase day J n)) (not (is_b (sort_of day n))) (and_parts _ _ h).0

      is : is_message (sort_of day n) ≡ true
      is = pending_message (sort_of day n) day J n k (phase day J n) both.0

      here : (j : ℕ) → k ≡ j → (o : Option Entry) → part day n k ≡ o → some_passes (λ e. is_free_part day J (item n k) e && is_covered_part day J n e) o ≡ true → IsWork day (book_line day n k)
      here j q None e t = cc
      here zero q (Some x) e t = absurd (nothing (sym e ∙ ap (part day n) q ∙ no_transfer day n (ample.drawn n is)))
        where
          nothing : Some x ≡ None → ⊥
          nothing z = cc
      here (suc j) q (Some x) e t = inr (inl (record {
        msg = n;
        entry = k;
        message = is;
        not_b = not-true (is_b (sort_of day n)) both.1;
        moves = x;
        there = ap (entry_at day n) q ∙ sym (ap (part day n) q) ∙ e;
        is = ap (λ (o : Option Entry). line kinds.Book n k line_codes.Ok (moves_of_part day o)) e;
        made = refl;
      }))

  all_work : (n : ℕ) → may_settle_whole day J n ≡ true → IsWork day (all_line day n)
  all_work n h = inr (inr (record { msg = n; of_b = (and_parts (is_b (sort_of day n)) _ (and_parts _ _ (and_parts _ _ h).0).0).0; is = refl }))

  next_is_midnight : next_stop day J ≡ 86400
  next_is_midnight = here (next_stop_is_the_least day J).0
    where
      here : IsStop day J (next_stop day J) → next_stop day J ≡ 86400
      here (inl e) = e
      here (inr (inl s)) = never (is_among day.stops (next_stop day J)) s (ap (λ stops. is_among stops (next_stop day J)) ample.no_stops)
      here (inr (inr (n, b, a, inl e))) = absurd (nothing (sym (ample.no_info n) ∙ e))
        where
          nothing : None ≡ Some (next_stop day J) → ⊥
          nothing z = cc
      here (inr (inr (n, b, a, inr (inl e)))) = absurd (nothing (sym (ample.no_early n) ∙ e))
        where
          nothing : None ≡ Some (next_stop day J) → ⊥
          nothing z = cc
      here (inr (inr (n, b, a, inr (inr e)))) = absurd (nothing (sym (ample.no_end n) ∙ e))
        where
          nothing : None ≡ Some (next_stop day J) → ⊥
          nothing z = cc

  from_morning : (w : Want) → Morning day J → may day J w ≡ true → Shape day (made day J w ∷ J)
  from_morning (wants.In n) m h = inl (one_more (in_line day J n) m (in_work n m h) refl)
  from_morning (wants.Book n k) m h = inl (one_more (book_line day n k) m (book_work n k h) refl)
  from_morning (wants.All n) m h = inl (one_more (all_line day n) m (all_work n h) refl)
  from_morning wants.Time m h = inr (inl (J, ap (λ t. time_at t ∷ J) next_is_midnight, record { legal = legal; morning = m; settled = all_settled day ample J legal m over h }))
  from_morning (wants.Expire n) m h = absurd (never_late m n (lapses_message (sort_of day n) (and_parts (may_lapse (sort_of day n)) (is_overdue (phase day J n)) (and_parts _ (not (may_ask day J n)) h).0).0) (expire_late day J n h))
  from_morning (wants.Ask n) m h = absurd (never_late m n (a_or_b_message (sort_of day n) (and_parts (is_a_or_b (sort_of day n)) (is_overdue (phase day J n)) (and_parts _ _ (and_parts _ _ h).0).0).0) (ask_late day J n h))
  from_morning (wants.Cover n) m h = absurd (never_late m n (a_or_b_message (sort_of day n) (and_parts (is_a_or_b (sort_of day n)) (is_answered (phase day J n)) (and_parts _ _ (and_parts _ _ h).0).0).0) (late_answered (phase day J n) (cover_answered day J n h)))
    where
      late_answered : (p : Phase) → is_answered p ≡ true → is_late p ≡ true
      late_answered phases.Answered e = refl
      late_answered _ e = cc
  from_morning (wants.Refuse n) m h =
      let c = code_is (refusal day J n) h in
      absurd (never_late m n (a_or_b_message (sort_of day n) (refused_row (is_a_or_b (sort_of day n)) (phase day J n) _ _ _ _ _ _ c.0 c.1).0) (refuse_late day J n c.0 c.1))
  from_morning (wants.Sweep a) m h = never (is_sub_account day a) (and_parts (is_sub_account day a) _ (and_parts _ _ h).0).0 (ample.no_subs a)
  from_morning wants.End m h =
      let c : clock J ≡ 86400 = eqb-true (clock J) 86400 (and_parts (nat_eq (clock J) 86400) (not (is_ready day J)) h).0 in
      absurd (omega (arith, c, m.no_time))

  -- ---- in the evening

  settled_now : Evening day J → AllSettled day J
  settled_now (K, e, worked) n m = ap (λ x. phase day x n) e ∙ settled_over day 86400 K n (worked.settled n m)

  not_going : Evening day J → (n : ℕ) → is_message (sort_of day n) ≡ true → is_going (phase day J n) ≡ true → ⊥
  not_going v n m g = never (is_going (phase day J n)) g (ap is_going (settled_now v n m))

  not_late : Evening day J → (n : ℕ) → is_message (sort_of day n) ≡ true → is_late (phase day J n) ≡ true → ⊥
  not_late v n m h = not_going v n m (late_going (phase day J n) h)

  not_pending : Evening day J → (n k : ℕ) → pending_as (sort_of day n) day J n k (phase day J n) ≡ true → ⊥
  not_pending v n k h = not_going v n (pending_message (sort_of day n) day J n k (phase day J n) h) (pending_going (sort_of day n) day J n k (phase day J n) h)

  clock_is : Evening day J → clock J ≡ 86400
  unfolding clock
  clock_is (K, e, worked) = ap clock e

  from_evening : (w : Want) → Evening day J → may day J w ≡ true → Shape day (made day J w ∷ J)
  unfolding is_pending
  from_evening (wants.In n) v h =
      let b = and_parts (is_message (sort_of day n)) (is_none (taken J n)) (and_parts _ (is_reached day J n) (and_parts _ (is_none (untaken_earlier day J n)) h).0).0 in
      absurd (differ (sym (untaken_phase day J n b.1) ∙ settled_now v n b.0))
    where
      differ : phases.Untaken ≡ phases.Settled → ⊥
      differ e = cc
  from_evening (wants.Book n k) v h = absurd (not_pending v n k (and_parts (pending_as (sort_of day n) day J n k (phase day J n)) (not (is_b (sort_of day n))) (and_parts _ _ h).0).0)
  from_evening (wants.All n) v h = absurd (not_pending v n 0 (and_parts (is_b (sort_of day n)) (pending_as (sort_of day n) day J n 0 (phase day J n)) (and_parts _ _ (and_parts _ _ h).0).0).1)
  from_evening wants.Time v h =
      let early : clock J < 86400 = ltb-true (clock J) 86400 (and_parts (nat_lt (clock J) 86400) (all_taken day J) (and_parts _ (not (is_ready day J)) h).0).0 in
      absurd (omega (arith, early, clock_is v))
  from_evening (wants.Expire n) v h = absurd (not_late v n (lapses_message (sort_of day n) (and_parts (may_lapse (sort_of day n)) (is_overdue (phase day J n)) (and_parts _ (not (may_ask day J n)) h).0).0) (expire_late day J n h))
  from_evening (wants.Ask n) v h = absurd (not_late v n (a_or_b_message (sort_of day n) (and_parts (is_a_or_b (sort_of day n)) (is_overdue (phase day J n)) (and_parts _ _ (and_parts _ _ h).0).0).0) (ask_late day J n h))
  from_evening (wants.Cover n) v h = absurd (not_going v n (a_or_b_message (sort_of day n) (and_parts (is_a_or_b (sort_of day n)) (is_answered (phase day J n)) (and_parts _ _ (and_parts _ _ h).0).0).0) (answered_going (phase day J n) (cover_answered day J n h)))
  from_evening (wants.Refuse n) v h =
      let c = code_is (refusal day J n) h in
      absurd (not_late v n (a_or_b_message (sort_of day n) (refused_row (is_a_or_b (sort_of day n)) (phase day J n) _ _ _ _ _ _ c.0 c.1).0) (refuse_late day J n c.0 c.1))
  from_evening (wants.Sweep a) v h = never (is_sub_account day a) (and_parts (is_sub_account day a) _ (and_parts _ _ h).0).0 (ample.no_subs a)
  from_evening wants.End v h = inr (inr (v.0, ap (λ x. end_line ∷ x) v.1, v.2))

  from_night : (w : Want) → Night day J → Shape day (made day J w ∷ J)
  from_night w v = never (is_ended J) (ap is_ended v.1 ∙ stands_now (λ l. is_end l.head.kind) end_line (time_at 86400 ∷ v.0) refl) over

pub shape : (day : Day) → Ample day → (J : History) → IsLegal day J → Shape day J
shape day ample = legal_induction day (Shape day) (inl (first_shape day)) (λ J w legal before e m. here J w legal e m before)
  where
    here : (J : History) (w : Want) → IsLegal day J → is_ended J ≡ false → may day J w ≡ true → Shape day J → Shape day (made day J w ∷ J)
    here J w legal e m (inl v) = from_morning day ample J legal e w v m
    here J w legal e m (inr (inl v)) = from_evening day ample J legal e w v m
    here J w legal e m (inr (inr v)) = from_night day ample J legal e w v

-- ---- a complete one

pub complete_shape : (day : Day) → Ample day → (J : History) → IsLegal day J → is_complete J ≡ true → Night day J
complete_shape day ample [] legal c = cc
complete_shape day ample (l ∷ J) legal c = here (shape day ample (l ∷ J) legal)
  where
    no_end : IsWork day l → ⊥
    no_end (inl t) = never (is_end l.head.kind) c (ap (λ (x : Line). is_end x.head.kind) t.is)
    no_end (inr (inl b)) = never (is_end l.head.kind) c (ap (λ (x : Line). is_end x.head.kind) b.is)
    no_end (inr (inr a)) = never (is_end l.head.kind) c (ap (λ (x : Line). is_end x.head.kind) a.is)

    here : Shape day (l ∷ J) → Night day (l ∷ J)
    here (inl m) = absurd (no_end m.works.1)
    here (inr (inl v)) = never (is_complete (l ∷ J)) c (ap is_complete v.1)
    here (inr (inr v)) = v
