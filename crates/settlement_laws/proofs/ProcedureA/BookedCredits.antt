-- Once a credit of an A batch is booked, the batch can't become overdue; and once the batch is closed, no credit was booked.
use Rattle.std.proofs.Common.{◌≡◌, ℕ, Bool, true, false, not, ◌&&◌, ◌||◌, [], ◌∷◌, refl, sym, ◌∙◌, ap, subst, ◌⊎◌, inl, inr}
use Rattle.std.specs.Prelude.{is_some, is_none, nat_eq, nat_lt}
use Rattle.std.proofs.lemmas.Bool.{and_left, and_right, false_from_ne_true, not-false, or_cases, or_from, or_parts, or_right, or_left, and_parts}
use Rattle.batch_records.specs.DayRecord.{Day}
use Rattle.commit_journal.specs.declared.line.Kind.{Kind}
use Rattle.commit_journal.specs.declared.line.Kind.TheVariants as kinds
use Rattle.commit_journal.specs.Line.{Line, History}
use Rattle.machine.specs.Words.{some_passes}
use Rattle.machine.specs.Records.Messages.{BatchA, sort_of, is_a, is_credit, is_debit, credit_numbers, debit_numbers, entry_numbers, info_end, earliest, settlement_end}
use Rattle.machine.specs.Telling.History.{place_of, taken, is_accepted, asked, covered, closed, is_time, is_book, is_ask, is_cover, is_expire_or_refuse, is_in_of, is_book_of, is_ask_of, is_cover_of, is_closing_of}
use Rattle.machine.specs.Telling.Facts.{answered, revokes}
use Rattle.machine.specs.Stages.Phases.{phase, revoked_as, settled_as, open_as, is_open, is_covered, is_booked}
use Rattle.machine.specs.Stages.Pending.{item, is_pending, pending_as, first_unbooked_debit}
use Rattle.settlement_laws.proofs.Base.PhaseLaws.{OpenFacts, open_facts, open_unsettled, open_uncovered, covered_is_covered, answered_going, going_accepted}
use Rattle.settlement_laws.proofs.EachLaw.OneLineLaws.{waits_for_debits}
use Rattle.settlement_laws.proofs.Base.Lists.{IsIn, never, all_in, all_of, one_fails, from_filter, find_all, find_none}
use Rattle.settlement_laws.proofs.Base.LinesOf.{placed_more, stays, unchanged, accepted_stays, clock_stays}
use Rattle.settlement_laws.proofs.ProcedureA.PhasesOfA.{is_late, pending_of_a, LateFacts, late_facts, late_not_open, going_facts, live_going, live_not_late, open_from, cover_answered}
use Rattle.settlement_laws.proofs.ProcedureA.WantsOfA.{MadeLine, book_of, cover_of_line, ask_of_line, closing_of_line, may_book_pending}
use Rattle.settlement_laws.proofs.Base.Counting.{some_from, not_none}

-- what the clock doesn't change
abbrev pub is_firm : Day → History → ℕ → Bool
is_firm day J n = is_some (closed J n) || (revoked_as BatchA day J n || (settled_as BatchA day J n || is_some (covered J n)))

-- no debit entry is unbooked
abbrev pub has_debits : Day → History → ℕ → Bool
has_debits day J n = is_none (first_unbooked_debit day J n)

pub record Flags (day : Day) (J : History) (n : ℕ) : Type 0 where
  pub waited : (k : ℕ) → is_credit day n k ≡ true → is_booked J n k ≡ true → (has_debits day J n ≡ true) ⊎ (is_some (covered J n) ≡ true)
  pub in_time : (k : ℕ) → is_credit day n k ≡ true → is_booked J n k ≡ true → (is_firm day J n ≡ true) ⊎ (is_open (phase day J n) ≡ true)
  pub was_accepted : (k : ℕ) → is_booked J n k ≡ true → is_accepted J n ≡ true
  pub unpaid : is_some (closed J n) ≡ true → ((k : ℕ) → is_credit day n k ≡ true → is_booked J n k ≡ false) × (is_some (covered J n) ≡ false)

-- no credit of n is pending
abbrev pub NoCreditPending : Day → History → ℕ → Type 0
NoCreditPending day J n = (k : ℕ) → is_credit day n k ≡ true → is_pending day J (item n k) ≡ true → ⊥

-- ---- Booleans

pub or_map : (a b c d : Bool) → (a ≡ true → c ≡ true) → (b ≡ true → d ≡ true) → (a || b) ≡ true → (c || d) ≡ true
or_map true b c d f g h = or_left c d (f refl)
or_map false b c d f g h = or_right c d (g h)

-- ---- what stays

module _ (day : Day) (n : ℕ) (of_a : sort_of day n ≡ BatchA) where
  booked_stays : (l : Line) (J : History) (k : ℕ) → is_booked J n k ≡ true → is_booked (l ∷ J) n k ≡ true
  booked_stays l J k h = stays (is_book_of n k) l J h

  pub settled_stays : (l : Line) (J : History) → settled_as BatchA day J n ≡ true → settled_as BatchA day (l ∷ J) n ≡ true
  settled_stays l J h = all_of (is_booked (l ∷ J) n) (credit_numbers day n) (λ k i. booked_stays l J k (all_in (is_booked J n) (credit_numbers day n) k h i))

  pub firm_stays : (l : Line) (J : History) → is_firm day J n ≡ true → is_firm day (l ∷ J) n ≡ true
  firm_stays l J = or_map _ _ _ _ (stays (is_closing_of n) l J) (or_map _ _ _ _ (stays (revokes day n 0) l J) (or_map _ _ _ _ (settled_stays l J) (stays (is_cover_of n) l J)))

  pub debits_stay : (l : Line) (J : History) → has_debits day J n ≡ true → has_debits day (l ∷ J) n ≡ true
  debits_stay l J h = find_none (λ k. not (is_booked (l ∷ J) n k)) (debit_numbers day n) (λ k i. ap not (booked_stays l J k (not-false (is_booked J n k) (find_all (λ k. not (is_booked J n k)) (debit_numbers day n) h k i))))

  pub firm_not_late : (J : History) → is_firm day J n ≡ true → is_late (phase day J n) ≡ true → ⊥
  firm_not_late J f h =
      let t : LateFacts day J n = late_facts day J n of_a h in
      never (is_firm day J n) f (or_from _ _ t.closed_no (or_from _ _ t.revoked_no (or_from _ _ t.settled_no t.covered_no)))

  -- an open batch stays open, but for the clock and an Ask line
  pub open_stays : (l : Line) (J : History) → is_time l.head.kind ≡ false → is_ask_of n l ≡ false → is_open (phase day J n) ≡ true → (is_firm day (l ∷ J) n ≡ true) ⊎ (is_open (phase day (l ∷ J) n) ≡ true)
  unfolding OpenFacts
  open_stays l J t a h = here (is_firm day (l ∷ J) n) refl
    where
      asked_no : is_some (asked (l ∷ J) n) ≡ false
      asked_no = unchanged (is_ask_of n) l J a ∙ (open_facts day J n h).asking_no

      here : (b : Bool) → is_firm day (l ∷ J) n ≡ b → (is_firm day (l ∷ J) n ≡ true) ⊎ (is_open (phase day (l ∷ J) n) ≡ true)
      here true e = inl e
      here false e =
          let f = open_facts day J n h in
          let x = or_parts _ _ e in
          let y = or_parts _ _ x.1 in
          let z = or_parts _ _ y.1 in
          inr (open_from day (l ∷ J) n
          (not_none (taken (l ∷ J) n) (stays (is_in_of n) l J (some_from (taken J n) f.untaken_no)))
          (ap not (accepted_stays l J n (not-false (is_accepted J n) f.rejected_no)))
          f.no_order_no x.0
          (subst (λ s. revoked_as s day (l ∷ J) n ≡ false) (sym of_a) y.0)
          (subst (λ s. settled_as s day (l ∷ J) n ≡ false) (sym of_a) z.0)
          (and_right (is_a (sort_of day n)) _ z.1)
          (and_left _ (is_some (answered day (l ∷ J) n)) asked_no)
          asked_no
          (ap (λ c. some_passes (nat_lt c) (info_end day n)) (clock_stays l J t) ∙ f.information_no)
          (ap (λ c. some_passes (nat_lt c) (earliest day n)) (clock_stays l J t) ∙ f.waiting_no)
          (subst (λ s. open_as s day (l ∷ J) n ≡ true) (sym of_a) (ap (λ c. nat_lt c (settlement_end day n)) (clock_stays l J t) ∙ subst (λ s. open_as s day J n ≡ true) of_a f.open_yes)))

  -- ---- one more line

  pub book_live : (l : Line) (J : History) (k : ℕ) → MadeLine day J l → is_book_of n k l ≡ true → (is_open (phase day J n) || is_covered (phase day J n)) ≡ true
  book_live l J k m h = (pending_of_a day J n k of_a (may_book_pending day J n k (book_of day J l n k m h))).open_or_covered

  waited_more : (l : Line) (J : History) (k : ℕ) → MadeLine day J l → Flags day J n → is_credit day n k ≡ true → (is_booked J n k ≡ true) ⊎ (is_book_of n k l ≡ true) → (has_debits day (l ∷ J) n ≡ true) ⊎ (is_some (covered (l ∷ J) n) ≡ true)
  waited_more l J k m f c (inl b) = elim (f.waited k c b) [
    | inl u ↦ inl (debits_stay l J u)
    | inr v ↦ inr (stays (is_cover_of n) l J v)
  ]
  waited_more l J k m f c (inr b) = elim (waits_for_debits day J n k (ap is_a of_a) c (book_of day J l n k m b)) [
    | inl u ↦ inl (debits_stay l J (ap is_none u))
    | inr v ↦ inr (stays (is_cover_of n) l J v)
  ]

  next : (o v b d r u : Bool) → o ≡ true → b ≡ false → r ≡ true → u ≡ true → (o && (not b && (d || r && u)) || v && r && not b) ≡ true
  next true v false true true true eo eb er eu = refl
  next true v false false true true eo eb er eu = refl
  next false v b d r u eo eb er eu = cc
  next true v true d r u eo eb er eu = cc
  next true v false d false u eo eb er eu = cc
  next true v false d true false eo eb er eu = cc

  -- an unbooked credit of an open batch that has its debits is pending
  pub left_over : (J : History) → NoCreditPending day J n → is_open (phase day J n) ≡ true → has_debits day J n ≡ true → (x : ℕ) × IsIn x (credit_numbers day n) × (is_booked J n x ≡ false) → ⊥
  unfolding is_pending
  left_over J none o u x =
      let i = from_filter (is_credit day n) (entry_numbers day n) x.0 x.1 in
      none x.0 i.1 (subst (λ s. pending_as s day J n x.0 (phase day J n) ≡ true) (sym of_a)
      (next (is_open (phase day J n)) (is_covered (phase day J n)) (is_booked J n x.0) (is_debit day n x.0) (is_credit day n x.0) (has_debits day J n) o x.2 i.1 u))

  -- with no credit pending, an open batch with a booked credit has settled
  not_open : (J : History) (k : ℕ) → Flags day J n → is_credit day n k ≡ true → is_booked J n k ≡ true → NoCreditPending day J n → is_open (phase day J n) ≡ true → ⊥
  not_open J k f c b none o = elim (f.waited k c b) [
    | inl u ↦ left_over J none o u (one_fails (is_booked J n) (credit_numbers day n) (subst (λ s. settled_as s day J n ≡ false) of_a (open_unsettled day J n o)))
    | inr v ↦ never (is_a BatchA && is_some (covered J n)) v (subst (λ s. (is_a s && is_some (covered J n)) ≡ false) of_a (open_uncovered day J n o))
  ]

  in_time_more : (l : Line) (J : History) (k : ℕ) → MadeLine day J l → Flags day J n → (is_time l.head.kind ≡ true → NoCreditPending day J n) → is_credit day n k ≡ true → (is_booked J n k ≡ true) ⊎ (is_book_of n k l ≡ true) → (is_firm day (l ∷ J) n ≡ true) ⊎ (is_open (phase day (l ∷ J) n) ≡ true)
  in_time_more l J k m f none c (inl b) = elim (f.in_time k c b) [
    | inl firm ↦ inl (firm_stays l J firm)
    | inr o ↦ here (is_time l.head.kind) refl o
  ]
    where
      here : (t : Bool) → is_time l.head.kind ≡ t → is_open (phase day J n) ≡ true → (is_firm day (l ∷ J) n ≡ true) ⊎ (is_open (phase day (l ∷ J) n) ≡ true)
      here true e o = absurd (not_open J k f c b (none e) o)
      here false e o = open_stays l J e (false_from_ne_true (is_ask_of n l) (λ a. never (is_open (phase day J n)) o (late_not_open (phase day J n) (ask_of_line day J l n m a)))) o
  in_time_more l J k m f none c (inr b) = elim (or_cases (is_open (phase day J n)) (is_covered (phase day J n)) (book_live l J k m b)) [
    | inl o ↦ open_stays l J (book_not_time l.head.kind (kind_of b)) (and_left (is_ask l.head.kind) _ (book_not_ask l.head.kind (kind_of b))) o
    | inr v ↦ inl (firm_stays l J (or_right (is_some (closed J n)) _ (or_right (revoked_as BatchA day J n) _ (or_right (settled_as BatchA day J n) _ (and_parts (is_a (sort_of day n)) _ (covered_is_covered day J n v)).1))))
  ]
    where
      kind_of : is_book_of n k l ≡ true → is_book l.head.kind ≡ true
      kind_of b = (and_parts (is_book l.head.kind) (nat_eq l.head.msg n) (and_parts _ (nat_eq l.head.entry k) b).0).0

      book_not_time : (kind : Kind) → is_book kind ≡ true → is_time kind ≡ false
      book_not_time kinds.Time h = sym h
      book_not_time _ h = refl

      book_not_ask : (kind : Kind) → is_book kind ≡ true → is_ask kind ≡ false
      book_not_ask kinds.Ask h = sym h
      book_not_ask _ h = refl

  unpaid_more : (l : Line) (J : History) → MadeLine day J l → Flags day J n → (is_some (closed J n) ≡ true) ⊎ (is_closing_of n l ≡ true) → ((k : ℕ) → is_credit day n k ≡ true → is_booked (l ∷ J) n k ≡ false) × (is_some (covered (l ∷ J) n) ≡ false)
  unpaid_more l J m f (inl z) = (
    λ k c. placed_more (is_book_of n k) l J ∙ or_from _ _ ((f.unpaid z).0 k c) (false_from_ne_true _ (λ b. never (is_some (closed J n)) z (going_facts day J n of_a (live_going (phase day J n) (book_live l J k m b))).0)),
    placed_more (is_cover_of n) l J ∙ or_from _ _ (f.unpaid z).1 (false_from_ne_true _ (λ v. never (is_some (closed J n)) z (going_facts day J n of_a (answered_going (phase day J n) (cover_answered day J n (cover_of_line day J l n m v)))).0)),
  )
  unpaid_more l J m f (inr z) = (
    λ k c. placed_more (is_book_of n k) l J ∙ or_from _ _ (false_from_ne_true _ (λ b. paid k c b)) (false_from_ne_true _ (λ b. never (is_late (phase day J n)) late (live_not_late (phase day J n) (book_live l J k m b)))),
    placed_more (is_cover_of n) l J ∙ or_from _ _ (late_facts day J n of_a late).covered_no (false_from_ne_true _ (λ v. apart l.head.kind (and_parts (is_cover l.head.kind) _ v).0 (and_parts (is_expire_or_refuse l.head.kind) _ z).0)),
  )
    where
      late : is_late (phase day J n) ≡ true
      late = closing_of_line day J l n m z

      paid : (k : ℕ) → is_credit day n k ≡ true → is_booked J n k ≡ true → ⊥
      paid k c b = elim (f.in_time k c b) [
        | inl firm ↦ firm_not_late J firm late
        | inr o ↦ never (is_open (phase day J n)) o (late_not_open (phase day J n) late)
      ]

      apart : (kind : Kind) → is_cover kind ≡ true → is_expire_or_refuse kind ≡ true → ⊥
      apart kinds.Cover h k = never false k refl
      apart _ h k = never false h refl

  accepted_more : (l : Line) (J : History) (k : ℕ) → MadeLine day J l → Flags day J n → (is_booked J n k ≡ true) ⊎ (is_book_of n k l ≡ true) → is_accepted (l ∷ J) n ≡ true
  accepted_more l J k m f (inl b) = accepted_stays l J n (f.was_accepted k b)
  accepted_more l J k m f (inr b) = accepted_stays l J n (going_accepted day J n (live_going (phase day J n) (book_live l J k m b)))

  pub flags_more : (l : Line) (J : History) → MadeLine day J l → (is_time l.head.kind ≡ true → NoCreditPending day J n) → Flags day J n → Flags day (l ∷ J) n
  flags_more l J m none f = record {
    waited = λ k c b. waited_more l J k m f c (or_cases _ _ (sym (placed_more (is_book_of n k) l J) ∙ b));
    in_time = λ k c b. in_time_more l J k m f none c (or_cases _ _ (sym (placed_more (is_book_of n k) l J) ∙ b));
    was_accepted = λ k b. accepted_more l J k m f (or_cases _ _ (sym (placed_more (is_book_of n k) l J) ∙ b));
    unpaid = λ z. unpaid_more l J m f (or_cases _ _ (sym (placed_more (is_closing_of n) l J) ∙ z));
  }

  pub flags_first : Flags day [] n
  unfolding place_of
  flags_first = record {
    waited = λ k c b. never false b refl;
    in_time = λ k c b. never false b refl;
    was_accepted = λ k b. never false b refl;
    unpaid = λ z. never false z refl;
  }
