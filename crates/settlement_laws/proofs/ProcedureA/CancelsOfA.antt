-- The moves of a closed A batch cancel on every account.
use Rattle.std.proofs.Common.{◌≡◌, ℕ, suc, ◌+◌, Bool, true, false, not, ◌&&◌, ◌||◌, List, [], ◌∷◌, Option, Some, None, refl, sym, ◌∙◌, ap, subst, arith, ◌⊎◌, inl, inr}
use Rattle.std.specs.Prelude.{is_some, nat_eq, if◌then◌else◌, slice_get}
use Rattle.std.proofs.lemmas.Bool.{eqb-true, eq-eqb, and_from, and_left, and_right, false_from_ne_true, or_cases, and_parts}
use Rattle.batch_records.specs.DayRecord.{Day}
use Rattle.batch_records.specs.declared.day.Entry.{Entry}
use Rattle.commit_journal.specs.declared.line.Move.{Move}
use Rattle.commit_journal.specs.declared.line.Code.{Code}
use Rattle.commit_journal.specs.declared.line.Code.TheVariants as line_codes
use Rattle.commit_journal.specs.declared.line.Kind.{Kind}
use Rattle.commit_journal.specs.declared.line.Kind.TheVariants as kinds
use Rattle.commit_journal.specs.Line.{Line, History}
use Rattle.machine.specs.Words.{some_passes}
use Rattle.machine.specs.Records.Messages.{BatchA, sort_of, is_b, entries, part, move_of, debit_account, credit_account, technical_account, is_debit_entry, is_credit_entry, is_credit}
use Rattle.machine.specs.Telling.History.{place_of, is_book, is_cover, is_expire_or_refuse, is_book_of, is_cover_of, is_closing_of, covered, closed}
use Rattle.machine.specs.Telling.Balances.{credits, debits}
use Rattle.machine.specs.Stages.Intake.{entry_fits, intake_moves, moves_as}
use Rattle.machine.specs.Stages.Phases.{phase, is_booked}
use Rattle.machine.specs.Stages.Pending.{item, is_pending}
use Rattle.machine.specs.Making.Lines.{may_book, moves_of_part, return_of, reversal, is_free_part, is_covered_part}
use Rattle.machine.specs.Legal.{IsLegal}
use Rattle.machine.proofs.Lists.{all_get}
use Rattle.settlement_laws.proofs.Base.Made.{Made, made_facts}
use Rattle.settlement_laws.proofs.Base.PhaseLaws.{going_accepted, answered_going}
use Rattle.settlement_laws.proofs.Base.Lists.{never}
use Rattle.settlement_laws.proofs.Base.Weights.{weight, weight_one, weight_nothing}
use Rattle.settlement_laws.proofs.ProcedureA.DebitedByOwnBatches.{SidesOfA, sides_of_a}
use Rattle.settlement_laws.proofs.Base.LinesOf.{placed_more, unchanged, credited_by, debited_by, is_of}
use Rattle.settlement_laws.proofs.ProcedureA.FactsOfA.{FactsOfA, facts_of_a}
use Rattle.settlement_laws.proofs.ProcedureA.BoundsOfA.{weight_same, no_zero, not_of_b}
use Rattle.settlement_laws.proofs.ProcedureA.PhasesOfA.{is_late, late_facts, LateFacts, PendingOfA, pending_of_a, live_going, going_facts, cover_answered}
use Rattle.settlement_laws.proofs.ProcedureA.WantsOfA.{MadeLine, book_of, cover_of_line, closing_of_line, may_book_pending}
use Rattle.settlement_laws.proofs.ProcedureA.BookedCredits.{book_live}
use Rattle.settlement_laws.proofs.ProcedureA.NeverBelowZero.{sound_a, late_unpaid}
use Rattle.settlement_laws.proofs.Balances.EntryMoves.{}
use Rattle.settlement_laws.proofs.Balances.EntryMoves.{credits_weight, debits_weight}

-- ---- one batch, one account

module _ (day : Day) (n a : ℕ) (q : sort_of day n ≡ BatchA) where
  -- no credit is booked, and the batch is neither covered nor closed
  Untouched : History → Type 0
  Untouched J = ((k : ℕ) → is_credit day n k ≡ true → is_booked J n k ≡ false) × (is_some (covered J n) ≡ false) × (is_some (closed J n) ≡ false)

  -- the booked debits went to the technical account
  Paid : History → Type 0
  Paid J = (credited_by (is_of n) J a ≡ weight (λ e. is_debit_entry day n e && nat_eq (technical_account day n) a) (is_booked J n) 1 (entries day n))
      × (debited_by (is_of n) J a ≡ weight (λ e. is_debit_entry day n e && nat_eq (debit_account day e) a) (is_booked J n) 1 (entries day n))

  -- a line that books nothing of n and moves nothing
  still : (l : Line) (J : History) → ((k : ℕ) → is_book_of n k l ≡ false) → (if is_of n l.head.msg then credits a l.moves else 0) ≡ 0 → (if is_of n l.head.msg then debits a l.moves else 0) ≡ 0 → Paid J → Paid (l ∷ J)
  unfolding Paid
  still l J b c d h =
      let same : (pick : Entry → Bool) → weight pick (is_booked (l ∷ J) n) 1 (entries day n) ≡ weight pick (is_booked J n) 1 (entries day n) = λ pick. weight_same pick (is_booked (l ∷ J) n) (is_booked J n) 1 (entries day n) (λ k. unchanged (is_book_of n k) l J (b k)) in
      let x = same (λ e. is_debit_entry day n e && nat_eq (technical_account day n) a) in
      let y = same (λ e. is_debit_entry day n e && nat_eq (debit_account day e) a) in
      let hc = h.0 in
      let hd = h.1 in
      (omega arith, omega arith)

  unpicked : (b : Bool) (x : ℕ) → x ≡ 0 → (if b then x else 0) ≡ 0
  unpicked true x h = h
  unpicked false x h = refl

  no_intake : (J : History) (c : Code) → intake_moves day J n c ≡ []
  no_intake J line_codes.Ok = subst (λ s. moves_as s day J n ≡ []) (sym q) refl
  no_intake J _ = refl

  -- the other lines of n move nothing
  idle : (kind : Kind) (J : History) (k : ℕ) (code : Code) (moves : List Move) → is_book kind ≡ false → is_cover kind ≡ false → is_expire_or_refuse kind ≡ false → Made kind day J n k code moves → moves ≡ []
  idle kinds.In J k code moves b v z m = m.2 ∙ no_intake J _
  idle kinds.All J k code moves b v z m = not_of_b day n q (and_parts (is_b (sort_of day n)) _ (and_parts _ _ (and_parts _ _ m.0).0).0).0
  idle kinds.Ask J k code moves b v z m = m.2
  idle kinds.Time J k code moves b v z m = m.2
  idle kinds.End J k code moves b v z m = m.2
  idle kinds.Sweep J k code moves b v z m = no_zero day n q m.3
  idle _ J k code moves b v z m = cc

  idle_line : (l : Line) (J : History) → MadeLine day J l → nat_eq l.head.msg n ≡ true → is_book l.head.kind ≡ false → is_cover l.head.kind ≡ false → is_expire_or_refuse l.head.kind ≡ false → (credits a l.moves ≡ 0) × (debits a l.moves ≡ 0)
  idle_line l J m e b v z =
      let h : l.moves ≡ [] = idle l.head.kind J l.head.entry l.head.code l.moves b v z (subst (λ x. Made l.head.kind day J x l.head.entry l.head.code l.moves) (eqb-true l.head.msg n e) m) in
      (ap (credits a) h, ap (debits a) h)

  to_own : (x y : Bool) → y ≡ true → (x && y) ≡ x
  to_own true y h = h
  to_own false y h = refl

  -- ---- before it is closed

  -- the line books the debit x
  books : (l : Line) (J : History) (k i : ℕ) (x : Entry) → nat_eq l.head.msg n ≡ true → ((j : ℕ) → is_book_of n j l ≡ nat_eq k j) → l.moves ≡ (move_of day x ∷ []) → k ≡ suc i → slice_get (entries day n) i ≡ Some x → is_booked J n k ≡ false → is_debit_entry day n x ≡ true → credit_account day x ≡ technical_account day n → Paid J → Paid (l ∷ J)
  unfolding Paid
  books l J k i x e b mv ki g u d t h =
      let hc = h.0 in
      let hd = h.1 in
      let x1 = rise (λ e. is_debit_entry day n e && nat_eq (technical_account day n) a) in
      let y1 = rise (λ e. is_debit_entry day n e && nat_eq (debit_account day e) a) in
      let x2 : (if (is_debit_entry day n x && nat_eq (technical_account day n) a) && not (is_booked J n k) then x.amount else 0) ≡ (if nat_eq (technical_account day n) a then x.amount else 0) = gain (is_debit_entry day n x) (nat_eq (technical_account day n) a) (is_booked J n k) x.amount d u in
      let y2 : (if (is_debit_entry day n x && nat_eq (debit_account day x) a) && not (is_booked J n k) then x.amount else 0) ≡ (if nat_eq (debit_account day x) a then x.amount else 0) = gain (is_debit_entry day n x) (nat_eq (debit_account day x) a) (is_booked J n k) x.amount d u in
      let x3 : (if is_of n l.head.msg then credits a l.moves else 0) ≡ (if nat_eq (credit_account day x) a then x.amount else 0) + 0 = picked (nat_eq l.head.msg n) (credits a l.moves) e ∙ ap (credits a) mv in
      let y3 : (if is_of n l.head.msg then debits a l.moves else 0) ≡ (if nat_eq (debit_account day x) a then x.amount else 0) + 0 = picked (nat_eq l.head.msg n) (debits a l.moves) e ∙ ap (debits a) mv in
      let x4 : (if nat_eq (credit_account day x) a then x.amount else 0) ≡ (if nat_eq (technical_account day n) a then x.amount else 0) = ap (λ z. if nat_eq z a then x.amount else 0) t in
      (omega arith, omega arith)
    where
      picked : (b : Bool) (y : ℕ) → b ≡ true → (if b then y else 0) ≡ y
      picked true y h = refl
      picked false y h = cc

      gain : (p o b : Bool) (y : ℕ) → p ≡ true → b ≡ false → (if (p && o) && not b then y else 0) ≡ (if o then y else 0)
      gain true true false y h k = refl
      gain true false false y h k = refl
      gain true o true y h k = cc
      gain false o b y h k = cc

      rise : (pick : Entry → Bool) → weight pick (is_booked (l ∷ J) n) 1 (entries day n) ≡ weight pick (is_booked J n) 1 (entries day n) + (if pick x && not (is_booked J n k) then x.amount else 0)
      rise pick = weight_same pick (is_booked (l ∷ J) n) (λ j. is_booked J n j || nat_eq k j) 1 (entries day n) (λ j. placed_more (is_book_of n j) l J ∙ ap (λ z. is_booked J n j || z) (b j)) ∙ weight_one pick (is_booked J n) k 1 i (entries day n) x (let z : k ≡ 1 + i = omega arith in z) g

  booked_paid : (l : Line) (J : History) → IsLegal day J → MadeLine day J l → nat_eq l.head.msg n ≡ true → is_book l.head.kind ≡ true → ((k : ℕ) → is_credit day n k ≡ true → is_booked (l ∷ J) n k ≡ false) → Paid J → Paid (l ∷ J)
  booked_paid l J legal m e b unpaid h = here (part day n l.head.entry) refl
    where
      at_entry : (j : ℕ) → is_book_of n j l ≡ nat_eq l.head.entry j
      at_entry j = ap (λ z. z && nat_eq l.head.msg n && nat_eq l.head.entry j) b ∙ ap (λ z. z && nat_eq l.head.entry j) e

      this : is_book_of n l.head.entry l ≡ true
      this = at_entry l.head.entry ∙ eq-eqb l.head.entry l.head.entry refl

      may : may_book day J n l.head.entry ≡ true
      may = book_of day J l n l.head.entry m this

      p : PendingOfA day J n l.head.entry
      p = pending_of_a day J n l.head.entry q (may_book_pending day J n l.head.entry may)

      facts : FactsOfA day n
      facts = facts_of_a day J n legal q (going_accepted day J n (live_going (phase day J n) p.open_or_covered))

      moved : l.moves ≡ moves_of_part day (part day n l.head.entry)
      moved = of_kind l.head.kind b m ∙ ap (λ i. moves_of_part day (part day i l.head.entry)) (eqb-true l.head.msg n e)
        where
          of_kind : (kind : Kind) → is_book kind ≡ true → Made kind day J l.head.msg l.head.entry l.head.code l.moves → l.moves ≡ moves_of_part day (part day l.head.msg l.head.entry)
          of_kind kinds.Book h m = m.2
          of_kind _ h m = cc

      now_booked : is_booked (l ∷ J) n l.head.entry ≡ true
      now_booked = placed_more (is_book_of n l.head.entry) l J ∙ second (is_booked J n l.head.entry) (is_book_of n l.head.entry l) this
        where
          second : (x y : Bool) → y ≡ true → (x || y) ≡ true
          second true y h = refl
          second false y h = h

      here : (o : Option Entry) → part day n l.head.entry ≡ o → Paid (l ∷ J)
      here None g = never (some_passes (λ e. is_free_part day J (item n l.head.entry) e && is_covered_part day J n e) (part day n l.head.entry)) (and_parts (is_pending day J (item n l.head.entry) && not (is_b (sort_of day n))) _ may).1 (ap (some_passes (λ e. is_free_part day J (item n l.head.entry) e && is_covered_part day J n e)) g)
      here (Some x) g = side (is_debit_entry day n x) refl
        where
          at : slice_get (entries day n) p.index ≡ Some x
          at = subst (λ k. part day n k ≡ Some x) p.number g

          s : SidesOfA day n x
          s = sides_of_a day n x facts.has_technical (all_get (entry_fits BatchA day n) (entries day n) p.index x facts.forms_fit at)

          side : (d : Bool) → is_debit_entry day n x ≡ d → Paid (l ∷ J)
          side true d = books l J l.head.entry p.index x e at_entry (moved ∙ ap (moves_of_part day) g) p.number at p.is_unbooked d (s.debit_side d).0 h
          side false d = never (is_booked (l ∷ J) n l.head.entry) now_booked (unpaid l.head.entry (subst (λ k. is_credit day n k ≡ true) (sym p.number) (ap (some_passes (is_credit_entry day n)) at ∙ ap not d)))

  before_more : (l : Line) (J : History) → IsLegal day J → MadeLine day J l → Untouched (l ∷ J) → Paid J → Paid (l ∷ J)
  unfolding Untouched
  before_more l J legal m u h = here (nat_eq l.head.msg n) refl (is_book l.head.kind) refl
    where
      or_no : (x y : Bool) → (x || y) ≡ false → y ≡ false
      or_no true y h = cc
      or_no false y h = h

      no_cover : nat_eq l.head.msg n ≡ true → is_cover l.head.kind ≡ false
      no_cover e = sym (to_own (is_cover l.head.kind) (nat_eq l.head.msg n) e) ∙ or_no (is_some (covered J n)) (is_cover_of n l) (sym (placed_more (is_cover_of n) l J) ∙ u.1)

      no_closing : nat_eq l.head.msg n ≡ true → is_expire_or_refuse l.head.kind ≡ false
      no_closing e = sym (to_own (is_expire_or_refuse l.head.kind) (nat_eq l.head.msg n) e) ∙ or_no (is_some (closed J n)) (is_closing_of n l) (sym (placed_more (is_closing_of n) l J) ∙ u.2)

      here : (o : Bool) → nat_eq l.head.msg n ≡ o → (b : Bool) → is_book l.head.kind ≡ b → Paid (l ∷ J)
      here true e true b = booked_paid l J legal m e b u.0 h
      here true e false b =
          let i = idle_line l J m e b (no_cover e) (no_closing e) in
          still l J (λ k. and_left _ (nat_eq l.head.entry k) (and_left (is_book l.head.kind) _ b)) (unpicked (nat_eq l.head.msg n) _ i.0) (unpicked (nat_eq l.head.msg n) _ i.1) h
      here false e b eb = still l J (λ k. and_left _ (nat_eq l.head.entry k) (and_right (is_book l.head.kind) _ e)) (ap (λ b. if b then credits a l.moves else 0) e) (ap (λ b. if b then debits a l.moves else 0) e) h

  -- what is untouched was untouched
  was_untouched : (l : Line) (J : History) → Untouched (l ∷ J) → Untouched J
  unfolding Untouched
  was_untouched l J u = (λ k c. left_no (is_booked J n k) (is_book_of n k l) (sym (placed_more (is_book_of n k) l J) ∙ u.0 k c), left_no (is_some (covered J n)) (is_cover_of n l) (sym (placed_more (is_cover_of n) l J) ∙ u.1), left_no (is_some (closed J n)) (is_closing_of n l) (sym (placed_more (is_closing_of n) l J) ∙ u.2))
    where
      left_no : (x y : Bool) → (x || y) ≡ false → x ≡ false
      left_no true y h = cc
      left_no false y h = refl

  before : (J : History) → IsLegal day J → Untouched J → Paid J
  unfolding place_of Paid
  before [] legal u = (sym (none _), sym (none _))
    where
      none : (pick : Entry → Bool) → weight pick (λ k. false) 1 (entries day n) ≡ 0
      none pick = weight_nothing pick (λ k. false) 1 (entries day n) (λ i e g p. refl)
  before (l ∷ J) legal u = before_more l J legal.0 (made_facts day J l legal.1).1 u (before J legal.0 (was_untouched l J u))

  -- ---- once it is closed

  Cancels : History → Type 0
  Cancels J = credited_by (is_of n) J a ≡ debited_by (is_of n) J a

  reversal_credits : (J : History) → credits a (reversal BatchA day J n) ≡ weight (λ e. is_debit_entry day n e && nat_eq (debit_account day e) a) (is_booked J n) 1 (entries day n)
  reversal_credits J = credits_weight a (return_of day n) (λ e. refl) (is_debit_entry day n) (is_booked J n) 1 (entries day n)

  reversal_debits : (J : History) → debits a (reversal BatchA day J n) ≡ weight (λ e. is_debit_entry day n e && nat_eq (technical_account day n) a) (is_booked J n) 1 (entries day n)
  reversal_debits J = debits_weight a (return_of day n) (λ e. refl) (is_debit_entry day n) (is_booked J n) 1 (entries day n)

  closing_moves : (kind : Kind) (J : History) (k : ℕ) (code : Code) (moves : List Move) → is_expire_or_refuse kind ≡ true → Made kind day J n k code moves → moves ≡ reversal BatchA day J n
  closing_moves kinds.Expire J k code moves h m = m.2 ∙ ap (λ s. reversal s day J n) q
  closing_moves kinds.Refuse J k code moves h m = m.2 ∙ ap (λ s. reversal s day J n) q
  closing_moves _ J k code moves h m = cc

  closes : (l : Line) (J : History) → IsLegal day J → MadeLine day J l → is_closing_of n l ≡ true → Cancels (l ∷ J)
  unfolding Paid Untouched Cancels
  closes l J legal m z =
      let b = and_parts (is_expire_or_refuse l.head.kind) (nat_eq l.head.msg n) z in
      let late : is_late (phase day J n) ≡ true = closing_of_line day J l n m z in
      let f : LateFacts day J n = late_facts day J n q late in
      let p : Paid J = before J legal (λ k c. late_unpaid day J n k q ((sound_a day J legal).flags n q) late c, f.covered_no, f.closed_no) in
      let pc = p.0 in
      let pd = p.1 in
      let mv : l.moves ≡ reversal BatchA day J n = closing_moves l.head.kind J l.head.entry l.head.code l.moves b.0 (subst (λ x. Made l.head.kind day J x l.head.entry l.head.code l.moves) (eqb-true l.head.msg n b.1) m) in
      let x : (if is_of n l.head.msg then credits a l.moves else 0) ≡ weight (λ e. is_debit_entry day n e && nat_eq (debit_account day e) a) (is_booked J n) 1 (entries day n) = picked (nat_eq l.head.msg n) (credits a l.moves) b.1 ∙ ap (credits a) mv ∙ reversal_credits J in
      let y : (if is_of n l.head.msg then debits a l.moves else 0) ≡ weight (λ e. is_debit_entry day n e && nat_eq (technical_account day n) a) (is_booked J n) 1 (entries day n) = picked (nat_eq l.head.msg n) (debits a l.moves) b.1 ∙ ap (debits a) mv ∙ reversal_debits J in
      omega arith
    where
      picked : (b : Bool) (y : ℕ) → b ≡ true → (if b then y else 0) ≡ y
      picked true y h = refl
      picked false y h = cc

  after : (l : Line) (J : History) → MadeLine day J l → is_some (closed J n) ≡ true → Cancels J → Cancels (l ∷ J)
  unfolding Cancels
  after l J m z h = here (nat_eq l.head.msg n) refl
    where
      no_book : nat_eq l.head.msg n ≡ true → is_book l.head.kind ≡ false
      no_book e = false_from_ne_true (is_book l.head.kind) (λ b. never (is_some (closed J n)) z (going_facts day J n q (live_going (phase day J n) (book_live day n q l J l.head.entry m (and_from _ _ (and_from _ _ b e) (eq-eqb l.head.entry l.head.entry refl))))).0)

      no_cover : nat_eq l.head.msg n ≡ true → is_cover l.head.kind ≡ false
      no_cover e = false_from_ne_true (is_cover l.head.kind) (λ v. never (is_some (closed J n)) z (going_facts day J n q (answered_going (phase day J n) (cover_answered day J n (cover_of_line day J l n m (and_from _ _ v e))))).0)

      no_closing : nat_eq l.head.msg n ≡ true → is_expire_or_refuse l.head.kind ≡ false
      no_closing e = false_from_ne_true (is_expire_or_refuse l.head.kind) (λ c. never (is_some (closed J n)) z (late_facts day J n q (closing_of_line day J l n m (and_from _ _ c e))).closed_no)

      here : (o : Bool) → nat_eq l.head.msg n ≡ o → Cancels (l ∷ J)
      here true e =
          let i = idle_line l J m e (no_book e) (no_cover e) (no_closing e) in
          let x : (if is_of n l.head.msg then credits a l.moves else 0) ≡ 0 = unpicked (nat_eq l.head.msg n) _ i.0 in
          let y : (if is_of n l.head.msg then debits a l.moves else 0) ≡ 0 = unpicked (nat_eq l.head.msg n) _ i.1 in
          omega arith
      here false e =
          let x : (if is_of n l.head.msg then credits a l.moves else 0) ≡ 0 = ap (λ b. if b then credits a l.moves else 0) e in
          let y : (if is_of n l.head.msg then debits a l.moves else 0) ≡ 0 = ap (λ b. if b then debits a l.moves else 0) e in
          omega arith

  cancels : (J : History) → IsLegal day J → is_some (closed J n) ≡ true → Cancels J
  unfolding place_of
  cancels [] legal z = never false z refl
  cancels (l ∷ J) legal z = here (or_cases (is_some (closed J n)) (is_closing_of n l) (sym (placed_more (is_closing_of n) l J) ∙ z)) (cancels J legal.0)
    where
      here : (is_some (closed J n) ≡ true) ⊎ (is_closing_of n l ≡ true) → (is_some (closed J n) ≡ true → Cancels J) → Cancels (l ∷ J)
      here (inl c) k = after l J (made_facts day J l legal.1).1 c (k c)
      here (inr c) k = closes l J legal.0 (made_facts day J l legal.1).1 c

  pub cancelled : (J : History) → IsLegal day J → is_some (closed J n) ≡ true → credited_by (is_of n) J a ≡ debited_by (is_of n) J a
  unfolding Cancels
  cancelled J legal z = cancels J legal z
