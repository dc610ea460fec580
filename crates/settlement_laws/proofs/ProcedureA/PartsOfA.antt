-- While an A batch isn't closed, its lines bring to its technical account what its booked debits and the fund pay, and take its booked credits.
use Rattle.std.proofs.Common.{◌≡◌, ℕ, suc, ◌+◌, Bool, true, false, not, ◌&&◌, ◌||◌, List, [], ◌∷◌, Option, Some, None, refl, sym, ◌∙◌, ap, subst, arith, cond, inl, inr}
use Rattle.std.specs.Prelude.{is_some, nat_eq, if◌then◌else◌, map, filter, slice_get, sum_by}
use Rattle.std.proofs.lemmas.Bool.{eqb-true, eq-eqb, and_left, and_right, or_parts, and_parts}
use Rattle.std.proofs.lemmas.List.Sums.{sum_by-cons}
use Rattle.batch_records.specs.DayRecord.{Day}
use Rattle.batch_records.specs.declared.day.Entry.{Entry}
use Rattle.commit_journal.specs.declared.line.Move.{Move}
use Rattle.commit_journal.specs.declared.line.Code.{Code}
use Rattle.commit_journal.specs.declared.line.Code.TheVariants as line_codes
use Rattle.commit_journal.specs.declared.line.Kind.{Kind}
use Rattle.commit_journal.specs.declared.line.Kind.TheVariants as kinds
use Rattle.commit_journal.specs.Line.{Line, History}
use Rattle.machine.specs.Words.{some_passes}
use Rattle.machine.specs.Records.Setup.{is_dca_account}
use Rattle.machine.specs.Records.Messages.{BatchA, sort_of, is_b, entries, part, move_of, debit_account, credit_account, technical_account, fund_account, is_debit_entry, is_credit_entry, pays_technical, is_paid_from_technical}
use Rattle.machine.specs.Telling.History.{place_of, is_book, is_cover, is_expire_or_refuse, is_book_of, is_cover_of, is_closing_of, closed}
use Rattle.machine.specs.Telling.Balances.{credits, debits}
use Rattle.machine.specs.Stages.Intake.{amount_of, entry_fits, intake_moves, moves_as}
use Rattle.machine.specs.Stages.Phases.{phase, is_booked}
use Rattle.machine.specs.Stages.Pending.{item, is_pending}
use Rattle.machine.specs.Making.Lines.{line, may_book, moves_of_part, cover_of, cover_moves, debit_entries_by, is_free_part, is_covered_part}
use Rattle.machine.specs.Legal.{IsLegal}
use Rattle.machine.proofs.Lists.{all_get}
use Rattle.settlement_laws.specs.TechnicalOfA.{amount_moved, paid_by_fund}
use Rattle.settlement_laws.proofs.Base.Made.{Made, made_facts}
use Rattle.settlement_laws.proofs.Base.PhaseLaws.{going_accepted, answered_going}
use Rattle.settlement_laws.proofs.Base.Lists.{never}
use Rattle.settlement_laws.proofs.Balances.MovesOfTheDay.{forms}
use Rattle.settlement_laws.proofs.Base.Weights.{weight, weight_one, weight_nothing}
use Rattle.settlement_laws.proofs.ProcedureA.DebitedByOwnBatches.{is_a_account, dca_apart, fund_apart, SidesOfA, sides_of_a}
use Rattle.settlement_laws.proofs.ProcedureA.NoneFromTechnical.{differ, always_none}
use Rattle.settlement_laws.proofs.Base.LinesOf.{placed_more, credited_by, debited_by, is_of}
use Rattle.settlement_laws.proofs.ProcedureA.FactsOfA.{debit_weight, credit_weight, FactsOfA, facts_of_a}
use Rattle.settlement_laws.proofs.ProcedureA.BoundsOfA.{weight_same, same_weights, own, gain, to_account, from_account, not_from, credits_to, no_zero, not_of_b}
use Rattle.settlement_laws.proofs.ProcedureA.PhasesOfA.{cover_answered, PendingOfA, pending_of_a, live_going}

-- what came: the booked debits and what the fund paid; what went: the booked credits
pub record Parts (day : Day) (J : History) (n : ℕ) : Type 0 where
  pub came : credited_by (is_of n) J (technical_account day n) ≡ debit_weight day n (is_booked J n) + paid_by_fund J n
  pub went : debited_by (is_of n) J (technical_account day n) ≡ credit_weight day n (is_booked J n)

-- ---- what the fund paid

paid_more : (n : ℕ) (l : Line) (J : History) → paid_by_fund (l ∷ J) n ≡ (if is_cover_of n l then amount_moved l else 0) + paid_by_fund J n
paid_more n l J = here (is_cover_of n l)
  where
    here : (b : Bool) → sum_by amount_moved (cond b (l ∷ filter (is_cover_of n) J) (filter (is_cover_of n) J)) ≡ (if b then amount_moved l else 0) + sum_by amount_moved (filter (is_cover_of n) J)
    here true = sum_by-cons amount_moved l (filter (is_cover_of n) J)
    here false = omega arith

not_paid : (n : ℕ) (l : Line) (J : History) → is_cover_of n l ≡ false → paid_by_fund (l ∷ J) n ≡ paid_by_fund J n
not_paid n l J h =
    let p : paid_by_fund (l ∷ J) n ≡ (if is_cover_of n l then amount_moved l else 0) + paid_by_fund J n = paid_more n l J in
    let z : (if is_cover_of n l then amount_moved l else 0) ≡ 0 = ap (λ b. if b then amount_moved l else 0) h in
    omega arith

amounts_of : (f : Entry → Move) → ((e : Entry) → (f e).amount ≡ e.amount) → (es : List Entry) → sum_by (λ (m : Move). m.amount) (map f es) ≡ sum_by amount_of es
amounts_of f h [] = refl
amounts_of f h (e ∷ es) =
    let a : (f e).amount ≡ e.amount = h e in
    let k : sum_by (λ (m : Move). m.amount) (map f es) ≡ sum_by amount_of es = amounts_of f h es in
    let x : sum_by (λ (m : Move). m.amount) (f e ∷ map f es) ≡ (f e).amount + sum_by (λ (m : Move). m.amount) (map f es) = sum_by-cons (λ (m : Move). m.amount) (f e) (map f es) in
    let y : sum_by amount_of (e ∷ es) ≡ e.amount + sum_by amount_of es = sum_by-cons amount_of e es in
    omega arith

module _ (day : Day) (n : ℕ) where
  -- a line that books no entry of n and doesn't cover it, and moves nothing of its technical account
  still : (l : Line) (J : History) → ((k : ℕ) → is_book_of n k l ≡ false) → is_cover_of n l ≡ false →
      (if is_of n l.head.msg then credits (technical_account day n) l.moves else 0) ≡ 0 → (if is_of n l.head.msg then debits (technical_account day n) l.moves else 0) ≡ 0 → Parts day J n → Parts day (l ∷ J) n
  still l J b v c d h =
      let x = (same_weights day n l J b).0 in
      let y = (same_weights day n l J b).1 in
      let p = not_paid n l J v in
      let hc = h.came in
      let hd = h.went in
      record { came = omega arith; went = omega arith }

  empty_line : (l : Line) (J : History) → ((k : ℕ) → is_book_of n k l ≡ false) → is_cover_of n l ≡ false → l.moves ≡ [] → Parts day J n → Parts day (l ∷ J) n
  empty_line l J b v e h = still l J b v (nothing (is_of n l.head.msg) _ (ap (credits (technical_account day n)) e)) (nothing (is_of n l.head.msg) _ (ap (debits (technical_account day n)) e)) h
    where
      nothing : (b : Bool) (x : ℕ) → x ≡ 0 → (if b then x else 0) ≡ 0
      nothing true x h = h
      nothing false x h = refl

  -- ---- an entry is booked

  not_to : (t : ℕ) (m : Move) → nat_eq m.credit t ≡ false → credits t (m ∷ []) ≡ 0
  not_to t m h = let z : (if nat_eq m.credit t then m.amount else 0) ≡ 0 = ap (λ b. if b then m.amount else 0) h in omega arith

  -- a credit entry goes to a DCA
  credit_away : (x : Entry) → is_a_account day (technical_account day n) ≡ true → entry_fits BatchA day n x ≡ true → is_debit_entry day n x ≡ false → nat_eq (credit_account day x) (technical_account day n) ≡ false
  credit_away x t f p = elim (forms (is_dca_account day x.debit) (pays_technical day n x) (is_paid_from_technical day n x) (is_dca_account day x.credit) f) [
    | inl l ↦ never (is_debit_entry day n x) l.1 p
    | inr r ↦ differ day (technical_account day n) (credit_account day x) t (dca_apart day x.credit r.1)
  ]

  book_step : (J : History) (k i : ℕ) (code : Code) (x : Entry) → k ≡ suc i → slice_get (entries day n) i ≡ Some x → is_booked J n k ≡ false → entry_fits BatchA day n x ≡ true → is_a_account day (technical_account day n) ≡ true →
      Parts day J n → Parts day (line kinds.Book n k code (move_of day x ∷ []) ∷ J) n
  book_step J k i code x ki g u f t h = here (is_debit_entry day n x) refl
    where
      l : Line
      l = line kinds.Book n k code (move_of day x ∷ [])

      s : SidesOfA day n x
      s = sides_of_a day n x t f

      same : (j : ℕ) → is_booked (l ∷ J) n j ≡ (is_booked J n j || nat_eq k j)
      same j = placed_more (is_book_of n j) l J ∙ ap (λ b. is_booked J n j || (b && nat_eq k j)) (eq-eqb n n refl)

      rise : (pick : Entry → Bool) → weight pick (is_booked (l ∷ J) n) 1 (entries day n) ≡ weight pick (is_booked J n) 1 (entries day n) + (if pick x then x.amount else 0)
      rise pick =
          let a : weight pick (is_booked (l ∷ J) n) 1 (entries day n) ≡ weight pick (λ j. is_booked J n j || nat_eq k j) 1 (entries day n) = weight_same pick _ _ 1 (entries day n) same in
          let b : weight pick (λ j. is_booked J n j || nat_eq k j) 1 (entries day n) ≡ weight pick (is_booked J n) 1 (entries day n) + (if pick x && not (is_booked J n k) then x.amount else 0) = weight_one pick (is_booked J n) k 1 i (entries day n) x (omega arith) g in
          let c : (if pick x && not (is_booked J n k) then x.amount else 0) ≡ (if pick x then x.amount else 0) = gain day n (pick x) (is_booked J n k) x.amount u in
          omega arith

      here : (p : Bool) → is_debit_entry day n x ≡ p → Parts day (l ∷ J) n
      here true p =
          let d : debit_weight day n (is_booked (l ∷ J) n) ≡ debit_weight day n (is_booked J n) + x.amount = rise (is_debit_entry day n) ∙ ap (λ b. debit_weight day n (is_booked J n) + (if b then x.amount else 0)) p in
          let c : credit_weight day n (is_booked (l ∷ J) n) ≡ credit_weight day n (is_booked J n) + 0 = rise (is_credit_entry day n) ∙ ap (λ b. credit_weight day n (is_booked J n) + (if not b then x.amount else 0)) p in
          let y : (if is_of n n then credits (technical_account day n) (move_of day x ∷ []) else 0) ≡ x.amount = own day n _ ∙ to_account day n (technical_account day n) (move_of day x) (s.debit_side p).0 in
          let z : (if is_of n n then debits (technical_account day n) (move_of day x ∷ []) else 0) ≡ 0 = own day n _ ∙ not_from day n (technical_account day n) (move_of day x) (differ day (technical_account day n) (debit_account day x) t (s.debit_side p).1) in
          let q : paid_by_fund (l ∷ J) n ≡ paid_by_fund J n = not_paid n l J refl in
          let hc = h.came in
          let hd = h.went in
          record { came = omega arith; went = omega arith }
      here false p =
          let d : debit_weight day n (is_booked (l ∷ J) n) ≡ debit_weight day n (is_booked J n) + 0 = rise (is_debit_entry day n) ∙ ap (λ b. debit_weight day n (is_booked J n) + (if b then x.amount else 0)) p in
          let c : credit_weight day n (is_booked (l ∷ J) n) ≡ credit_weight day n (is_booked J n) + x.amount = rise (is_credit_entry day n) ∙ ap (λ b. credit_weight day n (is_booked J n) + (if not b then x.amount else 0)) p in
          let y : (if is_of n n then credits (technical_account day n) (move_of day x ∷ []) else 0) ≡ 0 = own day n _ ∙ not_to (technical_account day n) (move_of day x) (credit_away x t f p) in
          let z : (if is_of n n then debits (technical_account day n) (move_of day x ∷ []) else 0) ≡ x.amount = own day n _ ∙ from_account day n (technical_account day n) (move_of day x) (s.credit_side p) in
          let q : paid_by_fund (l ∷ J) n ≡ paid_by_fund J n = not_paid n l J refl in
          let hc = h.came in
          let hd = h.went in
          record { came = omega arith; went = omega arith }

  book_line_step : (J : History) (k : ℕ) (code : Code) → IsLegal day J → sort_of day n ≡ BatchA → may_book day J n k ≡ true → Parts day J n → Parts day (line kinds.Book n k code (moves_of_part day (part day n k)) ∷ J) n
  book_line_step J k code legal q m h =
      let b = and_parts (is_pending day J (item n k) && not (is_b (sort_of day n))) _ m in
      let p : PendingOfA day J n k = pending_of_a day J n k q (and_parts (is_pending day J (item n k)) _ b.0).0 in
      let f : FactsOfA day n = facts_of_a day J n legal q (going_accepted day J n (live_going (phase day J n) p.open_or_covered)) in
      here f k p.index p.number (part day n k) refl p.is_unbooked b.1
    where
      here : FactsOfA day n → (k i : ℕ) → k ≡ suc i → (o : Option Entry) → part day n k ≡ o → is_booked J n k ≡ false → some_passes (λ e. is_free_part day J (item n k) e && is_covered_part day J n e) o ≡ true → Parts day (line kinds.Book n k code (moves_of_part day o) ∷ J) n
      here f k i e None g u b = cc
      here f k i e (Some x) g u b =
          let at : slice_get (entries day n) i ≡ Some x = subst (λ k. part day n k ≡ Some x) e g in
          book_step J k i code x e at u (all_get (entry_fits BatchA day n) (entries day n) i x f.forms_fit at) f.has_technical h

  -- ---- the fund covers

  cover_step : (J : History) (code : Code) → is_a_account day (technical_account day n) ≡ true → Parts day J n → Parts day (line kinds.Cover n 0 code (cover_moves BatchA day J n) ∷ J) n
  cover_step J code t h =
      let es : List Entry = debit_entries_by day n (λ k. not (is_booked J n k)) in
      let c : credits (technical_account day n) (cover_moves BatchA day J n) ≡ sum_by amount_of es = credits_to day n (technical_account day n) (cover_of day n) (λ e. refl) (λ e. refl) es in
      let y : (if is_of n n then credits (technical_account day n) (cover_moves BatchA day J n) else 0) ≡ sum_by amount_of es = own day n _ ∙ c in
      let z : (if is_of n n then debits (technical_account day n) (cover_moves BatchA day J n) else 0) ≡ 0 = own day n _ ∙ always_none (technical_account day n) (cover_of day n) (λ e. differ day (technical_account day n) (fund_account day n) t (fund_apart day n)) es in
      let a : amount_moved l ≡ sum_by amount_of es = amounts_of (cover_of day n) (λ e. refl) es in
      let p : paid_by_fund (l ∷ J) n ≡ (if is_cover_of n l then amount_moved l else 0) + paid_by_fund J n = paid_more n l J in
      let v : (if is_cover_of n l then amount_moved l else 0) ≡ amount_moved l = ap (λ b. if b then amount_moved l else 0) (eq-eqb n n refl) in
      let d = (same_weights day n l J (λ k. refl)).0 in
      let k = (same_weights day n l J (λ k. refl)).1 in
      let hc = h.came in
      let hd = h.went in
      record { came = omega arith; went = omega arith }
    where
      l : Line
      l = line kinds.Cover n 0 code (cover_moves BatchA day J n)

  -- ---- every line

  no_intake : (J : History) (c : Code) → sort_of day n ≡ BatchA → intake_moves day J n c ≡ []
  no_intake J line_codes.Ok q = subst (λ s. moves_as s day J n ≡ []) (sym q) refl
  no_intake J _ q = refl

  own_line : (kind : Kind) (J : History) (k : ℕ) (code : Code) (moves : List Move) → IsLegal day J → sort_of day n ≡ BatchA → is_expire_or_refuse kind ≡ false → Made kind day J n k code moves → Parts day J n → Parts day (line kind n k code moves ∷ J) n
  own_line kinds.In J k code moves legal q z m h = empty_line (line kinds.In n k code moves) J (λ k. refl) refl (m.2 ∙ no_intake J _ q) h
  own_line kinds.Book J k code moves legal q z m h = subst (λ x. Parts day (line kinds.Book n k code x ∷ J) n) (sym m.2) (book_line_step J k code legal q m.0 h)
  own_line kinds.All J k code moves legal q z m h = not_of_b day n q (and_parts (is_b (sort_of day n)) _ (and_parts _ _ (and_parts _ _ m.0).0).0).0
  own_line kinds.Ask J k code moves legal q z m h = empty_line (line kinds.Ask n k code moves) J (λ k. refl) refl m.2 h
  own_line kinds.Cover J k code moves legal q z m h =
      let f : FactsOfA day n = facts_of_a day J n legal q (going_accepted day J n (answered_going (phase day J n) (cover_answered day J n m.0))) in
      subst (λ j. Parts day (line kinds.Cover n j code moves ∷ J) n) (sym m.4) (subst (λ x. Parts day (line kinds.Cover n 0 code x ∷ J) n) (sym (m.2 ∙ ap (λ s. cover_moves s day J n) q))
      (cover_step J code f.has_technical h))
  own_line kinds.Time J k code moves legal q z m h = no_zero day n q m.3
  own_line kinds.Sweep J k code moves legal q z m h = no_zero day n q m.3
  own_line kinds.End J k code moves legal q z m h = no_zero day n q m.3
  own_line _ J k code moves legal q z m h = cc

  any_line : (l : Line) (J : History) → IsLegal day J → sort_of day n ≡ BatchA → is_closing_of n l ≡ false → Made l.head.kind day J l.head.msg l.head.entry l.head.code l.moves → Parts day J n → Parts day (l ∷ J) n
  any_line l J legal q z m h = here (nat_eq l.head.msg n) refl
    where
      no_closing : (a b : Bool) → b ≡ true → (a && b) ≡ false → a ≡ false
      no_closing true true e k = k
      no_closing false b e k = refl
      no_closing true false e k = cc

      here : (b : Bool) → nat_eq l.head.msg n ≡ b → Parts day (l ∷ J) n
      here true e = subst (λ x. Made l.head.kind day J x l.head.entry l.head.code l.moves → Parts day (line l.head.kind x l.head.entry l.head.code l.moves ∷ J) n) (sym (eqb-true l.head.msg n e))
          (λ m. own_line l.head.kind J l.head.entry l.head.code l.moves legal q (no_closing (is_expire_or_refuse l.head.kind) (nat_eq l.head.msg n) e z) m h) m
      here false e = still l J (λ k. and_left _ (nat_eq l.head.entry k) (and_right (is_book l.head.kind) _ e)) (and_right (is_cover l.head.kind) _ e) (ap (λ b. if b then credits (technical_account day n) l.moves else 0) e) (ap (λ b. if b then debits (technical_account day n) l.moves else 0) e) h

  pub parts : (J : History) → IsLegal day J → sort_of day n ≡ BatchA → is_some (closed J n) ≡ false → Parts day J n
  unfolding place_of
  parts [] legal q z = let d = none (is_debit_entry day n) in record { came = omega (arith, d); went = sym (none (is_credit_entry day n)) }
    where
      none : (pick : Entry → Bool) → weight pick (λ k. false) 1 (entries day n) ≡ 0
      none pick = weight_nothing pick (λ k. false) 1 (entries day n) (λ i e g p. refl)
  parts (l ∷ J) legal q z =
      let b = or_parts (is_some (closed J n)) (is_closing_of n l) (sym (placed_more (is_closing_of n) l J) ∙ z) in
      any_line l J legal.0 q b.1 (made_facts day J l legal.1).1 (parts J legal.0 q b.0)
