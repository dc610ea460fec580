-- What the lines of one A batch bring to its technical account and take from it.
use Rattle.std.proofs.Common.{◌≡◌, ℕ, suc, ◌+◌, ◌≤◌, Bool, true, false, not, ◌&&◌, ◌||◌, List, [], ◌∷◌, Option, Some, None, refl, sym, ◌∙◌, ap, subst, arith}
use Rattle.std.specs.Prelude.{is_some, nat_eq, if◌then◌else◌, map, slice_get, sum_by}
use Rattle.std.proofs.lemmas.Bool.{eqb-true, eq-eqb, and_left, and_right, or_right, and_parts}
use Rattle.std.proofs.lemmas.List.Sums.{sum_by-cons}
use Rattle.batch_records.specs.DayRecord.{Day}
use Rattle.batch_records.specs.declared.day.Entry.{Entry}
use Rattle.commit_journal.specs.declared.line.Move.{Move}
use Rattle.commit_journal.specs.declared.line.Code.{Code}
use Rattle.commit_journal.specs.declared.line.Code.TheVariants as line_codes
use Rattle.commit_journal.specs.declared.line.Kind.{Kind}
use Rattle.commit_journal.specs.declared.line.Kind.TheVariants as kinds
use Rattle.commit_journal.specs.Line.{Line, History}
use Rattle.machine.specs.declared.answers.Phase.{Phase}
use Rattle.machine.specs.declared.answers.Phase.TheVariants as phases
use Rattle.machine.specs.Words.{some_passes}
use Rattle.machine.specs.Records.Messages.{Missing, BatchA, sort_of, is_b, entries, part, move_of, debit_account, technical_account, fund_account, is_debit_entry, is_credit_entry}
use Rattle.machine.specs.Telling.History.{place_of, is_book, is_cover, is_expire_or_refuse, is_book_of, is_cover_of, is_closing_of, covered, closed}
use Rattle.machine.specs.Telling.Balances.{credits, debits}
use Rattle.machine.specs.Stages.Intake.{amount_of, entry_fits, intake_moves, moves_as}
use Rattle.machine.specs.Stages.Phases.{phase, is_booked, is_open, is_covered}
use Rattle.machine.specs.Stages.Pending.{item, is_pending}
use Rattle.machine.specs.Making.Lines.{line, may_book, moves_of_part, return_of, reversal, cover_of, cover_moves, debit_entries_by, is_free_part, is_covered_part}
use Rattle.machine.specs.Legal.{IsLegal}
use Rattle.machine.proofs.Lists.{all_get}
use Rattle.settlement_laws.proofs.Base.Made.{Made, made_facts}
use Rattle.settlement_laws.proofs.Base.PhaseLaws.{is_going, going_accepted, answered_going}
use Rattle.settlement_laws.proofs.Base.Lists.{never}
use Rattle.settlement_laws.proofs.Base.Weights.{weight, every, weight_is, weight_rises, weight_parts, weight_one, weight_nothing}
use Rattle.settlement_laws.proofs.ProcedureA.DebitedByOwnBatches.{is_a_account, fund_apart, SidesOfA, sides_of_a}
use Rattle.settlement_laws.proofs.ProcedureA.NoneFromTechnical.{differ, always_none}
use Rattle.settlement_laws.proofs.Base.LinesOf.{placed_more, unchanged, credited_by, debited_by, is_of}
use Rattle.settlement_laws.proofs.ProcedureA.FactsOfA.{debit_weight, credit_weight, FactsOfA, facts_of_a}
use Rattle.settlement_laws.proofs.ProcedureA.PhasesOfA.{late_facts, expire_late, refuse_late, cover_answered, PendingOfA, pending_of_a}

-- what came: the booked debits, or all of them once the fund covers; what went: the booked credits, and the booked debits once closed
pub record Bounds (day : Day) (J : History) (n : ℕ) : Type 0 where
  pub enough_came : (if is_some (covered J n) then debit_weight day n every else debit_weight day n (is_booked J n)) ≤ credited_by (is_of n) J (technical_account day n)
  pub little_went : debited_by (is_of n) J (technical_account day n) ≤ credit_weight day n (is_booked J n) + (if is_some (closed J n) then debit_weight day n (is_booked J n) else 0)

-- ---- over plain numbers

came : (v : Bool) (d b c x y : ℕ) → c ≤ b + x → (if v then d else b) ≤ y → (if v then d else c) ≤ y + x
came true d b c x y h k = omega arith
came false d b c x y h k = omega arith

went : (z : Bool) (b c k l y x : ℕ) → b ≤ c → k + x ≤ l → y ≤ k + (if z then b else 0) → y + x ≤ l + (if z then c else 0)
went true b c k l y x h i j = omega arith
went false b c k l y x h i j = omega arith

pub weight_same : (pick : Entry → Bool) (test more : ℕ → Bool) (s : ℕ) (es : List Entry) → ((k : ℕ) → test k ≡ more k) → weight pick test s es ≡ weight pick more s es
weight_same pick test more s es h =
    let a : weight pick test s es ≤ weight pick more s es = weight_rises pick test more s es (λ i e g p t. sym (h (s + i)) ∙ t) in
    let b : weight pick more s es ≤ weight pick test s es = weight_rises pick more test s es (λ i e g p t. h (s + i) ∙ t) in
    omega arith

-- ---- lines

module _ (day : Day) (n : ℕ) where
  -- a line that neither covers n nor closes it
  step : (l : Line) (J : History) → is_cover_of n l ≡ false → is_closing_of n l ≡ false →
      debit_weight day n (is_booked (l ∷ J) n) ≤ debit_weight day n (is_booked J n) + (if is_of n l.head.msg then credits (technical_account day n) l.moves else 0) →
      debit_weight day n (is_booked J n) ≤ debit_weight day n (is_booked (l ∷ J) n) →
      credit_weight day n (is_booked J n) + (if is_of n l.head.msg then debits (technical_account day n) l.moves else 0) ≤ credit_weight day n (is_booked (l ∷ J) n) →
      Bounds day J n → Bounds day (l ∷ J) n
  step l J v z a b c h = record {
    enough_came = subst (λ x. (if x then debit_weight day n every else debit_weight day n (is_booked (l ∷ J) n)) ≤ credited_by (is_of n) (l ∷ J) (technical_account day n)) (sym (unchanged (is_cover_of n) l J v))
        (came (is_some (covered J n)) (debit_weight day n every) (debit_weight day n (is_booked J n)) (debit_weight day n (is_booked (l ∷ J) n)) _ (credited_by (is_of n) J (technical_account day n)) a h.enough_came);
    little_went = subst (λ x. debited_by (is_of n) (l ∷ J) (technical_account day n) ≤ credit_weight day n (is_booked (l ∷ J) n) + (if x then debit_weight day n (is_booked (l ∷ J) n) else 0)) (sym (unchanged (is_closing_of n) l J z))
        (went (is_some (closed J n)) (debit_weight day n (is_booked J n)) (debit_weight day n (is_booked (l ∷ J) n)) (credit_weight day n (is_booked J n)) (credit_weight day n (is_booked (l ∷ J) n)) (debited_by (is_of n) J (technical_account day n)) _ b c h.little_went);
  }

  -- a line that books no entry of n leaves both weights
  pub same_weights : (l : Line) (J : History) → ((k : ℕ) → is_book_of n k l ≡ false) →
      (debit_weight day n (is_booked (l ∷ J) n) ≡ debit_weight day n (is_booked J n)) × (credit_weight day n (is_booked (l ∷ J) n) ≡ credit_weight day n (is_booked J n))
  same_weights l J b =
      let same : (k : ℕ) → is_booked (l ∷ J) n k ≡ is_booked J n k = λ k. unchanged (is_book_of n k) l J (b k) in
      (weight_same (is_debit_entry day n) _ _ 1 (entries day n) same, weight_same (is_credit_entry day n) _ _ 1 (entries day n) same)

  -- a line that books no entry of n, doesn't cover it or close it, and takes nothing
  quiet : (l : Line) (J : History) → ((k : ℕ) → is_book_of n k l ≡ false) → is_cover_of n l ≡ false → is_closing_of n l ≡ false →
      (if is_of n l.head.msg then debits (technical_account day n) l.moves else 0) ≡ 0 → Bounds day J n → Bounds day (l ∷ J) n
  quiet l J b v z w h =
      let d = (same_weights l J b).0 in
      let c = (same_weights l J b).1 in
      step l J v z (omega arith) (omega arith) (omega arith) h

  pub own : (x : ℕ) → (if is_of n n then x else 0) ≡ x
  own x = ap (λ b. if b then x else 0) (eq-eqb n n refl)

  -- an entry is booked
  pub gain : (p b : Bool) (x : ℕ) → b ≡ false → (if p && not b then x else 0) ≡ (if p then x else 0)
  gain true true x h = cc
  gain true false x h = refl
  gain false b x h = refl

  pub to_account : (t : ℕ) (m : Move) → m.credit ≡ t → credits t (m ∷ []) ≡ m.amount
  to_account t m h = let z : (if nat_eq m.credit t then m.amount else 0) ≡ m.amount = ap (λ b. if b then m.amount else 0) (eq-eqb m.credit t h) in omega arith

  pub from_account : (t : ℕ) (m : Move) → m.debit ≡ t → debits t (m ∷ []) ≡ m.amount
  from_account t m h = let z : (if nat_eq m.debit t then m.amount else 0) ≡ m.amount = ap (λ b. if b then m.amount else 0) (eq-eqb m.debit t h) in omega arith

  pub not_from : (t : ℕ) (m : Move) → nat_eq m.debit t ≡ false → debits t (m ∷ []) ≡ 0
  not_from t m h = let z : (if nat_eq m.debit t then m.amount else 0) ≡ 0 = ap (λ b. if b then m.amount else 0) h in omega arith

  book_step : (J : History) (k i : ℕ) (code : Code) (x : Entry) → k ≡ suc i → slice_get (entries day n) i ≡ Some x → is_booked J n k ≡ false → SidesOfA day n x → is_a_account day (technical_account day n) ≡ true →
      Bounds day J n → Bounds day (line kinds.Book n k code (move_of day x ∷ []) ∷ J) n
  book_step J k i code x ki g u s t h = here (is_debit_entry day n x) refl
    where
      l : Line
      l = line kinds.Book n k code (move_of day x ∷ [])

      same : (j : ℕ) → is_booked (l ∷ J) n j ≡ (is_booked J n j || nat_eq k j)
      same j = placed_more (is_book_of n j) l J ∙ ap (λ b. is_booked J n j || (b && nat_eq k j)) (eq-eqb n n refl)

      rise : (pick : Entry → Bool) → weight pick (is_booked (l ∷ J) n) 1 (entries day n) ≡ weight pick (is_booked J n) 1 (entries day n) + (if pick x then x.amount else 0)
      rise pick =
          let a : weight pick (is_booked (l ∷ J) n) 1 (entries day n) ≡ weight pick (λ j. is_booked J n j || nat_eq k j) 1 (entries day n) = weight_same pick _ _ 1 (entries day n) same in
          let b : weight pick (λ j. is_booked J n j || nat_eq k j) 1 (entries day n) ≡ weight pick (is_booked J n) 1 (entries day n) + (if pick x && not (is_booked J n k) then x.amount else 0) = weight_one pick (is_booked J n) k 1 i (entries day n) x (omega arith) g in
          let c : (if pick x && not (is_booked J n k) then x.amount else 0) ≡ (if pick x then x.amount else 0) = gain (pick x) (is_booked J n k) x.amount u in
          omega arith

      here : (p : Bool) → is_debit_entry day n x ≡ p → Bounds day (l ∷ J) n
      here true p =
          let d : debit_weight day n (is_booked (l ∷ J) n) ≡ debit_weight day n (is_booked J n) + x.amount = rise (is_debit_entry day n) ∙ ap (λ b. debit_weight day n (is_booked J n) + (if b then x.amount else 0)) p in
          let c : credit_weight day n (is_booked (l ∷ J) n) ≡ credit_weight day n (is_booked J n) + 0 = rise (is_credit_entry day n) ∙ ap (λ b. credit_weight day n (is_booked J n) + (if not b then x.amount else 0)) p in
          let y : (if is_of n n then credits (technical_account day n) (move_of day x ∷ []) else 0) ≡ x.amount = own _ ∙ to_account (technical_account day n) (move_of day x) (s.debit_side p).0 in
          let z : (if is_of n n then debits (technical_account day n) (move_of day x ∷ []) else 0) ≡ 0 = own _ ∙ not_from (technical_account day n) (move_of day x) (differ day (technical_account day n) (debit_account day x) t (s.debit_side p).1) in
          step l J refl refl (omega arith) (omega arith) (omega arith) h
      here false p =
          let d : debit_weight day n (is_booked (l ∷ J) n) ≡ debit_weight day n (is_booked J n) + 0 = rise (is_debit_entry day n) ∙ ap (λ b. debit_weight day n (is_booked J n) + (if b then x.amount else 0)) p in
          let c : credit_weight day n (is_booked (l ∷ J) n) ≡ credit_weight day n (is_booked J n) + x.amount = rise (is_credit_entry day n) ∙ ap (λ b. credit_weight day n (is_booked J n) + (if not b then x.amount else 0)) p in
          let z : (if is_of n n then debits (technical_account day n) (move_of day x ∷ []) else 0) ≡ x.amount = own _ ∙ from_account (technical_account day n) (move_of day x) (s.credit_side p) in
          step l J refl refl (omega arith) (omega arith) (omega arith) h

  -- ---- cover and reversal

  pub credits_to : (t : ℕ) (f : Entry → Move) → ((e : Entry) → (f e).credit ≡ t) → ((e : Entry) → (f e).amount ≡ e.amount) → (es : List Entry) → credits t (map f es) ≡ sum_by amount_of es
  credits_to t f h k [] = refl
  credits_to t f h k (e ∷ es) =
      let z : (if nat_eq (f e).credit t then (f e).amount else 0) ≡ (f e).amount = ap (λ b. if b then (f e).amount else 0) (eq-eqb (f e).credit t (h e)) in
      let a : (f e).amount ≡ e.amount = k e in
      let r : credits t (map f es) ≡ sum_by amount_of es = credits_to t f h k es in
      let s : sum_by amount_of (e ∷ es) ≡ e.amount + sum_by amount_of es = sum_by-cons amount_of e es in
      omega arith

  debits_from : (t : ℕ) (f : Entry → Move) → ((e : Entry) → (f e).debit ≡ t) → ((e : Entry) → (f e).amount ≡ e.amount) → (es : List Entry) → debits t (map f es) ≡ sum_by amount_of es
  debits_from t f h k [] = refl
  debits_from t f h k (e ∷ es) =
      let z : (if nat_eq (f e).debit t then (f e).amount else 0) ≡ (f e).amount = ap (λ b. if b then (f e).amount else 0) (eq-eqb (f e).debit t (h e)) in
      let a : (f e).amount ≡ e.amount = k e in
      let r : debits t (map f es) ≡ sum_by amount_of es = debits_from t f h k es in
      let s : sum_by amount_of (e ∷ es) ≡ e.amount + sum_by amount_of es = sum_by-cons amount_of e es in
      omega arith

  pub by_weight : (test : ℕ → Bool) → sum_by amount_of (debit_entries_by day n test) ≡ debit_weight day n test
  by_weight test = weight_is (is_debit_entry day n) test 1 (entries day n)

  pub reversal_weight : (J : History) → debits (technical_account day n) (reversal BatchA day J n) ≡ debit_weight day n (is_booked J n)
  reversal_weight J = debits_from (technical_account day n) (return_of day n) (λ e. refl) (λ e. refl) (debit_entries_by day n (is_booked J n)) ∙ by_weight (is_booked J n)

  came_all : (v : Bool) (d b x y : ℕ) → b + x ≡ d → (if v then d else b) ≤ y → d ≤ y + x
  came_all true d b x y h k = omega arith
  came_all false d b x y h k = omega arith

  cover_step : (J : History) (code : Code) → is_a_account day (technical_account day n) ≡ true → Bounds day J n → Bounds day (line kinds.Cover n 0 code (cover_moves BatchA day J n) ∷ J) n
  cover_step J code t h =
      let es : List Entry = debit_entries_by day n (λ k. not (is_booked J n k)) in
      let c : credits (technical_account day n) (cover_moves BatchA day J n) ≡ debit_weight day n (λ k. not (is_booked J n k)) = credits_to (technical_account day n) (cover_of day n) (λ e. refl) (λ e. refl) es ∙ by_weight (λ k. not (is_booked J n k)) in
      let y : (if is_of n n then credits (technical_account day n) (cover_moves BatchA day J n) else 0) ≡ debit_weight day n (λ k. not (is_booked J n k)) = own _ ∙ c in
      let p : debit_weight day n (is_booked J n) + debit_weight day n (λ k. not (is_booked J n k)) ≡ debit_weight day n every = weight_parts (is_debit_entry day n) (is_booked J n) 1 (entries day n) in
      let z : (if is_of n n then debits (technical_account day n) (cover_moves BatchA day J n) else 0) ≡ 0 = own _ ∙ always_none (technical_account day n) (cover_of day n) (λ e. differ day (technical_account day n) (fund_account day n) t (fund_apart day n)) es in
      let d = (same_weights l J (λ k. refl)).0 in
      let k = (same_weights l J (λ k. refl)).1 in
      record {
        enough_came = subst (λ x. (if x then debit_weight day n every else debit_weight day n (is_booked (l ∷ J) n)) ≤ credited_by (is_of n) (l ∷ J) (technical_account day n)) (sym covers)
            (came_all (is_some (covered J n)) (debit_weight day n every) (debit_weight day n (is_booked J n)) _ (credited_by (is_of n) J (technical_account day n)) (ap (λ x. debit_weight day n (is_booked J n) + x) y ∙ p) h.enough_came);
        little_went = subst (λ x. debited_by (is_of n) (l ∷ J) (technical_account day n) ≤ credit_weight day n (is_booked (l ∷ J) n) + (if x then debit_weight day n (is_booked (l ∷ J) n) else 0)) (sym (unchanged (is_closing_of n) l J refl))
            (went (is_some (closed J n)) (debit_weight day n (is_booked J n)) (debit_weight day n (is_booked (l ∷ J) n)) (credit_weight day n (is_booked J n)) (credit_weight day n (is_booked (l ∷ J) n)) (debited_by (is_of n) J (technical_account day n)) _ (omega arith) (omega arith) h.little_went);
      }
    where
      l : Line
      l = line kinds.Cover n 0 code (cover_moves BatchA day J n)

      covers : is_some (covered (l ∷ J) n) ≡ true
      covers = placed_more (is_cover_of n) l J ∙ or_right (is_some (covered J n)) (is_cover_of n l) (eq-eqb n n refl)

  went_back : (z : Bool) (b c k l y x : ℕ) → z ≡ false → x ≤ c → k ≤ l → y ≤ k + (if z then b else 0) → y + x ≤ l + c
  went_back true b c k l y x e h i j = cc
  went_back false b c k l y x e h i j = omega arith

  close_step : (kind : Kind) (J : History) (code : Code) → is_expire_or_refuse kind ≡ true → is_book kind ≡ false → is_cover kind ≡ false → is_some (closed J n) ≡ false → Bounds day J n → Bounds day (line kind n 0 code (reversal BatchA day J n) ∷ J) n
  close_step kind J code closes no_book no_cover open_still h =
      let d = (same_weights l J (λ k. ap (λ b. b && nat_eq n n && nat_eq 0 k) no_book)).0 in
      let k = (same_weights l J (λ k. ap (λ b. b && nat_eq n n && nat_eq 0 k) no_book)).1 in
      let z : (if is_of n n then debits (technical_account day n) (reversal BatchA day J n) else 0) ≡ debit_weight day n (is_booked J n) = own _ ∙ reversal_weight J in
      record {
        enough_came = subst (λ x. (if x then debit_weight day n every else debit_weight day n (is_booked (l ∷ J) n)) ≤ credited_by (is_of n) (l ∷ J) (technical_account day n)) (sym (unchanged (is_cover_of n) l J (ap (λ b. b && nat_eq n n) no_cover)))
            (came (is_some (covered J n)) (debit_weight day n every) (debit_weight day n (is_booked J n)) (debit_weight day n (is_booked (l ∷ J) n)) _ (credited_by (is_of n) J (technical_account day n)) (omega arith) h.enough_came);
        little_went = subst (λ x. debited_by (is_of n) (l ∷ J) (technical_account day n) ≤ credit_weight day n (is_booked (l ∷ J) n) + (if x then debit_weight day n (is_booked (l ∷ J) n) else 0)) (sym closed_now)
            (went_back (is_some (closed J n)) (debit_weight day n (is_booked J n)) (debit_weight day n (is_booked (l ∷ J) n)) (credit_weight day n (is_booked J n)) (credit_weight day n (is_booked (l ∷ J) n)) (debited_by (is_of n) J (technical_account day n)) _ open_still (omega arith) (omega arith) h.little_went);
      }
    where
      l : Line
      l = line kind n 0 code (reversal BatchA day J n)

      closed_now : is_some (closed (l ∷ J) n) ≡ true
      closed_now = placed_more (is_closing_of n) l J ∙ or_right (is_some (closed J n)) (is_closing_of n l) (ap (λ b. b && nat_eq n n) closes ∙ eq-eqb n n refl)

  -- ---- every line

  pub no_zero : {X : Type 0} → sort_of day n ≡ BatchA → n ≡ 0 → X
  no_zero q e = apart (subst (λ x. sort_of day x ≡ BatchA) e q)
    where
      apart : {X : Type 0} → Missing ≡ BatchA → X
      apart h = cc

  pub not_of_b : {X : Type 0} → sort_of day n ≡ BatchA → is_b (sort_of day n) ≡ true → X
  not_of_b q h = never false (subst (λ s. is_b s ≡ true) q h) refl

  intake_nothing : (J : History) (c : Code) → sort_of day n ≡ BatchA → debits (technical_account day n) (intake_moves day J n c) ≡ 0
  intake_nothing J line_codes.Ok q = subst (λ s. debits (technical_account day n) (moves_as s day J n) ≡ 0) (sym q) refl
  intake_nothing J _ q = refl

  -- the entry that a Book line books
  book_line_step : (J : History) (k : ℕ) (code : Code) → IsLegal day J → sort_of day n ≡ BatchA → may_book day J n k ≡ true → Bounds day J n → Bounds day (line kinds.Book n k code (moves_of_part day (part day n k)) ∷ J) n
  book_line_step J k code legal q m h =
      let b = and_parts (is_pending day J (item n k) && not (is_b (sort_of day n))) _ m in
      let p : PendingOfA day J n k = pending_of_a day J n k q (and_parts (is_pending day J (item n k)) _ b.0).0 in
      let f : FactsOfA day n = facts_of_a day J n legal q (going_accepted day J n (open_or_covered_going (phase day J n) p.open_or_covered)) in
      here f k p.index p.number (part day n k) refl p.is_unbooked b.1
    where
      here : FactsOfA day n → (k i : ℕ) → k ≡ suc i → (o : Option Entry) → part day n k ≡ o → is_booked J n k ≡ false → some_passes (λ e. is_free_part day J (item n k) e && is_covered_part day J n e) o ≡ true → Bounds day (line kinds.Book n k code (moves_of_part day o) ∷ J) n
      here f k i e None g u b = cc
      here f k i e (Some x) g u b =
          let at : slice_get (entries day n) i ≡ Some x = subst (λ k. part day n k ≡ Some x) e g in
          book_step J k i code x e at u (sides_of_a day n x f.has_technical (all_get (entry_fits BatchA day n) (entries day n) i x f.forms_fit at)) f.has_technical h

      open_or_covered_going : (p : Phase) → (is_open p || is_covered p) ≡ true → is_going p ≡ true
      open_or_covered_going phases.Open h = refl
      open_or_covered_going phases.Covered h = refl
      open_or_covered_going _ h = cc

  own_line : (kind : Kind) (J : History) (k : ℕ) (code : Code) (moves : List Move) → IsLegal day J → sort_of day n ≡ BatchA → Made kind day J n k code moves → Bounds day J n → Bounds day (line kind n k code moves ∷ J) n
  own_line kinds.In J k code moves legal q m h = quiet (line kinds.In n k code moves) J (λ k. refl) refl refl (own _ ∙ ap (debits (technical_account day n)) m.2 ∙ intake_nothing J _ q) h
  own_line kinds.Book J k code moves legal q m h = subst (λ x. Bounds day (line kinds.Book n k code x ∷ J) n) (sym m.2) (book_line_step J k code legal q m.0 h)
  own_line kinds.All J k code moves legal q m h = not_of_b q (and_parts (is_b (sort_of day n)) _ (and_parts _ _ (and_parts _ _ m.0).0).0).0
  own_line kinds.Ask J k code moves legal q m h = quiet (line kinds.Ask n k code moves) J (λ k. refl) refl refl (own _ ∙ ap (debits (technical_account day n)) m.2) h
  own_line kinds.Expire J k code moves legal q m h =
      subst (λ j. Bounds day (line kinds.Expire n j code moves ∷ J) n) (sym m.4) (subst (λ x. Bounds day (line kinds.Expire n 0 code x ∷ J) n) (sym (m.2 ∙ ap (λ s. reversal s day J n) q))
      (close_step kinds.Expire J code refl refl refl (late_facts day J n q (expire_late day J n m.0)).closed_no h))
  own_line kinds.Refuse J k code moves legal q m h =
      subst (λ j. Bounds day (line kinds.Refuse n j code moves ∷ J) n) (sym m.4) (subst (λ x. Bounds day (line kinds.Refuse n 0 code x ∷ J) n) (sym (m.2 ∙ ap (λ s. reversal s day J n) q))
      (close_step kinds.Refuse J code refl refl refl (late_facts day J n q (refuse_late day J n code m.0)).closed_no h))
  own_line kinds.Cover J k code moves legal q m h =
      let f : FactsOfA day n = facts_of_a day J n legal q (going_accepted day J n (answered_going (phase day J n) (cover_answered day J n m.0))) in
      subst (λ j. Bounds day (line kinds.Cover n j code moves ∷ J) n) (sym m.4) (subst (λ x. Bounds day (line kinds.Cover n 0 code x ∷ J) n) (sym (m.2 ∙ ap (λ s. cover_moves s day J n) q))
      (cover_step J code f.has_technical h))
  own_line kinds.Time J k code moves legal q m h = no_zero q m.3
  own_line kinds.Sweep J k code moves legal q m h = no_zero q m.3
  own_line kinds.End J k code moves legal q m h = no_zero q m.3

  any_line : (l : Line) (J : History) → IsLegal day J → sort_of day n ≡ BatchA → Made l.head.kind day J l.head.msg l.head.entry l.head.code l.moves → Bounds day J n → Bounds day (l ∷ J) n
  any_line l J legal q m h = here (nat_eq l.head.msg n) refl
    where
      here : (b : Bool) → nat_eq l.head.msg n ≡ b → Bounds day (l ∷ J) n
      here true e = subst (λ x. Made l.head.kind day J x l.head.entry l.head.code l.moves → Bounds day (line l.head.kind x l.head.entry l.head.code l.moves ∷ J) n) (sym (eqb-true l.head.msg n e)) (λ m. own_line l.head.kind J l.head.entry l.head.code l.moves legal q m h) m
      here false e = quiet l J (λ k. and_left _ (nat_eq l.head.entry k) (and_right (is_book l.head.kind) _ e)) (and_right (is_cover l.head.kind) _ e) (and_right (is_expire_or_refuse l.head.kind) _ e) (ap (λ b. if b then debits (technical_account day n) l.moves else 0) e) h

  pub bounds : (J : History) → IsLegal day J → sort_of day n ≡ BatchA → Bounds day J n
  unfolding place_of
  bounds [] legal q = record { enough_came = zero_weight (is_debit_entry day n); little_went = omega arith }
    where
      zero_weight : (pick : Entry → Bool) → weight pick (λ k. false) 1 (entries day n) ≤ 0
      zero_weight pick = let z = weight_nothing pick (λ k. false) 1 (entries day n) (λ i e g p. refl) in omega arith
  bounds (l ∷ J) legal q = any_line l J legal.0 q (made_facts day J l legal.1).1 (bounds J legal.0 q)
