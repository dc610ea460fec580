-- A line of another sort, or of an A batch of another technical account, credits no technical account of A.
use Rattle.std.proofs.Common.{◌≡◌, ℕ, zero, suc, Bool, true, false, not, ◌&&◌, ◌||◌, List, [], ◌∷◌, ◌++◌, Option, Some, None, refl, sym, ◌∙◌, ap, subst, arith, inl, inr}
use Rattle.std.specs.Prelude.{is_none, nat_eq, if◌then◌else◌, map}
use Rattle.std.specs.List.{list_all}
use Rattle.std.proofs.lemmas.Bool.{eq-eqb, ne_eqb, not-false, or_cases, and_parts}
use Rattle.batch_records.specs.DayRecord.{Day}
use Rattle.batch_records.specs.declared.day.Entry.{Entry}
use Rattle.commit_journal.specs.declared.line.Move.{Move}
use Rattle.commit_journal.specs.declared.line.Code.{Code}
use Rattle.commit_journal.specs.declared.line.Code.TheVariants as line_codes
use Rattle.commit_journal.specs.declared.line.Kind.{Kind}
use Rattle.commit_journal.specs.declared.line.Kind.TheVariants as kinds
use Rattle.commit_journal.specs.Line.{History}
use Rattle.machine.specs.declared.answers.Phase.{Phase}
use Rattle.machine.specs.Words.{some_passes}
use Rattle.machine.specs.Records.Setup.{is_dca_account, is_dca_of, is_sub_of, is_sub_for, is_sub_account, owner}
use Rattle.machine.specs.Records.Messages.{Sort, Pay, BatchA, BatchB, BatchC, BatchD, BatchE, Liquidity, sort_of, sender, entries, entry_at, part, transfer, move_of, debit_account, credit_account, technical_account, pays_technical, is_paid_from_technical, is_debit_entry, is_credit_entry, debit_entries, credit_entries, is_batch, is_a, is_b, is_a_or_b}
use Rattle.machine.specs.Telling.History.{is_ok, is_accepted}
use Rattle.machine.specs.Telling.Balances.{balance, credits}
use Rattle.machine.specs.Stages.Intake.{intake_code, intake_moves, moves_as, transfer_moves, afforded_in_order, entry_fits, payment_fits, liquidity_fits, is_technical_d, accounts_are_wrong}
use Rattle.machine.specs.Stages.Phases.{phase, is_open, is_covered, is_booked, is_overdue, is_answered}
use Rattle.machine.specs.Stages.Pending.{is_pending, pending_as, first_unbooked_debit}
use Rattle.machine.specs.Making.Lines.{may_book, may_settle_whole, may_expire, may_lapse, may_cover, may_sweep, moves_of_part, return_of, reversal, debit_entries_by, cover_of, covered_debit, cover_moves, is_short_debtor, sweep_move, refusal, fund_suffices}
use Rattle.machine.specs.Legal.{IsLegal}
use Rattle.machine.proofs.Lists.{all_get}
use Rattle.settlement_laws.proofs.Base.Made.{Made}
use Rattle.settlement_laws.proofs.Base.IntakeFacts.{IsPassed, passed_intake}
use Rattle.settlement_laws.proofs.Base.PhaseLaws.{going_accepted, overdue_going, answered_going}
use Rattle.settlement_laws.proofs.Base.Lists.{IsIn, never, all_in, from_filter}
use Rattle.settlement_laws.proofs.Balances.MovesOfTheDay.{SubsHaveDca, forms, pending_going, accepted_fits, accepted_accounts, some_holds, no_entry_zero, refusal_going}
use Rattle.settlement_laws.proofs.Balances.TouchesItsAccounts.{from_turn, chosen}
use Rattle.settlement_laws.proofs.ProcedureB.WholeIsCovered.{credits-append}
use Rattle.settlement_laws.proofs.ProcedureA.DebitedByOwnBatches.{paid_to}
use Rattle.settlement_laws.proofs.Balances.RolesOfAccounts.{role_at, dca_is, dca_of_is, sub_of_is, sub_for_is, technical_d_is, first_dca_is, to_technical}

-- each move goes to an account other than t
abbrev pub NoneTo : ℕ → List Move → Type 0
NoneTo t moves = credits t moves ≡ 0

one_to : (t : ℕ) (m : Move) (moves : List Move) → nat_eq m.credit t ≡ false → NoneTo t moves → NoneTo t (m ∷ moves)
one_to t m moves h k = let z : (if nat_eq m.credit t then m.amount else 0) ≡ 0 = ap (λ b. if b then m.amount else 0) h in omega arith

map_to : (t : ℕ) (f : Entry → Move) (es : List Entry) → ((e : Entry) → IsIn e es → nat_eq (f e).credit t ≡ false) → NoneTo t (map f es)
map_to t f [] h = refl
map_to t f (e ∷ es) h = one_to t (f e) (map f es) (h e (inl refl)) (map_to t f es (λ x i. h x (inr i)))

append_to : (t : ℕ) (xs ys : List Move) → NoneTo t xs → NoneTo t ys → NoneTo t (xs ++ ys)
append_to t xs ys h k = let a = credits-append t xs ys in omega arith

module _ (day : Day) (J : History) (n t : ℕ) (role : role_at day t ≡ 4) where
  -- an account that plays another part
  other : (a i : ℕ) → role_at day a ≡ i → nat_eq i 4 ≡ false → nat_eq a t ≡ false
  other a i h d = ne_eqb a t (λ e. never (nat_eq i 4) (eq-eqb i 4 (sym h ∙ ap (role_at day) e ∙ role)) d)

  -- ---- entries and transfers of the right form

  entry_to : (s : Sort) (e : Entry) → sort_of day n ≡ s → is_batch s ≡ true → (is_a s && nat_eq (technical_account day n) t) ≡ false → entry_fits s day n e ≡ true → nat_eq (credit_account day e) t ≡ false
  entry_to BatchA e q b o h = elim (forms (is_dca_account day e.debit) (pays_technical day n e) (is_paid_from_technical day n e) (is_dca_account day e.credit) h) [
    | inl l ↦ ap (λ a. nat_eq a t) (paid_to day n e l.1) ∙ o
    | inr r ↦ other (credit_account day e) 0 (dca_is day e.credit r.1) refl
  ]
  entry_to BatchB e q b o h = elim (forms (is_dca_account day e.debit) (pays_technical day n e) (is_paid_from_technical day n e) (is_dca_account day e.credit) h) [
    | inl l ↦ other (credit_account day e) 5 (to_technical day n e BatchB q l.1) refl
    | inr r ↦ other (credit_account day e) 0 (dca_is day e.credit r.1) refl
  ]
  entry_to BatchC e q b o h = elim (forms (is_sub_for day (sender day n) e.debit) (pays_technical day n e) (is_paid_from_technical day n e) (is_sub_for day (sender day n) e.credit) h) [
    | inl l ↦ other (credit_account day e) 6 (to_technical day n e BatchC q l.1) refl
    | inr r ↦ other (credit_account day e) 1 (sub_for_is day (sender day n) e.credit r.1) refl
  ]
  entry_to BatchD e q b o h = other (credit_account day e) 0 (dca_is day e.credit (and_parts (is_paid_from_technical day n e) (is_dca_account day e.credit) h).1) refl
  entry_to BatchE e q b o h = other (credit_account day e) 0 (dca_is day e.credit (and_parts (is_dca_account day e.debit) (is_dca_account day e.credit) (and_parts _ _ h).0).1) refl
  entry_to _ e q b o h = cc

  payment_to : (e : Entry) → payment_fits day (sender day n) e ≡ true → nat_eq (credit_account day e) t ≡ false
  payment_to e h = other (credit_account day e) 0 (dca_is day e.credit (and_parts (is_dca_of day (sender day n) e.debit) (is_dca_account day e.credit) (and_parts _ _ h).0).1) refl

  liquidity_to : (e : Entry) → liquidity_fits day (sender day n) e ≡ true → nat_eq (credit_account day e) t ≡ false
  liquidity_to e h = elim (or_cases (is_dca_of day (sender day n) e.debit && is_sub_of day (sender day n) e.credit || is_sub_of day (sender day n) e.debit && is_dca_of day (sender day n) e.credit) (is_dca_of day (sender day n) e.debit && is_technical_d day e.credit) h) [
    | inl l ↦ elim (forms (is_dca_of day (sender day n) e.debit) (is_sub_of day (sender day n) e.credit) (is_sub_of day (sender day n) e.debit) (is_dca_of day (sender day n) e.credit) l) [
      | inl p ↦ other (credit_account day e) 1 (sub_of_is day (sender day n) e.credit p.1) refl
      | inr p ↦ other (credit_account day e) 0 (dca_of_is day (sender day n) e.credit p.1) refl
    ]
    | inr r ↦ other (credit_account day e) 7 (technical_d_is day e.credit (and_parts (is_dca_of day (sender day n) e.debit) (is_technical_d day e.credit) r).1) refl
  ]

  -- ---- In

  transfer_to : (o : Option Entry) → some_passes (liquidity_fits day (sender day n)) o ≡ true → NoneTo t (transfer_moves day o)
  transfer_to None h = refl
  transfer_to (Some e) h = one_to t (move_of day e) [] (liquidity_to e h) refl

  taken_to : (s : Sort) → sort_of day n ≡ s → accounts_are_wrong s day n ≡ false → list_all (entry_fits s day n) (entries day n) ≡ true → NoneTo t (moves_as s day J n)
  taken_to Liquidity q a f = transfer_to (transfer day n) (not-false _ a)
  taken_to BatchD q a f =
      map_to t (move_of day) (afforded_in_order (balance day J (technical_account day n)) (entries day n))
      (λ e i. entry_to BatchD e q refl refl (all_in (entry_fits BatchD day n) (entries day n) e f (from_turn (balance day J (technical_account day n)) (entries day n) e i)))
  taken_to _ q a f = refl

  intake_to : (c : Code) → (is_ok c ≡ true → IsPassed day J n) → NoneTo t (intake_moves day J n c)
  intake_to line_codes.Ok h = taken_to (sort_of day n) refl (h refl).accounts_right (not-false _ (h refl).entries_right)
  intake_to _ h = refl

  -- ---- Book

  numbered_to : (s : Sort) (k : ℕ) (x : Entry) → sort_of day n ≡ s → is_batch s ≡ true → (is_a s && nat_eq (technical_account day n) t) ≡ false → list_all (entry_fits s day n) (entries day n) ≡ true → entry_at day n (suc k) ≡ Some x → nat_eq (credit_account day x) t ≡ false
  numbered_to s k x q b o f e = entry_to s x q b o (all_get (entry_fits s day n) (entries day n) k x f e)

  booked_to : (s : Sort) (k : ℕ) (p : Phase) → sort_of day n ≡ s → (is_a s && nat_eq (technical_account day n) t) ≡ false → pending_as s day J n k p ≡ true → not (is_b s) ≡ true → accounts_are_wrong s day n ≡ false → list_all (entry_fits s day n) (entries day n) ≡ true →
      (x : Entry) → part day n k ≡ Some x → nat_eq (credit_account day x) t ≡ false
  booked_to Pay zero p q o h b a f x e = payment_to x (some_holds (payment_fits day (sender day n)) (transfer day n) x (not-false _ a) e)
  booked_to Pay (suc k) p q o h b a f x e = cc
  booked_to BatchA zero p q o h b a f x e = absurd (no_entry_zero (is_open p) (is_covered p) (not (is_booked J n 0)) (is_none (first_unbooked_debit day J n)) h)
  booked_to BatchA (suc k) p q o h b a f x e = numbered_to BatchA k x q refl o f e
  booked_to BatchC zero p q o h b a f x e = cc
  booked_to BatchC (suc k) p q o h b a f x e = numbered_to BatchC k x q refl refl f e
  booked_to BatchE zero p q o h b a f x e = cc
  booked_to BatchE (suc k) p q o h b a f x e = numbered_to BatchE k x q refl refl f e
  booked_to _ k p q o h b a f x e = cc

  part_to : (o : Option Entry) → ((x : Entry) → o ≡ Some x → nat_eq (credit_account day x) t ≡ false) → NoneTo t (moves_of_part day o)
  part_to None h = refl
  part_to (Some e) h = one_to t (move_of day e) [] (h e refl) refl

  book_to : (k : ℕ) → IsLegal day J → (is_a (sort_of day n) && nat_eq (technical_account day n) t) ≡ false → may_book day J n k ≡ true → NoneTo t (moves_of_part day (part day n k))
  unfolding is_pending
  book_to k legal o h =
      let b = and_parts (pending_as (sort_of day n) day J n k (phase day J n)) (not (is_b (sort_of day n))) (and_parts _ _ h).0 in
      let ok : is_accepted J n ≡ true = going_accepted day J n (pending_going (sort_of day n) day J n k (phase day J n) b.0) in
      part_to (part day n k) (booked_to (sort_of day n) k (phase day J n) refl o b.0 b.1 (accepted_accounts day J n legal ok) (accepted_fits day J n legal ok))

  -- ---- All, Cover

  b_entry : (e : Entry) → sort_of day n ≡ BatchB → list_all (entry_fits BatchB day n) (entries day n) ≡ true → IsIn e (entries day n) → nat_eq (credit_account day e) t ≡ false
  b_entry e q f i = entry_to BatchB e q refl refl (all_in (entry_fits BatchB day n) (entries day n) e f i)

  whole_to : (s : Sort) → sort_of day n ≡ s → is_b s ≡ true → list_all (entry_fits s day n) (entries day n) ≡ true → NoneTo t (map (move_of day) (debit_entries day n) ++ map (move_of day) (credit_entries day n))
  whole_to BatchB q b f = append_to t _ _
      (map_to t (move_of day) (debit_entries day n) (λ e i. b_entry e q f (from_filter (is_debit_entry day n) (entries day n) e i).0))
      (map_to t (move_of day) (credit_entries day n) (λ e i. b_entry e q f (from_filter (is_credit_entry day n) (entries day n) e i).0))
  whole_to _ q b f = cc

  all_to : IsLegal day J → may_settle_whole day J n ≡ true → NoneTo t (map (move_of day) (debit_entries day n) ++ map (move_of day) (credit_entries day n))
  unfolding is_pending
  all_to legal h =
      let b = and_parts (is_b (sort_of day n)) (pending_as (sort_of day n) day J n 0 (phase day J n)) (and_parts _ _ (and_parts _ _ h).0).0 in
      let ok : is_accepted J n ≡ true = going_accepted day J n (pending_going (sort_of day n) day J n 0 (phase day J n) b.1) in
      whole_to (sort_of day n) refl b.0 (accepted_fits day J n legal ok)

  -- with the fund in place of the debit account
  paid_debit : (e : Entry) → sort_of day n ≡ BatchB → list_all (entry_fits BatchB day n) (entries day n) ≡ true → IsIn e (entries day n) → is_debit_entry day n e ≡ true → nat_eq (covered_debit day J n e).credit t ≡ false
  paid_debit e q f i p = here (is_short_debtor day J n (debit_account day e))
    where
      here : (b : Bool) → nat_eq (if b then cover_of day n e else move_of day e).credit t ≡ false
      here true = ap (λ a. nat_eq a t) (sym (paid_to day n e p)) ∙ b_entry e q f i
      here false = b_entry e q f i

  cover_to : (s : Sort) → sort_of day n ≡ s → (is_a s && nat_eq (technical_account day n) t) ≡ false → list_all (entry_fits s day n) (entries day n) ≡ true → NoneTo t (cover_moves s day J n)
  cover_to BatchA q o f = map_to t (cover_of day n) _ (λ e i. o)
  cover_to BatchB q o f = append_to t _ _
      (map_to t (covered_debit day J n) (debit_entries day n) (λ e i. let c = from_filter (is_debit_entry day n) (entries day n) e i in paid_debit e q f c.0 c.1))
      (map_to t (move_of day) (credit_entries day n) (λ e i. b_entry e q f (from_filter (is_credit_entry day n) (entries day n) e i).0))
  cover_to _ q o f = refl

  covers_to : IsLegal day J → (is_a (sort_of day n) && nat_eq (technical_account day n) t) ≡ false → may_cover day J n ≡ true → NoneTo t (cover_moves (sort_of day n) day J n)
  covers_to legal o h =
      let a : is_answered (phase day J n) ≡ true = (and_parts (is_a_or_b (sort_of day n)) (is_answered (phase day J n)) (and_parts _ _ (and_parts _ _ h).0).0).1 in
      cover_to (sort_of day n) refl o (accepted_fits day J n legal (going_accepted day J n (answered_going (phase day J n) a)))

  -- ---- Expire, Refuse, Sweep

  -- a debit entry of A is paid by a DCA
  debtor_apart : (e : Entry) → sort_of day n ≡ BatchA → entry_fits BatchA day n e ≡ true → is_debit_entry day n e ≡ true → nat_eq (debit_account day e) t ≡ false
  debtor_apart e q h p = elim (forms (is_dca_account day e.debit) (pays_technical day n e) (is_paid_from_technical day n e) (is_dca_account day e.credit) h) [
    | inl l ↦ other (debit_account day e) 0 (dca_is day e.debit l.0) refl
    | inr r ↦ never (nat_eq (role_at day (credit_account day e)) 4) (eq-eqb (role_at day (credit_account day e)) 4 (to_technical day n e BatchA q p)) (ap (λ x. nat_eq x 4) (dca_is day e.credit r.1))
  ]

  reversal_to : (s : Sort) → sort_of day n ≡ s → list_all (entry_fits s day n) (entries day n) ≡ true → NoneTo t (reversal s day J n)
  reversal_to BatchA q f = map_to t (return_of day n) (debit_entries_by day n (is_booked J n)) (λ e i. let c = chosen day n (is_booked J n) e i in debtor_apart e q (all_in (entry_fits BatchA day n) (entries day n) e f c.0) c.1)
  reversal_to _ q f = refl

  expire_to : IsLegal day J → may_expire day J n ≡ true → NoneTo t (reversal (sort_of day n) day J n)
  expire_to legal h =
      let o : is_overdue (phase day J n) ≡ true = (and_parts (may_lapse (sort_of day n)) (is_overdue (phase day J n)) (and_parts _ _ h).0).1 in
      reversal_to (sort_of day n) refl (accepted_fits day J n legal (going_accepted day J n (overdue_going (phase day J n) o)))

  refuse_to : (code : Code) → IsLegal day J → refusal day J n ≡ Some code → NoneTo t (reversal (sort_of day n) day J n)
  refuse_to code legal h = reversal_to (sort_of day n) refl (accepted_fits day J n legal (going_accepted day J n (refusal_going (is_a_or_b (sort_of day n)) (phase day J n) _ (fund_suffices day J n) _ _ _ _ code h)))

  sweep_to : (a : ℕ) → SubsHaveDca day → may_sweep day J a ≡ true → NoneTo t (sweep_move day J a ∷ [])
  sweep_to a subs h = one_to t (sweep_move day J a) [] (other _ 0 (first_dca_is day (owner day a) (subs a (and_parts (is_sub_account day a) _ (and_parts _ _ h).0).0)) refl) refl

  -- ---- every line

  pub none_credited : (kind : Kind) (k : ℕ) (code : Code) (moves : List Move) → SubsHaveDca day → IsLegal day J → (is_a (sort_of day n) && nat_eq (technical_account day n) t) ≡ false → Made kind day J n k code moves → NoneTo t moves
  none_credited kinds.In k code moves subs legal o m = subst (NoneTo t) (sym m.2) (intake_to (intake_code day J n) (passed_intake day J n))
  none_credited kinds.Book k code moves subs legal o m = subst (NoneTo t) (sym m.2) (book_to k legal o m.0)
  none_credited kinds.All k code moves subs legal o m = subst (NoneTo t) (sym m.2) (all_to legal m.0)
  none_credited kinds.Expire k code moves subs legal o m = subst (NoneTo t) (sym m.2) (expire_to legal m.0)
  none_credited kinds.Refuse k code moves subs legal o m = subst (NoneTo t) (sym m.2) (refuse_to code legal m.0)
  none_credited kinds.Cover k code moves subs legal o m = subst (NoneTo t) (sym m.2) (covers_to legal o m.0)
  none_credited kinds.Sweep k code moves subs legal o m = subst (NoneTo t) (sym m.2) (sweep_to k subs m.0)
  none_credited kinds.Ask k code moves subs legal o m = subst (NoneTo t) (sym m.2) refl
  none_credited kinds.Time k code moves subs legal o m = subst (NoneTo t) (sym m.2) refl
  none_credited kinds.End k code moves subs legal o m = subst (NoneTo t) (sym m.2) refl
