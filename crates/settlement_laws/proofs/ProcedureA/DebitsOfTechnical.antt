-- A line of another sort, or of an A batch of another technical account, debits no technical account of A.
use Rattle.std.proofs.Common.{◌≡◌, ℕ, zero, suc, Bool, true, false, not, ◌&&◌, List, [], ◌∷◌, ◌++◌, arith, Option, Some, None, refl, sym, ◌∙◌, ap, subst, inl, inr}
use Rattle.std.specs.Prelude.{is_none, nat_eq, if◌then◌else◌, map, filter}
use Rattle.std.specs.List.{list_all}
use Rattle.std.proofs.lemmas.Bool.{not-false, and_parts}
use Rattle.batch_records.specs.DayRecord.{Day}
use Rattle.batch_records.specs.declared.day.Entry.{Entry}
use Rattle.commit_journal.specs.declared.line.Move.{Move}
use Rattle.commit_journal.specs.declared.line.Code.{Code}
use Rattle.commit_journal.specs.declared.line.Code.TheVariants as line_codes
use Rattle.commit_journal.specs.declared.line.Kind.{Kind}
use Rattle.commit_journal.specs.declared.line.Kind.TheVariants as kinds
use Rattle.commit_journal.specs.Line.{History}
use Rattle.machine.specs.declared.answers.Phase.{Phase}
use Rattle.machine.specs.Words.{some_passes}
use Rattle.machine.specs.Records.Setup.{is_dca_account, is_sub_account}
use Rattle.machine.specs.Records.Messages.{Sort, Pay, BatchA, BatchB, BatchC, BatchD, BatchE, Liquidity, sort_of, sender, entries, entry_at, part, transfer, move_of, debit_account, technical_account, fund_account, pays_technical, is_paid_from_technical, is_debit_entry, is_credit_entry, debit_entries, credit_entries, is_batch, is_a, is_b, is_a_or_b}
use Rattle.machine.specs.Telling.History.{is_ok, is_accepted}
use Rattle.machine.specs.Stages.Intake.{intake_code, intake_moves, moves_as, transfer_moves, entry_fits, payment_fits, liquidity_fits, accounts_are_wrong}
use Rattle.machine.specs.Stages.Phases.{phase, is_open, is_covered, is_booked, is_answered}
use Rattle.machine.specs.Stages.Pending.{is_pending, pending_as, first_unbooked_debit}
use Rattle.machine.specs.Making.Lines.{may_book, may_settle_whole, may_cover, may_sweep, moves_of_part, return_of, reversal, cover_of, covered_debit, cover_moves, is_short_debtor, sweep_move}
use Rattle.machine.specs.Legal.{IsLegal}
use Rattle.machine.proofs.Lists.{all_get}
use Rattle.settlement_laws.proofs.Base.Made.{Made}
use Rattle.settlement_laws.proofs.Base.IntakeFacts.{IsPassed, passed_intake}
use Rattle.settlement_laws.proofs.Base.PhaseLaws.{going_accepted, answered_going}
use Rattle.settlement_laws.proofs.Balances.MovesOfTheDay.{forms, pending_going, accepted_fits, accepted_accounts, some_holds, no_entry_zero}
use Rattle.settlement_laws.proofs.ProcedureB.WholeIsCovered.{debits-append}
use Rattle.settlement_laws.proofs.ProcedureA.DebitedByOwnBatches.{is_a_account, entry_apart, payment_apart, liquidity_apart, dca_apart, sub_apart, fund_apart, paid_from}
use Rattle.settlement_laws.proofs.ProcedureA.NoneFromTechnical.{NoneFrom, differ, one_none, map_none, all_filtered, all_turned, always_none}

append_none : (t : ℕ) (xs ys : List Move) → NoneFrom t xs → NoneFrom t ys → NoneFrom t (xs ++ ys)
append_none t xs ys h k = let a = debits-append t xs ys in omega arith

module _ (day : Day) (J : History) (n t : ℕ) (is_technical : is_a_account day t ≡ true) where
  -- ---- In

  transfer_none : (e : Option Entry) (test : Entry → Bool) → ((e : Entry) → test e ≡ true → is_a_account day (debit_account day e) ≡ false) → some_passes test e ≡ true → NoneFrom t (transfer_moves day e)
  transfer_none None test h k = refl
  transfer_none (Some e) test h k = one_none t (move_of day e) [] (differ day t (debit_account day e) is_technical (h e k)) refl

  taken_none : (s : Sort) → sort_of day n ≡ s → accounts_are_wrong s day n ≡ false → list_all (entry_fits s day n) (entries day n) ≡ true → NoneFrom t (moves_as s day J n)
  taken_none Liquidity q a f = transfer_none (transfer day n) (liquidity_fits day (sender day n)) (liquidity_apart day (sender day n)) (not-false _ a)
  taken_none BatchD q a f = map_none t (move_of day) (entry_fits BatchD day n) (λ e h. differ day t (debit_account day e) is_technical (entry_apart BatchD day n e q refl refl h)) _ (all_turned (entry_fits BatchD day n) _ (entries day n) f)
  taken_none _ q a f = refl

  intake_none : (code : Code) → (is_ok code ≡ true → IsPassed day J n) → NoneFrom t (intake_moves day J n code)
  intake_none line_codes.Ok h = taken_none (sort_of day n) refl (h refl).accounts_right (not-false _ (h refl).entries_right)
  intake_none _ h = refl

  -- ---- Book

  a_entry_none : (e : Entry) → nat_eq (technical_account day n) t ≡ false → entry_fits BatchA day n e ≡ true → nat_eq (debit_account day e) t ≡ false
  a_entry_none e o h = elim (forms (is_dca_account day e.debit) (pays_technical day n e) (is_paid_from_technical day n e) (is_dca_account day e.credit) h) [
    | inl l ↦ differ day t (debit_account day e) is_technical (dca_apart day e.debit l.0)
    | inr r ↦ ap (λ a. nat_eq a t) (paid_from day n e r.0) ∙ o
  ]

  other_entry : (s : Sort) (k : ℕ) (x : Entry) → sort_of day n ≡ s → is_batch s ≡ true → is_a s ≡ false → list_all (entry_fits s day n) (entries day n) ≡ true → entry_at day n (suc k) ≡ Some x → nat_eq (debit_account day x) t ≡ false
  other_entry s k x q b a f e = differ day t (debit_account day x) is_technical (entry_apart s day n x q b a (all_get (entry_fits s day n) (entries day n) k x f e))

  pub booked_none : (s : Sort) (k : ℕ) (p : Phase) → sort_of day n ≡ s → (is_a s && nat_eq (technical_account day n) t) ≡ false → pending_as s day J n k p ≡ true → not (is_b s) ≡ true → accounts_are_wrong s day n ≡ false → list_all (entry_fits s day n) (entries day n) ≡ true →
      (x : Entry) → part day n k ≡ Some x → nat_eq (debit_account day x) t ≡ false
  booked_none Pay zero p q o h b a f x e = differ day t (debit_account day x) is_technical (payment_apart day (sender day n) x (some_holds (payment_fits day (sender day n)) (transfer day n) x (not-false _ a) e))
  booked_none Pay (suc k) p q o h b a f x e = cc
  booked_none BatchA zero p q o h b a f x e = absurd (no_entry_zero (is_open p) (is_covered p) (not (is_booked J n 0)) (is_none (first_unbooked_debit day J n)) h)
  booked_none BatchA (suc k) p q o h b a f x e = a_entry_none x o (all_get (entry_fits BatchA day n) (entries day n) k x f e)
  booked_none BatchC zero p q o h b a f x e = cc
  booked_none BatchC (suc k) p q o h b a f x e = other_entry BatchC k x q refl refl f e
  booked_none BatchE zero p q o h b a f x e = cc
  booked_none BatchE (suc k) p q o h b a f x e = other_entry BatchE k x q refl refl f e
  booked_none _ k p q o h b a f x e = cc

  part_none : (e : Option Entry) → ((x : Entry) → e ≡ Some x → nat_eq (debit_account day x) t ≡ false) → NoneFrom t (moves_of_part day e)
  part_none None h = refl
  part_none (Some e) h = one_none t (move_of day e) [] (h e refl) refl

  book_none : (k : ℕ) → IsLegal day J → (is_a (sort_of day n) && nat_eq (technical_account day n) t) ≡ false → may_book day J n k ≡ true → NoneFrom t (moves_of_part day (part day n k))
  unfolding is_pending
  book_none k legal o h =
      let b = and_parts (pending_as (sort_of day n) day J n k (phase day J n)) (not (is_b (sort_of day n))) (and_parts _ _ h).0 in
      let ok : is_accepted J n ≡ true = going_accepted day J n (pending_going (sort_of day n) day J n k (phase day J n) b.0) in
      part_none (part day n k) (booked_none (sort_of day n) k (phase day J n) refl o b.0 b.1 (accepted_accounts day J n legal ok) (accepted_fits day J n legal ok))

  -- ---- All, Cover

  b_entries : (s : Sort) (f : Entry → Move) (pick : Entry → Bool) → sort_of day n ≡ s → is_b s ≡ true → ((e : Entry) → is_a_account day (debit_account day e) ≡ false → nat_eq (f e).debit t ≡ false) → list_all (entry_fits s day n) (entries day n) ≡ true → NoneFrom t (map f (filter pick (entries day n)))
  b_entries BatchB f pick q b h k = map_none t f (entry_fits BatchB day n) (λ e g. h e (entry_apart BatchB day n e q refl refl g)) _ (all_filtered (entry_fits BatchB day n) pick (entries day n) k)
  b_entries _ f pick q b h k = cc

  all_none : IsLegal day J → may_settle_whole day J n ≡ true → NoneFrom t (map (move_of day) (debit_entries day n) ++ map (move_of day) (credit_entries day n))
  unfolding is_pending
  all_none legal h =
      let b = and_parts (is_b (sort_of day n)) (pending_as (sort_of day n) day J n 0 (phase day J n)) (and_parts _ _ (and_parts _ _ h).0).0 in
      let ok : is_accepted J n ≡ true = going_accepted day J n (pending_going (sort_of day n) day J n 0 (phase day J n) b.1) in
      let f : list_all (entry_fits (sort_of day n) day n) (entries day n) ≡ true = accepted_fits day J n legal ok in
      append_none t _ _ (b_entries (sort_of day n) (move_of day) (is_debit_entry day n) refl b.0 (λ e g. differ day t (debit_account day e) is_technical g) f)
      (b_entries (sort_of day n) (move_of day) (is_credit_entry day n) refl b.0 (λ e g. differ day t (debit_account day e) is_technical g) f)

  no_fund : nat_eq (fund_account day n) t ≡ false
  no_fund = differ day t (fund_account day n) is_technical (fund_apart day n)

  covered_none : (e : Entry) → is_a_account day (debit_account day e) ≡ false → nat_eq (covered_debit day J n e).debit t ≡ false
  covered_none e h = here (is_short_debtor day J n (debit_account day e))
    where
      here : (b : Bool) → nat_eq (if b then cover_of day n e else move_of day e).debit t ≡ false
      here true = no_fund
      here false = differ day t (debit_account day e) is_technical h

  cover_none : (s : Sort) → sort_of day n ≡ s → list_all (entry_fits s day n) (entries day n) ≡ true → NoneFrom t (cover_moves s day J n)
  cover_none BatchA q f = always_none t (cover_of day n) (λ e. no_fund) _
  cover_none BatchB q f = append_none t _ _ (b_entries BatchB (covered_debit day J n) (is_debit_entry day n) q refl covered_none f) (b_entries BatchB (move_of day) (is_credit_entry day n) q refl (λ e g. differ day t (debit_account day e) is_technical g) f)
  cover_none _ q f = refl

  covers_none : IsLegal day J → may_cover day J n ≡ true → NoneFrom t (cover_moves (sort_of day n) day J n)
  covers_none legal h =
      let o : is_answered (phase day J n) ≡ true = (and_parts (is_a_or_b (sort_of day n)) (is_answered (phase day J n)) (and_parts _ _ (and_parts _ _ h).0).0).1 in
      cover_none (sort_of day n) refl (accepted_fits day J n legal (going_accepted day J n (answered_going (phase day J n) o)))

  -- ---- Expire, Refuse, Sweep

  reversal_none : (s : Sort) → (is_a s && nat_eq (technical_account day n) t) ≡ false → NoneFrom t (reversal s day J n)
  reversal_none BatchA o = always_none t (return_of day n) (λ e. o) _
  reversal_none _ o = refl

  sweep_none : (a : ℕ) → may_sweep day J a ≡ true → NoneFrom t (sweep_move day J a ∷ [])
  sweep_none a h = one_none t (sweep_move day J a) [] (differ day t a is_technical (sub_apart day a (and_parts (is_sub_account day a) _ (and_parts _ _ h).0).0)) refl

  -- ---- every line

  pub none_debited : (kind : Kind) (k : ℕ) (code : Code) (moves : List Move) → IsLegal day J → (is_a (sort_of day n) && nat_eq (technical_account day n) t) ≡ false → Made kind day J n k code moves → NoneFrom t moves
  none_debited kinds.In k code moves legal o m = subst (NoneFrom t) (sym m.2) (intake_none (intake_code day J n) (passed_intake day J n))
  none_debited kinds.Book k code moves legal o m = subst (NoneFrom t) (sym m.2) (book_none k legal o m.0)
  none_debited kinds.All k code moves legal o m = subst (NoneFrom t) (sym m.2) (all_none legal m.0)
  none_debited kinds.Expire k code moves legal o m = subst (NoneFrom t) (sym m.2) (reversal_none (sort_of day n) o)
  none_debited kinds.Refuse k code moves legal o m = subst (NoneFrom t) (sym m.2) (reversal_none (sort_of day n) o)
  none_debited kinds.Cover k code moves legal o m = subst (NoneFrom t) (sym m.2) (covers_none legal m.0)
  none_debited kinds.Sweep k code moves legal o m = subst (NoneFrom t) (sym m.2) (sweep_none k m.0)
  none_debited kinds.Ask k code moves legal o m = subst (NoneFrom t) (sym m.2) refl
  none_debited kinds.Time k code moves legal o m = subst (NoneFrom t) (sym m.2) refl
  none_debited kinds.End k code moves legal o m = subst (NoneFrom t) (sym m.2) refl
