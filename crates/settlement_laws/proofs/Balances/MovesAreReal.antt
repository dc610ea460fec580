-- Each move of a line takes at least one cent from one account to another, and but for the whole settlement of a B batch none of them
-- touches a technical account of B.
use Rattle.std.proofs.Common.{◌≡◌, ℕ, zero, suc, ◌≤◌, Bool, true, false, not, ◌&&◌, ◌||◌, List, [], ◌∷◌, ◌++◌, Option, Some, None, refl, sym, ◌∙◌, ap, subst, arith, inl, inr}
use Rattle.std.specs.Prelude.{is_some, is_none, unwrap_or, nat_eq, nat_lt, if◌then◌else◌, map, filter}
use Rattle.std.specs.List.{list_all}
use Rattle.std.specs.Option.{option_map_or}
use Rattle.std.proofs.lemmas.Bool.{eq-eqb, ne_eqb, ltb-true, not-true, lt-ltb, and_from, or_cases, not-false, and_parts}
use Rattle.batch_records.specs.DayRecord.{Day}
use Rattle.batch_records.specs.declared.day.Message.{Message}
use Rattle.batch_records.specs.declared.day.Entry.{Entry}
use Rattle.batch_records.specs.declared.day.Body.{Body}
use Rattle.batch_records.specs.declared.day.Body.TheVariants as bodies
use Rattle.batch_records.specs.Sound.{is_sound, is_sound_body, is_amount}
use Rattle.commit_journal.specs.declared.line.Move.{Move}
use Rattle.commit_journal.specs.declared.line.Code.{Code}
use Rattle.commit_journal.specs.declared.line.Code.TheVariants as line_codes
use Rattle.commit_journal.specs.declared.line.Kind.{Kind}
use Rattle.commit_journal.specs.declared.line.Kind.TheVariants as kinds
use Rattle.commit_journal.specs.Line.{History}
use Rattle.machine.specs.declared.answers.Phase.{Phase}
use Rattle.machine.specs.Words.{some_passes, same_account}
use Rattle.machine.specs.Records.Setup.{account_named, is_dca_account, is_dca_of, is_sub_of, is_sub_for, is_sub_account, owner}
use Rattle.machine.specs.Records.Messages.{Sort, Pay, BatchA, BatchB, BatchC, BatchD, BatchE, Liquidity, sort_of, sender, message_at, entries, entry_at, part, transfer, transfer_in, move_of, debit_account, credit_account, fund_account, technical_account, pays_technical, is_paid_from_technical, is_debit_entry, is_credit_entry, debit_entries, credit_entries, is_batch, is_b, is_a_or_b}
use Rattle.machine.specs.Telling.History.{is_ok, is_accepted}
use Rattle.machine.specs.Telling.Balances.{balance}
use Rattle.machine.specs.Stages.Intake.{intake_code, intake_moves, moves_as, transfer_moves, afforded_in_order, entry_fits, payment_fits, liquidity_fits, is_technical_d, accounts_are_wrong}
use Rattle.machine.specs.Stages.Phases.{phase, is_open, is_covered, is_overdue, is_answered, is_booked}
use Rattle.machine.specs.Stages.Pending.{is_pending, pending_as, first_unbooked_debit}
use Rattle.machine.specs.Making.Lines.{may_book, may_settle_whole, may_expire, may_lapse, may_cover, may_sweep, moves_of_part, return_of, reversal, debit_entries_by, cover_of, covered_debit, cover_moves, is_short_debtor, sweep_move, refusal, fund_suffices}
use Rattle.machine.specs.Legal.{IsLegal}
use Rattle.machine.specs.Laws.{EachLine}
use Rattle.machine.specs.OtherLaws.{is_real, MovesAreReal}
use Rattle.machine.proofs.Lists.{all_get}
use Rattle.settlement_laws.proofs.Base.Made.{Made, made_facts}
use Rattle.settlement_laws.proofs.Base.IntakeFacts.{IsPassed, passed_intake}
use Rattle.settlement_laws.proofs.Base.PhaseLaws.{going_accepted, overdue_going, answered_going, answered_asked}
use Rattle.settlement_laws.proofs.Base.Lists.{IsIn, never, all_in, all_of, from_map, from_filter}
use Rattle.settlement_laws.proofs.Balances.MovesOfTheDay.{SubsHaveDca, forms, fits_named, pending_going, accepted_fits, accepted_accounts, asked_fund, some_holds, no_entry_zero, refusal_going}
use Rattle.settlement_laws.proofs.Base.Sound.{subs_have_dca}
use Rattle.settlement_laws.proofs.ProcedureA.SettlesInTime.{sound_message, sound_entries}
use Rattle.settlement_laws.proofs.Balances.TouchesItsAccounts.{from_turn, from_both, chosen}
use Rattle.settlement_laws.proofs.ProcedureA.DebitedByOwnBatches.{paid_to}
use Rattle.settlement_laws.proofs.Balances.RolesOfAccounts.{role_at, dca_is, dca_of_is, sub_of_is, sub_for_is, technical_d_is, sub_is, first_dca_is, fund_is, to_technical, from_technical}
use Rattle.settlement_laws.proofs.Base.Counting.{passes_some}

-- of a line that settles a B batch whole the technical account is left out
pub record Fair (day : Day) (whole : Bool) (m : Move) : Type 0 where
  pub apart : nat_eq m.debit m.credit ≡ false
  pub amount : 1 ≤ m.amount
  pub away : whole ≡ false → (nat_eq (role_at day m.debit) 5 ≡ false) × (nat_eq (role_at day m.credit) 5 ≡ false)

abbrev pub AllFair : Day → Bool → List Move → Type 0
AllFair day whole moves = (m : Move) → IsIn m moves → Fair day whole m

apart_by : (day : Day) (a b i j : ℕ) → role_at day a ≡ i → role_at day b ≡ j → nat_eq i j ≡ false → nat_eq a b ≡ false
apart_by day a b i j p q d = ne_eqb a b (λ e. never (nat_eq i j) (eq-eqb i j (sym p ∙ ap (role_at day) e ∙ q)) d)

by_roles : (day : Day) (whole : Bool) (m : Move) (i j : ℕ) → role_at day m.debit ≡ i → role_at day m.credit ≡ j → nat_eq i j ≡ false → (whole ≡ false → (nat_eq i 5 ≡ false) × (nat_eq j 5 ≡ false)) → 1 ≤ m.amount → Fair day whole m
by_roles day whole m i j p q d w a = record {
  apart = apart_by day m.debit m.credit i j p q d;
  amount = a;
  away = λ z. (ap (λ x. nat_eq x 5) p ∙ (w z).0, ap (λ x. nat_eq x 5) q ∙ (w z).1);
}

-- ---- two accounts of one kind, which differ

unlike : (x y : Option ℕ) → is_some x ≡ true → is_some y ≡ true → not (same_account x y) ≡ true → nat_eq (unwrap_or x 0) (unwrap_or y 0) ≡ false
unlike None y h k e = cc
unlike (Some a) None h k e = cc
unlike (Some a) (Some b) h k e = not-true (nat_eq a b) e

two_dcas : (day : Day) (whole : Bool) (e : Entry) → role_at day (debit_account day e) ≡ 0 → role_at day (credit_account day e) ≡ 0 → is_some (account_named day e.debit) ≡ true → is_some (account_named day e.credit) ≡ true → not (same_account (account_named day e.debit) (account_named day e.credit)) ≡ true → 1 ≤ e.amount → Fair day whole (move_of day e)
two_dcas day whole e p q s t u a = record {
  apart = unlike (account_named day e.debit) (account_named day e.credit) s t u;
  amount = a;
  away = λ z. (ap (λ x. nat_eq x 5) p, ap (λ x. nat_eq x 5) q);
}

-- ---- entries and transfers of the right form

entry_fair : (s : Sort) (day : Day) (n : ℕ) (e : Entry) → sort_of day n ≡ s → is_batch s ≡ true → entry_fits s day n e ≡ true → 1 ≤ e.amount → Fair day (is_b s) (move_of day e)
entry_fair BatchA day n e q b h a = elim (forms (is_dca_account day e.debit) (pays_technical day n e) (is_paid_from_technical day n e) (is_dca_account day e.credit) h) [
  | inl l ↦ by_roles day false (move_of day e) 0 4 (dca_is day e.debit l.0) (to_technical day n e BatchA q l.1) refl (λ z. (refl, refl)) a
  | inr r ↦ by_roles day false (move_of day e) 4 0 (from_technical day n e BatchA q r.0) (dca_is day e.credit r.1) refl (λ z. (refl, refl)) a
]
entry_fair BatchB day n e q b h a = elim (forms (is_dca_account day e.debit) (pays_technical day n e) (is_paid_from_technical day n e) (is_dca_account day e.credit) h) [
  | inl l ↦ by_roles day true (move_of day e) 0 5 (dca_is day e.debit l.0) (to_technical day n e BatchB q l.1) refl (λ z. cc) a
  | inr r ↦ by_roles day true (move_of day e) 5 0 (from_technical day n e BatchB q r.0) (dca_is day e.credit r.1) refl (λ z. cc) a
]
entry_fair BatchC day n e q b h a = elim (forms (is_sub_for day (sender day n) e.debit) (pays_technical day n e) (is_paid_from_technical day n e) (is_sub_for day (sender day n) e.credit) h) [
  | inl l ↦ by_roles day false (move_of day e) 1 6 (sub_for_is day (sender day n) e.debit l.0) (to_technical day n e BatchC q l.1) refl (λ z. (refl, refl)) a
  | inr r ↦ by_roles day false (move_of day e) 6 1 (from_technical day n e BatchC q r.0) (sub_for_is day (sender day n) e.credit r.1) refl (λ z. (refl, refl)) a
]
entry_fair BatchD day n e q b h a =
    let f = and_parts (is_paid_from_technical day n e) (is_dca_account day e.credit) h in
    by_roles day false (move_of day e) 7 0 (from_technical day n e BatchD q f.0) (dca_is day e.credit f.1) refl (λ z. (refl, refl)) a
entry_fair BatchE day n e q b h a =
    let f = and_parts (is_dca_account day e.debit && is_dca_account day e.credit) (not (same_account (account_named day e.debit) (account_named day e.credit))) h in
    let d = and_parts (is_dca_account day e.debit) (is_dca_account day e.credit) f.0 in
    let s = fits_named BatchE day n e refl h in
    two_dcas day false e (dca_is day e.debit d.0) (dca_is day e.credit d.1) s.0 s.1 f.1 a
entry_fair _ day n e q b h a = cc

payment_fair : (day : Day) (bank : List ℕ) (e : Entry) → payment_fits day bank e ≡ true → 1 ≤ e.amount → Fair day false (move_of day e)
payment_fair day bank e h a =
    let f = and_parts (is_dca_of day bank e.debit && is_dca_account day e.credit) (not (same_account (account_named day e.debit) (account_named day e.credit))) h in
    let d = and_parts (is_dca_of day bank e.debit) (is_dca_account day e.credit) f.0 in
    two_dcas day false e (dca_of_is day bank e.debit d.0) (dca_is day e.credit d.1) (passes_some _ (account_named day e.debit) d.0) (passes_some _ (account_named day e.credit) d.1) f.1 a

liquidity_fair : (day : Day) (bank : List ℕ) (e : Entry) → liquidity_fits day bank e ≡ true → 1 ≤ e.amount → Fair day false (move_of day e)
liquidity_fair day bank e h a = elim (or_cases (is_dca_of day bank e.debit && is_sub_of day bank e.credit || is_sub_of day bank e.debit && is_dca_of day bank e.credit) (is_dca_of day bank e.debit && is_technical_d day e.credit) h) [
  | inl l ↦ elim (forms (is_dca_of day bank e.debit) (is_sub_of day bank e.credit) (is_sub_of day bank e.debit) (is_dca_of day bank e.credit) l) [
    | inl p ↦ by_roles day false (move_of day e) 0 1 (dca_of_is day bank e.debit p.0) (sub_of_is day bank e.credit p.1) refl (λ z. (refl, refl)) a
    | inr p ↦ by_roles day false (move_of day e) 1 0 (sub_of_is day bank e.debit p.0) (dca_of_is day bank e.credit p.1) refl (λ z. (refl, refl)) a
  ]
  | inr r ↦ let d = and_parts (is_dca_of day bank e.debit) (is_technical_d day e.credit) r in by_roles day false (move_of day e) 0 7 (dca_of_is day bank e.debit d.0) (technical_d_is day e.credit d.1) refl (λ z. (refl, refl)) a
]

-- ---- amounts of a sound day

positive : (x : ℕ) → is_amount x ≡ true → 1 ≤ x
positive x h = let l = ltb-true 0 x (and_parts (nat_lt 0 x) _ h).0 in omega (arith, l)

transfer_amount : (b : Body) (e : Entry) → is_sound_body b ≡ true → transfer_in b ≡ Some e → 1 ≤ e.amount
transfer_amount (bodies.Pay high debit credit amount) e h q = subst (λ (x : Entry). 1 ≤ x.amount) (some_entry _ e q) (positive amount h)
  where
    some_entry : (x y : Entry) → Some x ≡ Some y → x ≡ y
    some_entry x y p = cc
transfer_amount (bodies.Liquidity debit credit amount) e h q = subst (λ (x : Entry). 1 ≤ x.amount) (some_entry _ e q) (positive amount h)
  where
    some_entry : (x y : Entry) → Some x ≡ Some y → x ≡ y
    some_entry x y p = cc
transfer_amount (bodies.Batch p info early till count sum es) e h q = cc
transfer_amount (bodies.Object system batch) e h q = cc
transfer_amount (bodies.Confirm batch answer) e h q = cc
transfer_amount (bodies.Cycle start) e h q = cc

sound_transfer : (day : Day) (n : ℕ) (e : Entry) → is_sound day ≡ true → transfer day n ≡ Some e → 1 ≤ e.amount
sound_transfer day n e sound q = here (message_at day n) (λ m p. sound_message day n m sound p) q
  where
    here : (o : Option Message) → ((m : Message) → o ≡ Some m → is_sound_body m.body ≡ true) → option_map_or (λ (m : Message). transfer_in m.body) o None ≡ Some e → 1 ≤ e.amount
    here None s p = cc
    here (Some m) s p = transfer_amount m.body e (s m refl) p

module _ (day : Day) (n : ℕ) (sound : is_sound day ≡ true) where
  entry_there : (s : Sort) (e : Entry) → sort_of day n ≡ s → is_batch s ≡ true → list_all (entry_fits s day n) (entries day n) ≡ true → IsIn e (entries day n) → Fair day (is_b s) (move_of day e)
  entry_there s e q b f i = entry_fair s day n e q b (all_in (entry_fits s day n) (entries day n) e f i) (positive e.amount (all_in (λ e. is_amount e.amount) (entries day n) e (sound_entries day n sound) i))

  -- ---- In

  transfer_moves_fair : (o : Option Entry) → transfer day n ≡ o → some_passes (liquidity_fits day (sender day n)) o ≡ true → AllFair day false (transfer_moves day o)
  transfer_moves_fair None q h m i = absurd i
  transfer_moves_fair (Some e) q h m (inl p) = subst (Fair day false) p (liquidity_fair day (sender day n) e h (sound_transfer day n e sound q))
  transfer_moves_fair (Some e) q h m (inr i) = absurd i

  taken_fair : (J : History) (s : Sort) → sort_of day n ≡ s → accounts_are_wrong s day n ≡ false → list_all (entry_fits s day n) (entries day n) ≡ true → AllFair day false (moves_as s day J n)
  taken_fair J Liquidity q a f m i = transfer_moves_fair (transfer day n) refl (not-false _ a) m i
  taken_fair J BatchD q a f m i =
      let x = from_map (move_of day) (afforded_in_order (balance day J (technical_account day n)) (entries day n)) m i in
      subst (Fair day false) x.2 (entry_there BatchD x.0 q refl f (from_turn (balance day J (technical_account day n)) (entries day n) x.0 x.1))
  taken_fair J _ q a f m i = absurd i

  intake_fair : (J : History) (code : Code) → (is_ok code ≡ true → IsPassed day J n) → AllFair day false (intake_moves day J n code)
  intake_fair J line_codes.Ok h m i = taken_fair J (sort_of day n) refl (h refl).accounts_right (not-false _ (h refl).entries_right) m i
  intake_fair J _ h m i = absurd i

  -- ---- Book

  numbered_fair : (s : Sort) (k : ℕ) (x : Entry) → sort_of day n ≡ s → is_batch s ≡ true → list_all (entry_fits s day n) (entries day n) ≡ true → entry_at day n (suc k) ≡ Some x → Fair day (is_b s) (move_of day x)
  numbered_fair s k x q b f e = entry_fair s day n x q b (all_get (entry_fits s day n) (entries day n) k x f e) (positive x.amount (all_get (λ e. is_amount e.amount) (entries day n) k x (sound_entries day n sound) e))

  booked_fair : (J : History) (s : Sort) (k : ℕ) (p : Phase) → sort_of day n ≡ s → pending_as s day J n k p ≡ true → not (is_b s) ≡ true → accounts_are_wrong s day n ≡ false → list_all (entry_fits s day n) (entries day n) ≡ true →
      (x : Entry) → part day n k ≡ Some x → Fair day false (move_of day x)
  booked_fair J Pay zero p q h b a f x e = payment_fair day (sender day n) x (some_holds (payment_fits day (sender day n)) (transfer day n) x (not-false _ a) e) (sound_transfer day n x sound e)
  booked_fair J Pay (suc k) p q h b a f x e = cc
  booked_fair J BatchA zero p q h b a f x e = absurd (no_entry_zero (is_open p) (is_covered p) (not (is_booked J n 0)) (is_none (first_unbooked_debit day J n)) h)
  booked_fair J BatchA (suc k) p q h b a f x e = numbered_fair BatchA k x q refl f e
  booked_fair J BatchC zero p q h b a f x e = cc
  booked_fair J BatchC (suc k) p q h b a f x e = numbered_fair BatchC k x q refl f e
  booked_fair J BatchE zero p q h b a f x e = cc
  booked_fair J BatchE (suc k) p q h b a f x e = numbered_fair BatchE k x q refl f e
  booked_fair J _ k p q h b a f x e = cc

  part_fair : (o : Option Entry) → ((x : Entry) → o ≡ Some x → Fair day false (move_of day x)) → AllFair day false (moves_of_part day o)
  part_fair None h m i = absurd i
  part_fair (Some e) h m (inl p) = subst (Fair day false) p (h e refl)
  part_fair (Some e) h m (inr i) = absurd i

  book_fair : (J : History) (k : ℕ) → IsLegal day J → may_book day J n k ≡ true → AllFair day false (moves_of_part day (part day n k))
  unfolding is_pending
  book_fair J k legal h =
      let b = and_parts (pending_as (sort_of day n) day J n k (phase day J n)) (not (is_b (sort_of day n))) (and_parts _ _ h).0 in
      let ok : is_accepted J n ≡ true = going_accepted day J n (pending_going (sort_of day n) day J n k (phase day J n) b.0) in
      part_fair (part day n k) (booked_fair J (sort_of day n) k (phase day J n) refl b.0 b.1 (accepted_accounts day J n legal ok) (accepted_fits day J n legal ok))

  -- ---- All

  filter_fair : (s : Sort) (pick : Entry → Bool) → sort_of day n ≡ s → is_batch s ≡ true → list_all (entry_fits s day n) (entries day n) ≡ true → AllFair day (is_b s) (map (move_of day) (filter pick (entries day n)))
  filter_fair s pick q b f m i =
      let x = from_map (move_of day) (filter pick (entries day n)) m i in
      subst (Fair day (is_b s)) x.2 (entry_there s x.0 q b f (from_filter pick (entries day n) x.0 x.1).0)

  both_fair : (whole : Bool) (xs ys : List Move) → AllFair day whole xs → AllFair day whole ys → AllFair day whole (xs ++ ys)
  both_fair whole xs ys h k m i = elim (from_both xs ys m i) [ inl j ↦ h m j | inr j ↦ k m j ]

  whole_fair : (s : Sort) → sort_of day n ≡ s → is_b s ≡ true → list_all (entry_fits s day n) (entries day n) ≡ true → AllFair day true (map (move_of day) (debit_entries day n) ++ map (move_of day) (credit_entries day n))
  whole_fair BatchB q b f = both_fair true _ _ (filter_fair BatchB (is_debit_entry day n) q refl f) (filter_fair BatchB (is_credit_entry day n) q refl f)
  whole_fair _ q b f = cc

  all_fair : (J : History) → IsLegal day J → may_settle_whole day J n ≡ true → AllFair day true (map (move_of day) (debit_entries day n) ++ map (move_of day) (credit_entries day n))
  unfolding is_pending
  all_fair J legal h =
      let b = and_parts (is_b (sort_of day n)) (pending_as (sort_of day n) day J n 0 (phase day J n)) (and_parts _ _ (and_parts _ _ h).0).0 in
      let ok : is_accepted J n ≡ true = going_accepted day J n (pending_going (sort_of day n) day J n 0 (phase day J n) b.1) in
      whole_fair (sort_of day n) refl b.0 (accepted_fits day J n legal ok)

  -- ---- Expire, Refuse, Cover

  -- of an A batch a debit entry is paid by a DCA to the technical account
  debit_roles : (e : Entry) → sort_of day n ≡ BatchA → entry_fits BatchA day n e ≡ true → is_debit_entry day n e ≡ true → (role_at day (debit_account day e) ≡ 0) × (role_at day (technical_account day n) ≡ 4)
  debit_roles e q h p =
      let t : role_at day (credit_account day e) ≡ 4 = to_technical day n e BatchA q p in
      elim (forms (is_dca_account day e.debit) (pays_technical day n e) (is_paid_from_technical day n e) (is_dca_account day e.credit) h) [
        | inl l ↦ (dca_is day e.debit l.0, sym (ap (role_at day) (paid_to day n e p)) ∙ t)
        | inr r ↦ never (nat_eq (role_at day (credit_account day e)) 4) (eq-eqb (role_at day (credit_account day e)) 4 t) (ap (λ x. nat_eq x 4) (dca_is day e.credit r.1))
      ]

  entry_amount : (e : Entry) → IsIn e (entries day n) → 1 ≤ e.amount
  entry_amount e i = positive e.amount (all_in (λ e. is_amount e.amount) (entries day n) e (sound_entries day n sound) i)

  reversal_fair : (J : History) (s : Sort) → sort_of day n ≡ s → list_all (entry_fits s day n) (entries day n) ≡ true → AllFair day false (reversal s day J n)
  reversal_fair J BatchA q f m i =
      let x = from_map (return_of day n) (debit_entries_by day n (is_booked J n)) m i in
      let c = chosen day n (is_booked J n) x.0 x.1 in
      let r = debit_roles x.0 q (all_in (entry_fits BatchA day n) (entries day n) x.0 f c.0) c.1 in
      subst (Fair day false) x.2 (by_roles day false (return_of day n x.0) 4 0 r.1 r.0 refl (λ z. (refl, refl)) (entry_amount x.0 c.0))
  reversal_fair J _ q f m i = absurd i

  -- with the fund in place of the debit account
  paid_fair : (J : History) (e : Entry) → sort_of day n ≡ BatchB → role_at day (fund_account day n) ≡ 2 → list_all (entry_fits BatchB day n) (entries day n) ≡ true → IsIn e (entries day n) → is_debit_entry day n e ≡ true → Fair day true (covered_debit day J n e)
  paid_fair J e q fund f i p = here (is_short_debtor day J n (debit_account day e))
    where
      t : role_at day (technical_account day n) ≡ 5
      t = sym (ap (role_at day) (paid_to day n e p)) ∙ to_technical day n e BatchB q p

      here : (b : Bool) → Fair day true (if b then cover_of day n e else move_of day e)
      here true = by_roles day true (cover_of day n e) 2 5 fund t refl (λ z. cc) (entry_amount e i)
      here false = entry_there BatchB e q refl f i

  cover_fair : (J : History) (s : Sort) → sort_of day n ≡ s → role_at day (fund_account day n) ≡ 2 → list_all (entry_fits s day n) (entries day n) ≡ true → AllFair day (is_b s) (cover_moves s day J n)
  cover_fair J BatchA q fund f m i =
      let x = from_map (cover_of day n) (debit_entries_by day n (λ k. not (is_booked J n k))) m i in
      let c = chosen day n (λ k. not (is_booked J n k)) x.0 x.1 in
      let r = debit_roles x.0 q (all_in (entry_fits BatchA day n) (entries day n) x.0 f c.0) c.1 in
      subst (Fair day false) x.2 (by_roles day false (cover_of day n x.0) 2 4 fund r.1 refl (λ z. (refl, refl)) (entry_amount x.0 c.0))
  cover_fair J BatchB q fund f m i = both_fair true _ _ debits (filter_fair BatchB (is_credit_entry day n) q refl f) m i
    where
      debits : AllFair day true (map (covered_debit day J n) (debit_entries day n))
      debits m i =
          let x = from_map (covered_debit day J n) (debit_entries day n) m i in
          let c = from_filter (is_debit_entry day n) (entries day n) x.0 x.1 in
          subst (Fair day true) x.2 (paid_fair J x.0 q fund f c.0 c.1)
  cover_fair J _ q fund f m i = absurd i

  covers_fair : (J : History) → IsLegal day J → may_cover day J n ≡ true → AllFair day (is_b (sort_of day n)) (cover_moves (sort_of day n) day J n)
  covers_fair J legal h =
      let o : is_answered (phase day J n) ≡ true = (and_parts (is_a_or_b (sort_of day n)) (is_answered (phase day J n)) (and_parts _ _ (and_parts _ _ h).0).0).1 in
      cover_fair J (sort_of day n) refl (fund_is day n (asked_fund day J n legal (answered_asked day J n o))) (accepted_fits day J n legal (going_accepted day J n (answered_going (phase day J n) o)))

  expire_fair : (J : History) → IsLegal day J → may_expire day J n ≡ true → AllFair day false (reversal (sort_of day n) day J n)
  expire_fair J legal h =
      let o : is_overdue (phase day J n) ≡ true = (and_parts (may_lapse (sort_of day n)) (is_overdue (phase day J n)) (and_parts _ _ h).0).1 in
      reversal_fair J (sort_of day n) refl (accepted_fits day J n legal (going_accepted day J n (overdue_going (phase day J n) o)))

  refuse_fair : (J : History) (code : Code) → IsLegal day J → refusal day J n ≡ Some code → AllFair day false (reversal (sort_of day n) day J n)
  refuse_fair J code legal h = reversal_fair J (sort_of day n) refl (accepted_fits day J n legal (going_accepted day J n (refusal_going (is_a_or_b (sort_of day n)) (phase day J n) _ (fund_suffices day J n) _ _ _ _ code h)))

-- ---- Sweep

sweep_fair : (day : Day) (J : History) (a : ℕ) → SubsHaveDca day → may_sweep day J a ≡ true → AllFair day false (sweep_move day J a ∷ [])
sweep_fair day J a subs h m (inr i) = absurd i
sweep_fair day J a subs h m (inl p) =
    let b = and_parts _ (nat_lt 0 (balance day J a)) h in
    let s : is_sub_account day a ≡ true = (and_parts (is_sub_account day a) _ b.0).0 in
    let some = ltb-true 0 (balance day J a) b.1 in
    subst (Fair day false) p (by_roles day false (sweep_move day J a) 1 0 (sub_is day a s) (first_dca_is day (owner day a) (subs a s)) refl (λ z. (refl, refl)) (omega (arith, some)))

-- ---- every line

-- the line settles a B batch whole
abbrev pub is_whole : Kind → Sort → Bool
is_whole kinds.All s = true
is_whole kinds.Cover s = is_b s
is_whole _ s = false

nothing_fair : (day : Day) (whole : Bool) → AllFair day whole []
nothing_fair day whole m i = absurd i

pub line_fair : (kind : Kind) (day : Day) (J : History) (n k : ℕ) (code : Code) (moves : List Move) → is_sound day ≡ true → IsLegal day J → Made kind day J n k code moves → AllFair day (is_whole kind (sort_of day n)) moves
line_fair kinds.In day J n k code moves sound legal m = subst (AllFair day false) (sym m.2) (intake_fair day n sound J (intake_code day J n) (passed_intake day J n))
line_fair kinds.Book day J n k code moves sound legal m = subst (AllFair day false) (sym m.2) (book_fair day n sound J k legal m.0)
line_fair kinds.All day J n k code moves sound legal m = subst (AllFair day true) (sym m.2) (all_fair day n sound J legal m.0)
line_fair kinds.Expire day J n k code moves sound legal m = subst (AllFair day false) (sym m.2) (expire_fair day n sound J legal m.0)
line_fair kinds.Refuse day J n k code moves sound legal m = subst (AllFair day false) (sym m.2) (refuse_fair day n sound J code legal m.0)
line_fair kinds.Cover day J n k code moves sound legal m = subst (AllFair day (is_b (sort_of day n))) (sym m.2) (covers_fair day n sound J legal m.0)
line_fair kinds.Sweep day J n k code moves sound legal m = subst (AllFair day false) (sym m.2) (sweep_fair day J k (subs_have_dca day sound) m.0)
line_fair kinds.Ask day J n k code moves sound legal m = subst (AllFair day false) (sym m.2) (nothing_fair day false)
line_fair kinds.Time day J n k code moves sound legal m = subst (AllFair day false) (sym m.2) (nothing_fair day false)
line_fair kinds.End day J n k code moves sound legal m = subst (AllFair day false) (sym m.2) (nothing_fair day false)

real : (day : Day) (whole : Bool) (m : Move) → Fair day whole m → is_real m ≡ true
real day whole m f = let p = f.amount in and_from (not (nat_eq m.debit m.credit)) (nat_lt 0 m.amount) (ap not f.apart) (lt-ltb 0 m.amount (omega (arith, p)))

pub moves_are_real : (day : Day) (J : History) → is_sound day ≡ true → IsLegal day J → EachLine MovesAreReal J
moves_are_real day [] sound legal = tt
moves_are_real day (l ∷ J) sound legal = (
  moves_are_real day J sound legal.0,
  all_of is_real l.moves (λ m i. real day _ m (line_fair l.head.kind day J l.head.msg l.head.entry l.head.code l.moves sound legal.0 (made_facts day J l legal.1).1 m i)),
)
