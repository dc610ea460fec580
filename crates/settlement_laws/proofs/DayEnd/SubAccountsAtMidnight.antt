-- At midnight no line brings anything to a sub-account.
use Rattle.std.proofs.Common.{◌≡◌, ℕ, zero, suc, ◌+◌, ◌≤◌, List, [], ◌∷◌, ◌++◌, Bool, true, false, ◌&&◌, not, Option, Some, None, is_some, is_none, refl, sym, ap, ◌∙◌, subst, arith, cond, inl, inr}
use Rattle.std.specs.Prelude.{if◌then◌else◌, nat_lt, nat_eq, map, filter, slice_get, unwrap_or}
use Rattle.std.specs.Option.{option_map_or}
use Rattle.std.specs.List.{list_all, enumerate_from}
use Rattle.std.proofs.lemmas.Bool.{false≢true, and_parts, leb-true, ltb-true, eqb-true, or_cases, not-true}
use Rattle.batch_records.specs.DayRecord.{Day}
use Rattle.batch_records.specs.declared.day.Message.{Message}
use Rattle.batch_records.specs.declared.day.Entry.{Entry}
use Rattle.batch_records.specs.declared.day.Body.{Body}
use Rattle.batch_records.specs.declared.day.Body.TheVariants as bodies
use Rattle.batch_records.specs.Sound.{is_sound, is_sound_body, is_time_or_none}
use Rattle.cash_amounts.specs.declared.records.AccountKind.{AccountKind}
use Rattle.cash_amounts.specs.declared.records.AccountKind.TheVariants as account_kinds
use Rattle.commit_journal.specs.declared.line.Move.{Move}
use Rattle.commit_journal.specs.declared.line.Code.{Code}
use Rattle.commit_journal.specs.declared.line.Want.{Want}
use Rattle.commit_journal.specs.declared.line.Want.TheVariants as wants
use Rattle.commit_journal.specs.Line.{History}
use Rattle.machine.specs.declared.answers.Phase.{Phase}
use Rattle.machine.specs.Words.{some_passes, same_name, is_dca, is_sub, is_technical}
use Rattle.machine.specs.Records.Setup.{account_at, account_named, is_sub_account, first_dca, owner, is_dca_account}
use Rattle.machine.specs.Records.Messages.{Sort, Pay, BatchA, BatchB, BatchC, BatchE, sort_of, is_message, is_b, is_a_or_b, entries, entry_at, part, is_debit_entry, is_credit_entry, is_credit, debit_account, credit_account, technical_of, technical_account, pays_technical, is_paid_from_technical, move_of, settlement_end, till_in}
use Rattle.machine.specs.Telling.History.{clock, is_accepted, taken}
use Rattle.machine.specs.Telling.Balances.{credits}
use Rattle.machine.specs.Stages.Phases.{phase, is_open, is_covered, is_overdue, is_answered, is_booked, open_as}
use Rattle.machine.specs.Telling.Facts.{is_reached, untaken_earlier}
use Rattle.machine.specs.Stages.Intake.{entry_fits}
use Rattle.machine.specs.Stages.Pending.{is_pending, pending_as}
use Rattle.machine.specs.Making.Lines.{may, made, may_lapse, refusal, reversal, cover_moves, return_of, cover_of, covered_debit, is_short_debtor, moves_of_part, fund_suffices}
use Rattle.machine.specs.Legal.{IsLegal}
use Rattle.machine.proofs.Lists.{all_get}
use Rattle.settlement_laws.proofs.Base.PhaseLaws.{going_accepted, overdue_going, answered_going}
use Rattle.settlement_laws.proofs.Base.PhaseFacts.{open_now}
use Rattle.settlement_laws.proofs.Balances.MovesOfTheDay.{forms, accepted_fits, pending_going, refusal_going, same_value}
use Rattle.settlement_laws.proofs.ProcedureB.SettledWhole.{HasKind, dca_kind, technical_is, sides}
use Rattle.settlement_laws.proofs.Base.Numbers.{FoundAt, position_found}
use Rattle.settlement_laws.proofs.Base.SoundParts.{sound_parts}
use Rattle.settlement_laws.proofs.DayEnd.Stops.{all_in}

-- ---- moves that bring nothing to a sub-account

abbrev pub NotToSubs : Day → List Move → Type 0
NotToSubs day [] = Unit {0}
NotToSubs day (m ∷ moves) = (is_sub_account day m.credit ≡ false) × NotToSubs day moves

pub no_credit : (day : Day) (moves : List Move) (a : ℕ) → NotToSubs day moves → is_sub_account day a ≡ true → credits a moves ≡ 0
no_credit day [] a h s = refl
no_credit day (m ∷ moves) a h s = go (nat_eq m.credit a) refl (no_credit day moves a h.1 s)
  where
    go : (b : Bool) → nat_eq m.credit a ≡ b → credits a moves ≡ 0 → (if b then m.amount else 0) + credits a moves ≡ 0
    go true e rest = absurd (false≢true (sym h.0 ∙ ap (is_sub_account day) (eqb-true m.credit a e) ∙ s))
    go false e rest = omega (arith, rest)

append_not : (day : Day) (xs ys : List Move) → NotToSubs day xs → NotToSubs day ys → NotToSubs day (xs ++ ys)
append_not day [] ys h k = k
append_not day (x ∷ xs) ys h k = (h.0, append_not day xs ys h.1 k)

filter_not : (day : Day) (f : Entry → Move) (test pick : Entry → Bool) → ((e : Entry) → test e ≡ true → pick e ≡ true → is_sub_account day (f e).credit ≡ false) → (es : List Entry) → list_all test es ≡ true → NotToSubs day (map f (filter pick es))
filter_not day f test pick h [] k = tt
filter_not day f test pick h (e ∷ es) k = let b = and_parts (test e) (list_all test es) k in here (pick e) refl b.0 (filter_not day f test pick h es b.1)
  where
    here : (p : Bool) → pick e ≡ p → test e ≡ true → NotToSubs day (map f (filter pick es)) → NotToSubs day (map f (cond p (e ∷ filter pick es) (filter pick es)))
    here true q t rest = (h e t q, rest)
    here false q t rest = rest

counted_not : (day : Day) (f : Entry → Move) (test pick : Entry → Bool) (more : ℕ → Bool) → ((e : Entry) → test e ≡ true → pick e ≡ true → is_sub_account day (f e).credit ≡ false) → (s : ℕ) (es : List Entry) → list_all test es ≡ true →
    NotToSubs day (map f (map (λ (x : ℕ × Entry). x.1) (filter (λ (x : ℕ × Entry). pick x.1 && more x.0) (enumerate_from s es))))
counted_not day f test pick more h s [] k = tt
counted_not day f test pick more h s (e ∷ es) k = let b = and_parts (test e) (list_all test es) k in here (pick e) (more s) refl b.0 (counted_not day f test pick more h (s + 1) es b.1)
  where
    rest : List (ℕ × Entry)
    rest = filter (λ (x : ℕ × Entry). pick x.1 && more x.0) (enumerate_from (s + 1) es)

    here : (p q : Bool) → pick e ≡ p → test e ≡ true → NotToSubs day (map f (map (λ (x : ℕ × Entry). x.1) rest)) →
        NotToSubs day (map f (map (λ (x : ℕ × Entry). x.1) (cond (p && q) ((s, e) ∷ rest) rest)))
    here true true e t r = (h _ t e, r)
    here true false e t r = r
    here false q e t r = r

-- ---- which accounts are no sub-accounts

dca_no_sub : (k : AccountKind) → is_dca k ≡ true → is_sub k ≡ false
dca_no_sub account_kinds.Dca h = refl
dca_no_sub _ h = cc

technical_no_sub : (k : AccountKind) → is_technical k ≡ true → is_sub k ≡ false
technical_no_sub account_kinds.Tech h = refl
technical_no_sub _ h = cc

kind_no_sub : (day : Day) (test : AccountKind → Bool) (a : ℕ) → ((k : AccountKind) → test k ≡ true → is_sub k ≡ false) → HasKind day test a → is_sub_account day a ≡ false
kind_no_sub day test a never h = ap (some_passes (λ r. is_sub r.kind)) h.1 ∙ never h.0.kind h.2

technical_not : (day : Day) (n : ℕ) (e : Entry) → is_debit_entry day n e ≡ true → is_sub_account day (technical_account day n) ≡ false
technical_not day n e h = kind_no_sub day is_technical (technical_account day n) technical_no_sub (technical_is day n (same_value (account_named day e.credit) (technical_of day n) h))

credit_not : (day : Day) (n : ℕ) (e : Entry) → entry_fits BatchA day n e ≡ true → is_credit_entry day n e ≡ true → is_sub_account day (credit_account day e) ≡ false
credit_not day n e h p =
    elim (forms (is_dca_account day e.debit) (pays_technical day n e) (is_paid_from_technical day n e) (is_dca_account day e.credit) h) [
      | inl l ↦ absurd (false≢true (sym (not-true (is_debit_entry day n e) p) ∙ l.1))
      | inr r ↦ kind_no_sub day is_dca (credit_account day e) dca_no_sub (dca_kind day (account_named day e.credit) r.1)
    ]

debtor_not : (day : Day) (n : ℕ) (e : Entry) → entry_fits BatchA day n e ≡ true → is_debit_entry day n e ≡ true → is_sub_account day (debit_account day e) ≡ false
debtor_not day n e h p = kind_no_sub day is_dca (debit_account day e) dca_no_sub ((sides day n e h).debit_side p).3

paid_not : (day : Day) (n : ℕ) (e : Entry) → entry_fits BatchA day n e ≡ true → is_debit_entry day n e ≡ true → is_sub_account day (credit_account day e) ≡ false
paid_not day n e h p = ap (is_sub_account day) ((sides day n e h).debit_side p).0 ∙ technical_not day n e p

pub first_dca_not : (day : Day) (bank : List ℕ) → is_sub_account day (unwrap_or (first_dca day bank) 0) ≡ false
first_dca_not day bank = go (first_dca day bank) refl
  where
    one_more : (i : ℕ) → 1 + i ≡ suc i
    one_more i = omega arith

    go : (o : Option ℕ) → first_dca day bank ≡ o → is_sub_account day (unwrap_or o 0) ≡ false
    go None e = refl
    go (Some a) e =
        let f : FoundAt (λ r. is_dca r.kind && same_name r.owner bank) 1 day.accounts a = position_found _ 1 day.accounts a e in
        kind_no_sub day is_dca a dca_no_sub (f.found, ap (account_at day) (f.number ∙ one_more f.place) ∙ f.is_there, (and_parts _ _ f.passes).0)

-- ---- at midnight nothing is open

time_within : (o : Option ℕ) → is_time_or_none o ≡ true → unwrap_or o 86400 ≤ 86400
time_within None h = omega arith
time_within (Some t) h = leb-true _ _ h

till_within : (b : Body) → is_sound_body b ≡ true → unwrap_or (till_in b) 86400 ≤ 86400
till_within (bodies.Batch p info early till count sum entries) h = time_within till (and_parts (is_time_or_none info && is_time_or_none early) (is_time_or_none till) (and_parts _ _ (and_parts _ _ (and_parts _ _ h).0).0).0).1
till_within _ h = omega arith

pub end_within : (day : Day) (n : ℕ) → is_sound day ≡ true → settlement_end day n ≤ 86400
end_within day zero sound = omega arith
end_within day (suc i) sound = go (slice_get day.messages i) refl
  where
    go : (o : Option Message) → slice_get day.messages i ≡ o → unwrap_or (option_map_or (λ m. till_in m.body) o None) 86400 ≤ 86400
    go None e = omega arith
    go (Some m) e = till_within m.body (all_get (λ (m : Message). is_sound_body m.body) day.messages i m (sound_parts day sound).bodies e)

never_open_as : (s : Sort) (day : Day) (J : History) (n : ℕ) → settlement_end day n ≤ 86400 → 86400 ≤ clock J → open_as s day J n ≡ true → ⊥
never_open_as BatchA day J n w late h = let l = ltb-true (clock J) (settlement_end day n) h in omega (arith, w, late, l)
never_open_as BatchB day J n w late h = let l = ltb-true (clock J) (settlement_end day n) h in omega (arith, w, late, l)
never_open_as BatchE day J n w late h = let l = ltb-true (clock J) (settlement_end day n) h in omega (arith, w, late, l)
never_open_as BatchC day J n w late h = let l = ltb-true (clock J) 86400 (and_parts (nat_lt (clock J) 86400) _ h).0 in omega (arith, late, l)
never_open_as Pay day J n w late h = let l = ltb-true (clock J) 86400 h in omega (arith, late, l)
never_open_as _ day J n w late h = cc

pub never_open : (day : Day) (J : History) (n : ℕ) → is_sound day ≡ true → 86400 ≤ clock J → is_open (phase day J n) ≡ true → ⊥
never_open day J n sound late h = never_open_as (sort_of day n) day J n (end_within day n sound) late (open_now day J n h).1

-- what is pending, and not open, is a credit of A
late_pending : (s : Sort) (day : Day) (J : History) (n k : ℕ) (p : Phase) → (is_open p ≡ true → ⊥) → pending_as s day J n k p ≡ true → (s ≡ BatchA) × (is_credit day n k ≡ true)
late_pending Pay day J n k p never h = absurd (never (and_parts _ _ h).1)
late_pending BatchA day J n k p never h =
    elim (or_cases (is_open p && _) (is_covered p && is_credit day n k && not (is_booked J n k)) h) [
      | inl o ↦ absurd (never (and_parts (is_open p) _ o).0)
      | inr v ↦ (refl, (and_parts (is_covered p) (is_credit day n k) (and_parts _ _ v).0).1)
    ]
late_pending BatchB day J n k p never h = absurd (never (and_parts _ _ h).1)
late_pending BatchC day J n k p never h = absurd (never (and_parts (is_some (entry_at day n k)) _ (and_parts _ _ h).0).1)
late_pending BatchE day J n k p never h = absurd (never (and_parts (is_some (entry_at day n k)) _ (and_parts _ _ (and_parts _ _ h).0).0).1)
late_pending _ day J n k p never h = cc

-- ---- the moves of each want

part_not : (day : Day) (n k : ℕ) → is_credit day n k ≡ true → list_all (entry_fits BatchA day n) (entries day n) ≡ true → NotToSubs day (moves_of_part day (part day n k))
part_not day n zero c f = cc
part_not day n (suc i) c f = go (slice_get (entries day n) i) refl c
  where
    go : (o : Option Entry) → slice_get (entries day n) i ≡ o → some_passes (is_credit_entry day n) o ≡ true → NotToSubs day (moves_of_part day o)
    go None e c = tt
    go (Some x) e c = (credit_not day n x (all_get (entry_fits BatchA day n) (entries day n) i x f e) c, tt)

reversal_not : (s : Sort) (day : Day) (J : History) (n : ℕ) → list_all (entry_fits s day n) (entries day n) ≡ true → NotToSubs day (reversal s day J n)
reversal_not BatchA day J n f = counted_not day (return_of day n) (entry_fits BatchA day n) (is_debit_entry day n) (is_booked J n) (λ e t q. debtor_not day n e t q) 1 (entries day n) f
reversal_not _ day J n f = tt

cover_not : (s : Sort) (day : Day) (J : History) (n : ℕ) → list_all (entry_fits s day n) (entries day n) ≡ true → NotToSubs day (cover_moves s day J n)
cover_not BatchA day J n f = counted_not day (cover_of day n) (entry_fits BatchA day n) (is_debit_entry day n) (λ k. not (is_booked J n k)) (λ e t q. technical_not day n e q) 1 (entries day n) f
cover_not BatchB day J n f =
    append_not day _ _
    (filter_not day (covered_debit day J n) (entry_fits BatchB day n) (is_debit_entry day n) each (entries day n) f)
    (filter_not day (move_of day) (entry_fits BatchB day n) (is_credit_entry day n) (λ e t q. credit_not day n e t q) (entries day n) f)
  where
    either_way : (b : Bool) (x y : Move) → is_sub_account day x.credit ≡ false → is_sub_account day y.credit ≡ false → is_sub_account day (if b then x else y).credit ≡ false
    either_way true x y h k = h
    either_way false x y h k = k

    each : (e : Entry) → entry_fits BatchB day n e ≡ true → is_debit_entry day n e ≡ true → is_sub_account day (covered_debit day J n e).credit ≡ false
    each e t q = either_way (is_short_debtor day J n (debit_account day e)) (cover_of day n e) (move_of day e) (technical_not day n e q) (paid_not day n e t q)
cover_not _ day J n f = tt

pub code_is : (o : Option Code) → is_some o ≡ true → (c : Code) × (o ≡ Some c)
code_is None h = cc
code_is (Some c) h = (c, refl)

pub midnight : (day : Day) (J : History) (w : Want) → is_sound day ≡ true → IsLegal day J → clock J ≡ 86400 → may day J w ≡ true → NotToSubs day (made day J w).moves
unfolding is_pending
midnight day J (wants.In n) sound legal late h =
    let a = and_parts _ (is_none (untaken_earlier day J n)) h in
    let b = and_parts _ (is_reached day J n) a.0 in
    let c = and_parts (is_message (sort_of day n)) (is_none (taken J n)) b.0 in
    absurd (both (taken J n) c.1 (all_in day sound J legal (omega (arith, late)) n c.0))
  where
    both : (o : Option ℕ) → is_none o ≡ true → is_some o ≡ true → ⊥
    both None h k = false≢true k
    both (Some i) h k = false≢true h
midnight day J (wants.Book n k) sound legal late h =
    let b = and_parts (pending_as (sort_of day n) day J n k (phase day J n)) (not (is_b (sort_of day n))) (and_parts _ _ h).0 in
    let ok : is_accepted J n ≡ true = going_accepted day J n (pending_going (sort_of day n) day J n k (phase day J n) b.0) in
    let late' : 86400 ≤ clock J = omega (arith, late) in
    let p = late_pending (sort_of day n) day J n k (phase day J n) (never_open day J n sound late') b.0 in
    part_not day n k p.1 (subst (λ s. list_all (entry_fits s day n) (entries day n) ≡ true) p.0 (accepted_fits day J n legal ok))
midnight day J (wants.All n) sound legal late h =
    let b = and_parts (is_b (sort_of day n)) (pending_as (sort_of day n) day J n 0 (phase day J n)) (and_parts _ _ (and_parts _ _ h).0).0 in
    let late' : 86400 ≤ clock J = omega (arith, late) in
    let p = late_pending (sort_of day n) day J n 0 (phase day J n) (never_open day J n sound late') b.1 in
    absurd (false≢true (ap is_b (sym p.0) ∙ b.0))
midnight day J wants.Time sound legal late h = tt
midnight day J (wants.Expire n) sound legal late h =
    let o : is_overdue (phase day J n) ≡ true = (and_parts (may_lapse (sort_of day n)) (is_overdue (phase day J n)) (and_parts _ _ h).0).1 in
    reversal_not (sort_of day n) day J n (accepted_fits day J n legal (going_accepted day J n (overdue_going (phase day J n) o)))
midnight day J (wants.Ask n) sound legal late h = tt
midnight day J (wants.Cover n) sound legal late h =
    let o : is_answered (phase day J n) ≡ true = (and_parts (is_a_or_b (sort_of day n)) (is_answered (phase day J n)) (and_parts _ _ (and_parts _ _ h).0).0).1 in
    cover_not (sort_of day n) day J n (accepted_fits day J n legal (going_accepted day J n (answered_going (phase day J n) o)))
midnight day J (wants.Refuse n) sound legal late h =
    let c = code_is (refusal day J n) h in
    reversal_not (sort_of day n) day J n (accepted_fits day J n legal (going_accepted day J n (refusal_going (is_a_or_b (sort_of day n)) (phase day J n) _ (fund_suffices day J n) _ _ _ _ c.0 c.1)))
midnight day J (wants.Sweep a) sound legal late h = (first_dca_not day (owner day a), tt)
midnight day J wants.End sound legal late h = tt
