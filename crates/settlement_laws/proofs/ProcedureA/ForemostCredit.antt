-- Where a credit is pending on a technical account of A, the foremost of them is free and covered: its Book line is there.
use Rattle.std.proofs.Common.{◌≡◌, ℕ, suc, length, ◌+◌, ◌≤◌, ◌<◌, Bool, true, false, not, ◌&&◌, ◌||◌, Option, Some, None, refl, sym, ◌∙◌, ap, subst, arith, ◌⊎◌, inl, inr}
use Rattle.std.specs.Prelude.{is_some, nat_eq, slice_get, filter}
use Rattle.std.specs.List.{list_all, list_any}
use Rattle.std.proofs.lemmas.Bool.{eqb-true, eq-eqb, le-leb, not-true, and_from, and_parts}
use Rattle.batch_records.specs.DayRecord.{Day}
use Rattle.batch_records.specs.declared.day.Entry.{Entry}
use Rattle.commit_journal.specs.declared.line.Want.TheVariants as wants
use Rattle.commit_journal.specs.Line.{History}
use Rattle.machine.specs.declared.answers.Item.{Item}
use Rattle.machine.specs.Words.{some_passes}
use Rattle.machine.specs.Records.Messages.{Sort, BatchA, BatchB, sort_of, is_message, is_a, is_b, entries, entry_at, part, technical_account, debit_account, is_debit_entry, is_credit_entry, is_credit, debit_entries}
use Rattle.machine.specs.Records.Reserves.{must_leave, must_leave_as}
use Rattle.machine.specs.Telling.History.{covered, closed, is_accepted}
use Rattle.machine.specs.Telling.Balances.{balance}
use Rattle.machine.specs.Stages.Intake.{entry_fits}
use Rattle.machine.specs.Stages.Phases.{phase, is_booked}
use Rattle.machine.specs.Stages.Pending.{item, is_pending, debtors, debit_accounts_as, debit_account_of_part, stands_on, is_blocked}
use Rattle.machine.specs.Making.Lines.{may_book, is_ready, is_free_part, is_covered_part}
use Rattle.machine.specs.Legal.{IsLegal}
use Rattle.machine.proofs.Lists.{all_get}
use Rattle.settlement_laws.proofs.Base.PhaseLaws.{going_accepted, covered_is_covered}
use Rattle.settlement_laws.proofs.Balances.MovesOfTheDay.{pending_going, accepted_fits, accepted_accounts}
use Rattle.settlement_laws.proofs.EachLaw.OneLineLaws.{credit_waits}
use Rattle.settlement_laws.proofs.Base.Lists.{IsIn, never, all_in, into_filter, from_filter, from_map, none_passes}
use Rattle.settlement_laws.proofs.Wants.Foremost.{items, pending, item_in, entry_within, first_in, nothing_blocks}
use Rattle.settlement_laws.proofs.DayEnd.Stops.{MessageAt, message_is}
use Rattle.settlement_laws.proofs.Wants.ReadyWants.{idle}
use Rattle.settlement_laws.proofs.ProcedureA.DebitedByOwnBatches.{is_a_account, entry_apart, sides_of_a}
use Rattle.settlement_laws.proofs.ProcedureA.NoneFromTechnical.{differ, all_filtered}
use Rattle.settlement_laws.proofs.ProcedureA.DebitsOfTechnical.{booked_none}
use Rattle.settlement_laws.proofs.Base.LinesOf.{credited_by, debited_by, is_of}
use Rattle.settlement_laws.proofs.Base.Weights.{every}
use Rattle.settlement_laws.proofs.ProcedureA.FactsOfA.{credit_weight, debit_weight, FactsOfA, facts_of_a}
use Rattle.settlement_laws.proofs.ProcedureA.BoundsOfA.{Bounds, bounds}
use Rattle.settlement_laws.proofs.ProcedureA.PhasesOfA.{PendingOfA, pending_of_a, going_facts, live_going}
use Rattle.settlement_laws.proofs.ProcedureA.BookedCredits.{has_debits, NoCreditPending}
use Rattle.settlement_laws.proofs.ProcedureA.OwnMoney.{EachWithin, holds_own, all_is_there, one_credit, not_back}

-- ---- an entry of a batch is an item

a_message : (s : Sort) → s ≡ BatchA → is_message s ≡ true
a_message BatchA e = refl
a_message _ e = cc

credit_item : (day : Day) (n k : ℕ) → sort_of day n ≡ BatchA → is_credit day n k ≡ true → IsIn (item n k) (items day)
credit_item day n k q c =
    let at : MessageAt day n = message_is day n (a_message (sort_of day n) q) in
    let number : n ≡ suc at.place = at.number in
    let within : at.place < length day.messages = at.within in
    item_in day n k (omega (arith, number)) (omega (arith, number, within)) (entry_within day n k (is_credit_entry day n) c)

-- ---- what is pending on a technical account of A

-- an entry of one of its A batches
pub record OnA (day : Day) (t : ℕ) (x : Item) : Type 0 where
  pub of_a : sort_of day x.msg ≡ BatchA
  pub is_own : technical_account day x.msg ≡ t
  pub entry : Entry
  pub is_part : part day x.msg x.entry ≡ Some entry
  pub is_from : debit_account day entry ≡ t

stand_part : (s : Sort) (day : Day) (t n k : ℕ) → is_b s ≡ false → list_any (λ b. nat_eq b t) (debit_accounts_as s day n k) ≡ true → list_any (λ b. nat_eq b t) (debit_account_of_part day (part day n k)) ≡ true
stand_part BatchB day t n k b h = never false (sym b) refl
stand_part _ day t n k b h = h

no_debtor : (s : Sort) (day : Day) (t n k : ℕ) → is_a_account day t ≡ true → sort_of day n ≡ s → is_b s ≡ true → list_all (entry_fits s day n) (entries day n) ≡ true → list_any (λ b. nat_eq b t) (debit_accounts_as s day n k) ≡ false
no_debtor BatchB day t n k is_t q b f = none_passes (λ b. nat_eq b t) (debtors day n) (λ a i.
    let m = from_map (debit_account day) (debit_entries day n) a i in
    let g : entry_fits BatchB day n m.0 ≡ true = all_in (entry_fits BatchB day n) (debit_entries day n) m.0 (all_filtered (entry_fits BatchB day n) (is_debit_entry day n) (entries day n) f) m.1 in
    differ day t a is_t (ap (is_a_account day) (sym m.2) ∙ entry_apart BatchB day n m.0 q refl refl g))
no_debtor _ day t n k is_t q b f = never false b refl

pub on_a : (day : Day) (J : History) (t : ℕ) (x : Item) → is_a_account day t ≡ true → IsLegal day J → is_pending day J x ≡ true → stands_on day t x ≡ true → OnA day t x
unfolding is_pending
on_a day J t x is_t legal p s = here (is_b (sort_of day x.msg)) refl
  where
    ok : is_accepted J x.msg ≡ true
    ok = going_accepted day J x.msg (pending_going (sort_of day x.msg) day J x.msg x.entry (phase day J x.msg) p)

    f : list_all (entry_fits (sort_of day x.msg) day x.msg) (entries day x.msg) ≡ true
    f = accepted_fits day J x.msg legal ok

    own : (s : Sort) (b : Bool) → (is_a s && b) ≡ true → (s ≡ BatchA) × (b ≡ true)
    own BatchA b h = (refl, h)
    own _ b h = cc

    or_no : (b : Bool) → (b || false) ≡ true → b ≡ true
    or_no true h = refl
    or_no false h = h

    by_part : is_b (sort_of day x.msg) ≡ false → (o : Option Entry) → part day x.msg x.entry ≡ o → list_any (λ b. nat_eq b t) (debit_account_of_part day o) ≡ true →
        (b : Bool) → (is_a (sort_of day x.msg) && nat_eq (technical_account day x.msg) t) ≡ b → OnA day t x
    by_part nb None e h b eb = never false h refl
    by_part nb (Some y) e h false eb = never (nat_eq (debit_account day y) t) (or_no _ h) (booked_none day J x.msg t is_t (sort_of day x.msg) x.entry (phase day J x.msg) refl eb p (ap not nb) (accepted_accounts day J x.msg legal ok) f y e)
    by_part nb (Some y) e h true eb =
        let o = own (sort_of day x.msg) (nat_eq (technical_account day x.msg) t) eb in
        record { of_a = o.0; is_own = eqb-true (technical_account day x.msg) t o.1; entry = y; is_part = e; is_from = eqb-true (debit_account day y) t (or_no _ h) }

    here : (b : Bool) → is_b (sort_of day x.msg) ≡ b → OnA day t x
    here true e = never (stands_on day t x) s (no_debtor (sort_of day x.msg) day t x.msg x.entry is_t refl e f)
    here false e = by_part e (part day x.msg x.entry) refl (stand_part (sort_of day x.msg) day t x.msg x.entry e s) (is_a (sort_of day x.msg) && nat_eq (technical_account day x.msg) t) refl

-- ---- it is covered

credit_there : (day : Day) (J : History) (n k : ℕ) → sort_of day n ≡ BatchA → is_credit day n k ≡ true → is_pending day J (item n k) ≡ true → (has_debits day J n ≡ true) ⊎ (is_some (covered J n) ≡ true)
unfolding is_pending
credit_there day J n k q c p = elim (credit_waits day J n k (entry_at day n k) (sort_of day n) (phase day J n) (ap is_a q) refl c p) [
  | inl u ↦ inl u
  | inr v ↦ inr (and_parts (is_a (sort_of day n)) (is_some (covered J n)) (covered_is_covered day J n v)).1
]

module _ (day : Day) (J : History) (legal : IsLegal day J) where
  pub covers : (n k : ℕ) (e : Entry) → sort_of day n ≡ BatchA → EachWithin J (technical_account day n) → is_pending day J (item n k) ≡ true → part day n k ≡ Some e → debit_account day e ≡ technical_account day n → e.amount ≤ balance day J (technical_account day n)
  covers n k e q within p g from =
      let a : PendingOfA day J n k = pending_of_a day J n k q p in
      let facts : FactsOfA day n = facts_of_a day J n legal q (going_accepted day J n (live_going (phase day J n) a.open_or_covered)) in
      let at : slice_get (entries day n) a.index ≡ Some e = subst (λ k. part day n k ≡ Some e) a.number g in
      let side : is_debit_entry day n e ≡ false = not_debit facts (all_get (entry_fits BatchA day n) (entries day n) a.index e facts.forms_fit at) in
      let c : is_credit day n k ≡ true = subst (λ k. is_credit day n k ≡ true) (sym a.number) (ap (some_passes (is_credit_entry day n)) at ∙ ap not side) in
      let b : Bounds day J n = bounds day n J legal q in
      let came : credit_weight day n every ≤ credited_by (is_of n) J (technical_account day n) = all_is_there day J n facts b (credit_there day J n k q c p) in
      let went : debited_by (is_of n) J (technical_account day n) ≤ credit_weight day n (is_booked J n) = not_back (is_some (closed J n)) (debit_weight day n (is_booked J n)) (credit_weight day n (is_booked J n)) _ (going_facts day J n q (live_going (phase day J n) a.open_or_covered)).0 b.little_went in
      let more : credit_weight day n (is_booked J n) + e.amount ≤ credit_weight day n every = one_credit day J n k a.index e a.number at (ap not side) a.is_unbooked in
      holds_own day J n (technical_account day n) e.amount within (omega arith)
    where
      not_debit : FactsOfA day n → entry_fits BatchA day n e ≡ true → is_debit_entry day n e ≡ false
      not_debit facts fit = here (is_debit_entry day n e) refl
        where
          here : (b : Bool) → is_debit_entry day n e ≡ b → b ≡ false
          here true d = never (is_a_account day (technical_account day n)) facts.has_technical (ap (is_a_account day) (sym from) ∙ ((sides_of_a day n e facts.has_technical fit).debit_side d).1)
          here false d = refl

  -- ---- so it has its line

  pub nothing_pending : (t : ℕ) → is_a_account day t ≡ true → EachWithin J t → is_ready day J ≡ false → (x : Item) → IsIn x (filter (stands_on day t) (pending day J)) → ⊥
  nothing_pending t is_t within none x i =
      let z = first_in day J (filter (stands_on day t) (pending day J)) x i in
      let s = from_filter (stands_on day t) (pending day J) z.0 z.1.0 in
      let p = from_filter (is_pending day J) (items day) z.0 s.0 in
      let a : OnA day t z.0 = on_a day J t z.0 is_t legal p.1 s.1 in
      never (may_book day J z.0.msg z.0.entry) (may z.0 a p.1 (nothing_blocks day J z.0 t z.1)) (idle day J (wants.Book z.0.msg z.0.entry) none)
    where
      may : (z : Item) → OnA day t z → is_pending day J z ≡ true → is_blocked day J z t ≡ false → may_book day J z.msg z.entry ≡ true
      may z a p free =
          let enough : a.entry.amount ≤ balance day J (technical_account day z.msg) = covers z.msg z.entry a.entry a.of_a (subst (EachWithin J) (sym a.is_own) within) p a.is_part (a.is_from ∙ sym a.is_own) in
          let there : a.entry.amount ≤ balance day J (debit_account day a.entry) = subst (λ b. a.entry.amount ≤ balance day J b) (a.is_own ∙ sym a.is_from) enough in
          let leaves : must_leave day z.msg (debit_account day a.entry) ≡ 0 = ap (λ s. must_leave_as s day z.msg (debit_account day a.entry)) a.of_a in
          let c : is_covered_part day J z.msg a.entry ≡ true = le-leb (a.entry.amount + must_leave day z.msg (debit_account day a.entry)) (balance day J (debit_account day a.entry)) (omega (arith, there, leaves)) in
          let f : is_free_part day J z a.entry ≡ true = ap (λ b. not (is_blocked day J z b)) a.is_from ∙ ap not free in
          and_from _ _ (and_from (is_pending day J z) (not (is_b (sort_of day z.msg))) p (ap (λ s. not (is_b s)) a.of_a)) (ap (some_passes (λ e. is_free_part day J z e && is_covered_part day J z.msg e)) a.is_part ∙ and_from _ _ f c)

  stands_there : (n k : ℕ) → sort_of day n ≡ BatchA → FactsOfA day n → PendingOfA day J n k → is_credit day n k ≡ true → stands_on day (technical_account day n) (item n k) ≡ true
  stands_there n k q facts a c = subst (λ s. list_any (λ b. nat_eq b (technical_account day n)) (debit_accounts_as s day n k) ≡ true) (sym q) (subst (λ k. is_credit day n k ≡ true → list_any (λ b. nat_eq b (technical_account day n)) (debit_account_of_part day (part day n k)) ≡ true) (sym a.number) (here (slice_get (entries day n) a.index) refl) c)
    where
      or_true : (b : Bool) → b ≡ true → (b || false) ≡ true
      or_true b h = ap (λ b. b || false) h

      here : (o : Option Entry) → slice_get (entries day n) a.index ≡ o → some_passes (is_credit_entry day n) o ≡ true → list_any (λ b. nat_eq b (technical_account day n)) (debit_account_of_part day o) ≡ true
      here None e h = never false h refl
      here (Some x) e h = or_true (nat_eq (debit_account day x) (technical_account day n)) (eq-eqb _ _ ((sides_of_a day n x facts.has_technical (all_get (entry_fits BatchA day n) (entries day n) a.index x facts.forms_fit e)).credit_side (not-true _ h)))

  -- where no want is ready, no credit of an A batch is pending
  pub no_credit_pending : ((t : ℕ) → is_a_account day t ≡ true → EachWithin J t) → is_ready day J ≡ false → (n : ℕ) → sort_of day n ≡ BatchA → NoCreditPending day J n
  no_credit_pending within none n q k c p =
      let a : PendingOfA day J n k = pending_of_a day J n k q p in
      let facts : FactsOfA day n = facts_of_a day J n legal q (going_accepted day J n (live_going (phase day J n) a.open_or_covered)) in
      nothing_pending (technical_account day n) facts.has_technical (within (technical_account day n) facts.has_technical) none (item n k)
      (into_filter (stands_on day (technical_account day n)) (pending day J) (item n k) (into_filter (is_pending day J) (items day) (item n k) (credit_item day n k q c) p) (stands_there n k q facts a c))
