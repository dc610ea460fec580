-- Of the credits of A that are pending on one account the earliest is free, and the account covers it.
use Rattle.std.proofs.Common.{◌≡◌, ℕ, zero, suc, ◌≤◌, Bool, true, false, not, ◌&&◌, Option, Some, None, refl, sym, ◌∙◌, ap, subst}
use Rattle.std.proofs.lemmas.Bool.{not-true, and_parts}
use Rattle.batch_records.specs.DayRecord.{Day}
use Rattle.batch_records.specs.declared.day.Entry.{Entry}
use Rattle.commit_journal.specs.Line.{History}
use Rattle.machine.specs.declared.answers.Item.{Item}
use Rattle.machine.specs.Records.Messages.{Sort, BatchA, sort_of, is_a, entries, entry_at, part, technical_account, is_debit_entry}
use Rattle.machine.specs.Telling.Balances.{balance}
use Rattle.machine.specs.Stages.Intake.{entry_fits}
use Rattle.machine.specs.Stages.Phases.{phase}
use Rattle.machine.specs.Stages.Pending.{is_pending, standing, is_ahead, priority_as, is_normal, stands_on, stands_before, is_blocker}
use Rattle.machine.specs.Stages.Blockers.{first_blocker}
use Rattle.machine.specs.Legal.{IsLegal}
use Rattle.machine.proofs.Lists.{all_get}
use Rattle.settlement_laws.specs.TechnicalOfA.{IsCreditOn, IsEarliestOn, EarliestCreditIsFree}
use Rattle.settlement_laws.proofs.Base.Lists.{never}
use Rattle.settlement_laws.proofs.Base.PhaseLaws.{going_accepted}
use Rattle.settlement_laws.proofs.ProcedureA.DebitedByOwnBatches.{is_a_account, sides_of_a}
use Rattle.settlement_laws.proofs.ProcedureA.FactsOfA.{FactsOfA, facts_of_a}
use Rattle.settlement_laws.proofs.ProcedureA.PhasesOfA.{PendingOfA, pending_of_a, live_going}
use Rattle.settlement_laws.proofs.Wants.BlockerIsTheForemost.{blocker_is_the_foremost}
use Rattle.settlement_laws.proofs.ProcedureA.ForemostCredit.{OnA, on_a, covers}
use Rattle.settlement_laws.proofs.ProcedureA.NeverBelowZero.{sound_a}

-- what item x moves, where it is an entry
as_part : (day : Day) (n k : ℕ) (e : Entry) → entry_at day n k ≡ Some e → part day n k ≡ Some e
as_part day n zero e h = cc
as_part day n (suc k) e h = h

as_entry : (day : Day) (n k i : ℕ) (e : Entry) → k ≡ suc i → part day n k ≡ Some e → entry_at day n k ≡ Some e
as_entry day n zero i e q h = cc
as_entry day n (suc k) i e q h = h

a_sort : (s : Sort) → is_a s ≡ true → s ≡ BatchA
a_sort BatchA h = refl
a_sort _ h = cc

module _ (day : Day) (J : History) (legal : IsLegal day J) where
  facts : (x : Item) → sort_of day x.msg ≡ BatchA → is_pending day J x ≡ true → FactsOfA day x.msg
  facts x q p = facts_of_a day J x.msg legal q (going_accepted day J x.msg (live_going (phase day J x.msg) (pending_of_a day J x.msg x.entry q p).open_or_covered))

  fits : (x : Item) (e : Entry) → sort_of day x.msg ≡ BatchA → is_pending day J x ≡ true → part day x.msg x.entry ≡ Some e → entry_fits BatchA day x.msg e ≡ true
  fits x e q p g =
      let a : PendingOfA day J x.msg x.entry = pending_of_a day J x.msg x.entry q p in
      all_get (entry_fits BatchA day x.msg) (entries day x.msg) a.index e (facts x q p).forms_fit (subst (λ k. part day x.msg k ≡ Some e) a.number g)

  -- a credit entry leads from the batch's technical account
  own_account : (a : ℕ) (x : Item) (e : Entry) → IsCreditOn day J a x e → technical_account day x.msg ≡ a
  own_account a x e c =
      let q : sort_of day x.msg ≡ BatchA = a_sort (sort_of day x.msg) c.of_a in
      let f : entry_fits BatchA day x.msg e ≡ true = fits x e q c.pending (as_part day x.msg x.entry e c.entry) in
      sym ((sides_of_a day x.msg e (facts x q c.pending).has_technical f).credit_side (not-true (is_debit_entry day x.msg e) c.credit)) ∙ c.account

  -- what is pending on a technical account of A is a credit of A
  is_credit_on : (t : ℕ) (y : Item) → is_a_account day t ≡ true → is_pending day J y ≡ true → stands_on day t y ≡ true → (f : Entry) × IsCreditOn day J t y f
  is_credit_on t y is_t p s =
      let o : OnA day t y = on_a day J t y is_t legal p s in
      let a : PendingOfA day J y.msg y.entry = pending_of_a day J y.msg y.entry o.of_a p in
      let side : is_debit_entry day y.msg o.entry ≡ false = not_debit o p (is_debit_entry day y.msg o.entry) refl in (
        o.entry,
        record {
          of_a = ap is_a o.of_a;
          entry = as_entry day y.msg y.entry a.index o.entry a.number o.is_part;
          credit = ap not side;
          account = o.is_from;
          pending = p;
        },
      )
    where
      not_debit : (o : OnA day t y) → is_pending day J y ≡ true → (b : Bool) → is_debit_entry day y.msg o.entry ≡ b → b ≡ false
      not_debit o p false e = refl
      not_debit o p true e =
          let f = facts y o.of_a p in
          never (is_a_account day t) is_t (ap (is_a_account day) (sym o.is_from) ∙ ((sides_of_a day y.msg o.entry f.has_technical (fits y o.entry o.of_a p o.is_part)).debit_side e).1)

  none_before : (t : ℕ) (x : Item) (e : Entry) → is_a_account day t ≡ true → IsEarliestOn day J t x e → (y : Item) → is_blocker day J x t y ≡ true → ⊥
  none_before t x e is_t h y b =
      let c = and_parts (is_pending day J y && stands_on day t y) (stands_before day J x y) b in
      let p = and_parts (is_pending day J y) (stands_on day t y) c.0 in
      let on = is_credit_on t y is_t p.0 p.1 in
      never (is_ahead (standing day J y) (standing day J x)) (and_parts (not (is_normal (priority_as (sort_of day y.msg) day y.msg))) (is_ahead (standing day J y) (standing day J x)) c.1).1 (h.1 y on.0 on.1)

  pub earliest_credit_is_free : EarliestCreditIsFree day J
  earliest_credit_is_free a x e h =
      let c : IsCreditOn day J a x e = h.0 in
      let q : sort_of day x.msg ≡ BatchA = a_sort (sort_of day x.msg) c.of_a in
      let own : technical_account day x.msg ≡ a = own_account a x e c in
      let is_t : is_a_account day a ≡ true = subst (λ t. is_a_account day t ≡ true) own (facts x q c.pending).has_technical in
      let enough : e.amount ≤ balance day J (technical_account day x.msg) = covers day J legal x.msg x.entry e q ((sound_a day J legal).within (technical_account day x.msg) (facts x q c.pending).has_technical) c.pending (as_part day x.msg x.entry e c.entry) (c.account ∙ sym own) in
      (free (first_blocker day J x a) refl is_t, subst (λ t. e.amount ≤ balance day J t) own enough)
    where
      free : (o : Option Item) → first_blocker day J x a ≡ o → is_a_account day a ≡ true → o ≡ None
      free None g is_t = refl
      free (Some y) g is_t = absurd (none_before a x e is_t h y ((blocker_is_the_foremost day J x a).0 y g).0)
