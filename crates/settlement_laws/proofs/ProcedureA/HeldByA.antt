-- What a technical account of A holds: what its batches that aren't closed brought, less what they took.
use Rattle.std.proofs.Common.{◌≡◌, ℕ, zero, suc, ◌+◌, ◌-◌, ◌≤◌, Bool, true, false, ◌&&◌, List, [], ◌∷◌, Option, Some, None, refl, sym, ◌∙◌, ap, subst, arith, cond}
use Rattle.std.specs.Prelude.{is_some, is_none, nat_eq, if◌then◌else◌, unwrap_or, filter, sum_by}
use Rattle.std.specs.Option.{option_map_or}
use Rattle.std.proofs.lemmas.Bool.{eqb-true, and_from, false_from_ne_true, and_parts}
use Rattle.std.proofs.lemmas.List.Sums.{sum_by-cons}
use Rattle.account_book.specs.Directory.{is_technical_of}
use Rattle.account_book.proofs.SoundLemmas.{same_names, own_name}
use Rattle.batch_records.specs.DayRecord.{Day}
use Rattle.batch_records.specs.Sound.{is_sound}
use Rattle.cash_amounts.specs.declared.records.AccountRecord.{AccountRecord}
use Rattle.cash_amounts.specs.declared.records.AccountKind.{AccountKind}
use Rattle.cash_amounts.specs.declared.records.AccountKind.TheVariants.{Tech}
use Rattle.cash_amounts.specs.declared.records.Procedure.{Procedure}
use Rattle.cash_amounts.specs.declared.records.Procedure.TheVariants.{A}
use Rattle.cash_amounts.specs.SoundSetup.{systems_are_sound, accounts_are_sound, is_within_limits}
use Rattle.commit_journal.specs.Line.{History}
use Rattle.machine.specs.Words.{some_passes, same_name, same_procedure, is_technical}
use Rattle.machine.specs.Records.Setup.{account_at, opening, technical}
use Rattle.machine.specs.Records.Messages.{Sort, BatchA, sort_of, sender, message_numbers, procedure_of_sort, technical_account, is_message, is_a, is_debit_entry, is_credit_entry, entries}
use Rattle.machine.specs.Telling.History.{closed}
use Rattle.machine.specs.Telling.Balances.{credits, debits, credited, debited, balance}
use Rattle.machine.specs.Stages.Phases.{is_booked}
use Rattle.machine.specs.Legal.{IsLegal}
use Rattle.settlement_laws.specs.TechnicalOfA.{booked_debits, booked_credits, paid_by_fund, NoPartIsBelowZero, is_unclosed, unclosed_batches, HoldsItsBatches}
use Rattle.settlement_laws.proofs.Base.Made.{made_facts}
use Rattle.settlement_laws.proofs.Base.Lists.{never}
use Rattle.settlement_laws.proofs.Base.Numbers.{sum_add, sum_same, sum_nothing, at_number, sum_at}
use Rattle.settlement_laws.proofs.Balances.RolesOfAccounts.{role_as, role_of, role_at}
use Rattle.settlement_laws.proofs.Base.Sound.{subs_have_dca}
use Rattle.settlement_laws.proofs.Base.SoundParts.{sound_parts}
use Rattle.settlement_laws.proofs.DayEnd.Stops.{MessageAt, message_is}
use Rattle.settlement_laws.proofs.ProcedureA.DebitedByOwnBatches.{is_a_account, found_passes}
use Rattle.settlement_laws.proofs.ProcedureB.TechnicalIsEmpty.{opens_empty}
use Rattle.settlement_laws.proofs.Base.Weights.{every, weight_is}
use Rattle.settlement_laws.proofs.Base.LinesOf.{credited_by, debited_by, is_of}
use Rattle.settlement_laws.proofs.ProcedureA.FactsOfA.{debit_weight, credit_weight}
use Rattle.settlement_laws.proofs.ProcedureA.BookedCredits.{Flags}
use Rattle.settlement_laws.proofs.ProcedureA.OwnMoney.{no_credits, own_within, all_credited, all_debited}
use Rattle.settlement_laws.proofs.ProcedureA.DebitsOfTechnical.{none_debited}
use Rattle.settlement_laws.proofs.ProcedureA.CreditsOfTechnical.{none_credited}
use Rattle.settlement_laws.proofs.ProcedureA.CancelsOfA.{cancelled}
use Rattle.settlement_laws.proofs.ProcedureA.PartsOfA.{Parts, parts}
use Rattle.settlement_laws.proofs.ProcedureA.NeverBelowZero.{sound_a}

a_sort : (s : Sort) → is_a s ≡ true → s ≡ BatchA
a_sort BatchA h = refl
a_sort _ h = cc

debits_weigh : (day : Day) (J : History) (n : ℕ) → booked_debits day J n ≡ debit_weight day n (is_booked J n)
debits_weigh day J n = weight_is (is_debit_entry day n) (is_booked J n) 1 (entries day n)

credits_weigh : (day : Day) (J : History) (n : ℕ) → booked_credits day J n ≡ credit_weight day n (is_booked J n)
credits_weigh day J n = weight_is (is_credit_entry day n) (is_booked J n) 1 (entries day n)

-- ---- one batch

pub no_part_is_below_zero : (day : Day) (J : History) → IsLegal day J → NoPartIsBelowZero day J
no_part_is_below_zero day J legal n h = here (is_some (closed J n)) refl
  where
    q : sort_of day n ≡ BatchA
    q = a_sort (sort_of day n) h

    flags : Flags day J n
    flags = (sound_a day J legal).flags n q

    c : booked_credits day J n ≡ credit_weight day n (is_booked J n)
    c = credits_weigh day J n

    here : (b : Bool) → is_some (closed J n) ≡ b → booked_credits day J n ≤ booked_debits day J n + paid_by_fund J n
    here true z = let w : credit_weight day n (is_booked J n) ≡ 0 = no_credits day J n (flags.unpaid z).0 in omega (arith, c)
    here false z =
        let p : Parts day J n = parts day n J legal q z in
        let hc = p.came in
        let hd = p.went in
        let d = debits_weigh day J n in
        let w = own_within day J n legal q flags in
        omega (arith, c)

-- ---- the account

-- of the record of a technical account of A
record TechnicalOf (day : Day) (system : List ℕ) (t : ℕ) : Type 0 where
  role : role_at day t ≡ 4
  is_one : is_a_account day t ≡ true
  owned : some_passes (λ r. same_name r.owner system) (account_at day t) ≡ true
  empty : opening day t ≡ 0

a_role : (k : AccountKind) (p : Option Procedure) → (is_technical k && some_passes (λ q. same_procedure q A) p) ≡ true → role_as k p ≡ 4
a_role Tech (Some p) h = ap (λ x. 4 + x) (eqb-true _ _ h)
a_role Tech None h = cc
a_role _ p h = cc

technical_of_a : (day : Day) (system : List ℕ) (t : ℕ) → is_sound day ≡ true → technical day system A ≡ Some t → TechnicalOf day system t
technical_of_a day system zero sound e = never (some_passes (is_technical_of system A) (account_at day 0)) (found_passes day (is_technical_of system A) 0 e) refl
technical_of_a day system (suc i) sound e = here (account_at day (suc i)) refl (found_passes day (is_technical_of system A) (suc i) e)
  where
    accounts_are : accounts_are_sound day.systems [] day.accounts ≡ true
    accounts_are = (and_parts (systems_are_sound [] day.systems) (accounts_are_sound day.systems [] day.accounts) (and_parts _ (is_within_limits day.accounts day.systems) (sound_parts day sound).setup).0).1

    here : (o : Option AccountRecord) → account_at day (suc i) ≡ o → some_passes (is_technical_of system A) o ≡ true → TechnicalOf day system (suc i)
    here None e h = cc
    here (Some r) e h =
        let b = and_parts (is_technical r.kind && same_name r.owner system) (some_passes (λ q. same_procedure q A) r.procedure) h in
        let d = and_parts (is_technical r.kind) (same_name r.owner system) b.0 in
        let both = and_from (is_technical r.kind) (some_passes (λ q. same_procedure q A) r.procedure) d.0 b.1 in
        record {
          role = ap (λ x. option_map_or role_of x 9) e ∙ a_role r.kind r.procedure both;
          is_one = ap (some_passes (λ (r : AccountRecord). is_technical r.kind && some_passes (λ q. same_procedure q A) r.procedure)) e ∙ both;
          owned = ap (some_passes (λ (r : AccountRecord). same_name r.owner system)) e ∙ d.1;
          empty = ap (λ x. option_map_or (λ (r : AccountRecord). r.opening) x 0) e ∙ opens_empty day.systems [] day.accounts i r accounts_are e d.0;
        }

-- two owners of one account
same_owner : (day : Day) (t : ℕ) (a b : List ℕ) → some_passes (λ r. same_name r.owner a) (account_at day t) ≡ true → some_passes (λ r. same_name r.owner b) (account_at day t) ≡ true → same_name a b ≡ true
same_owner day t a b h k = here (account_at day t) h k
  where
    here : (o : Option AccountRecord) → some_passes (λ r. same_name r.owner a) o ≡ true → some_passes (λ r. same_name r.owner b) o ≡ true → same_name a b ≡ true
    here None h k = cc
    here (Some r) h k = subst (λ x. same_name a x ≡ true) (sym (same_names r.owner a h) ∙ same_names r.owner b k) (own_name a)

-- ---- sums over messages

filtered : (p : ℕ → Bool) (f : ℕ → ℕ) (xs : List ℕ) → sum_by f (filter p xs) ≡ sum_by (λ n. if p n then f n else 0) xs
filtered p f [] = refl
filtered p f (x ∷ xs) = here (p x) refl (filtered p f xs)
  where
    whole : sum_by (λ n. if p n then f n else 0) (x ∷ xs) ≡ (if p x then f x else 0) + sum_by (λ n. if p n then f n else 0) xs
    whole = sum_by-cons (λ n. if p n then f n else 0) x xs

    here : (b : Bool) → p x ≡ b → sum_by f (filter p xs) ≡ sum_by (λ n. if p n then f n else 0) xs → sum_by f (cond b (x ∷ filter p xs) (filter p xs)) ≡ sum_by (λ n. if p n then f n else 0) (x ∷ xs)
    here true e k =
        let c : sum_by f (x ∷ filter p xs) ≡ f x + sum_by f (filter p xs) = sum_by-cons f x (filter p xs) in
        let z : (if p x then f x else 0) ≡ f x = ap (λ b. if b then f x else 0) e in
        omega (arith, whole)
    here false e k =
        let z : (if p x then f x else 0) ≡ 0 = ap (λ b. if b then f x else 0) e in
        omega (arith, whole)

-- what a line brings is that of its message, where that is one of those picked; else it is nothing
spread : (day : Day) (pick : ℕ → Bool) (x m : ℕ) → (pick m ≡ true → MessageAt day m) → (pick m ≡ false → x ≡ 0) → sum_by (λ n. if pick n then (if is_of n m then x else 0) else 0) (message_numbers day) ≡ x
spread day pick x m at none = here (pick m) refl
  where
    hit : (p q : Bool) → (q ≡ true → p ≡ true) → (if p then (if q then x else 0) else 0) ≡ (if q then x else 0)
    hit true q h = refl
    hit false true h = never false (h refl) refl
    hit false false h = refl

    gone : (p q : Bool) → x ≡ 0 → (if p then (if q then x else 0) else 0) ≡ 0
    gone true true h = h
    gone true false h = refl
    gone false q h = refl

    here : (b : Bool) → pick m ≡ b → sum_by (λ n. if pick n then (if is_of n m then x else 0) else 0) (message_numbers day) ≡ x
    here true e =
        let a : MessageAt day m = at e in
        let number : m ≡ suc a.place = a.number in
        sum_same (λ n. if pick n then (if is_of n m then x else 0) else 0) (at_number m x) (λ n. hit (pick n) (nat_eq m n) (λ s. subst (λ y. pick y ≡ true) (eqb-true m n s) e)) (message_numbers day)
        ∙ sum_at m x 1 a.place day.messages (omega (arith, number)) a.within
    here false e =
        let z : x ≡ 0 = none e in
        sum_same (λ n. if pick n then (if is_of n m then x else 0) else 0) (λ n. 0) (λ n. gone (pick n) (is_of n m) z) (message_numbers day) ∙ sum_nothing (message_numbers day) ∙ sym z

more : (p : Bool) (a b : ℕ) → (if p then a + b else 0) ≡ (if p then a else 0) + (if p then b else 0)
more true a b = refl
more false a b = refl

none_yet : (p : Bool) (x : ℕ) → x ≡ 0 → (if p then x else 0) ≡ 0
none_yet true x h = h
none_yet false x h = refl

-- ---- a system's account

module _ (day : Day) (sound : is_sound day ≡ true) (system : List ℕ) (t : ℕ) (found : technical day system A ≡ Some t) where
  pick : ℕ → Bool
  pick n = is_a (sort_of day n) && same_name (sender day n) system

  it : TechnicalOf day system t
  it = technical_of_a day system t sound found

  of_a : (n : ℕ) → pick n ≡ true → sort_of day n ≡ BatchA
  unfolding pick
  of_a n h = a_sort (sort_of day n) (and_parts (is_a (sort_of day n)) (same_name (sender day n) system) h).0

  picked_at : (n : ℕ) → pick n ≡ true → MessageAt day n
  picked_at n h = message_is day n (subst (λ s. is_message s ≡ true) (sym (of_a n h)) refl)

  own_account : (n : ℕ) → pick n ≡ true → technical_account day n ≡ t
  unfolding pick
  own_account n h =
      let b = and_parts (is_a (sort_of day n)) (same_name (sender day n) system) h in
      ap (λ s. unwrap_or (technical day (sender day n) (procedure_of_sort s)) 0) (a_sort (sort_of day n) b.0)
      ∙ ap (λ x. unwrap_or (technical day x A) 0) (same_names (sender day n) system b.1)
      ∙ ap (λ o. unwrap_or o 0) found

  other_account : (n : ℕ) → pick n ≡ false → (is_a (sort_of day n) && nat_eq (technical_account day n) t) ≡ false
  unfolding pick
  other_account n h = false_from_ne_true _ (λ k.
      let b = and_parts (is_a (sort_of day n)) (nat_eq (technical_account day n) t) k in
      never (pick n) (and_from (is_a (sort_of day n)) (same_name (sender day n) system) b.0 (same (a_sort (sort_of day n) b.0) (eqb-true (technical_account day n) t b.1))) h)
    where
      owner_of : (o : Option ℕ) → technical day (sender day n) A ≡ o → unwrap_or o 0 ≡ t → same_name (sender day n) system ≡ true
      owner_of None e z = never (is_a_account day t) it.is_one (ap (is_a_account day) (sym z))
      owner_of (Some u) e z = same_owner day t (sender day n) system (technical_of_a day (sender day n) t sound (e ∙ ap Some z)).owned it.owned

      same : sort_of day n ≡ BatchA → technical_account day n ≡ t → same_name (sender day n) system ≡ true
      same q z = owner_of (technical day (sender day n) A) refl (ap (λ s. unwrap_or (technical day (sender day n) (procedure_of_sort s)) 0) (sym q) ∙ z)

  -- what all messages picked brought is what came, and so with what went
  all_came : (J : History) → IsLegal day J → sum_by (λ n. if pick n then credited_by (is_of n) J t else 0) (message_numbers day) ≡ credited J t
  unfolding credited
  all_came [] legal = sum_same (λ n. if pick n then 0 else 0) (λ n. 0) (λ n. none_yet (pick n) 0 refl) (message_numbers day) ∙ sum_nothing (message_numbers day)
  all_came (l ∷ J) legal =
      let k : sum_by (λ n. if pick n then credited_by (is_of n) J t else 0) (message_numbers day) ≡ credited J t = all_came J legal.0 in
      let s : sum_by (λ n. if pick n then (if is_of n l.head.msg then credits t l.moves else 0) else 0) (message_numbers day) ≡ credits t l.moves =
      spread day pick (credits t l.moves) l.head.msg (picked_at l.head.msg) (λ h. none_credited day J l.head.msg t it.role l.head.kind l.head.entry l.head.code l.moves (subs_have_dca day sound) legal.0 (other_account l.head.msg h) (made_facts day J l legal.1).1) in
      let a = sum_same (λ n. if pick n then credited_by (is_of n) J t + (if is_of n l.head.msg then credits t l.moves else 0) else 0) (λ n. (if pick n then credited_by (is_of n) J t else 0) + (if pick n then (if is_of n l.head.msg then credits t l.moves else 0) else 0)) (λ n. more (pick n) (credited_by (is_of n) J t) (if is_of n l.head.msg then credits t l.moves else 0)) (message_numbers day) in
      let b = sum_add (λ n. if pick n then credited_by (is_of n) J t else 0) (λ n. if pick n then (if is_of n l.head.msg then credits t l.moves else 0) else 0) (message_numbers day) in
      a ∙ b ∙ (λ i. k i + s i)

  all_went : (J : History) → IsLegal day J → sum_by (λ n. if pick n then debited_by (is_of n) J t else 0) (message_numbers day) ≡ debited J t
  unfolding debited
  all_went [] legal = sum_same (λ n. if pick n then 0 else 0) (λ n. 0) (λ n. none_yet (pick n) 0 refl) (message_numbers day) ∙ sum_nothing (message_numbers day)
  all_went (l ∷ J) legal =
      let k : sum_by (λ n. if pick n then debited_by (is_of n) J t else 0) (message_numbers day) ≡ debited J t = all_went J legal.0 in
      let s : sum_by (λ n. if pick n then (if is_of n l.head.msg then debits t l.moves else 0) else 0) (message_numbers day) ≡ debits t l.moves =
      spread day pick (debits t l.moves) l.head.msg (picked_at l.head.msg) (λ h. none_debited day J l.head.msg t it.is_one l.head.kind l.head.entry l.head.code l.moves legal.0 (other_account l.head.msg h) (made_facts day J l legal.1).1) in
      let a = sum_same (λ n. if pick n then debited_by (is_of n) J t + (if is_of n l.head.msg then debits t l.moves else 0) else 0) (λ n. (if pick n then debited_by (is_of n) J t else 0) + (if pick n then (if is_of n l.head.msg then debits t l.moves else 0) else 0)) (λ n. more (pick n) (debited_by (is_of n) J t) (if is_of n l.head.msg then debits t l.moves else 0)) (message_numbers day) in
      let b = sum_add (λ n. if pick n then debited_by (is_of n) J t else 0) (λ n. if pick n then (if is_of n l.head.msg then debits t l.moves else 0) else 0) (message_numbers day) in
      a ∙ b ∙ (λ i. k i + s i)

  -- ---- message by message

  one_message : (J : History) → IsLegal day J → (n : ℕ) →
      (if pick n then credited_by (is_of n) J t else 0) + (if pick n && is_none (closed J n) then booked_credits day J n else 0)
      ≡ (if pick n then debited_by (is_of n) J t else 0) + ((if pick n && is_none (closed J n) then booked_debits day J n else 0) + (if pick n && is_none (closed J n) then paid_by_fund J n else 0))
  one_message J legal n = here (pick n) refl (closed J n) refl
    where
      live : pick n ≡ true → is_some (closed J n) ≡ false → credited_by (is_of n) J t + booked_credits day J n ≡ debited_by (is_of n) J t + (booked_debits day J n + paid_by_fund J n)
      live h z =
          let p : Parts day J n = parts day n J legal (of_a n h) z in
          let own : technical_account day n ≡ t = own_account n h in
          let hc : credited_by (is_of n) J t ≡ debit_weight day n (is_booked J n) + paid_by_fund J n = subst (λ a. credited_by (is_of n) J a ≡ debit_weight day n (is_booked J n) + paid_by_fund J n) own p.came in
          let hd : debited_by (is_of n) J t ≡ credit_weight day n (is_booked J n) = subst (λ a. debited_by (is_of n) J a ≡ credit_weight day n (is_booked J n)) own p.went in
          let d = debits_weigh day J n in
          let c = credits_weigh day J n in
          omega (arith, d, c, hc, hd)

      here : (b : Bool) → pick n ≡ b → (o : Option ℕ) → closed J n ≡ o →
          (if b then credited_by (is_of n) J t else 0) + (if b && is_none o then booked_credits day J n else 0)
          ≡ (if b then debited_by (is_of n) J t else 0) + ((if b && is_none o then booked_debits day J n else 0) + (if b && is_none o then paid_by_fund J n else 0))
      here true h None z = live h (ap is_some z)
      here true h (Some p) z = ap (λ x. x + 0) (cancelled day n t (of_a n h) J legal (ap is_some z))
      here false h o z = refl

  holds : (J : History) → IsLegal day J → balance day J t + sum_by (booked_credits day J) (unclosed_batches day J system)
      ≡ sum_by (booked_debits day J) (unclosed_batches day J system) + sum_by (paid_by_fund J) (unclosed_batches day J system)
  unfolding pick
  holds J legal =
      let ns : List ℕ = message_numbers day in
      let live : ℕ → Bool = is_unclosed day J system in
      let came : sum_by (λ n. if pick n then credited_by (is_of n) J t else 0) ns ≡ credited J t = all_came J legal in
      let went : sum_by (λ n. if pick n then debited_by (is_of n) J t else 0) ns ≡ debited J t = all_went J legal in
      let c = filtered live (booked_credits day J) ns in
      let d = filtered live (booked_debits day J) ns in
      let f = filtered live (paid_by_fund J) ns in
      let left = sum_add (λ n. if pick n then credited_by (is_of n) J t else 0) (λ n. if live n then booked_credits day J n else 0) ns in
      let right = sum_add (λ n. if pick n then debited_by (is_of n) J t else 0) (λ n. (if live n then booked_debits day J n else 0) + (if live n then paid_by_fund J n else 0)) ns in
      let rest = sum_add (λ n. if live n then booked_debits day J n else 0) (λ n. if live n then paid_by_fund J n else 0) ns in
      let each = sum_same (λ n. (if pick n then credited_by (is_of n) J t else 0) + (if live n then booked_credits day J n else 0)) (λ n. (if pick n then debited_by (is_of n) J t else 0) + ((if live n then booked_debits day J n else 0) + (if live n then paid_by_fund J n else 0))) (one_message J legal) ns in
      let less : debited_by every J t ≤ credited_by every J t = (sound_a day J legal).within t it.is_one every in
      let x = all_credited J t in
      let y = all_debited J t in
      let z = it.empty in
      balanced _ _ _ _ _ (opening day t) (credited J t) (debited J t) _ _ _ _ _ _ came went c d f left right rest each (omega (arith, less, x, y)) z
    where
      balanced : (C D L M F o cr de bc bd fp both other inner : ℕ) → C ≡ cr → D ≡ de → bc ≡ L → bd ≡ M → fp ≡ F → both ≡ C + L → other ≡ D + inner → inner ≡ M + F → both ≡ other → de ≤ cr → o ≡ 0 → ((o + cr) - de) + bc ≡ bd + fp
      balanced C D L M F o cr de bc bd fp both other inner a b c d e f g h i less z = omega arith

pub holds_its_batches : (day : Day) (J : History) → is_sound day ≡ true → IsLegal day J → HoldsItsBatches day J
holds_its_batches day J sound legal system a found = holds day sound system a found J legal
