-- Where each account has its candidate, the members show what is ready; and they still do as the scan goes on.
use Rattle.std.proofs.Common.{◌≡◌, ◌∙◌, ℕ, ◌+◌, ◌<◌, ◌≤◌, Bool, true, false, not, ◌&&◌, List, [], ◌∷◌, Option, Some, None, length, refl, sym, ap, subst, arith, ◌⊎◌, inl, inr, ⊎_elim, if◌then◌else◌}
use Rattle.std.specs.Prelude.{nat_eq, nat_le, nat_lt, option_map, unwrap_or}
use Rattle.std.specs.List.{list_all, list_any}
use Rattle.std.proofs.lemmas.Bool.{and_from, and_parts, cases_Bool, cases_eq, cases_lt, false_from_ne_true, false≢true, leb-true, ltb-true, not_from_false, or_cases, or_left, or_right, eq-eqb, cond-true, le-leb, ltb-false, not-true}
use Rattle.batch_records.specs.DayRecord.{Day}
use Rattle.batch_records.specs.declared.day.Entry.{Entry}
use Rattle.commit_journal.specs.Line.{History}
use Rattle.machine.specs.declared.answers.Item.{Item}
use Rattle.machine.specs.Records.Messages.{Sort, BatchB, debit_account, is_b, sort_of}
use Rattle.machine.specs.Records.Reserves.{must_leave, must_leave_as}
use Rattle.machine.specs.Telling.Balances.{balance}
use Rattle.machine.specs.Telling.History.{clock}
use Rattle.machine.specs.Stages.Phases.{phase}
use Rattle.machine.specs.Stages.Pending.{debit_accounts, debtors, is_blocked, is_pending, item, stands_on}
use Rattle.machine.specs.Making.Lines.{gross, is_ready_item}
use Rattle.settlement_laws.proofs.Base.Lists.{IsIn, all_in, all_of, never}
use Rattle.number_set.specs.Members.{has}
use Rattle.number_set.specs.Next.{IsNext}
use Rattle.scan_laws.specs.Candidates.{IsFirstRound}
use Rattle.scan_laws.specs.Next.{IsPassed, comes_by}
use Rattle.scan_laws.specs.Numbers.{item_count, item_of}
use Rattle.scan_laws.specs.Touched.{waits_on}
use Rattle.scan_laws.specs.Views.{alone, whole_by}
use Rattle.scan_laws.proofs.NextFacts.{By, comes_by-from, comes_by-later, comes_by-true}
use Rattle.scan_laws.proofs.NumberFacts.{item-is}
use Rattle.scan_laws.proofs.Waiting.{alone_ready, never_ready, waiting_ready, whole_ready}
use Rattle.pending_items.specs.Parts.{account_of}
use Rattle.pending_items.proofs.PartFacts.{pending_zero}
use Rattle.ready_items.specs.Goes.{asks, by_itself, goes_at, goes_on, is_account, is_placed, ready_at, takes}
use Rattle.ready_items.specs.Found.{MayStand, candidate, is_b_at, is_candidate}
use Rattle.ready_items.specs.Kept.{IsRenewed, KeepsReady, Ready, is_member}
use Rattle.ready_items.specs.Noting.{Touches}
use Rattle.ready_items.specs.Shows.{IsIdle, Shows}
use Rattle.ready_items.specs.Touching.{TouchesBelow}
use Rattle.ready_items.proofs.FoundFacts.{b_accounts, is_that}
use Rattle.ready_items.proofs.GoesFacts.{at_from, b_is_first, comes_by_itself, one_goes}
use Rattle.ready_items.proofs.NormalFacts.{takes_part, part_on}

-- ---- what members show

pub shown_next : (members ready : ℕ → Bool) (p : ℕ) (o : Option ℕ) → Shows members ready p → IsNext members p o → IsIdle ready p o
shown_next members ready p None shows next = λ k low. false_from_ne_true (ready k) (λ r. shows.none_is_passed k r (λ y m. false_from_ne_true (comes_by p k y) (λ c. here k low y m (comes_by-true p k y c))))
  where
    here : (k : ℕ) → p ≤ k → (y : ℕ) → members y ≡ true → By p k y → ⊥
    here k low y m (inl b) = never (members y) m (next y b.0)
    here k low y m (inr b) = let l = b.0 in omega (arith, l, low)
shown_next members ready p (Some x) shows next = λ k low less. false_from_ne_true (ready k) (λ r. shows.none_is_passed k r (λ y m. false_from_ne_true (comes_by p k y) (λ c. here k low less y m (comes_by-true p k y c))))
  where
    here : (k : ℕ) → p ≤ k → k < x → (y : ℕ) → members y ≡ true → By p k y → ⊥
    here k low less y m (inl b) = let l = b.1 in never (members y) m (next.none_before y b.0 (omega (arith, l, less)))
    here k low less y m (inr b) = let l = b.0 in omega (arith, l, low)

-- ---- each ready item has a member

any_account : (test : ℕ → Bool) (xs : List ℕ) → list_any test xs ≡ true → (a : ℕ) × IsIn a xs × (test a ≡ true)
any_account test [] h = absurd (false≢true h)
any_account test (x ∷ xs) h = ⊎_elim
    (λ (t : test x ≡ true). (x, inl refl, t))
    (λ (r : list_any test xs ≡ true). let q = any_account test xs r in (q.0, inr q.1, q.2))
    (or_cases (test x) (list_any test xs) h)

module _ (day : Day) (J : History) (v : Ready) (keeps : KeepsReady day J v) (renewed : IsRenewed v) (i : ℕ) (low : i < item_count day) (ready : is_ready_item day J (item_of day i).msg (item_of day i).entry ≡ true)
    (passed : IsPassed (is_member v) v.at i) where
  abbrev x : Item
  x = item_of day i

  is_no_member : is_member v i ≡ true → ⊥
  is_no_member m = never (comes_by v.at i i) (comes_by_itself v.at i) (passed i m)

  not_by_itself : by_itself day J x ≡ true → ⊥
  not_by_itself h = is_no_member (or_left (has v.alone i) _ (keeps.alone i low ∙ h))

  -- the account of the day on which it can go has a member
  module _ (a : ℕ) (known : is_account day a ≡ true) (goes : goes_at day J a i ≡ true) where
    first : IsFirstRound (goes_at day J a) v.at (candidate v.found a)
    first = let p = and_parts (nat_le 1 a) (nat_le a (length day.accounts)) known in keeps.first a (leb-true 1 a p.0) (leb-true a (length day.accounts) p.1) (renewed a)

    has_candidate : (y : ℕ) × (candidate v.found a ≡ Some y) × (goes_at day J a y ≡ true) × (comes_by v.at i y ≡ true)
    has_candidate = here (candidate v.found a) refl first
      where
        here : (o : Option ℕ) → candidate v.found a ≡ o → IsFirstRound (goes_at day J a) v.at o → (y : ℕ) × (candidate v.found a ≡ Some y) × (goes_at day J a y ≡ true) × (comes_by v.at i y ≡ true)
        here None e h = never (goes_at day J a i) goes (h i)
        here (Some y) e h = (y, e, h.0, h.1 i goes)

    none_single : is_b (sort_of day x.msg) ≡ false → ⊥
    none_single nb =
        let c = has_candidate in
        ⊎_elim
        (λ (b : is_b_at day c.0 ≡ true).
        let same : c.0 ≡ i = one_goes day J a c.0 i c.2 goes (b_is_first day (item_of day c.0) b) in
        never (is_b_at day c.0) b (ap (is_b_at day) same ∙ nb))
        (λ (b : is_b_at day c.0 ≡ false). never (comes_by v.at i c.0) c.3 (passed c.0 (or_right (has v.alone c.0) _ (keeps.fits.members.single a c.0 c.1 b))))
        (cases_Bool (is_b_at day c.0))

    its_candidate : is_b (sort_of day x.msg) ≡ true → candidate v.found a ≡ Some i
    its_candidate b =
        let c = has_candidate in
        c.1 ∙ ap Some (sym (one_goes day J a i c.0 goes c.2 (b_is_first day x b)))

  -- a pending item of no batch of B
  single_case : is_pending day J x ≡ true → is_placed day x ≡ true → is_b (sort_of day x.msg) ≡ false → ⊥
  single_case pending placed nb =
      let at = any_account (is_account day) (debit_accounts day x) (and_parts (list_any (is_account day) (debit_accounts day x)) _ placed).0 in
      let a : ℕ = at.0 in
      let on : stands_on day a x ≡ true = in_any (debit_accounts day x) a at.1 in
      let p = part_on day a x.msg x.entry nb on in
      let e : Entry = p.0 in
      let waits : waits_on day J a x.msg x.entry ≡ true = and_from _ _ (and_from _ _ (not_from_false (is_b (sort_of day x.msg)) nb) on) pending in
      let both = and_parts (not (is_blocked day J x a)) (nat_le (e.amount + must_leave day x.msg a) (balance day J a)) (sym (waiting_ready day J a x.msg x.entry e waits p.1) ∙ ready) in
      let goes : goes_on day J a x ≡ true = and_from _ _ (and_from _ _ (and_from _ _ pending on) both.0) (ap (λ c. nat_le (c + must_leave day x.msg a) (balance day J a)) (takes_part day x.msg x.entry a e nb p.1) ∙ both.1) in
      none_single a at.2 (at_from day J a i low goes) nb
    where
      in_any : (xs : List ℕ) (a : ℕ) → IsIn a xs → list_any (λ b. nat_eq b a) xs ≡ true
      in_any [] a i = absurd i
      in_any (y ∷ ys) a (inl e) = or_left (nat_eq y a) _ (eq-eqb y a e)
      in_any (y ∷ ys) a (inr i) = or_right (nat_eq y a) _ (in_any ys a i)

  -- a pending batch of B
  batch_case : is_pending day J x ≡ true → is_placed day x ≡ true → is_b (sort_of day x.msg) ≡ true → ⊥
  batch_case pending placed b = here (item_of day i) refl
    where
      accounts : debit_accounts day x ≡ debtors day x.msg
      accounts = b_accounts (sort_of day x.msg) day x.msg x.entry b

      placed_parts : (list_any (is_account day) (debtors day x.msg) ≡ true) × (list_all (is_account day) (debtors day x.msg) ≡ true)
      placed_parts = and_parts (list_any (is_account day) (debtors day x.msg)) (list_all (is_account day) (debtors day x.msg)) (subst (λ xs. (list_any (is_account day) xs && list_all (is_account day) xs) ≡ true) accounts placed)

      zero_entry : x.entry ≡ 0
      zero_entry = pending_zero day J x b pending

      is_x : x ≡ item x.msg 0
      is_x = λ t. record { msg = x.msg; entry = zero_entry t }

      by_whole : whole_by day x.msg (is_blocked day J (item x.msg 0)) (balance day J) ≡ true
      by_whole = sym (whole_ready day J x.msg b (subst (λ (y : Item). is_pending day J y ≡ true) is_x pending)) ∙ subst (λ (y : Item). is_ready_item day J y.msg y.entry ≡ true) is_x ready

      whole_parts : (list_all (λ a. not (is_blocked day J (item x.msg 0) a)) (debtors day x.msg) ≡ true) × (list_all (λ a. not (nat_lt (balance day J a) (gross day x.msg a))) (debtors day x.msg) ≡ true)
      whole_parts = and_parts (list_all (λ a. not (is_blocked day J (item x.msg 0) a)) (debtors day x.msg)) (list_all (λ a. not (nat_lt (balance day J a) (gross day x.msg a))) (debtors day x.msg)) by_whole

      in_any : (xs : List ℕ) (a : ℕ) → IsIn a xs → list_any (λ c. nat_eq c a) xs ≡ true
      in_any [] a q = absurd q
      in_any (y ∷ ys) a (inl e) = or_left (nat_eq y a) _ (eq-eqb y a e)
      in_any (y ∷ ys) a (inr q) = or_right (nat_eq y a) _ (in_any ys a q)

      covered : (m g : ℕ) → not (nat_lt m g) ≡ true → g ≤ m
      covered m g h = ltb-false m g (not-true (nat_lt m g) h)

      batch_leaves : (s : Sort) (day : Day) (n a : ℕ) → is_b s ≡ true → must_leave_as s day n a ≡ 0
      batch_leaves BatchB day n a h = refl
      batch_leaves _ day n a h = cc

      goes_there : (a : ℕ) → IsIn a (debtors day x.msg) → goes_at day J a i ≡ true
      goes_there a q =
          let on : stands_on day a x ≡ true = ap (list_any (λ c. nat_eq c a)) accounts ∙ in_any (debtors day x.msg) a q in
          let free : not (is_blocked day J x a) ≡ true = subst (λ (y : Item). not (is_blocked day J y a) ≡ true) (sym is_x) (all_in (λ c. not (is_blocked day J (item x.msg 0) c)) (debtors day x.msg) a whole_parts.0 q) in
          let there : gross day x.msg a ≤ balance day J a = covered (balance day J a) (gross day x.msg a) (all_in (λ c. not (nat_lt (balance day J c) (gross day x.msg c))) (debtors day x.msg) a whole_parts.1 q) in
          let takes_gross : takes day x a ≡ gross day x.msg a = cond-true (is_b (sort_of day x.msg)) (gross day x.msg a) _ b in
          let leaves : must_leave day x.msg a ≡ 0 = batch_leaves (sort_of day x.msg) day x.msg a b in
          at_from day J a i low (and_from _ _ (and_from _ _ (and_from _ _ pending on) free) (le-leb (asks day x a) (balance day J a) (omega (arith, there, takes_gross, leaves))))

      each : (a : ℕ) → IsIn a (debtors day x.msg) → candidate v.found a ≡ Some i
      each a q = its_candidate a (all_in (is_account day) (debtors day x.msg) a placed_parts.1 q) (goes_there a q) b

      here : (y : Item) → item_of day i ≡ y → ⊥
      here y e =
          let at = any_account (is_account day) (debtors day x.msg) placed_parts.0 in
          let all = all_of (is_candidate v.found i) (debtors day x.msg) (λ a q. is_that v.found i a (each a q)) in
          is_no_member (or_right (has v.alone i) _ (keeps.fits.members.whole at.0 i (each at.0 at.1) b all))

  pub none_passed : ⊥
  none_passed = by_alone (alone day x.msg x.entry (phase day J x.msg) (clock J)) refl
    where
      by_alone : (o : Option Bool) → alone day x.msg x.entry (phase day J x.msg) (clock J) ≡ o → ⊥
      by_alone (Some b) e =
          let is : true ≡ b = sym ready ∙ alone_ready day J x.msg x.entry b e in
          not_by_itself (or_left (unwrap_or (alone day x.msg x.entry (phase day J x.msg) (clock J)) false) _ (ap (λ o. unwrap_or o false) e ∙ sym is))
      by_alone None e = ⊎_elim
          (λ (p : is_pending day J x ≡ true). ⊎_elim
          (λ (q : is_placed day x ≡ true). ⊎_elim (batch_case p q) (single_case p q) (cases_Bool (is_b (sort_of day x.msg))))
          (λ (q : is_placed day x ≡ false). not_by_itself (or_right (unwrap_or (alone day x.msg x.entry (phase day J x.msg) (clock J)) false) _ (and_from _ _ p (not_from_false (is_placed day x) q))))
          (cases_Bool (is_placed day x)))
          (λ (p : is_pending day J x ≡ false). never (is_ready_item day J x.msg x.entry) ready (never_ready day J x.msg x.entry p e))
          (cases_Bool (is_pending day J x))

pub shows_ready : (day : Day) (J : History) (v : Ready) → KeepsReady day J v → IsRenewed v → Shows (is_member v) (ready_at day J) v.at
shows_ready day J v keeps renewed = record {
  none_is_passed = λ i r passed.
      let p = and_parts (nat_lt i (item_count day)) _ r in
      none_passed day J v keeps renewed i (ltb-true i (item_count day) p.0) p.1 passed;
}

-- ---- the scan goes on

-- from p to q no candidate is passed, but of a batch of B
first_later : (day : Day) (J : History) (a p q : ℕ) (o : Option ℕ) → p ≤ q → ((y : ℕ) → o ≡ Some y → is_b_at day y ≡ false → p ≤ y → y < q → ⊥) → IsFirstRound (goes_at day J a) p o → IsFirstRound (goes_at day J a) q o
first_later day J a p q None le ne h = h
first_later day J a p q (Some y) le ne h = (
  h.0,
  λ z g. ⊎_elim
      (λ (b : is_b_at day y ≡ true). subst (λ c. comes_by q z c ≡ true) (sym (one_goes day J a y z h.0 g (b_is_first day (item_of day y) b))) (comes_by_itself q z))
      (λ (b : is_b_at day y ≡ false). comes_by-later p q z y le (out z (λ low less. passed z b (comes_by-true p z y (h.1 z g)) low less)) (out y (ne y refl b)) (h.1 z g))
      (cases_Bool (is_b_at day y)),
)
  where
    out : (z : ℕ) → (p ≤ z → z < q → ⊥) → (z < p) ⊎ (q ≤ z)
    out z f = ⊎_elim (λ (l : z < p). inl l) (λ (l : p ≤ z). ⊎_elim (λ (m : z < q). absurd (f l m)) (λ (m : q ≤ z). inr m) (cases_lt z q)) (cases_lt z p)

    passed : (z : ℕ) → is_b_at day y ≡ false → By p z y → p ≤ z → z < q → ⊥
    passed z b (inl r) low less = let u = r.1 in ne y refl b r.0 (omega (arith, u, less))
    passed z b (inr r) low less = let u = r.0 in omega (arith, u, low)

pub first_turned : (day : Day) (J : History) (a p : ℕ) (o : Option ℕ) → ((y : ℕ) → o ≡ Some y → is_b_at day y ≡ false → p ≤ y → ⊥) → IsFirstRound (goes_at day J a) p o → IsFirstRound (goes_at day J a) 0 o
first_turned day J a p None ne h = h
first_turned day J a p (Some y) ne h = (
  h.0,
  λ z g. ⊎_elim
      (λ (b : is_b_at day y ≡ true). subst (λ c. comes_by 0 z c ≡ true) (sym (one_goes day J a y z h.0 g (b_is_first day (item_of day y) b))) (comes_by_itself 0 z))
      (λ (b : is_b_at day y ≡ false). comes_by-from 0 z y (inl (omega arith, before z b (comes_by-true p z y (h.1 z g)))))
      (cases_Bool (is_b_at day y)),
)
  where
    before : (z : ℕ) → is_b_at day y ≡ false → By p z y → y ≤ z
    before z b (inl r) = r.1
    before z b (inr r) = ⊎_elim (λ (l : p ≤ y). absurd (ne y refl b l)) (λ (l : y ≤ z). l) r.1

-- the candidate of an account that is no batch of B is a member
pub candidate_member : (day : Day) (J : History) (v : Ready) → KeepsReady day J v → (a y : ℕ) → candidate v.found a ≡ Some y → is_b_at day y ≡ false → is_member v y ≡ true
candidate_member day J v keeps a y e b = or_right (has v.alone y) _ (keeps.fits.members.single a y e b)

pub turned_keeps : (day : Day) (J : History) (v : Ready) → KeepsReady day J v → IsNext (is_member v) v.at None → KeepsReady day J (record { normals = v.normals; alone = v.alone; found = v.found; touched = v.touched; at = 0 })
turned_keeps day J v keeps none = record {
  fits = record { payments = keeps.fits.payments; alone = keeps.fits.alone; members = keeps.fits.members; candidates = keeps.fits.candidates; touched = keeps.fits.touched };
  alone = keeps.alone;
  amounts = keeps.amounts;
  first = λ a low high clean. first_turned day J a v.at (candidate v.found a) (λ y e b l. never (is_member v y) (candidate_member day J v keeps a y e b) (none y l)) (keeps.first a low high clean);
}

-- after member x, where the accounts on which x stands are touched
pub passed_keeps : (day : Day) (J : History) (v : Ready) (x : ℕ) (touched : List Bool) → KeepsReady day J v → IsNext (is_member v) v.at (Some x) → length touched ≡ length v.touched → ((a : ℕ) → has v.touched a ≡ true → has touched a ≡ true)
    → ((a : ℕ) → a < length v.touched → is_b_at day x ≡ false → candidate v.found a ≡ Some x → has touched a ≡ true) → KeepsReady day J (record { normals = v.normals; alone = v.alone; found = v.found; touched = touched; at = x + 1 })
passed_keeps day J v x touched keeps next size stay told = record {
  fits = record { payments = keeps.fits.payments; alone = keeps.fits.alone; members = keeps.fits.members; candidates = keeps.fits.candidates ∙ sym size; touched = subst (λ k. length day.accounts + 1 ≤ k) (sym size) keeps.fits.touched };
  alone = keeps.alone;
  amounts = keeps.amounts;
  first = λ a low high clean.
      let begin = next.at_least in
      let was : has v.touched a ≡ false = false_from_ne_true (has v.touched a) (λ h. never (has touched a) (stay a h) clean) in
      let room = keeps.fits.touched in
      first_later day J a v.at (x + 1) (candidate v.found a) (omega (arith, begin)) (λ y e b l m. ⊎_elim
      (λ (q : y ≡ x). never (has touched a) (told a (omega (arith, room, high)) (subst (λ z. is_b_at day z ≡ false) q b) (e ∙ ap Some q)) clean)
      (λ (ne : y ≡ x → ⊥). never (is_member v y) (candidate_member day J v keeps a y e b) (next.none_before y l (omega (arith, m, ne))))
      (cases_eq y x))
      (keeps.first a low high was);
}

-- by the accounts of its item
pub passed_by : (day : Day) (J : History) (v : Ready) (x : ℕ) (touched : List Bool) → KeepsReady day J v → IsNext (is_member v) v.at (Some x) → Touches day (item_of day x) v.touched touched → KeepsReady day J (record { normals = v.normals; alone = v.alone; found = v.found; touched = touched; at = x + 1 })
passed_by day J v x touched keeps next touches = passed_keeps day J v x touched keeps next touches.grows.size touches.grows.stay (λ a low b e.
    let there = subst (MayStand day a) e (keeps.fits.members.stands a) in
    let y : Item = item_of day x in
    let p = part_on day a y.msg y.entry b there.1 in
    let account : account_of day y ≡ Some a = ap (option_map (debit_account day)) p.1 ∙ ap Some p.2 in
    touches.told y a (item-is day x there.0) (ap (λ c. if c then item y.msg 0 else y) b) account low)

-- anywhere, where all accounts are touched
pub moved_keeps : (day : Day) (J : History) (v : Ready) (touched : List Bool) (p : ℕ) → KeepsReady day J v → TouchesBelow (length v.touched) v.touched touched → KeepsReady day J (record { normals = v.normals; alone = v.alone; found = v.found; touched = touched; at = p })
moved_keeps day J v touched p keeps touches = record {
  fits = record { payments = keeps.fits.payments; alone = keeps.fits.alone; members = keeps.fits.members; candidates = keeps.fits.candidates ∙ sym touches.grows.size; touched = subst (λ k. length day.accounts + 1 ≤ k) (sym touches.grows.size) keeps.fits.touched };
  alone = keeps.alone;
  amounts = keeps.amounts;
  first = λ a low high clean. let room = keeps.fits.touched in never (has touched a) (touches.told a (omega (arith, room, high)) (omega (arith, room, high))) clean;
}
