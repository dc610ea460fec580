-- What can go on an account: the head alone, where one stands there, and else each normal payment that is covered.
use Rattle.std.proofs.Common.{◌≡◌, ◌∙◌, ℕ, zero, suc, ◌-◌, ◌<◌, ◌≤◌, Bool, true, false, not, ◌&&◌, Option, Some, None, refl, sym, ap, subst, arith, ◌⊎◌, inl, inr, ⊎_elim, if◌then◌else◌}
use Rattle.std.specs.Prelude.{nat_eq, nat_le, nat_lt}
use Rattle.std.proofs.lemmas.Bool.{and_from, and_parts, cases_lt, eqb-true, false_from_ne_true, lt-ltb, ltb-true, not_from_false, not-true, or_cases}
use Rattle.batch_records.specs.DayRecord.{Day}
use Rattle.commit_journal.specs.Line.{History}
use Rattle.machine.specs.declared.answers.Item.{Item}
use Rattle.machine.specs.declared.answers.Phase.{Phase}
use Rattle.machine.specs.Words.{is_zero}
use Rattle.machine.specs.Records.Messages.{Sort, Pay, BatchB, is_b, is_high, is_pay, sort_of}
use Rattle.machine.specs.Records.Reserves.{kept}
use Rattle.machine.specs.Telling.Balances.{balance}
use Rattle.machine.specs.Stages.Phases.{is_open, phase}
use Rattle.machine.specs.Stages.Pending.{Standing, is_ahead, is_blocked, is_blocker, is_normal, is_pending, pending_as, priority_as, standing, stands_on}
use Rattle.settlement_laws.proofs.Wants.BlockerIsTheForemost.{blocker_is_the_foremost}
use Rattle.settlement_laws.proofs.Wants.Foremost.{ahead_other}
use Rattle.settlement_laws.proofs.Base.Lists.{never}
use Rattle.settlement_laws.proofs.Wants.PlacesDiffer.{places_differ}
use Rattle.scan_laws.specs.Candidates.{IsFirstRound}
use Rattle.scan_laws.specs.Next.{comes_by}
use Rattle.scan_laws.specs.Numbers.{IsItem, item_count, item_number, item_of}
use Rattle.scan_laws.proofs.NextFacts.{comes_by-from}
use Rattle.scan_laws.proofs.NumberFacts.{number-back}
use Rattle.pending_items.specs.Heads.{IsHeadOf, IsHeadOn}
use Rattle.pending_items.proofs.HeadFacts.{not_blocked}
use Rattle.pending_items.proofs.PartFacts.{pending_item}
use Rattle.ready_items.proofs.NormalFacts.{fitting_goes, going_fits}
use Rattle.ready_items.specs.Goes.{asks, goes_at, goes_on}
use Rattle.ready_items.specs.Found.{IsHeadCandidate}
use Rattle.ready_items.specs.Normals.{fits_normal, goes_normal, is_normal_item, is_normal_pay}

-- ---- its parts

pub record IsFree (day : Day) (J : History) (a : ℕ) (x : Item) : Type 0 where
  pub pending : is_pending day J x ≡ true
  pub on : stands_on day a x ≡ true
  pub free : is_blocked day J x a ≡ false

pub goes_parts : (day : Day) (J : History) (a : ℕ) (x : Item) → goes_on day J a x ≡ true → IsFree day J a x × (nat_le (asks day x a) (balance day J a) ≡ true)
goes_parts day J a x h =
    let p = and_parts (is_pending day J x && stands_on day a x && not (is_blocked day J x a)) (nat_le (asks day x a) (balance day J a)) h in
    let q = and_parts (is_pending day J x && stands_on day a x) (not (is_blocked day J x a)) p.0 in
    let r = and_parts (is_pending day J x) (stands_on day a x) q.0 in
    (record { pending = r.0; on = r.1; free = not-true (is_blocked day J x a) q.1 }, p.1)

pub goes_from : (day : Day) (J : History) (a : ℕ) (x : Item) → IsFree day J a x → nat_le (asks day x a) (balance day J a) ≡ true → goes_on day J a x ≡ true
goes_from day J a x f h = and_from _ _ (and_from _ _ (and_from _ _ f.pending f.on) (not_from_false (is_blocked day J x a) f.free)) h

pub at_parts : (day : Day) (J : History) (a i : ℕ) → goes_at day J a i ≡ true → (i < item_count day) × (goes_on day J a (item_of day i) ≡ true)
at_parts day J a i h = let p = and_parts (nat_lt i (item_count day)) (goes_on day J a (item_of day i)) h in (ltb-true i (item_count day) p.0, p.1)

pub at_from : (day : Day) (J : History) (a i : ℕ) → i < item_count day → goes_on day J a (item_of day i) ≡ true → goes_at day J a i ≡ true
at_from day J a i low h = and_from _ _ (lt-ltb i (item_count day) low) h

-- numbers of one item
pub same_number : (day : Day) (i j : ℕ) → i < item_count day → j < item_count day → item_of day i ≡ item_of day j → i ≡ j
same_number day i j low high e = sym (number-back day i low) ∙ ((λ t. item_number day (e t).msg (e t).entry) ∙ number-back day j high)

-- ---- only one is free, where it stands before others

abbrev pub rank_of : Day → Item → ℕ
rank_of day x = priority_as (sort_of day x.msg) day x.msg

ahead_le : (s t : Standing) → is_ahead s t ≡ true → s.priority ≤ t.priority
ahead_le s t h = ⊎_elim
    (λ (l : nat_lt s.priority t.priority ≡ true). let k : s.priority < t.priority = ltb-true s.priority t.priority l in omega (arith, k))
    (λ (r : _ ≡ true). let e : s.priority ≡ t.priority = eqb-true s.priority t.priority (and_parts (nat_eq s.priority t.priority) _ r).0 in omega (arith, e))
    (or_cases (nat_lt s.priority t.priority) _ h)

high_or_normal : (b : Bool) → (if b then 1 else 2) ≤ 2
high_or_normal true = omega arith
high_or_normal false = omega arith

rank_small : (s : Sort) (day : Day) (n : ℕ) → priority_as s day n ≤ 2
rank_small Pay day n = high_or_normal (is_high day n)
rank_small _ day n = omega arith

not_normal_low : (p : ℕ) → is_normal p ≡ false → p ≤ 2 → p < 2
not_normal_low zero h l = omega arith
not_normal_low (suc zero) h l = omega arith
not_normal_low (suc (suc zero)) h l = cc
not_normal_low (suc (suc (suc p))) h l = absurd (omega (arith, l))

low_not_normal : (p : ℕ) → p < 2 → is_normal p ≡ false
low_not_normal zero l = refl
low_not_normal (suc zero) l = refl
low_not_normal (suc (suc p)) l = absurd (omega (arith, l))

-- what is free isn't stood before
never_before : (day : Day) (J : History) (a : ℕ) (x y : Item) → IsFree day J a x → IsFree day J a y → is_normal (rank_of day x) ≡ false → is_ahead (standing day J x) (standing day J y) ≡ true → ⊥
never_before day J a x y f g low ahead =
    let law = blocker_is_the_foremost day J y a in
    let blocks : is_blocker day J y a x ≡ true = and_from _ _ (and_from _ _ f.pending f.on) (and_from _ _ (not_from_false (is_normal (rank_of day x)) low) ahead) in
    never (is_blocked day J y a) (sym law.2 ∙ law.1 x blocks) g.free

pub one_free : (day : Day) (J : History) (a : ℕ) (x y : Item) → IsFree day J a x → IsFree day J a y → is_normal (rank_of day x) ≡ false → x ≡ y
one_free day J a x y f g low = ⊎_elim
    (λ (behind : is_ahead (standing day J y) (standing day J x) ≡ true).
    let le : rank_of day y ≤ rank_of day x = ahead_le (standing day J y) (standing day J x) behind in
    let less : rank_of day x < 2 = not_normal_low (rank_of day x) low (rank_small (sort_of day x.msg) day x.msg) in
    absurd (never_before day J a y x g f (low_not_normal (rank_of day y) (omega (arith, le, less))) behind))
    (λ (same : ((standing day J x).priority ≡ (standing day J y).priority) × (((standing day J x).active ≡ (standing day J y).active) × (((standing day J x).intake ≡ (standing day J y).intake) × ((standing day J x).entry ≡ (standing day J y).entry)))).
    places_differ day J x y f.pending g.pending same.1.0 same.1.1.0 same.1.1.1)
    (ahead_other (standing day J x) (standing day J y) (never_before day J a x y f g low))

b_first : (s : Sort) (day : Day) (n : ℕ) → is_b s ≡ true → is_normal (priority_as s day n) ≡ false
b_first BatchB day n h = refl
b_first _ day n h = cc

pub b_is_first : (day : Day) (x : Item) → is_b (sort_of day x.msg) ≡ true → is_normal (rank_of day x) ≡ false
b_is_first day x h = b_first (sort_of day x.msg) day x.msg h

-- the same by number
pub one_goes : (day : Day) (J : History) (a i j : ℕ) → goes_at day J a i ≡ true → goes_at day J a j ≡ true → is_normal (rank_of day (item_of day i)) ≡ false → i ≡ j
one_goes day J a i j g h low =
    let p = at_parts day J a i g in
    let q = at_parts day J a j h in
    same_number day i j p.0 q.0 (one_free day J a (item_of day i) (item_of day j) (goes_parts day J a (item_of day i) p.1).0 (goes_parts day J a (item_of day j) q.1).0 low)

-- ---- rounds

pub comes_by_itself : (p x : ℕ) → comes_by p x x ≡ true
comes_by_itself p x = comes_by-from p x x (⊎_elim (λ (l : p ≤ x). inl (l, omega arith)) (λ (l : x < p). inr (l, inr (omega arith))) (low_or_not p x))
  where
    low_or_not : (a b : ℕ) → (a ≤ b) ⊎ (b < a)
    low_or_not a b = ⊎_elim (λ (l : b < a). inr l) (λ (l : a ≤ b). inl l) (cases_lt b a)

pub same_bool : (b c : Bool) → (b ≡ true → c ≡ true) → (c ≡ true → b ≡ true) → b ≡ c
same_bool true c f g = sym (f refl)
same_bool false true f g = g refl
same_bool false false f g = refl

pub same_round : (f g : ℕ → Bool) (p : ℕ) (o : Option ℕ) → ((x : ℕ) → f x ≡ g x) → IsFirstRound f p o → IsFirstRound g p o
same_round f g p None e h = λ x. sym (e x) ∙ h x
same_round f g p (Some y) e h = (sym (e y) ∙ h.0, λ x k. h.1 x (e x ∙ k))

-- of what goes, by what fits in what is there beyond what is kept
pub going_round : (day : Day) (J : History) (a money p : ℕ) (o : Option ℕ) → kept day a false ≤ money → IsFirstRound (fits_normal day J a (money - kept day a false)) p o → IsFirstRound (goes_normal day J a money) p o
going_round day J a money p o there h =
    same_round (fits_normal day J a (money - kept day a false)) (goes_normal day J a money) p o
    (λ i. same_bool (fits_normal day J a (money - kept day a false) i) (goes_normal day J a money i) (fitting_goes day J a money there i) (going_fits day J a money there i)) h

-- ---- with a head

module _ (day : Day) (J : History) (a p money : ℕ) (cash : money ≡ balance day J a) where
  module _ (head : Item) (of : IsHeadOf day J a head) where
    head_free : IsFree day J a head
    head_free = record { pending = of.pending; on = of.on; free = of.free }

    is_head : (x : ℕ) → goes_at day J a x ≡ true → head ≡ item_of day x
    is_head x h = one_free day J a head (item_of day x) head_free (goes_parts day J a (item_of day x) (at_parts day J a x h).1).0 of.before_others

    head_item : IsItem day head.msg head.entry
    head_item = let i = pending_item day J head of.pending in record { first = i.first; last = i.last; entry = i.within }

    pub head_first : (o : Option ℕ) → IsHeadCandidate day a head money o → IsFirstRound (goes_at day J a) p o
    head_first None h = λ x. false_from_ne_true (goes_at day J a x) (λ g.
        let parts = goes_parts day J a (item_of day x) (at_parts day J a x g).1 in
        never (nat_le (asks day head a) money) ((λ t. nat_le (asks day (is_head x g t) a) (cash t)) ∙ parts.1) (h head_item))
    head_first (Some y) h = (
      at_from day J a y h.0 (subst (λ (x : Item). goes_on day J a x ≡ true) (sym h.1) (goes_from day J a head head_free (ap (nat_le (asks day head a)) (sym cash) ∙ h.2))),
      λ x g. subst (λ z. comes_by p x z ≡ true) (same_number day x y (at_parts day J a x g).0 h.0 (sym (is_head x g) ∙ sym h.1)) (comes_by_itself p x),
    )

  -- ---- without one

  module _ (none : IsHeadOn day J a None) where
    normal_rank : (s : Sort) (n : ℕ) → is_normal (priority_as s day n) ≡ true → (is_pay s && not (is_high day n)) ≡ true
    normal_rank Pay n h = here (is_high day n) h
      where
        here : (b : Bool) → is_normal (if b then 1 else 2) ≡ true → (true && not b) ≡ true
        here true h = cc
        here false h = refl
    normal_rank _ n h = cc

    pay_zero : (s : Sort) (n k : ℕ) (q : Phase) → is_pay s ≡ true → pending_as s day J n k q ≡ true → is_zero k ≡ true
    pay_zero Pay n k q e h = (and_parts (is_zero k) (is_open q) h).0
    pay_zero _ n k q e h = cc

    pending_zero : (x : Item) → is_pay (sort_of day x.msg) ≡ true → is_pending day J x ≡ true → is_zero x.entry ≡ true
    unfolding is_pending
    pending_zero x e h = pay_zero (sort_of day x.msg) x.msg x.entry (phase day J x.msg) e h

    free_here : (x : Item) → is_blocked day J x a ≡ false
    free_here x = not_blocked day J x a (λ y b.
        let r = and_parts (is_pending day J y && stands_on day a y) _ b in
        let q = and_parts (is_pending day J y) (stands_on day a y) r.0 in
        let n = and_parts (not (is_normal (rank_of day y))) _ r.1 in
        never (is_normal (rank_of day y)) (none y q.0 q.1) (not-true (is_normal (rank_of day y)) n.0))

    to_goes : (x : ℕ) → goes_at day J a x ≡ true → goes_normal day J a money x ≡ true
    to_goes x g =
        let low = and_parts (nat_lt x (item_count day)) _ g in
        let parts = goes_parts day J a (item_of day x) low.1 in
        let f = parts.0 in
        let normal : is_normal_pay day (item_of day x).msg ≡ true = normal_rank (sort_of day (item_of day x).msg) (item_of day x).msg (none (item_of day x) f.pending f.on) in
        let zero_entry = pending_zero (item_of day x) (and_parts (is_pay (sort_of day (item_of day x).msg)) _ normal).0 f.pending in
        and_from _ _ low.0 (and_from _ _ (and_from _ _ zero_entry normal) (and_from _ _ f.pending (and_from _ _ f.on (ap (nat_le (asks day (item_of day x) a)) cash ∙ parts.1))))

    from_goes : (x : ℕ) → goes_normal day J a money x ≡ true → goes_at day J a x ≡ true
    from_goes x h =
        let low = and_parts (nat_lt x (item_count day)) _ h in
        let q = and_parts (is_normal_item day (item_of day x)) _ low.1 in
        let r = and_parts (is_pending day J (item_of day x)) _ q.1 in
        let s = and_parts (stands_on day a (item_of day x)) _ r.1 in
        and_from _ _ low.0 (goes_from day J a (item_of day x) (record { pending = r.0; on = s.0; free = free_here (item_of day x) }) (ap (nat_le (asks day (item_of day x) a)) (sym cash) ∙ s.1))

    pub normal_first : (o : Option ℕ) → IsFirstRound (goes_normal day J a money) p o → IsFirstRound (goes_at day J a) p o
    normal_first o h = same_round (goes_normal day J a money) (goes_at day J a) p o (λ x. same_bool _ _ (from_goes x) (to_goes x)) h
