-- Normal payments by their accounts.
use Rattle.std.proofs.Common.{◌≡◌, ◌∙◌, ℕ, zero, suc, ◌+◌, ◌-◌, ◌<◌, ◌≤◌, Bool, true, false, not, ◌&&◌, ◌||◌, List, [], Option, Some, None, length, refl, sym, ap, subst, arith, ⊎_elim, if◌then◌else◌, get_or-set_same, get_or-set_other}
use Rattle.std.specs.Prelude.{nat_eq, nat_le, nat_lt, option_map, slice_index, slice_set, unwrap_or}
use Rattle.std.specs.List.{list_any}
use Rattle.std.specs.Option.{option_map_or}
use Rattle.std.proofs.lemmas.Bool.{and_from, and_parts, cases_eq, cases_lt, cond-false, cond-true, eq-eqb, eqb-true, false_from_ne_true, false≢true, le-leb, leb-true, lt-ltb, ltb-true, not-true, or_left}
use Rattle.std.proofs.lemmas.List.{length-set, set_past}
use Rattle.batch_records.specs.DayRecord.{Day}
use Rattle.batch_records.specs.declared.day.Entry.{Entry}
use Rattle.commit_journal.specs.Line.{History}
use Rattle.machine.specs.declared.answers.Item.{Item}
use Rattle.machine.specs.Words.{is_zero}
use Rattle.machine.specs.Records.Messages.{Sort, Pay, debit_account, is_b, is_high, is_pay, part, sort_of}
use Rattle.machine.specs.Records.Reserves.{kept, must_leave, must_leave_as}
use Rattle.machine.specs.Stages.Pending.{debit_account_of_part, is_pending, item, stands_on}
use Rattle.settlement_laws.proofs.Base.Lists.{never}
use Rattle.number_set.specs.Next.{IsNext}
use Rattle.least_tree.specs.Amounts.{amount_at, fits, fits_at}
use Rattle.scan_laws.specs.Numbers.{IsItem, item_count, item_number, item_of}
use Rattle.scan_laws.proofs.NumberFacts.{item-is, item-there, number-back, number-within}
use Rattle.scan_laws.proofs.Waiting.{accounts_by_part}
use Rattle.amount_forest.specs.Lists.{list_at, numbers_at}
use Rattle.pending_items.proofs.PartFacts.{band_small}
use Rattle.ready_items.specs.Goes.{asks, takes}
use Rattle.ready_items.specs.Normals.{HavePayments, IsAmount, IsFirstFit, IsNumberOf, IsPayment, Normals, amount_of, fits_normal, goes_normal, is_normal_item, is_normal_pay, payer, pending_amount, place_of, put_in}
use Rattle.ready_items.specs.Noting.{PutsNormal}
use Rattle.ready_items.proofs.RisingFacts.{one_place}

-- ---- items

zero_is : (k : ℕ) → is_zero k ≡ true → k ≡ 0
zero_is zero h = refl
zero_is (suc k) h = never false h refl

same_item : (x : Item) → x.entry ≡ 0 → x ≡ item x.msg 0
same_item x e = λ i. record { msg = x.msg; entry = e i }

pay_no_batch : (s : Sort) → is_pay s ≡ true → is_b s ≡ false
pay_no_batch Pay h = refl
pay_no_batch _ h = cc

pub normal_no_batch : (day : Day) (n : ℕ) → is_normal_pay day n ≡ true → is_b (sort_of day n) ≡ false
normal_no_batch day n h = pay_no_batch (sort_of day n) (and_parts (is_pay (sort_of day n)) _ h).0

pub item_zero : (day : Day) (n : ℕ) → 1 ≤ n → n ≤ length day.messages → IsItem day n 0
item_zero day n low high = record { first = low; last = high; entry = omega arith }

pub one_number : (day : Day) (n m : ℕ) → IsItem day n 0 → IsItem day m 0 → item_number day n 0 ≡ item_number day m 0 → n ≡ m
one_number day n m i j e = ap (λ (x : Item). x.msg) (sym (item-there day n 0 i) ∙ (ap (item_of day) e ∙ item-there day m 0 j))

its_part : (day : Day) (a : ℕ) (o : Option Entry) → list_any (λ b. nat_eq b a) (debit_account_of_part day o) ≡ true → (e : Entry) × (o ≡ Some e) × (debit_account day e ≡ a)
its_part day a None h = cc
its_part day a (Some e) h = (e, refl, here (nat_eq (debit_account day e) a) refl h)
  where
    here : (b : Bool) → nat_eq (debit_account day e) a ≡ b → (b || false) ≡ true → debit_account day e ≡ a
    here true q h = eqb-true (debit_account day e) a q
    here false q h = cc

-- where it stands, of an item of no batch of B
pub part_on : (day : Day) (a n k : ℕ) → is_b (sort_of day n) ≡ false → stands_on day a (item n k) ≡ true → (e : Entry) × (part day n k ≡ Some e) × (debit_account day e ≡ a)
part_on day a n k b h = its_part day a (part day n k) (subst (λ xs. list_any (λ c. nat_eq c a) xs ≡ true) (accounts_by_part (sort_of day n) day n k b) h)

pub on_part : (day : Day) (n k : ℕ) (e : Entry) → is_b (sort_of day n) ≡ false → part day n k ≡ Some e → stands_on day (debit_account day e) (item n k) ≡ true
on_part day n k e b p =
    ap (list_any (λ c. nat_eq c (debit_account day e))) (accounts_by_part (sort_of day n) day n k b ∙ ap (debit_account_of_part day) p)
    ∙ or_left (nat_eq (debit_account day e) (debit_account day e)) false (eq-eqb (debit_account day e) (debit_account day e) refl)

pub takes_part : (day : Day) (n k a : ℕ) (e : Entry) → is_b (sort_of day n) ≡ false → part day n k ≡ Some e → takes day (item n k) a ≡ e.amount
takes_part day n k a e b p = cond-false (is_b (sort_of day n)) _ _ b ∙ ap (λ o. option_map_or (λ (x : Entry). x.amount) o 0) p

-- a normal payment must leave all that is kept
leaves_as : (s : Sort) (day : Day) (n a : ℕ) → is_pay s ≡ true → is_high day n ≡ false → must_leave_as s day n a ≡ kept day a false
leaves_as Pay day n a p h = ap (kept day a) h
leaves_as _ day n a p h = cc

normal_leaves : (day : Day) (n a : ℕ) → is_normal_pay day n ≡ true → must_leave day n a ≡ kept day a false
normal_leaves day n a h =
    let p = and_parts (is_pay (sort_of day n)) (not (is_high day n)) h in
    leaves_as (sort_of day n) day n a p.0 (not-true (is_high day n) p.1)

-- ---- what fits

pub record IsFitting (day : Day) (J : History) (a most i : ℕ) : Type 0 where
  pub message : ℕ
  pub amount : ℕ
  pub of : IsNumberOf day (length day.messages) a i message
  pub pending : pending_amount day J message ≡ Some amount
  pub small : amount ≤ most

module _ (day : Day) (J : History) (a most i : ℕ) where
  pub fitting : fits_normal day J a most i ≡ true → IsFitting day J a most i
  fitting h =
      let x : Item = item_of day i in
      let p = and_parts (nat_lt i (item_count day)) _ h in
      let q = and_parts (is_normal_item day x) _ p.1 in
      let r = and_parts (is_zero x.entry) (is_normal_pay day x.msg) q.0 in
      let s = and_parts (is_pending day J x) _ q.1 in
      let t = and_parts (stands_on day a x) (nat_le (takes day x a) most) s.1 in
      let low : i < item_count day = ltb-true i (item_count day) p.0 in
      here x.msg (same_item x (zero_is x.entry r.0)) (item-is day i low) (number-back day i low) r.1 s.0 t.0 t.1
    where
      here : (n : ℕ) → item_of day i ≡ item n 0 → IsItem day (item_of day i).msg (item_of day i).entry → item_number day (item_of day i).msg (item_of day i).entry ≡ i → is_normal_pay day n ≡ true → is_pending day J (item_of day i) ≡ true →
          stands_on day a (item_of day i) ≡ true → nat_le (takes day (item_of day i) a) most ≡ true → IsFitting day J a most i
      here n e is back normal pending on small =
          let b : is_b (sort_of day n) ≡ false = normal_no_batch day n normal in
          let at = part_on day a n 0 b (subst (λ x. stands_on day a x ≡ true) e on) in
          let number : item_number day n 0 ≡ i = (λ t. item_number day (sym e t).msg (sym e t).entry) ∙ back in
          let there : IsItem day n 0 = subst (λ (x : Item). IsItem day x.msg x.entry) e is in
          let taken : takes day (item n 0) a ≡ at.0.amount = takes_part day n 0 a at.0 b at.1 in
          record {
            message = n;
            amount = at.0.amount;
            of = record {
              payment = record { first = there.first; last = there.last; normal = normal };
              account = ap (λ o. unwrap_or (option_map (debit_account day) o) 0) at.1 ∙ at.2;
              number = sym number;
            };
            pending = cond-true (is_pending day J (item n 0)) _ _ (subst (λ x. is_pending day J x ≡ true) e pending) ∙ ap (option_map (λ (x : Entry). x.amount)) at.1;
            small = leb-true at.0.amount most (sym (λ t. nat_le (taken t) most) ∙ subst (λ x. nat_le (takes day x a) most ≡ true) e small);
          }

amount_there : (day : Day) (J : History) (n m : ℕ) → pending_amount day J n ≡ Some m → (is_pending day J (item n 0) ≡ true) × ((e : Entry) × (part day n 0 ≡ Some e) × (e.amount ≡ m))
amount_there day J n m h = here (is_pending day J (item n 0)) (part day n 0) refl refl h
  where
    here : (b : Bool) (o : Option Entry) → is_pending day J (item n 0) ≡ b → part day n 0 ≡ o → (if b then option_map (λ (x : Entry). x.amount) o else None) ≡ Some m → (is_pending day J (item n 0) ≡ true) × ((e : Entry) × (part day n 0 ≡ Some e) × (e.amount ≡ m))
    here true (Some e) p q h = (p, (e, q, cc))
    here true None p q h = cc
    here false o p q h = cc

-- a payment that is pending, of at most this much, fits on the account that it debits
pub fits_back : (day : Day) (J : History) (n m most : ℕ) → 1 ≤ n → n ≤ length day.messages → is_normal_pay day n ≡ true → pending_amount day J n ≡ Some m → m ≤ most → fits_normal day J (payer day n) most (item_number day n 0) ≡ true
fits_back day J n m most low high normal amount small =
    let is : IsItem day n 0 = item_zero day n low high in
    let b : is_b (sort_of day n) ≡ false = normal_no_batch day n normal in
    let at = amount_there day J n m amount in
    let e : Entry = at.1.0 in
    let p : part day n 0 ≡ Some e = at.1.1 in
    let account : debit_account day e ≡ payer day n = sym (ap (λ o. unwrap_or (option_map (debit_account day) o) 0) p) in
    let on : stands_on day (payer day n) (item n 0) ≡ true = subst (λ c. stands_on day c (item n 0) ≡ true) account (on_part day n 0 e b p) in
    let le : nat_le (takes day (item n 0) (payer day n)) most ≡ true = ap (λ c. nat_le c most) (takes_part day n 0 (payer day n) e b p ∙ at.1.2) ∙ le-leb m most small in
    and_from _ _ (lt-ltb _ _ (number-within day n 0 is))
    (subst (λ x. (is_normal_item day x && (is_pending day J x && (stands_on day (payer day n) x && nat_le (takes day x (payer day n)) most))) ≡ true) (sym (item-there day n 0 is))
    (and_from _ _ (and_from (is_zero 0) _ refl normal) (and_from _ _ at.0 (and_from _ _ on le))))

-- ---- what goes is what fits in what is there beyond what is kept

module _ (day : Day) (J : History) (a money : ℕ) where
  going : (i : ℕ) → goes_normal day J a money i ≡ true → (takes day (item_of day i) a + kept day a false ≤ money) × ((most : ℕ) → takes day (item_of day i) a ≤ most → fits_normal day J a most i ≡ true)
  going i h =
      let x : Item = item_of day i in
      let p = and_parts (nat_lt i (item_count day)) _ h in
      let q = and_parts (is_normal_item day x) _ p.1 in
      let r = and_parts (is_zero x.entry) (is_normal_pay day x.msg) q.0 in
      let s = and_parts (is_pending day J x) _ q.1 in
      let t = and_parts (stands_on day a x) (nat_le (asks day x a) money) s.1 in
      let left : must_leave day x.msg a ≡ kept day a false = normal_leaves day x.msg a r.1 in
      let enough : takes day x a + must_leave day x.msg a ≤ money = leb-true (asks day x a) money t.1 in
      (omega (arith, left, enough), λ most l. and_from _ _ p.0 (and_from _ _ q.0 (and_from _ _ s.0 (and_from _ _ t.0 (le-leb (takes day x a) most l)))))

  -- with less than what is kept none goes
  pub none_goes : money < kept day a false → (i : ℕ) → goes_normal day J a money i ≡ false
  none_goes less i = false_from_ne_true (goes_normal day J a money i) (λ h. let enough = (going i h).0 in omega (arith, less, enough))

  pub going_fits : kept day a false ≤ money → (i : ℕ) → goes_normal day J a money i ≡ true → fits_normal day J a (money - kept day a false) i ≡ true
  going_fits there i h = let g = going i h in let enough = g.0 in g.1 (money - kept day a false) (omega (arith, there, enough))

  pub fitting_goes : kept day a false ≤ money → (i : ℕ) → fits_normal day J a (money - kept day a false) i ≡ true → goes_normal day J a money i ≡ true
  fitting_goes there i h =
      let x : Item = item_of day i in
      let p = and_parts (nat_lt i (item_count day)) _ h in
      let q = and_parts (is_normal_item day x) _ p.1 in
      let r = and_parts (is_zero x.entry) (is_normal_pay day x.msg) q.0 in
      let s = and_parts (is_pending day J x) _ q.1 in
      let t = and_parts (stands_on day a x) (nat_le (takes day x a) (money - kept day a false)) s.1 in
      let left : must_leave day x.msg a ≡ kept day a false = normal_leaves day x.msg a r.1 in
      let small : takes day x a ≤ money - kept day a false = leb-true (takes day x a) (money - kept day a false) t.1 in
      and_from _ _ p.0 (and_from _ _ q.0 (and_from _ _ s.0 (and_from _ _ t.0 (le-leb (asks day x a) money (omega (arith, there, left, small))))))

-- ---- the first one

fits_amount : (o : Option ℕ) (m most : ℕ) → o ≡ Some m → m ≤ most → fits most o ≡ true
fits_amount o m most e l = ap (fits most) e ∙ le-leb m most l

amount_fits : (o : Option ℕ) (most : ℕ) → fits most o ≡ true → (m : ℕ) × (o ≡ Some m) × (m ≤ most)
amount_fits None most h = absurd (false≢true h)
amount_fits (Some m) most h = (m, refl, leb-true m most h)

-- one payment stands at one place
one_spot : (day : Day) (count : ℕ) (v : Normals) → HavePayments day count v → (n q : ℕ) → IsPayment day count n → q < length (numbers_at v.numbers (payer day n)) → slice_index (numbers_at v.numbers (payer day n)) q ≡ item_number day n 0 → place_of v n ≡ q
one_spot day count v have n q is within number =
    let at = have.placed n is in
    one_place (numbers_at v.numbers (payer day n)) (have.rise (payer day n)) (place_of v n) q at.within within (at.number ∙ sym number)

module _ (day : Day) (J : History) (v : Normals) (a from most : ℕ) (have : HavePayments day (length day.messages) v) (right : (n : ℕ) → 1 ≤ n → n ≤ length day.messages → is_normal_pay day n ≡ true → IsAmount day J v n) where
  abbrev ns : List ℕ
  ns = numbers_at v.numbers a

  abbrev am : List (Option ℕ)
  am = list_at v.lists a

  -- what fits stands in the list of the account
  at_number : (i : ℕ) → fits_normal day J a most i ≡ true → (q : ℕ) × (q < length ns) × (slice_index ns q ≡ i) × (fits_at am most q ≡ true)
  at_number i h =
      let f = fitting day J a most i h in
      let p = f.of.payment in
      let at = have.placed f.message p in
      let q : ℕ = place_of v f.message in (
        q,
        subst (λ (b : ℕ). q < length (numbers_at v.numbers b)) f.of.account at.within,
        (ap (λ (b : ℕ). slice_index (numbers_at v.numbers b) q) (sym f.of.account) ∙ (at.number ∙ sym f.of.number)),
        fits_amount _ f.amount most (ap (λ (b : ℕ). amount_at (list_at v.lists b) q) (sym f.of.account) ∙ (right f.message p.first p.last p.normal ∙ f.pending)) f.small,
      )

  none_here : (limit : ℕ) → ((q : ℕ) → q < length ns → from ≤ slice_index ns q → slice_index ns q < limit → fits_at am most q ≡ false) → (i : ℕ) → from ≤ i → i < limit → fits_normal day J a most i ≡ false
  none_here limit none i low less = false_from_ne_true (fits_normal day J a most i) (λ h.
      let at = at_number i h in
      let is = at.2 in
      never (fits_at am most at.0) at.3 (none at.0 at.1 (omega (arith, is, low)) (omega (arith, is, less))))

  pub find_none : IsFirstFit ns am from most None → IsNext (fits_normal day J a most) from None
  find_none none i low = none_here (i + 1) (λ q w l _. none q w l) i low (omega arith)

  pub find_some : (k : ℕ) → IsFirstFit ns am from most (Some k) → IsNext (fits_normal day J a most) from (Some k)
  find_some k fit = record {
    at_least = fit.low;
    passes = subst (λ (c : ℕ). fits_normal day J c most k ≡ true) own.1.account (subst (λ (i : ℕ). fits_normal day J (payer day n) most i ≡ true) number (fits_back day J n there.0 most p.first p.last p.normal amount there.2));
    none_before = λ i low less. none_here k fit.none_before i low less;
  }
    where
      own : (n : ℕ) × IsNumberOf day (length day.messages) a (slice_index ns fit.place) n
      own = have.sound a fit.place fit.inside

      n : ℕ
      n = own.0

      p : IsPayment day (length day.messages) n
      p = own.1.payment

      number : item_number day n 0 ≡ k
      number = sym own.1.number ∙ fit.is

      same : place_of v n ≡ fit.place
      same = one_spot day (length day.messages) v have n fit.place p (subst (λ (b : ℕ). fit.place < length (numbers_at v.numbers b)) (sym own.1.account) fit.inside) (ap (λ (b : ℕ). slice_index (numbers_at v.numbers b) fit.place) own.1.account ∙ own.1.number)

      there : (m : ℕ) × (amount_at am fit.place ≡ Some m) × (m ≤ most)
      there = amount_fits (amount_at am fit.place) most fit.fits

      amount : pending_amount day J n ≡ Some there.0
      amount = sym (right n p.first p.last p.normal) ∙ (ap (λ (b : ℕ). amount_at (list_at v.lists b) (place_of v n)) own.1.account ∙ (ap (amount_at am) same ∙ there.1))

pub find_any : (day : Day) (J : History) (v : Normals) (a from most : ℕ) → HavePayments day (length day.messages) v → ((n : ℕ) → 1 ≤ n → n ≤ length day.messages → is_normal_pay day n ≡ true → IsAmount day J v n) → (o : Option ℕ) → IsFirstFit (numbers_at v.numbers a) (list_at v.lists a) from most o → IsNext (fits_normal day J a most) from o
find_any day J v a from most have right None fit = find_none day J v a from most have right fit
find_any day J v a from most have right (Some k) fit = find_some day J v a from most have right k fit

-- ---- a payment's amount

list_here : (lists : List (List (Option ℕ))) (a : ℕ) (xs : List (Option ℕ)) → a < length lists → list_at (slice_set lists a xs) a ≡ xs
list_here lists a xs w = get_or-set_same lists a xs [] w

list_other : (lists : List (List (Option ℕ))) (a b : ℕ) (xs : List (Option ℕ)) → (b ≡ a → ⊥) → list_at (slice_set lists a xs) b ≡ list_at lists b
list_other lists a b xs ne = get_or-set_other lists a b xs [] ne

-- the account of a payment is one of the day, or 0
pub payer_small : (day : Day) (n : ℕ) → payer day n < length day.accounts + 1
payer_small day n = let h = band_small day (item n 0) in omega (arith, h)

put_have : (day : Day) (count a q : ℕ) (amount : Option ℕ) (v : Normals) → HavePayments day count v → HavePayments day count (put_in a q amount v)
put_have day count a q amount v have = record {
  lists = subst (λ k. length day.accounts + 1 ≤ k) (sym len) have.lists;
  both = have.both ∙ sym len;
  sizes = λ b. size b ∙ have.sizes b;
  came = have.came;
  rise = have.rise;
  sound = have.sound;
  placed = λ n is. record { within = (have.placed n is).within; number = (have.placed n is).number };
}
  where
    new : List (Option ℕ)
    new = slice_set (list_at v.lists a) q amount

    len : length (slice_set v.lists a new) ≡ length v.lists
    len = length-set v.lists a new

    size : (b : ℕ) → length (list_at (slice_set v.lists a new) b) ≡ length (list_at v.lists b)
    size b = ⊎_elim
        (λ (e : b ≡ a). ⊎_elim
        (λ (w : a < length v.lists). ap (λ (c : ℕ). length (list_at (slice_set v.lists a new) c)) e ∙ (ap length (list_here v.lists a new w) ∙ (length-set (list_at v.lists a) q amount ∙ ap (λ (c : ℕ). length (list_at v.lists c)) (sym e))))
        (λ (past : length v.lists ≤ a). ap (λ (ls : List (List (Option ℕ))). length (list_at ls b)) (set_past v.lists a new past))
        (cases_lt a (length v.lists)))
        (λ (ne : b ≡ a → ⊥). ap length (list_other v.lists a b new ne))
        (cases_eq b a)

module _ (day : Day) (K : History) (i : ℕ) (old : Normals) (inside : i < item_count day) (have : HavePayments day (length day.messages) old) where
  pub puts_none : (x : Item) → x ≡ item_of day i → ((x.entry ≡ 0) → is_normal_pay day x.msg ≡ false) → PutsNormal day K i old old
  puts_none x e none = record {
    have = have;
    right = λ n low high is normal. never (is_normal_pay day n) normal
        (let same : x ≡ item n 0 = e ∙ is in
        ap (is_normal_pay day) (ap (λ (y : Item). y.msg) (sym same)) ∙ none (ap (λ (y : Item). y.entry) same));
    keeps = λ n low high normal right. right;
  }

  puts_own : (n : ℕ) (amount : Option ℕ) → IsPayment day (length day.messages) n → item_number day n 0 ≡ i → amount ≡ pending_amount day K n → PutsNormal day K i old (put_in (payer day n) (place_of old n) amount old)
  puts_own n amount is number amount_is = record {
    have = put_have day (length day.messages) a q amount old have;
    right = λ m low high at normal. at_own m (ap (λ (y : Item). y.msg) (sym at ∙ (ap (item_of day) (sym number) ∙ item-there day n 0 there)));
    keeps = λ m low high normal right. ⊎_elim
        (λ (e : m ≡ n). at_own m e)
        (λ (ne : m ≡ n → ⊥). other m (record { first = low; last = high; normal = normal }) ne ∙ right)
        (cases_eq m n);
  }
    where
      a : ℕ
      a = payer day n

      q : ℕ
      q = place_of old n

      new : List (Option ℕ)
      new = slice_set (list_at old.lists a) q amount

      there : IsItem day n 0
      there = item_zero day n is.first is.last

      inner : a < length old.lists
      inner = let low = payer_small day n in let size = have.lists in omega (arith, low, size)

      within : q < length (list_at old.lists a)
      within = let w = (have.placed n is).within in let size = have.sizes a in omega (arith, w, size)

      at_own : (m : ℕ) → m ≡ n → amount_of day (put_in a q amount old) m ≡ pending_amount day K m
      at_own m e = ap (amount_of day (put_in a q amount old)) e ∙ (ap (λ (xs : List (Option ℕ)). amount_at xs q) (list_here old.lists a new inner) ∙ (get_or-set_same (list_at old.lists a) q amount None within ∙ (amount_is ∙ ap (pending_amount day K) (sym e))))

      other : (m : ℕ) → IsPayment day (length day.messages) m → (m ≡ n → ⊥) → amount_of day (put_in a q amount old) m ≡ amount_of day old m
      other m im ne = ⊎_elim
          (λ (e : payer day m ≡ a).
          let apart : place_of old m ≡ q → ⊥ = λ s. ne (one_number day m n (item_zero day m im.first im.last) there
          (sym (have.placed m im).number ∙ (ap (λ (b : ℕ). slice_index (numbers_at old.numbers b) (place_of old m)) e ∙ (ap (slice_index (numbers_at old.numbers a)) s ∙ (have.placed n is).number)))) in
          ap (λ (b : ℕ). amount_at (list_at (slice_set old.lists a new) b) (place_of old m)) e
          ∙ (ap (λ (xs : List (Option ℕ)). amount_at xs (place_of old m)) (list_here old.lists a new inner)
          ∙ (get_or-set_other (list_at old.lists a) q (place_of old m) amount None apart
          ∙ ap (λ (b : ℕ). amount_at (list_at old.lists b) (place_of old m)) (sym e))))
          (λ (d : payer day m ≡ a → ⊥). ap (λ (xs : List (Option ℕ)). amount_at xs (place_of old m)) (list_other old.lists a (payer day m) new d))
          (cases_eq (payer day m) a)

  pub puts_it : (x : Item) → x ≡ item_of day i → x.entry ≡ 0 → is_normal_pay day x.msg ≡ true → (a : ℕ) (amount : Option ℕ) (new : Normals) → a ≡ payer day x.msg → amount ≡ pending_amount day K x.msg → (a < length old.lists → place_of old x.msg < length (list_at old.lists a) → new ≡ put_in a (place_of old x.msg) amount old) → PutsNormal day K i old new
  puts_it x e zero_entry normal a amount new a_is amount_is puts =
      subst (PutsNormal day K i old) (sym (puts low within ∙ ap (λ (b : ℕ). put_in b (place_of old x.msg) amount old) a_is)) (puts_own x.msg amount is number amount_is)
    where
      is_x : x ≡ item x.msg 0
      is_x = same_item x zero_entry

      there : IsItem day x.msg 0
      there = subst (λ (y : Item). IsItem day y.msg y.entry) (sym e ∙ is_x) (item-is day i inside)

      number : item_number day x.msg 0 ≡ i
      number = (λ t. item_number day (sym is_x t).msg (sym is_x t).entry) ∙ ((λ t. item_number day (e t).msg (e t).entry) ∙ number-back day i inside)

      is : IsPayment day (length day.messages) x.msg
      is = record { first = there.first; last = there.last; normal = normal }

      low : a < length old.lists
      low = let small = payer_small day x.msg in let size = have.lists in omega (arith, a_is, small, size)

      within : place_of old x.msg < length (list_at old.lists a)
      within = subst (λ (b : ℕ). place_of old x.msg < length (list_at old.lists b)) (sym a_is) (let w = (have.placed x.msg is).within in let size = have.sizes (payer day x.msg) in omega (arith, w, size))
