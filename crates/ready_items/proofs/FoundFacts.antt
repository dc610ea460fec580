-- Another candidate of an account, and the members after it.
use Rattle.std.proofs.Common.{◌≡◌, ◌∙◌, ℕ, ◌<◌, Bool, ◌&&◌, cond, map, true, false, List, [], ◌∷◌, Option, Some, None, length, refl, sym, ap, subst, arith, ◌⊎◌, inl, inr, ⊎_elim, get_or-set_same, get_or-set_other}
use Rattle.std.specs.Prelude.{filter, nat_eq, slice_set, sum_by}
use Rattle.std.specs.List.{list_all, list_any}
use Rattle.std.proofs.lemmas.Bool.{cases_eq, eq-eqb, eqb-true, false≢true, or_cases}
use Rattle.std.proofs.lemmas.List.{length-set}
use Rattle.batch_records.specs.DayRecord.{Day}
use Rattle.batch_records.specs.declared.day.Entry.{Entry}
use Rattle.machine.specs.declared.answers.Item.{Item}
use Rattle.machine.specs.Words.{some_passes}
use Rattle.machine.specs.Records.Messages.{Sort, BatchB, debit_account, debit_entries, is_b, sort_of}
use Rattle.machine.specs.Making.Lines.{gross}
use Rattle.machine.specs.Stages.Intake.{amount_of}
use Rattle.machine.specs.Stages.Pending.{debit_accounts_as, debtors, stands_on}
use Rattle.settlement_laws.proofs.Base.Lists.{IsIn, all_in, all_of}
use Rattle.number_set.specs.Members.{has}
use Rattle.scan_laws.specs.Numbers.{item_count, item_of}
use Rattle.ready_items.specs.Found.{AreMembers, Found, MayStand, candidate, is_all_of, is_b_at, is_candidate, replaced, with_if, without}
use Rattle.ready_items.proofs.NormalFacts.{part_on}

-- ---- accounts of an item

pub b_accounts : (s : Sort) (day : Day) (n k : ℕ) → is_b s ≡ true → debit_accounts_as s day n k ≡ debtors day n
b_accounts BatchB day n k h = refl
b_accounts _ day n k h = cc

pub any_in : (xs : List ℕ) (a : ℕ) → list_any (λ b. nat_eq b a) xs ≡ true → IsIn a xs
any_in [] a h = absurd (false≢true h)
any_in (x ∷ xs) a h = ⊎_elim (λ (e : nat_eq x a ≡ true). inl (eqb-true x a e)) (λ (r : list_any (λ b. nat_eq b a) xs ≡ true). inr (any_in xs a r)) (or_cases (nat_eq x a) _ h)

-- a batch of B stands on its debtor accounts
pub debtor_in : (day : Day) (a : ℕ) (x : Item) → is_b (sort_of day x.msg) ≡ true → stands_on day a x ≡ true → IsIn a (debtors day x.msg)
debtor_in day a x b on = any_in (debtors day x.msg) a (subst (λ xs. list_any (λ c. nat_eq c a) xs ≡ true) (b_accounts (sort_of day x.msg) day x.msg x.entry b) on)

-- and any other item on one
pub one_account : (day : Day) (a b : ℕ) (x : Item) → is_b (sort_of day x.msg) ≡ false → stands_on day a x ≡ true → stands_on day b x ≡ true → a ≡ b
one_account day a b x e on there =
    let p = part_on day a x.msg x.entry e on in
    let q = part_on day b x.msg x.entry e there in
    let same : p.0 ≡ q.0 = one p.0 q.0 (sym p.1 ∙ q.1) in
    sym p.2 ∙ (two p.0 q.0 same ∙ q.2)
  where
    one : {X : Type 0} (u v : X) → Some u ≡ Some v → u ≡ v
    one u v h = cc

    two : (u v : Entry) → u ≡ v → debit_account day u ≡ debit_account day v
    two u v h = ap (debit_account day) h

-- ---- candidates and members

is_it : (o : Option ℕ) (y : ℕ) → some_passes (nat_eq y) o ≡ true → o ≡ Some y
is_it None y h = absurd (false≢true h)
is_it (Some z) y h = ap Some (sym (eqb-true y z h))

pub candidate_is : (f : Found) (y a : ℕ) → is_candidate f y a ≡ true → candidate f a ≡ Some y
candidate_is f y a h = is_it (candidate f a) y h

pub is_that : (f : Found) (y a : ℕ) → candidate f a ≡ Some y → is_candidate f y a ≡ true
is_that f y a e = ap (some_passes (nat_eq y)) e ∙ eq-eqb y y refl

same_candidates : (b : Bool) (new : Option ℕ) (f : Found) → (with_if b new f).candidates ≡ f.candidates
same_candidates b None f = refl
same_candidates b (Some y) f = refl

length_without : (o : Option ℕ) (members : List Bool) → length (without o members) ≡ length members
length_without None members = refl
length_without (Some y) members = length-set members y false

length_with : (b : Bool) (new : Option ℕ) (f : Found) → length (with_if b new f).members ≡ length f.members
length_with b None f = refl
length_with true (Some y) f = length-set f.members y true
length_with false (Some y) f = refl

stays_without : (o : Option ℕ) (members : List Bool) (y : ℕ) → has members y ≡ true → (o ≡ Some y → ⊥) → has (without o members) y ≡ true
stays_without None members y h other = h
stays_without (Some z) members y h other = get_or-set_other members z y false _ (λ e. other (ap Some (sym e))) ∙ h

stays_with : (b : Bool) (new : Option ℕ) (f : Found) (y : ℕ) → has f.members y ≡ true → y < length f.members → has (with_if b new f).members y ≡ true
stays_with b None f y h w = h
stays_with false (Some z) f y h w = h
stays_with true (Some z) f y h w = ⊎_elim
    (λ (e : y ≡ z). subst (λ j. has (slice_set f.members z true) j ≡ true) (sym e) (get_or-set_same f.members z true _ (subst (λ j. j < length f.members) e w)))
    (λ (ne : y ≡ z → ⊥). get_or-set_other f.members z y true _ ne ∙ h)
    (cases_eq y z)

enters_with : (b : Bool) (y : ℕ) (f : Found) → b ≡ true → y < length f.members → has (with_if b (Some y) f).members y ≡ true
enters_with true y f e w = get_or-set_same f.members y true _ w
enters_with false y f e w = absurd (false≢true e)

module _ (day : Day) (a : ℕ) (new : Option ℕ) (f : Found) (enters : Bool) (are : AreMembers day f) (inside : a < length f.candidates) (may : MayStand day a new)
    (single : (w : ℕ) → new ≡ Some w → is_b_at day w ≡ false → enters ≡ true)
    (whole : (w : ℕ) → new ≡ Some w → is_b_at day w ≡ true → is_all_of day (replaced a new f) (item_of day w).msg w ≡ true → enters ≡ true) where
  abbrev g : Found
  g = replaced a new f

  abbrev h : Found
  h = with_if enters new g

  candidates_of : h.candidates ≡ slice_set f.candidates a new
  candidates_of = same_candidates enters new g

  pub own_candidate : candidate h a ≡ new
  own_candidate = ap (λ cs. candidate (record { candidates = cs; members = h.members; room = h.room }) a) candidates_of ∙ get_or-set_same f.candidates a new _ inside

  pub other_candidate : (b : ℕ) → (b ≡ a → ⊥) → candidate h b ≡ candidate f b
  other_candidate b ne = ap (λ cs. candidate (record { candidates = cs; members = h.members; room = h.room }) b) candidates_of ∙ get_or-set_other f.candidates a b new _ ne

  room_of : length h.members ≡ item_count day
  room_of = length_with enters new g ∙ (length_without (candidate f a) f.members ∙ are.room)

  kept : (y : ℕ) → y < item_count day → has f.members y ≡ true → (candidate f a ≡ Some y → ⊥) → has h.members y ≡ true
  kept y low m other =
      let l = length_without (candidate f a) f.members in
      let r = are.room in
      stays_with enters new g y (stays_without (candidate f a) f.members y m other) (omega (arith, l, r, low))

  entered : (y : ℕ) → y < item_count day → new ≡ Some y → enters ≡ true → has h.members y ≡ true
  entered y low e is =
      let l = length_without (candidate f a) f.members in
      let r = are.room in
      subst (λ o. has (with_if enters o g).members y ≡ true) (sym e) (enters_with enters y g is (omega (arith, l, r, low)))

  -- the same candidates but of a
  all_before : (y : ℕ) → (new ≡ Some y → ⊥) → is_all_of day h (item_of day y).msg y ≡ true → is_all_of day f (item_of day y).msg y ≡ true
  all_before y unlike all = all_of (is_candidate f y) (debtors day (item_of day y).msg) (λ c i.
      let it : candidate h c ≡ Some y = candidate_is h y c (all_in (is_candidate h y) (debtors day (item_of day y).msg) c all i) in
      ⊎_elim
      (λ (e : c ≡ a). absurd (unlike (sym own_candidate ∙ (ap (candidate h) (sym e) ∙ it))))
      (λ (ne : c ≡ a → ⊥). is_that f y c (sym (other_candidate c ne) ∙ it))
      (cases_eq c a))

  new_or_not : (y : ℕ) → (new ≡ Some y) ⊎ (new ≡ Some y → ⊥)
  new_or_not y = here new refl
    where
      here : (o : Option ℕ) → new ≡ o → (new ≡ Some y) ⊎ (new ≡ Some y → ⊥)
      here None e = inr (λ q. none_some y (sym e ∙ q))
        where
          none_some : (z : ℕ) → None ≡ Some z → ⊥
          none_some z q = cc
      here (Some w) e = ⊎_elim (λ (q : w ≡ y). inl (e ∙ ap Some q)) (λ (ne : w ≡ y → ⊥). inr (λ q. ne (same w y (sym e ∙ q)))) (cases_eq w y)
        where
          same : (u v : ℕ) → Some u ≡ Some v → u ≡ v
          same u v q = cc

  pub members_after : AreMembers day h
  members_after = record {
    room = room_of;
    stands = λ b. ⊎_elim
        (λ (e : b ≡ a). subst (MayStand day b) (sym (ap (candidate h) e ∙ own_candidate)) (subst (λ c. MayStand day c new) (sym e) may))
        (λ (ne : b ≡ a → ⊥). subst (MayStand day b) (sym (other_candidate b ne)) (are.stands b))
        (cases_eq b a);
    single = λ b y e nb. ⊎_elim
        (λ (q : b ≡ a).
        let is : new ≡ Some y = sym own_candidate ∙ (ap (candidate h) (sym q) ∙ e) in
        entered y (subst (MayStand day a) is may).0 is (single y is nb))
        (λ (ne : b ≡ a → ⊥).
        let was : candidate f b ≡ Some y = sym (other_candidate b ne) ∙ e in
        let there = subst (MayStand day b) was (are.stands b) in
        kept y there.0 (are.single b y was nb) (λ own. ne (one_account day b a (item_of day y) nb there.1 (subst (MayStand day a) own (are.stands a)).1)))
        (cases_eq b a);
    whole = λ b y e is_b all. ⊎_elim
        (λ (q : new ≡ Some y). entered y (subst (MayStand day a) q may).0 q (whole y q is_b (subst (λ cs. is_all_of day (record { candidates = cs; members = g.members; room = g.room }) (item_of day y).msg y ≡ true) candidates_of all)))
        (λ (unlike : new ≡ Some y → ⊥).
        let ne : b ≡ a → ⊥ = (λ q. unlike (sym own_candidate ∙ (ap (candidate h) (sym q) ∙ e))) in
        let was : candidate f b ≡ Some y = sym (other_candidate b ne) ∙ e in
        let there = subst (MayStand day b) was (are.stands b) in
        kept y there.0 (are.whole b y was is_b (all_before y unlike all)) (λ own.
        let in_all : IsIn a (debtors day (item_of day y).msg) = debtor_in day a (item_of day y) is_b (subst (MayStand day a) own (are.stands a)).1 in
        unlike (sym own_candidate ∙ candidate_is h y a (all_in (is_candidate h y) (debtors day (item_of day y).msg) a all in_all))))
        (new_or_not y);
  }

  pub room_after : length h.candidates ≡ length f.candidates
  room_after = ap length candidates_of ∙ length-set f.candidates a new

-- ---- an account that lacks the candidate

-- one from which the batch takes something
sum_fails : (has : ℕ → Bool) (debit : Entry → ℕ) (a : ℕ) (es : List Entry) → 0 < sum_by amount_of (filter (λ e. nat_eq (debit e) a) es) → has a ≡ false → list_all has (map debit es) ≡ false
sum_fails has debit a [] some other = absurd (omega (arith, some))
sum_fails has debit a (x ∷ es) some other = by (nat_eq (debit x) a) refl some (λ s. sum_fails has debit a es s other)
  where
    never : (b : Bool) → (b && false) ≡ false
    never true = refl
    never false = refl

    by : (b : Bool) → nat_eq (debit x) a ≡ b → 0 < sum_by amount_of (cond b (x ∷ filter (λ e. nat_eq (debit e) a) es) (filter (λ e. nat_eq (debit e) a) es)) →
        (0 < sum_by amount_of (filter (λ e. nat_eq (debit e) a) es) → list_all has (map debit es) ≡ false) → list_all has (map debit (x ∷ es)) ≡ false
    by true e s rest = ap (λ b. b && list_all has (map debit es)) (ap has (eqb-true (debit x) a e) ∙ other)
    by false e s rest = ap (λ b. has (debit x) && b) (rest s) ∙ never (has (debit x))

pub lacks_sum : (day : Day) (f : Found) (n y a : ℕ) → 0 < gross day n a → is_candidate f y a ≡ false → is_all_of day f n y ≡ false
lacks_sum day f n y a some other = sum_fails (is_candidate f y) (debit_account day) a (debit_entries day n) some other

-- what enters or not leaves the room
pub room_with : (b : Bool) (new : Option ℕ) (f : Found) → (with_if b new f).room ≡ f.room
room_with b None f = refl
room_with b (Some y) f = refl
