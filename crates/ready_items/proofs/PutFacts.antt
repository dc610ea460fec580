-- The candidate of an account is found anew.
use Rattle.std.proofs.Common.{◌≡◌, ◌∙◌, ℕ, ◌+◌, ◌-◌, ◌<◌, ◌≤◌, Bool, true, false, ◌&&◌, List, Option, Some, None, length, refl, sym, ap, subst, arith, ⊎_elim, get_or-set_other}
use Rattle.std.specs.Prelude.{nat_le, nat_lt, slice_set}
use Rattle.std.proofs.lemmas.Bool.{and_parts, cases_eq, le-leb, leb-true, lt-leb, ltb-true}
use Rattle.std.proofs.lemmas.List.{length-set}
use Rattle.batch_records.specs.DayRecord.{Day}
use Rattle.commit_journal.specs.Line.{History}
use Rattle.machine.specs.declared.answers.Item.{Item}
use Rattle.machine.specs.Records.Messages.{is_b, sort_of}
use Rattle.machine.specs.Telling.Balances.{balance}
use Rattle.machine.specs.Stages.Pending.{stands_on}
use Rattle.settlement_laws.proofs.Base.Lists.{never}
use Rattle.number_set.specs.Members.{has}
use Rattle.scan_laws.specs.Candidates.{IsFirstRound}
use Rattle.scan_laws.specs.Numbers.{item_count, item_of}
use Rattle.pending_items.specs.Heads.{IsHeadOf, IsHeadOn}
use Rattle.due_items.specs.Row.{IsNumber}
use Rattle.ready_items.specs.Goes.{asks, goes_at}
use Rattle.ready_items.specs.Normals.{goes_normal, is_normal_item}
use Rattle.ready_items.specs.Found.{AreMembers, Found, IsHeadCandidate, MayStand, candidate, is_all_of, is_b_at, is_whole_of, replaced, with_if}
use Rattle.ready_items.specs.Kept.{IsFound, KeepsReady, Ready}
use Rattle.ready_items.proofs.FoundFacts.{members_after, other_candidate, own_candidate, room_after}
use Rattle.ready_items.proofs.GoesFacts.{head_first, normal_first, same_bool}

some_same : (x y : ℕ) → Some x ≡ Some y → x ≡ y
some_same x y e = cc

module _ (day : Day) (J : History) (a money : ℕ) (v : Ready) (found : Found) (new : Option ℕ) (keeps : KeepsReady day J v) (low : a < length v.touched) where
  inside : a < length v.found.candidates
  inside = let t = keeps.fits.touched in let n = keeps.fits.candidates in omega (arith, t, n, low)

  -- by the members that enter
  found_by : (enters : Bool) → MayStand day a new → ((w : ℕ) → new ≡ Some w → is_b_at day w ≡ false → enters ≡ true) → ((w : ℕ) → new ≡ Some w → is_b_at day w ≡ true → is_all_of day (replaced a new v.found) (item_of day w).msg w ≡ true → enters ≡ true)
      → found ≡ with_if enters new (replaced a new v.found) → (1 ≤ a → IsFirstRound (goes_at day J a) v.at new) → IsFound day J a v (record { normals = v.normals; alone = v.alone; found = found; touched = v.touched; at = v.at })
  found_by enters may single whole e first = record {
    same = refl;
    members = subst (AreMembers day) (sym e) (members_after day a new v.found enters keeps.fits.members inside may single whole);
    room = ap (λ (f : Found). length f.candidates) e ∙ room_after day a new v.found enters keeps.fits.members inside may single whole;
    own = λ low. subst (IsFirstRound (goes_at day J a) v.at) (sym (ap (λ (f : Found). candidate f a) e ∙ own_candidate day a new v.found enters keeps.fits.members inside may single whole)) (first low);
    others = λ b ne. ap (λ (f : Found). candidate f b) e ∙ other_candidate day a new v.found enters keeps.fits.members inside may single whole b ne;
  }

  pub normal_found : (1 ≤ a → money ≡ balance day J a) → IsHeadOn day J a None → IsFirstRound (goes_normal day J a money) v.at new → found ≡ with_if true new (replaced a new v.found) → IsFound day J a v (record { normals = v.normals; alone = v.alone; found = found; touched = v.touched; at = v.at })
  normal_found cash none first e = found_by true (may new first) (λ w q b. refl) (λ w q b all. refl) e (λ l. normal_first day J a v.at money (cash l) none new first)
    where
      may : (o : Option ℕ) → IsFirstRound (goes_normal day J a money) v.at o → MayStand day a o
      may None h = tt
      may (Some y) h =
          let p = and_parts (nat_lt y (item_count day)) _ h.0 in
          let q = and_parts (is_normal_item day (item_of day y)) _ p.1 in
          let r = and_parts _ (stands_on day a (item_of day y) && _) q.1 in
          (ltb-true y (item_count day) p.0, (and_parts (stands_on day a (item_of day y)) _ r.1).0)

  module _ (head : Item) (of : IsHeadOf day J a head) (cash : 1 ≤ a → money ≡ balance day J a) (is : IsHeadCandidate day a head money new) where
    head_may : MayStand day a new
    head_may = here new is
      where
        here : (o : Option ℕ) → IsHeadCandidate day a head money o → MayStand day a o
        here None h = tt
        here (Some y) h = (h.0, subst (λ (x : Item). stands_on day a x ≡ true) (sym h.1) of.on)

    its_item : (w : ℕ) → new ≡ Some w → item_of day w ≡ head
    its_item w e = (subst (IsHeadCandidate day a head money) e is).1

    pub single_found : is_b (sort_of day head.msg) ≡ false → found ≡ with_if true new (replaced a new v.found) → IsFound day J a v (record { normals = v.normals; alone = v.alone; found = found; touched = v.touched; at = v.at })
    single_found b e = found_by true head_may (λ w q c. refl) (λ w q c all. refl) e (λ l. head_first day J a v.at money (cash l) head of new is)

    pub batch_found : is_b (sort_of day head.msg) ≡ true → found ≡ with_if (is_whole_of day (replaced a new v.found) head.msg new) new (replaced a new v.found) → IsFound day J a v (record { normals = v.normals; alone = v.alone; found = found; touched = v.touched; at = v.at })
    batch_found b e = found_by (is_whole_of day (replaced a new v.found) head.msg new) head_may
        (λ w q c. never (is_b_at day w) (ap (λ (x : Item). is_b (sort_of day x.msg)) (its_item w q) ∙ b) c)
        (λ w q c all. ap (is_whole_of day (replaced a new v.found) head.msg) q ∙ subst (λ (x : Item). is_all_of day (replaced a new v.found) x.msg w ≡ true) (its_item w q) all)
        e (λ l. head_first day J a v.at money (cash l) head of new is)

    -- it was the candidate before
    pub still_found : candidate v.found a ≡ new → IsFound day J a v v
    still_found q = record {
      same = refl;
      members = keeps.fits.members;
      room = refl;
      own = λ l. subst (IsFirstRound (goes_at day J a) v.at) (sym q) (head_first day J a v.at money (cash l) head of new is);
      others = λ b ne. refl;
    }

-- ---- the account is renewed

pub account_renewed : (day : Day) (J : History) (a : ℕ) (old mid : Ready) (touched : List Bool) → a < length old.touched → KeepsReady day J old → IsFound day J a old mid → touched ≡ slice_set mid.touched a false
    → KeepsReady day J (record { normals = mid.normals; alone = mid.alone; found = mid.found; touched = touched; at = mid.at })
account_renewed day J a old mid touched low keeps found e = subst (λ (w : Ready). KeepsReady day J (record { normals = w.normals; alone = w.alone; found = mid.found; touched = touched; at = w.at })) (sym found.same) (record {
  fits = record {
    payments = keeps.fits.payments;
    alone = keeps.fits.alone;
    members = found.members;
    candidates = found.room ∙ (keeps.fits.candidates ∙ sym (ap length is ∙ length-set old.touched a false));
    touched = subst (λ k. length day.accounts + 1 ≤ k) (sym (ap length is ∙ length-set old.touched a false)) keeps.fits.touched;
  };
  alone = keeps.alone;
  amounts = keeps.amounts;
  first = λ b first last clean. ⊎_elim
      (λ (q : b ≡ a). subst (λ i. IsFirstRound (goes_at day J i) old.at (candidate mid.found i)) (sym q) (found.own (subst (λ i. 1 ≤ i) q first)))
      (λ (ne : b ≡ a → ⊥). subst (IsFirstRound (goes_at day J b) old.at) (sym (found.others b ne)) (keeps.first b first last (sym (ap (λ (s : List Bool). has s b) is ∙ get_or-set_other old.touched a b false _ ne) ∙ clean)))
      (cases_eq b a);
})
  where
    is : touched ≡ slice_set old.touched a false
    is = e ∙ ap (λ (w : Ready). slice_set w.touched a false) found.same

-- ---- what is enough

pub too_little : (taken left money : ℕ) → money < left → false ≡ nat_le (taken + left) money
too_little taken left money less = sym (lt-leb (taken + left) money (omega (arith, less)))

pub enough_beyond : (taken left money : ℕ) → left ≤ money → nat_le taken (money - left) ≡ nat_le (taken + left) money
enough_beyond taken left money there = same_bool (nat_le taken (money - left)) (nat_le (taken + left) money)
    (λ h. let l : taken ≤ money - left = leb-true taken (money - left) h in le-leb (taken + left) money (omega (arith, there, l)))
    (λ h. let l : taken + left ≤ money = leb-true (taken + left) money h in le-leb taken (money - left) (omega (arith, there, l)))

-- ---- the head by its number

pub uncovered : (day : Day) (a : ℕ) (head : Item) (money : ℕ) → nat_le (asks day head a) money ≡ false → IsHeadCandidate day a head money None
uncovered day a head money h = λ is. h

pub candidate_number : (day : Day) (a : ℕ) (head : Item) (money : ℕ) (o : Option ℕ) → IsNumber day head.msg head.entry o → nat_le (asks day head a) money ≡ true → IsHeadCandidate day a head money o
candidate_number day a head money None h le = λ is. absurd (h is)
candidate_number day a head money (Some y) h le = (h.0, h.1, le)
