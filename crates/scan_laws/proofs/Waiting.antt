-- The items that wait on an account.
use Rattle.std.proofs.Common.{◌≡◌, ◌∙◌, ℕ, zero, suc, ◌+◌, ◌≤◌, Bool, true, false, not, ◌&&◌, ◌||◌, ◌∷◌, Option, Some, None, refl, sym, ap, subst, length}
use Rattle.std.specs.Prelude.{is_some, is_none, nat_eq, nat_le, if◌then◌else◌}
use Rattle.std.specs.List.{list_any}
use Rattle.std.proofs.lemmas.Bool.{and_parts, and_from, or_left, eqb-true}
use Rattle.batch_records.specs.DayRecord.{Day}
use Rattle.batch_records.specs.declared.day.Entry.{Entry}
use Rattle.commit_journal.specs.Line.{Line, History}
use Rattle.machine.specs.Words.{some_passes}
use Rattle.machine.specs.Records.Messages.{Sort, BatchB, sort_of, is_b, entries, part, debit_account}
use Rattle.machine.specs.Records.Reserves.{must_leave}
use Rattle.machine.specs.Telling.History.{clock}
use Rattle.machine.specs.Telling.Balances.{balance}
use Rattle.machine.specs.Stages.Phases.{phase}
use Rattle.machine.specs.Stages.Pending.{item, is_pending, stands_on, debit_accounts_as, debit_account_of_part, is_blocked}
use Rattle.machine.specs.Making.Lines.{is_ready_item}
use Rattle.machine.specs.Legal.{IsLegal}
use Rattle.settlement_laws.proofs.Base.Lists.{never}
use Rattle.settlement_laws.proofs.Base.Places.{same-number}
use Rattle.scan_laws.specs.Touched.{touches, waits_on}
use Rattle.scan_laws.specs.Views.{part_by, whole_by, item_by, alone, ready_by}
use Rattle.scan_laws.proofs.Booked.{quiet_pending, quiet_alone, not_false}
use Rattle.scan_laws.proofs.Frame.{day_item, not_concerned}
use Rattle.scan_laws.proofs.Items.{same_item}
use Rattle.scan_laws.proofs.Readiness.{seen_by}

-- ---- of an account that a line doesn't touch the same items wait

pub third_same : (b s p q : Bool) → (s ≡ true → p ≡ q) → (b && s && p) ≡ (b && s && q)
third_same true true p q h = h refl
third_same true false p q h = refl
third_same false s p q h = refl

pub waits_stay : (day : Day) (J : History) (l : Line) (a n k : ℕ) → IsLegal day (l ∷ J) → touches day J l a ≡ false → 1 ≤ n → n ≤ length day.messages → k ≤ length (entries day n) → waits_on day (l ∷ J) a n k ≡ waits_on day J a n k
waits_stay day J l a n k legal t low high within = third_same (not (is_b (sort_of day n))) (stands_on day a (item n k)) (is_pending day (l ∷ J) (item n k)) (is_pending day J (item n k))
    (λ s. let i = day_item day n k low high within in (same_item day J l n k legal (not_concerned day J l a n k t i.0 i.1 s)).same_pending)

-- ---- when an item that waits is ready

by_part : (s : Sort) (day : Day) (n k : ℕ) (blocked : ℕ → Bool) (money : ℕ → ℕ) → is_b s ≡ false → item_by s day n k blocked money ≡ some_passes (part_by day n blocked money) (part day n k)
by_part BatchB day n k blocked money h = cc
by_part _ day n zero blocked money h = refl
by_part _ day n (suc k) blocked money h = refl

pub accounts_by_part : (s : Sort) (day : Day) (n k : ℕ) → is_b s ≡ false → debit_accounts_as s day n k ≡ debit_account_of_part day (part day n k)
accounts_by_part BatchB day n k h = cc
accounts_by_part _ day n k h = refl

pub pending_alone : (day : Day) (J : History) (n k : ℕ) → is_pending day J (item n k) ≡ true → alone day n k (phase day J n) (clock J) ≡ None
unfolding is_pending
pending_alone day J n k h = quiet_alone day n k (phase day J n) (clock J) (quiet_pending (sort_of day n) day J n k (phase day J n) h)

its_account : (day : Day) (e : Entry) (a : ℕ) → list_any (λ b. nat_eq b a) (debit_account_of_part day (Some e)) ≡ true → debit_account day e ≡ a
its_account day e a h = here (nat_eq (debit_account day e) a) refl h
  where
    here : (b : Bool) → nat_eq (debit_account day e) a ≡ b → (b || false) ≡ true → debit_account day e ≡ a
    here true q h = eqb-true (debit_account day e) a q
    here false q h = cc

-- nothing stands before it, and the balance covers it
pub waiting_ready : (day : Day) (J : History) (a n k : ℕ) (e : Entry) → waits_on day J a n k ≡ true → part day n k ≡ Some e → is_ready_item day J n k ≡ (not (is_blocked day J (item n k) a) && nat_le (e.amount + must_leave day n a) (balance day J a))
waiting_ready day J a n k e w p =
    let x = and_parts (not (is_b (sort_of day n)) && stands_on day a (item n k)) (is_pending day J (item n k)) w in
    let y = and_parts (not (is_b (sort_of day n))) (stands_on day a (item n k)) x.0 in
    let b : is_b (sort_of day n) ≡ false = not_false (is_b (sort_of day n)) y.0 in
    let stands : list_any (λ c. nat_eq c a) (debit_account_of_part day (Some e)) ≡ true =
    subst (λ o. list_any (λ c. nat_eq c a) (debit_account_of_part day o) ≡ true) p (subst (λ xs. list_any (λ c. nat_eq c a) xs ≡ true) (accounts_by_part (sort_of day n) day n k b) y.1) in
    seen_by day J n k
    ∙ ap (λ o. ready_by day n k o (is_pending day J (item n k)) (is_blocked day J (item n k)) (balance day J)) (pending_alone day J n k x.1)
    ∙ ap (λ c. c && item_by (sort_of day n) day n k (is_blocked day J (item n k)) (balance day J)) x.1
    ∙ by_part (sort_of day n) day n k (is_blocked day J (item n k)) (balance day J) b
    ∙ ap (some_passes (part_by day n (is_blocked day J (item n k)) (balance day J))) p
    ∙ ap (λ c. not (is_blocked day J (item n k) c) && nat_le (e.amount + must_leave day n c) (balance day J c)) (its_account day e a stands)

-- ---- what is ready waits, is ready by the phase alone, or is a B batch

waits_somewhere : (day : Day) (J : History) (n k : ℕ) → is_b (sort_of day n) ≡ false → is_pending day J (item n k) ≡ true → is_some (part day n k) ≡ true → ((a : ℕ) → waits_on day J a n k ≡ false) → ⊥
waits_somewhere day J n k b p s h = here (part day n k) refl s
  where
    here : (o : Option Entry) → part day n k ≡ o → is_some o ≡ true → ⊥
    here None q s = cc
    here (Some e) q s =
        let a = debit_account day e in
        let stands : stands_on day a (item n k) ≡ true =
        ap (list_any (λ c. nat_eq c a)) (accounts_by_part (sort_of day n) day n k b ∙ ap (debit_account_of_part day) q) ∙ or_left (nat_eq a a) false (same-number a) in
        never (waits_on day J a n k) (and_from _ _ (and_from _ _ (ap not b) stands) p) (h a)

there : {X : Type 0} (test : X → Bool) (o : Option X) → some_passes test o ≡ true → is_some o ≡ true
there test None h = cc
there test (Some x) h = refl

pub ready_waits : (day : Day) (J : History) (n k : ℕ) → is_ready_item day J n k ≡ true → is_b (sort_of day n) ≡ false → is_none (alone day n k (phase day J n) (clock J)) ≡ true → ((a : ℕ) → waits_on day J a n k ≡ false) → ⊥
ready_waits day J n k r b o h =
    let x = and_parts (is_pending day J (item n k)) (item_by (sort_of day n) day n k (is_blocked day J (item n k)) (balance day J))
    (sym (ap (λ q. ready_by day n k q (is_pending day J (item n k)) (is_blocked day J (item n k)) (balance day J)) (is_none_is (alone day n k (phase day J n) (clock J)) o)) ∙ sym (seen_by day J n k) ∙ r) in
    waits_somewhere day J n k b x.0 (there (part_by day n (is_blocked day J (item n k)) (balance day J)) (part day n k) (sym (by_part (sort_of day n) day n k (is_blocked day J (item n k)) (balance day J) b) ∙ x.1)) h
  where
    is_none_is : {X : Type 0} (o : Option X) → is_none o ≡ true → o ≡ None
    is_none_is None h = refl
    is_none_is (Some x) h = cc

-- ---- a pending B batch, and what is neither pending nor ready by the phase alone

pub whole_ready : (day : Day) (J : History) (n : ℕ) → is_b (sort_of day n) ≡ true → is_pending day J (item n 0) ≡ true → is_ready_item day J n 0 ≡ whole_by day n (is_blocked day J (item n 0)) (balance day J)
whole_ready day J n b p =
    seen_by day J n 0
    ∙ ap (λ o. ready_by day n 0 o (is_pending day J (item n 0)) (is_blocked day J (item n 0)) (balance day J)) (pending_alone day J n 0 p)
    ∙ ap (λ c. c && item_by (sort_of day n) day n 0 (is_blocked day J (item n 0)) (balance day J)) p
    ∙ ap (λ c. if c then whole_by day n (is_blocked day J (item n 0)) (balance day J) else some_passes (part_by day n (is_blocked day J (item n 0)) (balance day J)) (part day n 0)) b

pub never_ready : (day : Day) (J : History) (n k : ℕ) → is_pending day J (item n k) ≡ false → alone day n k (phase day J n) (clock J) ≡ None → is_ready_item day J n k ≡ false
never_ready day J n k p o =
    seen_by day J n k
    ∙ ap (λ q. ready_by day n k q (is_pending day J (item n k)) (is_blocked day J (item n k)) (balance day J)) o
    ∙ ap (λ c. c && item_by (sort_of day n) day n k (is_blocked day J (item n k)) (balance day J)) p

-- by the phase alone
pub alone_ready : (day : Day) (J : History) (n k : ℕ) (b : Bool) → alone day n k (phase day J n) (clock J) ≡ Some b → is_ready_item day J n k ≡ b
alone_ready day J n k b o = seen_by day J n k ∙ ap (λ q. ready_by day n k q (is_pending day J (item n k)) (is_blocked day J (item n k)) (balance day J)) o
