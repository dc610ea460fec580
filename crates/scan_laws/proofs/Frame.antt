-- An account that a line doesn't touch: its balance, what stands before an item on it, and what is ready on it.
use Rattle.std.proofs.Common.{◌≡◌, ◌∙◌, ℕ, suc, ◌+◌, ◌-◌, ◌≤◌, Bool, true, false, not, ◌&&◌, ◌||◌, List, [], ◌∷◌, Option, Some, None, refl, sym, ap, subst, arith, length, inl, inr}
use Rattle.std.specs.Prelude.{is_some, nat_eq, if◌then◌else◌, unwrap_or}
use Rattle.std.specs.List.{list_any}
use Rattle.std.proofs.lemmas.Bool.{or_parts, eqb-true, false_from_ne_true}
use Rattle.batch_records.specs.DayRecord.{Day}
use Rattle.batch_records.specs.declared.day.Entry.{Entry}
use Rattle.commit_journal.specs.declared.line.Move.{Move}
use Rattle.commit_journal.specs.Line.{Line, History}
use Rattle.machine.specs.Records.Setup.{opening}
use Rattle.machine.specs.Records.Messages.{Sort, BatchB, sort_of, is_b, message_numbers, item_numbers, entries, part, debit_account}
use Rattle.machine.specs.Telling.History.{clock, is_end, is_ended}
use Rattle.machine.specs.Telling.Balances.{credits, debits, credited, debited, balance}
use Rattle.machine.specs.Stages.Phases.{phase}
use Rattle.machine.specs.Stages.Pending.{item, is_pending, stands_on, debit_accounts, debit_accounts_as, debit_account_of_part, priority_as, is_normal, is_ahead, standing, is_blocker, is_blocked_by, is_blocked}
use Rattle.machine.specs.Making.Lines.{line_of, item_want, is_ready_item}
use Rattle.machine.specs.Legal.{IsLegal}
use Rattle.settlement_laws.proofs.Base.Lists.{IsIn, in_range, never}
use Rattle.scan_laws.specs.Items.{concerns_item}
use Rattle.scan_laws.specs.Touched.{moves_on, stands_with, touches}
use Rattle.scan_laws.specs.Views.{alone, ready_by}
use Rattle.scan_laws.proofs.Items.{same_item, own_concerned}
use Rattle.scan_laws.proofs.Kept.{place_same}
use Rattle.scan_laws.proofs.Readiness.{seen_by, ready_same}

-- ---- balances

no_credit : (a : ℕ) (moves : List Move) → moves_on a moves ≡ false → credits a moves ≡ 0
no_credit a [] h = refl
no_credit a (m ∷ moves) h =
    let p = or_parts (nat_eq m.debit a || nat_eq m.credit a) (moves_on a moves) h in
    let q = or_parts (nat_eq m.debit a) (nat_eq m.credit a) p.0 in
    let z : (if nat_eq m.credit a then m.amount else 0) ≡ 0 = ap (λ b. if b then m.amount else 0) q.1 in
    let r : credits a moves ≡ 0 = no_credit a moves p.1 in
    omega arith

no_debit : (a : ℕ) (moves : List Move) → moves_on a moves ≡ false → debits a moves ≡ 0
no_debit a [] h = refl
no_debit a (m ∷ moves) h =
    let p = or_parts (nat_eq m.debit a || nat_eq m.credit a) (moves_on a moves) h in
    let q = or_parts (nat_eq m.debit a) (nat_eq m.credit a) p.0 in
    let z : (if nat_eq m.debit a then m.amount else 0) ≡ 0 = ap (λ b. if b then m.amount else 0) q.0 in
    let r : debits a moves ≡ 0 = no_debit a moves p.1 in
    omega arith

pub balance_stays : (day : Day) (J : History) (l : Line) (a : ℕ) → moves_on a l.moves ≡ false → balance day (l ∷ J) a ≡ balance day J a
unfolding credited debited
balance_stays day J l a h =
    let c : credited J a + credits a l.moves ≡ credited J a = (let z = no_credit a l.moves h in omega (arith, z)) in
    let d : debited J a + debits a l.moves ≡ debited J a = (let z = no_debit a l.moves h in omega (arith, z)) in
    λ i. (opening day a + c i) - d i

-- ---- what stands on the account

none_in : {X : Type 0} (test : X → Bool) (xs : List X) (x : X) → list_any test xs ≡ false → IsIn x xs → test x ≡ false
none_in test [] x h i = absurd i
none_in test (y ∷ ys) x h (inl e) = subst (λ z. test z ≡ false) e (or_parts (test y) (list_any test ys) h).0
none_in test (y ∷ ys) x h (inr i) = none_in test ys x (or_parts (test y) (list_any test ys) h).1 i

pub any_same : {X : Type 0} (p q : X → Bool) (xs : List X) → ((x : X) → IsIn x xs → p x ≡ q x) → list_any p xs ≡ list_any q xs
any_same p q [] h = refl
any_same p q (x ∷ xs) h = let r = any_same p q xs (λ y i. h y (inr i)) in let s : p x ≡ q x = h x (inl refl) in λ i. s i || r i

neither : (b d : Bool) → (b && d) ≡ false → d ≡ true → b ≡ false
neither false d h e = refl
neither true true h e = cc
neither true false h e = cc

-- where an item of the day stands on an account that isn't touched, it isn't concerned
pub not_concerned : (day : Day) (J : History) (l : Line) (a n k : ℕ) → touches day J l a ≡ false → IsIn n (message_numbers day) → IsIn k (item_numbers day n) → stands_on day a (item n k) ≡ true → concerns_item day J l n k ≡ false
not_concerned day J l a n k h i j s =
    let p = (or_parts (moves_on a l.moves) (list_any (stands_with day J l a) (message_numbers day)) h).1 in
    let q = none_in (stands_with day J l a) (message_numbers day) n p i in
    neither (concerns_item day J l n k) (stands_on day a (item n k)) (none_in (λ x. concerns_item day J l n x && stands_on day a (item n x)) (item_numbers day n) k q j) s

pub blocker_same : (p q s u v : Bool) → (s ≡ true → (p ≡ q) × (q ≡ true → u ≡ v)) → (p && s && u) ≡ (q && s && v)
blocker_same p q true u v h = here p q (h refl).0 (h refl).1
  where
    here : (p q : Bool) → p ≡ q → (q ≡ true → u ≡ v) → (p && true && u) ≡ (q && true && v)
    here true true e g = g refl
    here false false e g = refl
    here true false e g = cc
    here false true e g = cc
blocker_same true true false u v h = refl
blocker_same true false false u v h = refl
blocker_same false true false u v h = refl
blocker_same false false false u v h = refl

pub blocked_same : (day : Day) (J : History) (l : Line) (n k a : ℕ) → IsLegal day (l ∷ J) → standing day (l ∷ J) (item n k) ≡ standing day J (item n k) → touches day J l a ≡ false → is_blocked day (l ∷ J) (item n k) a ≡ is_blocked day J (item n k) a
unfolding is_blocked is_blocked_by
blocked_same day J l n k a legal x t = any_same (is_blocked_by day (l ∷ J) (item n k) a) (is_blocked_by day J (item n k) a) (message_numbers day)
    (λ m i. any_same (λ j. is_blocker day (l ∷ J) (item n k) a (item m j)) (λ j. is_blocker day J (item n k) a (item m j)) (item_numbers day m) (λ j r. at m j i r))
  where
    before : ℕ → ℕ → History → Bool
    before m j K = not (is_normal (priority_as (sort_of day m) day m)) && is_ahead (standing day K (item m j)) (standing day K (item n k))

    at : (m j : ℕ) → IsIn m (message_numbers day) → IsIn j (item_numbers day m) → is_blocker day (l ∷ J) (item n k) a (item m j) ≡ is_blocker day J (item n k) a (item m j)
    at m j i r = blocker_same (is_pending day (l ∷ J) (item m j)) (is_pending day J (item m j)) (stands_on day a (item m j)) (before m j (l ∷ J)) (before m j J)
        (λ s. let y = same_item day J l m j legal (not_concerned day J l a m j t i r s) in
        (y.same_pending, λ p. let z = y.same_standing p in λ i. not (is_normal (priority_as (sort_of day m) day m)) && is_ahead (z i) (x i)))

pub pending_blocked : (day : Day) (J : History) (l : Line) (n k a : ℕ) → IsLegal day (l ∷ J) → concerns_item day J l n k ≡ false → is_pending day J (item n k) ≡ true → touches day J l a ≡ false → is_blocked day (l ∷ J) (item n k) a ≡ is_blocked day J (item n k) a
pending_blocked day J l n k a legal c p t = blocked_same day J l n k a legal ((same_item day J l n k legal c).same_standing p) t

-- ---- readiness

-- none of the accounts on which the item stands is touched
pub ready_stays : (day : Day) (J : History) (l : Line) (n k : ℕ) → IsLegal day (l ∷ J) → concerns_item day J l n k ≡ false → list_any (touches day J l) (debit_accounts day (item n k)) ≡ false →
    is_ready_item day (l ∷ J) n k ≡ is_ready_item day J n k
ready_stays day J l n k legal c t =
    let u = same_item day J l n k legal c in
    seen_by day (l ∷ J) n k
    ∙ ready_same day (is_blocked day (l ∷ J) (item n k)) (is_blocked day J (item n k)) (balance day (l ∷ J)) (balance day J) n k _ _ _ _ u.same_alone u.same_pending
    (λ p a i. let no = none_in (touches day J l) (debit_accounts day (item n k)) a t i in
    (blocked_same day J l n k a legal (u.same_standing p) no, balance_stays day J l a (or_parts (moves_on a l.moves) _ no).0))
    ∙ sym (seen_by day J n k)

-- it is ready by the phase alone
pub alone_stays : (day : Day) (J : History) (l : Line) (n k : ℕ) → IsLegal day (l ∷ J) → concerns_item day J l n k ≡ false → is_some (alone day n k (phase day J n) (clock J)) ≡ true →
    is_ready_item day (l ∷ J) n k ≡ is_ready_item day J n k
alone_stays day J l n k legal c h =
    seen_by day (l ∷ J) n k
    ∙ ap (λ o. ready_by day n k o (is_pending day (l ∷ J) (item n k)) (is_blocked day (l ∷ J) (item n k)) (balance day (l ∷ J))) (same_item day J l n k legal c).same_alone
    ∙ told (alone day n k (phase day J n) (clock J)) _ _ h
    ∙ sym (seen_by day J n k)
  where
    told : (o : Option Bool) (x y : Bool) → is_some o ≡ true → unwrap_or o x ≡ unwrap_or o y
    told (Some b) x y h = refl
    told None x y h = cc

-- ---- account by account

pub day_item : (day : Day) (n k : ℕ) → 1 ≤ n → n ≤ length day.messages → k ≤ length (entries day n) → IsIn n (message_numbers day) × IsIn k (item_numbers day n)
day_item day n k low high within = (in_range 1 (length day.messages) n low (omega (arith, high)), in_range 0 (suc (length (entries day n))) k (omega arith) (omega (arith, within)))

-- an item that isn't of a B batch stands on one account at most
one_account : (day : Day) (o : Option Entry) (a : ℕ) (test : ℕ → Bool) → list_any (λ b. nat_eq b a) (debit_account_of_part day o) ≡ true → test a ≡ false → list_any test (debit_account_of_part day o) ≡ false
one_account day None a test h t = refl
one_account day (Some e) a test h t = here (nat_eq (debit_account day e) a) refl h
  where
    here : (b : Bool) → nat_eq (debit_account day e) a ≡ b → (b || false) ≡ true → (test (debit_account day e) || false) ≡ false
    here true q h = ap (λ b. b || false) (ap test (eqb-true (debit_account day e) a q) ∙ t)
    here false q h = cc

one_by_sort : (s : Sort) (day : Day) (n k a : ℕ) (test : ℕ → Bool) → is_b s ≡ false → list_any (λ b. nat_eq b a) (debit_accounts_as s day n k) ≡ true → test a ≡ false → list_any test (debit_accounts_as s day n k) ≡ false
one_by_sort BatchB day n k a test b h t = cc
one_by_sort _ day n k a test b h t = one_account day (part day n k) a test h t

pub account_stays : (day : Day) (J : History) (l : Line) (a n k : ℕ) → IsLegal day (l ∷ J) → touches day J l a ≡ false → 1 ≤ n → n ≤ length day.messages → k ≤ length (entries day n) →
    is_b (sort_of day n) ≡ false → stands_on day a (item n k) ≡ true → is_ready_item day (l ∷ J) n k ≡ is_ready_item day J n k
account_stays day J l a n k legal t low high within b s =
    let i = day_item day n k low high within in
    ready_stays day J l n k legal (not_concerned day J l a n k t i.0 i.1 s) (one_by_sort (sort_of day n) day n k a (touches day J l) b s t)

-- the item of a line stands on no account that the line doesn't touch
pub own_touched : (day : Day) (J : History) (l : Line) (a n k : ℕ) → line_of day J (item_want day J n k) ≡ Some l → touches day J l a ≡ false → 1 ≤ n → n ≤ length day.messages → k ≤ length (entries day n) → stands_on day a (item n k) ≡ false
own_touched day J l a n k e t low high within =
    let i = day_item day n k low high within in
    false_from_ne_true (stands_on day a (item n k)) (λ s. never (concerns_item day J l n k) (own_concerned day J n k l e) (not_concerned day J l a n k t i.0 i.1 s))

-- ---- the End line

pub still_on : (J : History) (l : Line) → is_end l.head.kind ≡ false → is_ended (l ∷ J) ≡ is_ended J
still_on J l h = ap is_some (place_same (λ x. is_end x.head.kind) l J h)
