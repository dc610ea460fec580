-- Steps that add nothing, so that a run may pass over them.
use Rattle.std.proofs.Common.{◌≡◌, ◌∙◌, ℕ, zero, suc, ◌+◌, ◌-◌, ◌≤◌, ◌<◌, Bool, true, false, ◌&&◌, Option, Some, None, length, refl, sym, ap, subst, arith, cond, inl, inr}
use Rattle.std.specs.Prelude.{is_none, nat_eq, nat_lt}
use Rattle.std.specs.List.{find, range_with_len}
use Rattle.std.proofs.lemmas.Bool.{cases_eq, ne_eqb, false≢true, ltb-true}
use Rattle.period_calendar.specs.declared.time.TheConstants.{MIDNIGHT}
use Rattle.batch_records.specs.DayRecord.{Day}
use Rattle.commit_journal.specs.declared.line.Want.TheVariants as wants
use Rattle.commit_journal.specs.Line.{History}
use Rattle.machine.specs.Records.Setup.{is_sub_account}
use Rattle.machine.specs.Records.Messages.{is_message, sort_of}
use Rattle.machine.specs.Telling.History.{clock, taken}
use Rattle.machine.specs.Telling.Balances.{balance}
use Rattle.machine.specs.Telling.Facts.{is_reached, untaken_earlier, untaken_reached}
use Rattle.machine.specs.Making.Lines.{may_sweep, may_take}
use Rattle.machine.specs.Orders.Order.{empty_all, empty_step, one_scan, take_all, take_step}
use Rattle.settlement_laws.proofs.Base.Appending.{append-refused}
use Rattle.settlement_laws.proofs.Base.Growing.{one_scan-none}
use Rattle.settle_floor.specs.Runs.{before_in}

-- steps that change nothing leave a scan where it is
pub one_scan-stays : (step : History → ℕ → History) (J K : History) (n m : ℕ) → n ≤ m → ((i : ℕ) → n ≤ i → i < m → step K i ≡ K) → K ≡ one_scan step J n → K ≡ one_scan step J m
unfolding one_scan
one_scan-stays step J K n zero low idle e = let none : n ≡ 0 = omega (arith, low) in e ∙ ap (one_scan step J) none
one_scan-stays step J K n (suc m) low idle e =
    elim (cases_eq n (suc m)) [
      | inl same ↦ e ∙ ap (one_scan step J) same
      | inr other ↦
          sym (idle m (omega (arith, low, other)) (omega arith)) ∙ ap (λ L. step L m) (one_scan-stays step J K n m (omega (arith, low, other)) (λ i a b. idle i a (omega (arith, b))) e)
    ]

-- ---- searches

later_fails : (p : ℕ → Bool) (s k : ℕ) → p s ≡ false → ((j : ℕ) → k ≡ suc j → p ((s + 1) + j) ≡ false) → p (s + k) ≡ false
later_fails p s zero h more = let same : s ≡ s + 0 = omega arith in subst (λ i. p i ≡ false) same h
later_fails p s (suc j) h more = let same : (s + 1) + j ≡ s + suc j = omega arith in subst (λ i. p i ≡ false) same (more j refl)

none_first : (b : Bool) (s : ℕ) (o : Option ℕ) → cond b (Some s) o ≡ None → (b ≡ false) × (o ≡ None)
none_first true s o e = cc
none_first false s o e = (refl, e)

none_of : (p : ℕ → Bool) (s len k : ℕ) → find p (range_with_len s len) ≡ None → k < len → p (s + k) ≡ false
none_of p s zero k e low = absurd (omega (arith, low))
none_of p s (suc len) k e low =
    let f = none_first (p s) s (find p (range_with_len (s + 1) len)) e in
    later_fails p s k f.0 (λ j same. none_of p (s + 1) len j f.1 (omega (arith, low, same)))

-- what is found stands in the range, and nothing before it passes
pub record IsFirst (p : ℕ → Bool) (s len x : ℕ) : Type 0 where
  pub from : s ≤ x
  pub to : x < s + len
  pub before : (i : ℕ) → s ≤ i → i < x → p i ≡ false

first_here : (p : ℕ → Bool) (s len x : ℕ) (b : Bool) → p s ≡ b → cond b (Some s) (find p (range_with_len (s + 1) len)) ≡ Some x →
    (find p (range_with_len (s + 1) len) ≡ Some x → IsFirst p (s + 1) len x) → IsFirst p s (suc len) x
first_here p s len x true h e more =
    let same = found e in
    record { from = omega (arith, same); to = omega (arith, same); before = λ i low high. absurd (omega (arith, low, high, same)) }
  where
    found : Some s ≡ Some x → s ≡ x
    found e = cc
first_here p s len x false h e more =
    let f = more e in
    record { from = omega (arith, f.from); to = omega (arith, f.to); before = by_place f }
  where
    by_place : IsFirst p (s + 1) len x → (i : ℕ) → s ≤ i → i < x → p i ≡ false
    by_place f i low high = elim (cases_eq i s) [
      | inl same ↦ subst (λ j. p j ≡ false) (sym same) h
      | inr other ↦ f.before i (omega (arith, low, other)) high
    ]

is_first : (p : ℕ → Bool) (s len x : ℕ) → find p (range_with_len s len) ≡ Some x → IsFirst p s len x
is_first p s zero x e = cc
is_first p s (suc len) x e = first_here p s len x (p s) refl e (is_first p (s + 1) len x)

-- ---- messages

not_left : (day : Day) (J : History) (n : ℕ) → (is_reached day J n && is_none (taken J n)) ≡ false → may_take day J n ≡ false
not_left day J n = here (is_message (sort_of day n)) (is_none (taken J n)) (is_reached day J n) (is_none (untaken_earlier day J n))
  where
    here : (a b c d : Bool) → (c && b) ≡ false → (a && b && c && d) ≡ false
    here false b c d h = refl
    here true false c d h = refl
    here true true false d h = refl
    here true true true d h = absurd (false≢true (sym h))

take-still : (day : Day) (J : History) (i : ℕ) → (is_reached day J (suc i) && is_none (taken J (suc i))) ≡ false → take_step day J i ≡ J
take-still day J i h = append-refused day J (wants.In (suc i)) (not_left day J (suc i) h)

-- where no message is left, the rest of a scan over the messages adds nothing
pub none_left : (day : Day) (J K : History) (n : ℕ) → n ≤ length day.messages → untaken_reached day K ≡ None → K ≡ one_scan (take_step day) J n → K ≡ take_all day J
unfolding take_all
none_left day J K n low none =
    one_scan-stays (take_step day) J K n (length day.messages) low
    (λ i a b. take-still day K i (let same : 1 + i ≡ suc i = omega arith in subst (λ j. (is_reached day K j && is_none (taken K j)) ≡ false) same (none_of (λ j. is_reached day K j && is_none (taken K j)) 1 (length day.messages) i none b)))

pub few_before : (day : Day) (J : History) (o : Option ℕ) → untaken_reached day J ≡ o → before_in (length day.messages) o ≤ length day.messages
few_before day J None e = omega arith
few_before day J (Some n) e =
    let f = is_first (λ j. is_reached day J j && is_none (taken J j)) 1 (length day.messages) n e in
    omega (arith, f.from, f.to)

pub still_before : (day : Day) (J : History) (o : Option ℕ) → untaken_reached day J ≡ o → J ≡ one_scan (take_step day) J (before_in (length day.messages) o)
unfolding take_all
still_before day J None e = none_left day J J 0 (omega arith) e (sym (one_scan-none _ _))
still_before day J (Some n) e =
    let f = is_first (λ j. is_reached day J j && is_none (taken J j)) 1 (length day.messages) n e in
    one_scan-stays (take_step day) J J 0 (n - 1) (omega arith) (λ i a b. take-still day J i (f.before (suc i) (omega arith) (omega (arith, b)))) (sym (one_scan-none _ _))

pub none_found : (o : Option ℕ) → is_none o ≡ true → o ≡ None
none_found None h = refl
none_found (Some n) h = absurd (false≢true h)

-- ---- sub-accounts

-- before midnight none is emptied
pub none_emptied : (day : Day) (J : History) → nat_lt (clock J) MIDNIGHT ≡ true → J ≡ empty_all day J
unfolding empty_all
none_emptied day J h =
    one_scan-stays (empty_step day) J J 0 (length day.accounts) (omega arith) (λ i a b. append-refused day J (wants.Sweep (suc i)) (not_swept (suc i))) (sym (one_scan-none _ _))
  where
    low : clock J < MIDNIGHT
    low = ltb-true (clock J) MIDNIGHT h

    here : (a b c : Bool) → b ≡ false → (a && b && c) ≡ false
    here true false c h = refl
    here false b c h = refl
    here true true c h = absurd (false≢true (sym h))

    not_swept : (a : ℕ) → may_sweep day J a ≡ false
    not_swept a = here (is_sub_account day a) (nat_eq (clock J) MIDNIGHT) (nat_lt 0 (balance day J a)) (ne_eqb (clock J) MIDNIGHT (λ e. omega (arith, e, low)))
