-- What a Book line leaves as it was of the other items of its message.
use Rattle.std.proofs.Common.{◌≡◌, ◌∙◌, ℕ, zero, suc, Bool, true, false, not, ◌&&◌, ◌||◌, List, [], ◌∷◌, Option, Some, None, refl, sym, ap, subst, cond, max, inl, inr}
use Rattle.std.specs.Prelude.{is_some, is_none, nat_eq, nat_lt, if◌then◌else◌, unwrap_or, fold}
use Rattle.std.specs.List.{list_all, find}
use Rattle.std.proofs.lemmas.Bool.{and_parts, ne_eqb, false_from_ne_true}
use Rattle.batch_records.specs.DayRecord.{Day}
use Rattle.batch_records.specs.declared.day.Entry.{Entry}
use Rattle.commit_journal.specs.declared.line.Kind.{Kind}
use Rattle.commit_journal.specs.declared.line.Kind.TheVariants as kinds
use Rattle.commit_journal.specs.Line.{Line, History}
use Rattle.machine.specs.declared.answers.Phase.{Phase}
use Rattle.machine.specs.declared.answers.Phase.TheVariants as phases
use Rattle.machine.specs.Words.{when, some_passes, is_zero}
use Rattle.machine.specs.Records.Messages.{Sort, Pay, BatchA, BatchB, BatchC, BatchE, sort_of, sender, message_at, is_a, is_b, is_c, earliest, info_end, settlement_start, entries, entry_at, entry_numbers, is_debit, is_credit, is_debit_entry, is_credit_entry, debit_numbers, credit_numbers}
use Rattle.machine.specs.Telling.History.{is_in, is_ok, is_book, is_all, is_ask, is_cover, is_expire_or_refuse, is_time, is_in_of, is_book_of, is_ask_of, is_cover_of, is_closing_of, taken, taken_code, is_accepted, booked, asked, covered, closed, clock}
use Rattle.machine.specs.Telling.Facts.{takes_well, answer_taken, answer_of_message, answered, revoked, revokes, cycle_taken, cycle_of_message, cycle_ended}
use Rattle.machine.specs.Stages.Phases.{phase, is_no_order, revoked_as, settled_as, open_as, is_open, is_covered, is_booked, is_revoked_entry}
use Rattle.machine.specs.Stages.Pending.{item, pending_as, is_pending, priority_as, standing, opened_at, first_unbooked_debit, last_debit_booked}
use Rattle.machine.specs.Making.Lines.{may_book}
use Rattle.machine.specs.Legal.{IsLegal}
use Rattle.settlement_laws.proofs.Base.Counting.{passes_some}
use Rattle.settlement_laws.proofs.Base.LinesOf.{clock_stays}
use Rattle.settlement_laws.proofs.Base.Lists.{IsIn, never, all_in, find_all, from_filter, into_filter, is_numbered}
use Rattle.settlement_laws.proofs.Base.Made.{made_facts, made_book}
use Rattle.settlement_laws.proofs.Base.PhaseLaws.{table}
use Rattle.scan_laws.specs.Items.{frees_credits, IsSameItem}
use Rattle.scan_laws.specs.Views.{alone}
use Rattle.scan_laws.proofs.Kept.{place_same, read_same, unread, apart, untold}
use Rattle.scan_laws.proofs.PhaseKept.{open_row}
use Rattle.scan_laws.proofs.Passing.{opened_else}

-- ---- over lists

find_same : (p q : ℕ → Bool) (xs : List ℕ) → ((x : ℕ) → IsIn x xs → p x ≡ q x) → find p xs ≡ find q xs
find_same p q [] h = refl
find_same p q (x ∷ xs) h = let r = find_same p q xs (λ y i. h y (inr i)) in let s : p x ≡ q x = h x (inl refl) in λ i. cond (s i) (Some x) (r i)

all_same : (p q : ℕ → Bool) (xs : List ℕ) → ((x : ℕ) → IsIn x xs → p x ≡ q x) → list_all p xs ≡ list_all q xs
all_same p q [] h = refl
all_same p q (x ∷ xs) h = let r = all_same p q xs (λ y i. h y (inr i)) in let s : p x ≡ q x = h x (inl refl) in λ i. s i && r i

fold_same : (f g : ℕ → ℕ → ℕ) (xs : List ℕ) (b : ℕ) → ((a x : ℕ) → IsIn x xs → f a x ≡ g a x) → fold f b xs ≡ fold g b xs
fold_same f g [] b h = refl
fold_same f g (x ∷ xs) b h = ap (λ a. fold f a xs) (h b x (inl refl)) ∙ fold_same f g xs (g b x) (λ a y i. h a y (inr i))

-- ---- the phase of a message of which an entry is booked

abbrev pub is_quiet : Phase → Bool
is_quiet p = is_open p || is_covered p

pub quiet_pending : (s : Sort) (day : Day) (J : History) (n k : ℕ) (p : Phase) → pending_as s day J n k p ≡ true → is_quiet p ≡ true
quiet_pending s day J n k phases.Open h = refl
quiet_pending s day J n k phases.Covered h = refl
quiet_pending Pay day J n k _ h = never false (and_parts (is_zero k) false h).1 refl
quiet_pending BatchA day J n k _ h = never false h refl
quiet_pending BatchB day J n k _ h = never false (and_parts (is_zero k) false h).1 refl
quiet_pending BatchC day J n k _ h = never false (and_parts (is_some (entry_at day n k)) false (and_parts _ (not (is_booked J n k)) h).0).1 refl
quiet_pending BatchE day J n k _ h = never false (and_parts (is_some (entry_at day n k)) false (and_parts _ (not (is_booked J n k)) (and_parts _ (not (is_revoked_entry day J n k)) h).0).0).1 refl
quiet_pending _ day J n k _ h = never false h refl

pub quiet_alone : (day : Day) (n k : ℕ) (p : Phase) (t : ℕ) → is_quiet p ≡ true → alone day n k p t ≡ None
quiet_alone day n zero phases.Open t h = refl
quiet_alone day n zero phases.Covered t h = refl
quiet_alone day n zero _ t h = never false h refl
quiet_alone day n (suc k) p t h = refl

settled_alone : (day : Day) (n k : ℕ) (t : ℕ) → alone day n k phases.Settled t ≡ None
settled_alone day n zero t = refl
settled_alone day n (suc k) t = refl

abbrev after : Bool → Phase → Phase
after q p = if q then phases.Settled else p

settled_next : (q a b c d e f g h i j w k : Bool) → is_quiet (table a b c d e f g h i j w k) ≡ true → table a b c d e q g h i j w k ≡ after q (table a b c d e f g h i j w k)
settled_next true false false false false false f g h i j w k p = refl
settled_next false false false false false false false g h i j w k p = refl
settled_next false false false false false false true g h i j w k p = cc
settled_next q true b c d e f g h i j w k p = cc
settled_next q false true c d e f g h i j w k p = cc
settled_next q false false true d e f g h i j w k p = cc
settled_next q false false false true e f g h i j w k p = cc
settled_next q false false false false true f g h i j w k p = cc

unsettled : (a b c d e f g h i j w k : Bool) → is_quiet (table a b c d e f g h i j w k) ≡ true → f ≡ false
unsettled false false false false false false g h i j w k p = refl
unsettled false false false false false true g h i j w k p = cc
unsettled true b c d e f g h i j w k p = cc
unsettled false true c d e f g h i j w k p = cc
unsettled false false true d e f g h i j w k p = cc
unsettled false false false true e f g h i j w k p = cc
unsettled false false false false true f g h i j w k p = cc

quiet_unsettled : (day : Day) (J : History) (n : ℕ) → is_quiet (phase day J n) ≡ true → settled_as (sort_of day n) day J n ≡ false
unfolding phase
quiet_unsettled day J n h = unsettled (is_none (taken J n)) (not (is_accepted J n)) (is_no_order (sort_of day n)) (is_some (closed J n)) (revoked_as (sort_of day n) day J n) (settled_as (sort_of day n) day J n) (is_a (sort_of day n) && is_some (covered J n)) (is_some (asked J n) && is_some (answered day J n)) (is_some (asked J n)) (some_passes (nat_lt (clock J)) (info_end day n)) (some_passes (nat_lt (clock J)) (earliest day n)) (open_as (sort_of day n) day J n) h

-- ---- what a Book line doesn't tell

abbrev pub NoOther : Kind → Type 0
NoOther k = (is_in k ≡ false) × (is_all k ≡ false) × (is_ask k ≡ false) × (is_cover k ≡ false) × (is_expire_or_refuse k ≡ false) × (is_time k ≡ false)

pub no_other : (k : Kind) → is_book k ≡ true → NoOther k
no_other kinds.Book h = (refl, refl, refl, refl, refl, refl)
no_other _ h = cc

cycle_plain : (day : Day) (l : Line) (J : History) (n : ℕ) → is_in_of n l ≡ false → some_passes not (cycle_taken day (sender day n) l) ≡ false → cycle_ended day n (l ∷ J) ≡ cycle_ended day n J
unfolding cycle_ended
cycle_plain day l J n h k = λ i. if h i then false else (k i || cycle_ended day n J)

-- ---- Bools

or_case : {X : Type 0} (b d : Bool) → (b || d) ≡ true → (b ≡ true → X) → (d ≡ true → X) → X
or_case true d h f g = f refl
or_case false d h f g = g h

not_is : (b : Bool) → b ≡ false → not b ≡ true
not_is b h = ap not h

pub not_false : (b : Bool) → not b ≡ true → b ≡ false
not_false true h = cc
not_false false h = refl

exclusive : {X : Type 0} (day : Day) (n : ℕ) (o : Option Entry) → some_passes (is_debit_entry day n) o ≡ true → some_passes (is_credit_entry day n) o ≡ true → X
exclusive day n None h k = cc
exclusive day n (Some e) h k = never (is_debit_entry day n e) h (not_false (is_debit_entry day n e) k)

open_uncovered : (p : Phase) → is_open p ≡ true → is_covered p ≡ false
open_uncovered phases.Open h = refl
open_uncovered _ h = cc

covered_closed : (p : Phase) → is_covered p ≡ true → is_open p ≡ false
covered_closed phases.Covered h = refl
covered_closed _ h = cc

-- of C: an entry of a settled batch is booked
c_row : (t q x y : Bool) (p : Phase) → x ≡ y → (t ≡ true → q ≡ true → x ≡ true) → (t && is_open (after q p) && not x) ≡ (t && is_open p && not y)
c_row false q x y p e h = refl
c_row true false x y p e h = λ i. is_open p && not (e i)
c_row true true x y p e h = sym (apart (is_open p) (not y) (ap not (sym e ∙ h refl refl)))

e_row : (t q x y r z : Bool) (p : Phase) → x ≡ y → r ≡ z → (t ≡ true → q ≡ true → (x || r) ≡ true) → (t && is_open (after q p) && not x && not r) ≡ (t && is_open p && not y && not z)
e_row false q x y r z p e g h = refl
e_row true false x y r z p e g h = λ i. is_open p && not (e i) && not (g i)
e_row true true x y r z p e g h = or_case x r (h refl refl)
    (λ b. sym (untold (is_open p && not y) (not z) (apart (is_open p) (not y) (ap not (sym e ∙ b)))))
    (λ b. sym (apart (is_open p && not y) (not z) (ap not (sym g ∙ b))))

-- of A
a_row : (o v x d c u : Bool) → (c ≡ true → x ≡ true) → (o ≡ true → d ≡ true → x ≡ false → ⊥) → (o && (not x && (d || c && u)) || v && c && not x) ≡ false
a_row false false x d c u h k = refl
a_row false true true d true u h k = refl
a_row false true true d false u h k = refl
a_row false true false d true u h k = never false (h refl) refl
a_row false true false d false u h k = refl
a_row true false true d c u h k = refl
a_row true true true d true u h k = refl
a_row true true true d false u h k = refl
a_row true v false true c u h k = absurd (k refl refl refl)
a_row true v false false true u h k = never false (h refl) refl
a_row true false false false false u h k = refl
a_row true true false false false u h k = refl

a_unbooked : (o v x y w : Bool) → (o && (not x && y) || v && w && not x) ≡ true → x ≡ false
a_unbooked o v false y w h = refl
a_unbooked true true true y true h = cc
a_unbooked true true true y false h = cc
a_unbooked true false true y w h = cc
a_unbooked false true true y true h = cc
a_unbooked false true true y false h = cc
a_unbooked false false true y w h = cc

a_debit : (o v x d c u : Bool) → v ≡ false → u ≡ false → (o && (not x && (d || c && u)) || v && c && not x) ≡ true → d ≡ true
a_debit o v x true c u h k g = refl
a_debit o true x false c u h k g = cc
a_debit o v x false c true h k g = cc
a_debit true false true false c false h k g = cc
a_debit true false false false true false h k g = cc
a_debit true false false false false false h k g = cc
a_debit false false x false c false h k g = cc

pub a_credit : (o v x d c u : Bool) → o ≡ false → (o && (not x && (d || c && u)) || v && c && not x) ≡ true → c ≡ true
a_credit o v x d true u h g = refl
a_credit true v x d false u h g = cc
a_credit false true x d false u h g = cc
a_credit false false x d false u h g = cc

a_free : (o v x d c u : Bool) → v ≡ false → d ≡ false → (o && (not x && (d || c && u)) || v && c && not x) ≡ true → u ≡ true
a_free o v x d c true h k g = refl
a_free o true x d c false h k g = cc
a_free o v x true c false h k g = cc
a_free true false true false c false h k g = cc
a_free true false false false true false h k g = cc
a_free true false false false false false h k g = cc
a_free false false x false c false h k g = cc

-- ---- the Book line of (n, k), and another entry j

module _ (day : Day) (J : History) (l : Line) (book : is_book l.head.kind ≡ true) where
  abbrev n : ℕ
  n = l.head.msg

  abbrev k : ℕ
  k = l.head.entry

  abbrev K : History
  K = l ∷ J

  others : NoOther l.head.kind
  others = no_other l.head.kind book

  takes_nothing : takes_well l ≡ false
  takes_nothing = untold (is_in l.head.kind) (is_ok l.head.code) others.0

  no_in : is_in_of n l ≡ false
  no_in = untold (is_in l.head.kind) (nat_eq n n) others.0

  taken_same : taken K n ≡ taken J n
  taken_same = place_same (is_in_of n) l J no_in

  code_same : taken_code K n ≡ taken_code J n
  code_same = read_same (λ x. when (is_in_of n x) x.head.code) l J (unread (is_in_of n l) l.head.code no_in)

  booked_same : (j : ℕ) → (j ≡ k → ⊥) → booked K n j ≡ booked J n j
  booked_same j ne = place_same (is_book_of n j) l J (apart (is_book l.head.kind && nat_eq n n) (nat_eq k j) (ne_eqb k j (λ e. ne (sym e))))

  covered_same : covered K n ≡ covered J n
  covered_same = place_same (is_cover_of n) l J (untold (is_cover l.head.kind) (nat_eq n n) others.3)

  closed_same : closed K n ≡ closed J n
  closed_same = place_same (is_closing_of n) l J (untold (is_expire_or_refuse l.head.kind) (nat_eq n n) others.4)

  asked_same : asked K n ≡ asked J n
  asked_same = place_same (is_ask_of n) l J (untold (is_ask l.head.kind) (nat_eq n n) others.2)

  answered_same : answered day K n ≡ answered day J n
  answered_same = place_same (λ x. is_some (answer_taken day n x)) l J (ap (λ b. is_some (if b then answer_of_message day n (message_at day l.head.msg) else None)) takes_nothing)

  revoked_same : (j : ℕ) → revoked day K n j ≡ revoked day J n j
  revoked_same j = place_same (revokes day n j) l J (untold (takes_well l) _ takes_nothing)

  cycle_same : cycle_ended day n K ≡ cycle_ended day n J
  cycle_same = cycle_plain day l J n no_in (ap (λ b. some_passes not (if b then cycle_of_message (sender day n) (message_at day l.head.msg) else None)) takes_nothing)

  clock_same : clock K ≡ clock J
  clock_same = clock_stays l J others.5

  revoked_row : (s : Sort) → revoked_as s day K n ≡ revoked_as s day J n
  revoked_row BatchA = ap is_some (revoked_same 0)
  revoked_row BatchB = ap is_some (revoked_same 0)
  revoked_row BatchE = λ i. list_all (λ j. is_some (revoked_same j i)) (entry_numbers day n)
  revoked_row _ = refl

  phase_next : is_quiet (phase day J n) ≡ true → phase day K n ≡ after (settled_as (sort_of day n) day K n) (phase day J n)
  unfolding phase
  phase_next h =
      (λ i. table (is_none (taken_same i)) (not (some_passes is_ok (code_same i))) (is_no_order (sort_of day n)) (is_some (closed_same i)) (revoked_row (sort_of day n) i) (settled_as (sort_of day n) day K n)
      (is_a (sort_of day n) && is_some (covered_same i)) (is_some (asked_same i) && is_some (answered_same i)) (is_some (asked_same i)) (some_passes (nat_lt (clock_same i)) (info_end day n)) (some_passes (nat_lt (clock_same i)) (earliest day n))
      (open_row (sort_of day n) day K J n clock_same (ap (λ b. is_c (sort_of day n) && b) cycle_same) i))
      ∙ settled_next (settled_as (sort_of day n) day K n) (is_none (taken J n)) (not (is_accepted J n)) (is_no_order (sort_of day n)) (is_some (closed J n)) (revoked_as (sort_of day n) day J n) (settled_as (sort_of day n) day J n) (is_a (sort_of day n) && is_some (covered J n)) (is_some (asked J n) && is_some (answered day J n)) (is_some (asked J n)) (some_passes (nat_lt (clock J)) (info_end day n)) (some_passes (nat_lt (clock J)) (earliest day n)) (open_as (sort_of day n) day J n) h

  -- ---- of A

  -- no debit entry is left
  abbrev bare : History → Bool
  bare H = is_none (first_unbooked_debit day H n)

  debit_left : (i : ℕ) → is_debit day n i ≡ true → is_booked J n i ≡ false → bare J ≡ false
  debit_left i d b = false_from_ne_true (bare J) (λ h. never (not (is_booked J n i)) (not_is (is_booked J n i) b)
      (find_all (λ x. not (is_booked J n x)) (debit_numbers day n) h i (into_filter (is_debit day n) (entry_numbers day n) i (is_numbered i (entries day n) (passes_some (is_debit_entry day n) (entry_at day n i) d)) d)))

  not_booked : (i : ℕ) → (i ≡ k → ⊥) → is_booked K n i ≡ is_booked J n i
  not_booked i ne = ap is_some (booked_same i ne)

  bare_same : is_booked J n k ≡ false → (is_debit day n k && bare K) ≡ false → bare K ≡ bare J
  bare_same b = here (is_debit day n k) refl
    where
      here : (d : Bool) → is_debit day n k ≡ d → (d && bare K) ≡ false → bare K ≡ bare J
      here true e h = h ∙ sym (debit_left k e b)
      here false e h = ap is_none (find_same (λ x. not (is_booked K n x)) (λ x. not (is_booked J n x)) (debit_numbers day n)
          (λ x i. ap not (not_booked x (λ q. never (is_debit day n k) (subst (λ y. is_debit day n y ≡ true) q (from_filter (is_debit day n) (entry_numbers day n) x i).1) e))))

  credit_apart : {X : Type 0} (i : ℕ) → is_debit day n i ≡ true → is_credit day n i ≡ true → X
  credit_apart i d c = exclusive day n (entry_at day n i) d c

  -- where a debit was booked the credits are booked as before
  credits_same : is_debit day n k ≡ true → settled_as BatchA day K n ≡ settled_as BatchA day J n
  credits_same d = all_same (is_booked K n) (is_booked J n) (credit_numbers day n)
      (λ x i. not_booked x (λ q. credit_apart k d (subst (λ y. is_credit day n y ≡ true) q (from_filter (is_credit day n) (entry_numbers day n) x i).1)))

  credit_booked : (j : ℕ) → settled_as BatchA day K n ≡ true → is_credit day n j ≡ true → is_booked K n j ≡ true
  credit_booked j h c = all_in (is_booked K n) (credit_numbers day n) j h (into_filter (is_credit day n) (entry_numbers day n) j (is_numbered j (entries day n) (passes_some (is_credit_entry day n) (entry_at day n j) c)) c)

  pending_of_a : (p : Phase) (j : ℕ) → (j ≡ k → ⊥) → settled_as BatchA day J n ≡ false → pending_as BatchA day J n k p ≡ true → (is_debit day n k && bare K) ≡ false →
      pending_as BatchA day K n j (after (settled_as BatchA day K n) p) ≡ pending_as BatchA day J n j p
  pending_of_a p j ne left h free = here (settled_as BatchA day K n) refl
    where
      x : is_booked K n j ≡ is_booked J n j
      x = not_booked j ne

      unbooked : is_booked J n k ≡ false
      unbooked = a_unbooked (is_open p) (is_covered p) (is_booked J n k) (is_debit day n k || is_credit day n k && bare J) (is_credit day n k) h

      here : (q : Bool) → settled_as BatchA day K n ≡ q → pending_as BatchA day K n j (after q p) ≡ pending_as BatchA day J n j p
      here false e = λ i. is_open p && (not (x i) && (is_debit day n j || is_credit day n j && bare_same unbooked free i)) || is_covered p && is_credit day n j && not (x i)
      here true e = sym (a_row (is_open p) (is_covered p) (is_booked J n j) (is_debit day n j) (is_credit day n j) (bare J)
          (λ c. sym x ∙ credit_booked j e c)
          (λ o d b. never (settled_as BatchA day J n)
          (sym (credits_same (a_debit (is_open p) (is_covered p) (is_booked J n k) (is_debit day n k) (is_credit day n k) (bare J) (open_uncovered p o) (debit_left j d b) h)) ∙ e) left))

  -- ---- of all sorts

  pending_next : (s : Sort) (p : Phase) (j : ℕ) → (j ≡ k → ⊥) → is_b s ≡ false → settled_as s day J n ≡ false → pending_as s day J n k p ≡ true → (is_a s && is_debit day n k && bare K) ≡ false →
      pending_as s day K n j (after (settled_as s day K n) p) ≡ pending_as s day J n j p
  pending_next Pay p j ne b left h free = here j k ne (and_parts (is_zero k) (is_open p) h).0
    where
      here : (j k : ℕ) → (j ≡ k → ⊥) → is_zero k ≡ true → (is_zero j && is_open (after (settled_as Pay day K n) p)) ≡ (is_zero j && is_open p)
      here (suc j) k ne h = refl
      here zero zero ne h = absurd (ne refl)
      here zero (suc k) ne h = never false h refl
  pending_next BatchA p j ne b left h free = pending_of_a p j ne left h free
  pending_next BatchB p j ne b left h free = never true refl b
  pending_next BatchC p j ne b left h free = c_row (is_some (entry_at day n j)) (settled_as BatchC day K n) (is_booked K n j) (is_booked J n j) p (not_booked j ne)
      (λ t q. all_in (is_booked K n) (entry_numbers day n) j q (is_numbered j (entries day n) t))
  pending_next BatchE p j ne b left h free = e_row (is_some (entry_at day n j)) (settled_as BatchE day K n) (is_booked K n j) (is_booked J n j) (is_revoked_entry day K n j) (is_revoked_entry day J n j) p (not_booked j ne) (ap is_some (revoked_same j))
      (λ t q. all_in (λ x. is_booked K n x || is_revoked_entry day K n x) (entry_numbers day n) j q (is_numbered j (entries day n) t))
  pending_next _ p j ne b left h free = refl

  -- ---- where a pending item stands

  -- where a credit entry of an A batch is pending besides, the one that was booked is no debit entry
  no_debit : (p : Phase) (j : ℕ) → pending_as BatchA day J n k p ≡ true → pending_as BatchA day J n j p ≡ true → is_credit day n j ≡ true → is_debit day n k ≡ false
  no_debit p j h g c = false_from_ne_true (is_debit day n k) (λ d. or_case (is_open p) (is_covered p) (quiet_pending BatchA day J n k p h)
      (λ o. never (bare J)
      (a_free (is_open p) (is_covered p) (is_booked J n j) (is_debit day n j) (is_credit day n j) (bare J) (open_uncovered p o) (false_from_ne_true (is_debit day n j) (λ e. credit_apart j e c)) g)
      (debit_left k d (a_unbooked (is_open p) (is_covered p) (is_booked J n k) (is_debit day n k || is_credit day n k && bare J) (is_credit day n k) h)))
      (λ v. credit_apart k d (a_credit (is_open p) (is_covered p) (is_booked J n k) (is_debit day n k) (is_credit day n k) (bare J) (covered_closed p v) h)))

  last_same : is_debit day n k ≡ false → last_debit_booked day K n ≡ last_debit_booked day J n
  last_same d = fold_same (λ last x. max last (unwrap_or (booked K n x) 0)) (λ last x. max last (unwrap_or (booked J n x) 0)) (debit_numbers day n) 0
      (λ a x i. ap (λ o. max a (unwrap_or o 0)) (booked_same x (λ q. never (is_debit day n k) (subst (λ y. is_debit day n y ≡ true) q (from_filter (is_debit day n) (entry_numbers day n) x i).1) d)))

  active_next : (s : Sort) (p : Phase) (j : ℕ) → pending_as s day J n k p ≡ true → pending_as s day J n j p ≡ true →
      (if is_a s && is_credit day n j then unwrap_or (covered K n) (last_debit_booked day K n) else opened_at day K n (settlement_start day n))
      ≡ (if is_a s && is_credit day n j then unwrap_or (covered J n) (last_debit_booked day J n) else opened_at day J n (settlement_start day n))
  active_next BatchA p j h g = here (is_credit day n j) refl
    where
      here : (c : Bool) → is_credit day n j ≡ c → (if c then unwrap_or (covered K n) (last_debit_booked day K n) else opened_at day K n (settlement_start day n)) ≡ (if c then unwrap_or (covered J n) (last_debit_booked day J n) else opened_at day J n (settlement_start day n))
      here true e = let z = last_same (no_debit p j h g e) in λ i. unwrap_or (covered_same i) (z i)
      here false e = opened_else day l J n others.5 taken_same (settlement_start day n)
  active_next _ p j h g = opened_else day l J n others.5 taken_same (settlement_start day n)

  pub standing_next : (j : ℕ) → is_pending day J (item n k) ≡ true → is_pending day J (item n j) ≡ true → standing day K (item n j) ≡ standing day J (item n j)
  unfolding is_pending
  standing_next j h g = λ i. record {
    priority = priority_as (sort_of day n) day n;
    active = active_next (sort_of day n) (phase day J n) j h g i;
    intake = unwrap_or (taken_same i) 0;
    entry = j;
  }

  -- ---- another item of the message

  pub book_parts : IsLegal day K → (is_pending day J (item n k) ≡ true) × (is_b (sort_of day n) ≡ false)
  book_parts legal =
      let may : may_book day J n k ≡ true = made_book l.head.kind day J n k l.head.code l.moves book (made_facts day J l legal.1).1 in
      let b = and_parts (is_pending day J (item n k)) (not (is_b (sort_of day n))) (and_parts _ _ may).0 in
      (b.0, not_false (is_b (sort_of day n)) b.1)

  pending_kept : (j : ℕ) → IsLegal day K → (j ≡ k → ⊥) → frees_credits day J l ≡ false → is_pending day K (item n j) ≡ is_pending day J (item n j)
  unfolding is_pending
  pending_kept j legal ne free =
      let b = book_parts legal in
      let quiet = quiet_pending (sort_of day n) day J n k (phase day J n) b.0 in
      ap (pending_as (sort_of day n) day K n j) (phase_next quiet) ∙ pending_next (sort_of day n) (phase day J n) j ne b.1 (quiet_unsettled day J n quiet) b.0 free

  quiet_now : IsLegal day K → is_quiet (phase day J n) ≡ true
  unfolding is_pending
  quiet_now legal = quiet_pending (sort_of day n) day J n k (phase day J n) (book_parts legal).0

  alone_kept : (j : ℕ) → IsLegal day K → alone day n j (phase day K n) (clock K) ≡ alone day n j (phase day J n) (clock J)
  alone_kept j legal =
      ap (λ p. alone day n j p (clock K)) (phase_next (quiet_now legal))
      ∙ here (settled_as (sort_of day n) day K n)
      ∙ sym (quiet_alone day n j (phase day J n) (clock J) (quiet_now legal))
    where
      here : (q : Bool) → alone day n j (after q (phase day J n)) (clock K) ≡ None
      here true = settled_alone day n j (clock K)
      here false = quiet_alone day n j (phase day J n) (clock K) (quiet_now legal)

  pub book_others : (j : ℕ) → IsLegal day K → (j ≡ k → ⊥) → frees_credits day J l ≡ false → IsSameItem day K J n j
  book_others j legal ne free = record {
    same_pending = pending_kept j legal ne free;
    same_standing = standing_next j (book_parts legal).0;
    same_alone = alone_kept j legal;
  }
