-- Pending items, where they stand, and what stands before them: of a longer day's further messages none is pending, as none is taken.
use Rattle.std.proofs.Common.{◌≡◌, ◌∙◌, ℕ, suc, ◌<◌, ◌≤◌, arith, Bool, true, false, List, [], ◌∷◌, length, Option, Some, None, refl, ap}
use Rattle.std.specs.Prelude.{◌&&◌, ◌||◌, not, if◌then◌else◌, nat_eq, is_some, is_none, unwrap_or, fold, max}
use Rattle.std.specs.List.{find, list_any, range_with_len}
use Rattle.std.proofs.lemmas.Bool.{and_left, and_right}
use Rattle.batch_records.specs.DayRecord.{Day}
use Rattle.batch_records.specs.declared.day.Entry.{Entry}
use Rattle.batch_records.specs.declared.day.Message.{Message}
use Rattle.commit_journal.specs.Line.{History}
use Rattle.machine.specs.declared.answers.Item.{Item}
use Rattle.machine.specs.declared.answers.Phase.{Phase}
use Rattle.machine.specs.declared.answers.Phase.TheVariants as phases
use Rattle.machine.specs.Records.Messages.{Sort, Pay, BatchA, BatchB, BatchC, BatchE, sort_of, entry_at, item_numbers, part, settlement_start, is_a}
use Rattle.machine.specs.Telling.History.{taken, booked, covered}
use Rattle.machine.specs.Stages.Phases.{phase, is_open, is_covered, is_booked}
use Rattle.machine.specs.Stages.Pending.{item, first_unbooked_debit, is_next_of_a, pending_as, is_pending, debit_accounts, debit_account_of_part, debit_accounts_as, stands_on, priority_as, is_normal, last_debit_booked, opened_at, active_place, standing, is_ahead, stands_before, is_blocker, is_blocked_by, is_blocked}
use Rattle.machine.specs.Stages.Blockers.{ahead_of, pick, pick_of, first_blocker}
use Rattle.live_order.specs.Longer.{longer, SpeaksOf}
use Rattle.live_order.proofs.Longer.Ranges.{any_front, fold_front_with, fold_same_with}
use Rattle.live_order.proofs.Longer.Known.{sort_same, by_sort, entries_same, entry_same, part_same, start_same, high_same, is_debit_same, is_credit_same, debtors_same, debit_numbers_same}
use Rattle.live_order.proofs.Longer.Spoken.{never_taken}
use Rattle.live_order.proofs.Longer.FactsSame.{revoked_same, phase_same}

-- ---- what isn't taken isn't pending

pub phase_untaken : (day : Day) (J : History) (n : ℕ) → taken J n ≡ None → phase day J n ≡ phases.Untaken
unfolding phase
phase_untaken day J n e = rw e refl

pending_untaken : (s : Sort) (day : Day) (J : History) (n k : ℕ) → pending_as s day J n k phases.Untaken ≡ false
pending_untaken Pay day J n k = and_right _ _ refl
pending_untaken BatchA day J n k = refl
pending_untaken BatchB day J n k = and_right _ _ refl
pending_untaken BatchC day J n k = and_left _ _ (and_right (is_some (entry_at day n k)) false refl)
pending_untaken BatchE day J n k = and_left _ _ (and_left _ _ (and_right (is_some (entry_at day n k)) false refl))
pending_untaken _ day J n k = refl

pub never_pending : (day : Day) (J : History) (x : Item) → taken J x.msg ≡ None → is_pending day J x ≡ false
unfolding is_pending
never_pending day J x e = ap (pending_as (sort_of day x.msg) day J x.msg x.entry) (phase_untaken day J x.msg e) ∙ pending_untaken (sort_of day x.msg) day J x.msg x.entry

pub any_none : (test : ℕ → Bool) → ((k : ℕ) → test k ≡ false) → (ks : List ℕ) → list_any test ks ≡ false
any_none test none [] = refl
any_none test none (k ∷ ks) = λ i. none k i || any_none test none ks i

module _ (day : Day) (ms : List Message) (ss : List ℕ) where
  -- ---- which are pending

  pub unbooked_debit_same : (J : History) (n : ℕ) → n ≤ length day.messages → first_unbooked_debit (longer day ms ss) J n ≡ first_unbooked_debit day J n
  unbooked_debit_same J n h = ap (find (λ k. not (is_booked J n k))) (debit_numbers_same day ms ss n h)

  next_of_a_same : (J : History) (n k : ℕ) → n ≤ length day.messages → is_next_of_a (longer day ms ss) J n k ≡ is_next_of_a day J n k
  next_of_a_same J n k h = λ i. not (is_booked J n k) && (is_debit_same day ms ss n k h i || is_credit_same day ms ss n k h i && is_none (unbooked_debit_same J n h i))

  pending_by_sort : (J : History) → SpeaksOf (length day.messages) J → (n k : ℕ) (p : Phase) → n ≤ length day.messages → (s : Sort) → pending_as s (longer day ms ss) J n k p ≡ pending_as s day J n k p
  pending_by_sort J f n k p h Pay = refl
  pending_by_sort J f n k p h BatchA = λ i. is_open p && next_of_a_same J n k h i || is_covered p && is_credit_same day ms ss n k h i && not (is_booked J n k)
  pending_by_sort J f n k p h BatchB = refl
  pending_by_sort J f n k p h BatchC = λ i. is_some (entry_same day ms ss n k h i) && is_open p && not (is_booked J n k)
  pending_by_sort J f n k p h BatchE = λ i. is_some (entry_same day ms ss n k h i) && is_open p && not (is_booked J n k) && not (is_some (revoked_same day ms ss J f n k h i))
  pending_by_sort J f n k p h _ = refl

  pub pending_same : (J : History) → SpeaksOf (length day.messages) J → (x : Item) → x.msg ≤ length day.messages → is_pending (longer day ms ss) J x ≡ is_pending day J x
  unfolding is_pending
  pending_same J f x h =
      ap (pending_as (sort_of (longer day ms ss) x.msg) (longer day ms ss) J x.msg x.entry) (phase_same day ms ss J f x.msg h)
      ∙ by_sort day ms ss (λ s. pending_as s (longer day ms ss) J x.msg x.entry (phase day J x.msg)) (λ s. pending_as s day J x.msg x.entry (phase day J x.msg)) (pending_by_sort J f x.msg x.entry (phase day J x.msg) h) x.msg h

  -- ---- where they stand

  part_accounts_same : (o : Option Entry) → debit_account_of_part (longer day ms ss) o ≡ debit_account_of_part day o
  part_accounts_same None = refl
  part_accounts_same (Some e) = refl

  other_accounts_same : (n k : ℕ) → n ≤ length day.messages → debit_account_of_part (longer day ms ss) (part (longer day ms ss) n k) ≡ debit_account_of_part day (part day n k)
  other_accounts_same n k h = ap (debit_account_of_part (longer day ms ss)) (part_same day ms ss n k h) ∙ part_accounts_same (part day n k)

  debits_by_sort : (n k : ℕ) → n ≤ length day.messages → (s : Sort) → debit_accounts_as s (longer day ms ss) n k ≡ debit_accounts_as s day n k
  debits_by_sort n k h BatchB = debtors_same day ms ss n h
  debits_by_sort n k h _ = other_accounts_same n k h

  pub debit_accounts_same : (x : Item) → x.msg ≤ length day.messages → debit_accounts (longer day ms ss) x ≡ debit_accounts day x
  debit_accounts_same x h =
      by_sort day ms ss (λ s. debit_accounts_as s (longer day ms ss) x.msg x.entry) (λ s. debit_accounts_as s day x.msg x.entry) (debits_by_sort x.msg x.entry h) x.msg h

  pub stands_same : (a : ℕ) (x : Item) → x.msg ≤ length day.messages → stands_on (longer day ms ss) a x ≡ stands_on day a x
  stands_same a x h = ap (list_any (λ b. nat_eq b a)) (debit_accounts_same x h)

  priority_by_sort : (n : ℕ) → n ≤ length day.messages → (s : Sort) → priority_as s (longer day ms ss) n ≡ priority_as s day n
  priority_by_sort n h Pay = λ i. if high_same day ms ss n h i then 1 else 2
  priority_by_sort n h _ = refl

  pub priority_same : (n : ℕ) → n ≤ length day.messages → priority_as (sort_of (longer day ms ss) n) (longer day ms ss) n ≡ priority_as (sort_of day n) day n
  priority_same n h = by_sort day ms ss (λ s. priority_as s (longer day ms ss) n) (λ s. priority_as s day n) (priority_by_sort n h) n h

  opened_by_start : (J : History) (n : ℕ) (o : Option ℕ) → opened_at (longer day ms ss) J n o ≡ opened_at day J n o
  opened_by_start J n None = refl
  opened_by_start J n (Some start) = refl

  last_booked_same : (J : History) (n : ℕ) → n ≤ length day.messages → last_debit_booked (longer day ms ss) J n ≡ last_debit_booked day J n
  last_booked_same J n h = ap (λ ks. fold (λ last k. max last (unwrap_or (booked J n k) 0)) 0 ks) (debit_numbers_same day ms ss n h)

  active_same : (J : History) (x : Item) → x.msg ≤ length day.messages → active_place (longer day ms ss) J x ≡ active_place day J x
  active_same J x h =
      let o : opened_at (longer day ms ss) J x.msg (settlement_start (longer day ms ss) x.msg) ≡ opened_at day J x.msg (settlement_start day x.msg) =
      ap (opened_at (longer day ms ss) J x.msg) (start_same day ms ss x.msg h) ∙ opened_by_start J x.msg (settlement_start day x.msg) in
      λ i.
      if is_a (sort_same day ms ss x.msg h i) && is_credit_same day ms ss x.msg x.entry h i
      then unwrap_or (covered J x.msg) (last_booked_same J x.msg h i)
      else o i

  pub standing_same : (J : History) (x : Item) → x.msg ≤ length day.messages → standing (longer day ms ss) J x ≡ standing day J x
  standing_same J x h = λ i. record {
    priority = priority_same x.msg h i;
    active = active_same J x h i;
    intake = unwrap_or (taken J x.msg) 0;
    entry = x.entry;
  }

  pub before_same : (J : History) (x y : Item) → x.msg ≤ length day.messages → y.msg ≤ length day.messages → stands_before (longer day ms ss) J x y ≡ stands_before day J x y
  before_same J x y h k = λ i. not (is_normal (priority_same y.msg k i)) && is_ahead (standing_same J y k i) (standing_same J x h i)

  -- ---- what stands before them

  pub blocker_same : (J : History) → SpeaksOf (length day.messages) J → (x : Item) (a : ℕ) (y : Item) → x.msg ≤ length day.messages → y.msg ≤ length day.messages →
      is_blocker (longer day ms ss) J x a y ≡ is_blocker day J x a y
  blocker_same J f x a y h k = λ i. pending_same J f y k i && stands_same a y k i && before_same J x y h k i

  never_blocks : (J : History) → SpeaksOf (length day.messages) J → (x : Item) (a : ℕ) (y : Item) → length day.messages < y.msg → is_blocker (longer day ms ss) J x a y ≡ false
  never_blocks J f x a y k = and_left _ _ (and_left _ _ (never_pending (longer day ms ss) J y (never_taken (length day.messages) y.msg J f k)))

  item_numbers_same : (n : ℕ) → n ≤ length day.messages → item_numbers (longer day ms ss) n ≡ item_numbers day n
  item_numbers_same n h = ap (λ es. range_with_len 0 (suc (length es))) (entries_same day ms ss n h)

  pub blocked_by_same : (J : History) → SpeaksOf (length day.messages) J → (x : Item) (a n : ℕ) → x.msg ≤ length day.messages → n ≤ length day.messages →
      is_blocked_by (longer day ms ss) J x a n ≡ is_blocked_by day J x a n
  unfolding is_blocked_by
  blocked_by_same J f x a n h k = λ i. list_any (λ e. blocker_same J f x a (item n e) h k i) (item_numbers_same n k i)

  never_blocked_by : (J : History) → SpeaksOf (length day.messages) J → (x : Item) (a n : ℕ) → length day.messages < n → is_blocked_by (longer day ms ss) J x a n ≡ false
  unfolding is_blocked_by
  never_blocked_by J f x a n k = any_none (λ e. is_blocker (longer day ms ss) J x a (item n e)) (λ e. never_blocks J f x a (item n e) k) (item_numbers (longer day ms ss) n)

  pub blocked_same : (J : History) → SpeaksOf (length day.messages) J → (x : Item) (a : ℕ) → x.msg ≤ length day.messages → is_blocked (longer day ms ss) J x a ≡ is_blocked day J x a
  unfolding is_blocked
  blocked_same J f x a h =
      any_front (is_blocked_by (longer day ms ss) J x a) (is_blocked_by day J x a) 1 day.messages ms
      (λ n l. blocked_by_same J f x a n h (omega arith)) (λ n l. never_blocked_by J f x a n (omega arith))

  -- ---- the foremost of them

  abbrev pub IsOwn : Option Item → Type 0
  IsOwn None = Unit {0}
  IsOwn (Some y) = y.msg ≤ length day.messages

  ahead_same : (J : History) (best : Option Item) (y : Item) → IsOwn best → y.msg ≤ length day.messages → ahead_of (longer day ms ss) J best y ≡ ahead_of day J best y
  ahead_same J None y b k = refl
  ahead_same J (Some z) y b k = λ i. if is_ahead (standing_same J y k i) (standing_same J z b i) then y else z

  ahead_own : (J : History) (best : Option Item) (y : Item) → IsOwn best → y.msg ≤ length day.messages → (ahead_of day J best y).msg ≤ length day.messages
  ahead_own J None y b k = k
  ahead_own J (Some z) y b k = here (is_ahead (standing day J y) (standing day J z))
    where
      here : (t : Bool) → (if t then y else z).msg ≤ length day.messages
      here true = k
      here false = b

  pick_same : (J : History) → SpeaksOf (length day.messages) J → (x : Item) (a : ℕ) (best : Option Item) (y : Item) → x.msg ≤ length day.messages → IsOwn best → y.msg ≤ length day.messages →
      pick (longer day ms ss) J x a best y ≡ pick day J x a best y
  pick_same J f x a best y h b k = λ i. if blocker_same J f x a y h k i then Some (ahead_same J best y b k i) else best

  pick_own : (J : History) (x : Item) (a : ℕ) (best : Option Item) (y : Item) → IsOwn best → y.msg ≤ length day.messages → IsOwn (pick day J x a best y)
  pick_own J x a best y b k = here (is_blocker day J x a y)
    where
      here : (t : Bool) → IsOwn (if t then Some (ahead_of day J best y) else best)
      here true = ahead_own J best y b k
      here false = b

  pick_of_own : (J : History) (x : Item) (a : ℕ) (best : Option Item) (n : ℕ) → IsOwn best → n ≤ length day.messages → (ks : List ℕ) → IsOwn (fold (λ found k. pick day J x a found (item n k)) best ks)
  pick_of_own J x a best n b h [] = b
  pick_of_own J x a best n b h (k ∷ ks) = pick_of_own J x a (pick day J x a best (item n k)) n (pick_own J x a best (item n k) b h) h ks

  picked_same : (J : History) → SpeaksOf (length day.messages) J → (x : Item) (a : ℕ) (best : Option Item) (n : ℕ) → x.msg ≤ length day.messages → IsOwn best → n ≤ length day.messages →
      pick_of (longer day ms ss) J x a best n ≡ pick_of day J x a best n
  unfolding pick_of
  picked_same J f x a best n h b k =
      (λ i. fold (λ found e. pick (longer day ms ss) J x a found (item n e)) best (item_numbers_same n k i))
      ∙ fold_same_with IsOwn (λ found e. pick (longer day ms ss) J x a found (item n e)) (λ found e. pick day J x a found (item n e))
      (λ found e q. pick_same J f x a found (item n e) h q k) (λ found e q. pick_own J x a found (item n e) q k) best (item_numbers day n) b

  none_picked : (J : History) → SpeaksOf (length day.messages) J → (x : Item) (a : ℕ) (n : ℕ) → length day.messages < n → (best : Option Item) (ks : List ℕ) →
      fold (λ found k. pick (longer day ms ss) J x a found (item n k)) best ks ≡ best
  none_picked J f x a n k best [] = refl
  none_picked J f x a n k best (e ∷ es) =
      (λ i. fold (λ found z. pick (longer day ms ss) J x a found (item n z)) (if never_blocks J f x a (item n e) k i then Some (ahead_of (longer day ms ss) J best (item n e)) else best) es)
      ∙ none_picked J f x a n k best es

  none_picked_of : (J : History) → SpeaksOf (length day.messages) J → (x : Item) (a : ℕ) (best : Option Item) (n : ℕ) → length day.messages < n → pick_of (longer day ms ss) J x a best n ≡ best
  unfolding pick_of
  none_picked_of J f x a best n k = none_picked J f x a n k best (item_numbers (longer day ms ss) n)

  picked_own : (J : History) (x : Item) (a : ℕ) (best : Option Item) (n : ℕ) → IsOwn best → n ≤ length day.messages → IsOwn (pick_of day J x a best n)
  unfolding pick_of
  picked_own J x a best n b h = pick_of_own J x a best n b h (item_numbers day n)

  pub first_blocker_same : (J : History) → SpeaksOf (length day.messages) J → (x : Item) (a : ℕ) → x.msg ≤ length day.messages → first_blocker (longer day ms ss) J x a ≡ first_blocker day J x a
  unfolding first_blocker
  first_blocker_same J f x a h =
      fold_front_with IsOwn (pick_of (longer day ms ss) J x a) (pick_of day J x a) None 1 day.messages ms tt
      (λ c n l q. picked_same J f x a c n h q (omega arith)) (λ c n l q. picked_own J x a c n q (omega arith)) (λ c n l. none_picked_of J f x a c n (omega arith))
