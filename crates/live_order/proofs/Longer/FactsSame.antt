-- Answers, objections and cycles: what a history that speaks of a day's messages alone tells with that day, it tells with a longer one.
use Rattle.std.proofs.Common.{◌≡◌, ◌∙◌, ℕ, suc, ◌≤◌, arith, Bool, true, false, ◌&&◌, ◌||◌, List, [], ◌∷◌, length, Option, Some, None, refl, sym, ap}
use Rattle.std.specs.Prelude.{not, if◌then◌else◌, nat_lt, is_some, is_none}
use Rattle.std.specs.List.{list_all}
use Rattle.std.proofs.lemmas.Bool.{and_right}
use Rattle.period_calendar.specs.declared.time.TheConstants.{MIDNIGHT}
use Rattle.batch_records.specs.declared.day.Body.{Body}
use Rattle.batch_records.specs.declared.day.Body.TheVariants as bodies
use Rattle.batch_records.specs.DayRecord.{Day}
use Rattle.batch_records.specs.declared.day.Message.{Message}
use Rattle.commit_journal.specs.Line.{Line, History}
use Rattle.machine.specs.declared.answers.Phase.TheVariants as phases
use Rattle.machine.specs.Words.{first_case, some_passes, when}
use Rattle.machine.specs.Records.Messages.{Sort, Pay, BatchA, BatchB, BatchC, BatchD, BatchE, sort_of, sender, message_at, is_a, names_batch}
use Rattle.machine.specs.Telling.History.{is_in_of, taken, is_accepted, closed, covered, asked, clock}
use Rattle.machine.specs.Telling.Facts.{takes_well, accepted_batch, answer_in, answer_of_message, answer_taken, answered, answer, objects, is_party, objection_in, revokes, revoked, cycle_of_message, cycle_taken, open_cycle, cycle_ended}
use Rattle.machine.specs.Stages.Phases.{is_booked, is_no_order, revoked_as, settled_as, open_as, phase}
use Rattle.live_order.specs.Longer.{longer, SpeaksOf}
use Rattle.live_order.proofs.Longer.Ranges.{find_front}
use Rattle.live_order.proofs.Longer.Known.{message_same, sort_same, by_sort, sender_same, entry_same, info_end_same, earliest_same, end_same, entry_numbers_same, credit_numbers_same, named_same}
use Rattle.live_order.proofs.Longer.Spoken.{never_accepted, place_same, read_same}

-- ---- cycles, from what a line takes

open_kept : (day : Day) (system : List ℕ) (l : Line) (J : History) → cycle_taken day system l ≡ None → open_cycle day system (l ∷ J) ≡ open_cycle day system J
unfolding open_cycle
open_kept day system l J e = rw e refl

open_begun : (day : Day) (system : List ℕ) (l : Line) (J : History) → cycle_taken day system l ≡ Some true → open_cycle day system (l ∷ J) ≡ Some (suc (length J))
unfolding open_cycle
open_begun day system l J e = rw e refl

open_ended : (day : Day) (system : List ℕ) (l : Line) (J : History) → cycle_taken day system l ≡ Some false → open_cycle day system (l ∷ J) ≡ None
unfolding open_cycle
open_ended day system l J e = rw e refl

open_step : (day other : Day) (system : List ℕ) (l : Line) (J : History) (o : Option Bool) → cycle_taken day system l ≡ o → cycle_taken other system l ≡ o →
    open_cycle other system J ≡ open_cycle day system J → open_cycle other system (l ∷ J) ≡ open_cycle day system (l ∷ J)
open_step day other system l J None e f same = open_kept other system l J f ∙ same ∙ sym (open_kept day system l J e)
open_step day other system l J (Some true) e f same = open_begun other system l J f ∙ sym (open_begun day system l J e)
open_step day other system l J (Some false) e f same = open_ended other system l J f ∙ sym (open_ended day system l J e)

module _ (day : Day) (ms : List Message) (ss : List ℕ) where
  -- ---- the accepted batch of a name

  pub batch_same : (J : History) → SpeaksOf (length day.messages) J → (system id : List ℕ) → accepted_batch (longer day ms ss) J system id ≡ accepted_batch day J system id
  batch_same J s system id =
      find_front (λ n. names_batch (longer day ms ss) system id n && is_accepted J n) (λ n. names_batch day system id n && is_accepted J n) 1 day.messages ms
      (λ n l. ap (λ b. b && is_accepted J n) (named_same day ms ss system id n (omega arith)))
      (λ n l m. and_right _ _ (never_accepted (length day.messages) n J s (omega arith)))

  -- ---- answers

  answer_in_same : (n : ℕ) → n ≤ length day.messages → (from : List ℕ) (b : Body) → answer_in (longer day ms ss) n from b ≡ answer_in day n from b
  answer_in_same n h from (bodies.Confirm id answer) = ap (λ t. when t answer) (named_same day ms ss from id n h)
  answer_in_same n h from _ = refl

  answer_of_same : (n : ℕ) → n ≤ length day.messages → (o : Option Message) → answer_of_message (longer day ms ss) n o ≡ answer_of_message day n o
  answer_of_same n h None = refl
  answer_of_same n h (Some m) = answer_in_same n h m.sender m.body

  pub answer_taken_same : (n : ℕ) → n ≤ length day.messages → (l : Line) → l.head.msg ≤ length day.messages → answer_taken (longer day ms ss) n l ≡ answer_taken day n l
  answer_taken_same n h l k =
      let e : answer_of_message (longer day ms ss) n (message_at (longer day ms ss) l.head.msg) ≡ answer_of_message day n (message_at day l.head.msg) =
      ap (answer_of_message (longer day ms ss) n) (message_same day ms ss l.head.msg k) ∙ answer_of_same n h (message_at day l.head.msg) in
      λ i. if takes_well l then e i else None

  pub answered_same : (J : History) → SpeaksOf (length day.messages) J → (n : ℕ) → n ≤ length day.messages → answered (longer day ms ss) J n ≡ answered day J n
  answered_same J s n h =
      place_same (length day.messages) (λ l. is_some (answer_taken (longer day ms ss) n l)) (λ l. is_some (answer_taken day n l)) (λ l k. ap is_some (answer_taken_same n h l k)) J s

  pub answer_same : (J : History) → SpeaksOf (length day.messages) J → (n : ℕ) → n ≤ length day.messages → answer (longer day ms ss) J n ≡ answer day J n
  answer_same J s n h = read_same (length day.messages) (answer_taken (longer day ms ss) n) (answer_taken day n) (answer_taken_same n h) J s

  -- ---- objections

  objects_same : (s : Sort) (n k : ℕ) → n ≤ length day.messages → (bank : List ℕ) → objects (longer day ms ss) s n k bank ≡ objects day s n k bank
  objects_same BatchA n k h bank = refl
  objects_same BatchB n k h bank = refl
  objects_same BatchE n k h bank = ap (some_passes (is_party day bank)) (entry_same day ms ss n k h)
  objects_same _ n k h bank = refl

  objection_same : (n k : ℕ) → n ≤ length day.messages → (from : List ℕ) (b : Body) → objection_in (longer day ms ss) n k from b ≡ objection_in day n k from b
  objection_same n k h from (bodies.Object system id) =
      let e : objects (longer day ms ss) (sort_of (longer day ms ss) n) n k from ≡ objects day (sort_of day n) n k from =
      by_sort day ms ss (λ s. objects (longer day ms ss) s n k from) (λ s. objects day s n k from) (λ s. objects_same s n k h from) n h in
      λ i. named_same day ms ss system id n h i && e i
  objection_same n k h from _ = refl

  objected_same : (n k : ℕ) → n ≤ length day.messages → (o : Option Message) →
      some_passes (λ m. objection_in (longer day ms ss) n k m.sender m.body) o ≡ some_passes (λ m. objection_in day n k m.sender m.body) o
  objected_same n k h None = refl
  objected_same n k h (Some m) = objection_same n k h m.sender m.body

  revokes_same : (n k : ℕ) → n ≤ length day.messages → (l : Line) → l.head.msg ≤ length day.messages → revokes (longer day ms ss) n k l ≡ revokes day n k l
  revokes_same n k h l low =
      let e : some_passes (λ m. objection_in (longer day ms ss) n k m.sender m.body) (message_at (longer day ms ss) l.head.msg) ≡ some_passes (λ m. objection_in day n k m.sender m.body) (message_at day l.head.msg) =
      ap (some_passes (λ m. objection_in (longer day ms ss) n k m.sender m.body)) (message_same day ms ss l.head.msg low) ∙ objected_same n k h (message_at day l.head.msg) in
      λ i. takes_well l && e i

  pub revoked_same : (J : History) → SpeaksOf (length day.messages) J → (n k : ℕ) → n ≤ length day.messages → revoked (longer day ms ss) J n k ≡ revoked day J n k
  revoked_same J s n k h = place_same (length day.messages) (revokes (longer day ms ss) n k) (revokes day n k) (revokes_same n k h) J s

  -- ---- cycles

  pub cycle_taken_same : (system : List ℕ) (l : Line) → l.head.msg ≤ length day.messages → cycle_taken (longer day ms ss) system l ≡ cycle_taken day system l
  cycle_taken_same system l k = λ i. if takes_well l then cycle_of_message system (message_same day ms ss l.head.msg k i) else None

  pub open_same : (system : List ℕ) (J : History) → SpeaksOf (length day.messages) J → open_cycle (longer day ms ss) system J ≡ open_cycle day system J
  unfolding open_cycle
  open_same system [] s = refl
  open_same system (l ∷ J) s =
      open_step day (longer day ms ss) system l J (cycle_taken day system l) refl (cycle_taken_same system l s.1) (open_same system J s.0)

  pub ended_same : (n : ℕ) (J : History) → SpeaksOf (length day.messages) J → n ≤ length day.messages → cycle_ended (longer day ms ss) n J ≡ cycle_ended day n J
  unfolding cycle_ended
  ended_same n [] s h = refl
  ended_same n (l ∷ J) s h =
      let e : cycle_taken (longer day ms ss) (sender (longer day ms ss) n) l ≡ cycle_taken day (sender day n) l =
      ap (λ x. cycle_taken (longer day ms ss) x l) (sender_same day ms ss n h) ∙ cycle_taken_same (sender day n) l s.1 in
      λ i. if is_in_of n l then false else (some_passes not (e i) || ended_same n J s.0 h i)

  -- ---- phases

  revoked_by_sort : (J : History) → SpeaksOf (length day.messages) J → (n : ℕ) → n ≤ length day.messages → (s : Sort) → revoked_as s (longer day ms ss) J n ≡ revoked_as s day J n
  revoked_by_sort J k n h BatchA = ap is_some (revoked_same J k n 0 h)
  revoked_by_sort J k n h BatchB = ap is_some (revoked_same J k n 0 h)
  revoked_by_sort J k n h BatchE = λ i. list_all (λ e. is_some (revoked_same J k n e h i)) (entry_numbers_same day ms ss n h i)
  revoked_by_sort J k n h _ = refl

  settled_by_sort : (J : History) → SpeaksOf (length day.messages) J → (n : ℕ) → n ≤ length day.messages → (s : Sort) → settled_as s (longer day ms ss) J n ≡ settled_as s day J n
  settled_by_sort J k n h Pay = refl
  settled_by_sort J k n h BatchA = ap (list_all (is_booked J n)) (credit_numbers_same day ms ss n h)
  settled_by_sort J k n h BatchB = refl
  settled_by_sort J k n h BatchC = ap (list_all (is_booked J n)) (entry_numbers_same day ms ss n h)
  settled_by_sort J k n h BatchD = refl
  settled_by_sort J k n h BatchE = λ i. list_all (λ e. is_booked J n e || is_some (revoked_same J k n e h i)) (entry_numbers_same day ms ss n h i)
  settled_by_sort J k n h _ = refl

  open_by_sort : (J : History) → SpeaksOf (length day.messages) J → (n : ℕ) → n ≤ length day.messages → (s : Sort) → open_as s (longer day ms ss) J n ≡ open_as s day J n
  open_by_sort J k n h BatchA = ap (nat_lt (clock J)) (end_same day ms ss n h)
  open_by_sort J k n h BatchB = ap (nat_lt (clock J)) (end_same day ms ss n h)
  open_by_sort J k n h BatchE = ap (nat_lt (clock J)) (end_same day ms ss n h)
  open_by_sort J k n h BatchC = ap (λ b. nat_lt (clock J) MIDNIGHT && not b) (ended_same n J k h)
  open_by_sort J k n h Pay = refl
  open_by_sort J k n h _ = refl

  pub phase_same : (J : History) → SpeaksOf (length day.messages) J → (n : ℕ) → n ≤ length day.messages → phase (longer day ms ss) J n ≡ phase day J n
  unfolding phase
  phase_same J k n h =
      let r : revoked_as (sort_of (longer day ms ss) n) (longer day ms ss) J n ≡ revoked_as (sort_of day n) day J n =
      by_sort day ms ss (λ s. revoked_as s (longer day ms ss) J n) (λ s. revoked_as s day J n) (revoked_by_sort J k n h) n h in
      let s : settled_as (sort_of (longer day ms ss) n) (longer day ms ss) J n ≡ settled_as (sort_of day n) day J n =
      by_sort day ms ss (λ s. settled_as s (longer day ms ss) J n) (λ s. settled_as s day J n) (settled_by_sort J k n h) n h in
      let o : open_as (sort_of (longer day ms ss) n) (longer day ms ss) J n ≡ open_as (sort_of day n) day J n =
      by_sort day ms ss (λ s. open_as s (longer day ms ss) J n) (λ s. open_as s day J n) (open_by_sort J k n h) n h in
      λ i. first_case (
      (is_none (taken J n), phases.Untaken)
      ∷ (not (is_accepted J n), phases.Rejected)
      ∷ (is_no_order (sort_same day ms ss n h i), phases.Settled)
      ∷ (is_some (closed J n), phases.Closed)
      ∷ (r i, phases.Revoked)
      ∷ (s i, phases.Settled)
      ∷ (is_a (sort_same day ms ss n h i) && is_some (covered J n), phases.Covered)
      ∷ (is_some (asked J n) && is_some (answered_same J k n h i), phases.Answered)
      ∷ (is_some (asked J n), phases.Asking)
      ∷ (some_passes (nat_lt (clock J)) (info_end_same day ms ss n h i), phases.Information)
      ∷ (some_passes (nat_lt (clock J)) (earliest_same day ms ss n h i), phases.Waiting)
      ∷ (o i, phases.Open)
      ∷ []) phases.Overdue
