-- What is ready of a message first is what its phase leaves.
use Rattle.std.proofs.Common.{◌≡◌, ℕ, zero, suc, ◌+◌, ◌≤◌, Bool, true, false, ◌&&◌, not, List, [], ◌∷◌, length, Option, Some, None, is_some, refl, sym, ap, ◌∙◌, arith, cond}
use Rattle.std.specs.Prelude.{if◌then◌else◌, option_map}
use Rattle.std.specs.List.{find, range_with_len}
use Rattle.std.proofs.lemmas.Bool.{false≢true, and_right}
use Rattle.cash_amounts.specs.Tests.{some_passes}
use Rattle.batch_records.specs.DayRecord.{Day}
use Rattle.commit_journal.specs.declared.line.Want.{Want}
use Rattle.commit_journal.specs.declared.line.Want.TheVariants as wants
use Rattle.commit_journal.specs.Line.{History}
use Rattle.machine.specs.declared.answers.Phase.{Phase}
use Rattle.machine.specs.declared.answers.Phase.TheVariants as phases
use Rattle.machine.specs.Words.{first_some, when}
use Rattle.machine.specs.Records.Messages.{Sort, Pay, BatchA, BatchB, BatchC, BatchE, sort_of, entries, entry_at, item_numbers, is_a, is_b, is_c, is_e, is_pay, part}
use Rattle.machine.specs.Stages.Phases.{phase, is_booked, is_covered, is_open, is_overdue, is_revoked_entry}
use Rattle.machine.specs.Stages.Pending.{is_pending, item, pending_as}
use Rattle.machine.specs.Orders.Hints.{unfinished}
use Rattle.machine.specs.Making.Lines.{is_covered_part, is_free_part, is_ready_item, is_ready_message, item_want, may_ask, may_book, may_cover, may_expire, may_item, may_lapse, may_settle_whole, message_want}
use Rattle.machine.specs.Making.FirstReady.{first_ready_item}
use Rattle.settlement_laws.proofs.Base.Searches.{find_any, mapped_is}
use Rattle.settlement_laws.proofs.Wants.Answering.{one_row, not_whole}
use Rattle.settle_floor.specs.Ready.{ready_in}
use Rattle.settle_floor.proofs.JudgingFacts.{lasting_sort}

-- ---- searches

find_nothing : {X : Type 0} (test : X → Bool) → ((x : X) → test x ≡ false) → (xs : List X) → find test xs ≡ None
find_nothing test h [] = refl
find_nothing test h (x ∷ xs) = ap (λ b. cond b (Some x) (find test xs)) (h x) ∙ find_nothing test h xs

find_same : {X : Type 0} (test other : X → Bool) → ((x : X) → test x ≡ other x) → (xs : List X) → find test xs ≡ find other xs
find_same test other h [] = refl
find_same test other h (x ∷ xs) = ap (λ b. cond b (Some x) (find test xs)) (h x) ∙ ap (λ o. cond (other x) (Some x) o) (find_same test other h xs)

none_behind : (test : ℕ → Bool) → ((k : ℕ) → 1 ≤ k → test k ≡ false) → (s len : ℕ) → 1 ≤ s → find test (range_with_len s len) ≡ None
none_behind test h s zero low = refl
none_behind test h s (suc len) low = ap (λ b. cond b (Some s) (find test (range_with_len (s + 1) len))) (h s low) ∙ none_behind test h (s + 1) len (omega arith)

of_later : (test : ℕ → Bool) → ((k : ℕ) → test (suc k) ≡ false) → (k : ℕ) → 1 ≤ k → test k ≡ false
of_later test h zero low = absurd (omega arith)
of_later test h (suc k) low = h k

-- where no entry passes, only item 0 can
only_first : (test : ℕ → Bool) → ((k : ℕ) → test (suc k) ≡ false) → (day : Day) (n : ℕ) → find test (item_numbers day n) ≡ cond (test 0) (Some 0) None
only_first test h day n = ap (λ o. cond (test 0) (Some 0) o) (none_behind test (of_later test h) 1 (length (entries day n)) (omega arith))

-- ---- nothing is booked of a message that is neither open nor covered, nor of a batch of B

no_pending : (s : Sort) (day : Day) (J : History) (n k : ℕ) (p : Phase) → is_open p ≡ false → is_covered p ≡ false → pending_as s day J n k p ≡ false
no_pending s day J n k phases.Open o c = absurd (false≢true (sym o))
no_pending s day J n k phases.Covered o c = absurd (false≢true (sym c))
no_pending Pay day J n k _ o c = and_right _ _ refl
no_pending BatchA day J n k _ o c = refl
no_pending BatchB day J n k _ o c = and_right _ _ refl
no_pending BatchC day J n k p o c = here (is_some (entry_at day n k)) (is_open p) (not (is_booked J n k)) o
  where
    here : (a b d : Bool) → b ≡ false → (a && b && d) ≡ false
    here true false d h = refl
    here false b d h = refl
    here true true d h = absurd (false≢true (sym h))
no_pending BatchE day J n k p o c = here (is_some (entry_at day n k)) (is_open p) (not (is_booked J n k)) (not (is_revoked_entry day J n k)) o
  where
    here : (a b d e : Bool) → b ≡ false → (a && b && d && e) ≡ false
    here true false d e h = refl
    here false b d e h = refl
    here true true d e h = absurd (false≢true (sym h))
no_pending _ day J n k p o c = refl

not_pending : (day : Day) (J : History) (n k : ℕ) → pending_as (sort_of day n) day J n k (phase day J n) ≡ false → may_book day J n k ≡ false
unfolding is_pending
not_pending day J n k h = ap (λ b. b && not (is_b (sort_of day n)) && some_passes (λ e. is_free_part day J (item n k) e && is_covered_part day J n e) (part day n k)) h

unbooked_in : (day : Day) (J : History) (n k : ℕ) (p : Phase) → phase day J n ≡ p → is_open p ≡ false → is_covered p ≡ false → may_book day J n k ≡ false
unbooked_in day J n k p e o c = not_pending day J n k (ap (pending_as (sort_of day n) day J n k) e ∙ no_pending (sort_of day n) day J n k p o c)

whole_unbooked : (day : Day) (J : History) (n k : ℕ) → is_b (sort_of day n) ≡ true → may_book day J n k ≡ false
whole_unbooked day J n k h = here (is_pending day J (item n k)) (is_b (sort_of day n)) _ h
  where
    here : (a b d : Bool) → b ≡ true → (a && not b && d) ≡ false
    here true true d h = refl
    here false b d h = refl
    here true false d h = absurd (false≢true h)

not_over : (day : Day) (J : History) (n : ℕ) (p : Phase) → phase day J n ≡ p → is_overdue p ≡ false → may_expire day J n ≡ false
not_over day J n p e h = here (may_lapse (sort_of day n)) (is_overdue (phase day J n)) (not (may_ask day J n)) (ap is_overdue e ∙ h)
  where
    here : (a b d : Bool) → b ≡ false → (a && b && d) ≡ false
    here true false d h = refl
    here false b d h = refl
    here true true d h = absurd (false≢true (sym h))

-- ---- the first item that is ready

-- as its definition says, with the want of item 0
first-open : (day : Day) (J : History) (n : ℕ) → first_ready_item day J n ≡ option_map (item_want day J n) (find (is_ready_item day J n) (item_numbers day n))
first-open day J n = refl

ready-zero : (day : Day) (J : History) (n : ℕ) (w : Want) → item_want day J n 0 ≡ w → is_ready_item day J n 0 ≡ may_item day J w
unfolding is_ready_item
ready-zero day J n w e = ap (may_item day J) e

ready-entry : (day : Day) (J : History) (n k : ℕ) → is_ready_item day J n (suc k) ≡ may_book day J n (suc k)
unfolding is_ready_item
ready-entry day J n k = refl

picked : (f : ℕ → Want) (b : Bool) (w : Want) → f 0 ≡ w → option_map f (cond b (Some 0) None) ≡ when b w
picked f true w e = ap Some e
picked f false w e = refl

-- where no entry may be booked, item 0 decides
by_first : (day : Day) (J : History) (n : ℕ) (w : Want) → ((k : ℕ) → may_book day J n k ≡ false) → item_want day J n 0 ≡ w → first_ready_item day J n ≡ when (may_item day J w) w
by_first day J n w no_entry e =
    ap (option_map (item_want day J n)) (only_first (is_ready_item day J n) (λ k. ready-entry day J n k ∙ no_entry (suc k)) day n)
    ∙ ap (λ b. option_map (item_want day J n) (cond b (Some 0) None)) (ready-zero day J n w e)
    ∙ picked (item_want day J n) (may_item day J w) w e

-- of two wants the one that the test picks
one_of_two : (day : Day) (J : History) (b : Bool) (v w : Want) → may_item day J v ≡ b →
    when (may_item day J (if b then v else w)) (if b then v else w) ≡ first_some (when b v ∷ when (may_item day J w) w ∷ [])
one_of_two day J true v w e = ap (λ c. when c v) e
one_of_two day J false v w e = one_row (when (may_item day J w) w)

-- ---- messages at rest

-- nothing can be made of a message in such a phase
abbrev at_rest : Phase → Bool
at_rest phases.Covered = false
at_rest phases.Answered = false
at_rest phases.Asking = false
at_rest phases.Open = false
at_rest phases.Overdue = false
at_rest _ = true

rest_open : (p : Phase) → at_rest p ≡ true → is_open p ≡ false
rest_open phases.Open h = sym h
rest_open _ h = refl

rest_covered : (p : Phase) → at_rest p ≡ true → is_covered p ≡ false
rest_covered phases.Covered h = sym h
rest_covered _ h = refl

rest_want : (day : Day) (J : History) (n : ℕ) (p : Phase) → at_rest p ≡ true → message_want day J n p ≡ (if is_b (sort_of day n) then wants.All n else wants.Book n 0)
rest_want day J n phases.Overdue h = absurd (false≢true h)
rest_want day J n phases.Answered h = absurd (false≢true h)
rest_want day J n phases.Asking h = absurd (false≢true h)
rest_want day J n _ h = refl

unsettled_in : (day : Day) (J : History) (n : ℕ) (p : Phase) → phase day J n ≡ p → is_open p ≡ false → is_covered p ≡ false → may_settle_whole day J n ≡ false
unfolding is_pending
unsettled_in day J n p e o c = here (is_b (sort_of day n)) _ _ _ (ap (pending_as (sort_of day n) day J n 0) e ∙ no_pending (sort_of day n) day J n 0 p o c)
  where
    here : (a b x y : Bool) → b ≡ false → (a && b && x && y) ≡ false
    here true false x y h = refl
    here false b x y h = refl
    here true true x y h = absurd (false≢true (sym h))

item_idle : (day : Day) (J : History) (n k : ℕ) → at_rest (phase day J n) ≡ true → may_item day J (item_want day J n k) ≡ false
item_idle day J n zero h = ap (may_item day J) (rest_want day J n (phase day J n) h) ∙ either (is_b (sort_of day n))
  where
    either : (b : Bool) → may_item day J (if b then wants.All n else wants.Book n 0) ≡ false
    either true = unsettled_in day J n (phase day J n) refl (rest_open _ h) (rest_covered _ h)
    either false = unbooked_in day J n 0 (phase day J n) refl (rest_open _ h) (rest_covered _ h)
item_idle day J n (suc k) h = unbooked_in day J n (suc k) (phase day J n) refl (rest_open _ h) (rest_covered _ h)

none_at_rest : (day : Day) (J : History) (n : ℕ) → at_rest (phase day J n) ≡ true → first_ready_item day J n ≡ None
unfolding is_ready_item
none_at_rest day J n h = ap (option_map (item_want day J n)) (find_nothing (is_ready_item day J n) (λ k. item_idle day J n k h) (item_numbers day n))

-- ---- the phases in which messages are booked

unfinished-open : (day : Day) (J : History) (n : ℕ) → unfinished day J n ≡ first_some (option_map (wants.Book n) (find (may_book day J n) (item_numbers day n)) ∷ when (may_settle_whole day J n) (wants.All n) ∷ when (may_expire day J n) (wants.Expire n) ∷ [])
unfinished-open day J n = refl

booked_only : (o : Option Want) (b c : Bool) (v w : Want) → b ≡ false → c ≡ false → o ≡ first_some (o ∷ when b v ∷ when c w ∷ [])
booked_only (Some x) b c v w h k = refl
booked_only None false false v w h k = refl
booked_only None true c v w h k = absurd (false≢true (sym h))
booked_only None false true v w h k = absurd (false≢true (sym k))

whole_only : (o : Option Want) (b c : Bool) (v w : Want) → o ≡ None → c ≡ false → when b v ≡ first_some (o ∷ when b v ∷ when c w ∷ [])
whole_only None true c v w h k = refl
whole_only None false false v w h k = refl
whole_only None false true v w h k = absurd (false≢true (sym k))
whole_only (Some x) b c v w h k = cc

wants_same : (day : Day) (J : History) (n : ℕ) (o : Option ℕ) → item_want day J n 0 ≡ wants.Book n 0 → option_map (item_want day J n) o ≡ option_map (wants.Book n) o
wants_same day J n None e = refl
wants_same day J n (Some zero) e = ap Some e
wants_same day J n (Some (suc k)) e = refl

ready_same : (day : Day) (J : History) (n k : ℕ) → item_want day J n 0 ≡ wants.Book n 0 → is_ready_item day J n k ≡ may_book day J n k
ready_same day J n zero e = ready-zero day J n (wants.Book n 0) e
ready_same day J n (suc k) e = ready-entry day J n k

by_entries : (day : Day) (J : History) (n : ℕ) → is_b (sort_of day n) ≡ false → may_expire day J n ≡ false → item_want day J n 0 ≡ wants.Book n 0 → first_ready_item day J n ≡ unfinished day J n
by_entries day J n b x e =
    ap (option_map (item_want day J n)) (find_same (is_ready_item day J n) (may_book day J n) (λ k. ready_same day J n k e) (item_numbers day n))
    ∙ wants_same day J n (find (may_book day J n) (item_numbers day n)) e
    ∙ booked_only (option_map (wants.Book n) (find (may_book day J n) (item_numbers day n))) (may_settle_whole day J n) (may_expire day J n) (wants.All n) (wants.Expire n) (not_whole day J n b) x

by_whole : (day : Day) (J : History) (n : ℕ) → is_b (sort_of day n) ≡ true → may_expire day J n ≡ false → item_want day J n 0 ≡ wants.All n → first_ready_item day J n ≡ unfinished day J n
by_whole day J n b x e =
    by_first day J n (wants.All n) (λ k. whole_unbooked day J n k b) e
    ∙ whole_only (option_map (wants.Book n) (find (may_book day J n) (item_numbers day n))) (may_settle_whole day J n) (may_expire day J n) (wants.All n) (wants.Expire n)
    (ap (option_map (wants.Book n)) (find_nothing (may_book day J n) (λ k. whole_unbooked day J n k b) (item_numbers day n))) x

by_parts : (day : Day) (J : History) (n : ℕ) (b : Bool) → is_b (sort_of day n) ≡ b → may_expire day J n ≡ false → item_want day J n 0 ≡ (if is_b (sort_of day n) then wants.All n else wants.Book n 0) → first_ready_item day J n ≡ unfinished day J n
by_parts day J n true b x e = by_whole day J n b x (e ∙ ap (λ c. if c then wants.All n else wants.Book n 0) b)
by_parts day J n false b x e = by_entries day J n b x (e ∙ ap (λ c. if c then wants.All n else wants.Book n 0) b)

want_in : (day : Day) (J : History) (n : ℕ) (p : Phase) → phase day J n ≡ p → item_want day J n 0 ≡ message_want day J n p
want_in day J n p e = ap (message_want day J n) e

by_phase : (day : Day) (J : History) (n : ℕ) (p : Phase) → phase day J n ≡ p → first_ready_item day J n ≡ ready_in day J n p
by_phase day J n phases.Overdue e =
    by_first day J n (if may_ask day J n then wants.Ask n else wants.Expire n) (λ k. unbooked_in day J n k phases.Overdue e refl refl) (want_in day J n phases.Overdue e)
    ∙ one_of_two day J (may_ask day J n) (wants.Ask n) (wants.Expire n) refl
by_phase day J n phases.Answered e =
    by_first day J n (if may_cover day J n then wants.Cover n else wants.Refuse n) (λ k. unbooked_in day J n k phases.Answered e refl refl) (want_in day J n phases.Answered e)
    ∙ one_of_two day J (may_cover day J n) (wants.Cover n) (wants.Refuse n) refl
by_phase day J n phases.Asking e = by_first day J n (wants.Refuse n) (λ k. unbooked_in day J n k phases.Asking e refl refl) (want_in day J n phases.Asking e)
by_phase day J n phases.Open e = by_parts day J n (is_b (sort_of day n)) refl (not_over day J n phases.Open e refl) (want_in day J n phases.Open e)
by_phase day J n phases.Covered e = by_parts day J n (is_b (sort_of day n)) refl (not_over day J n phases.Covered e refl) (want_in day J n phases.Covered e)
by_phase day J n _ e = none_at_rest day J n (ap at_rest e)

pub ready-is : (day : Day) (J : History) (n : ℕ) → first_ready_item day J n ≡ ready_in day J n (phase day J n)
ready-is day J n = by_phase day J n (phase day J n) refl

-- a message is ready where something of it is
pub ready-message : (day : Day) (J : History) (n : ℕ) → is_some (first_ready_item day J n) ≡ is_ready_message day J n
unfolding is_ready_message
ready-message day J n = mapped_is (item_want day J n) (find (is_ready_item day J n) (item_numbers day n)) ∙ find_any (is_ready_item day J n) (item_numbers day n)

-- ---- nothing is left of a message that is no payment and no batch of A, B, C or E

no_order : (s : Sort) (day : Day) (J : History) (n k : ℕ) (p : Phase) → is_pay s ≡ false → is_a s ≡ false → is_b s ≡ false → is_c s ≡ false → is_e s ≡ false → pending_as s day J n k p ≡ false
no_order Pay day J n k p y a b c e = absurd (false≢true (sym y))
no_order BatchA day J n k p y a b c e = absurd (false≢true (sym a))
no_order BatchB day J n k p y a b c e = absurd (false≢true (sym b))
no_order BatchC day J n k p y a b c e = absurd (false≢true (sym c))
no_order BatchE day J n k p y a b c e = absurd (false≢true (sym e))
no_order _ day J n k p y a b c e = refl

pub nothing_left : (day : Day) (J : History) (n : ℕ) → is_pay (sort_of day n) ≡ false → is_a (sort_of day n) ≡ false → is_b (sort_of day n) ≡ false → is_c (sort_of day n) ≡ false → is_e (sort_of day n) ≡ false → None ≡ unfinished day J n
nothing_left day J n y a b c e =
    booked_only None (may_settle_whole day J n) (may_expire day J n) (wants.All n) (wants.Expire n) (not_whole day J n b)
    (ap (λ l. l && is_overdue (phase day J n) && not (may_ask day J n)) (lasting_sort (sort_of day n) y a b c e))
    ∙ ap (λ o. first_some (o ∷ when (may_settle_whole day J n) (wants.All n) ∷ when (may_expire day J n) (wants.Expire n) ∷ []))
    (sym (ap (option_map (wants.Book n)) (find_nothing (may_book day J n) (λ k. not_pending day J n k (no_order (sort_of day n) day J n k (phase day J n) y a b c e)) (item_numbers day n))))
