-- The want of item 0 of a message by its phase, and when there is one.
use Rattle.std.proofs.Common.{◌≡◌, ◌∙◌, ℕ, zero, suc, ◌<◌, Bool, true, false, not, ◌&&◌, ◌||◌, [], ◌∷◌, Option, Some, None, refl, sym, ap, if◌then◌else◌}
use Rattle.std.specs.Prelude.{is_none, is_some, nat_eq, nat_lt, unwrap_or}
use Rattle.std.specs.Option.{option_or}
use Rattle.std.proofs.lemmas.Bool.{false_from_ne_true, false≢true}
use Rattle.batch_records.specs.DayRecord.{Day}
use Rattle.commit_journal.specs.declared.line.Want.{Want}
use Rattle.commit_journal.specs.declared.line.Want.TheVariants as wants
use Rattle.commit_journal.specs.Line.{History}
use Rattle.machine.specs.declared.answers.Phase.{Phase}
use Rattle.machine.specs.declared.answers.Phase.TheVariants as phases
use Rattle.machine.specs.Words.{first_some, is_zero, when}
use Rattle.machine.specs.Records.Messages.{Sort, Pay, BatchA, BatchB, BatchC, BatchE, entry_at, fund_of, is_a_or_b, sort_of}
use Rattle.machine.specs.Telling.History.{clock, place_of, taken}
use Rattle.machine.specs.Telling.Facts.{answer}
use Rattle.machine.specs.Stages.Phases.{is_answered, is_asking, is_booked, is_overdue, is_revoked_entry, phase}
use Rattle.machine.specs.Stages.Pending.{is_blocked, is_pending, item, pending_as}
use Rattle.machine.specs.Telling.Balances.{balance}
use Rattle.machine.specs.Making.Lines.{is_ready_item, may_lapse}
use Rattle.machine.specs.Orders.Hints.{message_hint, pending_want}
use Rattle.settlement_laws.proofs.Base.Lists.{never}
use Rattle.settlement_laws.proofs.Base.PhaseLaws.{untaken_phase}
use Rattle.settlement_laws.proofs.Wants.PlacesDiffer.{pending_taken}
use Rattle.live_order.specs.Longer.{SpeaksOf}
use Rattle.live_order.proofs.Longer.Spoken.{never_taken}
use Rattle.scan_laws.specs.Items.{IsSameItem}
use Rattle.scan_laws.specs.Views.{alone, item_by}
use Rattle.scan_laws.proofs.Readiness.{seen_by}
use Rattle.due_items.specs.Due.{is_due}
use Rattle.due_items.specs.Wants.{hint_by, overdue_by}

-- ---- the rows of the table, in each phase

overdue_row : (n : ℕ) (a f e l y m : Bool) → first_some (when (a && true && f && e) (wants.Ask n) ∷ when (l && true) (wants.Expire n) ∷ when (a && false && y) (wants.Cover n) ∷ when (a && false && not y) (wants.Refuse n) ∷ when (a && false && m) (wants.Refuse n) ∷ []) ≡ (if a && f && e then Some (wants.Ask n) else when l (wants.Expire n))
overdue_row n true true true l y m = refl
overdue_row n true true false true y m = refl
overdue_row n true true false false y m = refl
overdue_row n true false e true y m = refl
overdue_row n true false e false y m = refl
overdue_row n false f e true y m = refl
overdue_row n false f e false y m = refl

answered_row : (n : ℕ) (a f e l y m : Bool) → first_some (when (a && false && f && e) (wants.Ask n) ∷ when (l && false) (wants.Expire n) ∷ when (a && true && y) (wants.Cover n) ∷ when (a && true && not y) (wants.Refuse n) ∷ when (a && false && m) (wants.Refuse n) ∷ []) ≡ when a (if y then wants.Cover n else wants.Refuse n)
answered_row n true f e true true m = refl
answered_row n true f e true false m = refl
answered_row n true f e false true m = refl
answered_row n true f e false false m = refl
answered_row n false f e true y m = refl
answered_row n false f e false y m = refl

asking_row : (n : ℕ) (a f e l y m : Bool) → first_some (when (a && false && f && e) (wants.Ask n) ∷ when (l && false) (wants.Expire n) ∷ when (a && false && y) (wants.Cover n) ∷ when (a && false && not y) (wants.Refuse n) ∷ when (a && true && m) (wants.Refuse n) ∷ []) ≡ when (a && m) (wants.Refuse n)
asking_row n true f e true y true = refl
asking_row n true f e true y false = refl
asking_row n true f e false y true = refl
asking_row n true f e false y false = refl
asking_row n false f e true y m = refl
asking_row n false f e false y m = refl

no_row : (n : ℕ) (a f e l y m : Bool) → first_some (when (a && false && f && e) (wants.Ask n) ∷ when (l && false) (wants.Expire n) ∷ when (a && false && y) (wants.Cover n) ∷ when (a && false && not y) (wants.Refuse n) ∷ when (a && false && m) (wants.Refuse n) ∷ []) ≡ None
no_row n true f e true y m = refl
no_row n true f e false y m = refl
no_row n false f e true y m = refl
no_row n false f e false y m = refl

by_phase : (s : Sort) (n : ℕ) (fund : Bool) (time : ℕ) (reply : Option Bool) (p : Phase) → first_some (
    when (is_a_or_b s && is_overdue p && fund && nat_lt time 86400) (wants.Ask n)
    ∷ when (may_lapse s && is_overdue p) (wants.Expire n)
    ∷ when (is_a_or_b s && is_answered p && unwrap_or reply false) (wants.Cover n)
    ∷ when (is_a_or_b s && is_answered p && not (unwrap_or reply false)) (wants.Refuse n)
    ∷ when (is_a_or_b s && is_asking p && nat_eq time 86400) (wants.Refuse n)
    ∷ []) ≡ hint_by s n fund time reply p
by_phase s n fund time reply phases.Overdue = overdue_row n (is_a_or_b s) fund (nat_lt time 86400) (may_lapse s) (unwrap_or reply false) (nat_eq time 86400)
by_phase s n fund time reply phases.Answered = answered_row n (is_a_or_b s) fund (nat_lt time 86400) (may_lapse s) (unwrap_or reply false) (nat_eq time 86400)
by_phase s n fund time reply phases.Asking = asking_row n (is_a_or_b s) fund (nat_lt time 86400) (may_lapse s) (unwrap_or reply false) (nat_eq time 86400)
by_phase s n fund time reply _ = no_row n (is_a_or_b s) fund (nat_lt time 86400) (may_lapse s) (unwrap_or reply false) (nat_eq time 86400)

hint_is : (day : Day) (J : History) (n : ℕ) → message_hint day J n ≡ hint_by (sort_of day n) n (is_some (fund_of day n)) (clock J) (answer day J n) (phase day J n)
hint_is day J n = by_phase (sort_of day n) n (is_some (fund_of day n)) (clock J) (answer day J n) (phase day J n)

-- what the code computes
pub hint_found : (day : Day) (J : History) (n time : ℕ) (reply : Option Bool) (p : Phase) (result : Option Want) → result ≡ hint_by (sort_of day n) n (is_some (fund_of day n)) time reply p → time ≡ clock J → reply ≡ answer day J n → p ≡ phase day J n → result ≡ message_hint day J n
hint_found day J n time reply p result h t r q = h ∙ (λ i. hint_by (sort_of day n) n (is_some (fund_of day n)) (t i) (r i) (q i)) ∙ sym (hint_is day J n)

-- ---- whether there is one

lapses : (s : Sort) → is_a_or_b s ≡ true → may_lapse s ≡ true
lapses BatchA h = refl
lapses BatchB h = refl
lapses _ h = cc

overdue_some : (n : ℕ) (a b l : Bool) → (a ≡ true → l ≡ true) → is_some (if a && b then Some (wants.Ask n) else when l (wants.Expire n)) ≡ l
overdue_some n true true l h = sym (h refl)
overdue_some n true false true h = refl
overdue_some n true false false h = refl
overdue_some n false b true h = refl
overdue_some n false b false h = refl

when_some : (b : Bool) (w : Want) → is_some (when b w) ≡ b
when_some true w = refl
when_some false w = refl

some_by : (s : Sort) (n : ℕ) (fund : Bool) (time : ℕ) (reply : Option Bool) → is_some (overdue_by s n fund time) ≡ may_lapse s
some_by s n fund time reply = assoc (is_a_or_b s) fund (nat_lt time 86400) ∙ overdue_some n (is_a_or_b s) (fund && nat_lt time 86400) (may_lapse s) (lapses s)
  where
    assoc : (a f e : Bool) → is_some (if a && f && e then Some (wants.Ask n) else when (may_lapse s) (wants.Expire n)) ≡ is_some (if a && (f && e) then Some (wants.Ask n) else when (may_lapse s) (wants.Expire n))
    assoc true f e = refl
    assoc false f e = refl

-- by the phase and the clock alone
some_alone : (day : Day) (n : ℕ) (fund : Bool) (time : ℕ) (reply : Option Bool) (p : Phase) → is_some (hint_by (sort_of day n) n fund time reply p) ≡ unwrap_or (alone day n 0 p time) false
some_alone day n fund time reply phases.Overdue = some_by (sort_of day n) n fund time reply
some_alone day n fund time reply phases.Answered = when_some (is_a_or_b (sort_of day n)) (if unwrap_or reply false then wants.Cover n else wants.Refuse n)
some_alone day n fund time reply phases.Asking = when_some (is_a_or_b (sort_of day n) && nat_eq time 86400) (wants.Refuse n)
some_alone day n fund time reply _ = refl

-- an item is due where it is pending, or it is item 0 and due by the phase alone
pub due_by : (day : Day) (J : History) (n k : ℕ) → is_due day J (item n k) ≡ (is_pending day J (item n k) || (is_zero k && unwrap_or (alone day n k (phase day J n) (clock J)) false))
due_by day J n zero = here (is_pending day J (item n 0)) ∙ ap (λ b. is_pending day J (item n 0) || b) (ap is_some (hint_is day J n) ∙ some_alone day n (is_some (fund_of day n)) (clock J) (answer day J n) (phase day J n))
  where
    here : (b : Bool) → is_some (option_or (when b (pending_want day (item n 0))) (message_hint day J n)) ≡ (b || is_some (message_hint day J n))
    here true = refl
    here false = refl
due_by day J n (suc k) = here (is_pending day J (item n (suc k)))
  where
    here : (b : Bool) → is_some (option_or (when b (pending_want day (item n (suc k)))) None) ≡ (b || false)
    here true = refl
    here false = refl

-- an item that is the same is due as before
pub same_due : (day : Day) (K J : History) (n k : ℕ) → IsSameItem day K J n k → is_due day K (item n k) ≡ is_due day J (item n k)
same_due day K J n k same = due_by day K n k ∙ (λ i. same.same_pending i || (is_zero k && unwrap_or (same.same_alone i) false)) ∙ sym (due_by day J n k)

-- ---- over no lines nothing is due

untaken_first : (day : Day) (n : ℕ) → phase day [] n ≡ phases.Untaken
unfolding phase place_of
untaken_first day n = refl

untaken_waits : (day : Day) (n k : ℕ) → is_pending day [] (item n k) ≡ false
unfolding is_pending
untaken_waits day n k = ap (pending_as (sort_of day n) day [] n k) (untaken_first day n) ∙ here (sort_of day n)
  where
    here : (s : Sort) → pending_as s day [] n k phases.Untaken ≡ false
    here Pay = zeroes (is_zero k)
      where
        zeroes : (b : Bool) → (b && false) ≡ false
        zeroes true = refl
        zeroes false = refl
    here BatchA = refl
    here BatchB = zeroes (is_zero k)
      where
        zeroes : (b : Bool) → (b && false) ≡ false
        zeroes true = refl
        zeroes false = refl
    here BatchC = zeroes (is_some (entry_at day n k)) (not (is_booked [] n k))
      where
        zeroes : (b c : Bool) → (b && false && c) ≡ false
        zeroes true c = refl
        zeroes false c = refl
    here BatchE = zeroes (is_some (entry_at day n k)) (not (is_booked [] n k)) (not (is_revoked_entry day [] n k))
      where
        zeroes : (b c d : Bool) → (b && false && c && d) ≡ false
        zeroes true c d = refl
        zeroes false c d = refl
    here _ = refl

pub none_due : (day : Day) (n k : ℕ) → is_due day [] (item n k) ≡ false
none_due day n k = due_by day [] n k ∙ ap (λ b. b || (is_zero k && unwrap_or (alone day n k (phase day [] n) (clock [])) false)) (untaken_waits day n k) ∙ here k (phase day [] n) (untaken_first day n)
  where
    here : (j : ℕ) (p : Phase) → p ≡ phases.Untaken → (false || (is_zero j && unwrap_or (alone day n j p (clock [])) false)) ≡ false
    here zero p e = ap (λ q. false || (is_zero 0 && unwrap_or (alone day n 0 q (clock [])) false)) e
    here (suc j) p e = refl

-- ---- of a message that no line takes nothing is due

untaken_pending : (day : Day) (J : History) (n k : ℕ) → taken J n ≡ None → is_pending day J (item n k) ≡ false
untaken_pending day J n k e = false_from_ne_true (is_pending day J (item n k)) (λ h. never (is_some (taken J n)) (pending_taken day J (item n k) h) (ap is_some e))

pub untaken_due : (day : Day) (J : History) (k n j : ℕ) → SpeaksOf k J → k < n → is_due day J (item n j) ≡ false
untaken_due day J k n j speaks beyond =
    let e : taken J n ≡ None = never_taken k n J speaks beyond in
    due_by day J n j ∙ (λ i. untaken_pending day J n j e i || (is_zero j && unwrap_or (alone day n j (untaken_phase day J n (ap is_none e) i) (clock J)) false)) ∙ here j
  where
    here : (j : ℕ) → (false || (is_zero j && unwrap_or (alone day n j phases.Untaken (clock J)) false)) ≡ false
    here zero = refl
    here (suc j) = refl

-- ---- what is ready is due

pub ready_due : (day : Day) (J : History) (n k : ℕ) → is_ready_item day J n k ≡ true → is_due day J (item n k) ≡ true
ready_due day J n zero h =
    due_by day J n 0 ∙ whole (alone day n 0 (phase day J n) (clock J)) (is_pending day J (item n 0)) (item_by (sort_of day n) day n 0 (is_blocked day J (item n 0)) (balance day J)) (sym (seen_by day J n 0) ∙ h)
  where
    whole : (a : Option Bool) (p r : Bool) → unwrap_or a (p && r) ≡ true → (p || unwrap_or a false) ≡ true
    whole None true r h = refl
    whole None false r h = absurd (false≢true h)
    whole (Some b) true r h = refl
    whole (Some b) false r h = h
ready_due day J n (suc k) h =
    due_by day J n (suc k) ∙ entry (is_pending day J (item n (suc k))) (item_by (sort_of day n) day n (suc k) (is_blocked day J (item n (suc k))) (balance day J)) (sym (seen_by day J n (suc k)) ∙ h)
  where
    entry : (p r : Bool) → (p && r) ≡ true → (p || false) ≡ true
    entry true r h = refl
    entry false r h = absurd (false≢true h)
