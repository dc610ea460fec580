-- The first blocker blocks, and is ahead of each other item that does.
use Rattle.std.proofs.Common.{◌≡◌, ℕ, zero, suc, length, ◌<◌, Bool, true, false, not, ◌&&◌, Option, Some, None, refl, subst, arith, ◌⊎◌, inl, inr}
use Rattle.std.specs.Prelude.{if◌then◌else◌, is_some, IsSome}
use Rattle.std.proofs.lemmas.Bool.{or_cases, false_from_ne_true, and_parts}
use Rattle.batch_records.specs.DayRecord.{Day}
use Rattle.commit_journal.specs.Line.{History}
use Rattle.machine.specs.declared.answers.Item.{Item}
use Rattle.machine.specs.declared.answers.Phase.{Phase}
use Rattle.machine.specs.Words.{is_zero}
use Rattle.machine.specs.Records.Messages.{Sort, Missing, Pay, BatchA, BatchB, BatchC, BatchE, sort_of, is_message, message_numbers, item_numbers, entries, entry_at, is_debit, is_credit, is_debit_entry, is_credit_entry}
use Rattle.machine.specs.Stages.Phases.{phase, is_open, is_covered, is_booked}
use Rattle.machine.specs.Stages.Pending.{item, is_pending, pending_as, standing, is_ahead, is_next_of_a, stands_on, stands_before, is_blocker}
use Rattle.machine.specs.Stages.Blockers.{ahead_of, pick, pick_of, first_blocker}
use Rattle.settlement_laws.specs.FirstBlocker.{IsAheadOf, IsForemost, BlockerIsTheForemost}
use Rattle.settlement_laws.proofs.Base.Lists.{IsIn, never, in_range}
use Rattle.settlement_laws.proofs.Base.Folds.{fold_keeps, fold_meets}
use Rattle.settlement_laws.proofs.DayEnd.Stops.{MessageAt, message_is}
use Rattle.settlement_laws.proofs.Base.Searches.{blocked_is}
use Rattle.settlement_laws.proofs.Wants.PlacesDiffer.{places_differ}
use Rattle.settlement_laws.proofs.Wants.Foremost.{entry_there, entry_within, ahead_chain, not_ahead, ahead_other}

-- ---- a pending item is one of the day's

whole_within : (k m : ℕ) → is_zero k ≡ true → k < suc m
whole_within zero m h = omega arith
whole_within (suc k) m h = never false h refl

next_within : (day : Day) (J : History) (n k : ℕ) → is_next_of_a day J n k ≡ true → k < suc (length (entries day n))
next_within day J n k h =
    elim (or_cases (is_debit day n k) (is_credit day n k && _) (and_parts (not (is_booked J n k)) _ h).1) [
      | inl d ↦ entry_within day n k (is_debit_entry day n) d
      | inr c ↦ entry_within day n k (is_credit_entry day n) (and_parts (is_credit day n k) _ c).0
    ]

pending_within : (s : Sort) (day : Day) (J : History) (n k : ℕ) (p : Phase) → pending_as s day J n k p ≡ true → k < suc (length (entries day n))
pending_within Pay day J n k p h = whole_within k (length (entries day n)) (and_parts (is_zero k) (is_open p) h).0
pending_within BatchA day J n k p h =
    elim (or_cases (is_open p && is_next_of_a day J n k) (is_covered p && is_credit day n k && not (is_booked J n k)) h) [
      | inl o ↦ next_within day J n k (and_parts (is_open p) (is_next_of_a day J n k) o).1
      | inr v ↦ entry_within day n k (is_credit_entry day n) (and_parts (is_covered p) (is_credit day n k) (and_parts _ (not (is_booked J n k)) v).0).1
    ]
pending_within BatchB day J n k p h = whole_within k (length (entries day n)) (and_parts (is_zero k) (is_open p) h).0
pending_within BatchC day J n k p h = entry_there day n k (and_parts (is_some (entry_at day n k)) (is_open p) (and_parts _ _ h).0).0
pending_within BatchE day J n k p h = entry_there day n k (and_parts (is_some (entry_at day n k)) (is_open p) (and_parts _ _ (and_parts _ _ h).0).0).0
pending_within _ day J n k p h = never false h refl

pending_message : (s : Sort) (day : Day) (J : History) (n k : ℕ) (p : Phase) → pending_as s day J n k p ≡ true → is_message s ≡ true
pending_message Missing day J n k p h = never false h refl
pending_message _ day J n k p h = refl

pending_numbers : (day : Day) (J : History) (x : Item) → is_pending day J x ≡ true → IsIn x.msg (message_numbers day) × IsIn x.entry (item_numbers day x.msg)
unfolding is_pending
pending_numbers day J x h =
    let at : MessageAt day x.msg = message_is day x.msg (pending_message (sort_of day x.msg) day J x.msg x.entry (phase day J x.msg) h) in
    let number : x.msg ≡ suc at.place = at.number in
    let within : at.place < length day.messages = at.within in
    let low : x.entry < suc (length (entries day x.msg)) = pending_within (sort_of day x.msg) day J x.msg x.entry (phase day J x.msg) h in
    (in_range 1 (length day.messages) x.msg (omega (arith, number)) (omega (arith, number, within)), in_range 0 (suc (length (entries day x.msg))) x.entry (omega arith) (omega (arith, low)))

-- ---- what is found, as the items are looked at

-- if there is one, it blocks
abbrev DoesBlock : Day → History → Item → ℕ → Option Item → Type 0
DoesBlock day J x a None = Unit {0}
DoesBlock day J x a (Some y) = is_blocker day J x a y ≡ true

-- there is one, and z is not ahead of it
abbrev IsBefore : Day → History → Item → Option Item → Type 0
IsBefore day J z None = ⊥
IsBefore day J z (Some y) = is_ahead (standing day J z) (standing day J y) ≡ true → ⊥

pick_blocks : (day : Day) (J : History) (x : Item) (a : ℕ) (best : Option Item) (y : Item) → DoesBlock day J x a best → DoesBlock day J x a (pick day J x a best y)
pick_blocks day J x a best y h = here (is_blocker day J x a y) refl
  where
    there : (best : Option Item) → is_blocker day J x a y ≡ true → DoesBlock day J x a best → is_blocker day J x a (ahead_of day J best y) ≡ true
    there None e h = e
    there (Some w) e h = either (is_ahead (standing day J y) (standing day J w))
      where
        either : (b : Bool) → is_blocker day J x a (if b then y else w) ≡ true
        either true = e
        either false = h

    here : (b : Bool) → is_blocker day J x a y ≡ b → DoesBlock day J x a (if b then Some (ahead_of day J best y) else best)
    here true e = there best e h
    here false e = h

-- what is found only moves ahead
pick_stays : (day : Day) (J : History) (x : Item) (a : ℕ) (z : Item) (best : Option Item) (y : Item) → IsBefore day J z best → IsBefore day J z (pick day J x a best y)
pick_stays day J x a z best y h = here (is_blocker day J x a y)
  where
    there : (best : Option Item) → IsBefore day J z best → IsBefore day J z (Some (ahead_of day J best y))
    there None h = absurd h
    there (Some w) h = either (is_ahead (standing day J y) (standing day J w)) refl
      where
        either : (b : Bool) → is_ahead (standing day J y) (standing day J w) ≡ b → is_ahead (standing day J z) (standing day J (if b then y else w)) ≡ true → ⊥
        either true e k = h (ahead_chain (standing day J z) (standing day J y) (standing day J w) k e)
        either false e k = h k

    here : (b : Bool) → IsBefore day J z (if b then Some (ahead_of day J best y) else best)
    here true = there best h
    here false = h

pick_meets : (day : Day) (J : History) (x : Item) (a : ℕ) (y : Item) → is_blocker day J x a y ≡ true → (best : Option Item) → IsBefore day J y (pick day J x a best y)
pick_meets day J x a y h best = here (is_blocker day J x a y) h
  where
    there : (best : Option Item) → IsBefore day J y (Some (ahead_of day J best y))
    there None = not_ahead (standing day J y)
    there (Some w) = either (is_ahead (standing day J y) (standing day J w)) refl
      where
        either : (b : Bool) → is_ahead (standing day J y) (standing day J w) ≡ b → is_ahead (standing day J y) (standing day J (if b then y else w)) ≡ true → ⊥
        either true e k = not_ahead (standing day J y) k
        either false e k = never (is_ahead (standing day J y) (standing day J w)) k e

    here : (b : Bool) → b ≡ true → IsBefore day J y (if b then Some (ahead_of day J best y) else best)
    here true e = there best
    here false e = cc

-- ---- once all have been looked at

does_block : (day : Day) (J : History) (x : Item) (a : ℕ) → DoesBlock day J x a (first_blocker day J x a)
unfolding first_blocker pick_of
does_block day J x a = fold_keeps (DoesBlock day J x a) (pick_of day J x a) None (message_numbers day) (λ best n _ h. of_message best n h) tt
  where
    of_message : (best : Option Item) (n : ℕ) → DoesBlock day J x a best → DoesBlock day J x a (pick_of day J x a best n)
    of_message best n h = fold_keeps (DoesBlock day J x a) (λ found k. pick day J x a found (item n k)) best (item_numbers day n) (λ found k _ g. pick_blocks day J x a found (item n k) g) h

is_before : (day : Day) (J : History) (x : Item) (a : ℕ) (z : Item) → is_blocker day J x a z ≡ true → IsBefore day J z (first_blocker day J x a)
unfolding first_blocker pick_of
is_before day J x a z h = fold_meets (IsBefore day J z) (pick_of day J x a) others z.msg own None (message_numbers day) numbers.0
  where
    numbers : IsIn z.msg (message_numbers day) × IsIn z.entry (item_numbers day z.msg)
    numbers = pending_numbers day J z (and_parts (is_pending day J z) (stands_on day a z) (and_parts _ (stands_before day J x z) h).0).0

    step : (n : ℕ) (found : Option Item) (k : ℕ) → IsBefore day J z found → IsBefore day J z (pick day J x a found (item n k))
    step n found k g = pick_stays day J x a z found (item n k) g

    others : (best : Option Item) (n : ℕ) → IsBefore day J z best → IsBefore day J z (pick_of day J x a best n)
    others best n g = fold_keeps (IsBefore day J z) (λ found k. pick day J x a found (item n k)) best (item_numbers day n) (λ found k _ q. step n found k q) g

    own : (best : Option Item) → IsBefore day J z (pick_of day J x a best z.msg)
    own best = fold_meets (IsBefore day J z) (λ found k. pick day J x a found (item z.msg k)) (step z.msg) z.entry (pick_meets day J x a z h) best (item_numbers day z.msg) numbers.1

blocker_pending : (day : Day) (J : History) (x : Item) (a : ℕ) (y : Item) → is_blocker day J x a y ≡ true → is_pending day J y ≡ true
blocker_pending day J x a y h = (and_parts (is_pending day J y) (stands_on day a y) (and_parts _ (stands_before day J x y) h).0).0

pub blocker_is_the_foremost : (day : Day) (J : History) (x : Item) (a : ℕ) → BlockerIsTheForemost day J x a
blocker_is_the_foremost day J x a = (foremost, found, blocked_is day J x a)
  where
    some_before : (z : Item) (o : Option Item) → IsBefore day J z o → is_some o ≡ true
    some_before z None h = absurd h
    some_before z (Some y) h = refl

    found : (y : Item) → is_blocker day J x a y ≡ true → IsSome (first_blocker day J x a)
    found y h = some_before y (first_blocker day J x a) (is_before day J x a y h)

    other : (y z : Item) → is_blocker day J x a y ≡ true → is_blocker day J x a z ≡ true → (is_ahead (standing day J z) (standing day J y) ≡ true → ⊥) → (z ≡ y) ⊎ IsAheadOf day J y z
    other y z b c h =
        elim (ahead_other (standing day J z) (standing day J y) h) [
          | inl k ↦ inr (k, false_from_ne_true (is_ahead (standing day J z) (standing day J y)) h)
          | inr s ↦ inl (places_differ day J z y (blocker_pending day J x a z c) (blocker_pending day J x a y b) s.1.0 s.1.1.0 s.1.1.1)
        ]

    foremost : (y : Item) → first_blocker day J x a ≡ Some y → IsForemost day J x a y
    foremost y e =
        let b : is_blocker day J x a y ≡ true = subst (DoesBlock day J x a) e (does_block day J x a) in
        (b, λ z c. other y z b c (subst (IsBefore day J z) e (is_before day J x a z c)))
