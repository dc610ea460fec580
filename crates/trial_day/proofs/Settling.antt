-- When time passes on an ample day, each message is settled: of the items that are pending the foremost would have a line.
use Rattle.std.proofs.Common.{◌≡◌, ℕ, zero, suc, ◌+◌, ◌*◌, ◌≤◌, ◌<◌, Bool, true, false, not, ◌&&◌, ◌||◌, List, [], ◌∷◌, Option, Some, None, refl, sym, ap, ◌∙◌, subst, arith, length, cond, inl, inr}
use Rattle.std.specs.Prelude.{is_some, is_none, nat_eq, nat_lt, if◌then◌else◌, map, filter, sum_by}
use Rattle.std.specs.List.{list_any, find, range_with_len}
use Rattle.std.proofs.lemmas.Bool.{and_from, and_parts, not-true, not_from_false, or_left, or_right, eq-eqb, le-leb, ltb-true, false_from_ne_true}
use Rattle.std.proofs.lemmas.List.Sums.{sum_by-cons}
use Rattle.batch_records.specs.DayRecord.{Day}
use Rattle.batch_records.specs.declared.day.Entry.{Entry}
use Rattle.commit_journal.specs.declared.line.Move.{Move}
use Rattle.commit_journal.specs.declared.line.Want.TheVariants as wants
use Rattle.commit_journal.specs.Line.{Line, History}
use Rattle.machine.specs.declared.answers.Item.{Item}
use Rattle.machine.specs.declared.answers.Phase.{Phase}
use Rattle.machine.specs.declared.answers.Phase.TheVariants as phases
use Rattle.machine.specs.Words.{some_passes, numbered, numbers}
use Rattle.machine.specs.Telling.Balances.{debits, debited, balance}
use Rattle.machine.specs.Orders.Bounds.{moved}
use Rattle.machine.specs.Records.Setup.{opening}
use Rattle.machine.specs.Stages.Intake.{amount_of}
use Rattle.machine.specs.Records.Messages.{Sort, Pay, BatchA, BatchB, BatchC, BatchE, sort_of, is_message, is_a, is_b, is_a_or_b, entries, entry_at, entry_numbers, move_of, debit_account, debit_entries, credit_entries, is_debit, is_debit_entry, is_credit, is_credit_entry, debit_numbers, round_of}
use Rattle.machine.specs.Records.Reserves.{must_leave, must_leave_as}
use Rattle.machine.specs.Telling.History.{is_ended, taken, is_accepted, clock}
use Rattle.machine.specs.Telling.Facts.{round, is_reached}
use Rattle.machine.specs.Stages.Phases.{phase, is_booked, is_revoked_entry, settled_as}
use Rattle.machine.specs.Stages.Pending.{item, is_pending, pending_as, first_unbooked_debit, stands_on, debtors, debit_accounts_as, debit_account_of_part, is_ahead, standing, is_blocked}
use Rattle.machine.specs.Making.Lines.{may, may_book, may_settle_whole, is_short_debtor, gross, is_free_part, is_covered_part, is_ready, all_taken, time_line}
use Rattle.machine.specs.Legal.{IsLegal}
use Rattle.machine.specs.Laws.{EachLine}
use Rattle.settlement_laws.proofs.Wants.Answering.{entry_in}
use Rattle.settlement_laws.proofs.Wants.Foremost.{items, pending, item_in, entry_there, entry_within, first_in, nothing_blocks}
use Rattle.settlement_laws.proofs.Wants.ReadyWants.{idle}
use Rattle.settlement_laws.proofs.Base.Induction.{made-legal}
use Rattle.settlement_laws.proofs.Base.Lists.{IsIn, never, one_fails, into_filter, from_filter, from_map, all_of}
use Rattle.settlement_laws.proofs.DayEnd.MoveBound.{moved-bound}
use Rattle.settlement_laws.proofs.Base.PhaseLaws.{is_going, going_accepted}
use Rattle.settlement_laws.proofs.Base.OngoingPhases.{going_taken}
use Rattle.settlement_laws.proofs.DayEnd.Progress.{get_there}
use Rattle.settlement_laws.proofs.Balances.MovesOfTheDay.{pending_going}
use Rattle.settlement_laws.proofs.Base.Searches.{find_passes}
use Rattle.settlement_laws.proofs.ProcedureA.SettlesInTime.{settles_in_time}
use Rattle.settlement_laws.proofs.Base.SoundParts.{sound_parts, few_moves, round_within}
use Rattle.settlement_laws.proofs.DayEnd.Stops.{MessageAt, message_is, round_is, implies}
use Rattle.settlement_laws.proofs.Base.Sums.{all-at}
use Rattle.settlement_laws.proofs.Balances.TouchesItsAccounts.{from_both}
use Rattle.trial_day.proofs.Ample.{Ample, is_drawn}
use Rattle.trial_day.proofs.Morning.{IsWork, Morning, morning_phase, taken_accepted}

-- a batch leaves nothing
drawn_leaves : (s : Sort) (day : Day) (n a : ℕ) → is_drawn s ≡ true → must_leave_as s day n a ≡ 0
drawn_leaves BatchA day n a h = refl
drawn_leaves BatchB day n a h = refl
drawn_leaves BatchE day n a h = refl
drawn_leaves _ day n a h = cc

-- ---- what has left an account

debits_small : (a : ℕ) (moves : List Move) → ((m : Move) → IsIn m moves → m.amount ≤ 10000) → debits a moves ≤ 10000 * length moves
debits_small a [] h = omega arith
debits_small a (m ∷ moves) h =
    let k : debits a moves ≤ 10000 * length moves = debits_small a moves (λ x i. h x (inr i)) in
    let s : m.amount ≤ 10000 = h m (inl refl) in
    let t : (if nat_eq m.debit a then m.amount else 0) ≤ m.amount = within (nat_eq m.debit a) m.amount in
    omega arith
  where
    within : (b : Bool) (x : ℕ) → (if b then x else 0) ≤ x
    within true x = omega arith
    within false x = omega arith

small_line : (day : Day) → Ample day → (l : Line) → IsWork day l → (m : Move) → IsIn m l.moves → m.amount ≤ 10000
small_line day ample l (inl t) m i = absurd (subst (λ (x : Line). IsIn m x.moves) t.is i)
small_line day ample l (inr (inl b)) m i = here (subst (λ (x : Line). IsIn m x.moves) b.is i)
  where
    here : IsIn m (move_of day b.moves ∷ []) → m.amount ≤ 10000
    here (inl e) = subst (λ (x : Move). x.amount ≤ 10000) e (ample.small b.msg b.moves (entry_in day b.msg b.entry b.moves b.there))
    here (inr j) = absurd j
small_line day ample l (inr (inr a)) m i = elim (from_both (map (move_of day) (debit_entries day a.msg)) (map (move_of day) (credit_entries day a.msg)) m (subst (λ (x : Line). IsIn m x.moves) a.is i)) [
  | inl j ↦ side (is_debit_entry day a.msg) j
  | inr j ↦ side (is_credit_entry day a.msg) j
]
  where
    side : (test : Entry → Bool) → IsIn m (map (move_of day) (filter test (entries day a.msg))) → m.amount ≤ 10000
    side test j =
        let r = from_map (move_of day) (filter test (entries day a.msg)) m j in
        subst (λ (x : Move). x.amount ≤ 10000) r.2 (ample.small a.msg r.0 (from_filter test (entries day a.msg) r.0 r.1).0)

debited_small : (day : Day) → Ample day → (a : ℕ) (J : History) → EachLine (λ l before. IsWork day l) J → debited J a ≤ 10000 * moved J
unfolding debited
debited_small day ample a [] w = omega arith
debited_small day ample a (l ∷ J) w =
    let k : debited J a ≤ 10000 * moved J = debited_small day ample a J w.0 in
    let s : debits a l.moves ≤ 10000 * length l.moves = debits_small a l.moves (small_line day ample l w.1) in
    omega arith

find_in : (test : ℕ → Bool) (xs : List ℕ) (x : ℕ) → find test xs ≡ Some x → IsIn x xs
find_in test [] x h = cc
find_in test (y ∷ ys) x h = here (test y) h (find_in test ys x)
  where
    is : (a b : ℕ) → Some a ≡ Some b → a ≡ b
    is a b e = cc

    here : (b : Bool) → cond b (Some y) (find test ys) ≡ Some x → (find test ys ≡ Some x → IsIn x ys) → IsIn x (y ∷ ys)
    here true e k = inl (is y x e)
    here false e k = inr (k e)

-- the numbers of a list are those of its items
range_has : (s m k : ℕ) → IsIn k (range_with_len s m) → (s ≤ k) × (k < s + m)
range_has s zero k i = absurd i
range_has s (suc m) k (inl e) = (omega (arith, e), omega (arith, e))
range_has s (suc m) k (inr i) = let r = range_has (s + 1) m k i in (omega (arith, r.0), omega (arith, r.1))

pub numbered_there : {X : Type 0} (xs : List X) (n : ℕ) → IsIn n (numbers xs) → is_some (numbered xs n) ≡ true
numbered_there xs zero i = let r = range_has 1 (length xs) zero i in absurd (omega (arith, r.0))
numbered_there xs (suc k) i = let r = range_has 1 (length xs) (suc k) i in ap is_some (get_there xs k (omega (arith, r.1))).1

pub pending_message : (s : Sort) (day : Day) (J : History) (n k : ℕ) (p : Phase) → pending_as s day J n k p ≡ true → is_message s ≡ true
pending_message Pay day J n k p h = refl
pending_message BatchA day J n k p h = refl
pending_message BatchB day J n k p h = refl
pending_message BatchC day J n k p h = refl
pending_message BatchE day J n k p h = refl
pending_message _ day J n k p h = cc

-- x is pending, and none of the pending items is ahead of it
abbrev IsForemost : Day → History → Item → Type 0
IsForemost day J x = IsIn x (pending day J) × ((y : Item) → IsIn y (pending day J) → is_ahead (standing day J y) (standing day J x) ≡ true → ⊥)

module _ (day : Day) (ample : Ample day) (J : History) (legal : IsLegal day J) (morning : Morning day J) where
  -- an account that opens richly holds more than any batch takes
  pub still_rich : (a : ℕ) → 100000000000 ≤ opening day a → 80000 ≤ balance day J a
  still_rich a h =
      let d : debited J a ≤ 10000 * moved J = debited_small day ample a J morning.works in
      let m = moved-bound day ample.sound J legal in
      let f = few_moves day ample.sound in
      omega (arith, h, d, m, f)

  -- a pending item's message is open
  pub pending_open : (n k : ℕ) → is_pending day J (item n k) ≡ true → (is_message (sort_of day n) ≡ true) × (phase day J n ≡ phases.Open)
  unfolding is_pending
  pending_open n k h =
      let m : is_message (sort_of day n) ≡ true = pending_message (sort_of day n) day J n k (phase day J n) h in
      let g : is_going (phase day J n) ≡ true = pending_going (sort_of day n) day J n k (phase day J n) h in
      (m, here (settled_as (sort_of day n) day J n) (morning_phase day ample J morning n m (going_taken day J n g)) g)
    where
      here : (b : Bool) → phase day J n ≡ (if b then phases.Settled else phases.Open) → is_going (phase day J n) ≡ true → phase day J n ≡ phases.Open
      here true e g = never (is_going (phase day J n)) g (ap is_going e)
      here false e g = e

  module _ (over : is_ended J ≡ false) (pass : may day J wants.Time ≡ true) where
    idle_now : is_ready day J ≡ false
    idle_now = not-true (is_ready day J) (and_parts _ (not (is_ready day J)) pass).1

    -- an open batch of A has a debit that isn't booked
    debit_left : (n : ℕ) → sort_of day n ≡ BatchA → is_accepted J n ≡ true → phase day J n ≡ phases.Open → is_none (first_unbooked_debit day J n) ≡ true → ⊥
    debit_left n q a p none = absurd (differ (sym p ∙ (settles_in_time day (time_line day J ∷ J) ample.sound (made-legal day J wants.Time legal over pass)).1 refl n (ap is_a q) a (inl (bare (first_unbooked_debit day J n) none))))
      where
        bare : (o : Option ℕ) → is_none o ≡ true → o ≡ None
        bare None h = refl
        bare (Some x) h = cc

        differ : phases.Open ≡ phases.Settled → ⊥
        differ e = cc

    -- ---- the foremost of the pending items

    is_free : (x : Item) (a : ℕ) → IsForemost day J x → stands_on day a x ≡ true → is_blocked day J x a ≡ false
    is_free x a f s = nothing_blocks day J x a (into_filter (stands_on day a) (pending day J) x f.0 s, λ y i h. f.1 y (from_filter (stands_on day a) (pending day J) y i).0 h)

    is_there : (x : Item) → IsForemost day J x → is_pending day J x ≡ true
    is_there x f = (from_filter (is_pending day J) (items day) x f.0).1

    or_true : (b : Bool) → b ≡ true → (b || false) ≡ true
    or_true b h = ap (λ b. b || false) h

    drawn_item : (n k : ℕ) → is_pending day J (item n k) ≡ true → is_drawn (sort_of day n) ≡ true
    unfolding is_pending
    drawn_item n k p = ample.drawn n (pending_message (sort_of day n) day J n k (phase day J n) p)

    -- a rich part of the foremost item may be booked
    part_is_booked : (n k : ℕ) (e : Entry) → is_b (sort_of day n) ≡ false → IsForemost day J (item n k) → entry_at day n k ≡ Some e → 100000000000 ≤ opening day (debit_account day e) → ⊥
    part_is_booked n zero e b f g r = cc
    part_is_booked n (suc k) e b f g r = never (may_book day J n (suc k)) may_be (idle day J (wants.Book n (suc k)) idle_now)
      where
        on_it : (s : Sort) → is_b s ≡ false → list_any (λ c. nat_eq c (debit_account day e)) (debit_accounts_as s day n (suc k)) ≡ true
        on_it BatchB q = cc
        on_it _ q = ap (λ o. list_any (λ c. nat_eq c (debit_account day e)) (debit_account_of_part day o)) g ∙ or_true (nat_eq (debit_account day e) (debit_account day e)) (eq-eqb (debit_account day e) (debit_account day e) refl)

        small : e.amount ≤ 10000
        small = ample.small n e (entry_in day n (suc k) e g)

        held : 80000 ≤ balance day J (debit_account day e)
        held = still_rich (debit_account day e) r

        leaves : must_leave day n (debit_account day e) ≡ 0
        leaves = drawn_leaves (sort_of day n) day n (debit_account day e) (drawn_item n (suc k) (is_there (item n (suc k)) f))

        covers : is_covered_part day J n e ≡ true
        covers = le-leb (e.amount + must_leave day n (debit_account day e)) (balance day J (debit_account day e)) (omega (arith, small, held, leaves))

        free : is_free_part day J (item n (suc k)) e ≡ true
        free = not_from_false _ (is_free (item n (suc k)) (debit_account day e) f (on_it (sort_of day n) b))

        may_be : may_book day J n (suc k) ≡ true
        may_be = and_from _ _ (and_from _ _ (is_there (item n (suc k)) f) (not_from_false (is_b (sort_of day n)) b)) (ap (some_passes (λ e. is_free_part day J (item n (suc k)) e && is_covered_part day J n e)) g ∙ and_from _ _ free covers)

    -- whole batch of B may be settled
    whole_is_settled : (n : ℕ) → sort_of day n ≡ BatchB → IsForemost day J (item n 0) → ⊥
    whole_is_settled n q f = never (may_settle_whole day J n) may_be (idle day J (wants.All n) idle_now)
      where
        debtor : (a : ℕ) → IsIn a (debtors day n) → 80000 ≤ balance day J a
        debtor a i =
            let r = from_map (debit_account day) (debit_entries day n) a i in
            let t = from_filter (is_debit_entry day n) (entries day n) r.0 r.1 in
            subst (λ x. 80000 ≤ balance day J x) r.2 (still_rich (debit_account day r.0) (ample.rich n r.0 t.0 (λ _. t.1)))

        part_of : (test pick : Entry → Bool) (es : List Entry) → sum_by amount_of (filter test (filter pick es)) ≤ sum_by amount_of es
        part_of test pick es = omega (arith, filter_below test (filter pick es), filter_below pick es)
          where
            filter_below : (test : Entry → Bool) (es : List Entry) → sum_by amount_of (filter test es) ≤ sum_by amount_of es
            filter_below test [] = omega arith
            filter_below test (e ∷ es) = here (test e) (filter_below test es) (sum_by-cons amount_of e es) (sum_by-cons amount_of e (filter test es))
              where
                here : (b : Bool) → sum_by amount_of (filter test es) ≤ sum_by amount_of es → sum_by amount_of (e ∷ es) ≡ e.amount + sum_by amount_of es → sum_by amount_of (e ∷ filter test es) ≡ e.amount + sum_by amount_of (filter test es) →
                    sum_by amount_of (cond b (e ∷ filter test es) (filter test es)) ≤ sum_by amount_of (e ∷ es)
                here true k c d = omega (arith, k, c, d)
                here false k c d = omega (arith, k, c)

        not_short : (a : ℕ) → IsIn a (debtors day n) → is_short_debtor day J n a ≡ false
        not_short a i =
            let g : gross day n a ≤ sum_by amount_of (entries day n) = part_of (λ e. nat_eq (debit_account day e) a) (is_debit_entry day n) (entries day n) in
            let h = debtor a i in
            let s = ample.few n in
            false_from_ne_true (is_short_debtor day J n a) (λ t. let l = ltb-true (balance day J a) (gross day n a) t in omega (arith, g, h, s, l))

        on_them : (a : ℕ) → IsIn a (debtors day n) → stands_on day a (item n 0) ≡ true
        on_them a i = ap (λ s. list_any (λ b. nat_eq b a) (debit_accounts_as s day n 0)) q ∙ any_of (debtors day n) a i
          where
            any_of : (xs : List ℕ) (a : ℕ) → IsIn a xs → list_any (λ b. nat_eq b a) xs ≡ true
            any_of [] a i = absurd i
            any_of (x ∷ xs) a (inl e) = or_left (nat_eq x a) (list_any (λ b. nat_eq b a) xs) (eq-eqb x a e)
            any_of (x ∷ xs) a (inr i) = or_right (nat_eq x a) (list_any (λ b. nat_eq b a) xs) (any_of xs a i)

        may_be : may_settle_whole day J n ≡ true
        may_be = and_from _ _ (and_from _ _ (and_from _ _ (ap is_b q) (is_there (item n 0) f))
            (all_of (λ a. not (is_blocked day J (item n 0) a)) (debtors day n) (λ a i. not_from_false _ (is_free (item n 0) a f (on_them a i)))))
            (all_of (λ a. not (is_short_debtor day J n a)) (debtors day n) (λ a i. not_from_false _ (not_short a i)))

    -- the entry that passes
    passing : (n k : ℕ) (test : Entry → Bool) → some_passes test (entry_at day n k) ≡ true → (e : Entry) × (entry_at day n k ≡ Some e) × (test e ≡ true)
    passing n k test h = here (entry_at day n k) refl h
      where
        here : (o : Option Entry) → entry_at day n k ≡ o → some_passes test o ≡ true → (e : Entry) × (entry_at day n k ≡ Some e) × (test e ≡ true)
        here None g h = cc
        here (Some e) g h = (e, g, h)

    foremost_not : (n k : ℕ) (s : Sort) → sort_of day n ≡ s → is_drawn s ≡ true → is_accepted J n ≡ true → phase day J n ≡ phases.Open → pending_as s day J n k phases.Open ≡ true → IsForemost day J (item n k) → ⊥
    foremost_not n k BatchA q d a o p f = of_a (is_debit day n k) refl (is_none (first_unbooked_debit day J n)) refl (and_parts (not (is_booked J n k)) _ (of_both _ p)).1
      where
        of_both : (b : Bool) → (b || false) ≡ true → b ≡ true
        of_both true h = refl
        of_both false h = cc

        of_a : (b : Bool) → is_debit day n k ≡ b → (u : Bool) → is_none (first_unbooked_debit day J n) ≡ u → (b || is_credit day n k && u) ≡ true → ⊥
        of_a true e u v h =
            let x = passing n k (is_debit_entry day n) e in
            part_is_booked n k x.0 (ap is_b q) f x.1 (ample.rich n x.0 (entry_in day n k x.0 x.1) (λ _. x.2))
        of_a false e true v h = debit_left n q a o v
        of_a false e false v h = never (is_credit day n k && false) h (no_right (is_credit day n k))
          where
            no_right : (c : Bool) → (c && false) ≡ false
            no_right true = refl
            no_right false = refl
    foremost_not n zero BatchB q d a o p f = whole_is_settled n q f
    foremost_not n (suc k) BatchB q d a o p f = cc
    foremost_not n k BatchE q d a o p f = of_e (entry_at day n k) refl (and_parts (is_some (entry_at day n k)) true (and_parts _ _ (and_parts _ _ p).0).0).0
      where
        of_e : (x : Option Entry) → entry_at day n k ≡ x → is_some x ≡ true → ⊥
        of_e None e h = cc
        of_e (Some x) e h = part_is_booked n k x (ap is_b q) f e (ample.rich n x (entry_in day n k x e) (λ t. never (is_a_or_b (sort_of day n)) t (ap is_a_or_b q)))
    foremost_not n k _ q d a o p f = cc

    nothing_pends : (x : Item) → IsIn x (pending day J) → ⊥
    unfolding is_pending
    nothing_pends x i =
        let z = first_in day J (pending day J) x i in
        let p : is_pending day J z.0 ≡ true = is_there z.0 z.1 in
        let o = pending_open z.0.msg z.0.entry p in
        foremost_not z.0.msg z.0.entry (sort_of day z.0.msg) refl (ample.drawn z.0.msg o.0) (going_accepted day J z.0.msg (ap is_going o.1)) o.1
        (subst (λ (ph : Phase). pending_as (sort_of day z.0.msg) day J z.0.msg z.0.entry ph ≡ true) o.1 p) z.1

    -- ---- each message is taken and settled

    is_taken : (n : ℕ) → is_message (sort_of day n) ≡ true → is_some (taken J n) ≡ true
    unfolding all_taken
    is_taken n m =
        let at : MessageAt day n = message_is day n m in
        let number : n ≡ suc at.place = at.number in
        let within : at.place < length day.messages = at.within in
        let all = (and_parts (nat_lt (clock J) 86400) (all_taken day J) (and_parts _ (not (is_ready day J)) pass).0).1 in
        let round_is_zero : at.message.round ≤ length day.stops = round_within (length day.stops) 0 day.messages at.place at.message (sound_parts day ample.sound).rounds at.there in
        let none : length day.stops ≡ 0 = ap length ample.no_stops in
        let of : round_of day n ≡ at.message.round = round_is day n at in
        implies (is_reached day J n) (is_some (taken J n)) (all-at (λ i. not (is_reached day J i) || is_some (taken J i)) 1 (length day.messages) n all (omega (arith, number)) (omega (arith, number, within)))
        (le-leb (round_of day n) (round day J) (omega (arith, round_is_zero, none, of)))

    some_pends : (n : ℕ) (s : Sort) → sort_of day n ≡ s → is_drawn s ≡ true → is_message (sort_of day n) ≡ true → phase day J n ≡ phases.Open → settled_as s day J n ≡ false → ⊥
    unfolding is_pending
    some_pends n BatchA q d m o u = here (first_unbooked_debit day J n) refl
      where
        at : MessageAt day n
        at = message_is day n m

        here : (x : Option ℕ) → first_unbooked_debit day J n ≡ x → ⊥
        here None e = debit_left n q (taken_accepted day J n morning.works (is_taken n m)) o (ap is_none e)
        here (Some k) e =
            let in_debits = from_filter (is_debit day n) (entry_numbers day n) k (find_in (λ k. not (is_booked J n k)) (debit_numbers day n) k e) in
            let unbooked = find_passes (λ k. not (is_booked J n k)) (debit_numbers day n) k e in
            let p : pending_as (sort_of day n) day J n k (phase day J n) ≡ true = (λ i. pending_as (q i) day J n k (o i)) ∙ or_true _ (and_from (not (is_booked J n k)) _ unbooked (or_left (is_debit day n k) _ in_debits.1)) in
            nothing_pends (item n k) (into_filter (is_pending day J) (items day) (item n k) (item_in day n k (omega (arith, at.number)) (omega (arith, at.number, at.within)) (entry_within day n k (is_debit_entry day n) in_debits.1)) p)
    some_pends n BatchB q d m o u =
        let at : MessageAt day n = message_is day n m in
        let p : pending_as (sort_of day n) day J n 0 (phase day J n) ≡ true = λ i. pending_as (q i) day J n 0 (o i) in
        nothing_pends (item n 0) (into_filter (is_pending day J) (items day) (item n 0) (item_in day n 0 (omega (arith, at.number)) (omega (arith, at.number, at.within)) (omega arith)) p)
    some_pends n BatchE q d m o u =
        let at : MessageAt day n = message_is day n m in
        let x = one_fails (λ k. is_booked J n k || is_revoked_entry day J n k) (entry_numbers day n) u in
        let there : is_some (entry_at day n x.0) ≡ true = numbered_there (entries day n) x.0 x.1 in
        let both = or_parts (is_booked J n x.0) (is_revoked_entry day J n x.0) x.2 in
        let p : pending_as (sort_of day n) day J n x.0 (phase day J n) ≡ true = (λ i. pending_as (q i) day J n x.0 (o i)) ∙ and_from _ _ (and_from _ _ (and_from _ _ there refl) (not_from_false _ both.0)) (not_from_false _ both.1) in
        nothing_pends (item n x.0) (into_filter (is_pending day J) (items day) (item n x.0) (item_in day n x.0 (omega (arith, at.number)) (omega (arith, at.number, at.within)) (entry_there day n x.0 there)) p)
      where
        or_parts : (a b : Bool) → (a || b) ≡ false → (a ≡ false) × (b ≡ false)
        or_parts true b h = cc
        or_parts false b h = (refl, h)
    some_pends n _ q d m o u = cc

    pub all_settled : (n : ℕ) → is_message (sort_of day n) ≡ true → phase day J n ≡ phases.Settled
    all_settled n m = here (settled_as (sort_of day n) day J n) refl (morning_phase day ample J morning n m (is_taken n m))
      where
        here : (b : Bool) → settled_as (sort_of day n) day J n ≡ b → phase day J n ≡ (if b then phases.Settled else phases.Open) → phase day J n ≡ phases.Settled
        here true u e = e
        here false u e = absurd (some_pends n (sort_of day n) refl (ample.drawn n m) m e u)
