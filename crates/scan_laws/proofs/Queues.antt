-- Where an item stands doesn't change while it is pending, so a queue that no item enters or leaves stays as it is.
use Rattle.std.proofs.Common.{◌≡◌, ◌∙◌, ℕ, zero, suc, ◌+◌, ◌<◌, ◌≤◌, Bool, true, false, not, ◌&&◌, ◌||◌, List, ◌∷◌, Option, Some, None, refl, sym, ap, subst, arith, length, max, inl, inr, []}
use Rattle.std.specs.Prelude.{is_some, is_none, nat_eq, nat_lt, nat_le, if◌then◌else◌, unwrap_or, fold}
use Rattle.std.specs.List.{list_any, range_with_len}
use Rattle.std.proofs.lemmas.Bool.{and_parts, ltb-false, eqb-true, or_left, false_from_ne_true, or_right, eq-eqb}
use Rattle.batch_records.specs.DayRecord.{Day}
use Rattle.batch_records.specs.declared.day.Entry.{Entry}
use Rattle.commit_journal.specs.declared.line.Kind.{Kind}
use Rattle.commit_journal.specs.declared.line.Kind.TheVariants as kinds
use Rattle.commit_journal.specs.declared.line.Code.{Code}
use Rattle.commit_journal.specs.declared.line.Move.{Move}
use Rattle.commit_journal.specs.declared.line.Want.TheVariants as wants
use Rattle.commit_journal.specs.Line.{Line, History}
use Rattle.settlement_laws.proofs.Base.Induction.{line_of-some}
use Rattle.machine.specs.declared.answers.Phase.{Phase}
use Rattle.machine.specs.declared.answers.Phase.TheVariants as phases
use Rattle.machine.specs.Words.{some_passes, is_zero}
use Rattle.machine.specs.Records.Messages.{Sort, Pay, BatchA, BatchB, BatchC, BatchE, sort_of, is_a, is_b, is_message, is_credit, is_debit, entry_at, entries, debit_numbers, info_end, earliest, settlement_start, message_numbers, item_numbers, part, debit_account}
use Rattle.machine.specs.Records.Reserves.{must_leave}
use Rattle.machine.specs.Telling.History.{is_in, is_cover, is_book, is_time, is_in_of, is_book_of, is_cover_of, taken, booked, covered, clock}
use Rattle.machine.specs.Telling.Facts.{is_reached, untaken_earlier, answer}
use Rattle.machine.specs.Telling.Balances.{balance}
use Rattle.machine.specs.Stages.Phases.{phase, is_open, is_covered, is_answered, is_booked, is_revoked_entry}
use Rattle.machine.specs.Stages.Pending.{item, pending_as, is_pending, stands_on, priority_as, is_normal, is_ahead, standing, opened_at, first_unbooked_debit, last_debit_booked, debit_account_of_part, debit_accounts_as, is_blocker, is_blocked_by, is_blocked}
use Rattle.machine.specs.Making.Lines.{may_take, may_cover, fund_suffices, is_ready_item, made, line_of, item_want, message_want, moves_of_part}
use Rattle.machine.specs.Legal.{IsLegal}
use Rattle.settlement_laws.proofs.Base.Lists.{IsIn, never}
use Rattle.settlement_laws.proofs.Base.Made.{Made, made_facts}
use Rattle.settlement_laws.proofs.Base.PhaseLaws.{OpenFacts, open_facts, untaken_phase}
use Rattle.scan_laws.specs.Touched.{moves_on, waits_on}
use Rattle.scan_laws.proofs.Alike.{unchanged_else}
use Rattle.scan_laws.proofs.Booked.{is_quiet, quiet_pending, standing_next, book_parts, a_credit, not_false}
use Rattle.scan_laws.proofs.Frame.{any_same, blocker_same, balance_stays}
use Rattle.scan_laws.proofs.Items.{book_apart, pending_accepted}
use Rattle.scan_laws.proofs.Kept.{place_same}
use Rattle.scan_laws.proofs.Passing.{at_or_above, facts_of_time, reached_by, place_kept, opened_else, start_low, start_by}
use Rattle.scan_laws.proofs.Readiness.{seen_by, ready_same}
use Rattle.scan_laws.proofs.Waiting.{pending_alone, waiting_ready, accounts_by_part, third_same}
use Rattle.scan_laws.specs.Queues.{HasSameQueue}

-- ---- what a line of one sort tells first

made_take : (kind : Kind) (day : Day) (J : History) (n k : ℕ) (code : Code) (moves : List Move) → is_in kind ≡ true → Made kind day J n k code moves → may_take day J n ≡ true
made_take kinds.In day J n k code moves h m = m.0
made_take _ day J n k code moves h m = cc

made_cover : (kind : Kind) (day : Day) (J : History) (n k : ℕ) (code : Code) (moves : List Move) → is_cover kind ≡ true → Made kind day J n k code moves → may_cover day J n ≡ true
made_cover kinds.Cover day J n k code moves h m = m.0
made_cover _ day J n k code moves h m = cc

answered_part : (a q y f : Bool) → (a && q && y && f) ≡ true → q ≡ true
answered_part true true y f h = refl
answered_part true false y f h = cc
answered_part false q y f h = cc

quiet_now : (day : Day) (J : History) (n k : ℕ) → is_pending day J (item n k) ≡ true → is_quiet (phase day J n) ≡ true
unfolding is_pending
quiet_now day J n k p = quiet_pending (sort_of day n) day J n k (phase day J n) p

never_answered : (p : Phase) → is_answered p ≡ true → is_quiet p ≡ true → ⊥
never_answered phases.Answered h k = cc
never_answered _ h k = cc

-- ---- from the facts that it is read from

standing_by : (day : Day) (K J : History) (n k : ℕ) → taken K n ≡ taken J n → covered K n ≡ covered J n → ((j : ℕ) → booked K n j ≡ booked J n j) → ((is_a (sort_of day n) && is_credit day n k) ≡ false → opened_at day K n (settlement_start day n) ≡ opened_at day J n (settlement_start day n)) →
    standing day K (item n k) ≡ standing day J (item n k)
standing_by day K J n k t c b o = λ i. record { priority = priority_as (sort_of day n) day n; active = here (is_a (sort_of day n) && is_credit day n k) refl i; intake = unwrap_or (t i) 0; entry = k }
  where
    last : last_debit_booked day K n ≡ last_debit_booked day J n
    last = λ i. fold (λ last j. max last (unwrap_or (b j i) 0)) 0 (debit_numbers day n)

    here : (x : Bool) → (is_a (sort_of day n) && is_credit day n k) ≡ x → (if x then unwrap_or (covered K n) (last_debit_booked day K n) else opened_at day K n (settlement_start day n)) ≡ (if x then unwrap_or (covered J n) (last_debit_booked day J n) else opened_at day J n (settlement_start day n))
    here true e = λ i. unwrap_or (c i) (last i)
    here false e = o e

-- ---- Time lines

covered_credit : (s : Sort) (day : Day) (J : History) (n k : ℕ) (p : Phase) → is_open p ≡ false → pending_as s day J n k p ≡ true → (is_a s && is_credit day n k) ≡ true
covered_credit Pay day J n k p o h = never (is_open p) (and_parts (is_zero k) (is_open p) h).1 o
covered_credit BatchA day J n k p o h = a_credit (is_open p) (is_covered p) (is_booked J n k) (is_debit day n k) (is_credit day n k) (is_none (first_unbooked_debit day J n)) o h
covered_credit BatchB day J n k p o h = never (is_open p) (and_parts (is_zero k) (is_open p) h).1 o
covered_credit BatchC day J n k p o h = never (is_open p) (and_parts (is_some (entry_at day n k)) (is_open p) (and_parts _ (not (is_booked J n k)) h).0).1 o
covered_credit BatchE day J n k p o h = never (is_open p) (and_parts (is_some (entry_at day n k)) (is_open p) (and_parts _ (not (is_booked J n k)) (and_parts _ (not (is_revoked_entry day J n k)) h).0).0).1 o
covered_credit _ day J n k p o h = cc

pending_open : (day : Day) (J : History) (n k : ℕ) → is_pending day J (item n k) ≡ true → (is_a (sort_of day n) && is_credit day n k) ≡ false → is_open (phase day J n) ≡ true
unfolding is_pending
pending_open day J n k p c = here (is_open (phase day J n)) refl
  where
    here : (b : Bool) → is_open (phase day J n) ≡ b → b ≡ true
    here true e = refl
    here false e = never (is_a (sort_of day n) && is_credit day n k) (covered_credit (sort_of day n) day J n k (phase day J n) e p) c

-- the settlement of an open message has begun
open_begun : (day : Day) (J : History) (n : ℕ) → is_open (phase day J n) ≡ true → some_passes (nat_lt (clock J)) (settlement_start day n) ≡ false
unfolding OpenFacts
open_begun day J n h = let f = open_facts day J n h in start_by (earliest day n) (info_end day n) (nat_lt (clock J)) f.information_no f.waiting_no

opened_still : (day : Day) (J : History) (l : Line) (n : ℕ) → taken (l ∷ J) n ≡ taken J n → (o : Option ℕ) → ((e : ℕ) → o ≡ Some e → 1 ≤ e) → some_passes (nat_lt (clock J)) o ≡ false → opened_at day (l ∷ J) n o ≡ opened_at day J n o
opened_still day J l n t None low h = ap (λ o. unwrap_or o 0) t
opened_still day J l n t (Some e) low h = ap (λ o. unwrap_or o 0) (place_kept (at_or_above e) l J (reached_by e J (low e refl) (ltb-false (clock J) e h)))

-- ---- all lines

module _ (day : Day) (J : History) (l : Line) (n k : ℕ) (legal : IsLegal day (l ∷ J)) (p : is_pending day J (item n k) ≡ true) where
  at_time : is_time l.head.kind ≡ true → standing day (l ∷ J) (item n k) ≡ standing day J (item n k)
  at_time t =
      let f = facts_of_time day J l n t in
      standing_by day (l ∷ J) J n k f.same_taken f.same_covered f.same_booked
      (λ c. opened_still day J l n f.same_taken (settlement_start day n) (start_low day J l n legal t (pending_accepted day J n k p)) (open_begun day J n (pending_open day J n k p c)))

  at_book : is_book l.head.kind ≡ true → is_time l.head.kind ≡ false → standing day (l ∷ J) (item n k) ≡ standing day J (item n k)
  at_book b t = here (nat_eq l.head.msg n) refl
    where
      here : (c : Bool) → nat_eq l.head.msg n ≡ c → standing day (l ∷ J) (item n k) ≡ standing day J (item n k)
      here true e =
          let q : l.head.msg ≡ n = eqb-true l.head.msg n e in
          subst (λ m. is_pending day J (item m k) ≡ true → standing day (l ∷ J) (item m k) ≡ standing day J (item m k)) q (λ g. standing_next day J l b k (book_parts day J l b legal).0 g) p
      here false e = (unchanged_else day J l n t (book_apart day J l n b e)).same_standing (pending_accepted day J n k p) k

  never_in : is_in_of n l ≡ true → ⊥
  never_in h =
      let i = and_parts (is_in l.head.kind) (nat_eq l.head.msg n) h in
      let m = subst (λ x. may_take day J x ≡ true) (eqb-true l.head.msg n i.1) (made_take l.head.kind day J l.head.msg l.head.entry l.head.code l.moves i.0 (made_facts day J l legal.1).1) in
      let u = (and_parts (is_message (sort_of day n)) (is_none (taken J n)) (and_parts _ (is_reached day J n) (and_parts _ (is_none (untaken_earlier day J n)) m).0).0).1 in
      never true refl (sym (quiet_now day J n k p) ∙ ap is_quiet (untaken_phase day J n u))

  never_cover : is_cover_of n l ≡ true → ⊥
  never_cover h =
      let i = and_parts (is_cover l.head.kind) (nat_eq l.head.msg n) h in
      let m = subst (λ x. may_cover day J x ≡ true) (eqb-true l.head.msg n i.1) (made_cover l.head.kind day J l.head.msg l.head.entry l.head.code l.moves i.0 (made_facts day J l legal.1).1) in
      never_answered (phase day J n) (answered_part _ (is_answered (phase day J n)) (unwrap_or (answer day J n) false) (fund_suffices day J n) m) (quiet_now day J n k p)

  at_other : is_book l.head.kind ≡ false → is_time l.head.kind ≡ false → standing day (l ∷ J) (item n k) ≡ standing day J (item n k)
  at_other b t = here (is_in_of n l) refl (is_cover_of n l) refl
    where
      here : (c : Bool) → is_in_of n l ≡ c → (d : Bool) → is_cover_of n l ≡ d → standing day (l ∷ J) (item n k) ≡ standing day J (item n k)
      here true e d f = absurd (never_in e)
      here false e true f = absurd (never_cover f)
      here false e false f =
          let same = place_same (is_in_of n) l J e in
          standing_by day (l ∷ J) J n k same (place_same (is_cover_of n) l J f) (λ j. place_same (is_book_of n j) l J (ap (λ x. x && nat_eq l.head.msg n && nat_eq l.head.entry j) b)) (λ _. opened_else day l J n t same (settlement_start day n))

  pub standing_kept : standing day (l ∷ J) (item n k) ≡ standing day J (item n k)
  standing_kept = here (is_time l.head.kind) refl (is_book l.head.kind) refl
    where
      here : (c : Bool) → is_time l.head.kind ≡ c → (d : Bool) → is_book l.head.kind ≡ d → standing day (l ∷ J) (item n k) ≡ standing day J (item n k)
      here true e d f = at_time e
      here false e true f = at_book f e
      here false e false f = at_other f e

-- ---- an account on which no item enters or leaves the queue

numbered_in : (s len x : ℕ) → IsIn x (range_with_len s len) → (s ≤ x) × (x < s + len)
numbered_in s zero x i = absurd i
numbered_in s (suc len) x (inl e) = (omega (arith, e), omega (arith, e))
numbered_in s (suc len) x (inr i) = let r = numbered_in (s + 1) len x i in (omega (arith, r.0), omega (arith, r.1))

pub queue_blocked : (day : Day) (J : History) (l : Line) (a n k : ℕ) → IsLegal day (l ∷ J) → HasSameQueue day (l ∷ J) J a → is_pending day J (item n k) ≡ true → is_blocked day (l ∷ J) (item n k) a ≡ is_blocked day J (item n k) a
unfolding is_blocked is_blocked_by
queue_blocked day J l a n k legal q p = any_same (is_blocked_by day (l ∷ J) (item n k) a) (is_blocked_by day J (item n k) a) (message_numbers day)
    (λ m i. any_same (λ j. is_blocker day (l ∷ J) (item n k) a (item m j)) (λ j. is_blocker day J (item n k) a (item m j)) (item_numbers day m) (λ j r. at m j i r))
  where
    before : ℕ → ℕ → History → Bool
    before m j K = not (is_normal (priority_as (sort_of day m) day m)) && is_ahead (standing day K (item m j)) (standing day K (item n k))

    at : (m j : ℕ) → IsIn m (message_numbers day) → IsIn j (item_numbers day m) → is_blocker day (l ∷ J) (item n k) a (item m j) ≡ is_blocker day J (item n k) a (item m j)
    at m j i r =
        let x = numbered_in 1 (length day.messages) m i in
        let y = numbered_in 0 (suc (length (entries day m))) j r in
        blocker_same (is_pending day (l ∷ J) (item m j)) (is_pending day J (item m j)) (stands_on day a (item m j)) (before m j (l ∷ J)) (before m j J)
        (λ s. (
          q m j x.0 (omega (arith, x.1)) (omega (arith, y.1)) s,
          λ g. let z = standing_kept day J l m j legal g in let w = standing_kept day J l n k legal p in λ i. not (is_normal (priority_as (sort_of day m) day m)) && is_ahead (z i) (w i),
        ))

pub queue_waits : (day : Day) (J : History) (l : Line) (a n k : ℕ) → HasSameQueue day (l ∷ J) J a → 1 ≤ n → n ≤ length day.messages → k ≤ length (entries day n) → waits_on day (l ∷ J) a n k ≡ waits_on day J a n k
queue_waits day J l a n k q low high within = third_same (not (is_b (sort_of day n))) (stands_on day a (item n k)) (is_pending day (l ∷ J) (item n k)) (is_pending day J (item n k)) (q n k low high within)

-- what waits on it is ready as before
pub queue_ready : (day : Day) (J : History) (l : Line) (a n k : ℕ) → IsLegal day (l ∷ J) → HasSameQueue day (l ∷ J) J a → moves_on a l.moves ≡ false → 1 ≤ n → n ≤ length day.messages → k ≤ length (entries day n) → waits_on day J a n k ≡ true → is_ready_item day (l ∷ J) n k ≡ is_ready_item day J n k
queue_ready day J l a n k legal q m low high within w = here (part day n k) refl
  where
    x : ((not (is_b (sort_of day n)) && stands_on day a (item n k)) ≡ true) × (is_pending day J (item n k) ≡ true)
    x = and_parts (not (is_b (sort_of day n)) && stands_on day a (item n k)) (is_pending day J (item n k)) w

    y : (not (is_b (sort_of day n)) ≡ true) × (stands_on day a (item n k) ≡ true)
    y = and_parts (not (is_b (sort_of day n))) (stands_on day a (item n k)) x.0

    here : (o : Option Entry) → part day n k ≡ o → is_ready_item day (l ∷ J) n k ≡ is_ready_item day J n k
    here None e =
        never (stands_on day a (item n k)) y.1
        (ap (list_any (λ c. nat_eq c a)) (accounts_by_part (sort_of day n) day n k (not_false (is_b (sort_of day n)) y.0) ∙ ap (debit_account_of_part day) e))
    here (Some e) f =
        waiting_ready day (l ∷ J) a n k e (queue_waits day J l a n k q low high within ∙ w) f
        ∙ (λ i. not (queue_blocked day J l a n k legal q x.1 i) && nat_le (e.amount + must_leave day n a) (balance_stays day J l a m i))
        ∙ sym (waiting_ready day J a n k e w f)

-- ---- the line of an item that waits on the account moves money there

quiet_want : (day : Day) (J : History) (n : ℕ) (p : Phase) → is_quiet p ≡ true → is_b (sort_of day n) ≡ false → message_want day J n p ≡ wants.Book n 0
quiet_want day J n phases.Open q b = ap (λ c. if c then wants.All n else wants.Book n 0) b
quiet_want day J n phases.Covered q b = ap (λ c. if c then wants.All n else wants.Book n 0) b
quiet_want day J n _ q b = never false q refl

book_want : (day : Day) (J : History) (n k : ℕ) → is_quiet (phase day J n) ≡ true → is_b (sort_of day n) ≡ false → item_want day J n k ≡ wants.Book n k
book_want day J n zero q b = quiet_want day J n (phase day J n) q b
book_want day J n (suc k) q b = refl

moves_there : (day : Day) (o : Option Entry) (a : ℕ) → list_any (λ c. nat_eq c a) (debit_account_of_part day o) ≡ true → moves_on a (moves_of_part day o) ≡ true
moves_there day None a h = cc
moves_there day (Some e) a h = here (nat_eq (debit_account day e) a) refl h
  where
    here : (b : Bool) → nat_eq (debit_account day e) a ≡ b → (b || false) ≡ true → moves_on a (moves_of_part day (Some e)) ≡ true
    here true q h = or_left (nat_eq (debit_account day e) a || _) false (or_left (nat_eq (debit_account day e) a) _ q)
    here false q h = cc

pub own_moves : (day : Day) (J : History) (l : Line) (a n k : ℕ) → line_of day J (item_want day J n k) ≡ Some l → moves_on a l.moves ≡ false → waits_on day J a n k ≡ false
own_moves day J l a n k e m = false_from_ne_true (waits_on day J a n k) (λ w.
    let x = and_parts (not (is_b (sort_of day n)) && stands_on day a (item n k)) (is_pending day J (item n k)) w in
    let y = and_parts (not (is_b (sort_of day n))) (stands_on day a (item n k)) x.0 in
    let b : is_b (sort_of day n) ≡ false = not_false (is_b (sort_of day n)) y.0 in
    let want : item_want day J n k ≡ wants.Book n k = book_want day J n k (quiet_now day J n k x.1) b in
    let line : made day J (wants.Book n k) ≡ l = ap (made day J) (sym want) ∙ (line_of-some day J (item_want day J n k) l e).2 in
    let there = moves_there day (part day n k) a (subst (λ xs. list_any (λ c. nat_eq c a) xs ≡ true) (accounts_by_part (sort_of day n) day n k b) y.1) in
    never (moves_on a l.moves) (subst (λ z. moves_on a z.moves ≡ true) line there) m)

-- ---- an item on several accounts

stands_in : (xs : List ℕ) (a : ℕ) → IsIn a xs → list_any (λ b. nat_eq b a) xs ≡ true
stands_in [] a i = absurd i
stands_in (x ∷ xs) a (inl e) = or_left (nat_eq x a) _ (eq-eqb x a e)
stands_in (x ∷ xs) a (inr i) = or_right (nat_eq x a) _ (stands_in xs a i)

pub queue_item : (day : Day) (J : History) (l : Line) (n k : ℕ) → IsLegal day (l ∷ J) → is_pending day J (item n k) ≡ true → is_pending day (l ∷ J) (item n k) ≡ true →
    ((a : ℕ) → stands_on day a (item n k) ≡ true → HasSameQueue day (l ∷ J) J a × (moves_on a l.moves ≡ false)) → is_ready_item day (l ∷ J) n k ≡ is_ready_item day J n k
queue_item day J l n k legal p g h =
    seen_by day (l ∷ J) n k
    ∙ ready_same day (is_blocked day (l ∷ J) (item n k)) (is_blocked day J (item n k)) (balance day (l ∷ J)) (balance day J) n k _ _ _ _
    (pending_alone day (l ∷ J) n k g ∙ sym (pending_alone day J n k p)) (g ∙ sym p)
    (λ _ a i. let q = h a (stands_in (debit_accounts_as (sort_of day n) day n k) a i) in (queue_blocked day J l a n k legal q.0 p, balance_stays day J l a q.1))
    ∙ sym (seen_by day J n k)
