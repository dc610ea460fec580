-- A sum over the lines of a whole journal of an ample day is one over its messages and entries.
use Rattle.std.proofs.Common.{◌≡◌, ℕ, zero, suc, ◌+◌, ◌≤◌, ◌<◌, Bool, true, false, not, ◌&&◌, ◌||◌, [], ◌∷◌, Option, Some, None, refl, sym, ap, ◌∙◌, subst, arith, length, cond, inl, inr, ⊎_elim}
use Rattle.std.specs.Prelude.{is_some, is_none, nat_eq, if◌then◌else◌, sum_by, count_by}
use Rattle.std.specs.List.{list_all}
use Rattle.std.proofs.lemmas.Bool.{and_parts, eqb-true, eq-eqb, ne_eqb, cases_eq, not-false}
use Rattle.std.proofs.lemmas.List.Sums.{sum_by-cons}
use Rattle.batch_records.specs.DayRecord.{Day}
use Rattle.batch_records.specs.declared.day.Entry.{Entry}
use Rattle.commit_journal.specs.declared.line.Code.TheVariants as line_codes
use Rattle.commit_journal.specs.declared.line.Kind.TheVariants as kinds
use Rattle.commit_journal.specs.declared.line.Want.{Want}
use Rattle.commit_journal.specs.declared.line.Want.TheVariants as wants
use Rattle.commit_journal.specs.Line.{Line, History}
use Rattle.machine.specs.declared.answers.Phase.TheVariants as phases
use Rattle.machine.specs.Words.{some_passes}
use Rattle.machine.specs.Records.Messages.{Sort, BatchA, BatchB, BatchE, sort_of, is_message, is_a, is_b, entries, entry_at, entry_numbers, is_debit, is_debit_entry, is_credit, is_credit_entry, debit_numbers, credit_numbers}
use Rattle.machine.specs.Telling.History.{taken, covered, settled_whole, is_in_of, is_book_of, is_all_of}
use Rattle.machine.specs.Stages.Phases.{phase, is_open, is_booked, is_revoked_entry, settled_as}
use Rattle.machine.specs.Stages.Pending.{is_pending, pending_as}
use Rattle.machine.specs.Making.Lines.{line, may, made, book_line, all_line}
use Rattle.machine.specs.Laws.{EachLine}
use Rattle.machine.proofs.SortFacts.{b_is}
use Rattle.settlement_laws.proofs.ProcedureA.NeverBelowZero.{sound_a}
use Rattle.settlement_laws.proofs.Base.Counting.{count_more, some_counted, passes_some}
use Rattle.settlement_laws.proofs.ProcedureA.BookedCredits.{has_debits}
use Rattle.settlement_laws.proofs.Wants.Foremost.{entry_there}
use Rattle.settlement_laws.proofs.Base.Lists.{IsIn, never, all_in, find_all, into_filter, in_range, is_numbered}
use Rattle.settlement_laws.proofs.Base.Numbers.{sum_add}
use Rattle.settlement_laws.proofs.EachLaw.OnceAndInOrder.{once, booked_at_most_once, messages_in_order}
use Rattle.settlement_laws.proofs.Base.PhaseLaws.{untaken_phase, open_unsettled}
use Rattle.settlement_laws.proofs.DayEnd.Progress.{message_at-in}
use Rattle.settlement_laws.proofs.DayEnd.Stops.{MessageAt, message_is}
use Rattle.settlement_laws.proofs.Base.Sums.{sum_from, bit}
use Rattle.trial_day.proofs.Ample.{Ample, is_drawn}
use Rattle.trial_day.proofs.Morning.{IsWork, morning_phase, not_covered, not_revoked}
use Rattle.trial_day.proofs.Settling.{numbered_there}
use Rattle.trial_day.proofs.Shape.{Worked}

-- ---- sums over numbers

pub sum_alike : (f g : ℕ → ℕ) (s n : ℕ) → ((k : ℕ) → s ≤ k → k < s + n → f k ≡ g k) → sum_from f s n ≡ sum_from g s n
sum_alike f g s zero h = refl
sum_alike f g s (suc n) h = λ i. h s (omega arith) (omega arith) i + sum_alike f g (suc s) n (λ k low high. h k (omega arith) (omega arith)) i

sum_zeros : (f : ℕ → ℕ) (s n : ℕ) → ((k : ℕ) → s ≤ k → f k ≡ 0) → sum_from f s n ≡ 0
sum_zeros f s zero h = refl
sum_zeros f s (suc n) h =
    let a : f s ≡ 0 = h s (omega arith) in
    let b : sum_from f (suc s) n ≡ 0 = sum_zeros f (suc s) n (λ k low. h k (omega arith)) in
    omega arith

-- nothing but at the number m
sum_one : (f : ℕ → ℕ) (s n m : ℕ) → s ≤ m → m < s + n → ((k : ℕ) → (k ≡ m → ⊥) → f k ≡ 0) → sum_from f s n ≡ f m
sum_one f s zero m low high h = absurd (omega arith)
sum_one f s (suc n) m low high h =
    ⊎_elim
    (λ (e : m ≡ s).
    let a : f s ≡ f m = ap f (sym e) in
    let b : sum_from f (suc s) n ≡ 0 = sum_zeros f (suc s) n (λ k more. h k (λ q. omega arith)) in
    let z : f s + sum_from f (suc s) n ≡ f m = omega arith in z)
    (λ (ne : m ≡ s → ⊥).
    let a : f s ≡ 0 = h s (λ q. ne (sym q)) in
    let b : sum_from f (suc s) n ≡ f m = sum_one f (suc s) n m (omega (arith, ne)) (omega arith) h in
    let z : f s + sum_from f (suc s) n ≡ f m = omega arith in z)
    (cases_eq m s)

pub sum_both : (f g : ℕ → ℕ) (s n : ℕ) → sum_from (λ k. f k + g k) s n ≡ sum_from f s n + sum_from g s n
sum_both f g s zero = refl
sum_both f g s (suc n) = let k : sum_from (λ k. f k + g k) (suc s) n ≡ sum_from f (suc s) n + sum_from g (suc s) n = sum_both f g (suc s) n in omega arith

pub zero_more : (x y : ℕ) → x ≡ y → 0 + x ≡ y
zero_more x y e = omega (arith, e)

-- of sums over lines
sum_over_lines : (g : ℕ → Line → ℕ) (s n : ℕ) (J : History) → sum_by (λ l. sum_from (λ k. g k l) s n) J ≡ sum_from (λ k. sum_by (g k) J) s n
sum_over_lines g s n [] = sym (sum_zeros (λ k. sum_by (g k) []) s n (λ k low. refl))
sum_over_lines g s n (l ∷ J) =
    sum_by-cons (λ l. sum_from (λ k. g k l) s n) l J
    ∙ (λ i. sum_from (λ k. g k l) s n + sum_over_lines g s n J i)
    ∙ sym (sum_both (λ k. g k l) (λ k. sum_by (g k) J) s n)
    ∙ sum_alike (λ k. g k l + sum_by (g k) J) (λ k. sum_by (g k) (l ∷ J)) s n (λ k low high. sym (sum_by-cons (g k) l J))

-- ---- lines that pass a test

abbrev pub one : Bool → ℕ → ℕ
one b x = if b then x else 0

none_pass : (test : Line → Bool) (x : ℕ) (J : History) → count_by test J ≡ 0 → sum_by (λ l. one (test l) x) J ≡ 0
none_pass test x [] c = refl
none_pass test x (l ∷ J) c = sum_by-cons (λ l. one (test l) x) l J ∙ here (test l) (sym (count_more test l J) ∙ c) (none_pass test x J)
  where
    here : (b : Bool) → cond b 1 0 + count_by test J ≡ 0 → (count_by test J ≡ 0 → sum_by (λ l. one (test l) x) J ≡ 0) → one b x + sum_by (λ l. one (test l) x) J ≡ 0
    here true c k = absurd (omega (arith, c))
    here false c k = let z = k (omega (arith, c)) in omega (arith, z)

one_passes : (test : Line → Bool) (x : ℕ) (J : History) → count_by test J ≡ 1 → sum_by (λ l. one (test l) x) J ≡ x
one_passes test x [] c = cc
one_passes test x (l ∷ J) c = sum_by-cons (λ l. one (test l) x) l J ∙ here (test l) (sym (count_more test l J) ∙ c) (none_pass test x J) (one_passes test x J)
  where
    here : (b : Bool) → cond b 1 0 + count_by test J ≡ 1 → (count_by test J ≡ 0 → sum_by (λ l. one (test l) x) J ≡ 0) → (count_by test J ≡ 1 → sum_by (λ l. one (test l) x) J ≡ x) → one b x + sum_by (λ l. one (test l) x) J ≡ x
    here true c k r = let z = k (omega (arith, c)) in omega (arith, z)
    here false c k r = let z = r (omega (arith, c)) in omega (arith, z)

-- ---- the lines of a message

abbrev pub in_ok : ℕ → Line
in_ok n = line kinds.In n 0 line_codes.Ok []

-- of an accepted message that is settled
abbrev pub of_message : Day → (Line → ℕ) → ℕ → ℕ
of_message day f n = f (in_ok n) + (if is_b (sort_of day n) then f (all_line day n) else sum_from (λ k. f (book_line day n k)) 1 (length (entries day n)))

abbrev share : Day → (Line → ℕ) → ℕ → Line → ℕ
share day f n l = one (is_in_of n l) (f (in_ok n)) + (if is_b (sort_of day n) then one (is_all_of n l) (f (all_line day n)) else sum_from (λ k. one (is_book_of n k l) (f (book_line day n k))) 1 (length (entries day n)))

module _ (day : Day) (ample : Ample day) (f : Line → ℕ) where
  nothing_else : (b : Bool) (x y : ℕ) → x ≡ 0 → y ≡ 0 → (if b then x else y) ≡ 0
  nothing_else true x y a b = a
  nothing_else false x y a b = b

  in_share : (m : ℕ) → 1 ≤ m → m < 1 + length day.messages → sum_from (λ n. share day f n (in_ok m)) 1 (length day.messages) ≡ f (in_ok m)
  in_share m low high = sum_one (λ n. share day f n (in_ok m)) 1 (length day.messages) m low high other ∙ own
    where
      rest : (n : ℕ) → (if is_b (sort_of day n) then 0 else sum_from (λ k. 0) 1 (length (entries day n))) ≡ 0
      rest n = nothing_else (is_b (sort_of day n)) 0 (sum_from (λ k. 0) 1 (length (entries day n))) refl (sum_zeros (λ k. 0) 1 (length (entries day n)) (λ k l. refl))

      other : (n : ℕ) → (n ≡ m → ⊥) → share day f n (in_ok m) ≡ 0
      other n ne = let a : one (nat_eq m n) (f (in_ok n)) ≡ 0 = ap (λ b. one b (f (in_ok n))) (ne_eqb m n (λ e. ne (sym e))) in let r = rest n in omega (arith, a, r)

      own : share day f m (in_ok m) ≡ f (in_ok m)
      own = let a : one (nat_eq m m) (f (in_ok m)) ≡ f (in_ok m) = ap (λ b. one b (f (in_ok m))) (eq-eqb m m refl) in let r = rest m in omega (arith, a, r)

  book_share : (m j : ℕ) → 1 ≤ m → m < 1 + length day.messages → is_b (sort_of day m) ≡ false → 1 ≤ j → j < 1 + length (entries day m) → sum_from (λ n. share day f n (book_line day m j)) 1 (length day.messages) ≡ f (book_line day m j)
  book_share m j low high nb jl jh = sum_one (λ n. share day f n (book_line day m j)) 1 (length day.messages) m low high other ∙ own
    where
      other : (n : ℕ) → (n ≡ m → ⊥) → share day f n (book_line day m j) ≡ 0
      other n ne =
          let no : nat_eq m n ≡ false = ne_eqb m n (λ e. ne (sym e)) in
          zero_more _ 0 (nothing_else (is_b (sort_of day n)) 0 (sum_from (λ k. one (nat_eq m n && nat_eq j k) (f (book_line day n k))) 1 (length (entries day n))) refl
          (sum_zeros (λ k. one (nat_eq m n && nat_eq j k) (f (book_line day n k))) 1 (length (entries day n)) (λ k l. ap (λ b. one (b && nat_eq j k) (f (book_line day n k))) no)))

      at : (k : ℕ) → one (nat_eq m m && nat_eq j k) (f (book_line day m k)) ≡ one (nat_eq j k) (f (book_line day m k))
      at k = ap (λ b. one (b && nat_eq j k) (f (book_line day m k))) (eq-eqb m m refl)

      own : share day f m (book_line day m j) ≡ f (book_line day m j)
      own = zero_more _ (f (book_line day m j)) (ap (λ b. if b then 0 else sum_from (λ k. one (nat_eq m m && nat_eq j k) (f (book_line day m k))) 1 (length (entries day m))) nb
          ∙ sum_alike (λ k. one (nat_eq m m && nat_eq j k) (f (book_line day m k))) (λ k. one (nat_eq j k) (f (book_line day m k))) 1 (length (entries day m)) (λ k l h. at k)
          ∙ sum_one (λ k. one (nat_eq j k) (f (book_line day m k))) 1 (length (entries day m)) j jl jh (λ k ne. ap (λ b. one b (f (book_line day m k))) (ne_eqb j k (λ e. ne (sym e))))
          ∙ ap (λ b. one b (f (book_line day m j))) (eq-eqb j j refl))

  all_share : (m : ℕ) → 1 ≤ m → m < 1 + length day.messages → is_b (sort_of day m) ≡ true → sum_from (λ n. share day f n (all_line day m)) 1 (length day.messages) ≡ f (all_line day m)
  all_share m low high b = sum_one (λ n. share day f n (all_line day m)) 1 (length day.messages) m low high other ∙ own
    where
      other : (n : ℕ) → (n ≡ m → ⊥) → share day f n (all_line day m) ≡ 0
      other n ne = zero_more _ 0 (nothing_else (is_b (sort_of day n)) (one (nat_eq m n) (f (all_line day n))) (sum_from (λ k. 0) 1 (length (entries day n))) (ap (λ b. one b (f (all_line day n))) (ne_eqb m n (λ e. ne (sym e)))) (sum_zeros (λ k. 0) 1 (length (entries day n)) (λ k l. refl)))

      own : share day f m (all_line day m) ≡ f (all_line day m)
      own = zero_more _ (f (all_line day m)) (ap (λ b. if b then one (nat_eq m m) (f (all_line day m)) else sum_from (λ k. 0) 1 (length (entries day m))) b ∙ ap (λ b. one b (f (all_line day m))) (eq-eqb m m refl))

  number_of : (n : ℕ) → is_message (sort_of day n) ≡ true → (1 ≤ n) × (n < 1 + length day.messages)
  number_of n m = let at : MessageAt day n = message_is day n m in (omega (arith, at.number), omega (arith, at.number, at.within))

  b_is_there : (s : Sort) → is_b s ≡ true → is_message s ≡ true
  b_is_there BatchB h = refl
  b_is_there _ h = cc

  line_share : (l : Line) → IsWork day l → sum_from (λ n. share day f n l) 1 (length day.messages) ≡ f l
  line_share l (inl t) = let r = number_of t.msg t.message in subst (λ x. sum_from (λ n. share day f n x) 1 (length day.messages) ≡ f x) (sym t.is) (in_share t.msg r.0 r.1)
  line_share l (inr (inl b)) =
      let r = number_of b.msg b.message in
      let within = entry_there day b.msg b.entry (ap is_some b.there) in
      subst (λ x. sum_from (λ n. share day f n x) 1 (length day.messages) ≡ f x) (sym b.made) (book_share b.msg b.entry r.0 r.1 b.not_b (not_first b.entry (ap is_some b.there)) (omega (arith, within)))
    where
      not_first : (k : ℕ) → is_some (entry_at day b.msg k) ≡ true → 1 ≤ k
      not_first zero h = cc
      not_first (suc k) h = omega arith
  line_share l (inr (inr a)) = let r = number_of a.msg (b_is_there (sort_of day a.msg) a.of_b) in subst (λ x. sum_from (λ n. share day f n x) 1 (length day.messages) ≡ f x) (sym a.is) (all_share a.msg r.0 r.1 a.of_b)

  lines_share : (J : History) → EachLine (λ l before. IsWork day l) J → sum_by f J ≡ sum_from (λ n. sum_by (share day f n) J) 1 (length day.messages)
  lines_share J w = same J w ∙ sum_over_lines (share day f) 1 (length day.messages) J
    where
      same : (J : History) → EachLine (λ l before. IsWork day l) J → sum_by f J ≡ sum_by (λ l. sum_from (λ n. share day f n l) 1 (length day.messages)) J
      same [] w = refl
      same (l ∷ J) w =
          let a : sum_by f (l ∷ J) ≡ f l + sum_by f J = sum_by-cons f l J in
          let b : sum_by (λ l. sum_from (λ n. share day f n l) 1 (length day.messages)) (l ∷ J) ≡ sum_from (λ n. share day f n l) 1 (length day.messages) + sum_by (λ l. sum_from (λ n. share day f n l) 1 (length day.messages)) J = sum_by-cons (λ l. sum_from (λ n. share day f n l) 1 (length day.messages)) l J in
          let c = line_share l w.1 in
          let k = same J w.0 in
          omega (arith, a, b, c, k)

-- ---- what is settled has each of its lines once

module _ (day : Day) (ample : Ample day) (K : History) (worked : Worked day K) (n : ℕ) (m : is_message (sort_of day n) ≡ true) where
  pub there : is_some (taken K n) ≡ true
  there = here (taken K n) refl
    where
      differ : phases.Untaken ≡ phases.Settled → ⊥
      differ e = cc

      here : (o : Option ℕ) → taken K n ≡ o → is_some o ≡ true
      here None e = absurd (differ (sym (untaken_phase day K n (ap is_none e)) ∙ worked.settled n m))
      here (Some p) e = refl

  pub settled_yes : settled_as (sort_of day n) day K n ≡ true
  settled_yes = here (settled_as (sort_of day n) day K n) refl (sym (morning_phase day ample K worked.morning n m there) ∙ worked.settled n m)
    where
      here : (b : Bool) → settled_as (sort_of day n) day K n ≡ b → (if b then phases.Settled else phases.Open) ≡ phases.Settled → b ≡ true
      here true e h = refl
      here false e h = cc

  taken_once : count_by (is_in_of n) K ≡ 1
  taken_once =
      let a = (messages_in_order day ample.sound K worked.legal).0 n in
      let b = some_counted (is_in_of n) K there in
      omega (arith, a, b)

  all_new : (J : History) (w : Want) → may day J w ≡ true → is_all_of n (made day J w) ≡ true → is_some (settled_whole J n) ≡ false
  unfolding is_pending
  all_new J (wants.All i) h t =
      let b = and_parts (is_b (sort_of day i)) (pending_as (sort_of day i) day J i 0 (phase day J i)) (and_parts _ _ (and_parts _ _ h).0).0 in
      subst (λ j. is_some (settled_whole J j) ≡ false) (eqb-true i n t) (of_b (sort_of day i) i b.0 b.1 (open_unsettled day J i))
    where
      first : (a b : Bool) → (a || b) ≡ false → a ≡ false
      first true b h = cc
      first false b h = refl

      of_b : (s : Sort) (i : ℕ) → is_b s ≡ true → pending_as s day J i 0 (phase day J i) ≡ true → (is_open (phase day J i) ≡ true → settled_as s day J i ≡ false) → is_some (settled_whole J i) ≡ false
      of_b BatchB i b p u = first (is_some (settled_whole J i)) (is_some (covered J i)) (u p)
      of_b _ i b p u = cc
  all_new J (wants.In i) h t = cc
  all_new J (wants.Book i k) h t = cc
  all_new J wants.Time h t = cc
  all_new J (wants.Expire i) h t = cc
  all_new J (wants.Ask i) h t = cc
  all_new J (wants.Cover i) h t = cc
  all_new J (wants.Refuse i) h t = cc
  all_new J (wants.Sweep a) h t = cc
  all_new J wants.End h t = cc

  pub is_whole : is_b (sort_of day n) ≡ true → is_some (settled_whole K n) ≡ true
  is_whole b = first (is_some (settled_whole K n)) (is_some (covered K n)) (not_covered day ample K worked.morning n) (sym (ap (λ s. settled_as s day K n) (b_is (sort_of day n) b)) ∙ settled_yes)
    where
      first : (a b : Bool) → b ≡ false → (a || b) ≡ true → a ≡ true
      first true b e h = refl
      first false true e h = cc
      first false false e h = cc

  whole_once : is_b (sort_of day n) ≡ true → count_by (is_all_of n) K ≡ 1
  whole_once b = once day (is_all_of n) all_new K worked.legal ∙ ap bit (is_whole b)

  -- each entry is booked
  pub all_booked : is_b (sort_of day n) ≡ false → (k : ℕ) → 1 ≤ k → k < 1 + length (entries day n) → is_booked K n k ≡ true
  all_booked nb k low high = here (sort_of day n) refl (ample.drawn n m) settled_yes
    where
      k_in : IsIn k (entry_numbers day n)
      k_in = in_range 1 (length (entries day n)) k low high

      of_a : sort_of day n ≡ BatchA → list_all (is_booked K n) (credit_numbers day n) ≡ true → is_booked K n k ≡ true
      of_a q h = by_side (is_credit day n k) refl (entry_at day n k) refl (numbered_there (entries day n) k k_in)
        where
          first : (k : ℕ) × (is_credit day n k ≡ true)
          first = ample.credited n (ap is_a q)

          first_in : IsIn first.0 (credit_numbers day n)
          first_in = into_filter (is_credit day n) (entry_numbers day n) first.0 (is_numbered first.0 (entries day n) (passes_some (is_credit_entry day n) (entry_at day n first.0) first.1)) first.1

          no_debit_left : has_debits day K n ≡ true
          no_debit_left = elim (((sound_a day K worked.legal).flags n q).waited first.0 first.1 (all_in (is_booked K n) (credit_numbers day n) first.0 h first_in)) [
            | inl x ↦ x
            | inr c ↦ never (is_some (covered K n)) c (not_covered day ample K worked.morning n)
          ]

          by_side : (c : Bool) → is_credit day n k ≡ c → (o : Option Entry) → entry_at day n k ≡ o → is_some o ≡ true → is_booked K n k ≡ true
          by_side true e o g t = all_in (is_booked K n) (credit_numbers day n) k h (into_filter (is_credit day n) (entry_numbers day n) k k_in e)
          by_side false e None g t = cc
          by_side false e (Some x) g t =
              let d : is_debit_entry day n x ≡ true = not-false (is_debit_entry day n x) (sym (ap (some_passes (is_credit_entry day n)) g) ∙ e) in
              not-false (is_booked K n k) (find_all (λ k. not (is_booked K n k)) (debit_numbers day n) no_debit_left k (into_filter (is_debit day n) (entry_numbers day n) k k_in (ap (some_passes (is_debit_entry day n)) g ∙ d)))

      of_e : list_all (λ k. is_booked K n k || is_revoked_entry day K n k) (entry_numbers day n) ≡ true → is_booked K n k ≡ true
      of_e h = left (is_booked K n k) (is_revoked_entry day K n k) (not_revoked day ample K worked.morning n k) (all_in (λ k. is_booked K n k || is_revoked_entry day K n k) (entry_numbers day n) k h k_in)
        where
          left : (a b : Bool) → b ≡ false → (a || b) ≡ true → a ≡ true
          left true b e h = refl
          left false true e h = cc
          left false false e h = cc

      here : (s : Sort) → sort_of day n ≡ s → is_drawn s ≡ true → settled_as s day K n ≡ true → is_booked K n k ≡ true
      here BatchA q d h = of_a q h
      here BatchB q d h = never (is_b (sort_of day n)) (ap is_b q) nb
      here BatchE q d h = of_e h
      here _ q d h = cc

  book_once : is_b (sort_of day n) ≡ false → (k : ℕ) → 1 ≤ k → k < 1 + length (entries day n) → count_by (is_book_of n k) K ≡ 1
  book_once nb k low high =
      let a = booked_at_most_once day K worked.legal n k in
      let b = some_counted (is_book_of n k) K (all_booked nb k low high) in
      omega (arith, a, b)

  message_total : (f : Line → ℕ) → sum_by (share day f n) K ≡ of_message day f n
  message_total f =
      sum_add (λ l. one (is_in_of n l) (f (in_ok n))) rest K
      ∙ (λ i. one_passes (is_in_of n) (f (in_ok n)) K taken_once i + second (is_b (sort_of day n)) refl i)
    where
      rest : Line → ℕ
      rest l = if is_b (sort_of day n) then one (is_all_of n l) (f (all_line day n)) else sum_from (λ k. one (is_book_of n k l) (f (book_line day n k))) 1 (length (entries day n))

      second : (b : Bool) → is_b (sort_of day n) ≡ b →
          sum_by (λ l. if b then one (is_all_of n l) (f (all_line day n)) else sum_from (λ k. one (is_book_of n k l) (f (book_line day n k))) 1 (length (entries day n))) K
          ≡ (if b then f (all_line day n) else sum_from (λ k. f (book_line day n k)) 1 (length (entries day n)))
      second true e = one_passes (is_all_of n) (f (all_line day n)) K (whole_once e)
      second false e =
          sum_over_lines (λ k l. one (is_book_of n k l) (f (book_line day n k))) 1 (length (entries day n)) K
          ∙ sum_alike (λ k. sum_by (λ l. one (is_book_of n k l) (f (book_line day n k))) K) (λ k. f (book_line day n k)) 1 (length (entries day n)) (λ k low high. one_passes (is_book_of n k) (f (book_line day n k)) K (book_once e k low high))

pub work_total : (day : Day) → Ample day → (K : History) → Worked day K → (f : Line → ℕ) → sum_by f K ≡ sum_from (of_message day f) 1 (length day.messages)
work_total day ample K worked f = lines_share day ample f K worked.morning.works ∙ sum_alike (λ n. sum_by (share day f n) K) (of_message day f) 1 (length day.messages) (λ n low high. message_total day ample K worked n (message_at-in day n low high).1 f)
