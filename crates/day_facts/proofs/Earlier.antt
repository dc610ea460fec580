-- The first earlier message of a sender that isn't taken stands at or after the first of all that isn't. Where the last of them is taken,
-- all are.
use Rattle.std.proofs.Common.{◌≡◌, ◌∙◌, ℕ, zero, suc, ◌+◌, ◌-◌, ◌≤◌, ◌<◌, Bool, true, false, ◌&&◌, List, [], ◌∷◌, Option, Some, None, length, refl, sym, ap, subst, arith, cond, inl, inr}
use Rattle.std.specs.Prelude.{IfSome, is_none, is_some, min, nat_lt}
use Rattle.std.specs.List.{find, range_with_len}
use Rattle.std.specs.Cmp.Lexicographic.{bytes_decides}
use Rattle.std.proofs.lemmas.Bool.{and_right, cases_eq, cases_lt, le-ltb, ltb-true, ltb-false}
use Rattle.batch_records.specs.DayRecord.{Day}
use Rattle.batch_records.specs.Sound.{is_sound}
use Rattle.commit_journal.specs.Line.{Line, History}
use Rattle.machine.specs.Laws.{EachLine, FollowsSender}
use Rattle.machine.specs.Legal.{IsLegal}
use Rattle.machine.specs.Words.{same_name}
use Rattle.machine.specs.Records.Messages.{sender}
use Rattle.machine.specs.Telling.History.{is_in_of, place_of, taken}
use Rattle.machine.specs.Telling.Facts.{untaken_earlier}
use Rattle.day_facts.specs.Facts.{Facts, StandsFor}
use Rattle.settlement_laws.proofs.Base.Counting.{newest, not_none, some_from}
use Rattle.settlement_laws.proofs.Base.LinesOf.{stays}
use Rattle.settlement_laws.proofs.EachLaw.OnceAndInOrder.{messages_in_order}
use Rattle.rule_book.specs.Senders.{IsSentBefore}
use Rattle.day_facts.specs.declared.own.Own.{Own}
use Rattle.day_facts.specs.Own.{owns_of, place_in}
use Rattle.day_facts.specs.Untaken.{LastIsTaken, awaited_from, first_untaken}
use Rattle.day_facts.proofs.Lookups.{taken_is}
use Rattle.day_facts.proofs.UntakenLines.{none_of, skip}

-- a search of which nothing from n on passes
search_below : (f : ℕ → Bool) (n s len last : ℕ) → ((i : ℕ) → n ≤ i → f i ≡ false) → last ≡ s + len → find f (range_with_len s len) ≡ find f (range_with_len s (min n last - s))
search_below f n s zero last fails e =
    let none : min n last - s ≡ 0 = omega (arith, e) in
    sym (ap (λ k. find f (range_with_len s k)) none)
search_below f n s (suc len) last fails e = here (nat_lt s n) refl (search_below f n (s + 1) len last fails (omega (arith, e)))
  where
    here : (b : Bool) → nat_lt s n ≡ b → find f (range_with_len (s + 1) len) ≡ find f (range_with_len (s + 1) (min n last - (s + 1))) → find f (range_with_len s (suc len)) ≡ find f (range_with_len s (min n last - s))
    here true t more =
        let low : s < n = ltb-true s n t in
        let size : min n last - s ≡ suc (min n last - (s + 1)) = omega (arith, low, e) in
        ap (λ o. cond (f s) (Some s) o) more ∙ sym (ap (λ k. find f (range_with_len s k)) size)
    here false t more =
        let high : n ≤ s = ltb-false s n t in
        let none : min n last - s ≡ 0 = omega (arith, high, e) in
        none_of f s (suc len) (λ j low up. fails j (omega (arith, low, high)))
        ∙ sym (ap (λ k. find f (range_with_len s k)) none)

abbrev waits_for : Day → History → ℕ → ℕ → Bool
waits_for day J n i = nat_lt i n && same_name (sender day i) (sender day n) && is_none (taken J i)

not_below : (a b c : Bool) → a ≡ false → (a && b && c) ≡ false
not_below a b c e = ap (λ x. x && b && c) e

earlier_is : (day : Day) (J : History) (n : ℕ) → find (waits_for day J n) (range_with_len (first_untaken day J) (min n (length day.messages + 1) - first_untaken day J)) ≡ untaken_earlier day J n
earlier_is day J n = sym (
    skip (waits_for day J n) (λ i. is_none (taken J i)) (λ i h. and_right (nat_lt i n && same_name (sender day i) (sender day n)) (is_none (taken J i)) h) 1 (length day.messages) (length day.messages + 1) (first_untaken day J) (omega arith) refl
    ∙ short (first_untaken day J) (nat_lt (length day.messages + 1) (first_untaken day J)) refl)
  where
    short : (s : ℕ) (b : Bool) → nat_lt (length day.messages + 1) s ≡ b → find (waits_for day J n) (range_with_len s (length day.messages + 1 - s)) ≡ find (waits_for day J n) (range_with_len s (min n (length day.messages + 1) - s))
    short s true t =
        let past : length day.messages + 1 < s = ltb-true (length day.messages + 1) s t in
        let one : length day.messages + 1 - s ≡ 0 = omega (arith, past) in
        let two : min n (length day.messages + 1) - s ≡ 0 = omega (arith, past) in
        ap (λ k. find (waits_for day J n) (range_with_len s k)) one ∙ sym (ap (λ k. find (waits_for day J n) (range_with_len s k)) two)
    short s false t =
        let low : s ≤ length day.messages + 1 = ltb-false (length day.messages + 1) s t in
        search_below (waits_for day J n) n s (length day.messages + 1 - s) (length day.messages + 1)
        (λ i h. not_below (nat_lt i n) (same_name (sender day i) (sender day n)) (is_none (taken J i)) (le-ltb i n h)) (omega (arith, low))

pub earlier_stands : (day : Day) (J : History) (facts : Facts) (n : ℕ) → StandsFor day J facts → awaited_from day facts.own n facts.next ≡ untaken_earlier day J n
earlier_stands day J facts n s =
    ap (λ (f : Facts). awaited_from day f.own n f.next) s.exact
    ∙ (λ i. find (λ m. nat_lt m n && same_name (sender day m) (sender day n) && is_none (taken_is day J m s.legal i)) (range_with_len (first_untaken day J) (min n (length day.messages + 1) - first_untaken day J)))
    ∙ earlier_is day J n

-- ---- where the last is taken

-- with a message each earlier one of its sender is taken
taken_before : (day : Day) (J : History) → EachLine (FollowsSender day) J → (m i : ℕ) → is_some (taken J m) ≡ true → 1 ≤ i → i < m → sender day i ≡ sender day m → is_some (taken J i) ≡ true
unfolding place_of
taken_before day [] each m i t low less same = cc
taken_before day (l ∷ J) each m i t low less same = by (is_some (taken J m)) refl (λ e. taken_before day J each.0 m i e low less same)
  where
    by : (b : Bool) → is_some (taken J m) ≡ b → (is_some (taken J m) ≡ true → is_some (taken J i) ≡ true) → is_some (taken (l ∷ J) i) ≡ true
    by true e before = stays (is_in_of i) l J (before e)
    by false e before = stays (is_in_of i) l J (each.1 m i (newest (is_in_of m) l J t e) low less same)

not_this : (a b c : Bool) → b ≡ false → (a && b && c) ≡ false
not_this true b c e = ap (λ x. x && c) e
not_this false b c e = refl

not_waiting : (a b c : Bool) → (b ≡ true → c ≡ false) → (a && b && c) ≡ false
not_waiting true true c h = h refl
not_waiting true false c h = refl
not_waiting false b c h = refl

pub none_earlier : (day : Day) (J : History) (facts : Facts) (n : ℕ) → is_sound day ≡ true → StandsFor day J facts → LastIsTaken day facts.own n → untaken_earlier day J n ≡ None
none_earlier day J facts n sound s last = none_of (waits_for day J n) 1 (length day.messages) (by last.last last.is_last last.is_taken)
  where
    law : EachLine (FollowsSender day) J
    law = (messages_in_order day sound J s.legal).2

    is_there : (m : ℕ) → is_none (place_in (λ own. own.taken) facts.own m) ≡ false → is_some (taken J m) ≡ true
    is_there m e = some_from (taken J m) (sym (ap (λ (f : Facts). is_none (place_in (λ own. own.taken) f.own m)) s.exact ∙ ap is_none (taken_is day J m s.legal)) ∙ e)

    by : (o : Option ℕ) → IsSentBefore day n o → IfSome o (λ m. is_none (place_in (λ own. own.taken) facts.own m) ≡ false) → (i : ℕ) → 1 ≤ i → i < 1 + length day.messages → waits_for day J n i ≡ false
    by None none t i low high = elim (cases_lt i n) [
      | inl lt ↦ not_this (nat_lt i n) (same_name (sender day i) (sender day n)) (is_none (taken J i)) (none i low lt)
      | inr ge ↦ not_below (nat_lt i n) (same_name (sender day i) (sender day n)) (is_none (taken J i)) (le-ltb i n ge)
    ]
    by (Some m) sent t i low high = elim (cases_lt i n) [
      | inr ge ↦ not_below (nat_lt i n) (same_name (sender day i) (sender day n)) (is_none (taken J i)) (le-ltb i n ge)
      | inl lt ↦ elim (cases_lt m i) [
        | inl above ↦ not_this (nat_lt i n) (same_name (sender day i) (sender day n)) (is_none (taken J i)) (sent.3 i above lt)
        | inr below ↦ not_waiting (nat_lt i n) (same_name (sender day i) (sender day n)) (is_none (taken J i))
            (λ same.
            let there = is_there m t in
            let alike : sender day i ≡ sender day m = (bytes_decides (sender day i) (sender day n)).0 same ∙ sym ((bytes_decides (sender day m) (sender day n)).0 sent.2) in
            not_none (taken J i) (elim (cases_eq i m) [
              | inl is ↦ subst (λ k. is_some (taken J k) ≡ true) (sym is) there
              | inr other ↦ taken_before day J law m i there low (omega (arith, below, other)) alike
            ]))
      ]
    ]
