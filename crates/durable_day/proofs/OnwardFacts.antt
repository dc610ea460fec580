-- The next want has a line.
use Rattle.std.proofs.Common.{◌≡◌, ℕ, zero, suc, ◌+◌, ◌<◌, ◌≤◌, Bool, true, false, ◌&&◌, ◌||◌, not, length, Option, Some, None, is_some, is_none, refl, sym, ap, subst, ◌∙◌, arith, cond, ⊎_elim}
use Rattle.std.specs.Prelude.{nat_lt}
use Rattle.std.specs.List.{find, list_all, range_with_len}
use Rattle.std.proofs.lemmas.Bool.{and_from, and_parts, cond-true, cond-false, eq-eqb, false≢true, le-leb, leb-true, ltb-false, ltb-true, cases_eq}
use Rattle.period_calendar.specs.declared.time.TheConstants.{MIDNIGHT}
use Rattle.batch_records.specs.DayRecord.{Day}
use Rattle.batch_records.specs.Sound.{is_sound}
use Rattle.commit_journal.specs.declared.line.Want.{Want}
use Rattle.commit_journal.specs.declared.line.Want.TheVariants as wants
use Rattle.commit_journal.specs.Line.{History}
use Rattle.commit_journal.proofs.FieldLemmas.{some_is}
use Rattle.machine.specs.Words.{same_name}
use Rattle.machine.specs.Telling.Facts.{is_reached, round, untaken_earlier, untaken_reached}
use Rattle.machine.specs.Telling.History.{clock, ended, is_ended, taken}
use Rattle.machine.specs.Legal.{IsLegal}
use Rattle.machine.specs.Making.Lines.{all_taken, is_ready, line_of, may, may_take}
use Rattle.machine.specs.Making.FirstReady.{first_ready}
use Rattle.machine.specs.Records.Messages.{message_numbers, round_of, sender}
use Rattle.machine.specs.Orders.Order.{time_want}
use Rattle.settlement_laws.proofs.Wants.ReadyWants.{first_ready_has_a_line}
use Rattle.settlement_laws.proofs.Base.Induction.{line_of-made}
use Rattle.settlement_laws.proofs.DayEnd.Progress.{message_at-in}
use Rattle.settlement_laws.proofs.Base.Searches.{all_taken_is, find_none, not_ready_is, ready_is}
use Rattle.settlement_laws.proofs.Base.SoundParts.{rounds_in_order, sound_parts}
use Rattle.settlement_laws.proofs.DayEnd.Stops.{MessageAt, clock-bound, round_is}
use Rattle.settlement_laws.proofs.Base.Sums.{all-from}
use Rattle.durable_day.specs.Onward.{next_want, want_among}

-- ---- the first that is found

pub record IsFirst (test : ℕ → Bool) (s len n : ℕ) : Type 0 where
  pub low : s ≤ n
  pub high : n < s + len
  pub passes : test n ≡ true
  pub before : (i : ℕ) → s ≤ i → i < n → test i ≡ false

found_first : (test : ℕ → Bool) (s len n : ℕ) → find test (range_with_len s len) ≡ Some n → IsFirst test s len n
found_first test s zero n h = absurd (cc)
found_first test s (suc len) n h = here (test s) refl h (found_first test (s + 1) len n)
  where
    here : (b : Bool) → test s ≡ b → cond b (Some s) (find test (range_with_len (s + 1) len)) ≡ Some n → (find test (range_with_len (s + 1) len) ≡ Some n → IsFirst test (s + 1) len n) → IsFirst test s (suc len) n
    here true e is later =
        let same : s ≡ n = some_is s n is in
        record { low = omega (arith, same); high = omega (arith, same); passes = subst (λ i. test i ≡ true) same e; before = λ i low less. absurd (omega (arith, same, low, less)) }
    here false e is later =
        let found = later is in
        record {
          low = omega (arith, found.low);
          high = omega (arith, found.high);
          passes = found.passes;
          before = λ i low less. ⊎_elim (λ (same : i ≡ s). subst (λ j. test j ≡ false) (sym same) e) (λ (other : i ≡ s → ⊥). found.before i (omega (arith, low, other)) less) (cases_eq i s);
        }

-- ---- the least message that isn't taken may be taken

reached_before : (day : Day) (J : History) (i n : ℕ) → is_sound day ≡ true → MessageAt day i → MessageAt day n → i ≤ n → is_reached day J n ≡ true → is_reached day J i ≡ true
reached_before day J i n sound at_i at_n l h =
    let a : round_of day i ≡ at_i.message.round = round_is day i at_i in
    let b : round_of day n ≡ at_n.message.round = round_is day n at_n in
    let i_is : i ≡ suc at_i.place = at_i.number in
    let n_is : n ≡ suc at_n.place = at_n.number in
    let r : round_of day n ≤ round day J = leb-true _ _ h in
    let o : at_i.message.round ≤ at_n.message.round = rounds_in_order (length day.stops) 0 day.messages at_i.place at_n.place at_i.message at_n.message (sound_parts day sound).rounds (omega (arith, i_is, n_is, l)) at_i.there at_n.there in
    le-leb _ _ (omega (arith, a, b, r, o))

some_unless : (reached : Bool) (o : Option ℕ) → (reached && is_none o) ≡ false → reached ≡ true → is_some o ≡ true
some_unless true (Some i) h e = refl
some_unless true None h e = absurd (false≢true (sym h))
some_unless false o h e = absurd (false≢true e)

unless_then : (a b : Bool) → (a ≡ true → b ≡ true) → (not a || b) ≡ true
unless_then true b h = h refl
unless_then false b h = refl

pub least_may : (day : Day) (J : History) (n : ℕ) → is_sound day ≡ true → untaken_reached day J ≡ Some n → may_take day J n ≡ true
least_may day J n sound h =
    let test : ℕ → Bool = λ i. is_reached day J i && is_none (taken J i) in
    let first : IsFirst test 1 (length day.messages) n = found_first test 1 (length day.messages) n h in
    let both = and_parts (is_reached day J n) (is_none (taken J n)) first.passes in
    let at = message_at-in day n first.low first.high in
    let waits : ℕ → Bool = λ i. nat_lt i n && same_name (sender day i) (sender day n) in
    let each : (i : ℕ) → 1 ≤ i → i < 1 + length day.messages → (not (waits i) || is_some (taken J i)) ≡ true =
    λ i low high. unless_then (waits i) (is_some (taken J i)) (λ waiting.
    let less : i < n = ltb-true i n (and_parts (nat_lt i n) (same_name (sender day i) (sender day n)) waiting).0 in
    some_unless (is_reached day J i) (taken J i) (first.before i low less) (reached_before day J i n sound (message_at-in day i low high).0 at.0 (omega (arith, less)) both.0)) in
    let all : list_all (λ i. not (waits i) || is_some (taken J i)) (message_numbers day) ≡ true = all-from (λ i. not (waits i) || is_some (taken J i)) 1 (length day.messages) each in
    let earlier : is_none (untaken_earlier day J n) ≡ true = find_none waits (taken J) (message_numbers day) ∙ all in
    and_from _ _ (and_from _ _ (and_from _ _ at.1 both.1) both.0) earlier

-- ---- the next want

abbrev has_line : Day → History → Want → Type 0
has_line day J w = is_some (line_of day J w) ≡ true

pub next_is : (day : Day) (J : History) (o : Option ℕ) (r : Option Want) → untaken_reached day J ≡ o → first_ready day J ≡ r → next_want day J ≡ want_among o r (time_want J)
unfolding next_want
next_is day J o r e f = λ i. want_among (e i) (f i) (time_want J)

may_has_line : (day : Day) (J : History) (w : Want) → is_ended J ≡ false → may day J w ≡ true → has_line day J w
may_has_line day J w e m = ap is_some (line_of-made day J w e m)

none_ready : (day : Day) (J : History) → first_ready day J ≡ None → not (is_ready day J) ≡ true
none_ready day J f = not_ready_is day J ∙ ap is_none f

all_are_taken : (day : Day) (J : History) → untaken_reached day J ≡ None → all_taken day J ≡ true
all_are_taken day J e = sym (all_taken_is day J) ∙ ap is_none e

pub next_has_line : (day : Day) (J : History) → is_sound day ≡ true → IsLegal day J → is_ended J ≡ false → has_line day J (next_want day J)
next_has_line day J sound legal e = by_message (untaken_reached day J) refl
  where
    at_time : untaken_reached day J ≡ None → first_ready day J ≡ None → (b : Bool) → nat_lt (clock J) MIDNIGHT ≡ b → has_line day J (time_want J)
    at_time u f true t =
        let time : time_want J ≡ wants.Time = cond-true _ _ _ t in
        subst (has_line day J) (sym time) (may_has_line day J wants.Time e (and_from _ _ (and_from _ _ t (all_are_taken day J u)) (none_ready day J f)))
    at_time u f false t =
        let time : time_want J ≡ wants.End = cond-false _ _ _ t in
        let late = ltb-false _ _ t in
        subst (has_line day J) (sym time) (may_has_line day J wants.End e (and_from _ _ (eq-eqb _ _ (omega (arith, late, clock-bound day J legal))) (none_ready day J f)))

    by_want : untaken_reached day J ≡ None → (r : Option Want) → first_ready day J ≡ r → has_line day J (next_want day J)
    by_want u None f = subst (has_line day J) (sym (next_is day J None None u f)) (at_time u f (nat_lt (clock J) MIDNIGHT) refl)
    by_want u (Some w) f =
        let first = first_ready_has_a_line day J (sym (ready_is day J) ∙ ap is_some f) e in
        let same : first.0 ≡ w = some_is first.0 w (sym first.1 ∙ f) in
        subst (has_line day J) (same ∙ sym (next_is day J None (Some w) u f)) first.3

    by_message : (o : Option ℕ) → untaken_reached day J ≡ o → has_line day J (next_want day J)
    by_message None u = by_want u (first_ready day J) refl
    by_message (Some n) u =
        subst (has_line day J) (sym (next_is day J (Some n) (first_ready day J) u refl)) (may_has_line day J (wants.In n) e (least_may day J n sound u))

pub not_ended : (J : History) → is_ended J ≡ false → ended J ≡ None
not_ended J e = none_of_some (ended J) e
  where
    none_of_some : (o : Option ℕ) → is_some o ≡ false → o ≡ None
    none_of_some None h = refl
    none_of_some (Some i) h = absurd (false≢true (sym h))
