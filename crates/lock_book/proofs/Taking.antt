-- Which messages are taken.
use Rattle.std.proofs.Common.{◌≡◌, ℕ, suc, ◌+◌, ◌<◌, ◌≤◌, Bool, true, false, not, ◌&&◌, ◌||◌, [], ◌∷◌, ◌++◌, length, Option, Some, None, is_some, refl, sym, ap, subst, ◌∙◌, arith}
use Rattle.std.specs.Prelude.{count_by, nat_eq, nat_lt, option_map, is_none}
use Rattle.std.specs.Option.{option_or}
use Rattle.std.proofs.lemmas.Bool.{and_parts, false≢true, ltb-true}
use Rattle.std.proofs.lemmas.Bool.Decides.{nat_tests}
use Rattle.batch_records.specs.DayRecord.{Day}
use Rattle.batch_records.specs.Sound.{is_sound}
use Rattle.commit_journal.specs.declared.line.Want.{Want}
use Rattle.commit_journal.specs.declared.line.Want.TheVariants as wants
use Rattle.commit_journal.specs.Line.{History, Line}
use Rattle.commit_journal.specs.Histories.{Begins}
use Rattle.machine.specs.declared.answers.Why.TheVariants as whys
use Rattle.machine.specs.Telling.Facts.{is_reached, untaken_earlier}
use Rattle.machine.specs.Telling.History.{ended, is_ended, is_in_of, place_of, taken}
use Rattle.machine.specs.Legal.{IsLegal}
use Rattle.machine.specs.Making.Lines.{line_of, made}
use Rattle.machine.specs.Records.Messages.{is_message, message_numbers, round_of, sender, sort_of}
use Rattle.machine.specs.Making.Reasons.{why_not_in}
use Rattle.machine.specs.Words.{first_some, same_name, unless, when}
use Rattle.settlement_laws.proofs.Base.Counting.{none_counted}
use Rattle.settlement_laws.proofs.Base.Searches.{find_none}
use Rattle.settlement_laws.proofs.Base.Sums.{all-from}
use Rattle.settlement_laws.proofs.Base.Induction.{line_of-some}
use Rattle.settlement_laws.proofs.EachLaw.OnceAndInOrder.{taken_once}
use Rattle.settlement_laws.proofs.DayEnd.PlainRuns.{ended-complete}
use Rattle.lock_book.specs.declared.counted.Stepped.{Stepped}
use Rattle.lock_book.specs.declared.counted.Stepped.TheVariants.{Made, NotNow}
use Rattle.lock_book.specs.Rounds.{AreTaken, tells_of_taken}
use Rattle.settle_floor.specs.Taking.{IsNext}
use Rattle.lock_book.specs.Steps.{IsNextFor, Tells}

-- ---- a place stays

or_kept : (o p : Option ℕ) → is_some o ≡ true → is_some (option_or o p) ≡ true
or_kept (Some x) p h = refl
or_kept None p h = absurd (false≢true h)

or_new : (o : Option ℕ) (b : Bool) (x : ℕ) → b ≡ true → is_some (option_or o (when b x)) ≡ true
or_new (Some y) b x h = refl
or_new None true x h = refl
or_new None false x h = absurd (false≢true h)

place_kept : (test : Line → Bool) (more P : History) → is_some (place_of test P) ≡ true → is_some (place_of test (more ++ P)) ≡ true
unfolding place_of
place_kept test [] P h = h
place_kept test (l ∷ more) P h = or_kept (place_of test (more ++ P)) (when (test l) (suc (length (more ++ P)))) (place_kept test more P h)

pub taken_kept : (n : ℕ) (P K : History) → Begins P K → is_some (taken P n) ≡ true → is_some (taken K n) ≡ true
taken_kept n P K b h = subst (λ (J : History). is_some (taken J n) ≡ true) (sym b.1) (place_kept (is_in_of n) b.0 P h)

-- the earlier messages of a sender that were taken once are taken now
none_earlier : (day : Day) (P J : History) (n : ℕ) → Begins P J → IsNextFor day P (wants.In n) → untaken_earlier day J n ≡ None
none_earlier day P J n b next = none_is (untaken_earlier day J n) (find_none waits (taken J) (message_numbers day) ∙ all-from (λ i. not (waits i) || is_some (taken J i)) 1 (length day.messages) each)
  where
    waits : ℕ → Bool
    waits i = nat_lt i n && same_name (sender day i) (sender day n)

    none_is : (o : Option ℕ) → is_none o ≡ true → o ≡ None
    none_is None h = refl
    none_is (Some x) h = cc

    from : (x y : Bool) → (x ≡ true → y ≡ true) → (not x || y) ≡ true
    from true y h = h refl
    from false y h = refl

    each : (i : ℕ) → 1 ≤ i → i < 1 + length day.messages → (not (waits i) || is_some (taken J i)) ≡ true
    each i low high = from (waits i) (is_some (taken J i)) (λ h.
        let parts = and_parts (nat_lt i n) (same_name (sender day i) (sender day n)) h in
        taken_kept i P J b (next i (omega (arith, low)) (ltb-true i n parts.0) parts.1))

pub next_now : (day : Day) (P J : History) (want : Want) → Begins P J → IsNextFor day P want → IsNext day J want
next_now day P J (wants.In n) b next = none_earlier day P J n b next
next_now day P J (wants.Book n k) b next = tt
next_now day P J (wants.All n) b next = tt
next_now day P J wants.Time b next = tt
next_now day P J (wants.Expire n) b next = tt
next_now day P J (wants.Ask n) b next = tt
next_now day P J (wants.Cover n) b next = tt
next_now day P J (wants.Refuse n) b next = tt
next_now day P J (wants.Sweep a) b next = tt
next_now day P J wants.End b next = tt

pub rounds_kept : (day : Day) (round : ℕ) (P K : History) → Begins P K → AreTaken day round P → AreTaken day round K
rounds_kept day round P K b all n from to low = taken_kept n P K b (all n from to low)

-- ---- what a step tells

made_taken : (day : Day) (n : ℕ) (J : History) (l : Line) → line_of day J (wants.In n) ≡ Some l → is_some (taken (l ∷ J) n) ≡ true
unfolding place_of
made_taken day n J l e =
    let is : made day J (wants.In n) ≡ l = (line_of-some day J (wants.In n) l e).2 in
    let same : nat_eq n n ≡ true = grind (arith, nat_tests) in
    let in_of : is_in_of n l ≡ true = sym (ap (is_in_of n) is) ∙ same in
    or_new (place_of (is_in_of n) J) (is_in_of n l) (suc (length J)) in_of

-- of the reasons of an intake just one says that the message is taken, and one that the day is over
by_taken : (a t d : Option ℕ) (b c : Bool) (r p : ℕ) → first_some (option_map whys.Over a ∷ unless b whys.NoSuch ∷ option_map whys.Taken t ∷ unless c (whys.Round r) ∷ option_map whys.Earlier d ∷ []) ≡ Some (whys.Taken p) → is_some t ≡ true
by_taken a (Some x) d b c r p e = refl
by_taken (Some x) None d b c r p e = cc
by_taken None None d false c r p e = cc
by_taken None None d true false r p e = cc
by_taken None None (Some x) true true r p e = cc
by_taken None None None true true r p e = cc

by_end : (a t d : Option ℕ) (b c : Bool) (r p : ℕ) → first_some (option_map whys.Over a ∷ unless b whys.NoSuch ∷ option_map whys.Taken t ∷ unless c (whys.Round r) ∷ option_map whys.Earlier d ∷ []) ≡ Some (whys.Over p) → is_some a ≡ true
by_end (Some x) t d b c r p e = refl
by_end None t d false c r p e = cc
by_end None (Some x) d true c r p e = cc
by_end None None d true false r p e = cc
by_end None None (Some x) true true r p e = cc
by_end None None None true true r p e = cc

counted : (test : Line → Bool) (J : History) → 0 < count_by test J → is_some (place_of test J) ≡ true
counted test J low = here (place_of test J) refl
  where
    here : (o : Option ℕ) → place_of test J ≡ o → is_some (place_of test J) ≡ true
    here (Some x) e = ap is_some e
    here None e = let none : count_by test J ≡ 0 = none_counted test J (ap is_none e) in absurd (omega (arith, low, none))

-- a message of the day whose want was stepped, and told to be taken, is taken in what is seen
pub told_taken : (day : Day) (n : ℕ) (P K : History) (stepped : Stepped) → is_sound day ≡ true → IsLegal day K → 0 < n → n ≤ length day.messages → Tells day (wants.In n) P K stepped → tells_of_taken stepped ≡ true → is_some (taken K n) ≡ true
unfolding why_not_in
told_taken day n P K (Made place head) sound legal from to t told = subst (λ (J : History). is_some (taken J n) ≡ true) (sym t.3) (made_taken day n t.0 (record { head = head; moves = t.1 }) t.4)
told_taken day n P K (NotNow seen (whys.Taken place)) sound legal from to t told = by_taken (ended K) (taken K n) (untaken_earlier day K n) (is_message (sort_of day n)) (is_reached day K n) (round_of day n) place t.2
told_taken day n P K (NotNow seen (whys.Over place)) sound legal from to t told =
    let over : is_ended K ≡ true = by_end (ended K) (taken K n) (untaken_earlier day K n) (is_message (sort_of day n)) (is_reached day K n) (round_of day n) place t.2 in
    let one = taken_once day sound K legal (ended-complete day K legal over) n from to in
    counted (is_in_of n) K (omega (arith, one))
told_taken day n P K (NotNow seen _) sound legal from to t told = absurd (false≢true told)
