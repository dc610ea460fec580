-- Before the day is over a next line can be made.
use Rattle.std.proofs.Common.{List, [], ◌∷◌, ◌≡◌, ℕ, zero, suc, ◌+◌, ◌<◌, ◌≤◌, length, Bool, true, false, ◌&&◌, ◌||◌, not, Option, Some, None, is_some, is_none, refl, sym, ap, ◌∙◌, subst, arith, ⊎_elim}
use Rattle.std.specs.Prelude.{nat_lt, slice_get}
use Rattle.std.specs.List.{list_all, list_any}
use Rattle.std.specs.Option.{option_map_or}
use Rattle.std.proofs.lemmas.Bool.{cond-true, cond-false, false≢true, and_from, and_parts, or_cases, not_from_false, leb-true, ltb-true, ltb-false, le-leb, eq-eqb, false_from_ne_true, true_from_ne_false}
use Rattle.batch_records.specs.DayRecord.{Day}
use Rattle.batch_records.specs.declared.day.Message.{Message}
use Rattle.batch_records.specs.declared.day.Body.{Body}
use Rattle.batch_records.specs.declared.day.Body.TheVariants as bodies
use Rattle.batch_records.specs.Sound.{is_sound}
use Rattle.cash_amounts.specs.declared.records.Procedure.TheVariants.{A, B, C, D, E}
use Rattle.commit_journal.specs.declared.line.Want.{Want}
use Rattle.commit_journal.specs.declared.line.Want.TheVariants as wants
use Rattle.commit_journal.specs.Line.{History}
use Rattle.machine.specs.Words.{same_name}
use Rattle.machine.specs.Records.Setup.{account_numbers}
use Rattle.machine.specs.Records.Messages.{Missing, is_message, sort_of, sort_of_body, sender, round_of, entries, message_numbers}
use Rattle.machine.specs.Telling.History.{clock, is_ended, taken}
use Rattle.machine.specs.Telling.Facts.{round, is_reached, untaken_earlier}
use Rattle.machine.specs.Making.Lines.{line_of, line_if, made, may, may_item, may_take, may_sweep, item_want, is_ready_item, is_ready_message, is_ready, all_taken}
use Rattle.machine.specs.Legal.{IsLegal}
use Rattle.machine.specs.Orders.Order.{time_want}
use Rattle.machine.specs.Laws.{EachLine, SomethingHasALine, AlwaysGoesOn}
use Rattle.settlement_laws.proofs.Base.Sums.{all-from, any-at, first-failing}
use Rattle.settlement_laws.proofs.Base.Searches.{find_none}
use Rattle.settlement_laws.proofs.Base.SoundParts.{sound_parts, rounds_in_order}
use Rattle.settlement_laws.proofs.DayEnd.Stops.{MessageAt, round_is, clock-bound, implies}
use Rattle.settlement_laws.proofs.Base.Induction.{line_of-made}

-- no line is made while its condition fails
pub none-may : (day : Day) (J : History) (w : Want) → is_ended J ≡ false → line_of day J w ≡ None → may day J w ≡ false
unfolding line_of
none-may day J w e h = go (is_ended J) (may day J w) e h
  where
    go : (b c : Bool) → b ≡ false → line_if (not b && c) (made day J w) ≡ None → c ≡ false
    go true c e h = absurd (false≢true (sym e))
    go false true e h = absurd (cc)
    go false false e h = refl

-- the conditions of items are those of their wants
pub may_item-may : (day : Day) (J : History) (w : Want) → may_item day J w ≡ true → may day J w ≡ true
may_item-may day J (wants.In n) h = cc
may_item-may day J (wants.Book n k) h = h
may_item-may day J (wants.All n) h = h
may_item-may day J wants.Time h = cc
may_item-may day J (wants.Expire n) h = h
may_item-may day J (wants.Ask n) h = h
may_item-may day J (wants.Cover n) h = h
may_item-may day J (wants.Refuse n) h = h
may_item-may day J (wants.Sweep a) h = cc
may_item-may day J wants.End h = cc

-- each number from 1 to the count is a message's
pub body_message : (b : Body) → is_message (sort_of_body b) ≡ true
body_message (bodies.Batch A info early till count sum entries) = refl
body_message (bodies.Batch B info early till count sum entries) = refl
body_message (bodies.Batch C info early till count sum entries) = refl
body_message (bodies.Batch D info early till count sum entries) = refl
body_message (bodies.Batch E info early till count sum entries) = refl
body_message (bodies.Pay high debit credit amount) = refl
body_message (bodies.Liquidity debit credit amount) = refl
body_message (bodies.Object system batch) = refl
body_message (bodies.Confirm batch answer) = refl
body_message (bodies.Cycle start) = refl

pub get_there : {X : Type 0} (xs : List X) (i : ℕ) → i < length xs → (x : X) × (slice_get xs i ≡ Some x)
get_there [] i l = absurd (omega arith)
get_there (x ∷ xs) zero l = (x, refl)
get_there (x ∷ xs) (suc i) l = get_there xs i (omega arith)

pub message_at-in : (day : Day) (n : ℕ) → 1 ≤ n → n < 1 + length day.messages → MessageAt day n × (is_message (sort_of day n) ≡ true)
message_at-in day zero low high = absurd (omega arith)
message_at-in day (suc i) low high =
    let g = get_there day.messages i (omega arith) in
    (record { place = i; message = g.0; number = refl; there = g.1; within = omega arith }, ap (λ (o : Option Message). is_message (option_map_or (λ m. sort_of_body m.body) o Missing)) g.1 ∙ body_message g.0.body)

implies-false : (a b : Bool) → (not a || b) ≡ false → (a ≡ true) × (b ≡ false)
implies-false true b h = (refl, h)
implies-false false b h = absurd (false≢true (sym h))

implies-from : (a b : Bool) → (a ≡ true → b ≡ true) → (not a || b) ≡ true
implies-from true b h = h refl
implies-from false b h = refl

none_from : (o : Option ℕ) → is_some o ≡ false → is_none o ≡ true
none_from None h = refl
none_from (Some i) h = cc

-- an earlier message is reached where a later one is
earlier_reached : (day : Day) (J : History) (i n : ℕ) → is_sound day ≡ true → MessageAt day i → MessageAt day n → i ≤ n → is_reached day J n ≡ true → is_reached day J i ≡ true
earlier_reached day J i n sound at_i at_n l h =
    let a : round_of day i ≡ at_i.message.round = round_is day i at_i in
    let b : round_of day n ≡ at_n.message.round = round_is day n at_n in
    let i_is : i ≡ suc at_i.place = at_i.number in
    let n_is : n ≡ suc at_n.place = at_n.number in
    let r : round_of day n ≤ round day J = leb-true _ _ h in
    let o : at_i.message.round ≤ at_n.message.round = rounds_in_order (length day.stops) 0 day.messages at_i.place at_n.place at_i.message at_n.message (sound_parts day sound).rounds (omega (arith, i_is, n_is, l)) at_i.there at_n.there in
    le-leb _ _ (omega (arith, a, b, r, o))

-- the least untaken message of the rounds reached may be taken
pub untaken-may : (day : Day) (J : History) → is_sound day ≡ true → all_taken day J ≡ false → (i : ℕ) × (i < length day.messages) × (may_take day J (suc i) ≡ true)
unfolding all_taken
untaken-may day J sound f = may_at (first-failing (λ i. not (is_reached day J i) || is_some (taken J i)) 1 (length day.messages) f)
  where
    waits : ℕ → ℕ → Bool
    waits n i = nat_lt i n && same_name (sender day i) (sender day n)

    may_at : (n : ℕ) × (1 ≤ n) × (n < 1 + length day.messages) × ((not (is_reached day J n) || is_some (taken J n)) ≡ false) × ((i : ℕ) → 1 ≤ i → i < n → (not (is_reached day J i) || is_some (taken J i)) ≡ true) →
        (i : ℕ) × (i < length day.messages) × (may_take day J (suc i) ≡ true)
    may_at (n, low, high, fails, before) =
        let f = implies-false _ _ fails in
        let at = message_at-in day n low high in
        let n_is : n ≡ suc at.0.place = at.0.number in
        let within : at.0.place < length day.messages = at.0.within in
        let all : list_all (λ i. not (waits n i) || is_some (taken J i)) (message_numbers day) ≡ true = all-from (λ i. not (waits n i) || is_some (taken J i)) 1 (length day.messages) (λ i low_i high_i. implies-from _ _ (λ waiting.
        let less : i < n = ltb-true _ _ (and_parts (nat_lt i n) _ waiting).0 in
        implies _ _ (before i low_i less) (earlier_reached day J i n sound (message_at-in day i low_i high_i).0 at.0 (omega (arith, less)) f.0))) in
        let earlier : is_none (untaken_earlier day J n) ≡ true = find_none (waits n) (taken J) (message_numbers day) ∙ all in
        (at.0.place, within, subst (λ i. may_take day J i ≡ true) n_is (and_from _ _ (and_from _ _ (and_from _ _ at.1 (none_from (taken J n) f.1)) f.0) earlier))

-- what is ready: an item of a message, or the scan of an account
pub ready_is-there : (day : Day) (J : History) (X : Type 0) → ((i k : ℕ) → i < length day.messages → k < suc (length (entries day (suc i))) → may day J (item_want day J (suc i) k) ≡ true → X) → ((a : ℕ) → a < length day.accounts → may_sweep day J (suc a) ≡ true → X) → is_ready day J ≡ true → X
unfolding is_ready is_ready_message is_ready_item
ready_is-there day J X item account h =
    ⊎_elim
    (λ (t : list_any (is_ready_message day J) (message_numbers day) ≡ true). at_message (any-at (is_ready_message day J) 1 (length day.messages) t))
    (λ (t : list_any (may_sweep day J) (account_numbers day) ≡ true). at_account (any-at (may_sweep day J) 1 (length day.accounts) t))
    (or_cases (list_any (is_ready_message day J) (message_numbers day)) (list_any (may_sweep day J) (account_numbers day)) h)
  where
    at_account : (a : ℕ) × (1 ≤ a) × (a < 1 + length day.accounts) × (may_sweep day J a ≡ true) → X
    at_account (zero, low, high, t) = absurd (omega arith)
    at_account (suc a, low, high, t) = account a (omega arith) t

    at_item : (i : ℕ) → i < length day.messages → (k : ℕ) × (0 ≤ k) × (k < 0 + suc (length (entries day (suc i)))) × (is_ready_item day J (suc i) k ≡ true) → X
    at_item i l (k, low, high, t) = item i k l (omega (arith, high)) (may_item-may day J (item_want day J (suc i) k) t)

    at_message : (n : ℕ) × (1 ≤ n) × (n < 1 + length day.messages) × (is_ready_message day J n ≡ true) → X
    at_message (zero, low, high, t) = absurd (omega arith)
    at_message (suc i, low, high, t) = at_item i (omega arith) (any-at (is_ready_item day J (suc i)) 0 (suc (length (entries day (suc i)))) t)

-- no want of a message, of an item, of an account or of time has a line
pub record IsStuck (day : Day) (J : History) : Type 0 where
  pub none_taken : (i : ℕ) → i < length day.messages → line_of day J (wants.In (suc i)) ≡ None
  pub no_item : (i k : ℕ) → i < length day.messages → k < suc (length (entries day (suc i))) → line_of day J (item_want day J (suc i) k) ≡ None
  pub no_sweep : (a : ℕ) → a < length day.accounts → line_of day J (wants.Sweep (suc a)) ≡ None
  pub no_time : line_of day J (time_want J) ≡ None

-- a legal history without the End line is not stuck
pub never_stuck : (day : Day) (J : History) → is_sound day ≡ true → IsLegal day J → is_ended J ≡ false → IsStuck day J → ⊥
never_stuck day J sound legal e s = go (nat_lt (clock J) 86400) refl
  where
    never : (w : Want) → line_of day J w ≡ None → may day J w ≡ true → ⊥
    never w none h = false≢true (sym (none-may day J w e none) ∙ h)

    quiet_now : not (is_ready day J) ≡ true
    quiet_now = not_from_false _ (false_from_ne_true _ (ready_is-there day J ⊥ (λ i k l m h. never (item_want day J (suc i) k) (s.no_item i k l m) h) (λ a l h. never (wants.Sweep (suc a)) (s.no_sweep a l) h)))

    all_in_now : all_taken day J ≡ true
    all_in_now = true_from_ne_false _ (λ f. let r = untaken-may day J sound f in never (wants.In (suc r.0)) (s.none_taken r.0 r.1) r.2)

    go : (b : Bool) → nat_lt (clock J) 86400 ≡ b → ⊥
    go true t =
        let none : line_of day J wants.Time ≡ None = subst (λ w. line_of day J w ≡ None) (cond-true _ _ _ t) s.no_time in
        never wants.Time none (and_from _ _ (and_from _ _ t all_in_now) quiet_now)
    go false f =
        let none : line_of day J wants.End ≡ None = subst (λ w. line_of day J w ≡ None) (cond-false _ _ _ f) s.no_time in
        let late = ltb-false _ _ f in
        never wants.End none (and_from _ _ (eq-eqb _ _ (omega (arith, late, clock-bound day J legal))) quiet_now)

line-is_some : (day : Day) (J : History) (w : Want) → is_ended J ≡ false → may day J w ≡ true → is_some (line_of day J w) ≡ true
line-is_some day J w e m = ap is_some (line_of-made day J w e m)

-- before the day is over, a next line can be made
pub goes_on : (day : Day) → is_sound day ≡ true → (J : History) → IsLegal day J → SomethingHasALine day J
goes_on day sound J legal e = first (all_taken day J) refl
  where
    has : (w : Want) → may day J w ≡ true → (w : Want) × (is_some (line_of day J w) ≡ true)
    has w m = (w, line-is_some day J w e m)

    third : all_taken day J ≡ true → is_ready day J ≡ false → (b : Bool) → nat_lt (clock J) 86400 ≡ b → (w : Want) × (is_some (line_of day J w) ≡ true)
    third a r true t = has wants.Time (and_from _ _ (and_from _ _ t a) (not_from_false _ r))
    third a r false f = let late = ltb-false _ _ f in has wants.End (and_from _ _ (eq-eqb _ _ (omega (arith, late, clock-bound day J legal))) (not_from_false _ r))

    second : all_taken day J ≡ true → (b : Bool) → is_ready day J ≡ b → (w : Want) × (is_some (line_of day J w) ≡ true)
    second a true r = ready_is-there day J ((w : Want) × (is_some (line_of day J w) ≡ true)) (λ i k l m h. has (item_want day J (suc i) k) h) (λ b l h. has (wants.Sweep (suc b)) h) r
    second a false r = third a r (nat_lt (clock J) 86400) refl

    first : (b : Bool) → all_taken day J ≡ b → (w : Want) × (is_some (line_of day J w) ≡ true)
    first true a = second a (is_ready day J) refl
    first false f = let r = untaken-may day J sound f in has (wants.In (suc r.0)) r.2

-- and so before each line of it
goes_on_each : (day : Day) → is_sound day ≡ true → (J : History) → IsLegal day J → EachLine (λ l before. SomethingHasALine day before) J
goes_on_each day sound [] legal = tt
goes_on_each day sound (l ∷ J) legal = (goes_on_each day sound J legal.0, goes_on day sound J legal.0)

pub always_goes_on : (day : Day) → is_sound day ≡ true → (J : History) → IsLegal day J → AlwaysGoesOn day J
always_goes_on day sound J legal = (goes_on_each day sound J legal, goes_on day sound J legal)
