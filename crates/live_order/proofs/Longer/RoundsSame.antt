-- Rounds and stops: of the day's own messages a longer day has reached the same ones, and below the last of the day's own stops the
-- further ones change nothing.
use Rattle.std.proofs.Common.{◌≡◌, ◌∙◌, ℕ, zero, suc, ◌+◌, ◌<◌, ◌≤◌, arith, Bool, true, false, ◌&&◌, List, [], ◌∷◌, ◌++◌, length, Option, Some, None, refl, sym, ap, ◌⊎◌, inl, inr, ⊎_elim, min}
use Rattle.std.specs.Prelude.{if◌then◌else◌, nat_le, nat_lt, count_by, fold, slice_get}
use Rattle.std.specs.List.{list_all}
use Rattle.std.specs.Option.{option_map_or}
use Rattle.std.proofs.lemmas.Bool.{and_from, and_parts, cond-true, cond-false, leb-true, le-leb, ltb-true, ltb-false, leb-false, lt-leb}
use Rattle.std.proofs.lemmas.List.Sums.{sum_by-cons}
use Rattle.batch_records.specs.DayRecord.{Day}
use Rattle.batch_records.specs.declared.day.Message.{Message}
use Rattle.batch_records.specs.Sound.{stops_rise}
use Rattle.commit_journal.specs.Line.{History}
use Rattle.machine.specs.Records.Messages.{round_of}
use Rattle.machine.specs.Telling.History.{clock}
use Rattle.machine.specs.Telling.Facts.{round, is_reached}
use Rattle.machine.specs.Making.Lines.{lesser}
use Rattle.live_order.specs.Longer.{longer, GoesOn}
use Rattle.live_order.proofs.Longer.Known.{round_same}

-- ---- stops that rise

abbrev pub passed : ℕ → List ℕ → ℕ
passed c stops = count_by (λ stop. nat_le stop c) stops

rise_front : (before : ℕ) (xs ys : List ℕ) → stops_rise before (xs ++ ys) ≡ true → stops_rise before xs ≡ true
rise_front before [] ys h = refl
rise_front before (x ∷ xs) ys h =
    let p = and_parts (nat_lt before x && nat_lt x 86400) (stops_rise x (xs ++ ys)) h in
    and_from _ _ p.0 (rise_front x xs ys p.1)

-- none of these is reached, where one before them isn't
none_passed : (c before : ℕ) (ys : List ℕ) → c < before → stops_rise before ys ≡ true → passed c ys ≡ 0
none_passed c before [] l h = refl
none_passed c before (y ∷ ys) l h =
    let p = and_parts _ (stops_rise y ys) h in
    let r : before < y = ltb-true _ _ (and_parts (nat_lt before y) (nat_lt y 86400) p.0).0 in
    let one : ℕ = 1 in
    let e : (if nat_le y c then one else 0) ≡ 0 = cond-false (nat_le y c) one 0 (lt-leb y c (omega (arith, r))) in
    let k : passed c ys ≡ 0 = none_passed c y ys (omega (arith, r)) p.1 in
    let s : passed c (y ∷ ys) ≡ (if nat_le y c then one else 0) + passed c ys = sum_by-cons (λ u. if nat_le u c then 1 else 0) y ys in
    omega (arith, e, k, s)

-- the further stops are counted only where all of the first ones are
pub record AllPassed (c : ℕ) (xs ys : List ℕ) : Type 0 where
  pub all : passed c xs ≡ length xs
  pub more : length xs ≤ passed c (xs ++ ys)

pub passed_parts : (c before : ℕ) (xs ys : List ℕ) → stops_rise before (xs ++ ys) ≡ true → (passed c (xs ++ ys) ≡ passed c xs) ⊎ AllPassed c xs ys
passed_parts c before [] ys h = inr (record { all = refl; more = omega arith })
passed_parts c before (x ∷ xs) ys h = here (nat_le x c) refl (passed_parts c x xs ys (and_parts _ (stops_rise x (xs ++ ys)) h).1)
  where
    one : ℕ
    one = 1

    long : passed c (x ∷ (xs ++ ys)) ≡ (if nat_le x c then 1 else 0) + passed c (xs ++ ys)
    long = sum_by-cons (λ u. if nat_le u c then 1 else 0) x (xs ++ ys)

    own : passed c (x ∷ xs) ≡ (if nat_le x c then 1 else 0) + passed c xs
    own = sum_by-cons (λ u. if nat_le u c then 1 else 0) x xs

    here : (b : Bool) → nat_le x c ≡ b → (passed c (xs ++ ys) ≡ passed c xs) ⊎ AllPassed c xs ys → (passed c (x ∷ (xs ++ ys)) ≡ passed c (x ∷ xs)) ⊎ AllPassed c (x ∷ xs) ys
    here true e (inl same) = inl (long ∙ ap (λ k. (if nat_le x c then 1 else 0) + k) same ∙ sym own)
    here true e (inr r) =
        let f : (if nat_le x c then one else 0) ≡ 1 = cond-true (nat_le x c) one 0 e in
        let a = r.all in
        let m = r.more in
        inr (record { all = omega (arith, f, own, a); more = omega (arith, f, long, m) })
    here false e rest =
        let late : c < x = leb-false x c e in
        let p = and_parts _ (stops_rise x (xs ++ ys)) h in
        let f : (if nat_le x c then one else 0) ≡ 0 = cond-false (nat_le x c) one 0 e in
        let a : passed c (xs ++ ys) ≡ 0 = none_passed c x (xs ++ ys) late p.1 in
        let b : passed c xs ≡ 0 = none_passed c x xs late (rise_front x xs ys p.1) in
        inl (omega (arith, f, a, b, long, own))

-- ---- the least stop above the clock

least_stays : (J : History) (a before : ℕ) (zs : List ℕ) → a ≤ before → stops_rise before zs ≡ true → fold (lesser J) a zs ≡ a
least_stays J a before [] l h = refl
least_stays J a before (z ∷ zs) l h =
    let p = and_parts _ (stops_rise z zs) h in
    let r : before < z = ltb-true _ _ (and_parts (nat_lt before z) (nat_lt z 86400) p.0).0 in
    ap (λ m. fold (lesser J) m zs) (here (nat_lt (clock J) z) (omega (arith, r))) ∙ least_stays J a z zs (omega (arith, r)) p.1
  where
    here : (b : Bool) → a ≤ z → (if b then min a z else a) ≡ a
    here true k = omega arith
    here false k = refl

pub least_same : (J : History) (m before : ℕ) (xs ys : List ℕ) → stops_rise before (xs ++ ys) ≡ true → passed (clock J) xs < length xs → fold (lesser J) m (xs ++ ys) ≡ fold (lesser J) m xs
least_same J m before [] ys h l = absurd (omega arith)
least_same J m before (x ∷ xs) ys h l = here (λ k. least_same J m x xs ys p k) (nat_lt (clock J) x) refl
  where
    p : stops_rise x (xs ++ ys) ≡ true
    p = (and_parts _ (stops_rise x (xs ++ ys)) h).1

    own : passed (clock J) (x ∷ xs) ≡ (if nat_le x (clock J) then 1 else 0) + passed (clock J) xs
    own = sum_by-cons (λ u. if nat_le u (clock J) then 1 else 0) x xs

    here : (passed (clock J) xs < length xs → fold (lesser J) m (xs ++ ys) ≡ fold (lesser J) m xs) →
        (b : Bool) → nat_lt (clock J) x ≡ b → fold (lesser J) (if b then min m x else m) (xs ++ ys) ≡ fold (lesser J) (if b then min m x else m) xs
    here later true e = least_stays J (min m x) x (xs ++ ys) (omega arith) p ∙ sym (least_stays J (min m x) x xs (omega arith) (rise_front x xs ys p))
    here later false e =
        let one : ℕ = 1 in
        let k : x ≤ clock J = ltb-false (clock J) x e in
        let f : (if nat_le x (clock J) then one else 0) ≡ 1 = cond-true (nat_le x (clock J)) one 0 (le-leb x (clock J) k) in
        later (omega (arith, own, f, l))

-- ---- items that pass, after a front

pub all_get : {X : Type 0} (test : X → Bool) (xs : List X) (i : ℕ) (x : X) → list_all test xs ≡ true → slice_get xs i ≡ Some x → test x ≡ true
all_get test [] i x h e = cc
all_get test (y ∷ ys) zero x h e = let same : y ≡ x = cc in ap test (sym same) ∙ (and_parts (test y) (list_all test ys) h).0
all_get test (y ∷ ys) (suc i) x h e = all_get test ys i x (and_parts (test y) (list_all test ys) h).1 e

pub get_behind : {X : Type 0} (test : X → Bool) (xs ys : List X) (i : ℕ) → length xs ≤ i → i < length xs + length ys → list_all test ys ≡ true → (x : X) × (slice_get (xs ++ ys) i ≡ Some x) × (test x ≡ true)
get_behind test [] [] i low high h = absurd (omega arith)
get_behind test [] (y ∷ ys) zero low high h = (y, refl, (and_parts (test y) (list_all test ys) h).0)
get_behind test [] (y ∷ ys) (suc i) low high h = get_behind test [] ys i (omega arith) (omega arith) (and_parts (test y) (list_all test ys) h).1
get_behind test (x ∷ xs) ys zero low high h = absurd (omega arith)
get_behind test (x ∷ xs) ys (suc i) low high h = get_behind test xs ys i (omega arith) (omega arith) h

same_test : (a b c r : ℕ) → a ≤ r → r ≤ b → r ≤ c → nat_le a b ≡ nat_le a c
same_test a b c r l m n = le-leb a b (omega arith) ∙ sym (le-leb a c (omega arith))

module _ (day : Day) (ms : List Message) (ss : List ℕ) (g : GoesOn day ms ss) where
  own_round : (n : ℕ) → round_of day n ≤ length day.stops
  own_round zero = omega arith
  own_round (suc j) = here (slice_get day.messages j) refl
    where
      here : (o : Option Message) → slice_get day.messages j ≡ o → option_map_or (λ m. m.round) o 0 ≤ length day.stops
      here None e = omega arith
      here (Some m) e = leb-true _ _ (all_get (λ (x : Message). nat_le x.round (length day.stops)) day.messages j m g.own e)

  later_round : (n : ℕ) → length day.messages < n → n < 1 + length day.messages + length ms → length day.stops ≤ round_of (longer day ms ss) n
  later_round zero low high = absurd (omega arith)
  later_round (suc j) low high =
      let r = get_behind (λ (x : Message). nat_le (length day.stops) x.round) day.messages ms j (omega arith) (omega arith) g.later in
      let e : round_of (longer day ms ss) (suc j) ≡ r.0.round = ap (λ (o : Option Message). option_map_or (λ m. m.round) o 0) r.1 in
      let l = leb-true _ _ r.2 in
      omega (arith, e, l)

  pub reached_same : (J : History) (n : ℕ) → n ≤ length day.messages → is_reached (longer day ms ss) J n ≡ is_reached day J n
  reached_same J n h =
      ap (λ r. nat_le r (round (longer day ms ss) J)) (round_same day ms ss n h)
      ∙ ⊎_elim
      (λ (e : passed (clock J) (day.stops ++ ss) ≡ passed (clock J) day.stops). ap (nat_le (round_of day n)) e)
      (λ (a : AllPassed (clock J) day.stops ss). let all = a.all in let more = a.more in same_test (round_of day n) (round (longer day ms ss) J) (round day J) (length day.stops) (own_round n) more (omega (arith, all)))
      (passed_parts (clock J) 0 day.stops ss g.rise)

  pub rounds_same : (J : History) → round day J < length day.stops → round (longer day ms ss) J ≡ round day J
  rounds_same J l =
      ⊎_elim
      (λ (e : passed (clock J) (day.stops ++ ss) ≡ passed (clock J) day.stops). e)
      (λ (a : AllPassed (clock J) day.stops ss). let all = a.all in absurd (omega (arith, all, l)))
      (passed_parts (clock J) 0 day.stops ss g.rise)

  -- below the last of the day's own stops none of the further messages is reached
  pub never_reached : (J : History) → round day J < length day.stops → (n : ℕ) → length day.messages < n → n < 1 + length day.messages + length ms → is_reached (longer day ms ss) J n ≡ false
  never_reached J l n low high =
      let r = later_round n low high in
      let e = rounds_same J l in
      lt-leb (round_of (longer day ms ss) n) (round (longer day ms ss) J) (omega (arith, r, e, l))
