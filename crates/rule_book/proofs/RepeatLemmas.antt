-- The names of a day's messages so far, and what the next message repeats.
use Rattle.std.proofs.Common.{◌≡◌, ◌<◌, ◌≤◌, ◌+◌, ◌-◌, ℕ, zero, suc, List, [], ◌∷◌, ◌++◌, None, Option, Some, cond, length, map, position, take, get_or, slice_get, refl, ap, sym, ◌∙◌, arith}
use Rattle.std.specs.Prelude.{option_map}
use Rattle.std.specs.List.{position_from, range_with_len}
use Rattle.std.specs.Option.{IfSome}
use Rattle.std.proofs.lemmas.Iterator.Adapters.{position_from-zero}
use Rattle.std.proofs.lemmas.List.{get_or-map, get_or_append_left, get_or_push, length-map, length-take-le, length_push, map_push, take-append-le, take_more}
use Rattle.std.proofs.lemmas.List.FromFn.{map-range_with_len_more}
use Rattle.std.proofs.lemmas.Option.{get_or_from_slice_get, slice_get-get_or, slice_get_within}
use Rattle.std.proofs.Math.Seq.{take-length}
use Rattle.batch_records.specs.DayRecord.{Day}
use Rattle.batch_records.specs.declared.day.Message.{Message}
use Rattle.batch_records.specs.Repeats.{is_named}
use Rattle.batch_records.specs.RepeatsInWords.{earlier}
use Rattle.batch_records.proofs.RepeatFacts.{earlier_found}
use Rattle.message_names.specs.Names.{MessageName, first_of, is_called}
use Rattle.message_names.proofs.PlaceLemmas.{placed}
use Rattle.rule_book.specs.Repeated.{AreRepeats, Repeated, first_number, name_of, names_of, with_one}

-- ---- one message further

pub names_next : (day : Day) (i : ℕ) (m : Message) → slice_get day.messages i ≡ Some m → take (i + 1) (names_of day) ≡ take i (names_of day) ++ name_of m ∷ []
names_next day i m at =
    let within : i < length day.messages = slice_get_within day.messages i m at in
    let long = length-map day.messages name_of in
    take_more (names_of day) i (name_of m) (omega (arith, long))
    ∙ ap (λ (name : MessageName). take i (names_of day) ++ name ∷ []) (get_or-map name_of day.messages i m (name_of m) within ∙ ap name_of (get_or_from_slice_get day.messages i m m at))

-- a search in the names is the search in the messages
searched : (s id : List ℕ) (a k : ℕ) (ms : List Message) → position_from (is_called s id) a (take k (map name_of ms)) ≡ position_from (is_named s id) a (take k ms)
searched s id a zero ms = refl
searched s id a (suc k) [] = refl
searched s id a (suc k) (m ∷ ms) = ap (λ o. cond (is_named s id m) (Some a) o) (searched s id (a + 1) k ms)

pub repeat_next : (day : Day) (i : ℕ) (m : Message) → slice_get day.messages i ≡ Some m → first_number (take i (names_of day)) m.sender m.id ≡ earlier day (i + 1)
repeat_next day i m at =
    let within : i < length day.messages = slice_get_within day.messages i m at in
    let back : i + 1 - 1 ≡ i = omega arith in
    let got : m ≡ get_or day.messages (i + 1 - 1) m = sym (ap (λ k. get_or day.messages k m) back ∙ get_or_from_slice_get day.messages i m m at) in
    ap (option_map (λ j. j + 1)) (searched m.sender m.id 0 i day.messages ∙ sym (position_from-zero (is_named m.sender m.id) (take i day.messages)))
    ∙ (ap (λ k. option_map (λ j. j + 1) (position (is_named m.sender m.id) (take k day.messages))) (sym back)
    ∙ earlier_found day (i + 1) m (omega arith) (omega arith) got)

-- ---- the first i messages

pub record AreFirst (day : Day) (i : ℕ) (r : Repeated) : Type 0 where
  pub names : r.names ≡ take i (names_of day)
  pub repeats : r.repeats ≡ map (earlier day) (range_with_len 1 i)
  pub most : r.most ≡ length day.messages

pub none_yet : (day : Day) (r : Repeated) (count : ℕ) → r ≡ record { names = []; repeats = []; most = count } → count ≡ length day.messages → AreFirst day 0 r
none_yet day r count is long = record {
  names = ap (λ (x : Repeated). x.names) is;
  repeats = ap (λ (x : Repeated). x.repeats) is;
  most = ap (λ (x : Repeated). x.most) is ∙ long;
}

pub one_further : (day : Day) (i : ℕ) (m : Message) (old new : Repeated) → slice_get day.messages i ≡ Some m → AreFirst day i old
    → new.names ≡ old.names ++ name_of m ∷ [] → new.repeats ≡ old.repeats ++ first_number old.names m.sender m.id ∷ [] → new.most ≡ old.most → AreFirst day (i + 1) new
one_further day i m old new at so_far names repeats most = record {
  names = names ∙ (ap (λ xs. xs ++ name_of m ∷ []) so_far.names ∙ sym (names_next day i m at));
  repeats =
      let item : first_number old.names m.sender m.id ≡ earlier day (i + 1) = ap (λ xs. first_number xs m.sender m.id) so_far.names ∙ repeat_next day i m at in
      repeats ∙ ((λ k. so_far.repeats k ++ item k ∷ []) ∙ sym (map-range_with_len_more (earlier day) 1 i (i + 1) (omega arith)));
  most = most ∙ so_far.most;
}

pub has_room : (day : Day) (i : ℕ) (r : Repeated) → AreFirst day i r → i < length day.messages → length r.names < r.most
has_room day i r so_far within =
    let long : length (take i (names_of day)) ≡ i = length-take-le i (names_of day) (omega (arith, length-map day.messages name_of)) in
    omega (arith, ap length so_far.names, so_far.most)

pub all_of_day : (day : Day) (i : ℕ) (r : Repeated) → AreFirst day i r → length day.messages ≡ i → AreRepeats day r
all_of_day day i r so_far end = (
  so_far.names ∙ (ap (λ n. take n (names_of day)) (sym end ∙ sym (length-map day.messages name_of)) ∙ take-length (names_of day)),
  so_far.repeats ∙ ap (λ n. map (earlier day) (range_with_len 1 n)) (sym end),
)

-- a name that is found is one of them
pub below_count : (names : List MessageName) (s id : List ℕ) (r : Option ℕ) (count : ℕ) → r ≡ first_of names s id → count ≡ length names → IfSome r (λ i. i < count)
below_count names s id None count is long = tt
below_count names s id (Some i) count is long =
    let d : MessageName = record { sender = s; id = id } in
    omega (arith, (placed (is_called s id) names d i (sym is)).within, long)

-- ---- a day with one message more

pub same_over : {X : Type 0} (f g : ℕ → X) (s len : ℕ) → ((i : ℕ) → s ≤ i → i < s + len → f i ≡ g i) → map f (range_with_len s len) ≡ map g (range_with_len s len)
same_over f g s zero same = refl
same_over f g s (suc len) same = λ k. same s (omega arith) (omega arith) k ∷ same_over f g (s + 1) len (λ i low high. same i (omega arith) (omega arith)) k

module _ (day : Day) (m : Message) where
  names_more : names_of (with_one day m) ≡ names_of day ++ name_of m ∷ []
  names_more = map_push name_of day.messages m

  -- of a message that was there before, and of the new one
  repeat_stays : (i : ℕ) → 1 ≤ i → i < 1 + length day.messages → earlier (with_one day m) i ≡ earlier day i
  repeat_stays zero low high = absurd (omega arith)
  repeat_stays (suc j) low high =
      let within : j < length day.messages = omega arith in
      let at : slice_get day.messages j ≡ Some (get_or day.messages j m) = slice_get-get_or day.messages j m within in
      let after : slice_get (day.messages ++ m ∷ []) j ≡ Some (get_or day.messages j m) =
      slice_get-get_or (day.messages ++ m ∷ []) j m (omega (arith, length_push day.messages m)) ∙ ap Some (get_or_append_left day.messages (m ∷ []) m j within) in
      let next : j + 1 ≡ suc j = omega arith in
      let names : take j (names_of (with_one day m)) ≡ take j (names_of day) =
      ap (take j) names_more ∙ take-append-le j (names_of day) (name_of m ∷ []) (omega (arith, length-map day.messages name_of)) in
      let own = get_or day.messages j m in
      ap (earlier (with_one day m)) (sym next)
      ∙ (sym (repeat_next (with_one day m) j own after)
      ∙ (ap (λ xs. first_number xs own.sender own.id) names ∙ (repeat_next day j own at ∙ ap (earlier day) next)))

  new_repeat : first_number (names_of day) m.sender m.id ≡ earlier (with_one day m) (length day.messages + 1)
  new_repeat =
      let long : length (names_of day) ≡ length day.messages = length-map day.messages name_of in
      let at : slice_get (day.messages ++ m ∷ []) (length day.messages) ≡ Some m =
      slice_get-get_or (day.messages ++ m ∷ []) (length day.messages) m (omega (arith, length_push day.messages m)) ∙ ap Some (get_or_push day.messages m m (length day.messages) refl) in
      let names : take (length day.messages) (names_of (with_one day m)) ≡ names_of day =
      ap (take (length day.messages)) names_more
      ∙ (take-append-le (length day.messages) (names_of day) (name_of m ∷ []) (omega (arith, long)) ∙ (ap (λ n. take n (names_of day)) (sym long) ∙ take-length (names_of day))) in
      sym (ap (λ xs. first_number xs m.sender m.id) names) ∙ repeat_next (with_one day m) (length day.messages) m at

  pub day_more : (old new : Repeated) → AreRepeats day old → new.names ≡ old.names ++ name_of m ∷ [] → new.repeats ≡ old.repeats ++ first_number old.names m.sender m.id ∷ [] → AreRepeats (with_one day m) new
  day_more old new are names repeats =
      let item : first_number old.names m.sender m.id ≡ earlier (with_one day m) (length day.messages + 1) = ap (λ xs. first_number xs m.sender m.id) are.0 ∙ new_repeat in
      let rows : map (earlier day) (range_with_len 1 (length day.messages)) ≡ map (earlier (with_one day m)) (range_with_len 1 (length day.messages)) =
      same_over (earlier day) (earlier (with_one day m)) 1 (length day.messages) (λ i low high. sym (repeat_stays i low high)) in (
        names ∙ (ap (λ xs. xs ++ name_of m ∷ []) are.0 ∙ sym names_more),
        repeats
            ∙ ((λ k. (are.1 ∙ rows) k ++ item k ∷ [])
            ∙ (sym (map-range_with_len_more (earlier (with_one day m)) 1 (length day.messages) (length day.messages + 1) (omega arith))
            ∙ ap (λ n. map (earlier (with_one day m)) (range_with_len 1 n)) (sym (length_push day.messages m)))),
      )
