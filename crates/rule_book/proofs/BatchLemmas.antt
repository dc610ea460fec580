-- The batch of a name is the first message of the name, where that is a batch.
use Rattle.std.proofs.Common.{◌≡◌, ◌<◌, ◌≤◌, ◌+◌, ℕ, zero, suc, Bool, true, false, not, cond, ◌&&◌, List, Option, None, Some, length, take, get_or, refl, ap, sym, ◌∙◌, arith, inl, inr}
use Rattle.std.specs.Prelude.{is_some, option_map}
use Rattle.std.specs.List.{find, range_with_len}
use Rattle.std.specs.Cmp.Lexicographic.{bytes_decides}
use Rattle.std.proofs.lemmas.Bool.{and_parts, cases_Bool, cases_order}
use Rattle.std.proofs.lemmas.List.{get_or-map, get_or-take, length-map, length-take-le}
use Rattle.std.proofs.lemmas.Option.{same_Some, slice_get-get_or}
use Rattle.cash_amounts.specs.Tests.{same_name, some_passes}
use Rattle.batch_records.specs.DayRecord.{Day}
use Rattle.batch_records.specs.declared.day.Body.TheVariants as bodies
use Rattle.batch_records.specs.declared.day.Message.{Message}
use Rattle.batch_records.specs.Repeats.{is_named, is_repeat, message_at}
use Rattle.batch_records.proofs.RepeatFacts.{earlier_is_repeat}
use Rattle.machine.specs.Records.Messages.{is_batch, names_batch, sort_of}
use Rattle.message_names.specs.Names.{first_of, is_called}
use Rattle.message_names.proofs.PlaceLemmas.{none_at, none_passes, placed}
use Rattle.rule_book.specs.BatchNames.{named}
use Rattle.rule_book.specs.Repeated.{first_number, name_of, names_of}
use Rattle.rule_book.proofs.RepeatLemmas.{repeat_next}

-- ---- searches by number

find_least : (t : ℕ → Bool) (a n k : ℕ) → a ≤ k → k < a + n → t k ≡ true → ((j : ℕ) → a ≤ j → j < k → t j ≡ false) → find t (range_with_len a n) ≡ Some k
find_least t a zero k least most passes none = absurd (omega arith)
find_least t a (suc n) k least most passes none =
    elim (cases_order a k) [
      | inl e ↦ let here : t a ≡ true = ap t e ∙ passes in
          ap (λ b. cond b (Some a) (find t (range_with_len (a + 1) n))) here ∙ ap Some e
      | inr (inl lt) ↦ ap (λ b. cond b (Some a) (find t (range_with_len (a + 1) n))) (none a (omega arith) lt)
          ∙ find_least t (a + 1) n k (omega arith) (omega arith) passes (λ j p q. none j (omega arith) q)
      | inr (inr gt) ↦ absurd (omega arith)
    ]

find_none : (t : ℕ → Bool) (a n : ℕ) → ((j : ℕ) → a ≤ j → j < a + n → t j ≡ false) → find t (range_with_len a n) ≡ None
find_none t a zero none = refl
find_none t a (suc n) none =
    ap (λ b. cond b (Some a) (find t (range_with_len (a + 1) n))) (none a (omega arith) (omega arith))
    ∙ find_none t (a + 1) n (λ j p q. none j (omega arith) (omega arith))

is_some_map : (o : Option ℕ) → is_some (option_map (λ i. i + 1) o) ≡ is_some o
is_some_map None = refl
is_some_map (Some i) = refl

-- ---- one message

module _ (day : Day) (system id : List ℕ) (d : Message) where
  abbrev item : ℕ → Message
  item j = get_or day.messages j d

  there : (j : ℕ) → j < length day.messages → message_at day (suc j) ≡ Some (item j)
  there j within = slice_get-get_or day.messages j d within

  name_at : (j : ℕ) → j < length day.messages → get_or (names_of day) j (name_of d) ≡ name_of (item j)
  name_at j within = get_or-map name_of day.messages j d (name_of d) within

  -- whether it repeats an earlier one
  repeat_at : (j : ℕ) → j < length day.messages → is_repeat day (suc j) ≡ is_some (first_of (take j (names_of day)) (item j).sender (item j).id)
  repeat_at j within =
      let next : j + 1 ≡ suc j = omega arith in
      ap (is_repeat day) (sym next) ∙ (sym (earlier_is_repeat day (j + 1))
      ∙ (ap is_some (sym (repeat_next day j (item j) (slice_get-get_or day.messages j d within))) ∙ is_some_map (first_of (take j (names_of day)) (item j).sender (item j).id)))

  called_at : (j : ℕ) → j < length day.messages → is_called system id (get_or (names_of day) j (name_of d)) ≡ is_named system id (item j)
  called_at j within = ap (is_called system id) (name_at j within)

  -- a message of another name is no batch of this one
  other_name : (j : ℕ) → j < length day.messages → is_called system id (get_or (names_of day) j (name_of d)) ≡ false → names_batch day system id (suc j) ≡ false
  other_name j within other =
      unnamed (is_batch (sort_of day (suc j))) (some_passes (is_named system id) (message_at day (suc j))) (not (is_repeat day (suc j)))
      (ap (some_passes (is_named system id)) (there j within) ∙ (sym (called_at j within) ∙ other))
    where
      unnamed : (a b c : Bool) → b ≡ false → (a && b && c) ≡ false
      unnamed true true c e = cc
      unnamed true false c e = refl
      unnamed false b c e = refl

  same_parts : (j : ℕ) → j < length day.messages → is_called system id (get_or (names_of day) j (name_of d)) ≡ true → ((item j).sender ≡ system) × ((item j).id ≡ id)
  same_parts j within e =
      let parts = and_parts (same_name (item j).sender system) (same_name (item j).id id) (sym (called_at j within) ∙ e) in
      ((bytes_decides (item j).sender system).0 parts.0, (bytes_decides (item j).id id).0 parts.1)

  module _ (q : ℕ) (is : first_of (names_of day) system id ≡ Some q) where
    within-q : q < length day.messages
    within-q = omega (arith, (placed (is_called system id) (names_of day) (name_of d) q is).within, length-map day.messages name_of)

    called-q : is_called system id (get_or (names_of day) q (name_of d)) ≡ true
    called-q = (placed (is_called system id) (names_of day) (name_of d) q is).passes

    before-q : (j : ℕ) → j < q → is_called system id (get_or (names_of day) j (name_of d)) ≡ false
    before-q = (placed (is_called system id) (names_of day) (name_of d) q is).none_before

    taken : (j k : ℕ) → j < k → get_or (take k (names_of day)) j (name_of d) ≡ get_or (names_of day) j (name_of d)
    taken j k lt = get_or-take k (names_of day) j (name_of d) lt

    -- the first one repeats none
    no_repeat : is_repeat day (suc q) ≡ false
    no_repeat =
        let parts = same_parts q within-q called-q in
        let long : length (take q (names_of day)) ≡ q = length-take-le q (names_of day) (omega (arith, length-map day.messages name_of, within-q)) in
        let none : first_of (take q (names_of day)) system id ≡ None =
        none_at (is_called system id) 0 (take q (names_of day)) (name_of d) (λ j lt. ap (is_called system id) (taken j q (omega arith)) ∙ before-q j (omega arith)) in
        repeat_at q within-q ∙ ((λ i. is_some (first_of (take q (names_of day)) (parts.0 i) (parts.1 i))) ∙ ap is_some none)

    -- and each later one of the name repeats it
    repeats : (j : ℕ) → q < j → j < length day.messages → is_called system id (get_or (names_of day) j (name_of d)) ≡ true → is_repeat day (suc j) ≡ true
    repeats j later within e =
        let parts = same_parts j within e in
        repeat_at j within ∙ ((λ i. is_some (first_of (take j (names_of day)) (parts.0 i) (parts.1 i))) ∙ some (first_of (take j (names_of day)) system id) refl)
      where
        some : (o : Option ℕ) → first_of (take j (names_of day)) system id ≡ o → is_some o ≡ true
        some (Some k) e = refl
        some None e =
            let long : length (take j (names_of day)) ≡ j = length-take-le j (names_of day) (omega (arith, length-map day.messages name_of)) in
            let fails = none_passes (is_called system id) 0 (take j (names_of day)) (name_of d) e q (omega arith) in
            let clash : true ≡ false = sym called-q ∙ (sym (ap (is_called system id) (taken q j later)) ∙ fails) in
            cc

    is_its : names_batch day system id (suc q) ≡ is_batch (sort_of day (suc q))
    is_its =
        (λ i. is_batch (sort_of day (suc q)) && (ap (some_passes (is_named system id)) (there q within-q) ∙ (sym (called_at q within-q) ∙ called-q)) i && not (no_repeat i))
        ∙ alone (is_batch (sort_of day (suc q)))
      where
        alone : (b : Bool) → (b && true && true) ≡ b
        alone true = refl
        alone false = refl

    no_later : (j : ℕ) → q < j → j < length day.messages → names_batch day system id (suc j) ≡ false
    no_later j later within =
        elim (cases_Bool (is_called system id (get_or (names_of day) j (name_of d)))) [
          | inl e ↦ repeated (is_batch (sort_of day (suc j))) (some_passes (is_named system id) (message_at day (suc j))) (is_repeat day (suc j)) (repeats j later within e)
          | inr e ↦ other_name j within e
        ]
      where
        repeated : (a b c : Bool) → c ≡ true → (a && b && not c) ≡ false
        repeated true true true e = refl
        repeated true true false e = cc
        repeated true false c e = refl
        repeated false b c e = refl

    pub found_batch : is_batch (sort_of day (suc q)) ≡ true → named day system id ≡ Some (suc q)
    found_batch batch = find_least (names_batch day system id) 1 (length day.messages) (suc q) (omega arith) (omega (arith, within-q)) (is_its ∙ batch) earlier
      where
        earlier : (j : ℕ) → 1 ≤ j → j < suc q → names_batch day system id j ≡ false
        earlier zero low lt = absurd (omega arith)
        earlier (suc j) low lt = other_name j (omega (arith, within-q)) (before-q j (omega arith))

    pub no_batch : is_batch (sort_of day (suc q)) ≡ false → named day system id ≡ None
    no_batch other = find_none (names_batch day system id) 1 (length day.messages) each
      where
        each : (j : ℕ) → 1 ≤ j → j < 1 + length day.messages → names_batch day system id j ≡ false
        each zero low lt = absurd (omega arith)
        each (suc j) low lt = elim (cases_order j q) [
          | inl e ↦ ap (λ k. names_batch day system id (suc k)) e ∙ (is_its ∙ other)
          | inr (inl before) ↦ other_name j (omega arith) (before-q j before)
          | inr (inr later) ↦ no_later j later (omega arith)
        ]

  pub none_named : first_of (names_of day) system id ≡ None → named day system id ≡ None
  none_named none = find_none (names_batch day system id) 1 (length day.messages) each
    where
      each : (j : ℕ) → 1 ≤ j → j < 1 + length day.messages → names_batch day system id j ≡ false
      each zero low lt = absurd (omega arith)
      each (suc j) low lt =
          let long = length-map day.messages name_of in
          other_name j (omega arith) (none_passes (is_called system id) 0 (names_of day) (name_of d) none j (omega (arith, long)))

-- ---- by the number of the first message of the name

pub batch_by_first : (day : Day) (system id : List ℕ) (n : ℕ) → Some n ≡ first_number (names_of day) system id → (is_batch (sort_of day n) ≡ true → Some n ≡ named day system id) × (is_batch (sort_of day n) ≡ false → None ≡ named day system id)
batch_by_first day system id n is = by (first_of (names_of day) system id) refl is
  where
    by : (o : Option ℕ) → first_of (names_of day) system id ≡ o → Some n ≡ option_map (λ i. i + 1) o → (is_batch (sort_of day n) ≡ true → Some n ≡ named day system id) × (is_batch (sort_of day n) ≡ false → None ≡ named day system id)
    by None e h = cc
    by (Some q) e h =
        let d : Message = record { round = 0; sender = system; id = id; body = bodies.Cycle true } in
        let same : suc q ≡ n = let at = same_Some n (q + 1) h in omega arith in (
          λ batch. sym (found_batch day system id d q e (ap (λ k. is_batch (sort_of day k)) same ∙ batch) ∙ ap Some same),
          λ other. sym (no_batch day system id d q e (ap (λ k. is_batch (sort_of day k)) same ∙ other)),
        )

pub no_first : (day : Day) (system id : List ℕ) → None ≡ first_number (names_of day) system id → None ≡ named day system id
no_first day system id is = by (first_of (names_of day) system id) refl is
  where
    by : (o : Option ℕ) → first_of (names_of day) system id ≡ o → None ≡ option_map (λ i. i + 1) o → None ≡ named day system id
    by None e h =
        let d : Message = record { round = 0; sender = system; id = id; body = bodies.Cycle true } in
        sym (none_named day system id d e)
    by (Some q) e h = cc
