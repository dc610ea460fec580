-- Links from name to name of one sender, and one name more.
use Rattle.std.proofs.Common.{◌≡◌, ◌≢◌, ℕ, ◌+◌, ◌<◌, ◌≤◌, Bool, true, false, cond, List, [], ◌∷◌, ◌++◌, Option, None, Some, length, get_or, refl, ap, sym, ◌∙◌, subst, arith, inl, inr}
use Rattle.std.specs.Prelude.{nat_lt, set, slice_get, slice_index, unwrap_or}
use Rattle.std.specs.List.{position_from}
use Rattle.std.specs.Option.{option_or}
use Rattle.std.specs.Cmp.Lexicographic.{bytes_decides}
use Rattle.std.proofs.lemmas.Bool.{cases_eq, cases_lt, false≢true, le-ltb, lt-ltb}
use Rattle.std.proofs.lemmas.List.{get_or_append_left, get_or_push, get_or-set_same, get_or-set_other, length-set, length_push, set_past}
use Rattle.std.proofs.lemmas.Option.{get_or_from_slice_get, slice_get-get_or, slice_get_past, slice_get_within}
use Rattle.cash_amounts.specs.Tests.{same_name}
use Rattle.message_names.specs.Names.{IsLastBefore, MessageName, has_sender, is_from, is_name_from}
use Rattle.message_names.specs.Stored.{AreLinked, back_of, first_from, linked}
use Rattle.message_names.proofs.PlaceLemmas.{none_passes, one_more, placed}

-- ---- who has_sender, with one name more

sent : (names : List MessageName) (s : List ℕ) (k : ℕ) (d : MessageName) → k < length names → has_sender names s k ≡ is_from s (get_or names k d)
sent names s k d low = ap (is_name_from s) (slice_get-get_or names k d low)

sliced_before : (names : List MessageName) (n : MessageName) (k : ℕ) → k < length names → slice_get (names ++ n ∷ []) k ≡ slice_get names k
sliced_before names n k low =
    slice_get-get_or (names ++ n ∷ []) k n (omega (arith, length_push names n))
    ∙ (ap Some (get_or_append_left names (n ∷ []) n k low) ∙ sym (slice_get-get_or names k n low))

sent_before : (names : List MessageName) (n : MessageName) (s : List ℕ) (k : ℕ) → k < length names → has_sender (names ++ n ∷ []) s k ≡ has_sender names s k
sent_before names n s k low = ap (is_name_from s) (sliced_before names n k low)

sliced_last : (names : List MessageName) (n : MessageName) → slice_get (names ++ n ∷ []) (length names) ≡ Some n
sliced_last names n = slice_get-get_or (names ++ n ∷ []) (length names) n (omega (arith, length_push names n)) ∙ ap Some (get_or_push names n n (length names) refl)

sent_last : (names : List MessageName) (n : MessageName) (s : List ℕ) → has_sender (names ++ n ∷ []) s (length names) ≡ is_from s n
sent_last names n s = ap (is_name_from s) (sliced_last names n)

carried : (names : List MessageName) (n : MessageName) (s : List ℕ) (i : ℕ) (r : Option ℕ) → i ≤ length names → IsLastBefore names s i r → IsLastBefore (names ++ n ∷ []) s i r
carried names n s i None up h = λ k low. sent_before names n s k (omega arith) ∙ h k low
carried names n s i (Some j) up h =
    (h.0, sent_before names n s j (omega (arith, h.0)) ∙ h.1, λ k above low. sent_before names n s k (omega arith) ∙ h.2 k above low)

-- past the new name, which another has_sender
carried_on : (names : List MessageName) (n : MessageName) (s : List ℕ) (j : ℕ) → is_from s n ≡ false → IsLastBefore names s (length names) (Some j) → IsLastBefore (names ++ n ∷ []) s (length (names ++ n ∷ [])) (Some j)
carried_on names n s j other h =
    let long = length_push names n in (
      omega (arith, h.0, long),
      sent_before names n s j h.0 ∙ h.1,
      λ k above low. elim (cases_lt k (length names)) [
        | inl lt ↦ sent_before names n s k lt ∙ h.2 k above lt
        | inr ge ↦ let last : k ≡ length names = omega (arith, long) in ap (has_sender (names ++ n ∷ []) s) last ∙ (sent_last names n s ∙ other)
      ],
    )

newest : (names : List MessageName) (n : MessageName) (s : List ℕ) (j : ℕ) → j ≡ length names → is_from s n ≡ true → IsLastBefore (names ++ n ∷ []) s (length (names ++ n ∷ [])) (Some j)
newest names n s j is own =
    let long = length_push names n in (
      omega (arith, long),
      ap (has_sender (names ++ n ∷ []) s) is ∙ (sent_last names n s ∙ own),
      λ k above low. absurd (omega (arith, long)),
    )

same_sender : (a b : List ℕ) → same_name a b ≡ true → a ≡ b
same_sender a b e = (bytes_decides a b).0 e

-- ---- the first name of a sender, with one name more

first_more : (names : List MessageName) (n : MessageName) (s : List ℕ) (f : ℕ) (o : Option ℕ) (b : Bool) → position_from (is_from s) 0 names ≡ o → is_from s n ≡ b
    → position_from (is_from s) 0 (names ++ n ∷ []) ≡ Some f → option_or o (cond b (Some (length names)) None) ≡ Some f
first_more names n s f o b e t p =
    let count : 0 + length names ≡ length names = omega arith in
    sym (λ k. option_or (e k) (cond (t k) (Some (count k)) None)) ∙ (sym (one_more (is_from s) 0 names n) ∙ p)

module _ (names : List MessageName) (links : List ℕ) (h : AreLinked names links) (n : MessageName) where
  -- ---- of a new sender

  module _ (none : position_from (is_from n.sender) 0 names ≡ None) where
    fresh_lasts : (s : List ℕ) (f : ℕ) (b : Bool) → is_from s n ≡ b → position_from (is_from s) 0 (names ++ n ∷ []) ≡ Some f
        → IsLastBefore (names ++ n ∷ []) s (length (names ++ n ∷ [])) (Some (slice_index (links ++ length names ∷ []) f))
    fresh_lasts s f true t p =
        let no : position_from (is_from s) 0 names ≡ None = subst (λ x. position_from (is_from x) 0 names ≡ None) (same_sender n.sender s t) none in
        let last : length names ≡ f = let e = first_more names n s f None true no t p in cc in
        newest names n s (slice_index (links ++ length names ∷ []) f) (get_or_push links (length names) 0 f (h.one_each ∙ last)) t
    fresh_lasts s f false t p = by (position_from (is_from s) 0 names) refl
      where
        by : (o : Option ℕ) → position_from (is_from s) 0 names ≡ o → IsLastBefore (names ++ n ∷ []) s (length (names ++ n ∷ [])) (Some (slice_index (links ++ length names ∷ []) f))
        by None e = let clash = first_more names n s f None false e t p in cc
        by (Some g) e =
            let same : g ≡ f = let x = first_more names n s f (Some g) false e t p in cc in
            let is : position_from (is_from s) 0 names ≡ Some f = e ∙ ap Some same in
            let low : f < length links = omega (arith, (placed (is_from s) names n f is).within, h.one_each) in
            carried_on names n s (slice_index (links ++ length names ∷ []) f) t
            (subst (λ x. IsLastBefore names s (length names) (Some x)) (sym (get_or_append_left links (length names ∷ []) 0 f low)) (h.lasts s f is))

    fresh_befores : (i : ℕ) (name : MessageName) → slice_get (names ++ n ∷ []) i ≡ Some name → IsLastBefore (names ++ n ∷ []) name.sender i (back_of i (slice_index (links ++ length names ∷ []) i))
    fresh_befores i name at = elim (cases_lt i (length names)) [
      | inl lt ↦ carried names n name.sender i (back_of i (slice_index (links ++ length names ∷ []) i)) (omega arith)
          (subst (λ x. IsLastBefore names name.sender i (back_of i x)) (sym (get_or_append_left links (length names ∷ []) 0 i (omega (arith, h.one_each)))) (h.befores i name (sym (sliced_before names n i lt) ∙ at)))
      | inr ge ↦
          let last : length names ≡ i = let up = slice_get_within (names ++ n ∷ []) i name at in omega (arith, up, length_push names n) in
          let own : n ≡ name = let e = sym (sliced_last names n) ∙ (ap (slice_get (names ++ n ∷ [])) last ∙ at) in cc in
          let link : slice_index (links ++ length names ∷ []) i ≡ i = get_or_push links (length names) 0 i (h.one_each ∙ last) ∙ last in
          let nothing : back_of i (slice_index (links ++ length names ∷ []) i) ≡ None = ap (λ b. cond b (Some (slice_index (links ++ length names ∷ []) i)) None) (ap (λ x. nat_lt x i) link ∙ le-ltb i i (omega arith)) in
          subst (IsLastBefore (names ++ n ∷ []) name.sender i) (sym nothing)
          (λ k low. sent_before names n name.sender k (omega arith) ∙ (sent names name.sender k n (omega arith) ∙ (ap (λ (x : MessageName). is_from x.sender (get_or names k n)) (sym own) ∙ none_passes (is_from n.sender) 0 names n none k (omega arith))))
    ]

    fresh : AreLinked (names ++ n ∷ []) (linked (length names) links)
    fresh =
        let is : linked (length names) links ≡ links ++ length names ∷ [] =
        λ k. set_past links (length names) (length links) (omega (arith, h.one_each)) k ++ (ap (λ o. unwrap_or o (length links)) (slice_get_past links (length names) (omega (arith, h.one_each))) ∙ h.one_each) k ∷ [] in
        subst (AreLinked (names ++ n ∷ [])) (sym is) (record {
          one_each = omega (arith, length_push links (length names), length_push names n, h.one_each);
          lasts = λ s f p. fresh_lasts s f (is_from s n) refl p;
          befores = fresh_befores;
        })

  -- ---- of a sender with earlier names, the first of which has number g

  module _ (g : ℕ) (some : position_from (is_from n.sender) 0 names ≡ Some g) where
    abbrev after : List ℕ
    after = set links g (length names) ++ slice_index links g ∷ []

    long : length (set links g (length names)) ≡ length names
    long = length-set links g (length names) ∙ h.one_each

    within : g < length names
    within = (placed (is_from n.sender) names n g some).within

    at_first : slice_index after g ≡ length names
    at_first = get_or_append_left (set links g (length names)) (slice_index links g ∷ []) 0 g (omega (arith, long, within)) ∙ get_or-set_same links g (length names) 0 (omega (arith, h.one_each, within))

    elsewhere : (i : ℕ) → i < length names → i ≢ g → slice_index after i ≡ slice_index links i
    elsewhere i low other = get_or_append_left (set links g (length names)) (slice_index links g ∷ []) 0 i (omega (arith, long)) ∙ get_or-set_other links g i (length names) 0 other

    again_lasts : (s : List ℕ) (f : ℕ) (b : Bool) → is_from s n ≡ b → position_from (is_from s) 0 (names ++ n ∷ []) ≡ Some f
        → IsLastBefore (names ++ n ∷ []) s (length (names ++ n ∷ [])) (Some (slice_index after f))
    again_lasts s f true t p =
        let own : position_from (is_from s) 0 names ≡ Some g = subst (λ x. position_from (is_from x) 0 names ≡ Some g) (same_sender n.sender s t) some in
        let same : g ≡ f = let e = first_more names n s f (Some g) true own t p in cc in
        newest names n s (slice_index after f) (ap (slice_index after) (sym same) ∙ at_first) t
    again_lasts s f false t p = by (position_from (is_from s) 0 names) refl
      where
        by : (o : Option ℕ) → position_from (is_from s) 0 names ≡ o → IsLastBefore (names ++ n ∷ []) s (length (names ++ n ∷ [])) (Some (slice_index after f))
        by None e = let clash = first_more names n s f None false e t p in cc
        by (Some k) e =
            let same : k ≡ f = let x = first_more names n s f (Some k) false e t p in cc in
            let is : position_from (is_from s) 0 names ≡ Some f = e ∙ ap Some same in
            let there = placed (is_from s) names n f is in
            let here = placed (is_from n.sender) names n g some in
            let other : f ≢ g = λ eq.
            let a : (get_or names g n).sender ≡ s = same_sender (get_or names g n).sender s (ap (λ i. is_from s (get_or names i n)) (sym eq) ∙ there.passes) in
            let b : (get_or names g n).sender ≡ n.sender = same_sender (get_or names g n).sender n.sender here.passes in
            false≢true (sym t ∙ (bytes_decides n.sender s).1 (sym b ∙ a)) in
            carried_on names n s (slice_index after f) t
            (subst (λ x. IsLastBefore names s (length names) (Some x)) (sym (elsewhere f there.within other)) (h.lasts s f is))

    again_befores : (i : ℕ) (name : MessageName) → slice_get (names ++ n ∷ []) i ≡ Some name → IsLastBefore (names ++ n ∷ []) name.sender i (back_of i (slice_index after i))
    again_befores i name at = elim (cases_lt i (length names)) [
      | inl lt ↦
          let old : slice_get names i ≡ Some name = sym (sliced_before names n i lt) ∙ at in
          elim (cases_eq i g) [
            | inl is ↦
                let up : nat_lt (slice_index after i) i ≡ false = ap (λ x. nat_lt x i) (ap (slice_index after) is ∙ at_first) ∙ le-ltb (length names) i (omega arith) in
                let nothing : back_of i (slice_index after i) ≡ None = ap (λ b. cond b (Some (slice_index after i)) None) up in
                let here = placed (is_from n.sender) names n g some in
                let sender : name.sender ≡ n.sender =
                ap (λ (x : MessageName). x.sender) (sym (get_or_from_slice_get names i name n old)) ∙ (ap (λ j. (get_or names j n).sender) is ∙ same_sender (get_or names g n).sender n.sender here.passes) in
                subst (IsLastBefore (names ++ n ∷ []) name.sender i) (sym nothing)
                (λ k low. sent_before names n name.sender k (omega arith) ∙ (sent names name.sender k n (omega arith) ∙ (ap (λ x. is_from x (get_or names k n)) sender ∙ here.none_before k (omega arith))))
            | inr other ↦ carried names n name.sender i (back_of i (slice_index after i)) (omega arith)
                (subst (λ x. IsLastBefore names name.sender i (back_of i x)) (sym (elsewhere i lt other)) (h.befores i name old))
          ]
      | inr ge ↦
          let last : length names ≡ i = let up = slice_get_within (names ++ n ∷ []) i name at in omega (arith, up, length_push names n) in
          let own : n ≡ name = let e = sym (sliced_last names n) ∙ (ap (slice_get (names ++ n ∷ [])) last ∙ at) in cc in
          let lasts = h.lasts n.sender g some in
          let link : slice_index after i ≡ slice_index links g = get_or_push (set links g (length names)) (slice_index links g) 0 i (long ∙ last) in
          let back : back_of i (slice_index after i) ≡ Some (slice_index links g) =
          ap (back_of i) link ∙ ap (λ b. cond b (Some (slice_index links g)) None) (lt-ltb (slice_index links g) i (omega (arith, lasts.0, last))) in
          subst (IsLastBefore (names ++ n ∷ []) name.sender i) (sym back)
          (subst (λ (x : MessageName). IsLastBefore (names ++ n ∷ []) x.sender i (Some (slice_index links g))) own
          (carried names n n.sender i (Some (slice_index links g)) (omega arith) (subst (λ k. IsLastBefore names n.sender k (Some (slice_index links g))) last lasts)))
    ]

    again : AreLinked (names ++ n ∷ []) (linked g links)
    again =
        let is : linked g links ≡ after =
        λ k. set links g (h.one_each k) ++ (ap (λ o. unwrap_or o (length links)) (slice_get-get_or links g 0 (omega (arith, h.one_each, within)))) k ∷ [] in
        subst (AreLinked (names ++ n ∷ [])) (sym is) (record {
          one_each = omega (arith, length_push (set links g (length names)) (slice_index links g), length_push names n, long);
          lasts = λ s f p. again_lasts s f (is_from s n) refl p;
          befores = again_befores;
        })

  pub linked_more : AreLinked (names ++ n ∷ []) (linked (first_from names n.sender) links)
  linked_more = by (position_from (is_from n.sender) 0 names) refl
    where
      by : (o : Option ℕ) → position_from (is_from n.sender) 0 names ≡ o → AreLinked (names ++ n ∷ []) (linked (unwrap_or o (length names)) links)
      by None e = fresh e
      by (Some g) e = again g e
