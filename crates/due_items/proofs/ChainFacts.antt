-- Chains as they are built, and what stands in them.
use Rattle.std.proofs.Common.{◌≡◌, ◌∙◌, ◌≢◌, ℕ, zero, suc, ◌+◌, ◌-◌, ◌<◌, ◌≤◌, Bool, true, false, List, [], ◌∷◌, ◌++◌, Option, Some, None, length, get_or, slice_set, map, refl, sym, ap, arith, ◌⊎◌, inl, inr, ⊎_elim, if◌then◌else◌, get_or-set_same, get_or-set_other}
use Rattle.std.specs.Prelude.{nat_eq, slice_index_or}
use Rattle.std.specs.List.{range_with_len}
use Rattle.std.specs.Option.{option_map_or}
use Rattle.std.proofs.Math.Seq.{get_or-append_seam}
use Rattle.std.proofs.lemmas.Bool.{cases_eq, cases_lt, eqb-true, ne_eqb}
use Rattle.std.proofs.lemmas.List.{ext_get_or, get_or_append_left, get_or_past, length-append, length-set}
use Rattle.std.proofs.lemmas.List.FromFn.{get_or-map-range_with_len, length-map-range_with_len, map-range_with_len_more}
use Rattle.batch_records.specs.DayRecord.{Day}
use Rattle.machine.specs.Words.{some_passes}
use Rattle.machine.specs.Records.Messages.{message_numbers}
use Rattle.settlement_laws.proofs.Base.Places.{same-number}
use Rattle.due_items.specs.declared.chain.Key.{Key}
use Rattle.due_items.specs.Chains.{Chain, PointsDown, chain_upto, entered, has_key, key_of, last_of, newest_of, older_at}

-- ---- the last number that passes

pub last-le : (test : ℕ → Bool) (n : ℕ) → last_of test n ≤ n
unfolding last_of
last-le test zero = omega arith
last-le test (suc n) = here (test (suc n)) (last-le test n)
  where
    here : (b : Bool) → last_of test n ≤ n → (if b then suc n else last_of test n) ≤ suc n
    here true l = omega arith
    here false l = omega (arith, l)

pub last-passes : (test : ℕ → Bool) (n : ℕ) → (last_of test n ≡ 0) ⊎ (test (last_of test n) ≡ true)
unfolding last_of
last-passes test zero = inl refl
last-passes test (suc n) = here (test (suc n)) refl (last-passes test n)
  where
    here : (b : Bool) → test (suc n) ≡ b → (last_of test n ≡ 0) ⊎ (test (last_of test n) ≡ true) → ((if b then suc n else last_of test n) ≡ 0) ⊎ (test (if b then suc n else last_of test n) ≡ true)
    here true e before = inr e
    here false e before = before

-- none after it passes
pub last-above : (test : ℕ → Bool) (n m : ℕ) → last_of test n < m → m ≤ n → test m ≡ false
unfolding last_of
last-above test zero m above within = absurd (omega (arith, above, within))
last-above test (suc n) m above within = here (test (suc n)) refl above (cases_eq m (suc n)) (last-above test n m)
  where
    here : (b : Bool) → test (suc n) ≡ b → (if b then suc n else last_of test n) < m → (m ≡ suc n) ⊎ ((m ≡ suc n) → ⊥) → (last_of test n < m → m ≤ n → test m ≡ false) → test m ≡ false
    here true e up o before = absurd (omega (arith, up, within))
    here false e up (inl q) before = ap test q ∙ e
    here false e up (inr ne) before = before up (omega (arith, within, ne))

last-with : (test : ℕ → Bool) (n : ℕ) → test (n + 1) ≡ true → n + 1 ≡ last_of test (n + 1)
unfolding last_of
last-with test n e =
    let s : n + 1 ≡ suc n = omega arith in
    s ∙ sym (ap (last_of test) s ∙ ap (λ b. if b then suc n else last_of test n) (ap test (sym s) ∙ e))

last-without : (test : ℕ → Bool) (n : ℕ) → test (n + 1) ≡ false → last_of test (n + 1) ≡ last_of test n
unfolding last_of
last-without test n e =
    let s : n + 1 ≡ suc n = omega arith in
    ap (last_of test) s ∙ ap (λ b. if b then suc n else last_of test n) (ap test (sym s) ∙ e)

last-none : (test : ℕ → Bool) → last_of test 0 ≡ 0
unfolding last_of
last-none test = refl

-- ---- the newest of each key

pub newest-length : (key : Key) (day : Day) (n : ℕ) → length (newest_of key day n) ≡ 86401
newest-length key day n = length-map-range_with_len (λ t. last_of (has_key key day t) n) 0 (86401)

pub newest-at : (key : Key) (day : Day) (n t : ℕ) → t < 86401 → slice_index_or (newest_of key day n) t 0 ≡ last_of (has_key key day t) n
newest-at key day n t h = get_or-map-range_with_len (λ x. last_of (has_key key day x) n) 0 (86401) t t 0 h (omega arith)

newest-le : (key : Key) (day : Day) (n t : ℕ) → slice_index_or (newest_of key day n) t 0 ≤ n
newest-le key day n t = here (cases_lt t (86401))
  where
    here : (t < 86401) ⊎ (86401 ≤ t) → slice_index_or (newest_of key day n) t 0 ≤ n
    here (inl h) = let e = newest-at key day n t h in let l = last-le (has_key key day t) n in omega (arith, e, l)
    here (inr h) =
        let len = newest-length key day n in
        let e : slice_index_or (newest_of key day n) t 0 ≡ 0 = get_or_past (newest_of key day n) t 0 (omega (arith, len, h)) in
        omega (arith, e)

pub newest-none : (key : Key) (day : Day) (zeros : List ℕ) (count : ℕ) → count ≡ 86401 → zeros ≡ map (λ k. 0) (range_with_len 0 count) → zeros ≡ newest_of key day 0
newest-none key day zeros count c e =
    let len = newest-length key day 0 in
    let len_zeros : length (map (λ k. zero) (range_with_len 0 count)) ≡ count = length-map-range_with_len (λ k. zero) 0 count in
    e ∙ ext_get_or 0 (map (λ k. zero) (range_with_len 0 count)) (newest_of key day 0) (omega (arith, len, len_zeros, c)) (λ k within.
    let inside : k < 86401 = omega (arith, len_zeros, within, c) in
    get_or-map-range_with_len (λ x. zero) 0 count k k 0 (omega (arith, len_zeros, within)) (omega arith) ∙ sym (newest-at key day 0 k inside ∙ last-none (has_key key day k)))

-- one more message is entered
entered-is : (key : Key) (day : Day) (n : ℕ) (o : Option ℕ) → key_of key day (n + 1) ≡ o → entered o (n + 1) (newest_of key day n) ≡ newest_of key day (n + 1)
entered-is key day n None e =
    let len = newest-length key day n in
    let len_new = newest-length key day (n + 1) in
    ext_get_or 0 (newest_of key day n) (newest_of key day (n + 1)) (omega (arith, len, len_new)) (λ t within.
    let inside : t < 86401 = omega (arith, len, within) in
    newest-at key day n t inside ∙ sym (newest-at key day (n + 1) t inside ∙ last-without (has_key key day t) n (ap (some_passes (nat_eq t)) e)))
entered-is key day n (Some k) e =
    let len = newest-length key day n in
    let len_new = newest-length key day (n + 1) in
    let len_set : length (slice_set (newest_of key day n) k (n + 1)) ≡ length (newest_of key day n) = length-set (newest_of key day n) k (n + 1) in
    ext_get_or 0 (slice_set (newest_of key day n) k (n + 1)) (newest_of key day (n + 1)) (omega (arith, len, len_new, len_set)) (λ t within.
    let inside : t < 86401 = omega (arith, len, len_set, within) in
    ⊎_elim
    (λ (q : t ≡ k).
    ap (λ (m : ℕ). get_or (slice_set (newest_of key day n) k (n + 1)) m 0) q
    ∙ get_or-set_same (newest_of key day n) k (n + 1) 0 (omega (arith, len, inside, q))
    ∙ sym (newest-at key day (n + 1) t inside ∙ sym (last-with (has_key key day t) n (ap (some_passes (nat_eq t)) e ∙ ap (nat_eq t) (sym q) ∙ same-number t))))
    (λ (ne : t ≢ k).
    get_or-set_other (newest_of key day n) k t (n + 1) 0 ne
    ∙ newest-at key day n t inside
    ∙ sym (newest-at key day (n + 1) t inside ∙ last-without (has_key key day t) n (ap (some_passes (nat_eq t)) e ∙ ne_eqb t k ne)))
    (cases_eq t k))

pub newest-more : (key : Key) (day : Day) (n : ℕ) (old new : List ℕ) (o : Option ℕ) → o ≡ key_of key day (n + 1) → old ≡ newest_of key day n → new ≡ entered o (n + 1) old → new ≡ newest_of key day (n + 1)
newest-more key day n old new o k e p = p ∙ ap (entered o (n + 1)) e ∙ entered-is key day n o (sym k)

-- ---- the one before each message

-- what stood under its key when it was entered
pub older-more : (key : Key) (day : Day) (n : ℕ) (newest : List ℕ) (o : Option ℕ) (before : ℕ) → o ≡ key_of key day (n + 1) → newest ≡ newest_of key day n → before ≡ option_map_or (λ t. slice_index_or newest t 0) o 0 → before ≡ older_at key day (n + 1)
older-more key day n newest o before k e b =
    let one : n + 1 - 1 ≡ n = omega arith in
    b ∙ ap (λ p. option_map_or (λ t. slice_index_or newest t 0) p 0) k
    ∙ ap (λ xs. option_map_or (λ t. slice_index_or {A = ℕ} xs t 0) (key_of key day (n + 1)) 0) (e ∙ ap (newest_of key day) (sym one))

older-le : (key : Key) (day : Day) (n : ℕ) → older_at key day n ≤ n - 1
older-le key day n = here (key_of key day n)
  where
    here : (o : Option ℕ) → option_map_or (λ t. slice_index_or (newest_of key day (n - 1)) t 0) o 0 ≤ n - 1
    here None = omega arith
    here (Some t) = newest-le key day (n - 1) t

pub older-at : (key : Key) (day : Day) (n : ℕ) → 1 ≤ n → n ≤ length day.messages → slice_index_or (map (older_at key day) (message_numbers day)) (n - 1) 0 ≡ older_at key day n
older-at key day n first last = get_or-map-range_with_len (older_at key day) 1 (length day.messages) (n - 1) n 0 (omega (arith, first, last)) (omega (arith, first))

-- of a message that has the key
pub older-is : (key : Key) (day : Day) (t n : ℕ) → t < 86401 → 1 ≤ n → n ≤ length day.messages → has_key key day t n ≡ true → slice_index_or (map (older_at key day) (message_numbers day)) (n - 1) 0 ≡ last_of (has_key key day t) (n - 1)
older-is key day t n below first last keyed = older-at key day n first last ∙ here (key_of key day n) refl
  where
    here : (o : Option ℕ) → key_of key day n ≡ o → option_map_or (λ x. slice_index_or (newest_of key day (n - 1)) x 0) (key_of key day n) 0 ≡ last_of (has_key key day t) (n - 1)
    here None e = let f : false ≡ true = sym (ap (some_passes (nat_eq t)) e) ∙ keyed in absurd cc
    here (Some k) e =
        let q : t ≡ k = eqb-true t k (sym (ap (some_passes (nat_eq t)) e) ∙ keyed) in
        ap (λ o. option_map_or (λ x. slice_index_or (newest_of key day (n - 1)) x 0) o 0) (e ∙ ap Some (sym q)) ∙ newest-at key day (n - 1) t below

-- ---- a chain that grows

pub points_first : (newest older : List ℕ) → newest ≡ map (λ i. 0) (range_with_len 0 86401) → older ≡ [] → PointsDown newest older
points_first newest older n o = record {
  down = λ i. let q : slice_index_or older i 0 ≡ 0 = ap (λ (xs : List ℕ). slice_index_or xs i 0) o in omega (arith, q);
  within = λ t. let q : slice_index_or newest t 0 ≡ 0 = ap (λ (xs : List ℕ). slice_index_or xs t 0) n ∙ zero_at t (cases_lt t 86401) in omega (arith, q);
}
  where
    zero_at : (t : ℕ) → (t < 86401) ⊎ (86401 ≤ t) → slice_index_or {A = ℕ} (map (λ (i : ℕ). zero) (range_with_len 0 86401)) t zero ≡ zero
    zero_at t (inl h) = get_or-map-range_with_len (λ (i : ℕ). zero) 0 86401 t t zero h (omega arith)
    zero_at t (inr h) =
        let len = length-map-range_with_len (λ (i : ℕ). zero) 0 86401 in
        get_or_past (map (λ (i : ℕ). zero) (range_with_len 0 86401)) t 0 (omega (arith, len, h))

pub points_more : (n before : ℕ) (o : Option ℕ) (newest older new_newest new_older : List ℕ) → n ≡ length older + 1 → PointsDown newest older → before ≡ option_map_or (λ t. slice_index_or newest t 0) o 0 → new_newest ≡ entered o n newest → new_older ≡ older ++ before ∷ [] → PointsDown new_newest new_older
points_more n before o newest older new_newest new_older e points b p q = record {
  down = λ i. let same : slice_index_or new_older i 0 ≡ slice_index_or (older ++ before ∷ []) i 0 = ap (λ (xs : List ℕ). slice_index_or xs i 0) q in let l = back i (cases_lt i (length older)) (cases_eq i (length older)) in omega (arith, same, l);
  within = λ t. let len : length new_older ≡ length older + 1 = ap length q ∙ length-append older (before ∷ []) in
      let same : slice_index_or new_newest t 0 ≡ slice_index_or (entered o n newest) t 0 = ap (λ (xs : List ℕ). slice_index_or xs t 0) p in
      let l = up o t in omega (arith, len, same, l);
}
  where
    low : before ≤ length older
    low = let l = here o in omega (arith, b, l)
      where
        here : (x : Option ℕ) → option_map_or (λ t. slice_index_or newest t 0) x 0 ≤ length older
        here None = omega arith
        here (Some t) = points.within t

    back : (i : ℕ) → (i < length older) ⊎ (length older ≤ i) → (i ≡ length older) ⊎ ((i ≡ length older) → ⊥) → slice_index_or (older ++ before ∷ []) i 0 ≤ i
    back i (inl h) x = let same : slice_index_or (older ++ before ∷ []) i 0 ≡ slice_index_or older i 0 = get_or_append_left older (before ∷ []) 0 i h in let l = points.down i in omega (arith, same, l)
    back i (inr h) (inl x) = let same : slice_index_or (older ++ before ∷ []) i 0 ≡ before = ap (λ m. slice_index_or (older ++ before ∷ []) m 0) x ∙ get_or-append_seam older before [] 0 in omega (arith, same, low, x)
    back i (inr h) (inr ne) =
        let len : length (older ++ before ∷ []) ≡ length older + 1 = length-append older (before ∷ []) in
        let same : slice_index_or (older ++ before ∷ []) i 0 ≡ 0 = get_or_past (older ++ before ∷ []) i 0 (omega (arith, len, h, ne)) in
        omega (arith, same)

    up : (x : Option ℕ) (t : ℕ) → slice_index_or (entered x n newest) t 0 ≤ length older + 1
    up None t = let l = points.within t in omega (arith, l)
    up (Some u) t = ⊎_elim
        (λ (q : t ≡ u). at_key (cases_lt u (length newest)) q)
        (λ (ne : t ≢ u). let same : slice_index_or (slice_set newest u n) t 0 ≡ slice_index_or newest t 0 = get_or-set_other newest u t n 0 ne in let l = points.within t in omega (arith, same, l))
        (cases_eq t u)
      where
        at_key : (u < length newest) ⊎ (length newest ≤ u) → t ≡ u → slice_index_or (slice_set newest u n) t 0 ≤ length older + 1
        at_key (inl h) q = let same : slice_index_or (slice_set newest u n) t 0 ≡ n = ap (λ m. slice_index_or (slice_set newest u n) m 0) q ∙ get_or-set_same newest u n 0 h in omega (arith, same, e)
        at_key (inr h) q =
            let len : length (slice_set newest u n) ≡ length newest = length-set newest u n in
            let same : slice_index_or (slice_set newest u n) t 0 ≡ 0 = get_or_past (slice_set newest u n) t 0 (omega (arith, len, h, q)) in
            omega (arith, same)

pub chain_empty : (key : Key) (day : Day) (newest older : List ℕ) (room : ℕ) → newest ≡ map (λ i. 0) (range_with_len 0 86401) → older ≡ [] → record { newest = newest; older = older; room = room } ≡ chain_upto key day 0 room
chain_empty key day newest older room n o = λ i. record { newest = newest-none key day newest 86401 refl n i; older = o i; room = room }

-- the older ones of the first messages are as many
pub older-count : (key : Key) (day : Day) (k : ℕ) (chain : Chain) → chain ≡ chain_upto key day k chain.room → length chain.older ≡ k
older-count key day k chain e = ap (λ (x : Chain). length x.older) e ∙ length-map-range_with_len (older_at key day) 1 k

pub chain_arrives : (key : Key) (day : Day) (k n before : ℕ) (o : Option ℕ) (old : Chain) (new_newest new_older : List ℕ) (room : ℕ) → n ≡ k + 1 → o ≡ key_of key day n → old ≡ chain_upto key day k old.room →
    before ≡ option_map_or (λ t. slice_index_or old.newest t 0) o 0 → new_newest ≡ entered o n old.newest → new_older ≡ old.older ++ before ∷ [] →
    record { newest = new_newest; older = new_older; room = room } ≡ chain_upto key day n room
chain_arrives key day k n before o old new_newest new_older room e is was b p q = λ i. record { newest = newest i; older = older i; room = room }
  where
    newest_was : old.newest ≡ newest_of key day k
    newest_was = ap (λ (x : Chain). x.newest) was

    newest : new_newest ≡ newest_of key day n
    newest = newest-more key day k old.newest new_newest o (is ∙ ap (key_of key day) e) newest_was (p ∙ ap (λ m. entered o m old.newest) e) ∙ ap (newest_of key day) (sym e)

    older : new_older ≡ map (older_at key day) (range_with_len 1 n)
    older =
        q ∙ ap (λ xs. xs ++ before ∷ []) (ap (λ (x : Chain). x.older) was)
        ∙ ap (λ x. map (older_at key day) (range_with_len 1 k) ++ x ∷ []) (older-more key day k old.newest o before (is ∙ ap (key_of key day) e) newest_was b)
        ∙ sym (map-range_with_len_more (older_at key day) 1 k (k + 1) (omega arith)) ∙ ap (λ m. map (older_at key day) (range_with_len 1 m)) (sym e)
