-- Keys of batch, bank and entry: which are listed, and where they stand.
use Rattle.std.proofs.Common.{◌≡◌, ◌∙◌, ◌+◌, ◌-◌, ◌*◌, ◌<◌, ◌≤◌, ℕ, zero, suc, Bool, true, false, ◌||◌, List, [], ◌∷◌, ◌++◌, Option, None, Some, drop, take, get_or, length, refl, sym, ap, subst, arith, ⊎_elim}
use Rattle.std.specs.Prelude.{is_some, nat_eq, option_map, slice_index, unwrap_or}
use Rattle.std.specs.List.{list_any}
use Rattle.std.specs.Option.{option_map_or}
use Rattle.std.specs.Ordering.{nat_cmp}
use Rattle.std.specs.List.Sorted.{IsPermutation, IsSorted}
use Rattle.std.specs.Cmp.Lexicographic.{bytes_decides}
use Rattle.std.proofs.lemmas.Bool.{cases_eq, cases_lt, eq-eqb, eqb-true, or_left, or_right}
use Rattle.std.proofs.lemmas.List.{get_or-drop, get_or-take, length-drop, length-take}
use Rattle.std.proofs.lemmas.List.Folds.{list_any-append, list_any_at}
use Rattle.std.proofs.lemmas.List.Sorted.{list_any-IsPermutation}
use Rattle.std.proofs.lemmas.Nat.{mod-mul-add}
use Rattle.std.proofs.lemmas.Option.{slice_get_past}
use Rattle.cash_amounts.specs.declared.records.AccountRecord.{AccountRecord}
use Rattle.account_book.proofs.Numbers.{numbered-map}
use Rattle.batch_records.specs.DayRecord.{Day}
use Rattle.batch_records.specs.declared.day.Entry.{Entry}
use Rattle.batch_records.specs.declared.day.Message.{Message}
use Rattle.commit_journal.specs.declared.line.Move.{Move}
use Rattle.machine.specs.Words.{numbered, same_name, some_passes}
use Rattle.machine.specs.Records.Setup.{account_at, account_named, owns}
use Rattle.machine.specs.Records.Messages.{entries, entry_at, info_in, move_of, part}
use Rattle.machine.specs.Telling.Facts.{is_party}
use Rattle.rule_book.specs.Parties.{AreListed, HasParts, IsPlace, bank_number, entry_of, is_informed, is_joined, is_listed, is_party_at, joins, key, names_entry, owner_in, owner_numbers}
use Rattle.rule_book.proofs.Summing.{clash}

-- ---- a key more

pub kept_there : (xs ys : List ℕ) (y x : ℕ) → ys ≡ xs ++ y ∷ [] → is_listed xs x ≡ true → is_listed ys x ≡ true
kept_there xs ys y x e h =
    ap (λ zs. is_listed zs x) e ∙ list_any-append (nat_eq x) xs (y ∷ []) ∙ or_left (is_listed xs x) (is_listed (y ∷ []) x) h

pub new_there : (xs ys : List ℕ) (y : ℕ) → ys ≡ xs ++ y ∷ [] → is_listed ys y ≡ true
new_there xs ys y e =
    ap (λ zs. is_listed zs y) e ∙ list_any-append (nat_eq y) xs (y ∷ []) ∙ or_right (is_listed xs y) (is_listed (y ∷ []) y) (or_left (nat_eq y y) false (eq-eqb y y refl))

-- ---- where listed keys stand

pub record IsThere (xs : List ℕ) (x : ℕ) : Type 0 where
  pub at : ℕ
  pub within : at < length xs
  pub is : slice_index xs at ≡ x

pub there : (xs : List ℕ) (x : ℕ) → is_listed xs x ≡ true → IsThere xs x
there [] x h = cc
there (y ∷ ys) x h = by (nat_eq x y) refl h (there ys x)
  where
    by : (b : Bool) → nat_eq x y ≡ b → (b || is_listed ys x) ≡ true → (is_listed ys x ≡ true → IsThere ys x) → IsThere (y ∷ ys) x
    by true e q more = record { at = 0; within = omega arith; is = sym (eqb-true x y e) }
    by false e q more =
        let r = more q in
        let w = r.within in
        record { at = suc r.at; within = omega (arith, w); is = r.is }

module _ (keys : List ℕ) (n b i j : ℕ) (low : IsPlace keys (key n b 0) i) (high : IsPlace keys (key n b 65535) j) where
  pub places_rise : i ≤ j
  places_rise = ⊎_elim
      (λ (l : j < i).
      let a = low.less j l in
      let w = low.within in
      let c = high.others j (omega arith) (omega (arith, l, w)) in
      absurd (omega (arith, a, c)))
      (λ (l : i ≤ j). l)
      (cases_lt j i)

  pub entry_between : (k : ℕ) → k < 65535 → is_listed keys (key n b k) ≡ true → names_entry (take (j - i) (drop i keys)) k ≡ true
  entry_between k small h = list_any_at (λ x. nat_eq (entry_of x) k) (take (j - i) (drop i keys)) (p - i) 0 inside named
    where
      t : IsThere keys (key n b k)
      t = there keys (key n b k) h

      p : ℕ
      p = t.at

      from : i ≤ p
      from = ⊎_elim (λ (l : p < i). let a = low.less p l in let s = t.is in absurd (omega (arith, a, s))) (λ (l : i ≤ p). l) (cases_lt p i)

      till : p < j
      till = ⊎_elim
          (λ (l : p < j). l)
          (λ (l : j ≤ p).
          let a = high.others p l t.within in
          let s = t.is in
          absurd (omega (arith, a, s, small)))
          (cases_lt p j)

      inside : p - i < length (take (j - i) (drop i keys))
      inside =
          let a = length-take (j - i) (drop i keys) in
          let c = length-drop i keys in
          let w = t.within in
          omega (arith, a, c, w, from, till)

      value : get_or (take (j - i) (drop i keys)) (p - i) 0 ≡ key n b k
      value =
          get_or-take (j - i) (drop i keys) (p - i) 0 (omega (arith, from, till)) ∙ get_or-drop i keys (p - i) 0
          ∙ (let e : i + (p - i) ≡ p = omega (arith, from) in ap (λ q. get_or keys q 0) e) ∙ t.is

      named : nat_eq (entry_of (get_or (take (j - i) (drop i keys)) (p - i) 0)) k ≡ true
      named = eq-eqb (entry_of (get_or (take (j - i) (drop i keys)) (p - i) 0)) k (ap entry_of value ∙ mod-mul-add (n * 65536 + b) 65536 k (omega (arith, small)))

-- ---- the banks of an entry

module _ (day : Day) (bank : List ℕ) where
  owned : (o : Option AccountRecord) → some_passes (λ (r : AccountRecord). same_name r.owner bank) o ≡ true
      → option_map_or (λ b. b) (option_map (λ (r : AccountRecord). bank_number day r.owner) o) 0 ≡ bank_number day bank
  owned None h = cc
  owned (Some r) h = ap (bank_number day) ((bytes_decides r.owner bank).0 h)

  side : (o : Option ℕ) → some_passes (λ a. some_passes (λ (r : AccountRecord). same_name r.owner bank) (account_at day a)) o ≡ true
      → nat_eq (owner_in (owner_numbers day) (unwrap_or o 0)) (bank_number day bank) ≡ true
  side None h = cc
  side (Some a) h = eq-eqb (owner_in (owner_numbers day) a) (bank_number day bank)
      (ap (λ o. option_map_or (λ b. b) o 0) (numbered-map (λ (r : AccountRecord). bank_number day r.owner) day.accounts a) ∙ owned (account_at day a) h)

  pub joined : (e : Entry) → is_party day bank e ≡ true → joins (owner_numbers day) (bank_number day bank) (move_of day e) ≡ true
  joined e h = by (owns day bank e.debit) refl h
    where
      by : (b : Bool) → owns day bank e.debit ≡ b → (b || owns day bank e.credit) ≡ true → joins (owner_numbers day) (bank_number day bank) (move_of day e) ≡ true
      by true p q = or_left _ _ (side (account_named day e.debit) p)
      by false p q = or_right _ _ (side (account_named day e.credit) q)

  pub joined_at : (o : Option Entry) → some_passes (is_party day bank) o ≡ true → is_joined (owner_numbers day) (bank_number day bank) (option_map (move_of day) o) ≡ true
  joined_at None h = cc
  joined_at (Some e) h = joined e h

-- ---- the entries of a batch

no_entry : (day : Day) (n k : ℕ) → length (entries day n) < k → entry_at day n k ≡ None
no_entry day n zero l = absurd (omega arith)
no_entry day n (suc i) l = slice_get_past (entries day n) i (omega (arith, l))

pub all_listed : (day : Day) (numbers keys : List ℕ) (n i : ℕ) → numbers ≡ owner_numbers day → i ≡ length (entries day n)
    → ((k b : ℕ) → nat_eq b 0 ≡ false → k ≤ i → is_joined numbers b (option_map (move_of day) (entry_at day n k)) ≡ true → is_listed keys (key n b k) ≡ true)
    → AreListed day keys n
all_listed day numbers keys n i is all own = λ k bank some party. ⊎_elim
    (λ (l : length (entries day n) < k). absurd (clash (is_party_at day n bank k) party (ap (some_passes (is_party day bank)) (no_entry day n k l))))
    (λ (l : k ≤ length (entries day n)).
    own k (bank_number day bank) some (omega (arith, l, all)) (ap (λ ns. is_joined ns (bank_number day bank) (option_map (move_of day) (entry_at day n k))) is ∙ joined_at day bank (entry_at day n k) party))
    (cases_lt (length (entries day n)) k)

-- what an entry moves
pub entry_is : (day : Day) (n i j : ℕ) (found : Option Move) → j ≡ i + 1 → found ≡ option_map (move_of day) (part day n j) → found ≡ option_map (move_of day) (entry_at day n j)
entry_is day n i j found at is =
    let e : suc i ≡ j = omega (arith, at) in
    subst (λ k. found ≡ option_map (move_of day) (part day n k) → found ≡ option_map (move_of day) (entry_at day n k)) e (λ h. h) is

-- the first i entries, and one more
pub one_more : (day : Day) (numbers old new : List ℕ) (n i j : ℕ) (found : Option Move) → j ≡ i + 1 → found ≡ option_map (move_of day) (entry_at day n j)
    → ((k b : ℕ) → nat_eq b 0 ≡ false → k ≤ i → is_joined numbers b (option_map (move_of day) (entry_at day n k)) ≡ true → is_listed old (key n b k) ≡ true)
    → ((x : ℕ) → is_listed old x ≡ true → is_listed new x ≡ true)
    → ((b : ℕ) → nat_eq b 0 ≡ false → is_joined numbers b found ≡ true → is_listed new (key n b j) ≡ true)
    → (k b : ℕ) → nat_eq b 0 ≡ false → k ≤ j → is_joined numbers b (option_map (move_of day) (entry_at day n k)) ≡ true → is_listed new (key n b k) ≡ true
one_more day numbers old new n i j found at is before keeps adds k b some l h = ⊎_elim
    (λ (e : k ≡ j).
    subst (λ m. is_listed new (key n b m) ≡ true) (sym e)
    (adds b some (ap (is_joined numbers b) is ∙ ap (λ m. is_joined numbers b (option_map (move_of day) (entry_at day n m))) (sym e) ∙ h)))
    (λ (ne : k ≡ j → ⊥). keeps (key n b k) (before k b some (omega (arith, l, at, ne)) h))
    (cases_eq k j)

pub first_none : (day : Day) (numbers keys : List ℕ) (n : ℕ) (k b : ℕ) → k ≤ 0 → is_joined numbers b (option_map (move_of day) (entry_at day n k)) ≡ true → is_listed keys (key n b k) ≡ true
first_none day numbers keys n zero b l h = cc
first_none day numbers keys n (suc k) b l h = absurd (omega (arith, l))

-- ---- the batches of a day

pub informed_there : (day : Day) (n : ℕ) → is_informed day n ≡ true → n ≤ length day.messages
informed_there day zero h = omega arith
informed_there day (suc i) h = omega (arith, past)
  where
    past : length day.messages ≤ i → ⊥
    past l =
        let missing : is_informed day (suc i) ≡ false = ap (λ (o : Option Message). is_some (option_map_or (λ m. info_in m.body) o None)) (slice_get_past day.messages i l) in
        clash (is_informed day (suc i)) h missing

pub none_informed : (day : Day) (n : ℕ) → n ≤ 0 → is_informed day n ≡ true → ⊥
none_informed day zero l h = cc
none_informed day (suc i) l h = omega (arith, l)

-- the first i batches, and one more
pub batch_more : (day : Day) (i j : ℕ) (old new : List ℕ) → j ≡ i + 1 → ((m : ℕ) → m ≤ i → is_informed day m ≡ true → AreListed day old m)
    → ((x : ℕ) → is_listed old x ≡ true → is_listed new x ≡ true) → (is_informed day j ≡ true → AreListed day new j)
    → (m : ℕ) → m ≤ j → is_informed day m ≡ true → AreListed day new m
batch_more day i j old new at before keeps adds m l h = ⊎_elim
    (λ (e : m ≡ j). subst (λ x. is_informed day x ≡ true → AreListed day new x) (sym e) adds h)
    (λ (ne : m ≡ j → ⊥). λ k bank some party. keeps (key m (bank_number day bank) k) (before m (omega (arith, l, at, ne)) h k bank some party))
    (cases_eq m j)

-- in order
pub sorted_lists : (xs ys : List ℕ) (x : ℕ) → IsPermutation xs ys → is_listed ys x ≡ is_listed xs x
sorted_lists xs ys x moved = sym (list_any-IsPermutation (nat_eq x) xs ys moved)

-- ---- what a bank has in a batch

pub few_parts : (day : Day) (n k : ℕ) (bank : List ℕ) → is_party_at day n bank k ≡ true → k ≤ length (entries day n)
few_parts day n k bank party = ⊎_elim
    (λ (l : length (entries day n) < k). absurd (clash (is_party_at day n bank k) party (ap (some_passes (is_party day bank)) (no_entry day n k l))))
    (λ (l : k ≤ length (entries day n)). l)
    (cases_lt (length (entries day n)) k)

-- an entry of which the bank is a party, if one of a list is
any_at : (p : Entry → Bool) (es : List Entry) (keys : List ℕ) → list_any (λ x. some_passes p (numbered es (entry_of x))) keys ≡ true → list_any p es ≡ true
any_at p es [] h = cc
any_at p es (x ∷ xs) h = by (some_passes p (numbered es (entry_of x))) refl h (any_at p es xs)
  where
    at_place : (ys : List Entry) (i : ℕ) → some_passes p (numbered ys (suc i)) ≡ true → list_any p ys ≡ true
    at_place [] i q = cc
    at_place (y ∷ ys) zero q = or_left _ _ q
    at_place (y ∷ ys) (suc i) q = or_right _ _ (at_place ys i q)

    at_number : (m : ℕ) → some_passes p (numbered es m) ≡ true → list_any p es ≡ true
    at_number zero q = cc
    at_number (suc i) q = at_place es i q

    by : (b : Bool) → some_passes p (numbered es (entry_of x)) ≡ b → (b || list_any (λ y. some_passes p (numbered es (entry_of y))) xs) ≡ true
        → (list_any (λ y. some_passes p (numbered es (entry_of y))) xs ≡ true → list_any p es ≡ true) → list_any p es ≡ true
    by true e q more = at_number (entry_of x) e
    by false e q more = more q

-- and the other way
record IsAt (p : Entry → Bool) (es : List Entry) : Type 0 where
  number : ℕ
  passes : some_passes p (numbered es (suc number)) ≡ true

found_at : (p : Entry → Bool) (es : List Entry) → list_any p es ≡ true → IsAt p es
found_at p [] h = cc
found_at p (y ∷ ys) h = by (p y) refl h (found_at p ys)
  where
    by : (b : Bool) → p y ≡ b → (b || list_any p ys) ≡ true → (list_any p ys ≡ true → IsAt p ys) → IsAt p (y ∷ ys)
    by true e q more = record { number = 0; passes = e }
    by false e q more = let r = more q in record { number = suc r.number; passes = r.passes }

named_any : (test : ℕ → Bool) (keys : List ℕ) (k : ℕ) → names_entry keys k ≡ true → test k ≡ true → list_any (λ x. test (entry_of x)) keys ≡ true
named_any test [] k h t = cc
named_any test (x ∷ xs) k h t = by (nat_eq (entry_of x) k) refl h (λ q. named_any test xs k q t)
  where
    by : (b : Bool) → nat_eq (entry_of x) k ≡ b → (b || names_entry xs k) ≡ true → (names_entry xs k ≡ true → list_any (λ y. test (entry_of y)) xs ≡ true)
        → list_any (λ y. test (entry_of y)) (x ∷ xs) ≡ true
    by true e q more = or_left _ _ (ap test (eqb-true (entry_of x) k e) ∙ t)
    by false e q more = or_right _ _ (more q)

same_answer : (a b : Bool) → (a ≡ true → b ≡ true) → (b ≡ true → a ≡ true) → a ≡ b
same_answer true b f g = sym (f refl)
same_answer false true f g = g refl
same_answer false false f g = refl

pub any_party : (day : Day) (n : ℕ) (bank keys : List ℕ) → HasParts day n bank keys → list_any (λ x. is_party_at day n bank (entry_of x)) keys ≡ list_any (is_party day bank) (entries day n)
any_party day n bank keys has = same_answer _ _
    (any_at (is_party day bank) (entries day n) keys)
    (λ h. let at = found_at (is_party day bank) (entries day n) h in named_any (is_party_at day n bank) keys (suc at.number) (has (suc at.number) at.passes) at.passes)

-- the keys from the place of the first key to that of the last
pub between_of : (items keys view part : List ℕ) (n b x y i j : ℕ) → items ≡ view → keys ≡ items → IsSorted nat_cmp items → x ≡ key n b 0 → y ≡ key n b 65535
    → (IsSorted nat_cmp keys → IsPlace keys x i) → (IsSorted nat_cmp keys → IsPlace keys y j) → part ≡ take (j - i) (drop i keys)
    → (k : ℕ) → k < 65535 → is_listed view (key n b k) ≡ true → names_entry part k ≡ true
between_of items keys view part n b x y i j seen same sorted first last low high is k small h =
    ap (λ xs. names_entry xs k) is
    ∙ entry_between keys n b i j (subst (λ z. IsPlace keys z i) first (low up)) (subst (λ z. IsPlace keys z j) last (high up)) k small
    (ap (λ xs. is_listed xs (key n b k)) (same ∙ seen) ∙ h)
  where
    up : IsSorted nat_cmp keys
    up = subst (IsSorted nat_cmp) (sym same) sorted
