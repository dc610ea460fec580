-- Keys that are those of names: the names come back from them, first keys are first names, and one more name is one more key.
use Rattle.std.proofs.Common.{◌≡◌, ℕ, ◌+◌, ◌<◌, Bool, true, false, cond, List, [], ◌∷◌, ◌++◌, Option, None, Some, length, map, drop, get_or, refl, ap, sym, ◌∙◌, subst, arith, inl, inr}
use Rattle.std.specs.Prelude.{slice_index, unwrap_or}
use Rattle.std.specs.List.{position_from}
use Rattle.std.specs.Option.{option_or}
use Rattle.std.specs.Cmp.Lexicographic.{bytes_decides}
use Rattle.std.proofs.lemmas.Bool.{and_from, and_left, and_parts, cases_lt}
use Rattle.std.proofs.lemmas.List.{get_or-map, get_or_append_left, get_or_push, length-map, length_push, map-append, same_lists}
use Rattle.cash_amounts.specs.Names.{is_id, is_name}
use Rattle.cash_amounts.specs.Tests.{same_name}
use Rattle.first_of_key.specs.declared.key.Key.{Key}
use Rattle.first_of_key.specs.First.{IsFirstOf, key_at, no_key}
use Rattle.message_names.specs.Names.{MessageName, first_of, is_called, is_from}
use Rattle.message_names.specs.Packing.{text_of, words_from}
use Rattle.message_names.specs.Stored.{ArePacked, IsName, first_from, name_in, name_key, sender_key}
use Rattle.message_names.proofs.TextLemmas.{id_back, sender_back}
use Rattle.message_names.proofs.PlaceLemmas.{first_is, none_at, none_passes, one_more, placed}

-- ---- keys tell names apart

pub sender_apart : (a b : List ℕ) → is_name a ≡ true → is_name b ≡ true → sender_key a ≡ sender_key b → a ≡ b
sender_apart a b p q e = sym (sender_back a p) ∙ (ap (λ (k : Key). text_of k.words) e ∙ sender_back b q)

id_apart : (i j : ℕ) (a b : List ℕ) → is_id a ≡ true → is_id b ≡ true → name_key i a ≡ name_key j b → a ≡ b
id_apart i j a b p q e = sym (id_back a p) ∙ (ap (λ (k : Key). text_of (drop 1 k.words)) e ∙ id_back b q)

number_apart : (i j : ℕ) (a b : List ℕ) → name_key i a ≡ name_key j b → i ≡ j
number_apart i j a b e = ap (λ (k : Key). slice_index k.words 0) e

-- ---- the first name with a sender

itself : (s : List ℕ) → same_name s s ≡ true
itself s = (bytes_decides s s).1 refl

-- where it isn't the next one, it has this sender
from_is : (names : List MessageName) (s : List ℕ) (d : MessageName) → first_from names s < length names → (get_or names (first_from names s) d).sender ≡ s
from_is names s d low = by (position_from (is_from s) 0 names) refl low
  where
    by : (o : Option ℕ) → position_from (is_from s) 0 names ≡ o → unwrap_or o (length names) < length names → (get_or names (unwrap_or o (length names)) d).sender ≡ s
    by None e low = absurd (omega arith)
    by (Some n) e low = (bytes_decides (get_or names n d).sender s).0 (placed (is_from s) names d n e).passes

from_low : (names : List MessageName) (i : ℕ) (d : MessageName) → i < length names → first_from names (get_or names i d).sender < length names
from_low names i d within = by (position_from (is_from (get_or names i d).sender) 0 names) refl
  where
    by : (o : Option ℕ) → position_from (is_from (get_or names i d).sender) 0 names ≡ o → unwrap_or o (length names) < length names
    by None e = let clash : true ≡ false = sym (itself (get_or names i d).sender) ∙ none_passes (is_from (get_or names i d).sender) 0 names d e i within in cc
    by (Some n) e = (placed (is_from (get_or names i d).sender) names d n e).within

-- one more name leaves it, unless it would be the first
from_more : (names : List MessageName) (n : MessageName) (s : List ℕ) → (position_from (is_from s) 0 names ≡ None → is_from s n ≡ true) → first_from (names ++ n ∷ []) s ≡ first_from names s
from_more names n s own =
    ap (λ o. unwrap_or o (length (names ++ n ∷ []))) (one_more (is_from s) 0 names n)
    ∙ by (position_from (is_from s) 0 names) (is_from s n) own
  where
    by : (o : Option ℕ) (b : Bool) → (o ≡ None → b ≡ true) → unwrap_or (option_or o (cond b (Some (0 + length names)) None)) (length (names ++ n ∷ [])) ≡ unwrap_or o (length names)
    by (Some k) b h = refl
    by None true h = omega arith
    by None false h = let clash : false ≡ true = h refl in cc

module _ (names : List MessageName) (senders ids : List Key) (p : ArePacked names senders ids) where
  pub senders_long : length senders ≡ length names
  senders_long = ap length p.senders_are ∙ length-map names (λ (name : MessageName). sender_key name.sender)

  pub ids_long : length ids ≡ length names
  ids_long = ap length p.ids_are ∙ length-map names (λ (name : MessageName). name_key (first_from names name.sender) name.id)

  sender_at : (i : ℕ) (d : MessageName) → i < length names → key_at senders i ≡ sender_key (get_or names i d).sender
  sender_at i d within = ap (λ keys. key_at keys i) p.senders_are ∙ get_or-map (λ (name : MessageName). sender_key name.sender) names i d no_key within

  id_at : (i : ℕ) (d : MessageName) → i < length names → key_at ids i ≡ name_key (first_from names (get_or names i d).sender) (get_or names i d).id
  id_at i d within = ap (λ keys. key_at keys i) p.ids_are ∙ get_or-map (λ (name : MessageName). name_key (first_from names name.sender) name.id) names i d no_key within

  -- ---- back

  back_at : (i : ℕ) (d : MessageName) → i < length names → name_in senders (key_at ids i) ≡ get_or names i d
  back_at i d within =
      let own = get_or names i d in
      let low = from_low names i d within in
      let key = id_at i d within in
      let fine = p.texts i d within in
      let sender : text_of (key_at senders (first_from names own.sender)).words ≡ own.sender =
      ap (λ (k : Key). text_of k.words) (sender_at (first_from names own.sender) d low)
      ∙ (ap (λ s. text_of (words_from 6 s 0)) (from_is names own.sender d low) ∙ sender_back own.sender fine.sender) in
      let id : text_of (words_from 5 own.id 0) ≡ own.id = id_back own.id fine.id in
      ap (name_in senders) key ∙ (λ k. record { sender = sender k; id = id k })

  pub back : map (name_in senders) ids ≡ names
  back = same_lists (map (name_in senders) ids) names (length-map ids (name_in senders) ∙ ids_long)
      (λ k d within. let low : k < length names = omega (arith, length-map ids (name_in senders), ids_long) in
      get_or-map (name_in senders) ids k no_key d (omega (arith, ids_long)) ∙ back_at k d low)

  -- ---- first keys

  pub first_sender : (s : List ℕ) (d : MessageName) (r : Option ℕ) → is_name s ≡ true → IsFirstOf senders (sender_key s) r → r ≡ position_from (is_from s) 0 names
  first_sender s d r fine = first_is (is_from s) names d senders (sender_key s) r senders_long
      (λ i within e. (bytes_decides (get_or names i d).sender s).1 (sender_apart (get_or names i d).sender s (p.texts i d within).sender fine (sym (sender_at i d within) ∙ e)))
      (λ i within e. sender_at i d within ∙ ap sender_key ((bytes_decides (get_or names i d).sender s).0 e))

  called : (s id : List ℕ) (d : MessageName) (i : ℕ) → is_id id ≡ true → i < length names → key_at ids i ≡ name_key (first_from names s) id → is_called s id (get_or names i d) ≡ true
  called s id d i fine within e =
      let own = get_or names i d in
      let both : name_key (first_from names own.sender) own.id ≡ name_key (first_from names s) id = sym (id_at i d within) ∙ e in
      let number : first_from names own.sender ≡ first_from names s = number_apart (first_from names own.sender) (first_from names s) own.id id both in
      let low = from_low names i d within in
      let sender : own.sender ≡ s = sym (from_is names own.sender d low) ∙ (ap (λ k. (get_or names k d).sender) number ∙ from_is names s d (omega (arith, number, low))) in
      let same : own.id ≡ id = id_apart (first_from names own.sender) (first_from names s) own.id id (p.texts i d within).id fine both in
      and_from (same_name own.sender s) (same_name own.id id) ((bytes_decides own.sender s).1 sender) ((bytes_decides own.id id).1 same)

  pub first_name : (s id : List ℕ) (d : MessageName) (r : Option ℕ) → is_id id ≡ true → IsFirstOf ids (name_key (first_from names s) id) r → r ≡ first_of names s id
  first_name s id d r fine = first_is (is_called s id) names d ids (name_key (first_from names s) id) r ids_long
      (λ i within e. called s id d i fine within e)
      (λ i within e.
      let parts = and_parts (same_name (get_or names i d).sender s) (same_name (get_or names i d).id id) e in
      let sender = (bytes_decides (get_or names i d).sender s).0 parts.0 in
      let same = (bytes_decides (get_or names i d).id id).0 parts.1 in
      id_at i d within ∙ (λ k. name_key (first_from names (sender k)) (same k)))

  -- ---- one more

  abbrev id_key_after : MessageName → MessageName → Key
  id_key_after n name = name_key (first_from (names ++ n ∷ []) name.sender) name.id

  same_after : (n : MessageName) (k : ℕ) (d : MessageName) → k < length names → first_from names (get_or names k d).sender ≡ first_from (names ++ n ∷ []) (get_or names k d).sender
  same_after n k d within = sym (from_more names n (get_or names k d).sender (λ none.
      let clash : true ≡ false = sym (itself (get_or names k d).sender) ∙ none_passes (is_from (get_or names k d).sender) 0 names d none k within in cc))

  ids_after : (n : MessageName) → ids ≡ map (id_key_after n) names
  ids_after n = same_lists ids (map (id_key_after n) names) (ids_long ∙ sym (length-map names (id_key_after n)))
      (λ k e within. let low : k < length names = omega (arith, ids_long) in
      ap (λ keys. get_or keys k e) p.ids_are
      ∙ (get_or-map (λ (name : MessageName). name_key (first_from names name.sender) name.id) names k n e low
      ∙ (ap (λ f. name_key f (get_or names k n).id) (same_after n k n low) ∙ sym (get_or-map (id_key_after n) names k n e low))))

  pub more : (n : MessageName) → IsName n → ArePacked (names ++ n ∷ []) (senders ++ sender_key n.sender ∷ []) (ids ++ name_key (first_from names n.sender) n.id ∷ [])
  more n fine =
      let new : name_key (first_from names n.sender) n.id ≡ id_key_after n n = ap (λ f. name_key f n.id) (sym (from_more names n n.sender (λ none. itself n.sender))) in
      record {
        senders_are = ap (λ keys. keys ++ sender_key n.sender ∷ []) p.senders_are ∙ sym (map-append (λ (name : MessageName). sender_key name.sender) names (n ∷ []));
        ids_are = (λ k. ids_after n k ++ new k ∷ []) ∙ sym (map-append (id_key_after n) names (n ∷ []));
        texts = λ k d within. elim (cases_lt k (length names)) [
          | inl lt ↦ subst IsName (sym (get_or_append_left names (n ∷ []) d k lt)) (p.texts k d lt)
          | inr ge ↦ let last : length names ≡ k = omega (arith, length_push names n) in subst IsName (sym (get_or_push names n d k last)) fine
        ];
      }

-- ---- what is stored with one more name

pub record AreMore (names : List MessageName) (n : MessageName) (senders ids : List Key) : Type 0 where
  pub view : map (name_in senders) ids ≡ names ++ n ∷ []
  pub packed : ArePacked (map (name_in senders) ids) senders ids

module _ (names : List MessageName) (senders ids : List Key) (p : ArePacked names senders ids) (n : MessageName) where
  pub number_is : (r : Option ℕ) (f count : ℕ) → is_name n.sender ≡ true → IsFirstOf senders (sender_key n.sender) r → f ≡ unwrap_or r count → count ≡ length ids → f ≡ first_from names n.sender
  number_is r f count fine first is long =
      is ∙ (λ k. unwrap_or (first_sender names senders ids p n.sender n r fine first k) ((long ∙ ids_long names senders ids p) k))

  pub are_more : (f : ℕ) (senders-now ids-now : List Key) → is_name n.sender ≡ true → is_id n.id ≡ true → senders-now ≡ senders ++ sender_key n.sender ∷ [] → ids-now ≡ ids ++ name_key f n.id ∷ []
      → f ≡ first_from names n.sender → AreMore names n senders-now ids-now
  are_more f senders-now ids-now sender id ss is number =
      let ids_are : ids-now ≡ ids ++ name_key (first_from names n.sender) n.id ∷ [] = is ∙ ap (λ k. ids ++ name_key k n.id ∷ []) number in
      let now : ArePacked (names ++ n ∷ []) senders-now ids-now =
      subst (λ ks. ArePacked (names ++ n ∷ []) ks ids-now) (sym ss)
      (subst (λ ks. ArePacked (names ++ n ∷ []) (senders ++ sender_key n.sender ∷ []) ks) (sym ids_are) (more names senders ids p n (record { sender = sender; id = id }))) in
      let view = back (names ++ n ∷ []) senders-now ids-now now in
      record { view = view; packed = subst (λ ns. ArePacked ns senders-now ids-now) (sym view) now }

  pub first_is_named : (r : Option ℕ) (f : ℕ) → is_id n.id ≡ true → f ≡ first_from names n.sender → IsFirstOf ids (name_key f n.id) r → r ≡ first_of names n.sender n.id
  first_is_named r f fine number first = first_name names senders ids p n.sender n.id n r fine (subst (λ k. IsFirstOf ids (name_key k n.id) r) number first)

  -- where no name has the sender, none is equal
  pub none_named : is_name n.sender ≡ true → IsFirstOf senders (sender_key n.sender) None → None ≡ first_of names n.sender n.id
  none_named fine first =
      let none = sym (first_sender names senders ids p n.sender n None fine first) in
      sym (none_at (is_called n.sender n.id) 0 names n (λ j within. and_left (same_name (get_or names j n).sender n.sender) (same_name (get_or names j n).id n.id) (none_passes (is_from n.sender) 0 names n none j within)))
