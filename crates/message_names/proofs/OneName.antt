-- Keys that are those of names: the names come back from them, first keys are first names, and one more name is one more key.
use Rattle.std.proofs.Common.{◌≡◌, ℕ, ◌<◌, true, List, [], ◌∷◌, ◌++◌, Option, length, get_or, ap, sym, ◌∙◌, subst, arith, inl, inr}
use Rattle.std.specs.Prelude.{IsTrue}
use Rattle.std.specs.Cmp.Lexicographic.{bytes_decides}
use Rattle.std.proofs.lemmas.Bool.{cases_lt}
use Rattle.std.proofs.lemmas.List.{get_or-map, get_or_append_left, get_or_push, length-map, length_push, map-append, same_lists}
use Rattle.cash_amounts.specs.Names.{is_name}
use Rattle.cash_amounts.specs.Tests.{same_name}
use Rattle.first_of_key.specs.declared.key.Key.{Key}
use Rattle.first_of_key.specs.First.{IsFirstOf, key_at, no_key}
use Rattle.message_names.specs.Names.{first_named}
use Rattle.message_names.specs.Packing.{text_of}
use Rattle.message_names.specs.Stored.{AreKeys, names_in, sender_key}
use Rattle.message_names.proofs.TextLemmas.{sender_back}
use Rattle.message_names.proofs.PackedNames.{sender_apart}
use Rattle.message_names.proofs.PlaceLemmas.{first_is}

module _ (names : List (List ℕ)) (keys : List Key) (p : AreKeys names keys) where
  long : length keys ≡ length names
  long = ap length p.keys_are ∙ length-map names sender_key

  at : (i : ℕ) (d : List ℕ) → i < length names → key_at keys i ≡ sender_key (get_or names i d)
  at i d within = ap (λ ks. key_at ks i) p.keys_are ∙ get_or-map sender_key names i d no_key within

  pub back : names_in keys ≡ names
  back = same_lists (names_in keys) names (length-map keys (λ (key : Key). text_of key.words) ∙ long)
      (λ k d within. let low : k < length names = omega (arith, length-map keys (λ (key : Key). text_of key.words), long) in
      get_or-map (λ (key : Key). text_of key.words) keys k no_key d (omega (arith, long))
      ∙ (ap (λ (key : Key). text_of key.words) (at k d low) ∙ sender_back (get_or names k d) (p.texts k d low)))

  pub first : (name : List ℕ) (r : Option ℕ) → is_name name ≡ true → IsFirstOf keys (sender_key name) r → r ≡ first_named names name
  first name r fine is = first_is (λ own. same_name own name) names [] keys (sender_key name) r long
      (λ i within e. (bytes_decides (get_or names i []) name).1 (sender_apart (get_or names i []) name (p.texts i [] within) fine (sym (at i [] within) ∙ e)))
      (λ i within e. at i [] within ∙ ap sender_key ((bytes_decides (get_or names i []) name).0 e)) is

  more : (name : List ℕ) → is_name name ≡ true → AreKeys (names ++ name ∷ []) (keys ++ sender_key name ∷ [])
  more name fine = record {
    keys_are = ap (λ ks. ks ++ sender_key name ∷ []) p.keys_are ∙ sym (map-append sender_key names (name ∷ []));
    texts = λ k d within. elim (cases_lt k (length names)) [
      | inl lt ↦ subst (λ own. IsTrue (is_name own)) (sym (get_or_append_left names (name ∷ []) d k lt)) (p.texts k d lt)
      | inr ge ↦ let last : length names ≡ k = omega (arith, length_push names name) in subst (λ own. IsTrue (is_name own)) (sym (get_or_push names name d k last)) fine
    ];
  }

-- ---- what is stored with one more name

pub record AreMore (names : List (List ℕ)) (name : List ℕ) (keys : List Key) : Type 0 where
  pub view : names_in keys ≡ names ++ name ∷ []
  pub packed : AreKeys (names_in keys) keys

pub are_more : (names : List (List ℕ)) (keys : List Key) → AreKeys names keys → (name : List ℕ) (new : List Key) → is_name name ≡ true → new ≡ keys ++ sender_key name ∷ [] → AreMore names name new
are_more names keys p name new fine is =
    let now : AreKeys (names ++ name ∷ []) new = subst (λ ks. AreKeys (names ++ name ∷ []) ks) (sym is) (more names keys p name fine) in
    let view = back (names ++ name ∷ []) new now in
    record { view = view; packed = subst (λ ns. AreKeys ns new) (sym view) now }
