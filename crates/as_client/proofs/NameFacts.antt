-- Names by first mention, one name further.
use Rattle.std.proofs.Common.{◌≡◌, ℕ, Bool, true, false, not, cond, List, [], ◌∷◌, ◌++◌, filter, refl, ap, ◌∙◌, sym, append_assoc, if◌then◌else◌}
use Rattle.std.specs.Map.{keys_of}
use Rattle.std.proofs.lemmas.Grind.{flat_map-append}
use Rattle.indexmap.specs.IndexMap.{insert_entry}
use Rattle.cash_amounts.specs.Tests.{same_name}
use Rattle.account_book.proofs.SoundLemmas.{same_names}
use Rattle.as_client.specs.declared.trade.Trade.{Trade}
use Rattle.as_client.specs.Netting.{accounts_of, each_once, mentions}
use Rattle.as_client.specs.Turnovers.{with_name}

-- the keys after an entry is put into a map
pub keys-insert : {V : Type 0} (es : List (List ℕ × V)) (n : List ℕ) (v : V) → keys_of (insert_entry same_name es n v) ≡ with_name (keys_of es) n
keys-insert [] n v = refl
keys-insert (e ∷ es) n v = by (same_name n e.0) (keys-insert es n v)
  where
    by : (b : Bool) → keys_of (insert_entry same_name es n v) ≡ with_name (keys_of es) n
        → keys_of (if b then (e.0, v) ∷ es else e ∷ insert_entry same_name es n v) ≡ (if b then e.0 ∷ keys_of es else e.0 ∷ with_name (keys_of es) n)
    by true h = refl
    by false h = ap (λ ks. e.0 ∷ ks) h

abbrev pub without : List ℕ → List (List ℕ) → List (List ℕ)
without x names = filter (λ other. not (same_name other x)) names

without-with_name : (x n : List ℕ) (names : List (List ℕ)) → without x (with_name names n) ≡ (if same_name n x then without x names else with_name (without x names) n)
without-with_name x n [] = by (same_name n x)
  where
    by : (b : Bool) → cond (not b) (n ∷ []) [] ≡ (if b then [] else n ∷ [])
    by true = refl
    by false = refl
without-with_name x n (k ∷ names) = by (same_name n k) (same_name n x) (same_name k x) refl refl refl (without-with_name x n names)
  where
    by : (b c d : Bool) → same_name n k ≡ b → same_name n x ≡ c → same_name k x ≡ d
        → without x (with_name names n) ≡ (if same_name n x then without x names else with_name (without x names) n)
        → without x (with_name (k ∷ names) n) ≡ (if same_name n x then without x (k ∷ names) else with_name (without x (k ∷ names)) n)
    by true true d e f g h = simp (e, f)
    by true false true e f g h = let same = ap (λ m. same_name m x) (same_names n k e) in cc
    by true false false e f g h = simp (e, f, g)
    by false true d e f g h = let rest : without x (with_name names n) ≡ without x names = simp f at h in simp (e, f, rest)
    by false false true e f g h = let rest : without x (with_name names n) ≡ with_name (without x names) n = simp f at h in simp (e, f, g, rest)
    by false false false e f g h = let rest : without x (with_name names n) ≡ with_name (without x names) n = simp f at h in simp (e, f, g, rest)

pub each_once-more : (names : List (List ℕ)) (n : List ℕ) → each_once (names ++ n ∷ []) ≡ with_name (each_once names) n
each_once-more [] n = refl
each_once-more (x ∷ names) n =
    ap (λ ks. x ∷ without x ks) (each_once-more names n) ∙ ap (λ ks. x ∷ ks) (without-with_name x n (each_once names)) ∙ by (same_name n x)
  where
    by : (b : Bool) → x ∷ (if b then without x (each_once names) else with_name (without x (each_once names)) n)
        ≡ (if b then x ∷ without x (each_once names) else x ∷ with_name (without x (each_once names)) n)
    by true = refl
    by false = refl

-- the accounts of one trade more
pub accounts-more : (trades : List Trade) (t : Trade) → accounts_of (trades ++ t ∷ []) ≡ with_name (with_name (accounts_of trades) t.payer) t.payee
accounts-more trades t =
    ap each_once (flat_map-append (λ (t : Trade). t.payer ∷ t.payee ∷ []) trades (t ∷ [])) ∙ ap each_once (sym (append_assoc (mentions trades) (t.payer ∷ []) (t.payee ∷ [])))
    ∙ each_once-more (mentions trades ++ t.payer ∷ []) t.payee ∙ ap (λ ks. with_name ks t.payee) (each_once-more (mentions trades) t.payer)
