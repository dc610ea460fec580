-- What a disk has while a piece is appended.
use Rattle.std.proofs.Common.{◌≡◌, ◌≢◌, ◌⊎◌, inl, inr, ⊎_elim, ℕ, zero, suc, ◌+◌, ◌<◌, ◌≤◌, true, false, List, [], ◌∷◌, ◌++◌, length, take, drop, Bool, not, Result, Ok, Err, refl, sym, ap, subst, ◌∙◌, arith, append_assoc, length-drop}
use Rattle.std.specs.Prelude.{nat_eq, nat_lt, if◌then◌else◌, OnOk, IsErr, is_ok}
use Rattle.std.proofs.Math.Seq.{take-add}
use Rattle.std.proofs.lemmas.Bool.{lt-ltb, le-ltb}
use Rattle.std.proofs.lemmas.List.{length-append, length-take-le, take-append-drop, take_at, drop_at, drop-drop}
use Rattle.disk_model.specs.Crashes.{AddsNone, Elapses, Follows, Only, Torn, overwritten}
use Rattle.disk_model.specs.Cut.{once}
use Rattle.disk_model.specs.Runs.{LeavesOnly}
use Rattle.disk_model.proofs.RunFacts.{goes_on, started, then_run}
use Rattle.gated_disk.specs.Gates.{HasGrown, MayHaveGrown, RunsOn, appended_by, is_closed}

pub failed_is : {T E : Type 0} (result : Result T E) → IsErr result → is_ok result ≡ false
failed_is (Ok value) failed = absurd (cc)
failed_is (Err fault) failed = refl

-- ---- gates

pub gate_is : (bytes : List ℕ) → is_closed bytes ≡ true → (gate : ℕ) × (rest : List ℕ) × (bytes ≡ gate ∷ rest) × (gate ≢ 1)
gate_is [] h = absurd (cc)
gate_is (gate ∷ rest) h = (gate, rest, refl, λ is. clash (nat_eq gate 1) (ap (λ (n : ℕ). nat_eq n 1) is) h)
  where
    clash : (b : Bool) → b ≡ true → not b ≡ true → ⊥
    clash true is h = absurd (cc)
    clash false is h = absurd (cc)

-- ---- runs

-- what is left has a weaker property too
pub leaves_weaker : {D : Type 0} (clock : D → ℕ) (since : D → ℕ → List ℕ → Type 0) (old new : D) (P Q : List ℕ → Type 0) → LeavesOnly clock since old new P → ((c : List ℕ) → P c → Q c) → LeavesOnly clock since old new Q
leaves_weaker clock since old new P Q run weaker = record {
  later = run.later;
  each = λ c left. weaker c (run.each c left);
  before = λ t c low left. ⊎_elim (λ was. inl was) (λ p. inr (weaker c p)) (run.before t c low left);
}

-- ---- what holds where a call succeeds

pub on_ok : {T E : Type 0} (result : Result T E) (P Q : Type 0) → (P → Q) → OnOk result P → OnOk result Q
on_ok (Ok value) P Q step so = step so
on_ok (Err fault) P Q step so = tt

pub on_any : {T E : Type 0} (result : Result T E) (P : Type 0) → P → OnOk result P
on_any (Ok value) P so = so
on_any (Err fault) P so = tt

-- ---- torn bytes

pub torn_none : (at n : ℕ) (bytes : List ℕ) → Torn at n bytes bytes
torn_none at n bytes = record { before = refl; behind = λ _. refl; no_shorter = omega arith }

-- ---- after a closed gate

-- bytes that agree up to a place within both, and have something there
split_at : (end : ℕ) (bytes : List ℕ) → end < length bytes → (gate : ℕ) × (bytes ≡ take end bytes ++ gate ∷ drop (end + 1) bytes)
split_at end bytes inside = here (drop end bytes) refl
  where
    here : (xs : List ℕ) → drop end bytes ≡ xs → (gate : ℕ) × (bytes ≡ take end bytes ++ gate ∷ drop (end + 1) bytes)
    here [] h = absurd (omega (arith, inside, ap length h, length-drop end bytes))
    here (gate ∷ rest) h =
        let behind : drop (end + 1) bytes ≡ rest = sym (drop-drop 1 end bytes) ∙ ap (drop 1) h in
        (gate, sym (take-append-drop end bytes) ∙ ap (λ (ys : List ℕ). take end bytes ++ ys) (h ∙ ap (λ (ys : List ℕ). gate ∷ ys) (sym behind)))

-- a torn write after the gate leaves the gate as it was
pub torn_behind : (end n : ℕ) (seen piece c : List ℕ) → is_closed (drop end seen) ≡ true → Torn (end + 1) n seen c → MayHaveGrown (take end seen) piece c
torn_behind end n seen piece c shut torn =
    let gate = gate_is (drop end seen) shut in
    let front : take (end + 1) seen ≡ take end seen ++ gate.0 ∷ [] = take-add end 1 seen ∙ ap (λ (xs : List ℕ). take end seen ++ take 1 xs) gate.2 in
    record {
      gate = gate.0;
      rest = drop (end + 1) c;
      bytes_are = sym (take-append-drop (end + 1) c) ∙ ap (λ (xs : List ℕ). xs ++ drop (end + 1) c) (torn.before ∙ front) ∙ append_assoc (take end seen) (gate.0 ∷ []) (drop (end + 1) c);
      whole = λ is. absurd (gate.3 is);
    }

-- what stands there once a piece is written after the gate
pub written_behind : (end : ℕ) (seen piece : List ℕ) → is_closed (drop end seen) ≡ true → (gate : ℕ) × (tail : List ℕ) × (overwritten (end + 1) piece seen ≡ take end seen ++ gate ∷ (piece ++ tail)) × (length (take end seen) ≡ end)
written_behind end seen piece shut =
    let gate = gate_is (drop end seen) shut in
    let front : take (end + 1) seen ≡ take end seen ++ gate.0 ∷ [] = take-add end 1 seen ∙ ap (λ (xs : List ℕ). take end seen ++ take 1 xs) gate.2 in
    let tail : List ℕ = drop (end + 1 + length piece) seen in
    let inside : end ≤ length seen = omega (arith, ap length gate.2, length-drop end seen) in
    (gate.0, tail, append_assoc (take (end + 1) seen) piece tail ∙ ap (λ (xs : List ℕ). xs ++ (piece ++ tail)) front ∙ append_assoc (take end seen) (gate.0 ∷ []) (piece ++ tail), length-take-le end seen inside)

-- the gate that is opened then may be any byte; all else stays
pub torn_gate : (end : ℕ) (front seen piece tail c : List ℕ) (gate : ℕ) → length front ≡ end → seen ≡ front ++ gate ∷ (piece ++ tail) → Torn end 1 seen c → MayHaveGrown front piece c
torn_gate end front seen piece tail c gate long is torn =
    let there : take end seen ≡ front = ap (take end) is ∙ take_at front (gate ∷ (piece ++ tail)) end long in
    let behind : drop (end + 1) seen ≡ piece ++ tail = sym (drop-drop 1 end seen) ∙ ap (λ (xs : List ℕ). drop 1 (drop end xs)) is ∙ ap (drop 1) (drop_at front (gate ∷ (piece ++ tail)) end long) in
    let there_is : end + 1 ≤ length seen = omega (arith, ap length is, length-append front (gate ∷ (piece ++ tail)), long) in
    let inside : end < length c = omega (arith, there_is, torn.no_shorter) in
    let parts = split_at end c inside in
    record {
      gate = parts.0;
      rest = piece ++ tail;
      bytes_are = parts.1 ∙ (λ i. (torn.before ∙ there) i ++ parts.0 ∷ (torn.behind there_is ∙ behind) i);
      whole = λ open_gate. (tail, refl);
    }

pub opened : (end : ℕ) (front seen piece tail : List ℕ) (gate : ℕ) → length front ≡ end → seen ≡ front ++ gate ∷ (piece ++ tail) → overwritten end (1 ∷ []) seen ≡ front ++ 1 ∷ (piece ++ tail)
opened end front seen piece tail gate long is =
    let there : take end seen ≡ front = ap (take end) is ∙ take_at front (gate ∷ (piece ++ tail)) end long in
    let behind : drop (end + 1) seen ≡ piece ++ tail = sym (drop-drop 1 end seen) ∙ ap (λ (xs : List ℕ). drop 1 (drop end xs)) is ∙ ap (drop 1) (drop_at front (gate ∷ (piece ++ tail)) end long) in
    append_assoc (take end seen) (1 ∷ []) (drop (end + 1) seen) ∙ (λ i. there i ++ 1 ∷ behind i)

-- ---- one call

pub once_first : (k : ℕ) (old a b : List ℕ) → k < 1 → once old a k ≡ once old b k
once_first zero old a b low = refl
once_first (suc k) old a b low = absurd (omega (arith, low))

pub once_later : (k : ℕ) (old new : List ℕ) → 0 < k → once old new k ≡ new
once_later zero old new low = absurd (omega (arith, low))
once_later (suc k) old new low = refl

-- ---- four calls

pub appended_early : (end : ℕ) (piece old : List ℕ) (k : ℕ) → k < 3 → appended_by end piece old k ≡ once old (overwritten (end + 1) piece old) k
appended_early end piece old k low =
    ap (λ (b : Bool). if b then once old (overwritten (end + 1) piece old) k else overwritten end (1 ∷ []) (overwritten (end + 1) piece old)) (lt-ltb k 3 low)

appended_late : (end : ℕ) (piece old : List ℕ) (k : ℕ) → 3 ≤ k → appended_by end piece old k ≡ overwritten end (1 ∷ []) (overwritten (end + 1) piece old)
appended_late end piece old k low =
    ap (λ (b : Bool). if b then once old (overwritten (end + 1) piece old) k else overwritten end (1 ∷ []) (overwritten (end + 1) piece old)) (le-ltb k 3 low)

pub appended_on : (end : ℕ) (piece old : List ℕ) (k : ℕ) → once (overwritten (end + 1) piece old) (overwritten end (1 ∷ []) (overwritten (end + 1) piece old)) k ≡ appended_by end piece old (2 + k)
appended_on end piece old zero = sym (appended_early end piece old (2 + zero) (omega arith) ∙ once_later (2 + zero) old (overwritten (end + 1) piece old) (omega arith))
appended_on end piece old (suc k) = sym (appended_late end piece old (2 + suc k) (omega arith))

-- ---- calls

module _ {D : Type 0} (seen : D → List ℕ) (image : D → List ℕ → Type 0) (clock : D → ℕ) (since : D → ℕ → List ℕ → Type 0) where
  torn_images : (old mid : D) (at n : ℕ) → Only (seen old) (image old) → Follows (Torn at n) (image old) (image mid) → (c : List ℕ) → image mid c → Torn at n (seen old) c
  torn_images old mid at n only images c now =
      let from = images c now in
      subst (λ (d : List ℕ). Torn at n d c) (only from.0 from.1) from.2

  -- a write from a synced disk on
  pub torn_once : (old mid : D) (at n : ℕ) → Only (seen old) (image old) → ((c : List ℕ) → since old (clock old) c → image old c) → Follows (Torn at n) (image old) (image mid) → Elapses seen image clock since old mid → LeavesOnly clock since old mid (Torn at n (seen old))
  torn_once old mid at n only now images call =
      let start : (c : List ℕ) → since old (clock old) c → Torn at n (seen old) c = λ c left. subst (λ (d : List ℕ). Torn at n (seen old) d) (sym (only c (now c left))) (torn_none at n (seen old)) in
      goes_on seen image clock since old old mid (Torn at n (seen old)) (started seen image clock since old (Torn at n (seen old)) start) call (torn_images old mid at n only images)

  -- and a sync after it
  pub torn_synced : (old mid new : D) (at n : ℕ) → Only (seen old) (image old) → ((c : List ℕ) → since old (clock old) c → image old c) → Follows (Torn at n) (image old) (image mid) → Elapses seen image clock since old mid → AddsNone (image mid) (image new) → Elapses seen image clock since mid new → LeavesOnly clock since old new (Torn at n (seen old))
  torn_synced old mid new at n only now images call none sync =
      goes_on seen image clock since old mid new (Torn at n (seen old)) (torn_once old mid at n only now images call) sync (λ c left. torn_images old mid at n only images c (none c left))

  -- the piece is put down after the gate
  pub grown_once : (old mid : D) (end n : ℕ) (piece : List ℕ) → is_closed (drop end (seen old)) ≡ true → LeavesOnly clock since old mid (Torn (end + 1) n (seen old)) → LeavesOnly clock since old mid (MayHaveGrown (take end (seen old)) piece)
  grown_once old mid end n piece shut run = leaves_weaker clock since old mid (Torn (end + 1) n (seen old)) (MayHaveGrown (take end (seen old)) piece) run (λ c torn. torn_behind end n (seen old) piece c shut torn)

  -- and the gate is opened
  pub grown_whole : (old mid new : D) (end n : ℕ) (piece : List ℕ) → is_closed (drop end (seen old)) ≡ true → LeavesOnly clock since old mid (Torn (end + 1) n (seen old)) → seen mid ≡ overwritten (end + 1) piece (seen old) → LeavesOnly clock since mid new (Torn end 1 (seen mid)) →
      LeavesOnly clock since old new (MayHaveGrown (take end (seen old)) piece)
  grown_whole old mid new end n piece shut first is second =
      let parts = written_behind end (seen old) piece shut in
      then_run seen image clock since old mid new (MayHaveGrown (take end (seen old)) piece) (Torn end 1 (seen mid)) (grown_once old mid end n piece shut first) second
      (λ c torn. torn_gate end (take end (seen old)) (seen mid) piece parts.1 c parts.0 parts.3 (is ∙ parts.2) torn)

  pub has_grown : (old mid new : D) (end : ℕ) (piece : List ℕ) → is_closed (drop end (seen old)) ≡ true → seen mid ≡ overwritten (end + 1) piece (seen old) → seen new ≡ overwritten end (1 ∷ []) (seen mid) → HasGrown (take end (seen old)) piece (seen new)
  has_grown old mid new end piece shut is opening =
      let parts = written_behind end (seen old) piece shut in
      (parts.1, opening ∙ opened end (take end (seen old)) (seen mid) piece parts.1 parts.0 parts.3 (is ∙ parts.2))

  pub piece_inside : (old : D) (end : ℕ) → is_closed (drop end (seen old)) ≡ true → end + 1 ≤ length (seen old)
  piece_inside old end shut =
      let gate = gate_is (drop end (seen old)) shut in
      omega (arith, ap length gate.2, length-drop end (seen old))

  pub gate_inside : (old mid : D) (end : ℕ) (piece : List ℕ) → is_closed (drop end (seen old)) ≡ true → seen mid ≡ overwritten (end + 1) piece (seen old) → end ≤ length (seen mid)
  gate_inside old mid end piece shut is =
      let parts = written_behind end (seen old) piece shut in
      omega (arith, ap length (is ∙ parts.2), length-append (take end (seen old)) (parts.0 ∷ (piece ++ parts.1)), parts.3)

-- ---- what a crash may have left since some time

module _ {D : Type 0} (seen : D → List ℕ) (image : D → List ℕ → Type 0) (clock : D → ℕ) (since : D → ℕ → List ℕ → Type 0) where
  -- one call
  pub runs_once : (old new : D) → ((t : ℕ) (c : List ℕ) → t ≤ clock new → image new c → since new t c) → Elapses seen image clock since old new → RunsOn clock since old new
  runs_once old new now call = record {
    later = call.later;
    keeps = call.keeps;
    nothing_else = λ t s c low before left. ⊎_elim (λ was. inl was) (λ is. inr (now s c (omega (arith, before, call.later)) is)) (call.nothing_else t c low left);
  }

module _ {D : Type 0} (clock : D → ℕ) (since : D → ℕ → List ℕ → Type 0) where
  -- some calls, and then others
  pub runs_on : (old mid new : D) → RunsOn clock since old mid → RunsOn clock since mid new → RunsOn clock since old new
  runs_on old mid new first second = record {
    later = omega (arith, first.later, second.later);
    keeps = λ t c low left. second.keeps t c (omega (arith, low, first.later)) (first.keeps t c low left);
    nothing_else = λ t s c low before left. ⊎_elim
        (λ was. ⊎_elim (λ older. inl older) (λ meanwhile. inr (second.keeps s c (omega (arith, before, first.later)) meanwhile)) (first.nothing_else t s c low before was))
        (λ after. inr after)
        (second.nothing_else t s c (omega (arith, low, first.later)) (omega (arith, before, first.later)) left);
  }
