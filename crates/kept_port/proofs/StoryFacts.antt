-- What a call does to a port that keeps, and to its story.
use Rattle.std.proofs.Common.{◌≡◌, ◌∙◌, ◌-◌, ◌+◌, ◌++◌, ◌≤◌, ◌<◌, ◌⊎◌, inl, inr, ℕ, List, [], Option, Some, None, Result, Ok, Err, ap, sym, refl, subst, arith, append-nil, drop, take, length}
use Rattle.std.proofs.lemmas.Bool.{cases_lt}
use Rattle.std.proofs.lemmas.List.{drop-append-le, length-take, take-append-le}
use Rattle.std.proofs.Math.ListN.{drop_of_length-le}
use Rattle.std.proofs.Math.Seq.{drop-append-add, take-length}
use Rattle.std.proofs.KnownBytes.{Appends-nil, Appends-trans, Consumes-kept, Consumes-nil, Consumes-trans}
use Rattle.std.specs.Io.KnownBytes.{Appends, Consumes, Keeps}
use Rattle.outside_io.specs.Pieces.{SinkState}
use Rattle.outside_io.specs.Ports.{Asks}
use Rattle.outside_io.specs.GhostTexts.{bytes_of}
use Rattle.kept_port.specs.Keepers.{Grows, WritesBehind, handed_on, keeper_state}
use Rattle.kept_port.specs.Stories.{Flows, GrewFrom, IsSince, first_of}
use Rattle.kept_port.specs.declared.log.Log.{Ghosts}
use Rattle.kept_port.specs.declared.keeper.Keeper.{Keeper}
use Rattle.kept_port.specs.declared.story.Story.{Story, Begins, Asked', Wrote'}

-- ---- texts

drop_split : (s : ℕ) (t x : List ℕ) → drop s (t ++ x) ≡ drop s t ++ drop (s - length t) x
drop_split s t x = by (cases_lt s (length t))
  where
    by : ((s < length t) ⊎ (length t ≤ s)) → drop s (t ++ x) ≡ drop s t ++ drop (s - length t) x
    by (inl less) =
        let none : s - length t ≡ 0 = omega (arith, less) in
        drop-append-le s t x (omega (arith, less)) ∙ ap (λ (n : ℕ). drop s t ++ drop n x) (sym none)
    by (inr more) =
        let all : s ≡ length t + (s - length t) = omega (arith, more) in
        ap (λ (n : ℕ). drop n (t ++ x)) all ∙ drop-append-add t x (s - length t) ∙ ap (λ (l : List ℕ). l ++ drop (s - length t) x) (sym (drop_of_length-le t more))

grew_more : (a b x : List ℕ) → GrewFrom a b → GrewFrom a (b ++ x)
grew_more a b x grew = take-append-le (length a) b x within ∙ grew
  where
    within : length a ≤ length b
    within =
        let long : length (take (length a) b) ≡ length a = ap (length {A = ℕ}) grew in
        omega (arith, long, length-take (length a) b)

pub grew_same : (old new : List ℕ) → new ≡ old → GrewFrom old new
grew_same old new same = subst (GrewFrom old) (sym same) (take-length old)

-- ---- what a call does

module _ {P L : Type 0} {log : Ghosts L} (state : P → SinkState) where
  -- how it is at first
  pub since_first : (first : Keeper P L log) → bytes_of first.told ≡ [] → handed_on first ≡ [] → IsSince state first first
  since_first first told handed = record {
    skip = refl;
    real = subst (Appends (state first.below).written (state first.below).written) (sym (ap (drop first.all_skip) told ∙ drop_none first.all_skip)) (Appends-nil (state first.below).written);
    left = subst (Consumes (keeper_state state first).reading.left (keeper_state state first).reading.left) (sym handed) (Consumes-nil (keeper_state state first).reading.left);
  }
    where
      drop_none : (n : ℕ) → drop {A = ℕ} n [] ≡ []
      drop_none n = drop_of_length-le [] (omega arith)

  -- after a write
  pub since_write : {E : Type 0} (first old new : Keeper P L log) (result : Result ℕ E) (piece : List ℕ)
      → IsSince state first old → new.all_skip ≡ old.all_skip → handed_on new ≡ handed_on old
      → (keeper_state state new).reading ≡ (keeper_state state old).reading
      → Grows (bytes_of old.told) (bytes_of new.told) result piece
      → WritesBehind state old.skip old new result piece
      → IsSince state first new
  since_write first old new (Ok n) piece since skip handed reading grows real = record {
    skip = skip ∙ since.skip;
    real = subst (Appends (state first.below).written (state new.below).written) joined (Appends-trans (state first.below).written (state old.below).written (state new.below).written (drop first.all_skip (bytes_of old.told)) (drop old.skip (take n piece)) since.real real);
    left = subst (λ r. Consumes (keeper_state state first).reading.left r (handed_on new)) (sym (ap (λ r. r.left) reading)) (subst (Consumes (keeper_state state first).reading.left (keeper_state state old).reading.left) (sym handed) since.left);
  }
    where
      rest : old.skip ≡ first.all_skip - length (bytes_of old.told)
      rest = old.skipping ∙ ap (λ (s : ℕ). s - length (bytes_of old.told)) since.skip

      joined : drop first.all_skip (bytes_of old.told) ++ drop old.skip (take n piece) ≡ drop first.all_skip (bytes_of new.told)
      joined = ap (λ (s : ℕ). drop first.all_skip (bytes_of old.told) ++ drop s (take n piece)) rest ∙ sym (drop_split first.all_skip (bytes_of old.told) (take n piece)) ∙ ap (drop first.all_skip) (sym grows)
  since_write first old new (Err e) piece since skip handed reading grows real = record {
    skip = skip ∙ since.skip;
    real = subst (Appends (state first.below).written (state new.below).written) (ap (drop first.all_skip) (sym grows)) (kept_on (state first.below).written (state old.below).written (state new.below).written (drop first.all_skip (bytes_of old.told)) since.real real);
    left = subst (λ r. Consumes (keeper_state state first).reading.left r (handed_on new)) (sym (ap (λ r. r.left) reading)) (subst (Consumes (keeper_state state first).reading.left (keeper_state state old).reading.left) (sym handed) since.left);
  }
    where
      kept_on : (a b c : Option (List ℕ)) (x : List ℕ) → Appends a b x → Keeps b c → Appends a c x
      kept_on None b c x p q = tt
      kept_on (Some y) None c x p q = absurd p
      kept_on (Some y) (Some z) None x p q = absurd q
      kept_on (Some y) (Some z) (Some w) x p q = q ∙ p

  -- after a read
  pub since_read : {E : Type 0} (first old new : Keeper P L log) (result : Result ℕ E) (buf : List ℕ)
      → IsSince state first old → new.all_skip ≡ old.all_skip → bytes_of new.told ≡ bytes_of old.told
      → (state new.below).written ≡ (state old.below).written
      → Grows (handed_on old) (handed_on new) result buf
      → Asks (keeper_state state old) (keeper_state state new) result buf
      → IsSince state first new
  since_read first old new (Ok n) buf since skip told written grows asks = record {
    skip = skip ∙ since.skip;
    real = subst (λ w. Appends (state first.below).written w (drop first.all_skip (bytes_of new.told))) (sym written) (subst (Appends (state first.below).written (state old.below).written) (ap (drop first.all_skip) (sym told)) since.real);
    left = subst (Consumes (keeper_state state first).reading.left (keeper_state state new).reading.left) (sym grows) (Consumes-trans (keeper_state state first).reading.left (keeper_state state old).reading.left (keeper_state state new).reading.left (handed_on old) (take n buf) since.left asks.bytes.0);
  }
  since_read first old new (Err e) buf since skip told written grows asks = record {
    skip = skip ∙ since.skip;
    real = subst (λ w. Appends (state first.below).written w (drop first.all_skip (bytes_of new.told))) (sym written) (subst (Appends (state first.below).written (state old.below).written) (ap (drop first.all_skip) (sym told)) since.real);
    left = subst (Consumes (keeper_state state first).reading.left (keeper_state state new).reading.left) (sym grows) (Consumes-kept (keeper_state state first).reading.left (keeper_state state old).reading.left (keeper_state state new).reading.left (handed_on old) since.left asks.bytes);
  }

  -- ---- and the story before it

  pub flows_on : (first old new : Keeper P L log) (x : List ℕ) (story : Story (Keeper P L log)) → bytes_of new.told ≡ bytes_of old.told ++ x → handed_on new ≡ handed_on old → Flows state first old story → Flows state first new story
  flows_on first old new x (Begins start) told handed flows = tt
  flows_on first old new x (Asked' marker before then) told handed flows =
      (flows.0, subst (GrewFrom (bytes_of then.value.told)) (sym told) (grew_more (bytes_of then.value.told) (bytes_of old.told) x flows.1), flows.2)
  flows_on first old new x (Wrote' marker before then) told handed flows =
      (flows.0, subst (GrewFrom (bytes_of then.value.told)) (sym told) (grew_more (bytes_of then.value.told) (bytes_of old.told) x flows.1), handed ∙ flows.2, flows.3)

  pub flows_still : (first old new : Keeper P L log) (story : Story (Keeper P L log)) → bytes_of new.told ≡ bytes_of old.told → handed_on new ≡ handed_on old → Flows state first old story → Flows state first new story
  flows_still first old new story told = flows_on first old new [] story (told ∙ sym (append-nil (bytes_of old.told)))

  -- ---- what each call leaves

  -- a write that took bytes, and is noted
  pub wrote_on : (old new then : Keeper P L log) (story before : Story (Keeper P L log)) (n : ℕ) (piece : List ℕ)
      → before ≡ story → then ≡ new
      → IsSince state (first_of story) old → Flows state (first_of story) old story
      → new.all_skip ≡ old.all_skip → handed_on new ≡ handed_on old
      → (keeper_state state new).reading ≡ (keeper_state state old).reading
      → bytes_of new.told ≡ bytes_of old.told ++ take n piece
      → Appends (state old.below).written (state new.below).written (drop old.skip (take n piece))
      → IsSince state (first_of before) new × (IsSince state (first_of before) then × GrewFrom (bytes_of then.told) (bytes_of new.told) × (handed_on new ≡ handed_on then) × Flows state (first_of before) then before)
  wrote_on old new then story before n piece same now since flows skip handed reading grows real =
      subst (λ (b : Story (Keeper P L log)). IsSince state (first_of b) new × (IsSince state (first_of b) then × GrewFrom (bytes_of then.told) (bytes_of new.told) × (handed_on new ≡ handed_on then) × Flows state (first_of b) then b)) (sym same)
      (subst (λ (k : Keeper P L log). IsSince state (first_of story) new × (IsSince state (first_of story) k × GrewFrom (bytes_of k.told) (bytes_of new.told) × (handed_on new ≡ handed_on k) × Flows state (first_of story) k story)) (sym now)
      (here, (here, grew_same (bytes_of new.told) (bytes_of new.told) refl, refl, flows_on (first_of story) old new (take n piece) story grows handed flows)))
    where
      here : IsSince state (first_of story) new
      here = since_write {E = Unit {0}} (first_of story) old new (Ok n) piece since skip handed reading grows real

  -- one that failed
  pub unwritten_on : (old new : Keeper P L log) (story : Story (Keeper P L log)) (piece : List ℕ)
      → IsSince state (first_of story) old → Flows state (first_of story) old story
      → new.all_skip ≡ old.all_skip → handed_on new ≡ handed_on old
      → (keeper_state state new).reading ≡ (keeper_state state old).reading
      → bytes_of new.told ≡ bytes_of old.told
      → Keeps (state old.below).written (state new.below).written
      → IsSince state (first_of story) new × Flows state (first_of story) new story
  unwritten_on old new story piece since flows skip handed reading grows real =
      (since_write {E = Unit {0}} (first_of story) old new (Err tt) piece since skip handed reading grows real, flows_still (first_of story) old new story grows handed flows)

  -- a read that was answered, and is noted
  pub asked_on : {E : Type 0} (old new then : Keeper P L log) (story before : Story (Keeper P L log)) (n : ℕ) (buf : List ℕ)
      → before ≡ story → then ≡ old
      → IsSince state (first_of story) old → Flows state (first_of story) old story
      → new.all_skip ≡ old.all_skip → bytes_of new.told ≡ bytes_of old.told
      → (state new.below).written ≡ (state old.below).written
      → handed_on new ≡ handed_on old ++ take n buf
      → Asks {E = E} (keeper_state state old) (keeper_state state new) (Ok n) buf
      → IsSince state (first_of before) new × (IsSince state (first_of before) then × GrewFrom (bytes_of then.told) (bytes_of new.told) × Flows state (first_of before) then before)
  asked_on {E = E} old new then story before n buf same was since flows skip told written grows asks =
      subst (λ (b : Story (Keeper P L log)). IsSince state (first_of b) new × (IsSince state (first_of b) then × GrewFrom (bytes_of then.told) (bytes_of new.told) × Flows state (first_of b) then b)) (sym same)
      (subst (λ (k : Keeper P L log). IsSince state (first_of story) new × (IsSince state (first_of story) k × GrewFrom (bytes_of k.told) (bytes_of new.told) × Flows state (first_of story) k story)) (sym was)
      (since_read {E = E} (first_of story) old new (Ok n) buf since skip told written grows asks, (since, grew_same (bytes_of old.told) (bytes_of new.told) told, flows)))

  -- one that failed
  pub unasked_on : {E : Type 0} (old new : Keeper P L log) (story : Story (Keeper P L log)) (e : E) (buf : List ℕ)
      → IsSince state (first_of story) old → Flows state (first_of story) old story
      → new.all_skip ≡ old.all_skip → bytes_of new.told ≡ bytes_of old.told
      → (state new.below).written ≡ (state old.below).written
      → handed_on new ≡ handed_on old
      → Asks {E = E} (keeper_state state old) (keeper_state state new) (Err e) buf
      → IsSince state (first_of story) new × Flows state (first_of story) new story
  unasked_on {E = E} old new story e buf since flows skip told written grows asks =
      (since_read {E = E} (first_of story) old new (Err e) buf since skip told written grows asks, flows_still (first_of story) old new story told grows flows)
