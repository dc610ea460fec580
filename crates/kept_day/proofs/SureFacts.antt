-- What was written to a port that keeps is sure.
use Rattle.std.proofs.Common.{◌≡◌, ◌∙◌, ◌++◌, ◌⊎◌, inl, inr, ℕ, true, List, [], ◌∷◌, Option, Some, None, ap, sym, refl, subst, append-nil, append_assoc, drop, take, length}
use Rattle.std.proofs.lemmas.List.{append_cancel_left, append_cancel_right, take-append-drop}
use Rattle.std.specs.Prelude.{codes, option_map}
use Rattle.std.specs.Io.KnownBytes.{Appends, Consumes}
use Rattle.outside_io.specs.Causes.{one_more}
use Rattle.outside_io.specs.Pieces.{Moment, SinkState}
use Rattle.outside_io.specs.declared.sink.Sink as sinks
use Rattle.refused_memory.specs.{WasRefused}
use Rattle.kept_port.specs.Kept.{kept_state}
use Rattle.kept_port.specs.Keepers.{handed_on, keeper_state}
use Rattle.kept_port.specs.Logs.{Finds}
use Rattle.kept_port.specs.New.{IsNew}
use Rattle.kept_port.specs.Stories.{Flows, GrewFrom, IsSince, asked_in, first_of, head_of, moment_of}
use Rattle.outside_io.specs.GhostTexts.{bytes_of}
use Rattle.kept_port.specs.Texts.{waiting}
use Rattle.kept_port.specs.declared.keeper.Keeper.{Keeper}
use Rattle.kept_port.specs.declared.log.Log as logs
use Rattle.kept_port.specs.declared.port.KeptPort.{KeptPort}
use Rattle.kept_port.specs.declared.story.Story.{Story, Begins, Asked', Wrote'}
use Rattle.live_records.specs.Fates.{IsFront}
use Rattle.live_records.proofs.CutFacts.{front_then}
use Rattle.live_day.specs.Answers.{is_settled_by, live_answer, looked_at}
use Rattle.live_day.specs.Promises.{KeepsPromises, Runs, program_of, request_of}
use Rattle.live_day.specs.Told.{told}
use Rattle.program_answers.specs.LivePrograms.{HasEnded, IsDueText, IsOneOf, LivePromises, WasAnswered, WasAsked, WereRead, WereWritten}
use Rattle.kept_day.specs.Promises.{IsFresh, IsSafe, KeptPromises, WasWritten, kept_run, kept_told}
use Rattle.kept_day.specs.Statuses.{status_of}
use Rattle.kept_day.proofs.FrontFacts.{drop_front, front_same, joined, kept_more, kept_open, kept_settled, take_front, told_kept}

-- ---- plain facts

grew_front : (a b : List ℕ) → GrewFrom a b → IsFront a b
grew_front a b grew = (drop (length a) b, sym (take-append-drop (length a) b) ∙ ap (λ (x : List ℕ). x ++ drop (length a) b) grew)

same_front : (a b : List ℕ) → a ≡ b → IsFront a b
same_front a b same = subst (IsFront a) same (front_same a)

same_read : (a b : Option (List ℕ)) (l x y : List ℕ) → a ≡ Some l → Consumes a b x → Consumes a b y → x ≡ y
same_read None b l x y e p q = absurd (cc e)
same_read (Some xs) None l x y e p q = absurd p
same_read (Some xs) (Some ys) l x y e p q = append_cancel_right x y ys (sym p ∙ q)

were_read : (a b : Option (List ℕ)) (l x : List ℕ) → a ≡ Some l → Consumes a b x → WereRead a b x
were_read None b l x e p = absurd (cc e)
were_read (Some xs) None l x e p = absurd p
were_read (Some xs) (Some ys) l x e p = p

same_written : (a b : Option (List ℕ)) (x y : List ℕ) → WereWritten a b x → Appends a b y → x ≡ y
same_written None b x y p q = absurd p
same_written (Some xs) None x y p q = absurd p
same_written (Some xs) (Some ys) x y p q = append_cancel_left xs x y (sym p ∙ q)

-- a port that never tells its end hasn't told it
not_told : Some 0 ≡ option_map one_more (Some 0) → ⊥
not_told e = cc e

one_last : (m : Moment) (xs : List Moment) → IsOneOf m (xs ++ m ∷ [])
one_last m [] = inl refl
one_last m (x ∷ xs) = inr (one_last m xs)

one_before : (m x : Moment) (xs : List Moment) → IsOneOf m xs → IsOneOf m (xs ++ x ∷ [])
one_before m x [] i = absurd i
one_before m x (y ∷ ys) (inl e) = inl e
one_before m x (y ∷ ys) (inr i) = inr (one_before m x ys i)

-- ---- the head of the moments

abbrev nothing : Moment
nothing = record { left = None; written = None }

abbrev head : List Moment → Moment
head [] = nothing
head (m ∷ ms) = m

abbrev second : List Moment → Moment
second [] = nothing
second (m ∷ ms) = head ms

abbrev behind : List Moment → List Moment
behind [] = []
behind (m ∷ []) = []
behind (m ∷ n ∷ ms) = ms

abbrev number : Option (List ℕ) → ℕ
number None = 0
number (Some []) = 0
number (Some (n ∷ ns)) = n

module _ {P L : Type 0} {log : logs.Ghosts L} (state : P → SinkState) where
  abbrev tail_of : Story (Keeper P L log) → List Moment
  tail_of (Begins start) = []
  tail_of (Asked' marker before then) = tail_of before ++ moment_of state then.value ∷ []
  tail_of (Wrote' marker before then) = tail_of before

  asked_is : (story : Story (Keeper P L log)) → asked_in state story ≡ head_of state (first_of story) ++ tail_of story
  asked_is (Begins start) = refl
  asked_is (Asked' marker before then) = ap (λ (ms : List Moment). ms ++ moment_of state then.value ∷ []) (asked_is before)
  asked_is (Wrote' marker before then) = asked_is before

  asked_new : (story : Story (Keeper P L log)) (keeper : Keeper P L log) → IsNew story keeper → asked_in state story ≡ head_of state keeper
  asked_new (Begins start) keeper new = ap (head_of state) new
  asked_new (Asked' marker before then) keeper new = absurd new
  asked_new (Wrote' marker before then) keeper new = absurd new

  -- whenever it was asked, all was written that what was handed on until then calls for
  abbrev AllTold : Story (Keeper P L log) → Type 0
  AllTold (Begins start) = Unit {0}
  AllTold (Asked' marker before then) = (bytes_of then.value.told ≡ kept_told (handed_on then.value)) × AllTold before
  AllTold (Wrote' marker before then) = AllTold before

  all_told : (first now : Keeper P L log) (story : Story (Keeper P L log)) → Flows state first now story
      → ((k : Keeper P L log) → IsSince state first k → IsOneOf (moment_of state k) (tail_of story) → bytes_of k.told ≡ kept_told (handed_on k))
      → AllTold story
  all_told first now (Begins start) flows each = tt
  all_told first now (Asked' marker before then) flows each = (
    each then.value flows.0 (one_last (moment_of state then.value) (tail_of before)),
    all_told first then.value before flows.2 (λ k since i. each k since (one_before (moment_of state k) (moment_of state then.value) (tail_of before) i)),
  )
  all_told first now (Wrote' marker before then) flows each = all_told first then.value before flows.3 each

  -- so what had been written when bytes were begins what was called for then
  written_fronts : (first now : Keeper P L log) (story : Story (Keeper P L log)) → Flows state first now story → AllTold story
      → IsFront (bytes_of now.told) (kept_told (handed_on now))
      → (k : Keeper P L log) → WasWritten story k → IsSince state first k × IsFront (bytes_of k.told) (kept_told (handed_on k))
  written_fronts first now (Begins start) flows all front k was = absurd was
  written_fronts first now (Asked' marker before then) flows all front k was =
      written_fronts first then.value before flows.2 all.1 (same_front (bytes_of then.value.told) (kept_told (handed_on then.value)) all.0) k was
  written_fronts first now (Wrote' marker before then) flows all front k was = by (λ w. written_fronts first then.value before flows.3 all here k w) was
    where
      here : IsFront (bytes_of then.value.told) (kept_told (handed_on then.value))
      here = subst (λ (h : List ℕ). IsFront (bytes_of then.value.told) (kept_told h)) flows.2
          (front_then (bytes_of then.value.told) (bytes_of now.told) (kept_told (handed_on now)) (grew_front (bytes_of then.value.told) (bytes_of now.told) flows.1) front)

      by : (WasWritten before k → IsSince state first k × IsFront (bytes_of k.told) (kept_told (handed_on k))) → ((then.value ≡ k) ⊎ WasWritten before k) → IsSince state first k × IsFront (bytes_of k.told) (kept_told (handed_on k))
      by rest (inl same) = subst (λ (x : Keeper P L log). IsSince state first x × IsFront (bytes_of x.told) (kept_told (handed_on x))) same (flows.0, here)
      by rest (inr earlier) = rest earlier

module _ {P L : Type 0} {sink : sinks.Ghosts P} {log : logs.Ghosts L} where
  -- Of a port whose later moments are these, at each of which all had been written that was called for.
  pub all_sure : (old new : KeptPort P L sink log) → IsFresh old
      → (finds : (l : L) (c : List ℕ) → log.image l c → Finds log.text_in (log.sure l) c)
      → (more : List Moment) → asked_in sink.state new.story ≡ asked_in sink.state old.story ++ more
      → ((first k : Keeper P L log) → (keeper_state sink.state first).reading.left ≡ (keeper_state sink.state old.keeper).reading.left → IsSince sink.state first k → IsOneOf (moment_of sink.state k) more → bytes_of k.told ≡ kept_told (handed_on k))
      → ((first : Keeper P L log) → (keeper_state sink.state first).reading.left ≡ (keeper_state sink.state old.keeper).reading.left → IsSince sink.state first new.keeper → IsFront (bytes_of new.keeper.told) (kept_told (handed_on new.keeper)))
      → (k : Keeper P L log) → WasWritten new.story k
      → (written : List ℕ) → WereWritten (sink.state old.keeper.below).written (sink.state k.below).written written
      → (bytes : List ℕ) → log.image k.log bytes → IsSafe log old.keeper.all_skip written bytes
  all_sure old new fresh finds more is each last k was written wrote bytes image = record { text = f.text; found = f.found; told = safe }
    where
      first : Keeper P L log
      first = first_of new.story

      heads : head_of sink.state first ++ tail_of sink.state new.story ≡ head_of sink.state old.keeper ++ more
      heads = sym (asked_is sink.state new.story) ∙ is ∙ ap (λ (ms : List Moment). ms ++ more) (asked_new sink.state old.story old.keeper fresh.begins)

      left_same : (keeper_state sink.state first).reading.left ≡ (keeper_state sink.state old.keeper).reading.left
      left_same = ap (λ (ms : List Moment). (head ms).left) heads

      real_same : (sink.state first.below).written ≡ (sink.state old.keeper.below).written
      real_same = ap (λ (ms : List Moment). (head ms).written) heads

      skip_same : first.all_skip ≡ old.keeper.all_skip
      skip_same = ap (λ (ms : List Moment). number (second ms).left) heads

      tail_same : tail_of sink.state new.story ≡ more
      tail_same = ap behind heads

      front : IsSince sink.state first k × IsFront (bytes_of k.told) (kept_told (handed_on k))
      front = written_fronts sink.state first new.keeper new.story new.flows
          (all_told sink.state first new.keeper new.story new.flows (λ x since i. each first x left_same since (subst (IsOneOf (moment_of sink.state x)) tail_same i)))
          (last first left_same new.since) k was

      f : Finds log.text_in (log.sure k.log) bytes
      f = finds k.log bytes image

      rest : List ℕ
      rest = waiting k.queue.items k.at k.is_kept ++ f.begins.rest

      text_is : f.text ≡ handed_on k ++ rest
      text_is = f.begins.is ∙ ap (λ (s : List ℕ). s ++ f.begins.rest) k.sure ∙ append_assoc (handed_on k) (waiting k.queue.items k.at k.is_kept) f.begins.rest

      called : IsFront (bytes_of k.told) (kept_told f.text)
      called = front_then (bytes_of k.told) (kept_told (handed_on k)) (kept_told f.text) front.1
          (subst (λ (t : List ℕ). IsFront (kept_told (handed_on k)) (kept_told t)) (sym text_is) (kept_more (handed_on k) rest))

      real : Appends (sink.state old.keeper.below).written (sink.state k.below).written (drop old.keeper.all_skip (bytes_of k.told))
      real = subst (λ (s : ℕ). Appends (sink.state old.keeper.below).written (sink.state k.below).written (drop s (bytes_of k.told))) skip_same
          (subst (λ (w : Option (List ℕ)). Appends w (sink.state k.below).written (drop first.all_skip (bytes_of k.told))) real_same front.0.real)

      written_is : written ≡ drop old.keeper.all_skip (bytes_of k.told)
      written_is = same_written (sink.state old.keeper.below).written (sink.state k.below).written written (drop old.keeper.all_skip (bytes_of k.told)) wrote real

      safe : IsFront written (drop old.keeper.all_skip (kept_told f.text))
      safe = subst (λ (w : List ℕ). IsFront w (drop old.keeper.all_skip (kept_told f.text))) (sym written_is) (drop_front old.keeper.all_skip (bytes_of k.told) (kept_told f.text) called)

  -- ---- of a run that keeps the promises of a live program

  module _ (old new : KeptPort P L sink log) (day : ℕ) (fresh : IsFresh old) (keeps : LivePromises (program_of Runs) (kept_run sink.state old new day)) (left : List ℕ) (known : (keeper_state sink.state old.keeper).reading.left ≡ Some left) where
    read_same : (first : Keeper P L log) → (keeper_state sink.state first).reading.left ≡ (keeper_state sink.state old.keeper).reading.left → IsSince sink.state first new.keeper
        → (bytes : List ℕ) → Consumes (keeper_state sink.state old.keeper).reading.left (keeper_state sink.state new.keeper).reading.left bytes → bytes ≡ handed_on new.keeper
    read_same first same since bytes took =
        same_read (keeper_state sink.state old.keeper).reading.left (keeper_state sink.state new.keeper).reading.left left bytes (handed_on new.keeper) known took
        (subst (λ (o : Option (List ℕ)). Consumes o (keeper_state sink.state new.keeper).reading.left (handed_on new.keeper)) same since.left)

    told_is : (text : List ℕ) → bytes_of new.keeper.told ≡ bytes_of old.keeper.told ++ text → bytes_of new.keeper.told ≡ text
    told_is text wrote = wrote ∙ ap (λ (s : List ℕ). s ++ text) fresh.told

    settled_of : (bytes : List ℕ) → HasEnded (program_of Runs) (kept_run sink.state old new day) bytes → is_settled_by bytes ≡ true
    settled_of bytes (inl settled) = settled.0
    settled_of bytes (inr ended) = absurd (not_told ended.1)

    due_front : (bytes due : List ℕ) → IsDueText (program_of Runs) (kept_run sink.state old new day) bytes due → IsFront due (kept_told bytes)
    due_front bytes due (inl called) = subst (λ (s : List ℕ). IsFront s (kept_told bytes)) (sym called) (told_kept bytes)
    due_front bytes due (inr ended) =
        let settled = settled_of bytes ended.0 in
        same_front due (kept_told bytes) (ended.1 ∙ sym (kept_settled bytes settled))

    end_front : (first : Keeper P L log) → (keeper_state sink.state first).reading.left ≡ (keeper_state sink.state old.keeper).reading.left → IsSince sink.state first new.keeper → IsFront (bytes_of new.keeper.told) (kept_told (handed_on new.keeper))
    end_front first same since = by keeps.status
      where
        at : (bytes : List ℕ) → Consumes (keeper_state sink.state old.keeper).reading.left (keeper_state sink.state new.keeper).reading.left bytes → IsFront (bytes_of new.keeper.told) (kept_told bytes) → IsFront (bytes_of new.keeper.told) (kept_told (handed_on new.keeper))
        at bytes took front = subst (λ (b : List ℕ). IsFront (bytes_of new.keeper.told) (kept_told b)) (read_same first same since bytes took) front

        by : (((day ≡ 4) ⊎ (day ≡ 5)) ⊎ WasAnswered (program_of Runs) (kept_run sink.state old new day)) → IsFront (bytes_of new.keeper.told) (kept_told (handed_on new.keeper))
        by (inl (inl four)) =
            let fault = keeps.read_fault four in
            at fault.bytes fault.taken.taken
            (subst (λ (s : List ℕ). IsFront s (kept_told fault.bytes)) (sym (told_is (told (looked_at fault.bytes)) fault.text.written)) (told_kept fault.bytes))
        by (inl (inr five)) =
            let fault = keeps.write_fault five in
            at fault.bytes fault.taken.taken
            (subst (λ (s : List ℕ). IsFront s (kept_told fault.bytes)) (sym (told_is (take fault.front.count fault.due) fault.front.front))
            (front_then (take fault.front.count fault.due) fault.due (kept_told fault.bytes) (take_front fault.front.count fault.due) (due_front fault.bytes fault.due fault.is)))
        by (inr answered) =
            let settled = settled_of answered.bytes answered.ended in
            at answered.bytes answered.taken.taken
            (same_front (bytes_of new.keeper.told) (kept_told answered.bytes) (told_is (live_answer answered.bytes).text answered.text.written ∙ sym (kept_settled answered.bytes settled)))

    asked_told : (first k : Keeper P L log) → (keeper_state sink.state first).reading.left ≡ (keeper_state sink.state old.keeper).reading.left → IsSince sink.state first k → IsOneOf (moment_of sink.state k) keeps.moments.0 → bytes_of k.told ≡ kept_told (handed_on k)
    asked_told first k same since i = keeps.prompt (handed_on k) (bytes_of k.told) asked ∙ sym (kept_open (handed_on k) (keeps.needs_more (handed_on k) (bytes_of k.told) asked))
      where
        asked : WasAsked (kept_run sink.state old new day) (handed_on k) (bytes_of k.told)
        asked = (
          moment_of sink.state k,
          (keeps.moments.0, keeps.moments.1, i),
          were_read (keeper_state sink.state old.keeper).reading.left (keeper_state sink.state k).reading.left left (handed_on k) known
              (subst (λ (o : Option (List ℕ)). Consumes o (keeper_state sink.state k).reading.left (handed_on k)) same since.left),
          sym (ap (λ (s : List ℕ). s ++ bytes_of k.told) fresh.told),
        )

    pub run_sure : (finds : (l : L) (c : List ℕ) → log.image l c → Finds log.text_in (log.sure l) c)
        → (k : Keeper P L log) → WasWritten new.story k
        → (written : List ℕ) → WereWritten (sink.state old.keeper.below).written (sink.state k.below).written written
        → (bytes : List ℕ) → log.image k.log bytes → IsSafe log old.keeper.all_skip written bytes
    run_sure finds = all_sure old new fresh finds keeps.moments.0 keeps.moments.1 asked_told end_front

-- ---- the promises

new_none : {K : Type 0} (story : Story K) (keeper k : K) → IsNew story keeper → WasWritten story k → ⊥
new_none (Begins start) keeper k new was = was
new_none (Asked' marker before then) keeper k new was = new
new_none (Wrote' marker before then) keeper k new was = new

abbrev moments_in : Option (List Moment) → List Moment
moments_in None = []
moments_in (Some ms) = ms

abbrev text_in : Option (List ℕ) → List ℕ
text_in None = []
text_in (Some text) = text

module _ {P L : Type 0} {sink : sinks.Ghosts P} {log : logs.Ghosts L} where
  -- memory was wanting before the day began
  pub none_kept : (old : KeptPort P L sink log) → IsFresh old → WasRefused → KeptPromises sink.state old old 1
  none_kept old fresh cause = record {
    day = 1;
    is = refl;
    asked = inl refl;
    memory = λ one. refl;
    refused = λ one. cause;
    sure = λ left known k was written wrote bytes image. absurd (new_none old.story old.keeper k fresh.begins was);
    together = joined;
  }

  pub run_kept : (old new : KeptPort P L sink log) (day status : ℕ) (words : List (List ℕ)) → IsFresh old
      → KeepsPromises words (kept_run sink.state old new day) → words ≡ codes "run" ∷ []
      → ((l : L) (c : List ℕ) → log.image l c → Finds log.text_in (log.sure l) c)
      → status ≡ status_of day new.keeper.halt new.keeper.skip
      → KeptPromises sink.state old new status
  run_kept old new day status words fresh keeps run finds is = record {
    day = day;
    is = is;
    asked = asked;
    memory = λ one. (keeps.memory one).1;
    refused = keeps.refused;
    sure = λ left known. by asked left known;
    together = joined;
  }
    where
      asked : (day ≡ 1) ⊎ LivePromises (program_of Runs) (kept_run sink.state old new day)
      asked = keeps.asked Runs (ap request_of run)

      Sure : Type 0
      Sure = (k : Keeper P L log) → WasWritten new.story k
          → (written : List ℕ) → WereWritten (sink.state old.keeper.below).written (sink.state k.below).written written
          → (bytes : List ℕ) → log.image k.log bytes → IsSafe log old.keeper.all_skip written bytes

      by : ((day ≡ 1) ⊎ LivePromises (program_of Runs) (kept_run sink.state old new day)) → (left : List ℕ) → (keeper_state sink.state old.keeper).reading.left ≡ Some left → Sure
      by (inl one) left known =
          let same : kept_state sink.state new ≡ kept_state sink.state old = (keeps.memory one).1 in
          let none : bytes_of new.keeper.told ≡ [] = ap (λ (s : SinkState). text_in s.written) same ∙ fresh.told in
          all_sure old new fresh finds []
          (ap (λ (s : SinkState). moments_in s.reading.moments) same ∙ sym (append-nil (asked_in sink.state old.story)))
          (λ first k left since i. absurd i)
          (λ first left since. subst (λ (s : List ℕ). IsFront s (kept_told (handed_on new.keeper))) (sym none) (kept_told (handed_on new.keeper), refl))
      by (inr lives) left known = run_sure old new day fresh lives left known finds
