-- What each kind of line brings up to date.
use Rattle.std.proofs.Common.{◌≡◌, ◌∙◌, ℕ, zero, suc, ◌+◌, ◌-◌, ◌<◌, ◌≤◌, Bool, true, false, ◌&&◌, ◌||◌, List, Option, Some, None, length, refl, sym, ap, arith, ◌⊎◌, inl, inr, ⊎_elim, if◌then◌else◌}
use Rattle.std.specs.Prelude.{nat_eq, nat_lt, slice_index_or, unwrap_or}
use Rattle.std.specs.Option.{option_map_or}
use Rattle.std.proofs.lemmas.Bool.{and_parts, cases_lt, eqb-true, ltb-true, or_cases}
use Rattle.std.proofs.lemmas.Option.{slice_get_past}
use Rattle.batch_records.specs.DayRecord.{Day}
use Rattle.batch_records.specs.declared.day.Body.{Body}
use Rattle.batch_records.specs.declared.day.Body.TheVariants as bodies
use Rattle.batch_records.specs.declared.day.Message.{Message}
use Rattle.commit_journal.specs.declared.line.Head.{Head}
use Rattle.commit_journal.specs.Line.{History}
use Rattle.machine.specs.Words.{some_passes}
use Rattle.machine.specs.Records.Messages.{Sort, Missing, Pay, BatchA, BatchB, BatchC, BatchE, earliest, info_end, is_confirm, message_at, settlement_end, sort_of, sort_of_body, stated_end}
use Rattle.machine.specs.Telling.History.{is_book, is_time}
use Rattle.settlement_laws.proofs.Base.Lists.{never}
use Rattle.scan_laws.specs.Concerns.{ends_as, is_due}
use Rattle.day_facts.specs.Facts.{Facts, StandsFor}
use Rattle.day_facts.specs.Told.{aim_in, aim_of, aim_of_message}
use Rattle.day_facts.proofs.AimLines.{names_only}
use Rattle.due_items.specs.declared.chain.Key.{Key}
use Rattle.due_items.specs.declared.chain.Key.TheVariants as keys
use Rattle.due_items.specs.Chains.{ends_cycles, has_key, is_cycle_end, last_of, system_of}
use Rattle.due_items.specs.Index.{Index, IsIndexOf, chain_in}
use Rattle.due_items.specs.Noting.{IsAbout, IsAnswered, IsBooked, IsCycled, IsEnding, IsMet, IsTold, answers, frees, is_about_by, is_answer_on, is_booked_by, ends_cycle_of, is_end_before, is_of_cycle, is_taken_well}
use Rattle.due_items.specs.Renewing.{Flags, HaveRoom, IsBelow, IsDownTo, IsOf, IsThis, Renews, RenewsBy}
use Rattle.due_items.proofs.Renews.{by_fewer, by_none, by_then, renews_fewer}
use Rattle.due_items.proofs.Walks.{cycle_start}

module _ (day : Day) (facts : Facts) (index : Index) where
  -- ---- a Book line

  pub book_alone : (n k : ℕ) (b : Bool) (old new : Flags) → RenewsBy day facts index (λ K. IsThis n k) old new → ((K : History) → StandsFor day K facts → b ≡ frees day K n k) → b ≡ false → RenewsBy day facts index (λ K. IsBooked day K n k) old new
  book_alone n k b old new r is failed = by_fewer day facts index (λ K. IsThis n k) (λ K. IsBooked day K n k) old new r (λ K stands m j item h.
      let p = and_parts (nat_eq n m) (nat_eq k j || frees day K n k) h in (
        sym (eqb-true n m p.0),
        sym (eqb-true k j (⊎_elim
            (λ (q : nat_eq k j ≡ true). q)
            (λ (q : frees day K n k ≡ true). never (frees day K n k) q (sym (is K stands) ∙ failed))
            (or_cases (nat_eq k j) (frees day K n k) p.1))),
      ))

  pub book_all : (n k : ℕ) (old mid new : Flags) → RenewsBy day facts index (λ K. IsThis n k) old mid → RenewsBy day facts index (λ K. IsOf n) mid new → RenewsBy day facts index (λ K. IsBooked day K n k) old new
  book_all n k old mid new r s = by_then day facts index (λ K. IsThis n k) (λ K. IsOf n) (λ K. IsBooked day K n k) old mid new r s (λ K stands m j item h. inr (sym (eqb-true n m (and_parts (nat_eq n m) (nat_eq k j || frees day K n k) h).0)))

  -- ---- a Time line

  pub time_all : (time : ℕ) (old new : Flags) → RenewsBy day facts index (λ K. IsBelow (length day.messages + 1)) old new → RenewsBy day facts index (λ K. IsEnding day time) old new
  time_all time old new r = by_fewer day facts index (λ K. IsBelow (length day.messages + 1)) (λ K. IsEnding day time) old new r (λ K stands m j item h. let l = item.last in omega (arith, l))

  -- ---- a message that is accepted

  pub told_both : (n : ℕ) (old mid new : Flags) → RenewsBy day facts index (λ K. IsAnswered day n) old mid → RenewsBy day facts index (λ K. IsCycled day K n) mid new → RenewsBy day facts index (λ K. IsTold day K n) old new
  told_both n old mid new r s = by_then day facts index (λ K. IsAnswered day n) (λ K. IsCycled day K n) (λ K. IsTold day K n) old mid new r s (λ K stands m j item h. or_cases (is_answer_on day n m) (ends_cycle_of day K n m) h)

  -- the messages of the cycle that message n ends
  abbrev pub IsOfCycle : History → ℕ → ℕ → ℕ → Type 0
  IsOfCycle K n m j = is_of_cycle day K n m ≡ true

  pub cycles_all : (n : ℕ) (old new : Flags) → RenewsBy day facts index (λ K. IsBelow (length day.messages + 1)) old new → RenewsBy day facts index (λ K. IsOfCycle K n) old new
  cycles_all n old new r = by_fewer day facts index (λ K. IsBelow (length day.messages + 1)) (λ K. IsOfCycle K n) old new r (λ K stands m j item h. let l = item.last in omega (arith, l))

  -- the end of a cycle is a message of the day
  pub end_within : (n : ℕ) → is_cycle_end day n ≡ true → n ≤ length day.messages
  end_within zero h = omega arith
  end_within (suc i) h = ⊎_elim
      (λ (inside : i < length day.messages). let l = inside in omega (arith, l))
      (λ (past : length day.messages ≤ i). never (is_cycle_end day (suc i)) h (ap (some_passes (λ (x : Message). ends_cycles x.body)) (slice_get_past day.messages i past)))
      (cases_lt i (length day.messages))

  pub cycles_walk : (n start : ℕ) (old new : Flags) → system_of day n < 86401 → is_cycle_end day n ≡ true → 1 ≤ n → start ≡ slice_index_or (chain_in keys.Cycle index).older (n - 1) 0 → ((K : History) → StandsFor day K facts → IsIndexOf day index → HaveRoom day old → (t b : ℕ) → t < 86401 → b ≤ length day.messages → start ≡ last_of (has_key keys.Cycle day t) b → Renews day K (IsDownTo keys.Cycle day t b (last_of (is_end_before day K n) b)) old new) → RenewsBy day facts index (λ K. IsOfCycle K n) old new
  cycles_walk n start old new few end first s walk K stands e len =
      let last : n ≤ length day.messages = end_within n end in
      renews_fewer day K (IsDownTo keys.Cycle day (system_of day n) (n - 1) (last_of (is_end_before day K n) (n - 1))) (IsOfCycle K n) old new
      (walk K stands e len (system_of day n) (n - 1) few (omega (arith, last)) (cycle_start day index n start few end first last e s))
      (λ m j item h.
      let p = and_parts (has_key keys.Cycle day (system_of day n) m) _ h in
      let q = and_parts (nat_lt m n) (nat_lt (last_of (is_end_before day K n) (n - 1)) m) p.1 in
      let before : m < n = ltb-true m n q.0 in
      record { keyed = p.0; beyond = ltb-true (last_of (is_end_before day K n) (n - 1)) m q.1; within = omega (arith, before) })

  pub cycle_those : (n : ℕ) (old new : Flags) → RenewsBy day facts index (λ K. IsOfCycle K n) old new → RenewsBy day facts index (λ K. IsCycled day K n) old new
  cycle_those n old new r = by_fewer day facts index (λ K. IsOfCycle K n) (λ K. IsCycled day K n) old new r (λ K stands m j item h. (and_parts (is_cycle_end day n) (is_of_cycle day K n m) h).1)

  pub cycle_none : (n : ℕ) (set : Flags) (b : Bool) → b ≡ is_cycle_end day n → b ≡ false → RenewsBy day facts index (λ K. IsCycled day K n) set set
  cycle_none n set b is failed = by_none day facts index (λ K. IsCycled day K n) set (λ K stands m j item h. never (is_cycle_end day n) (and_parts (is_cycle_end day n) (is_of_cycle day K n m) h).0 (sym is ∙ failed))

  pub cycle_zero : (n : ℕ) (set : Flags) → n ≡ 0 → RenewsBy day facts index (λ K. IsCycled day K n) set set
  cycle_zero n set z = cycle_none n set false (sym (ap (is_cycle_end day) z)) refl

  -- ---- an answer

  confirms : (n m : ℕ) → is_answer_on day n m ≡ true → is_confirm (sort_of day n) ≡ true
  confirms n m h = here (message_at day n) h
    where
      by_body : (from : List ℕ) (body : Body) → answers day m from body ≡ true → is_confirm (sort_of_body body) ≡ true
      by_body from (bodies.Confirm id reply) q = refl
      by_body from _ q = cc

      here : (o : Option Message) → some_passes (λ x. answers day m x.sender x.body) o ≡ true → is_confirm (option_map_or (λ x. sort_of_body x.body) o Missing) ≡ true
      here None q = cc
      here (Some x) q = by_body x.sender x.body q

  pub answer_none : (n : ℕ) (set : Flags) (b : Bool) → b ≡ is_confirm (sort_of day n) → b ≡ false → RenewsBy day facts index (λ K. IsAnswered day n) set set
  answer_none n set b is failed = by_none day facts index (λ K. IsAnswered day n) set (λ K stands m j item h. never (is_confirm (sort_of day n)) (confirms n m h) (sym is ∙ failed))

  -- the batch that an answer names is the one that is found
  names : (n m : ℕ) → is_answer_on day n m ≡ true → some_passes (λ b. nat_eq b m) (aim_of day n) ≡ true
  names n m h = here (message_at day n) h
    where
      by_body : (from : List ℕ) (body : Body) → answers day m from body ≡ true → some_passes (λ b. nat_eq b m) (aim_in day from body) ≡ true
      by_body from (bodies.Confirm id reply) q = sym (names_only day from id m (aim_in day from (bodies.Confirm id reply)) refl) ∙ q
      by_body from _ q = cc

      here : (o : Option Message) → some_passes (λ x. answers day m x.sender x.body) o ≡ true → some_passes (λ b. nat_eq b m) (aim_of_message day o) ≡ true
      here None q = cc
      here (Some x) q = by_body x.sender x.body q

  pub answer_unnamed : (n : ℕ) (set : Flags) → None ≡ aim_of day n → RenewsBy day facts index (λ K. IsAnswered day n) set set
  answer_unnamed n set is = by_none day facts index (λ K. IsAnswered day n) set (λ K stands m j item h. let f : false ≡ true = ap (some_passes (λ b. nat_eq b m)) is ∙ names n m h in cc)

  pub answer_named : (n batch : ℕ) (old new : Flags) → Some batch ≡ aim_of day n → RenewsBy day facts index (λ K. IsOf batch) old new → RenewsBy day facts index (λ K. IsAnswered day n) old new
  answer_named n batch old new is r = by_fewer day facts index (λ K. IsOf batch) (λ K. IsAnswered day n) old new r (λ K stands m j item h. sym (eqb-true batch m (ap (some_passes (λ b. nat_eq b m)) is ∙ names n m h)))

  -- ---- other lines

  pub about_alone : (head : Head) (b : Bool) (old new : Flags) → b ≡ is_taken_well head → b ≡ false → RenewsBy day facts index (λ K. IsOf head.msg) old new → RenewsBy day facts index (λ K. IsAbout day K head) old new
  about_alone head b old new is failed r = by_fewer day facts index (λ K. IsOf head.msg) (λ K. IsAbout day K head) old new r (λ K stands m j item h. ⊎_elim
      (λ (q : nat_eq head.msg m ≡ true). sym (eqb-true head.msg m q))
      (λ (q : (is_taken_well head && (is_answer_on day head.msg m || ends_cycle_of day K head.msg m)) ≡ true). never (is_taken_well head) (and_parts (is_taken_well head) (is_answer_on day head.msg m || ends_cycle_of day K head.msg m) q).0 (sym is ∙ failed))
      (or_cases (nat_eq head.msg m) (is_taken_well head && (is_answer_on day head.msg m || ends_cycle_of day K head.msg m)) h))

  pub about_told : (head : Head) (old mid new : Flags) → RenewsBy day facts index (λ K. IsOf head.msg) old mid → RenewsBy day facts index (λ K. IsTold day K head.msg) mid new → RenewsBy day facts index (λ K. IsAbout day K head) old new
  about_told head old mid new r s = by_then day facts index (λ K. IsOf head.msg) (λ K. IsTold day K head.msg) (λ K. IsAbout day K head) old mid new r s (λ K stands m j item h. ⊎_elim
      (λ (q : nat_eq head.msg m ≡ true). inl (sym (eqb-true head.msg m q)))
      (λ (q : (is_taken_well head && (is_answer_on day head.msg m || ends_cycle_of day K head.msg m)) ≡ true). inr (and_parts (is_taken_well head) (is_answer_on day head.msg m || ends_cycle_of day K head.msg m) q).1)
      (or_cases (nat_eq head.msg m) (is_taken_well head && (is_answer_on day head.msg m || ends_cycle_of day K head.msg m)) h))

  -- ---- by the kind

  abbrev chosen : History → Head → ℕ → ℕ → Bool → Bool → Bool
  chosen K head m j b t = if b then is_booked_by day K head.msg head.entry m j else if t then is_due day head.entry m else is_about_by day K head m

  pub met_book : (head : Head) (b : Bool) (old new : Flags) → b ≡ is_book head.kind → b ≡ true → RenewsBy day facts index (λ K. IsBooked day K head.msg head.entry) old new → RenewsBy day facts index (λ K. IsMet day K head) old new
  met_book head b old new is passed r = by_fewer day facts index (λ K. IsBooked day K head.msg head.entry) (λ K. IsMet day K head) old new r (λ K stands m j item h. ap (λ x. chosen K head m j x (is_time head.kind)) (sym (sym is ∙ passed)) ∙ h)

  pub met_time : (head : Head) (b t : Bool) (old new : Flags) → b ≡ is_book head.kind → b ≡ false → t ≡ is_time head.kind → t ≡ true → RenewsBy day facts index (λ K. IsEnding day head.entry) old new → RenewsBy day facts index (λ K. IsMet day K head) old new
  met_time head b t old new is failed it passed r = by_fewer day facts index (λ K. IsEnding day head.entry) (λ K. IsMet day K head) old new r (λ K stands m j item h. (λ i. chosen K head m j (sym (sym is ∙ failed) i) (sym (sym it ∙ passed) i)) ∙ h)

  pub met_about : (head : Head) (b t : Bool) (old new : Flags) → b ≡ is_book head.kind → b ≡ false → t ≡ is_time head.kind → t ≡ false → RenewsBy day facts index (λ K. IsAbout day K head) old new → RenewsBy day facts index (λ K. IsMet day K head) old new
  met_about head b t old new is failed it not_it r = by_fewer day facts index (λ K. IsAbout day K head) (λ K. IsMet day K head) old new r (λ K stands m j item h. (λ i. chosen K head m j (sym (sym is ∙ failed) i) (sym (sym it ∙ not_it) i)) ∙ h)

-- ---- before midnight: by the ends that are stated

till_stated : (time : ℕ) (o : Option ℕ) → time < 86400 → nat_eq time (unwrap_or o 86400) ≡ true → some_passes (nat_eq time) o ≡ true
till_stated time None early h = let e = eqb-true time 86400 h in absurd (omega (arith, early, e))
till_stated time (Some t) early h = h

no_midnight : (time : ℕ) → time < 86400 → nat_eq time 86400 ≡ true → ⊥
no_midnight time early h = let e = eqb-true time 86400 h in omega (arith, early, e)

ends_stated : (s : Sort) (day : Day) (m time : ℕ) → time < 86400 → ends_as s day m (nat_eq time) ≡ true → some_passes (nat_eq time) (stated_end day m) ≡ true
ends_stated BatchA day m time early h = ⊎_elim (λ (q : nat_eq time (settlement_end day m) ≡ true). till_stated time (stated_end day m) early q) (λ (q : nat_eq time 86400 ≡ true). absurd (no_midnight time early q)) (or_cases (nat_eq time (settlement_end day m)) (nat_eq time 86400) h)
ends_stated BatchB day m time early h = ⊎_elim (λ (q : nat_eq time (settlement_end day m) ≡ true). till_stated time (stated_end day m) early q) (λ (q : nat_eq time 86400 ≡ true). absurd (no_midnight time early q)) (or_cases (nat_eq time (settlement_end day m)) (nat_eq time 86400) h)
ends_stated BatchE day m time early h = till_stated time (stated_end day m) early h
ends_stated BatchC day m time early h = absurd (no_midnight time early h)
ends_stated Pay day m time early h = absurd (no_midnight time early h)
ends_stated _ day m time early h = cc

-- a key of one of the three kinds
abbrev HasTimeKey : Day → ℕ → ℕ → Type 0
HasTimeKey day time m = (has_key keys.Info day time m ≡ true) ⊎ ((has_key keys.From day time m ≡ true) ⊎ (has_key keys.Till day time m ≡ true))

ending_keyed : (day : Day) (m time : ℕ) → time < 86400 → is_due day time m ≡ true → HasTimeKey day time m
ending_keyed day m time early h = ⊎_elim
    (λ (q : (some_passes (nat_eq time) (info_end day m) || some_passes (nat_eq time) (earliest day m)) ≡ true). ⊎_elim
    (λ (i : some_passes (nat_eq time) (info_end day m) ≡ true). inl i)
    (λ (f : some_passes (nat_eq time) (earliest day m) ≡ true). inr (inl f))
    (or_cases (some_passes (nat_eq time) (info_end day m)) (some_passes (nat_eq time) (earliest day m)) q))
    (λ (q : ends_as (sort_of day m) day m (nat_eq time) ≡ true). inr (inr (ends_stated (sort_of day m) day m time early q)))
    (or_cases (some_passes (nat_eq time) (info_end day m) || some_passes (nat_eq time) (earliest day m)) (ends_as (sort_of day m) day m (nat_eq time)) h)

abbrev IsDown : Key → Day → ℕ → History → ℕ → ℕ → Type 0
IsDown key day time K = IsDownTo key day time (length day.messages) 0

-- those that begin at the time: at the end of their information period, or at their earliest time
abbrev IsStarting : Day → ℕ → History → ℕ → ℕ → Type 0
IsStarting day time K m j = IsDown keys.Info day time K m j ⊎ IsDown keys.From day time K m j

pub time_walks : (day : Day) (facts : Facts) (index : Index) (time : ℕ) (old told mid new : Flags) → time < 86400 →
    RenewsBy day facts index (IsDown keys.Info day time) old told → RenewsBy day facts index (IsDown keys.From day time) told mid → RenewsBy day facts index (IsDown keys.Till day time) mid new →
    RenewsBy day facts index (λ K. IsEnding day time) old new
time_walks day facts index time old told mid new early r q s =
    let starts : RenewsBy day facts index (IsStarting day time) old mid = by_then day facts index (IsDown keys.Info day time) (IsDown keys.From day time) (IsStarting day time) old told mid r q (λ K stands m j item h. h) in
    by_then day facts index (IsStarting day time) (IsDown keys.Till day time) (λ K. IsEnding day time) old mid new starts s (λ K stands m j item h.
    let first = item.first in
    ⊎_elim
    (λ (x : has_key keys.Info day time m ≡ true). inl (inl (record { keyed = x; beyond = omega (arith, first); within = item.last })))
    (λ (y : (has_key keys.From day time m ≡ true) ⊎ (has_key keys.Till day time m ≡ true)). ⊎_elim
    (λ (x : has_key keys.From day time m ≡ true). inl (inr (record { keyed = x; beyond = omega (arith, first); within = item.last })))
    (λ (x : has_key keys.Till day time m ≡ true). inr (record { keyed = x; beyond = omega (arith, first); within = item.last }))
    y)
    (ending_keyed day m time early h))
