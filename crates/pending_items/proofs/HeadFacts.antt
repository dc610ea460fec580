-- The heads of the urgent and the high rows on an account tell the first blocker.
use Rattle.std.proofs.Common.{◌≡◌, ℕ, zero, suc, ◌+◌, ◌<◌, ◌≤◌, Bool, true, false, not, ◌&&◌, ◌||◌, List, [], Option, Some, None, length, refl, sym, ap, ◌∙◌, subst, inl, inr, arith, ◌⊎◌}
use Rattle.std.specs.Prelude.{filter, if◌then◌else◌, is_some, nat_eq, nat_lt, unwrap_or}
use Rattle.std.specs.List.{Contains, list_any}
use Rattle.std.specs.Option.{MatchOption, option_or}
use Rattle.std.proofs.lemmas.Bool.{and_from, and_parts, cases_eq, eq-eqb, eqb-true, false_from_ne_true, lt-ltb, ltb-true, or_cases, true≢false}
use Rattle.std.proofs.lemmas.List.Elements.{All-contains}
use Rattle.batch_records.specs.DayRecord.{Day}
use Rattle.commit_journal.specs.Line.{History}
use Rattle.machine.specs.declared.answers.Item.{Item}
use Rattle.machine.specs.Records.Messages.{Sort, Pay, entries, is_b, is_high, message_numbers, sort_of}
use Rattle.machine.specs.Telling.History.{taken}
use Rattle.machine.specs.Stages.Pending.{Standing, is_ahead, is_blocked, is_blocked_by, is_blocker, is_normal, is_pending, item, priority_as, standing, stands_before, stands_on}
use Rattle.machine.specs.Stages.Blockers.{first_blocker}
use Rattle.settlement_laws.specs.FirstBlocker.{BlockerIsTheForemost}
use Rattle.settlement_laws.proofs.Wants.BlockerIsTheForemost.{blocker_is_the_foremost}
use Rattle.settlement_laws.proofs.Wants.Foremost.{ahead_chain, ahead_other}
use Rattle.settlement_laws.proofs.Base.Lists.{never}
use Rattle.settlement_laws.proofs.Base.Sums.{any-at}
use Rattle.settlement_laws.proofs.Wants.PlacesDiffer.{pending_taken, same_intake}
use Rattle.payment_queue.specs.declared.row.Row.{Row}
use Rattle.payment_queue.specs.declared.row.Priority.{Priority}
use Rattle.payment_queue.specs.Standing.{is_row_ahead, rank}
use Rattle.payment_queue.specs.Queued.{item_of}
use Rattle.payment_queue.specs.QueueLaws.{IsForemost}
use Rattle.payment_queue.proofs.Members.{contains_filtered, filtered_contains}
use Rattle.pending_items.specs.Numbers.{number, start}
use Rattle.pending_items.specs.Parts.{band, priority_of, row_of, waits, whole}
use Rattle.pending_items.specs.Heads.{IsHeadOf, IsHeadOn, ahead_by, blocker_by, head_by}
use Rattle.pending_items.proofs.NumberFacts.{IsItem}
use Rattle.pending_items.proofs.PartFacts.{IsRowOf, band_small, rank_is, row_back, row_there}

-- the rows are those of the items that wait
pub record AreRows (day : Day) (J : History) (rows : List Row) : Type 0 where
  pub each : (r : Row) → Contains rows r → IsItem day r.item × (waits day J r.item ≡ true) × (r ≡ row_of day J r.item)
  pub all : (x : Item) → IsItem day x → waits day J x ≡ true → Contains rows (row_of day J x)

-- ---- the order of rows is that of their items

pub whole_msg : (day : Day) (x : Item) → (whole day x).msg ≡ x.msg
whole_msg day x = here (is_b (sort_of day x.msg))
  where
    here : (b : Bool) → (if b then item x.msg 0 else x).msg ≡ x.msg
    here true = refl
    here false = refl

module _ (day : Day) (J : History) (x y : Item) (wx : waits day J x ≡ true) (wy : waits day J y ≡ true) where
  px : is_pending day J (whole day x) ≡ true
  px = (and_parts _ (is_pending day J (whole day x)) wx).1

  py : is_pending day J (whole day y) ≡ true
  py = (and_parts _ (is_pending day J (whole day y)) wy).1

  one_taken : (z : Item) → is_pending day J (whole day z) ≡ true → is_some (taken J z.msg) ≡ true
  one_taken z p = subst (λ n. is_some (taken J n) ≡ true) (whole_msg day z) (pending_taken day J (whole day z) p)

  -- of one message the numbers rise with the entries
  last_ahead : x.msg ≡ y.msg → (whole day x).entry < (whole day y).entry → number day x < number day y
  last_ahead same less = here (is_b (sort_of day x.msg)) refl
    where
      here : (b : Bool) → is_b (sort_of day x.msg) ≡ b → number day x < number day y
      here true e =
          let zero_y : (whole day y).entry ≡ 0 = ap (λ b. (if b then item y.msg 0 else y).entry) (ap (λ n. is_b (sort_of day n)) (sym same) ∙ e) in
          absurd (omega (arith, zero_y, less))
      here false e =
          let own_x : (whole day x).entry ≡ x.entry = ap (λ b. (if b then item x.msg 0 else x).entry) e in
          let own_y : (whole day y).entry ≡ y.entry = ap (λ b. (if b then item y.msg 0 else y).entry) (ap (λ n. is_b (sort_of day n)) (sym same) ∙ e) in
          let begins : start day x.msg ≡ start day y.msg = ap (start day) same in
          omega (arith, own_x, own_y, begins, less)

  by_entry : nat_eq (unwrap_or (taken J x.msg) 0) (unwrap_or (taken J y.msg) 0) ≡ true → nat_lt (whole day x).entry (whole day y).entry ≡ true → nat_lt (number day x) (number day y) ≡ true
  by_entry i h =
      let same : x.msg ≡ y.msg = same_intake J x.msg y.msg (one_taken x px) (one_taken y py) (eqb-true _ _ i) in
      lt-ltb (number day x) (number day y) (last_ahead same (ltb-true (whole day x).entry (whole day y).entry h))

  step : (a b : Bool) (c d : Bool) → (b ≡ true → c ≡ true → d ≡ true) → (a || b && c) ≡ true → (a || b && d) ≡ true
  step true b c d f h = refl
  step false true c d f h = f refl h
  step false false c d f h = never false h refl

  rows_ahead : is_ahead (standing day J (whole day x)) (standing day J (whole day y)) ≡ true → is_row_ahead (row_of day J x) (row_of day J y) ≡ true
  rows_ahead h =
      let s = standing day J (whole day x) in
      let t = standing day J (whole day y) in
      let p : priority_as (sort_of day (whole day x).msg) day (whole day x).msg ≡ rank (priority_of (sort_of day x.msg) day x.msg) = ap (λ n. priority_as (sort_of day n) day n) (whole_msg day x) ∙ sym (rank_is (sort_of day x.msg) day x.msg) in
      let q : priority_as (sort_of day (whole day y).msg) day (whole day y).msg ≡ rank (priority_of (sort_of day y.msg) day y.msg) = ap (λ n. priority_as (sort_of day n) day n) (whole_msg day y) ∙ sym (rank_is (sort_of day y.msg) day y.msg) in
      let i : unwrap_or (taken J (whole day x).msg) 0 ≡ unwrap_or (taken J x.msg) 0 = ap (λ n. unwrap_or (taken J n) 0) (whole_msg day x) in
      let j : unwrap_or (taken J (whole day y).msg) 0 ≡ unwrap_or (taken J y.msg) 0 = ap (λ n. unwrap_or (taken J n) 0) (whole_msg day y) in
      let moved : (nat_lt (rank (priority_of (sort_of day x.msg) day x.msg)) (rank (priority_of (sort_of day y.msg) day y.msg)) || nat_eq (rank (priority_of (sort_of day x.msg) day x.msg)) (rank (priority_of (sort_of day y.msg) day y.msg))
      && (nat_lt s.active t.active || nat_eq s.active t.active
      && (nat_lt (unwrap_or (taken J x.msg) 0) (unwrap_or (taken J y.msg) 0) || nat_eq (unwrap_or (taken J x.msg) 0) (unwrap_or (taken J y.msg) 0) && nat_lt (whole day x).entry (whole day y).entry))) ≡ true =
      sym (λ k. nat_lt (p k) (q k) || nat_eq (p k) (q k) && (nat_lt s.active t.active || nat_eq s.active t.active && (nat_lt (i k) (j k) || nat_eq (i k) (j k) && nat_lt (whole day x).entry (whole day y).entry))) ∙ h in
      let a = rank (priority_of (sort_of day x.msg) day x.msg) in
      let b = rank (priority_of (sort_of day y.msg) day y.msg) in
      let m = unwrap_or (taken J x.msg) 0 in
      let n = unwrap_or (taken J y.msg) 0 in
      step (nat_lt a b) (nat_eq a b) _ _ (λ _ g. step (nat_lt s.active t.active) (nat_eq s.active t.active)
      (nat_lt m n || nat_eq m n && nat_lt (whole day x).entry (whole day y).entry) (nat_lt m n || nat_eq m n && nat_lt (number day x) (number day y))
      (λ _ k. step (nat_lt m n) (nat_eq m n) (nat_lt (whole day x).entry (whole day y).entry) (nat_lt (number day x) (number day y)) by_entry k) g) moved

-- ---- the head of a band

-- on account a nothing of this priority is pending, or the item of the head is, and nothing of it is ahead
abbrev pub IsHead : Day → History → ℕ → ℕ → Option Item → Type 0
IsHead day J a p None = (y : Item) → is_pending day J y ≡ true → stands_on day a y ≡ true → priority_as (sort_of day y.msg) day y.msg ≡ p → ⊥
IsHead day J a p (Some x) =
    (is_pending day J (whole day x) ≡ true) × (stands_on day a (whole day x) ≡ true) × (priority_as (sort_of day (whole day x).msg) day (whole day x).msg ≡ p)
    × ((y : Item) → is_pending day J y ≡ true → stands_on day a y ≡ true → priority_as (sort_of day y.msg) day y.msg ≡ p → is_ahead (standing day J y) (standing day J (whole day x)) ≡ true → ⊥)

abbrev pub in_band : ℕ → Priority → Row → Bool
in_band a p r = nat_eq r.account a && nat_eq (rank r.priority) (rank p)

module _ (day : Day) (J : History) (rows : List Row) (are : AreRows day J rows) (a : ℕ) (p : Priority) where
  -- the row of a pending item of the priority is in the band
  row_in_band : (y : Item) → is_pending day J y ≡ true → stands_on day a y ≡ true → priority_as (sort_of day y.msg) day y.msg ≡ rank p → (x : Item) × IsRowOf day J a y x × Contains (filter (in_band (a + 1) p) rows) (row_of day J x)
  row_in_band y pending on same =
      let r = row_there day J a y pending on in
      let x : Item = r.0 in
      let msg : x.msg ≡ y.msg = sym (whole_msg day x) ∙ ap (λ (z : Item). z.msg) r.1.of in
      let priority : rank (priority_of (sort_of day x.msg) day x.msg) ≡ rank p = rank_is (sort_of day x.msg) day x.msg ∙ (ap (λ n. priority_as (sort_of day n) day n) msg ∙ same) in
      (x, r.1, filtered_contains (in_band (a + 1) p) rows (row_of day J x) (are.all x r.1.known r.1.waits) (and_from _ _ (eq-eqb _ _ r.1.on) (eq-eqb _ _ priority)))

  none_is : filter (in_band (a + 1) p) rows ≡ [] → (y : Item) → is_pending day J y ≡ true → stands_on day a y ≡ true → priority_as (sort_of day y.msg) day y.msg ≡ rank p → ⊥
  none_is e y pending on same =
      let r = row_in_band y pending on same in
      let c : Contains [] (row_of day J r.0) = subst (λ rs. Contains rs (row_of day J r.0)) e r.2 in
      omega (arith, c.1)

  pub head_is : (o : Option Row) → MatchOption o (filter (in_band (a + 1) p) rows ≡ []) (IsForemost (filter (in_band (a + 1) p) rows)) → IsHead day J a (rank p) (item_of o)
  head_is None e = none_is e
  head_is (Some r) f =
      let c = contains_filtered (in_band (a + 1) p) rows r f.among in
      let bands = and_parts (nat_eq r.account (a + 1)) (nat_eq (rank r.priority) (rank p)) c.1 in
      let own = are.each r c.0 in
      let x : Item = r.item in
      let row : r ≡ row_of day J x = own.2 in
      let on : band day x ≡ a + 1 = sym (ap (λ (q : Row). q.account) row) ∙ eqb-true r.account (a + 1) bands.0 in
      let priority : rank (priority_of (sort_of day x.msg) day x.msg) ≡ rank p = sym (ap (λ (q : Row). rank q.priority) row) ∙ eqb-true (rank r.priority) (rank p) bands.1 in
      let back = row_back day J a x own.1 on in
      let same : priority_as (sort_of day (whole day x).msg) day (whole day x).msg ≡ rank p = ap (λ n. priority_as (sort_of day n) day n) (whole_msg day x) ∙ (sym (rank_is (sort_of day x.msg) day x.msg) ∙ priority) in (
        back.0,
        back.1,
        same,
        λ y pending there alike ahead.
            let z = row_in_band y pending there alike in
            let before : is_ahead (standing day J (whole day z.0)) (standing day J (whole day x)) ≡ true = subst (λ (w : Item). is_ahead (standing day J w) (standing day J (whole day x)) ≡ true) (sym z.1.of) ahead in
            let rows_so : is_row_ahead (row_of day J z.0) (row_of day J x) ≡ true = rows_ahead day J z.0 x z.1.waits own.1 before in
            let not_so : is_row_ahead (row_of day J z.0) r ≡ false = All-contains (λ s. is_row_ahead s r ≡ false) (filter (in_band (a + 1) p) rows) (row_of day J z.0) f.first z.2 in
            true≢false (sym rows_so ∙ (ap (is_row_ahead (row_of day J z.0)) (sym row) ∙ not_so)),
      )

-- ---- the first blocker by the heads

priority_le : (s t : Standing) → is_ahead s t ≡ true → s.priority ≤ t.priority
priority_le s t h = elim (or_cases (nat_lt s.priority t.priority) _ h) [
  | inl less ↦ (let l : s.priority < t.priority = ltb-true s.priority t.priority less in omega (arith, l))
  | inr rest ↦ (let e : s.priority ≡ t.priority = eqb-true s.priority t.priority (and_parts (nat_eq s.priority t.priority) _ rest).0 in omega (arith, e))
]

same_standing : (s t : Standing) → s.priority ≡ t.priority → s.active ≡ t.active → s.intake ≡ t.intake → s.entry ≡ t.entry → s ≡ t
same_standing s t p a i e = λ k. record { priority = p k; active = a k; intake = i k; entry = e k }

-- where u isn't ahead of t, and s is, s is ahead of u
between : (s t u : Standing) → is_ahead s t ≡ true → (is_ahead u t ≡ true → ⊥) → (is_ahead s u ≡ true → ⊥) → ⊥
between s t u h unlike not_before = elim (ahead_other s u not_before) [
  | inl k ↦ unlike (ahead_chain u s t k h)
  | inr e ↦ unlike (subst (λ v. is_ahead v t ≡ true) (same_standing s u e.0 e.1.0 e.1.1.0 e.1.1.1) h)
]

module _ (day : Day) (J : History) (x : Item) (a : ℕ) where
  record Blocks (y : Item) : Type 0 where
    pub pending : is_pending day J y ≡ true
    pub on : stands_on day a y ≡ true
    pub before_all : is_normal (priority_as (sort_of day y.msg) day y.msg) ≡ false
    pub ahead : is_ahead (standing day J y) (standing day J x) ≡ true

  not_true : (b : Bool) → not b ≡ true → b ≡ false
  not_true true h = never false h refl
  not_true false h = refl

  blocks_parts : (y : Item) → is_blocker day J x a y ≡ true → Blocks y
  blocks_parts y h =
      let p = and_parts (is_pending day J y && stands_on day a y) (stands_before day J x y) h in
      let q = and_parts (is_pending day J y) (stands_on day a y) p.0 in
      let r = and_parts (not (is_normal (priority_as (sort_of day y.msg) day y.msg))) (is_ahead (standing day J y) (standing day J x)) p.1 in
      record { pending = q.0; on = q.1; before_all = not_true _ r.0; ahead = r.1 }

  from_blocks : (y : Item) → is_pending day J y ≡ true → stands_on day a y ≡ true → priority_as (sort_of day y.msg) day y.msg < 2 → is_ahead (standing day J y) (standing day J x) ≡ true → is_blocker day J x a y ≡ true
  from_blocks y pending on low ahead = and_from _ _ (and_from _ _ pending on) (and_from _ _ (not_normal (priority_as (sort_of day y.msg) day y.msg) low) ahead)
    where
      not_normal : (p : ℕ) → p < 2 → not (is_normal p) ≡ true
      not_normal zero l = refl
      not_normal (suc zero) l = refl
      not_normal (suc (suc p)) l = absurd (omega (arith, l))

  law : BlockerIsTheForemost day J x a
  law = blocker_is_the_foremost day J x a

  -- what blocks and isn't stood before is the first blocker
  only_first : (y : Item) → is_blocker day J x a y ≡ true → ((f : Item) → is_blocker day J x a f ≡ true → is_ahead (standing day J f) (standing day J y) ≡ true → ⊥) → Some y ≡ first_blocker day J x a
  only_first y b least = here (first_blocker day J x a) refl (law.1 y b)
    where
      here : (o : Option Item) → first_blocker day J x a ≡ o → is_some (first_blocker day J x a) ≡ true → Some y ≡ first_blocker day J x a
      here None e h = never (is_some (first_blocker day J x a)) h (ap is_some e)
      here (Some f) e h =
          let foremost = law.0 f e in
          elim (foremost.1 y b) [
            | inl same ↦ ap Some same ∙ sym e
            | inr before ↦ absurd (least f foremost.0 before.0)
          ]

  none_first : ((f : Item) → is_blocker day J x a f ≡ true → ⊥) → None ≡ first_blocker day J x a
  none_first none = here (first_blocker day J x a) refl
    where
      here : (o : Option Item) → first_blocker day J x a ≡ o → None ≡ first_blocker day J x a
      here None e = sym e
      here (Some f) e = absurd (none f (law.0 f e).0)

  -- nothing of this priority blocks
  abbrev NoneOf : ℕ → Type 0
  NoneOf p = (f : Item) → is_blocker day J x a f ≡ true → priority_as (sort_of day f.msg) day f.msg ≡ p → ⊥

  none_ahead : (p : ℕ) (o : Option Item) → IsHead day J a p o → ahead_by day J (standing day J x) o ≡ None → NoneOf p
  none_ahead p None first e f b same = let parts = blocks_parts f b in first f parts.pending parts.on same
  none_ahead p (Some y) first e f b same =
      let parts = blocks_parts f b in
      between (standing day J f) (standing day J x) (standing day J (whole day y)) parts.ahead (not_so (is_ahead (standing day J (whole day y)) (standing day J x)) e) (first.3 f parts.pending parts.on same)
    where
      not_so : (b : Bool) → (if b then Some (whole day y) else None) ≡ None → b ≡ true → ⊥
      not_so true e h = cc
      not_so false e h = cc

  low_priority : (f : Item) → is_blocker day J x a f ≡ true → (priority_as (sort_of day f.msg) day f.msg ≡ 0) ⊎ (priority_as (sort_of day f.msg) day f.msg ≡ 1)
  low_priority f b = here (priority_as (sort_of day f.msg) day f.msg) (blocks_parts f b).before_all (three (sort_of day f.msg))
    where
      high_or_normal : (b : Bool) → (if b then 1 else 2) ≤ 2
      high_or_normal true = omega arith
      high_or_normal false = omega arith

      three : (s : Sort) → priority_as s day f.msg ≤ 2
      three Pay = high_or_normal (is_high day f.msg)
      three _ = omega arith

      here : (p : ℕ) → is_normal p ≡ false → p ≤ 2 → (p ≡ 0) ⊎ (p ≡ 1)
      here zero h l = inl refl
      here (suc zero) h l = inr refl
      here (suc (suc zero)) h l = cc
      here (suc (suc (suc p))) h l = absurd (omega (arith, l))

  -- the head of a band, where it is ahead, and nothing of the bands before it blocks
  head_first : (p : ℕ) (y : Item) → p < 2 → IsHead day J a p (Some y) → ((f : Item) → is_blocker day J x a f ≡ true → priority_as (sort_of day f.msg) day f.msg < p → ⊥) →
      is_ahead (standing day J (whole day y)) (standing day J x) ≡ true → Some (whole day y) ≡ first_blocker day J x a
  head_first p y low first none ahead =
      only_first (whole day y) (from_blocks (whole day y) first.0 first.1 (subst (λ q. q < 2) (sym first.2) low) ahead)
      (λ f b before.
      let parts = blocks_parts f b in
      let le : priority_as (sort_of day f.msg) day f.msg ≤ priority_as (sort_of day (whole day y).msg) day (whole day y).msg = priority_le (standing day J f) (standing day J (whole day y)) before in
      let is_p : priority_as (sort_of day (whole day y).msg) day (whole day y).msg ≡ p = first.2 in
      elim (cases_eq (priority_as (sort_of day f.msg) day f.msg) p) [
        | inl same ↦ first.3 f parts.pending parts.on same before
        | inr ne ↦ none f b (omega (arith, le, is_p, ne))
      ])

  by_high : (high : Option Item) → NoneOf 0 → IsHead day J a 1 high → ahead_by day J (standing day J x) high ≡ first_blocker day J x a
  by_high None none first = none_first (λ f b. elim (low_priority f b) [ inl e ↦ none f b e | inr e ↦ none_ahead 1 None first refl f b e ])
  by_high (Some y) none first = here (is_ahead (standing day J (whole day y)) (standing day J x)) refl
    where
      here : (b : Bool) → is_ahead (standing day J (whole day y)) (standing day J x) ≡ b → ahead_by day J (standing day J x) (Some y) ≡ first_blocker day J x a
      here true e = ap (λ b. if b then Some (whole day y) else None) e ∙ head_first 1 y (omega arith) first (λ f b l. none f b (omega (arith, l))) e
      here false e =
          let gone : ahead_by day J (standing day J x) (Some y) ≡ None = ap (λ b. if b then Some (whole day y) else None) e in
          gone ∙ none_first (λ f b. elim (low_priority f b) [ inl q ↦ none f b q | inr q ↦ none_ahead 1 (Some y) first gone f b q ])

  pub blocker_is : (urgent high : Option Item) → IsHead day J a 0 urgent → IsHead day J a 1 high → blocker_by day J x urgent high ≡ first_blocker day J x a
  blocker_is None high u h = by_high high (none_ahead 0 None u refl) h
  blocker_is (Some y) high u h = here (is_ahead (standing day J (whole day y)) (standing day J x)) refl
    where
      here : (b : Bool) → is_ahead (standing day J (whole day y)) (standing day J x) ≡ b → blocker_by day J x (Some y) high ≡ first_blocker day J x a
      here true e = ap (λ b. option_or (if b then Some (whole day y) else None) (ahead_by day J (standing day J x) high)) e ∙ head_first 0 y (omega arith) u (λ f b l. absurd (omega (arith, l))) e
      here false e =
          let gone : ahead_by day J (standing day J x) (Some y) ≡ None = ap (λ b. if b then Some (whole day y) else None) e in
          ap (λ o. option_or o (ahead_by day J (standing day J x) high)) gone ∙ by_high high (none_ahead 0 (Some y) u gone) h

-- an account that the day doesn't have has no pending item
pub none_past : (day : Day) (J : History) (x : Item) (a : ℕ) → length day.accounts + 1 ≤ a → None ≡ first_blocker day J x a
none_past day J x a past = none_first day J x a (λ f b.
    let parts = blocks_parts day J x a f b in
    let r = row_there day J a f parts.pending parts.on in
    let on : band day r.0 ≡ a + 1 = r.1.on in
    let small : band day r.0 ≤ length day.accounts + 1 = band_small day r.0 in
    omega (arith, on, small, past))

-- ---- the head of an account

pub not_blocked : (day : Day) (J : History) (x : Item) (a : ℕ) → ((y : Item) → is_blocker day J x a y ≡ true → ⊥) → is_blocked day J x a ≡ false
unfolding is_blocked is_blocked_by
not_blocked day J x a none = false_from_ne_true (list_any (is_blocked_by day J x a) (message_numbers day)) (λ b. at_message (any-at (is_blocked_by day J x a) 1 (length day.messages) b))
  where
    at_item : (n : ℕ) → (k : ℕ) × (0 ≤ k) × (k < 0 + suc (length (entries day n))) × (is_blocker day J x a (item n k) ≡ true) → ⊥
    at_item n (k, _, _, b) = none (item n k) b

    at_message : (n : ℕ) × (1 ≤ n) × (n < 1 + length day.messages) × (is_blocked_by day J x a n ≡ true) → ⊥
    at_message (n, _, _, b) = at_item n (any-at (λ k. is_blocker day J x a (item n k)) 0 (suc (length (entries day n))) b)

abbrev rank_of : Day → Item → ℕ
rank_of day y = priority_as (sort_of day y.msg) day y.msg

rank_low : (day : Day) (y : Item) → rank_of day y ≤ 2
rank_low day y = three (sort_of day y.msg)
  where
    high_or_normal : (b : Bool) → (if b then 1 else 2) ≤ 2
    high_or_normal true = omega arith
    high_or_normal false = omega arith

    three : (s : Sort) → priority_as s day y.msg ≤ 2
    three Pay = high_or_normal (is_high day y.msg)
    three _ = omega arith

normal_else : (p : ℕ) → p ≤ 2 → (p ≡ 0 → ⊥) → (p ≡ 1 → ⊥) → is_normal p ≡ true
normal_else zero l u h = absurd (u refl)
normal_else (suc zero) l u h = absurd (h refl)
normal_else (suc (suc zero)) l u h = refl
normal_else (suc (suc (suc p))) l u h = absurd (omega (arith, l))

module _ (day : Day) (J : History) (a : ℕ) where
  -- nothing of a lower rank is pending on the account
  abbrev NoneBelow : ℕ → Type 0
  NoneBelow p = (y : Item) → is_pending day J y ≡ true → stands_on day a y ≡ true → rank_of day y < p → ⊥

  head_at : (p : ℕ) (x : Item) → is_normal p ≡ false → IsHead day J a p (Some x) → NoneBelow p → IsHeadOf day J a (whole day x)
  head_at p x low first none = record {
    pending = first.0;
    on = first.1;
    before_others = ap is_normal first.2 ∙ low;
    free = not_blocked day J (whole day x) a (λ y b.
        let parts = blocks_parts day J (whole day x) a y b in
        let le : rank_of day y ≤ rank_of day (whole day x) = priority_le (standing day J y) (standing day J (whole day x)) parts.ahead in
        let own : rank_of day (whole day x) ≡ p = first.2 in
        elim (cases_eq (rank_of day y) p) [
          | inl same ↦ first.3 y parts.pending parts.on same parts.ahead
          | inr ne ↦ none y parts.pending parts.on (omega (arith, le, own, ne))
        ]);
  }

  one_or_less : (p : ℕ) → p < 1 → p ≡ 0
  one_or_less p l = omega (arith, l)

  pub head_is_on : (urgent high : Option Item) → IsHead day J a 0 urgent → IsHead day J a 1 high → IsHeadOn day J a (head_by day urgent high)
  head_is_on (Some x) high u h = head_at 0 x refl u (λ y p o l. omega (arith, l))
  head_is_on None (Some x) u h = head_at 1 x refl h (λ y p o l. u y p o (one_or_less (rank_of day y) l))
  head_is_on None None u h = λ y p o. normal_else (rank_of day y) (rank_low day y) (u y p o) (h y p o)

-- an account that the day doesn't have has none
pub no_head_past : (day : Day) (J : History) (a : ℕ) → length day.accounts + 1 ≤ a → IsHeadOn day J a None
no_head_past day J a past y pending there =
    let r = row_there day J a y pending there in
    let on : band day r.0 ≡ a + 1 = r.1.on in
    let small : band day r.0 ≤ length day.accounts + 1 = band_small day r.0 in
    absurd (omega (arith, on, small, past))
