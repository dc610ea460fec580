-- The sums over the items that are counted: over none, over one more or one less, and over those that are pending.
use Rattle.std.proofs.Common.{◌≡◌, ◌∙◌, ◌↔◌, ℕ, zero, suc, ◌+◌, ◌-◌, ◌*◌, ◌^◌, ◌≤◌, ◌<◌, Bool, true, false, List, [], ◌∷◌, length, None, Some, replicate, refl, sym, ap, subst, arith, ⊎_elim, if◌then◌else◌, get_or-set_same, get_or-set_other}
use Rattle.std.specs.Prelude.{slice_set, sum_by}
use Rattle.std.specs.List.{range_with_len}
use Rattle.std.proofs.lemmas.Bool.{cases_Bool, cases_eq, cases_lt, false_from_ne_true}
use Rattle.std.proofs.lemmas.List.{length-replicate, length-set}
use Rattle.batch_records.specs.DayRecord.{Day}
use Rattle.commit_journal.specs.Line.{Line, History}
use Rattle.machine.specs.declared.answers.Item.{Item}
use Rattle.machine.specs.Telling.History.{place_of}
use Rattle.machine.specs.Stages.Pending.{is_pending, item}
use Rattle.machine.specs.Legal.{IsLegal}
use Rattle.settlement_laws.proofs.Base.Lists.{never}
use Rattle.settlement_laws.proofs.Wants.PlacesDiffer.{pending_taken}
use Rattle.number_set.specs.Members.{IsEmpty, has}
use Rattle.scan_laws.specs.Items.{concerns_item}
use Rattle.scan_laws.specs.Numbers.{before, item_count, item_of, items_after}
use Rattle.scan_laws.proofs.Items.{same_item}
use Rattle.scan_laws.proofs.NumberFacts.{item-is, number-back, place_in-at}
use Rattle.number_set.specs.Next.{IsLeast, IsNext}
use Rattle.due_items.specs.Kept.{Due, KeepsDue, Tells}
use Rattle.liquidity_view.specs.declared.sides.Side.{Side}
use Rattle.liquidity_view.specs.declared.sides.Side.TheVariants as sides
use Rattle.liquidity_view.specs.Counted.{AddsUp, AreLow, Counted, IsLowAt, Recounts, counted, counted_at, most_of_an_item, none_counted, pending_at, share_at}
use Rattle.liquidity_view.specs.Figures.{item_share, queued, queued_item, queued_of}
use Rattle.liquidity_view.proofs.Sums.{sum_by_groups, sum_from, sum_less, sum_low, sum_of_zeros, sum_within}

-- ---- none

none_has : (count i : ℕ) → has (replicate count false) i ≡ false
none_has zero i = refl
none_has (suc count) zero = refl
none_has (suc count) (suc i) = none_has count i

none_sum : (side : Side) (day : Day) (name : List ℕ) (count : ℕ) → 0 ≡ counted side day name (replicate count false)
none_sum side day name count =
    sym (sum_of_zeros (counted_at side day name (replicate count false)) 0 (length (replicate count false)) (λ i. ap (λ b. if b then share_at side day name i else 0) (none_has count i)))

pub none_adds_up : (day : Day) (name : List ℕ) (c : Counted) → c ≡ none_counted (item_count day) → length c.set < 2 ^ 32 → AddsUp day name c
none_adds_up day name c e few = subst (AddsUp day name) (sym e) (record {
  room = length-replicate (item_count day) false;
  few = subst (λ (x : Counted). length x.set < 2 ^ 32) e few;
  low_out = λ i h. never (has (replicate (item_count day) false) i) h (none_has (item_count day) i);
  low_in = λ i h. never (has (replicate (item_count day) false) i) h (none_has (item_count day) i);
  leaving = none_sum sides.Out day name (item_count day);
  coming = none_sum sides.In day name (item_count day);
})

-- over no lines nothing is pending
pub none_pending : (day : Day) (c : Counted) → c ≡ none_counted (item_count day) → (i : ℕ) → has c.set i ≡ pending_at day [] i
unfolding place_of
none_pending day c e i =
    ap (λ (x : Counted). has x.set i) e ∙ none_has (item_count day) i
    ∙ sym (false_from_ne_true (is_pending day [] (item_of day i)) (λ h. never false (pending_taken day [] (item_of day i) h) refl))

-- ---- the flag of one item

-- the flag at i, and the others
set_here : (set : List Bool) (i : ℕ) (b : Bool) → i < length set → has (slice_set set i b) i ≡ b
set_here set i b within = get_or-set_same set i b false within

set_there : (set : List Bool) (i j : ℕ) (b : Bool) → (j ≡ i → ⊥) → has (slice_set set i b) j ≡ has set j
set_there set i j b ne = get_or-set_other set i j b false ne

one_more : (side : Side) (day : Day) (name : List ℕ) (set : List Bool) (i : ℕ) → i < length set → has set i ≡ false → counted side day name (slice_set set i true) ≡ counted side day name set + share_at side day name i
one_more side day name set i within e =
    ap (λ len. sum_by (counted_at side day name (slice_set set i true)) (range_with_len 0 len)) (length-set set i true)
    ∙ sum_less (counted_at side day name (slice_set set i true)) (counted_at side day name set) (share_at side day name i) i 0 i (length set) (omega arith) within here there
  where
    share : ℕ
    share = share_at side day name i

    here : counted_at side day name (slice_set set i true) i ≡ counted_at side day name set i + share
    here =
        let a : counted_at side day name (slice_set set i true) i ≡ share = ap (λ b. if b then share else 0) (set_here set i true within) in
        let c : counted_at side day name set i ≡ 0 = ap (λ b. if b then share else 0) e in
        omega (arith, a, c)

    there : (j : ℕ) → (j ≡ i → ⊥) → counted_at side day name (slice_set set i true) j ≡ counted_at side day name set j
    there j ne = ap (λ b. if b then share_at side day name j else 0) (set_there set i j true ne)

one_less : (side : Side) (day : Day) (name : List ℕ) (set : List Bool) (i : ℕ) → i < length set → has set i ≡ true → counted side day name set ≡ counted side day name (slice_set set i false) + share_at side day name i
one_less side day name set i within e =
    sum_less (counted_at side day name set) (counted_at side day name (slice_set set i false)) (share_at side day name i) i 0 i (length set) (omega arith) within here there
    ∙ ap (λ len. sum_by (counted_at side day name (slice_set set i false)) (range_with_len 0 len) + share_at side day name i) (sym (length-set set i false))
  where
    share : ℕ
    share = share_at side day name i

    here : counted_at side day name set i ≡ counted_at side day name (slice_set set i false) i + share
    here =
        let a : counted_at side day name (slice_set set i false) i ≡ 0 = ap (λ b. if b then share else 0) (set_here set i false within) in
        let c : counted_at side day name set i ≡ share = ap (λ b. if b then share else 0) e in
        omega (arith, a, c)

    there : (j : ℕ) → (j ≡ i → ⊥) → counted_at side day name set j ≡ counted_at side day name (slice_set set i false) j
    there j ne = ap (λ b. if b then share_at side day name j else 0) (sym (set_there set i j false ne))

still_low : (side : Side) (day : Day) (name : List ℕ) (set : List Bool) (i : ℕ) (b : Bool) → i < length set → (b ≡ true → IsLowAt side day name i) → ((j : ℕ) → has set j ≡ true → IsLowAt side day name j) → (j : ℕ) → has (slice_set set i b) j ≡ true → IsLowAt side day name j
still_low side day name set i b within own low j h =
    ⊎_elim
    (λ (e : j ≡ i). subst (IsLowAt side day name) (sym e) (own (sym (set_here set i b within) ∙ (ap (has (slice_set set i b)) (sym e) ∙ h))))
    (λ (ne : j ≡ i → ⊥). low j (sym (set_there set i j b ne) ∙ h))
    (cases_eq j i)

-- what the code asks for is the share of the item of that number
abbrev pub IsShare : Side → Day → List ℕ → Item → ℕ → Type 0
IsShare side day name x v = (v ≡ item_share side day name x.msg x.entry) × (v ≤ most_of_an_item)

share_is : (side : Side) (day : Day) (name : List ℕ) (x : Item) (i v : ℕ) → x ≡ item_of day i → IsShare side day name x v → (v ≡ share_at side day name i) × IsLowAt side day name i
share_is side day name x i v at is =
    let e : v ≡ share_at side day name i = is.0 ∙ ap (λ (y : Item). item_share side day name y.msg y.entry) at in
    (e, subst (λ (s : ℕ). s ≤ most_of_an_item) e is.1)

pub added : (day : Day) (name : List ℕ) (c old : Counted) (i : ℕ) (x : Item) (out into : ℕ) → c ≡ old → AddsUp day name old → i < length old.set → x ≡ item_of day i → has old.set i ≡ false → IsShare sides.Out day name x out → IsShare sides.In day name x into →
    AddsUp day name (record { set = slice_set c.set i true; leaving = c.leaving + out; coming = c.coming + into })
added day name c old i x out into same before low at e is_out is_in =
    let o = share_is sides.Out day name x i out at is_out in
    let n = share_is sides.In day name x i into at is_in in
    let sums : AddsUp day name c = subst (AddsUp day name) (sym same) before in
    let within : i < length c.set = subst (λ (v : Counted). i < length v.set) (sym same) low in
    let flag : has c.set i ≡ false = ap (λ (v : Counted). has v.set i) same ∙ e in
    record {
      room = length-set c.set i true ∙ sums.room;
      few = subst (λ (len : ℕ). len < 2 ^ 32) (sym (length-set c.set i true)) sums.few;
      low_out = still_low sides.Out day name c.set i true within (λ h. o.1) sums.low_out;
      low_in = still_low sides.In day name c.set i true within (λ h. n.1) sums.low_in;
      leaving = (λ t. sums.leaving t + o.0 t) ∙ sym (one_more sides.Out day name c.set i within flag);
      coming = (λ t. sums.coming t + n.0 t) ∙ sym (one_more sides.In day name c.set i within flag);
    }

-- what is taken off was counted
taken_from : (side : Side) (day : Day) (name : List ℕ) (set : List Bool) (i : ℕ) (x : Item) (sum v : ℕ) → i < length set → x ≡ item_of day i → has set i ≡ true → sum ≡ counted side day name set → IsShare side day name x v → sum ≡ counted side day name (slice_set set i false) + v
taken_from side day name set i x sum v within at e s is =
    s ∙ (one_less side day name set i within e ∙ ap (λ share. counted side day name (slice_set set i false) + share) (sym (share_is side day name x i v at is).0))

-- so there is enough on each side
pub enough_out : (day : Day) (name : List ℕ) (c old : Counted) (i : ℕ) (x : Item) (v : ℕ) → c ≡ old → AddsUp day name old → i < length old.set → x ≡ item_of day i → has old.set i ≡ true → IsShare sides.Out day name x v → v ≤ c.leaving
enough_out day name c old i x v same before low at e is =
    let t = taken_from sides.Out day name old.set i x old.leaving v low at e before.leaving is in
    let q : c.leaving ≡ old.leaving = ap (λ (w : Counted). w.leaving) same in
    omega (arith, t, q)

pub enough_in : (day : Day) (name : List ℕ) (c old : Counted) (i : ℕ) (x : Item) (v : ℕ) → c ≡ old → AddsUp day name old → i < length old.set → x ≡ item_of day i → has old.set i ≡ true → IsShare sides.In day name x v → v ≤ c.coming
enough_in day name c old i x v same before low at e is =
    let t = taken_from sides.In day name old.set i x old.coming v low at e before.coming is in
    let q : c.coming ≡ old.coming = ap (λ (w : Counted). w.coming) same in
    omega (arith, t, q)

pub taken_off : (day : Day) (name : List ℕ) (c old : Counted) (i : ℕ) (x : Item) (out into : ℕ) → c ≡ old → AddsUp day name old → i < length old.set → x ≡ item_of day i → has old.set i ≡ true → IsShare sides.Out day name x out → IsShare sides.In day name x into →
    AddsUp day name (record { set = slice_set c.set i false; leaving = c.leaving - out; coming = c.coming - into })
taken_off day name c old i x out into same before low at e is_out is_in =
    let sums : AddsUp day name c = subst (AddsUp day name) (sym same) before in
    let within : i < length c.set = subst (λ (v : Counted). i < length v.set) (sym same) low in
    let flag : has c.set i ≡ true = ap (λ (v : Counted). has v.set i) same ∙ e in
    let o : c.leaving ≡ counted sides.Out day name (slice_set c.set i false) + out = taken_from sides.Out day name c.set i x c.leaving out within at flag sums.leaving is_out in
    let n : c.coming ≡ counted sides.In day name (slice_set c.set i false) + into = taken_from sides.In day name c.set i x c.coming into within at flag sums.coming is_in in
    record {
      room = length-set c.set i false ∙ sums.room;
      few = subst (λ (len : ℕ). len < 2 ^ 32) (sym (length-set c.set i false)) sums.few;
      low_out = still_low sides.Out day name c.set i false within (λ h. never false h refl) sums.low_out;
      low_in = still_low sides.In day name c.set i false within (λ h. never false h refl) sums.low_in;
      leaving = omega (arith, o);
      coming = omega (arith, n);
    }

-- a flag that stays
pub set_same : (set : List Bool) (i : ℕ) (b : Bool) → i < length set → has set i ≡ b → slice_set set i b ≡ set
set_same [] i b within e = absurd (omega (arith, within))
set_same (x ∷ xs) zero b within e = ap (λ y. y ∷ xs) (sym e)
set_same (x ∷ xs) (suc i) b within e = ap (λ ys. x ∷ ys) (set_same xs i b (omega (arith, within)) e)

-- a flag that is to change
pub differs_on : (one other same : Bool) → ((same ≡ true) ↔ (one ≡ other)) → same ≡ false → other ≡ true → one ≡ false
differs_on false other same is f e = refl
differs_on true other same is f e = never same (is.1 (sym e)) f

pub differs_off : (one other same : Bool) → ((same ≡ true) ↔ (one ≡ other)) → same ≡ false → other ≡ false → one ≡ true
differs_off true other same is f e = refl
differs_off false other same is f e = never same (is.1 (sym e)) f

-- ---- the sums are low

pub sums_low : (day : Day) (name : List ℕ) (c : Counted) → AddsUp day name c → AreLow c.leaving c.coming
sums_low day name c sums = record { leaving_low = low sides.Out c.leaving sums.low_out sums.leaving; coming_low = low sides.In c.coming sums.low_in sums.coming }
  where
    each : (side : Side) → ((i : ℕ) → has c.set i ≡ true → IsLowAt side day name i) → (i : ℕ) (b : Bool) → has c.set i ≡ b → (if b then share_at side day name i else 0) ≤ most_of_an_item
    each side h i true e = h i e
    each side h i false e = omega arith

    low : (side : Side) (sum : ℕ) → ((i : ℕ) → has c.set i ≡ true → IsLowAt side day name i) → sum ≡ counted side day name c.set → sum ≤ most_of_an_item * 2 ^ 32
    low side sum h e =
        let a : counted side day name c.set ≤ most_of_an_item * length c.set = sum_low (counted_at side day name c.set) most_of_an_item 0 (length c.set) (λ i. each side h i (has c.set i) refl) in
        let few : length c.set < 2 ^ 32 = sums.few in
        omega (arith, a, e, few)

-- ---- the sums over what is pending

module _ (side : Side) (day : Day) (name : List ℕ) (J : History) where
  -- what an item adds to the queue
  abbrev queued_at : Item → ℕ
  queued_at x = if is_pending day J x then item_share side day name x.msg x.entry else 0

  abbrev size : ℕ → ℕ
  size = items_after day

  item_there : (m k : ℕ) → m < length day.messages → k < size m → item_of day (before size m + k) ≡ item (suc m) k
  unfolding item_of
  item_there m k low within = ap (λ (g : ℕ × ℕ). item (suc g.0) g.1) (place_in-at size (length day.messages) m k low within)

  place_is : (m k : ℕ) → m < length day.messages → k < size m → queued_at (item_of day (before size m + k)) ≡ queued_item side day name J (suc m) k
  place_is m k low within = ap queued_at (item_there m k low within)

  group_is : (m : ℕ) → m < length day.messages → sum_by (λ k. queued_at (item_of day (before size m + k))) (range_with_len 0 (size m)) ≡ queued_of side day name J (suc m)
  unfolding queued_of
  group_is m low = sum_within (λ k. queued_at (item_of day (before size m + k))) (queued_item side day name J (suc m)) 0 (size m) (λ k from to. place_is m k low (omega (arith, to)))

  next : (m : ℕ) → suc m ≡ 1 + m
  next m = omega arith

  all_queued : sum_by (λ i. queued_at (item_of day i)) (range_with_len 0 (item_count day)) ≡ queued side day name J
  unfolding item_count
  all_queued =
      sum_by_groups size (λ i. queued_at (item_of day i)) (length day.messages)
      ∙ (sum_within (λ m. sum_by (λ k. queued_at (item_of day (before size m + k))) (range_with_len 0 (size m))) (λ m. queued_of side day name J (1 + m)) 0 (length day.messages) (λ m from to. group_is m (omega (arith, to)) ∙ ap (queued_of side day name J) (next m))
      ∙ sym (sum_from (queued_of side day name J) 1 0 (length day.messages)))

  pub counted_queued : (set : List Bool) (sum : ℕ) → length set ≡ item_count day → ((i : ℕ) → i < item_count day → has set i ≡ pending_at day J i) → sum ≡ counted side day name set → sum ≡ queued side day name J
  counted_queued set sum room exact e =
      e ∙ (ap (λ len. sum_by (counted_at side day name set) (range_with_len 0 len)) room
      ∙ (sum_within (counted_at side day name set) (λ i. queued_at (item_of day i)) 0 (item_count day) (λ i from to. ap (λ b. if b then share_at side day name i else 0) (exact i (omega (arith, to))))
      ∙ all_queued))

-- ---- one line more

module _ (day : Day) (K : History) where
  pub none_recounted : (which : ℕ → Type 0) (set : List Bool) → ((i : ℕ) → which i → ⊥) → Recounts day K which set set
  none_recounted which set none = record { own = λ i low is. absurd (none i is); others = λ i low e. e }

  -- the next item
  pub one_recounted : (which more : ℕ → Type 0) (old set new : List Bool) (number : ℕ) → Recounts day K which old set → number < length set → new ≡ slice_set set number (pending_at day K number) → ((i : ℕ) → more i → (i ≡ number → ⊥) → which i) → Recounts day K more old new
  one_recounted which more old set new number so within e either = record {
    own = λ i low is. ⊎_elim
        (λ (q : i ≡ number). this i q)
        (λ (ne : i ≡ number → ⊥). other i ne ∙ so.own i low (either i is ne))
        (cases_eq i number);
    others = λ i low right. ⊎_elim
        (λ (q : i ≡ number). this i q)
        (λ (ne : i ≡ number → ⊥). other i ne ∙ so.others i low right)
        (cases_eq i number);
  }
    where
      this : (i : ℕ) → i ≡ number → has new i ≡ pending_at day K i
      this i q = (λ t. has (e t) (q t)) ∙ (set_here set number (pending_at day K number) within ∙ ap (pending_at day K) (sym q))

      other : (i : ℕ) → (i ≡ number → ⊥) → has new i ≡ has set i
      other i ne = ap (λ xs. has xs i) e ∙ set_there set number i (pending_at day K number) ne

  pub recounted_more : (which more : ℕ → Type 0) (old new : List Bool) → Recounts day K which old new → ((i : ℕ) → more i → which i) → Recounts day K more old new
  recounted_more which more old new so into = record { own = λ i low is. so.own i low (into i is); others = so.others }

-- what the line doesn't concern is pending as before, and what it concerns was brought up to date
pub line_counted : (day : Day) (J later : History) (l : Line) (told old new : List Bool) → later ≡ l ∷ J → IsLegal day later → Tells day J l told → ((i : ℕ) → i < item_count day → has old i ≡ pending_at day J i) → Recounts day later (λ i. has told i ≡ true) old new → (i : ℕ) → i < item_count day → has new i ≡ pending_at day later i
line_counted day J later l told old new e legal tells exact so i low = ⊎_elim
    (λ (c : concerns_item day J l n k ≡ true). so.own i low (subst (λ (j : ℕ). has told j ≡ true) (number-back day i low) (tells n k (item-is day i low) c)))
    (λ (c : concerns_item day J l n k ≡ false). so.others i low (exact i low ∙ (sym (same_item day J l n k (subst (IsLegal day) e legal) c).same_pending ∙ ap (λ (H : History). pending_at day H i) (sym e))))
    (cases_Bool (concerns_item day J l n k))
  where
    n : ℕ
    n = (item_of day i).msg

    k : ℕ
    k = (item_of day i).entry

-- ---- the items that were brought up to date, one after the other

-- one that was passed by is below where the next one was looked for
pub looked_at : (from number i : ℕ) (old now : List Bool) → IsLeast (has now) from number → ((k : ℕ) → from ≤ k → has now k ≡ has old k) → i < number + 1 → has old i ≡ true → (i ≡ number → ⊥) → i < from
looked_at from number i old now least same low told ne = ⊎_elim
    (λ (l : i < from). l)
    (λ (l : from ≤ i). never (has now i) (same i l ∙ told) (least.none_before i l (omega (arith, low, ne))))
    (cases_lt i from)

pub below_end : (from i : ℕ) (old now : List Bool) → IsNext (has now) from None → ((k : ℕ) → from ≤ k → has now k ≡ has old k) → has old i ≡ true → i < from
below_end from i old now none same told = ⊎_elim
    (λ (l : i < from). l)
    (λ (l : from ≤ i). never (has now i) (same i l ∙ told) (none i l))
    (cases_lt i from)

-- those below `from` are no members, and with the one that is taken off none up to it
pub gone_then : (set : List Bool) (from i j : ℕ) → ((k : ℕ) → k < from → has set k ≡ false) → IsLeast (has set) from i → i < length set → j < i + 1 → has (slice_set set i false) j ≡ false
gone_then set from i j gone least within l = ⊎_elim
    (λ (e : j ≡ i). ap (has (slice_set set i false)) e ∙ get_or-set_same set i false _ within)
    (λ (ne : j ≡ i → ⊥). get_or-set_other set i j false _ ne ∙ ⊎_elim (λ (low : j < from). gone j low) (λ (high : from ≤ j). least.none_before j high (omega (arith, l, ne))) (cases_lt j from))
    (cases_eq j i)

pub none_left : (set : List Bool) (from : ℕ) → ((k : ℕ) → k < from → has set k ≡ false) → IsNext (has set) from None → IsEmpty set
none_left set from gone none k = ⊎_elim (λ (low : k < from). gone k low) (λ (high : from ≤ k). none k high) (cases_lt k from)

pub due_forgets : (day : Day) (K : History) (due : Due) (i : ℕ) (new : Due) → KeepsDue day K due → new ≡ record { index = due.index; set = due.set; renewed = slice_set due.renewed i false; room = due.room } → KeepsDue day K new
due_forgets day K due i new k e = subst (KeepsDue day K) (sym e) (record { index = k.index; exact = k.exact; room = length-set due.renewed i false ∙ k.room; rest = k.rest })

-- ---- the item of a number

pub some_item : (x y : Item) → Some x ≡ Some y → x ≡ y
some_item x y e = cc

pub no_item : {A : Type 0} (x : Item) → None ≡ Some x → A
no_item x e = cc
