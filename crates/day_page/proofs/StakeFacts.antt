-- What waits of a priority is what its items do, and what a line leaves of it.
use Rattle.std.proofs.Common.{◌≡◌, ◌∙◌, ℕ, zero, suc, ◌+◌, ◌-◌, ◌*◌, ◌^◌, ◌≤◌, ◌<◌, Bool, true, false, List, [], ◌∷◌, None, Some, length, replicate, refl, sym, ap, subst, arith, if◌then◌else◌, get_or-set_same, get_or-set_other, ⊎_elim}
use Rattle.std.specs.Prelude.{is_some, max, nat_eq, nat_lt, slice_index_or, slice_set, sum_by, unwrap_or}
use Rattle.std.specs.List.{range_with_len}
use Rattle.std.proofs.lemmas.Bool.{cases_eq, cases_lt, eqb-false, eqb-true, false≢true}
use Rattle.std.proofs.lemmas.List.{length-replicate, length-set}
use Rattle.std.proofs.lemmas.List.Sums.{sum_by-cons}
use Rattle.batch_records.specs.DayRecord.{Day}
use Rattle.commit_journal.specs.Line.{History, Line}
use Rattle.commit_journal.specs.Histories.{oldest}
use Rattle.machine.specs.Words.{is_zero}
use Rattle.machine.specs.Legal.{IsLegal}
use Rattle.machine.specs.Records.Messages.{entries, is_b, item_numbers, message_numbers, sort_of}
use Rattle.machine.specs.Stages.Pending.{is_pending, item}
use Rattle.machine.specs.Telling.History.{clock}
use Rattle.number_set.specs.Members.{has}
use Rattle.number_set.specs.Next.{IsLeast, IsNext}
use Rattle.scan_laws.specs.Items.{concerns_item}
use Rattle.scan_laws.specs.Numbers.{before, item_count, item_of, items_after, place_in}
use Rattle.scan_laws.proofs.Items.{same_item}
use Rattle.scan_laws.proofs.NumberFacts.{item-is, number-back, place_in-at}
use Rattle.due_items.specs.Kept.{Due, KeepsDue, Tells}
use Rattle.day_page.specs.declared.ledger.Ledger.{Ledger}
use Rattle.day_page.specs.declared.peaks.Peaks.{Peaks}
use Rattle.day_page.specs.declared.waits.Queue.{Queue}
use Rattle.day_page.specs.declared.words.Request.{Request}
use Rattle.day_page.specs.Peaks.{peak, peaks}
use Rattle.day_page.specs.Stakes.{IsKept, IsKeptBelow, IsKeptBut, IsTallied, TakesStake, counted, has_rank, stake, stake_at, tallied, tally, with_stake}
use Rattle.day_page.specs.Waits.{cents_of, count_of, entry_cents, has_priority, most_taken, one_if, parts_of, queue, waiting, waits}
use Rattle.day_page.proofs.Ranges.{sum_one_more}

-- ---- sums over ranges

sum_same : (f g : ℕ → ℕ) (s len : ℕ) → ((j : ℕ) → s ≤ j → j < s + len → f j ≡ g j) → sum_by f (range_with_len s len) ≡ sum_by g (range_with_len s len)
sum_same f g s zero h = refl
sum_same f g s (suc len) h =
    let a : sum_by f (s ∷ range_with_len (s + 1) len) ≡ f s + sum_by f (range_with_len (s + 1) len) = sum_by-cons f s (range_with_len (s + 1) len) in
    let b : sum_by g (s ∷ range_with_len (s + 1) len) ≡ g s + sum_by g (range_with_len (s + 1) len) = sum_by-cons g s (range_with_len (s + 1) len) in
    let c : f s ≡ g s = h s (omega arith) (omega arith) in
    let d : sum_by f (range_with_len (s + 1) len) ≡ sum_by g (range_with_len (s + 1) len) = sum_same f g (s + 1) len (λ j low high. h j (omega (arith, low)) (omega (arith, high))) in
    omega (arith, a, b, c, d)

sum_change : (f g : ℕ → ℕ) (k s len : ℕ) → s ≤ k → k < s + len → ((j : ℕ) → (k ≡ j → ⊥) → f j ≡ g j) → sum_by f (range_with_len s len) + g k ≡ sum_by g (range_with_len s len) + f k
sum_change f g k s zero low high h = absurd (omega (arith, low, high))
sum_change f g k s (suc len) low high h = here (λ above. sum_change f g k (s + 1) len above (omega (arith, high)) h) (nat_eq k s) refl
  where
    a : sum_by f (s ∷ range_with_len (s + 1) len) ≡ f s + sum_by f (range_with_len (s + 1) len)
    a = sum_by-cons f s (range_with_len (s + 1) len)

    b : sum_by g (s ∷ range_with_len (s + 1) len) ≡ g s + sum_by g (range_with_len (s + 1) len)
    b = sum_by-cons g s (range_with_len (s + 1) len)

    here : (s + 1 ≤ k → sum_by f (range_with_len (s + 1) len) + g k ≡ sum_by g (range_with_len (s + 1) len) + f k) → (t : Bool) → nat_eq k s ≡ t →
        sum_by f (s ∷ range_with_len (s + 1) len) + g k ≡ sum_by g (s ∷ range_with_len (s + 1) len) + f k
    here rest true e =
        let same : k ≡ s = eqb-true k s e in
        let d : sum_by f (range_with_len (s + 1) len) ≡ sum_by g (range_with_len (s + 1) len) = sum_same f g (s + 1) len (λ j from to. h j (λ q. omega (arith, same, from, q))) in
        let c : f s ≡ f k = ap f (sym same) in
        let i : g s ≡ g k = ap g (sym same) in
        omega (arith, a, b, c, d, i)
    here rest false e =
        let other : k ≡ s → ⊥ = eqb-false k s e in
        let c : f s ≡ g s = h s other in
        let d : sum_by f (range_with_len (s + 1) len) + g k ≡ sum_by g (range_with_len (s + 1) len) + f k = rest (omega (arith, low, other)) in
        omega (arith, a, b, c, d)

no_sum : (s len : ℕ) → sum_by (λ (k : ℕ). 0) (range_with_len s len) ≡ 0
no_sum s zero = refl
no_sum s (suc len) =
    let a : sum_by (λ (k : ℕ). 0) (s ∷ range_with_len (s + 1) len) ≡ 0 + sum_by (λ (k : ℕ). 0) (range_with_len (s + 1) len) = sum_by-cons (λ (k : ℕ). 0) s (range_with_len (s + 1) len) in
    let b : sum_by (λ (k : ℕ). 0) (range_with_len (s + 1) len) ≡ 0 = no_sum (s + 1) len in
    omega (arith, a, b)

-- from another start
moved : (f : ℕ → ℕ) (s t len : ℕ) → sum_by f (range_with_len (s + t) len) ≡ sum_by (λ k. f (s + k)) (range_with_len t len)
moved f s t zero = refl
moved f s t (suc len) =
    let a : sum_by f ((s + t) ∷ range_with_len ((s + t) + 1) len) ≡ f (s + t) + sum_by f (range_with_len ((s + t) + 1) len) = sum_by-cons f (s + t) (range_with_len ((s + t) + 1) len) in
    let b : sum_by (λ k. f (s + k)) (t ∷ range_with_len (t + 1) len) ≡ f (s + t) + sum_by (λ k. f (s + k)) (range_with_len (t + 1) len) = sum_by-cons (λ k. f (s + k)) t (range_with_len (t + 1) len) in
    let e : (s + t) + 1 ≡ s + (t + 1) = omega arith in
    let c : sum_by f (range_with_len ((s + t) + 1) len) ≡ sum_by (λ k. f (s + k)) (range_with_len (t + 1) len) = ap (λ (n : ℕ). sum_by f (range_with_len n len)) e ∙ moved f s (t + 1) len in
    omega (arith, a, b, c)

from_start : (f : ℕ → ℕ) (s len : ℕ) → sum_by f (range_with_len s len) ≡ sum_by (λ k. f (s + k)) (range_with_len 0 len)
from_start f s len = let e : s ≡ s + 0 = omega arith in ap (λ (n : ℕ). sum_by f (range_with_len n len)) e ∙ moved f s 0 len

-- in two parts
parted : (f : ℕ → ℕ) (s a b : ℕ) → sum_by f (range_with_len s (a + b)) ≡ sum_by f (range_with_len s a) + sum_by f (range_with_len (s + a) b)
parted f s a zero =
    let e : a + 0 ≡ a = omega arith in
    let c : sum_by f (range_with_len s (a + 0)) ≡ sum_by f (range_with_len s a) = ap (λ (n : ℕ). sum_by f (range_with_len s n)) e in
    omega (arith, c)
parted f s a (suc b) =
    let e : a + suc b ≡ suc (a + b) = omega arith in
    let c : sum_by f (range_with_len s (a + suc b)) ≡ sum_by f (range_with_len s (suc (a + b))) = ap (λ (n : ℕ). sum_by f (range_with_len s n)) e in
    let m : sum_by f (range_with_len s (suc (a + b))) ≡ sum_by f (range_with_len s (a + b)) + f (s + (a + b)) = sum_one_more f s (a + b) in
    let n : sum_by f (range_with_len (s + a) (suc b)) ≡ sum_by f (range_with_len (s + a) b) + f ((s + a) + b) = sum_one_more f (s + a) b in
    let h : sum_by f (range_with_len s (a + b)) ≡ sum_by f (range_with_len s a) + sum_by f (range_with_len (s + a) b) = parted f s a b in
    let q : s + (a + b) ≡ (s + a) + b = omega arith in
    let i : f (s + (a + b)) ≡ f ((s + a) + b) = ap f q in
    omega (arith, c, m, n, h, i)

-- ---- group by group

by_group : (g : ℕ → ℕ → ℕ) (size : ℕ → ℕ) (n m : ℕ) → m ≤ n → sum_by (λ i. g (place_in size n i).0 (place_in size n i).1) (range_with_len 0 (before size m)) ≡ sum_by (λ j. sum_by (g j) (range_with_len 0 (size j))) (range_with_len 0 m)
unfolding before
by_group g size n zero le = refl
by_group g size n (suc m) le =
    let f : ℕ → ℕ = λ i. g (place_in size n i).0 (place_in size n i).1 in
    let whole : sum_by f (range_with_len 0 (before size m + size m)) ≡ sum_by f (range_with_len 0 (before size m)) + sum_by f (range_with_len (0 + before size m) (size m)) = parted f 0 (before size m) (size m) in
    let rest : sum_by f (range_with_len 0 (before size m)) ≡ sum_by (λ j. sum_by (g j) (range_with_len 0 (size j))) (range_with_len 0 m) = by_group g size n m (omega (arith, le)) in
    let e : 0 + before size m ≡ before size m = omega arith in
    let last : sum_by f (range_with_len (0 + before size m) (size m)) ≡ sum_by (g m) (range_with_len 0 (size m)) =
    ap (λ (s : ℕ). sum_by f (range_with_len s (size m))) e ∙ from_start f (before size m) (size m)
    ∙ sum_same (λ k. f (before size m + k)) (g m) 0 (size m) (λ k low high. ap (λ (x : ℕ × ℕ). g x.0 x.1) (place_in-at size n m k (omega (arith, le)) (omega (arith, high)))) in
    let more : sum_by (λ j. sum_by (g j) (range_with_len 0 (size j))) (range_with_len 0 (suc m)) ≡ sum_by (λ j. sum_by (g j) (range_with_len 0 (size j))) (range_with_len 0 m) + sum_by (g (0 + m)) (range_with_len 0 (size (0 + m))) = sum_one_more (λ j. sum_by (g j) (range_with_len 0 (size j))) 0 m in
    let o : 0 + m ≡ m = omega arith in
    let same : sum_by (g (0 + m)) (range_with_len 0 (size (0 + m))) ≡ sum_by (g m) (range_with_len 0 (size m)) = ap (λ (j : ℕ). sum_by (g j) (range_with_len 0 (size j))) o in
    omega (arith, whole, rest, last, more, same)

-- over all items of the day, or message by message
by_message : (day : Day) (f : ℕ → ℕ → ℕ) → sum_by (λ i. f (item_of day i).msg (item_of day i).entry) (range_with_len 0 (item_count day)) ≡ sum_by (λ n. sum_by (f n) (item_numbers day n)) (message_numbers day)
unfolding item_count item_of
by_message day f =
    by_group (λ j k. f (suc j) k) (items_after day) (length day.messages) (length day.messages) (omega arith)
    ∙ sum_same (λ j. sum_by (f (suc j)) (range_with_len 0 (items_after day j))) (λ j. sum_by (f (1 + j)) (item_numbers day (1 + j))) 0 (length day.messages) (λ j low high. let e : suc j ≡ 1 + j = omega arith in ap (λ (n : ℕ). sum_by (f n) (item_numbers day n)) e)
    ∙ sym (from_start (λ n. sum_by (f n) (item_numbers day n)) 1 (length day.messages))

-- ---- a message

of_b : (day : Day) (r : Request) (J : History) (n c : ℕ) (g : ℕ → ℕ) → g 0 ≡ 0 → sum_by (λ k. g (if is_zero k then c else 0)) (item_numbers day n) ≡ g c
of_b day r J n c g none =
    let f : ℕ → ℕ = λ k. g (if is_zero k then c else 0) in
    let len : ℕ = length (entries day n) in
    let a : sum_by f (0 ∷ range_with_len (0 + 1) len) ≡ g c + sum_by f (range_with_len (0 + 1) len) = sum_by-cons f 0 (range_with_len (0 + 1) len) in
    let b : sum_by f (range_with_len (0 + 1) len) ≡ sum_by (λ (k : ℕ). 0) (range_with_len (0 + 1) len) = sum_same f (λ (k : ℕ). 0) (0 + 1) len (λ k low high. behind k (omega (arith, low))) in
    let z : sum_by (λ (k : ℕ). 0) (range_with_len (0 + 1) len) ≡ 0 = no_sum (0 + 1) len in
    omega (arith, a, b, z)
  where
    behind : (k : ℕ) → 1 ≤ k → g (if is_zero k then c else 0) ≡ 0
    behind zero low = absurd (omega (arith, low))
    behind (suc k) low = none

cents_by : (day : Day) (r : Request) (J : History) (n : ℕ) (b : Bool) → sum_by (λ k. if b then (if is_zero k then cents_of day r J n else 0) else waits day r J n k) (item_numbers day n) ≡ cents_of day r J n
unfolding cents_of
cents_by day r J n true = of_b day r J n (cents_of day r J n) (λ (x : ℕ). x) refl
cents_by day r J n false = refl

all_cents : (day : Day) (r : Request) (J : History) (n : ℕ) → sum_by (stake day r J n) (item_numbers day n) ≡ cents_of day r J n
all_cents day r J n = cents_by day r J n (is_b (sort_of day n))

counts_by : (day : Day) (r : Request) (J : History) (n : ℕ) (b : Bool) → sum_by (λ k. one_if (if b then (if is_zero k then cents_of day r J n else 0) else waits day r J n k)) (item_numbers day n) ≡ (if b then one_if (cents_of day r J n) else parts_of day r J n)
unfolding parts_of
counts_by day r J n true = of_b day r J n (cents_of day r J n) (λ (x : ℕ). one_if x) refl
counts_by day r J n false = refl

all_counts : (day : Day) (r : Request) (J : History) (n : ℕ) → sum_by (λ k. one_if (stake day r J n k)) (item_numbers day n) ≡ count_of day r J n
all_counts day r J n = counts_by day r J n (is_b (sort_of day n))

if_all : (b : Bool) (f : ℕ → ℕ) (s len : ℕ) → sum_by (λ k. if b then f k else 0) (range_with_len s len) ≡ (if b then sum_by f (range_with_len s len) else 0)
if_all true f s len = refl
if_all false f s len = no_sum s len

-- ---- a priority

module _ (day : Day) (r : Request) (J : History) (stakes : List ℕ) (p : ℕ) (size : length stakes ≡ item_count day) (right : (i : ℕ) → i < item_count day → slice_index_or stakes i 0 ≡ stake_at day r J i) where
  all_of : (g : ℕ → ℕ) → tally day g stakes p ≡ sum_by (λ n. if has_priority day p n then sum_by (λ k. g (stake day r J n k)) (item_numbers day n) else 0) (message_numbers day)
  unfolding tally
  all_of g =
      ap (λ (len : ℕ). sum_by (counted day g stakes p) (range_with_len 0 len)) size
      ∙ sum_same (counted day g stakes p) (λ i. if has_rank day p i then g (stake_at day r J i) else 0) 0 (item_count day) (λ i low high. ap (λ (x : ℕ). if has_rank day p i then g x else 0) (right i (omega (arith, high))))
      ∙ by_message day (λ n k. if has_priority day p n then g (stake day r J n k) else 0)
      ∙ sum_same (λ n. sum_by (λ k. if has_priority day p n then g (stake day r J n k) else 0) (item_numbers day n)) (λ n. if has_priority day p n then sum_by (λ k. g (stake day r J n k)) (item_numbers day n) else 0) 1 (length day.messages) (λ n low high. if_all (has_priority day p n) (λ k. g (stake day r J n k)) 0 (suc (length (entries day n))))

  pub queue_is : tallied day stakes p ≡ queue day r J p
  unfolding queue
  queue_is =
      let c = all_of one_if ∙ sum_same (λ n. if has_priority day p n then sum_by (λ k. one_if (stake day r J n k)) (item_numbers day n) else 0) (λ n. if has_priority day p n then count_of day r J n else 0) 1 (length day.messages) (λ n low high. ap (λ (x : ℕ). if has_priority day p n then x else 0) (all_counts day r J n)) in
      let s = all_of (λ x. x) ∙ sum_same (λ n. if has_priority day p n then sum_by (λ k. stake day r J n k) (item_numbers day n) else 0) (λ n. if has_priority day p n then cents_of day r J n else 0) 1 (length day.messages) (λ n low high. ap (λ (x : ℕ). if has_priority day p n then x else 0) (all_cents day r J n)) in
      λ i. record { count = c i; cents = s i }

-- ---- one item waits with another amount

tally_set : (day : Day) (g : ℕ → ℕ) (stakes : List ℕ) (p i new : ℕ) → i < length stakes →
    tally day g (slice_set stakes i new) p + (if has_rank day p i then g (slice_index_or stakes i 0) else 0) ≡ tally day g stakes p + (if has_rank day p i then g new else 0)
unfolding tally
tally_set day g stakes p i new within =
    let len : length (slice_set stakes i new) ≡ length stakes = length-set stakes i new in
    let a : sum_by (counted day g (slice_set stakes i new) p) (range_with_len 0 (length (slice_set stakes i new))) ≡ sum_by (counted day g (slice_set stakes i new) p) (range_with_len 0 (length stakes)) = ap (λ (n : ℕ). sum_by (counted day g (slice_set stakes i new) p) (range_with_len 0 n)) len in
    let b : sum_by (counted day g (slice_set stakes i new) p) (range_with_len 0 (length stakes)) + counted day g stakes p i ≡ sum_by (counted day g stakes p) (range_with_len 0 (length stakes)) + counted day g (slice_set stakes i new) p i =
    sum_change (counted day g (slice_set stakes i new) p) (counted day g stakes p) i 0 (length stakes) (omega arith) (omega (arith, within)) (λ j ne. ap (λ (x : ℕ). if has_rank day p j then g x else 0) (get_or-set_other stakes i j new 0 (λ e. ne (sym e)))) in
    let c : counted day g (slice_set stakes i new) p i ≡ (if has_rank day p i then g new else 0) = ap (λ (x : ℕ). if has_rank day p i then g x else 0) (get_or-set_same stakes i new 0 within) in
    omega (arith, a, b, c)

pub tallied_set : (day : Day) (stakes : List ℕ) (p i new : ℕ) → i < length stakes → tallied day (slice_set stakes i new) p ≡ with_stake (tallied day stakes p) (has_rank day p i) (slice_index_or stakes i 0) new
tallied_set day stakes p i new within = here (has_rank day p i) (tally_set day one_if stakes p i new within) (tally_set day (λ x. x) stakes p i new within)
  where
    old : ℕ
    old = slice_index_or stakes i 0

    here : (b : Bool) → tally day one_if (slice_set stakes i new) p + (if b then one_if old else 0) ≡ tally day one_if stakes p + (if b then one_if new else 0) →
        tally day (λ x. x) (slice_set stakes i new) p + (if b then old else 0) ≡ tally day (λ x. x) stakes p + (if b then new else 0) → tallied day (slice_set stakes i new) p ≡ with_stake (tallied day stakes p) b old new
    here true counts sums =
        let c : tally day one_if (slice_set stakes i new) p ≡ (tally day one_if stakes p + one_if new) - one_if old = omega (arith, counts) in
        let s : tally day (λ x. x) (slice_set stakes i new) p ≡ (tally day (λ x. x) stakes p + new) - old = omega (arith, sums) in
        λ j. record { count = c j; cents = s j }
    here false counts sums =
        let c : tally day one_if (slice_set stakes i new) p ≡ tally day one_if stakes p = omega (arith, counts) in
        let s : tally day (λ x. x) (slice_set stakes i new) p ≡ tally day (λ x. x) stakes p = omega (arith, sums) in
        λ j. record { count = c j; cents = s j }

-- ---- there is room for it

each_cents : (b : Bool) (x : ℕ) → x ≤ most_taken → (if b then x else 0) ≤ most_taken
each_cents true x low = low
each_cents false x low = omega arith

each_count : (b : Bool) (x : ℕ) → (if b then one_if x else 0) ≤ 1
each_count true x = here (nat_lt 0 x)
  where
    here : (c : Bool) → (if c then 1 else 0) ≤ 1
    here true = omega arith
    here false = omega arith
each_count false x = omega arith

few_cents : (f : ℕ → ℕ) (s len : ℕ) → ((i : ℕ) → f i ≤ most_taken) → sum_by f (range_with_len s len) ≤ most_taken * len
few_cents f s zero h = omega arith
few_cents f s (suc len) h =
    let a : sum_by f (s ∷ range_with_len (s + 1) len) ≡ f s + sum_by f (range_with_len (s + 1) len) = sum_by-cons f s (range_with_len (s + 1) len) in
    let b : f s ≤ most_taken = h s in
    let c : sum_by f (range_with_len (s + 1) len) ≤ most_taken * len = few_cents f (s + 1) len h in
    omega (arith, a, b, c)

few_counts : (f : ℕ → ℕ) (s len : ℕ) → ((i : ℕ) → f i ≤ 1) → sum_by f (range_with_len s len) ≤ len
few_counts f s zero h = omega arith
few_counts f s (suc len) h =
    let a : sum_by f (s ∷ range_with_len (s + 1) len) ≡ f s + sum_by f (range_with_len (s + 1) len) = sum_by-cons f s (range_with_len (s + 1) len) in
    let b : f s ≤ 1 = h s in
    let c : sum_by f (range_with_len (s + 1) len) ≤ len = few_counts f (s + 1) len h in
    omega (arith, a, b, c)

pub takes : (day : Day) (stakes : List ℕ) (p i new : ℕ) → ((j : ℕ) → slice_index_or stakes j 0 ≤ most_taken) → length stakes < 2 ^ 32 → i < length stakes → new ≤ most_taken → TakesStake (tallied day stakes p) (has_rank day p i) (slice_index_or stakes i 0) new
unfolding tally
takes day stakes p i new small room within low =
    let c : sum_by (counted day (λ x. x) stakes p) (range_with_len 0 (length stakes)) ≤ most_taken * length stakes = few_cents (counted day (λ x. x) stakes p) 0 (length stakes) (λ j. each_cents (has_rank day p j) (slice_index_or stakes j 0) (small j)) in
    let k : sum_by (counted day one_if stakes p) (range_with_len 0 (length stakes)) ≤ length stakes = few_counts (counted day one_if stakes p) 0 (length stakes) (λ j. each_count (has_rank day p j) (slice_index_or stakes j 0)) in
    record {
      cents = λ is. before_it (has_rank day p i) is _ _ (slice_index_or stakes i 0) new (tally_set day (λ x. x) stakes p i new within);
      count = λ is. before_it (has_rank day p i) is _ _ (one_if (slice_index_or stakes i 0)) (one_if new) (tally_set day one_if stakes p i new within);
      cents_fit = omega (arith, c, room, low);
      count_fits = omega (arith, k, room);
    }
  where
    before_it : (b : Bool) → b ≡ true → (after sum old later : ℕ) → after + (if b then old else 0) ≡ sum + (if b then later else 0) → old ≤ sum + later
    before_it true is after sum old later e = omega (arith, e)
    before_it false is after sum old later e = absurd (false≢true is)

pub small_set : (stakes : List ℕ) (i new : ℕ) → ((j : ℕ) → slice_index_or stakes j 0 ≤ most_taken) → i < length stakes → new ≤ most_taken → (j : ℕ) → slice_index_or (slice_set stakes i new) j 0 ≤ most_taken
small_set stakes i new small within low j = ⊎_elim
    (λ (e : j ≡ i). subst (λ (k : ℕ). slice_index_or (slice_set stakes i new) k 0 ≤ most_taken) (sym e) (subst (λ (x : ℕ). x ≤ most_taken) (sym (get_or-set_same stakes i new 0 within)) low))
    (λ (ne : j ≡ i → ⊥). subst (λ (x : ℕ). x ≤ most_taken) (sym (get_or-set_other stakes i j new 0 ne)) (small j))
    (cases_eq j i)

-- ---- a line

same_cents : (day : Day) (r : Request) (J : History) (l : Line) (n : ℕ) → IsLegal day (l ∷ J) → is_b (sort_of day n) ≡ true → concerns_item day J l n 0 ≡ false → cents_of day r (l ∷ J) n ≡ cents_of day r J n
unfolding cents_of
same_cents day r J l n legal whole free = λ i. sum_by (λ k. each k i) (item_numbers day n)
  where
    pending : (k : ℕ) (b : Bool) → b ≡ true → is_pending day (l ∷ J) (if b then item n 0 else item n k) ≡ is_pending day J (if b then item n 0 else item n k)
    pending k true e = (same_item day J l n 0 legal free).same_pending
    pending k false e = absurd (false≢true e)

    each : (k : ℕ) → waits day r (l ∷ J) n k ≡ waits day r J n k
    each k = ap (λ (b : Bool). if b then entry_cents day r n k else 0) (pending k (is_b (sort_of day n)) whole)

same_waits : (day : Day) (r : Request) (J : History) (l : Line) (n k : ℕ) → IsLegal day (l ∷ J) → is_b (sort_of day n) ≡ false → concerns_item day J l n k ≡ false → waits day r (l ∷ J) n k ≡ waits day r J n k
same_waits day r J l n k legal single free = ap (λ (b : Bool). if b then entry_cents day r n k else 0) (pending (is_b (sort_of day n)) single)
  where
    pending : (b : Bool) → b ≡ false → is_pending day (l ∷ J) (if b then item n 0 else item n k) ≡ is_pending day J (if b then item n 0 else item n k)
    pending true e = absurd (false≢true (sym e))
    pending false e = (same_item day J l n k legal free).same_pending

same_stake : (day : Day) (r : Request) (J : History) (l : Line) (n k : ℕ) → IsLegal day (l ∷ J) → concerns_item day J l n k ≡ false → stake day r (l ∷ J) n k ≡ stake day r J n k
same_stake day r J l n k legal free = here (is_b (sort_of day n)) refl k free
  where
    here : (b : Bool) → is_b (sort_of day n) ≡ b → (j : ℕ) → concerns_item day J l n j ≡ false →
        (if b then (if is_zero j then cents_of day r (l ∷ J) n else 0) else waits day r (l ∷ J) n j) ≡ (if b then (if is_zero j then cents_of day r J n else 0) else waits day r J n j)
    here true e zero none = same_cents day r J l n legal e none
    here true e (suc j) none = refl
    here false e j none = same_waits day r J l n j legal e none

pub kept_but : (day : Day) (r : Request) (J : History) (l : Line) (told : List Bool) (ledger : Ledger) → IsLegal day (l ∷ J) → Tells day J l told → IsKept day r J ledger → IsKeptBut day r (l ∷ J) told ledger
kept_but day r J l told ledger legal tells kept = record {
  tallied = kept.tallied;
  size = kept.size;
  right = λ i within stale. kept.right i within ∙ sym (same_stake day r J l (item_of day i).msg (item_of day i).entry legal (free i within stale (concerns_item day J l (item_of day i).msg (item_of day i).entry) refl));
}
  where
    free : (i : ℕ) → i < item_count day → has told i ≡ false → (b : Bool) → concerns_item day J l (item_of day i).msg (item_of day i).entry ≡ b → concerns_item day J l (item_of day i).msg (item_of day i).entry ≡ false
    free i within stale false e = e
    free i within stale true e = absurd (false≢true (sym stale ∙ ap (has told) (sym (number-back day i within)) ∙ tells (item_of day i).msg (item_of day i).entry (item-is day i within) e))

-- ---- item by item

pub at_set : (stakes : List ℕ) (i j new : ℕ) → i < length stakes → j ≡ i → slice_index_or (slice_set stakes i new) j 0 ≡ new
at_set stakes i j new within e = ap (λ (k : ℕ). slice_index_or (slice_set stakes i new) k 0) e ∙ get_or-set_same stakes i new 0 within

pub below_more : (day : Day) (r : Request) (J : History) (n : ℕ) (old new : Ledger) → IsKeptBelow day r J n old → n < item_count day → IsTallied day new → new.stakes.items ≡ slice_set old.stakes.items n (stake_at day r J n) → IsKeptBelow day r J (n + 1) new
below_more day r J n old new kept within tallies is = record {
  tallied = tallies;
  size = ap length is ∙ length-set old.stakes.items n (stake_at day r J n) ∙ kept.size;
  right = λ i inside low. ap (λ (xs : List ℕ). slice_index_or xs i 0) is ∙ ⊎_elim
      (λ (e : i ≡ n). at_set old.stakes.items n i (stake_at day r J n) (let s = kept.size in omega (arith, s, within)) e ∙ ap (stake_at day r J) (sym e))
      (λ (ne : i ≡ n → ⊥). get_or-set_other old.stakes.items n i (stake_at day r J n) 0 ne ∙ kept.right i inside (omega (arith, low, ne)))
      (cases_eq i n);
}

pub but_less : (day : Day) (r : Request) (J : History) (stale less : List Bool) (n : ℕ) (old new : Ledger) → IsKeptBut day r J stale old → n < item_count day → IsTallied day new → new.stakes.items ≡ slice_set old.stakes.items n (stake_at day r J n) → less ≡ slice_set stale n false → IsKeptBut day r J less new
but_less day r J stale less n old new kept within tallies is e = record {
  tallied = tallies;
  size = ap length is ∙ length-set old.stakes.items n (stake_at day r J n) ∙ kept.size;
  right = λ i inside fresh. ap (λ (xs : List ℕ). slice_index_or xs i 0) is ∙ ⊎_elim
      (λ (q : i ≡ n). at_set old.stakes.items n i (stake_at day r J n) (let s = kept.size in omega (arith, s, within)) q ∙ ap (stake_at day r J) (sym q))
      (λ (ne : i ≡ n → ⊥). get_or-set_other old.stakes.items n i (stake_at day r J n) 0 ne ∙ kept.right i inside (sym (get_or-set_other stale n i false _ ne) ∙ ap (λ (xs : List Bool). has xs i) (sym e) ∙ fresh))
      (cases_eq i n);
}

-- ---- which items are left

pub gone_then : (set : List Bool) (from i j : ℕ) → ((k : ℕ) → k < from → has set k ≡ false) → IsLeast (has set) from i → i < length set → j < i + 1 → has (slice_set set i false) j ≡ false
gone_then set from i j gone least within l = ⊎_elim
    (λ (e : j ≡ i). ap (has (slice_set set i false)) e ∙ get_or-set_same set i false _ within)
    (λ (ne : j ≡ i → ⊥). get_or-set_other set i j false _ ne ∙ ⊎_elim (λ (low : j < from). gone j low) (λ (high : from ≤ j). least.none_before j high (omega (arith, l, ne))) (cases_lt j from))
    (cases_eq j i)

pub none_left : (set : List Bool) (from : ℕ) → ((k : ℕ) → k < from → has set k ≡ false) → IsNext (has set) from None → (k : ℕ) → has set k ≡ false
none_left set from gone none k = ⊎_elim (λ (low : k < from). gone k low) (λ (high : from ≤ k). none k high) (cases_lt k from)

pub due_forgets : (day : Day) (K : History) (due : Due) (i : ℕ) (new : Due) → KeepsDue day K due → new ≡ record { index = due.index; set = due.set; renewed = slice_set due.renewed i false; room = due.room } → KeepsDue day K new
due_forgets day K due i new k e = subst (KeepsDue day K) (sym e) (record { index = k.index; exact = k.exact; room = length-set due.renewed i false ∙ k.room; rest = k.rest })

-- ---- the highest so far

pub peaks_first : (day : Day) (r : Request) (ledger : Ledger) → IsKept day r [] ledger → record { urgent = ledger.urgent.cents; high = ledger.high.cents; normal = ledger.normal.cents } ≡ peaks day r []
unfolding peak queue
peaks_first day r ledger kept =
    let s = kept.size in
    let q : (p : ℕ) → tallied day ledger.stakes.items p ≡ queue day r [] p = λ p. queue_is day r [] ledger.stakes.items p s kept.right in
    λ i. record {
      urgent = ((kept.tallied.urgent ∙ q 0) i).cents;
      high = ((kept.tallied.high ∙ q 1) i).cents;
      normal = ((kept.tallied.normal ∙ q 2) i).cents;
    }

pub peaks_more : (day : Day) (r : Request) (J : History) (l : Line) (ledger : Ledger) (top new : Peaks) → IsKept day r (l ∷ J) ledger → top ≡ peaks day r J → new ≡ record { urgent = max top.urgent ledger.urgent.cents; high = max top.high ledger.high.cents; normal = max top.normal ledger.normal.cents } → new ≡ peaks day r (l ∷ J)
unfolding peak queue
peaks_more day r J l ledger top new kept known is =
    let s = kept.size in
    let q : (p : ℕ) → tallied day ledger.stakes.items p ≡ queue day r (l ∷ J) p = λ p. queue_is day r (l ∷ J) ledger.stakes.items p s kept.right in
    is ∙ (λ i. record {
      urgent = max (known i).urgent ((kept.tallied.urgent ∙ q 0) i).cents;
      high = max (known i).high ((kept.tallied.high ∙ q 1) i).cents;
      normal = max (known i).normal ((kept.tallied.normal ∙ q 2) i).cents;
    })

pub waiting_is : (day : Day) (r : Request) (J : History) (ledger : Ledger) (now : ℕ) → IsKept day r J ledger → now ≡ clock J → record { clock = now; urgent = ledger.urgent; high = ledger.high; normal = ledger.normal } ≡ waiting day r J
waiting_is day r J ledger now kept at =
    let q : (p : ℕ) → tallied day ledger.stakes.items p ≡ queue day r J p = λ p. queue_is day r J ledger.stakes.items p kept.size kept.right in
    λ i. record { clock = at i; urgent = (kept.tallied.urgent ∙ q 0) i; high = (kept.tallied.high ∙ q 1) i; normal = (kept.tallied.normal ∙ q 2) i }

-- after the line at a place
pub peaks_later : (day : Day) (r : Request) (H : History) (before : ℕ) (ledger : Ledger) (top new : Peaks) → (l : Line) × (oldest H (before + 1) ≡ l ∷ oldest H (before + 1 - 1)) → IsKept day r (oldest H (before + 1)) ledger → top ≡ peaks day r (oldest H before) → ((d : Day) (q : Request) (J : History) (l : Line) → IsKept d q (l ∷ J) ledger → top ≡ peaks d q J → new ≡ peaks d q (l ∷ J)) → new ≡ peaks day r (oldest H (before + 1))
peaks_later day r H before ledger top new line kept known raised =
    let e : before ≡ before + 1 - 1 = omega arith in
    raised day r (oldest H (before + 1 - 1)) line.0 (subst (λ (K : History). IsKept day r K ledger) line.1 kept) (known ∙ ap (λ (i : ℕ). peaks day r (oldest H i)) e) ∙ ap (λ (K : History). peaks day r K) (sym line.1)

-- ---- where nothing waits

zero_at : (count i : ℕ) → slice_index_or (replicate {A = ℕ} count 0) i 0 ≡ 0
zero_at zero i = refl
zero_at (suc count) zero = refl
zero_at (suc count) (suc i) = zero_at count i

none_tallied : (day : Day) (g : ℕ → ℕ) (count p : ℕ) → g 0 ≡ 0 → tally day g (replicate count 0) p ≡ 0
unfolding tally
none_tallied day g count p none =
    sum_same (counted day g (replicate count 0) p) (λ (i : ℕ). 0) 0 (length (replicate count 0)) (λ i low high. here (has_rank day p i) i) ∙ no_sum 0 (length (replicate count 0))
  where
    here : (b : Bool) (i : ℕ) → (if b then g (slice_index_or (replicate count 0) i 0) else 0) ≡ 0
    here true i = ap g (zero_at count i) ∙ none
    here false i = refl

pub none_waits : (day : Day) (count : ℕ) (ledger : Ledger) → count < 2 ^ 32 → ledger.stakes.items ≡ replicate count 0 → ledger.urgent ≡ record { count = 0; cents = 0 } → ledger.high ≡ record { count = 0; cents = 0 } → ledger.normal ≡ record { count = 0; cents = 0 } → IsTallied day ledger
none_waits day count ledger few is urgent high normal = record {
  small = λ i. let e : slice_index_or ledger.stakes.items i 0 ≡ 0 = ap (λ (xs : List ℕ). slice_index_or xs i 0) is ∙ zero_at count i in omega (arith, e);
  room = let e : length ledger.stakes.items ≡ count = ap length is ∙ length-replicate count 0 in omega (arith, e, few);
  urgent = urgent ∙ queue_at 0;
  high = high ∙ queue_at 1;
  normal = normal ∙ queue_at 2;
}
  where
    queue_at : (p : ℕ) → record { count = 0; cents = 0 } ≡ tallied day ledger.stakes.items p
    queue_at p = (λ i. record { count = sym (none_tallied day one_if count p refl) i; cents = sym (none_tallied day (λ x. x) count p refl) i }) ∙ ap (λ (xs : List ℕ). tallied day xs p) (sym is)

-- the queues after one item waits with another amount
pub still_tallied : (day : Day) (i new : ℕ) (old later : Ledger) → IsTallied day old → i < length old.stakes.items → new ≤ most_taken → later.stakes.items ≡ slice_set old.stakes.items i new →
    later.urgent ≡ with_stake old.urgent (has_rank day 0 i) (slice_index_or old.stakes.items i 0) new → later.high ≡ with_stake old.high (has_rank day 1 i) (slice_index_or old.stakes.items i 0) new → later.normal ≡ with_stake old.normal (has_rank day 2 i) (slice_index_or old.stakes.items i 0) new → IsTallied day later
still_tallied day i new old later t within low is urgent high normal = record {
  small = λ j. subst (λ (xs : List ℕ). slice_index_or xs j 0 ≤ most_taken) (sym is) (small_set old.stakes.items i new t.small within low j);
  room = let e : length later.stakes.items ≡ length old.stakes.items = ap length is ∙ length-set old.stakes.items i new in let r = t.room in omega (arith, e, r);
  urgent = urgent ∙ queue_at 0 old.urgent t.urgent;
  high = high ∙ queue_at 1 old.high t.high;
  normal = normal ∙ queue_at 2 old.normal t.normal;
}
  where
    queue_at : (p : ℕ) (q : Queue) → q ≡ tallied day old.stakes.items p → with_stake q (has_rank day p i) (slice_index_or old.stakes.items i 0) new ≡ tallied day later.stakes.items p
    queue_at p q e = ap (λ (k : Queue). with_stake k (has_rank day p i) (slice_index_or old.stakes.items i 0) new) e ∙ sym (tallied_set day old.stakes.items p i new within) ∙ ap (λ (xs : List ℕ). tallied day xs p) (sym is)

-- a queue that was kept, and the item, as they are looked up
pub takes_at : (day : Day) (ledger : Ledger) (p i n new old : ℕ) (counts : Bool) (q : Queue) → IsTallied day ledger → i < length ledger.stakes.items → n ≡ (item_of day i).msg → new ≤ most_taken → q ≡ tallied day ledger.stakes.items p → old ≡ slice_index_or ledger.stakes.items i 0 → counts ≡ has_priority day p n → TakesStake q counts old new
takes_at day ledger p i n new old counts q t within at low is was has_it =
    subst (λ (k : Queue). TakesStake k counts old new) (sym is)
    (subst (λ (b : Bool). TakesStake (tallied day ledger.stakes.items p) b old new) (sym (has_it ∙ ap (has_priority day p) at))
    (subst (λ (o : ℕ). TakesStake (tallied day ledger.stakes.items p) (has_rank day p i) o new) (sym was)
    (takes day ledger.stakes.items p i new t.small t.room within low)))

pub stake_is : (day : Day) (p i n new old : ℕ) (counts : Bool) (q later : Queue) (stakes : List ℕ) → n ≡ (item_of day i).msg → old ≡ slice_index_or stakes i 0 → counts ≡ has_priority day p n → later ≡ with_stake q counts old new → later ≡ with_stake q (has_rank day p i) (slice_index_or stakes i 0) new
stake_is day p i n new old counts q later stakes at was has_it is = is ∙ (λ j. with_stake q ((has_it ∙ ap (has_priority day p) at) j) (was j) new)

-- nothing is still to be brought up to date
pub all_kept : (day : Day) (r : Request) (J : History) (stale : List Bool) (ledger : Ledger) → IsKeptBut day r J stale ledger → ((k : ℕ) → has stale k ≡ false) → IsKept day r J ledger
all_kept day r J stale ledger kept none = record { tallied = kept.tallied; size = kept.size; right = λ i within. kept.right i within (none i) }

pub whole_kept : (day : Day) (r : Request) (J : History) (n : ℕ) (ledger : Ledger) → IsKeptBelow day r J n ledger → n ≡ item_count day → IsKept day r J ledger
whole_kept day r J n ledger kept all = record { tallied = kept.tallied; size = kept.size; right = λ i within. kept.right i within (omega (arith, within, all)) }

pub item_is : {A : Type 0} (a b : A) → Some a ≡ Some b → a ≡ b
item_is a b e = ap (λ o. unwrap_or o a) e

pub never_none : {A B : Type 0} (a : A) → None ≡ Some a → B
never_none a e = absurd (false≢true (ap is_some e))
