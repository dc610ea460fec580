-- A scan of scans goes once over the row.
use Rattle.std.proofs.Common.{◌≡◌, ℕ, zero, suc, ◌+◌, ◌-◌, ◌<◌, ◌≤◌, length, refl, sym, ap, ◌∙◌, arith}
use Rattle.batch_records.specs.DayRecord.{Day}
use Rattle.commit_journal.specs.Line.{History}
use Rattle.machine.specs.Orders.Order.{append, one_scan, item_step, scan}
use Rattle.scan_laws.specs.Numbers.{before, place_in, items_after, item_count, item_of}
use Rattle.scan_laws.specs.Runs.{line_at, flat_step, run_from, scan_from}
use Rattle.scan_laws.proofs.NumberFacts.{place_in-at}

-- steps that do the same at each number below n
one_scan-same : (s t : History → ℕ → History) (J : History) (n : ℕ) → ((K : History) (k : ℕ) → k < n → s K k ≡ t K k) → one_scan s J n ≡ one_scan t J n
unfolding one_scan
one_scan-same s t J zero h = refl
one_scan-same s t J (suc n) h = ap (λ K. s K n) (one_scan-same s t J n (λ K k l. h K k (omega (arith, l)))) ∙ h (one_scan t J n) n (omega arith)

-- a scan in two parts
one_scan-sum : (s : History → ℕ → History) (J : History) (b m : ℕ) → one_scan s J (b + m) ≡ one_scan (λ K k. s K (b + k)) (one_scan s J b) m
unfolding one_scan
one_scan-sum s J b zero = let e : b + 0 ≡ b = omega arith in ap (one_scan s J) e
one_scan-sum s J b (suc m) = let e : b + suc m ≡ suc (b + m) = omega arith in ap (one_scan s J) e ∙ ap (λ K. s K (b + m)) (one_scan-sum s J b m)

-- the step of the place at which a number stands
abbrev placed_step : (ℕ → ℕ) → (ℕ → History → ℕ → History) → ℕ → History → ℕ → History
placed_step size step N K i = step (place_in size N i).0 K (place_in size N i).1

-- group by group, and in each place by place
one_scan-flat : (size : ℕ → ℕ) (step : ℕ → History → ℕ → History) (N : ℕ) (J : History) (n : ℕ) → n ≤ N → one_scan (λ K i. one_scan (step i) K (size i)) J n ≡ one_scan (placed_step size step N) J (before size n)
unfolding one_scan before
one_scan-flat size step N J zero l = refl
one_scan-flat size step N J (suc n) l =
    ap (λ K. one_scan (step n) K (size n)) (one_scan-flat size step N J n (omega (arith, l)))
    ∙ one_scan-same (step n) (λ K k. placed_step size step N K (before size n + k)) (one_scan (placed_step size step N) J (before size n)) (size n) (λ K k h. ap (λ g. step g.0 K g.1) (sym (place_in-at size N n k (omega (arith, l)) h)))
    ∙ sym (one_scan-sum (placed_step size step N) J (before size n) (size n))

-- a scan goes once over the row
pub scan-flat : (day : Day) (J : History) → scan day J ≡ one_scan (flat_step day) J (item_count day)
unfolding scan item_count item_of append line_at
scan-flat day J = one_scan-flat (items_after day) (λ i. item_step day (suc i)) (length day.messages) J (length day.messages) (omega arith)

-- ---- from a place on

run-one_scan : (s : History → ℕ → History) (J : History) (p n : ℕ) → run_from s (one_scan s J p) p n ≡ one_scan s J (p + n)
unfolding run_from one_scan
run-one_scan s J p zero = let e : p ≡ p + 0 = omega arith in ap (one_scan s J) e
run-one_scan s J p (suc n) = let e : suc p + n ≡ p + suc n = omega arith in run-one_scan s J (suc p) n ∙ ap (one_scan s J) e

one_scan-start : (s : History → ℕ → History) (J : History) → J ≡ one_scan s J 0
unfolding one_scan
one_scan-start s J = refl

pub sweep-whole : (day : Day) (J : History) → scan day J ≡ scan_from day J 0
unfolding scan_from
sweep-whole day J =
    let e : 0 + (item_count day - 0) ≡ item_count day = omega arith in
    scan-flat day J
    ∙ sym (ap (one_scan (flat_step day) J) e)
    ∙ sym (run-one_scan (flat_step day) J 0 (item_count day - 0))
    ∙ sym (ap (λ K. run_from (flat_step day) K 0 (item_count day - 0)) (one_scan-start (flat_step day) J))

pub sweep_from-done : (day : Day) (J : History) (p : ℕ) → item_count day ≤ p → scan_from day J p ≡ J
unfolding scan_from run_from
sweep_from-done day J p l = let e : item_count day - p ≡ 0 = omega (arith, l) in ap (run_from (flat_step day) J p) e

pub sweep_from-next : (day : Day) (J : History) (p : ℕ) → p < item_count day → scan_from day J p ≡ scan_from day (flat_step day J p) (suc p)
unfolding scan_from run_from
sweep_from-next day J p l = let e : item_count day - p ≡ suc (item_count day - suc p) = omega (arith, l) in ap (run_from (flat_step day) J p) e
