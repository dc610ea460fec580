-- What has no line is passed over.
use Rattle.std.proofs.Common.{◌≡◌, ℕ, zero, suc, ◌+◌, ◌-◌, ◌<◌, ◌≤◌, ◌∷◌, true, false, Option, Some, None, is_some, refl, sym, ap, ◌∙◌, arith, ⊎_elim}
use Rattle.std.proofs.lemmas.Bool.{cases_lt}
use Rattle.batch_records.specs.DayRecord.{Day}
use Rattle.commit_journal.specs.Line.{Line, History}
use Rattle.machine.specs.Orders.Order.{with_line}
use Rattle.scan_laws.specs.Next.{IsNext}
use Rattle.scan_laws.specs.Numbers.{item_count}
use Rattle.scan_laws.specs.Runs.{line_at, has_line, flat_step, scan_from, next_ready}
use Rattle.scan_laws.proofs.FlatPasses.{sweep_from-done, sweep_from-next}
use Rattle.scan_laws.proofs.Lined.{line-within, next-is, next-least}

step-idle : (day : Day) (J : History) (i : ℕ) → has_line day J i ≡ false → flat_step day J i ≡ J
step-idle day J i h = go (line_at day J i) h
  where
    go : (o : Option Line) → is_some o ≡ false → with_line o J ≡ J
    go None h = refl
    go (Some l) h = cc

-- d items from p on
over-next : (day : Day) (J : History) (p d : ℕ) → ((i : ℕ) → p ≤ i → i < p + d → has_line day J i ≡ false) → scan_from day J p ≡ scan_from day J (p + d)
over-next day J p zero h = let e : p ≡ p + 0 = omega arith in ap (scan_from day J) e
over-next day J p (suc d) h =
    let e : suc p + d ≡ p + suc d = omega arith in
    ⊎_elim
    (λ (l : p < item_count day).
    sweep_from-next day J p l
    ∙ ap (λ K. scan_from day K (suc p)) (step-idle day J p (h p (omega arith) (omega arith)))
    ∙ over-next day J (suc p) d (λ i low high. h i (omega (arith, low)) (omega (arith, high)))
    ∙ ap (scan_from day J) e)
    (λ (l : item_count day ≤ p). sweep_from-done day J p l ∙ sym (sweep_from-done day J (p + suc d) (omega (arith, l))))
    (cases_lt p (item_count day))

pub idle-over : (day : Day) (J : History) (p q : ℕ) → p ≤ q → ((i : ℕ) → p ≤ i → i < q → has_line day J i ≡ false) → scan_from day J p ≡ scan_from day J q
idle-over day J p q l h =
    let e : p + (q - p) ≡ q = omega (arith, l) in
    over-next day J p (q - p) (λ i low high. h i low (omega (arith, high, l))) ∙ ap (scan_from day J) e

-- an item that has a line adds it
pub line-on : (day : Day) (J : History) (q : ℕ) (l : Line) → line_at day J q ≡ Some l → scan_from day J q ≡ scan_from day (l ∷ J) (q + 1)
line-on day J q l e =
    let n : suc q ≡ q + 1 = omega arith in
    sweep_from-next day J q (line-within day J q (ap is_some e)) ∙ ap (λ o. scan_from day (with_line o J) (suc q)) e ∙ ap (scan_from day (l ∷ J)) n

-- ---- by the next item that has a line

-- where there is none, the rest of the scan changes nothing
pub none-next : (day : Day) (J : History) (p : ℕ) → next_ready day J p ≡ None → scan_from day J p ≡ J
none-next day J p e = go (next_ready day J p) e (next-least day J p)
  where
    go : (o : Option ℕ) → o ≡ None → IsNext (has_line day J) p o → scan_from day J p ≡ J
    go None e n = idle-over day J p (p + item_count day) (omega arith) (λ i low high. n i low) ∙ sweep_from-done day J (p + item_count day) (omega arith)
    go (Some x) e n = cc

-- nor is there one later on
pub none-later : (day : Day) (J : History) (p : ℕ) → next_ready day J 0 ≡ None → next_ready day J p ≡ None
none-later day J p e = next-is day J p None (λ k l. go (next_ready day J 0) e (next-least day J 0) k)
  where
    go : (o : Option ℕ) → o ≡ None → IsNext (has_line day J) 0 o → (k : ℕ) → has_line day J k ≡ false
    go None e n k = n k (omega arith)
    go (Some x) e n k = cc

-- else the rest of the scan begins there
pub some-next : (day : Day) (J : History) (p x : ℕ) → next_ready day J p ≡ Some x → scan_from day J p ≡ scan_from day J x
some-next day J p x e = go (next_ready day J p) e (next-least day J p)
  where
    go : (o : Option ℕ) → o ≡ Some x → IsNext (has_line day J) p o → scan_from day J p ≡ scan_from day J x
    go None e n = cc
    go (Some y) e n = let same : y ≡ x = cc in idle-over day J p y n.at_least n.none_before ∙ ap (scan_from day J) same

-- which has a line
pub next-has : (day : Day) (J : History) (p x : ℕ) → next_ready day J p ≡ Some x → has_line day J x ≡ true
next-has day J p x e = go (next_ready day J p) e (next-least day J p)
  where
    go : (o : Option ℕ) → o ≡ Some x → IsNext (has_line day J) p o → has_line day J x ≡ true
    go None e n = cc
    go (Some y) e n = let same : y ≡ x = cc in ap (has_line day J) (sym same) ∙ n.passes

-- and is one of the day, from p on
pub next-within : (day : Day) (J : History) (p x : ℕ) → next_ready day J p ≡ Some x → (p ≤ x) × (x < item_count day)
next-within day J p x e = (go (next_ready day J p) e (next-least day J p), line-within day J x (next-has day J p x e))
  where
    go : (o : Option ℕ) → o ≡ Some x → IsNext (has_line day J) p o → p ≤ x
    go None e n = cc
    go (Some y) e n = let same : y ≡ x = cc in let l = n.at_least in omega (arith, l, same)
