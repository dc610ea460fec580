-- The run from one item that has a line to the next is the scans until one changes nothing.
use Rattle.std.proofs.Common.{◌≡◌, ℕ, zero, suc, ◌+◌, ◌*◌, ◌<◌, ◌≤◌, ◌∷◌, length, true, false, Option, Some, None, is_some, refl, sym, ap, ◌∙◌, arith, ⊎_elim}
use Rattle.std.proofs.lemmas.Bool.{cases_Bool, eqb-true}
use Rattle.batch_records.specs.DayRecord.{Day}
use Rattle.batch_records.specs.Sound.{is_sound}
use Rattle.commit_journal.specs.Line.{Line, History}
use Rattle.machine.specs.Making.Lines.{line_of}
use Rattle.machine.specs.Legal.{IsLegal}
use Rattle.machine.specs.Orders.Bounds.{left}
use Rattle.machine.specs.Orders.Order.{append, with_line, scan, is_quiet, quiet}
use Rattle.settlement_laws.proofs.Base.Induction.{want_of-line}
use Rattle.settlement_laws.proofs.Base.Growing.{left-falls}
use Rattle.settlement_laws.proofs.DayEnd.PlainRuns.{grows-scan, quiet-over, quiet-next}
use Rattle.scan_laws.specs.Runs.{want_at, line_at, has_line, flat_step, next_ready, settle_from, steps_left, quiet_from}
use Rattle.scan_laws.proofs.FlatPasses.{sweep-whole}
use Rattle.scan_laws.proofs.Stretches.{line-on, none-later, none-next, some-next, next-has}

-- ---- lines

pub line-legal : (day : Day) (J : History) (x : ℕ) (l : Line) → IsLegal day J → line_at day J x ≡ Some l → IsLegal day (l ∷ J)
unfolding line_at
line-legal day J x l legal e = (legal, ap (line_of day J) (want_of-line day J (want_at day J x) l e) ∙ e)

line-falls : (day : Day) (J : History) (x : ℕ) (l : Line) → is_sound day ≡ true → IsLegal day J → line_at day J x ≡ Some l → left day (l ∷ J) < left day J
line-falls day J x l sound legal e = left-falls day sound J (l ∷ J) (line-legal day J x l legal e) (omega arith)

-- the line of an item that has one
pub record ItsLine (day : Day) (J : History) (x : ℕ) : Type 0 where
  pub line : Line
  pub made : line_at day J x ≡ Some line

pub line-there : (day : Day) (J : History) (x : ℕ) → has_line day J x ≡ true → ItsLine day J x
line-there day J x h = go (line_at day J x) refl h
  where
    go : (o : Option Line) → line_at day J x ≡ o → is_some o ≡ true → ItsLine day J x
    go None e h = cc
    go (Some l) e h = record { line = l; made = e }

-- ---- the scans from here on

-- a scan before the scans changes nothing
pub quiet-sweep : (day : Day) (J : History) → is_sound day ≡ true → IsLegal day J → quiet day (scan day J) ≡ quiet day J
quiet-sweep day J sound legal =
    ⊎_elim
    (λ (t : is_quiet day J ≡ true). ap (quiet day) ((grows-scan day J).same (eqb-true (length (scan day J)) (length J) t)))
    (λ (f : is_quiet day J ≡ false). sym (quiet-next day sound J legal f))
    (cases_Bool (is_quiet day J))

pub quiet_from-start : (day : Day) (J : History) → is_sound day ≡ true → IsLegal day J → quiet_from day J 0 ≡ quiet day J
quiet_from-start day J sound legal = sym (ap (quiet day) (sweep-whole day J)) ∙ quiet-sweep day J sound legal

pub quiet_from-line : (day : Day) (J : History) (p x : ℕ) (l : Line) → next_ready day J p ≡ Some x → line_at day J x ≡ Some l → quiet_from day J p ≡ quiet_from day (l ∷ J) (x + 1)
quiet_from-line day J p x l n e = ap (quiet day) (some-next day J p x n ∙ line-on day J x l e)

pub quiet_from-turn : (day : Day) (J : History) (p : ℕ) → is_sound day ≡ true → IsLegal day J → next_ready day J p ≡ None → quiet_from day J p ≡ quiet_from day J 0
quiet_from-turn day J p sound legal n = ap (quiet day) (none-next day J p n) ∙ sym (quiet_from-start day J sound legal)

-- where no item has a line, nothing is left to do, wherever the scan stands
pub quiet_from-end : (day : Day) (J : History) (p : ℕ) → next_ready day J 0 ≡ None → quiet_from day J p ≡ J
quiet_from-end day J p n =
    let still : scan day J ≡ J = sweep-whole day J ∙ none-next day J 0 n in
    ap (quiet day) (none-next day J p (none-later day J p n)) ∙ quiet-over day J (ap length still)

-- ---- steps

pub steps-fall : (day : Day) (J : History) (p x : ℕ) (l : Line) → is_sound day ≡ true → IsLegal day J → line_at day J x ≡ Some l → steps_left day (l ∷ J) (x + 1) < steps_left day J p
steps-fall day J p x l sound legal e = go p (line-falls day J x l sound legal e)
  where
    behind : steps_left day (l ∷ J) (x + 1) ≡ 2 * left day (l ∷ J) + 1
    behind = let n : x + 1 ≡ suc x = omega arith in ap (steps_left day (l ∷ J)) n

    go : (p : ℕ) → left day (l ∷ J) < left day J → steps_left day (l ∷ J) (x + 1) < steps_left day J p
    go zero f = omega (arith, behind, f)
    go (suc q) f = omega (arith, behind, f)

pub turn-falls : (day : Day) (J : History) (p : ℕ) → 1 ≤ p → steps_left day J 0 < steps_left day J p
turn-falls day J zero l = absurd (omega (arith, l))
turn-falls day J (suc q) l = omega arith

-- ---- the run

settle-some : (day : Day) (fuel : ℕ) (J : History) (p x : ℕ) (l : Line) → next_ready day J p ≡ Some x → line_at day J x ≡ Some l → settle_from day (suc fuel) J p ≡ settle_from day fuel (l ∷ J) (suc x)
unfolding settle_from
settle-some day fuel J p x l n e =
    ap (λ o. elim o as (λ _. History) [ Some y ↦ settle_from day fuel (flat_step day J y) (suc y) | None ↦ elim p as (λ _. History) [ zero ↦ J | suc q ↦ settle_from day fuel J 0 ] ]) n
    ∙ ap (λ o. settle_from day fuel (with_line o J) (suc x)) e

settle-none : (day : Day) (fuel : ℕ) (J : History) (p : ℕ) → next_ready day J p ≡ None → settle_from day (suc fuel) J p ≡ elim p as (λ _. History) [ zero ↦ J | suc q ↦ settle_from day fuel J 0 ]
unfolding settle_from
settle-none day fuel J p n =
    ap (λ o. elim o as (λ _. History) [ Some y ↦ settle_from day fuel (flat_step day J y) (suc y) | None ↦ elim p as (λ _. History) [ zero ↦ J | suc q ↦ settle_from day fuel J 0 ] ]) n

settle-zero : (day : Day) (J : History) (p : ℕ) → settle_from day 0 J p ≡ J
unfolding settle_from
settle-zero day J p = refl

-- where no fuel is needed, nothing has a line
no-steps : (day : Day) (J : History) (p : ℕ) → is_sound day ≡ true → IsLegal day J → steps_left day J p ≤ 0 → J ≡ quiet_from day J p
no-steps day J (suc q) sound legal enough = absurd (omega (arith, enough))
no-steps day J zero sound legal enough = go (next_ready day J 0) refl
  where
    go : (o : Option ℕ) → next_ready day J 0 ≡ o → J ≡ quiet_from day J 0
    go None n = sym (quiet_from-end day J 0 n)
    go (Some x) n =
        let m = line-there day J x (next-has day J 0 x n) in
        let f = line-falls day J x m.line sound legal m.made in
        absurd (omega (arith, f, enough))

pub settle-anywhere : (day : Day) (J : History) (p fuel : ℕ) → is_sound day ≡ true → IsLegal day J → steps_left day J p ≤ fuel → settle_from day fuel J p ≡ quiet_from day J p
settle-anywhere day J p zero sound legal enough = settle-zero day J p ∙ no-steps day J p sound legal enough
settle-anywhere day J p (suc fuel) sound legal enough = go (next_ready day J p) refl (λ K q. settle-anywhere day K q fuel sound)
  where
    Later : Type 0
    Later = (K : History) (q : ℕ) → IsLegal day K → steps_left day K q ≤ fuel → settle_from day fuel K q ≡ quiet_from day K q

    turn : (p : ℕ) → next_ready day J p ≡ None → steps_left day J p ≤ suc fuel → Later → settle_from day (suc fuel) J p ≡ quiet_from day J p
    turn zero n enough later = settle-none day fuel J 0 n ∙ sym (quiet_from-end day J 0 n)
    turn (suc q) n enough later =
        settle-none day fuel J (suc q) n ∙ later J 0 legal (omega (arith, enough)) ∙ sym (quiet_from-turn day J (suc q) sound legal n)

    go : (o : Option ℕ) → next_ready day J p ≡ o → Later → settle_from day (suc fuel) J p ≡ quiet_from day J p
    go None n later = turn p n enough later
    go (Some x) n later =
        let m = line-there day J x (next-has day J p x n) in
        let f = steps-fall day J p x m.line sound legal m.made in
        let e : suc x ≡ x + 1 = omega arith in
        settle-some day fuel J p x m.line n m.made
        ∙ ap (settle_from day fuel (m.line ∷ J)) e
        ∙ later (m.line ∷ J) (x + 1) (line-legal day J x m.line legal m.made) (omega (arith, f, enough))
        ∙ sym (quiet_from-line day J p x m.line n m.made)

pub settle-run : (day : Day) (J : History) (fuel : ℕ) → is_sound day ≡ true → IsLegal day J → 2 * left day J ≤ fuel → settle_from day fuel J 0 ≡ quiet day J
settle-run day J fuel sound legal enough = settle-anywhere day J 0 fuel sound legal enough ∙ quiet_from-start day J sound legal

-- ---- one turn of a loop that visits what is next

visit-is : (day : Day) (J K : History) (x : ℕ) (l : Line) → line_at day J x ≡ Some l → K ≡ append day J (want_at day J x) → K ≡ l ∷ J
unfolding append line_at
visit-is day J K x l e k = k ∙ ap (λ o. with_line o J) e

pub visit-on : (day : Day) (J K : History) (p x : ℕ) → next_ready day J p ≡ Some x → K ≡ append day J (want_at day J x) → quiet_from day K (x + 1) ≡ quiet_from day J p
visit-on day J K p x n k =
    let m = line-there day J x (next-has day J p x n) in
    ap (λ L. quiet_from day L (x + 1)) (visit-is day J K x m.line m.made k) ∙ sym (quiet_from-line day J p x m.line n m.made)

pub visit-falls : (day : Day) (J K : History) (p x : ℕ) → is_sound day ≡ true → IsLegal day J → next_ready day J p ≡ Some x → K ≡ append day J (want_at day J x) → steps_left day K (x + 1) < steps_left day J p
visit-falls day J K p x sound legal n k =
    let m = line-there day J x (next-has day J p x n) in
    let f = steps-fall day J p x m.line sound legal m.made in
    let e : steps_left day K (x + 1) ≡ steps_left day (m.line ∷ J) (x + 1) = ap (λ L. steps_left day L (x + 1)) (visit-is day J K x m.line m.made k) in
    omega (arith, e, f)
