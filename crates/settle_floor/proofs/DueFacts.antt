-- A pass over the items that are due is a scan.
use Rattle.std.proofs.Common.{◌≡◌, ◌∙◌, ℕ, suc, ◌+◌, ◌-◌, ◌<◌, ◌≤◌, Bool, true, false, not, ◌&&◌, List, Some, None, length, refl, sym, ap, subst, arith}
use Rattle.std.proofs.lemmas.Bool.{false≢true}
use Rattle.batch_records.specs.DayRecord.{Day}
use Rattle.commit_journal.specs.Line.{History}
use Rattle.machine.specs.Telling.History.{is_ended}
use Rattle.machine.specs.Making.Lines.{is_ready_item}
use Rattle.machine.specs.Orders.Order.{append, scan}
use Rattle.number_set.specs.Members.{has}
use Rattle.number_set.specs.Next.{IsNext}
use Rattle.scan_laws.specs.Numbers.{item_count, item_of}
use Rattle.scan_laws.specs.Runs.{flat_step, has_line, line_at, scan_from, want_at}
use Rattle.scan_laws.proofs.FlatPasses.{sweep-whole, sweep_from-done, sweep_from-next}
use Rattle.scan_laws.proofs.Stretches.{idle-over}
use Rattle.scan_laws.proofs.Lined.{line-ready}
use Rattle.due_items.specs.Due.{due_at}
use Rattle.due_items.specs.Kept.{Due, KeepsDue}
use Rattle.due_items.proofs.HintFacts.{ready_due}
use Rattle.due_items.proofs.Noted.{flag_at, flags_length}
use Rattle.settle_floor.specs.Floors.{OnFloor}

-- the step of an item appends its want
pub step_is : (day : Day) (J : History) (i : ℕ) → append day J (want_at day J i) ≡ flat_step day J i
unfolding append line_at
step_is day J i = refl

pub swept_is : (day : Day) (J : History) → scan_from day J 0 ≡ scan day J
swept_is day J = sym (sweep-whole day J)

pub due_within : (day : Day) (J : History) (due : Due) → KeepsDue day J due → (i : ℕ) → i < length due.set → i < item_count day
due_within day J due keeps i low =
    let len : length due.set ≡ item_count day = ap length keeps.exact ∙ flags_length (due_at day J) (item_count day) in
    omega (arith, len, low)

-- what isn't due has no line
idle : (day : Day) (J : History) (due : Due) → KeepsDue day J due → (i : ℕ) → i < item_count day → has due.set i ≡ false → has_line day J i ≡ false
idle day J due keeps i low none =
    line-ready day J i ∙ here (is_ended J) (is_ready_item day J (item_of day i).msg (item_of day i).entry) (λ r. absurd (false≢true (sym rests ∙ ready_due day J (item_of day i).msg (item_of day i).entry r)))
  where
    rests : due_at day J i ≡ false
    rests = sym (flag_at (due_at day J) (item_count day) i low) ∙ sym (ap (λ (xs : List Bool). has xs i) keeps.exact) ∙ none

    here : (e r : Bool) → (r ≡ true → r ≡ false) → (not e && r) ≡ false
    here true r h = refl
    here false false h = refl
    here false true h = h refl

between : (day : Day) (J : History) (due : Due) (p q : ℕ) → KeepsDue day J due → p ≤ q → q ≤ item_count day → ((i : ℕ) → p ≤ i → i < q → has due.set i ≡ false) → scan_from day J p ≡ scan_from day J q
between day J due p q keeps low high none = idle-over day J p q low (λ i a b. idle day J due keeps i (omega (arith, b, high)) (none i a b))

-- the next item that is due is visited
pub visited : (day : Day) (J K : History) (due : Due) (p i : ℕ) → KeepsDue day J due → IsNext (has due.set) p (Some i) → i < item_count day → K ≡ flat_step day J i → scan_from day K (i + 1) ≡ scan_from day J p
visited day J K due p i keeps next low e =
    let same : i + 1 ≡ suc i = omega arith in
    (λ t. scan_from day (e t) (same t)) ∙ sym (sweep_from-next day J i low) ∙ sym (between day J due p i keeps next.at_least (omega (arith, low)) next.none_before)

-- none is left
pub none_due_left : (day : Day) (J : History) (due : Due) (p : ℕ) → KeepsDue day J due → IsNext (has due.set) p None → p ≤ item_count day → J ≡ scan_from day J p
none_due_left day J due p keeps none low =
    sym (sweep_from-done day J (item_count day) (omega arith)) ∙ sym (between day J due p (item_count day) keeps low (omega arith) (λ i a b. none i a))

-- ---- the same of a floor, whose set is asked behind its face

pub within_floor : (day : Day) (f g : OnFloor) (i : ℕ) → f ≡ g → KeepsDue day g.journal.history g.index.due → i < length f.index.due.set → i < item_count day
within_floor day f g i e keeps low = due_within day g.journal.history g.index.due keeps i (subst (λ (h : OnFloor). i < length h.index.due.set) e low)

pub fewer_left : (count p i : ℕ) → p ≤ i → i < count → count - (i + 1) < count - p
fewer_left count p i low high = omega (arith, low, high)

pub visited_floor : (day : Day) (f g : OnFloor) (K : History) (p i : ℕ) → f ≡ g → KeepsDue day g.journal.history g.index.due → IsNext (has f.index.due.set) p (Some i) → i < item_count day → K ≡ flat_step day g.journal.history i → scan_from day K (i + 1) ≡ scan_from day g.journal.history p
visited_floor day f g K p i e keeps next low made = visited day g.journal.history K g.index.due p i keeps (subst (λ (h : OnFloor). IsNext (has h.index.due.set) p (Some i)) e next) low made

pub none_left_on : (day : Day) (f g : OnFloor) (p : ℕ) → f ≡ g → KeepsDue day g.journal.history g.index.due → IsNext (has f.index.due.set) p None → p ≤ item_count day → g.journal.history ≡ scan_from day g.journal.history p
none_left_on day f g p e keeps none low = none_due_left day g.journal.history g.index.due p keeps (subst (λ (h : OnFloor). IsNext (has h.index.due.set) p None) e none) low
