-- A legal history whose clock is at most at the last of the day's stops passes no time from that stop on. So whatever follows of the day,
-- it is legal.
use Rattle.std.proofs.Common.{◌≡◌, ℕ, ◌<◌, ◌≤◌, arith, true, List, ◌∷◌, length, not}
use Rattle.std.specs.Prelude.{nat_lt}
use Rattle.std.proofs.lemmas.Bool.{and_parts, ltb-true}
use Rattle.batch_records.specs.DayRecord.{Day}
use Rattle.batch_records.specs.declared.day.Message.{Message}
use Rattle.commit_journal.specs.declared.line.Want.{Want}
use Rattle.commit_journal.specs.declared.line.Want.TheVariants as wants
use Rattle.commit_journal.specs.Line.{History}
use Rattle.machine.specs.Telling.History.{clock, is_time}
use Rattle.machine.specs.Making.Lines.{may, made, all_taken, is_ready}
use Rattle.machine.specs.Legal.{IsLegal}
use Rattle.settlement_laws.proofs.Base.Induction.{legal_induction}
use Rattle.settlement_laws.proofs.DayEnd.Stops.{next_stop-bounds}
use Rattle.live_order.specs.LiveOrder.{stop_at}
use Rattle.live_order.specs.Longer.{longer, GoesOn, PassesWithin}
use Rattle.live_order.proofs.Longer.LegalSame.{legal_second}
use Rattle.live_order.proofs.Runs.StatedStops.{before_last}
use Rattle.live_order.proofs.Runs.Speaking.{speaks}

-- a line's time, where it is a Time line, is above the clock before it
one_line : (day : Day) (t : ℕ) (J : History) (w : Want) → may day J w ≡ true → clock (made day J w ∷ J) ≤ t → (clock J ≤ t) × (is_time (made day J w).head.kind ≡ true → clock J < t)
unfolding clock
one_line day t J (wants.In n) m h = (h, λ e. cc)
one_line day t J (wants.Book n k) m h = (h, λ e. cc)
one_line day t J (wants.All n) m h = (h, λ e. cc)
one_line day t J wants.Time m h =
    let early : clock J < 86400 = ltb-true _ _ (and_parts (nat_lt (clock J) 86400) (all_taken day J) (and_parts _ (not (is_ready day J)) m).0).0 in
    let l = (next_stop-bounds day J early).0 in
    (omega (arith, l, h), λ e. omega (arith, l, h))
one_line day t J (wants.Expire n) m h = (h, λ e. cc)
one_line day t J (wants.Ask n) m h = (h, λ e. cc)
one_line day t J (wants.Cover n) m h = (h, λ e. cc)
one_line day t J (wants.Refuse n) m h = (h, λ e. cc)
one_line day t J (wants.Sweep a) m h = (h, λ e. cc)
one_line day t J wants.End m h = (h, λ e. cc)

pub passes : (day : Day) (J : History) → IsLegal day J → clock J ≤ stop_at day (length day.stops) → PassesWithin day J
passes day = legal_induction day (λ J. clock J ≤ stop_at day (length day.stops) → PassesWithin day J) (λ h. tt)
    (λ J w legal before e m h.
    let r = one_line day (stop_at day (length day.stops)) J w m h in
    (before r.0, λ t. before_last day (length day.stops) (clock J) (r.1 t)))

pub still_legal : (day : Day) (ms : List Message) (ss : List ℕ) → GoesOn day ms ss → (J : History) → IsLegal day J → clock J ≤ stop_at day (length day.stops) → IsLegal (longer day ms ss) J
still_legal day ms ss g J legal h = legal_second day ms ss g J (speaks day J legal) (passes day J legal h) legal
