-- Turns until the clock has come to a time.
use Rattle.std.proofs.Common.{◌≡◌, ◌≤◌, ◌<◌, ℕ, true, false, length, subst, sym}
use Rattle.batch_records.specs.DayRecord.{Day}
use Rattle.batch_records.specs.Sound.{is_sound}
use Rattle.commit_journal.specs.Line.{History}
use Rattle.machine.specs.Legal.{IsLegal}
use Rattle.machine.specs.Orders.Bounds.{left}
use Rattle.machine.specs.Orders.Order.{lap}
use Rattle.settlement_laws.proofs.Base.Growing.{left-falls, until-next, until-over}
use Rattle.settlement_laws.proofs.DayEnd.PlainRuns.{grows-lap}
use Rattle.live_order.specs.LiveOrder.{has_reached, laps_to}
use Rattle.live_order.proofs.Runs.RunsSame.{runs_to_stop}

pub laps_to-over : (day : Day) (time : ℕ) (J : History) → has_reached time J ≡ true → laps_to day time J ≡ J
unfolding laps_to
laps_to-over day time J t = until-over (has_reached time) (lap day) (left day J) J t

pub laps_to-next : (day : Day) → is_sound day ≡ true → (time : ℕ) → time ≤ 86400 → (J : History) → IsLegal day J → has_reached time J ≡ false → laps_to day time J ≡ laps_to day time (lap day J)
unfolding laps_to
laps_to-next day sound time early J legal f = until-next day sound (has_reached time) (lap day) (runs_to_stop day sound time early) J legal f

pub laps_to-falls : (day : Day) → is_sound day ≡ true → (time : ℕ) → time ≤ 86400 → (J K : History) → IsLegal day J → has_reached time J ≡ false → K ≡ lap day J → left day K < left day J
laps_to-falls day sound time early J K legal f k =
    left-falls day sound J K (subst (IsLegal day) (sym k) ((grows-lap day J).legal legal)) (subst (λ L. length J < length L) (sym k) ((runs_to_stop day sound time early).moves J legal f))
