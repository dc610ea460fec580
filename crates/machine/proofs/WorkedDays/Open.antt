-- Opens definitions together: a proof that unfolds one of these names computes with all that it opens.
use Rattle.std.specs.Prelude.{ℕ}
use Rattle.period_calendar.specs.Calendar.{day_number, days_of_months, days_of_years, is_civil, weekday}
use Rattle.period_calendar.specs.Closing.{is_closing, is_open}
use Rattle.period_calendar.specs.Easter.{days_to_sunday, easter_place, full_moon, weeks_back}
use Rattle.machine.specs.Telling.History.{place_of, read_first, clock}
use Rattle.machine.specs.Telling.Balances.{credited, debited}
use Rattle.machine.specs.Telling.Facts.{open_cycle, cycle_ended}
use Rattle.machine.specs.Stages.Phases.{phase}
use Rattle.machine.specs.Stages.Intake.{intake_code}
use Rattle.machine.specs.Stages.Pending.{is_pending, is_blocked_by, is_blocked}
use Rattle.machine.specs.Stages.Blockers.{pick_of, first_blocker}
use Rattle.machine.specs.Making.Lines.{is_ready_item, is_ready_message, is_ready, next_stop, all_taken, line_of}
use Rattle.machine.specs.Making.FirstReady.{first_ready}
use Rattle.machine.specs.Making.Reasons.{why_not_in, why_not_book, why_not_all, why_not_expire, why_not_ask, why_not_cover, why_not_refuse, why_not_sweep, why_not_time, why_not_end}
use Rattle.machine.specs.Orders.Order.{append, one_scan, until, take_all, scan, empty_all, quiet, lap, to_round, to_end, plain}

-- those of the calendar
unfoldable pub dates : ℕ
unfolding is_open is_civil is_closing weekday day_number days_of_years days_of_months easter_place full_moon days_to_sunday weeks_back
dates = 0

-- those of the machine
unfoldable pub everything : ℕ
unfolding place_of read_first clock credited debited open_cycle cycle_ended phase intake_code is_pending is_blocked_by is_blocked pick_of first_blocker is_ready_item is_ready_message is_ready first_ready next_stop all_taken line_of why_not_in why_not_book why_not_all why_not_expire why_not_ask why_not_cover why_not_refuse why_not_sweep why_not_time why_not_end append one_scan until take_all scan empty_all quiet lap to_round to_end plain
everything = 0
