-- Stages, phases and pending items by what is kept.
use Rattle.std.specs.Prelude.{ℕ, Bool, true, false, not, ◌&&◌, ◌||◌, List, [], ◌∷◌, Option, Some, None, nat_lt, is_some, unwrap_or, if◌then◌else◌}
use Rattle.std.specs.Option.{option_map_or}
use Rattle.batch_records.specs.DayRecord.{Day}
use Rattle.machine.specs.declared.answers.Phase.{Phase}
use Rattle.period_calendar.specs.declared.time.TheConstants.{MIDNIGHT}
use Rattle.machine.specs.declared.answers.Phase.TheVariants as phases
use Rattle.machine.specs.Words.{first_case, is_zero, numbered, some_passes}
use Rattle.machine.specs.Records.Setup.{system_named}
use Rattle.machine.specs.Records.Messages.{Sort, Pay, BatchA, BatchB, BatchC, BatchD, BatchE, earliest, entry_at, info_end, is_a, is_credit, is_debit, sender, settlement_end, settlement_start, sort_of}
use Rattle.machine.specs.Telling.History.{is_ok}
use Rattle.machine.specs.Stages.Phases.{is_covered, is_no_order, is_open}
use Rattle.day_facts.specs.declared.stages.Stage.{Stage}
use Rattle.day_facts.specs.declared.stages.Stage.TheVariants as stages
use Rattle.day_facts.specs.Cycles.{end_in}
use Rattle.day_facts.specs.FactsRecord.{Facts}
use Rattle.day_facts.specs.Left.{last_in}
use Rattle.day_facts.specs.Openings.{opening_in}
use Rattle.day_facts.specs.Own.{code_in, place_in}
use Rattle.day_facts.specs.Rows.{none_in, place_at}
use Rattle.day_facts.specs.Told.{answered_in, revoked_in}

abbrev pub taken_by : Facts → ℕ → Bool
taken_by facts n = is_some (place_in (λ own. own.taken) facts.own n)

abbrev pub has_booked : Facts → ℕ → ℕ → Bool
has_booked facts n k = is_some (place_at facts.booked n k)

abbrev pub has_revoked : Day → Facts → ℕ → ℕ → Bool
has_revoked day facts n k = is_some (revoked_in day facts.revoked n k)

abbrev pub has_covered : Facts → ℕ → Bool
has_covered facts n = is_some (place_in (λ own. own.covered) facts.own n)

abbrev pub has_asked : Facts → ℕ → Bool
has_asked facts n = is_some (place_in (λ own. own.asked) facts.own n)

abbrev pub has_ended : Day → Facts → ℕ → Bool
has_ended day facts n = nat_lt (unwrap_or (place_in (λ own. own.taken) facts.own n) 0) (end_in facts.cycles (system_named day (sender day n)))

abbrev pub revoked_by : Sort → Day → Facts → ℕ → Bool
revoked_by BatchA day facts n = has_revoked day facts n 0
revoked_by BatchB day facts n = has_revoked day facts n 0
revoked_by BatchE day facts n = none_in facts.kept n
revoked_by _ day facts n = false

abbrev pub settled_by : Sort → Day → Facts → ℕ → Bool
settled_by Pay day facts n = has_booked facts n 0
settled_by BatchA day facts n = none_in facts.waiting n
settled_by BatchB day facts n = is_some (place_in (λ own. own.whole) facts.own n) || has_covered facts n
settled_by BatchC day facts n = none_in facts.waiting n
settled_by BatchD day facts n = true
settled_by BatchE day facts n = none_in facts.waiting n
settled_by _ day facts n = false

abbrev pub open_by : Sort → Day → Facts → ℕ → Bool
open_by BatchA day facts n = nat_lt facts.clock (settlement_end day n)
open_by BatchB day facts n = nat_lt facts.clock (settlement_end day n)
open_by BatchE day facts n = nat_lt facts.clock (settlement_end day n)
open_by BatchC day facts n = nat_lt facts.clock MIDNIGHT && not (has_ended day facts n)
open_by Pay day facts n = nat_lt facts.clock MIDNIGHT
open_by _ day facts n = false

-- ---- how far its lines have brought a message, of which the clock says nothing

-- of an accepted payment or batch that is neither closed, revoked nor settled
abbrev pub standing_by : Day → Facts → ℕ → Stage
standing_by day facts n = first_case (
    (is_a (sort_of day n) && has_covered facts n, stages.Covered)
    ∷ (has_asked facts n && is_some (answered_in facts.told n), stages.Answered)
    ∷ (has_asked facts n, stages.Asking)
    ∷ []) stages.Going

abbrev pub stage_by : Day → Facts → ℕ → Stage
stage_by day facts n = first_case (
    (not (taken_by facts n), stages.Untaken)
    ∷ (not (some_passes is_ok (code_in facts.own n)), stages.Rejected)
    ∷ (is_no_order (sort_of day n), stages.Settled)
    ∷ (is_some (place_in (λ own. own.closed) facts.own n), stages.Closed)
    ∷ (revoked_by (sort_of day n) day facts n, stages.Revoked)
    ∷ (settled_by (sort_of day n) day facts n, stages.Settled)
    ∷ []) (standing_by day facts n)

-- that of message n, as it is kept
abbrev pub stage_in : List Stage → ℕ → Stage
stage_in kept n = option_map_or (λ stage. stage) (numbered kept n) stages.Untaken

-- ---- phases

-- of a message that goes on, by the clock
abbrev pub going_by : Day → Facts → ℕ → Phase
going_by day facts n = first_case (
    (some_passes (nat_lt facts.clock) (info_end day n), phases.Information)
    ∷ (some_passes (nat_lt facts.clock) (earliest day n), phases.Waiting)
    ∷ (open_by (sort_of day n) day facts n, phases.Open)
    ∷ []) phases.Overdue

abbrev pub phase_at : Stage → Day → Facts → ℕ → Phase
phase_at stages.Untaken day facts n = phases.Untaken
phase_at stages.Rejected day facts n = phases.Rejected
phase_at stages.Settled day facts n = phases.Settled
phase_at stages.Closed day facts n = phases.Closed
phase_at stages.Revoked day facts n = phases.Revoked
phase_at stages.Covered day facts n = phases.Covered
phase_at stages.Answered day facts n = phases.Answered
phase_at stages.Asking day facts n = phases.Asking
phase_at stages.Going day facts n = going_by day facts n

abbrev pub phase_by : Day → Facts → ℕ → Phase
phase_by day facts n = phase_at (stage_in facts.stages n) day facts n

-- ---- pending items

abbrev pub next_by : Day → Facts → ℕ → ℕ → Bool
next_by day facts n k = not (has_booked facts n k) && (is_debit day n k || is_credit day n k && none_in facts.debits n)

abbrev pub pending_by : Sort → Day → Facts → ℕ → ℕ → Phase → Bool
pending_by Pay day facts n k p = is_zero k && is_open p
pending_by BatchA day facts n k p = is_open p && next_by day facts n k || is_covered p && is_credit day n k && not (has_booked facts n k)
pending_by BatchB day facts n k p = is_zero k && is_open p
pending_by BatchC day facts n k p = is_some (entry_at day n k) && is_open p && not (has_booked facts n k)
pending_by BatchE day facts n k p = is_some (entry_at day n k) && is_open p && not (has_booked facts n k) && not (has_revoked day facts n k)
pending_by _ day facts n k p = false

-- ---- the line that made an item active

abbrev pub opened_by : Facts → ℕ → Option ℕ → ℕ
opened_by facts n None = unwrap_or (place_in (λ own. own.taken) facts.own n) 0
opened_by facts n (Some start) = opening_in facts.openings start

abbrev pub active_by : Day → Facts → ℕ → ℕ → ℕ
active_by day facts n k =
    if is_a (sort_of day n) && is_credit day n k
    then unwrap_or (place_in (λ own. own.covered) facts.own n) (last_in facts.last n)
    else opened_by facts n (settlement_start day n)
