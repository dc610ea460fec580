use Rattle.std.proofs.Common.{◌≡◌, ◌∙◌, ◌+◌, ◌-◌, ℕ, ap, arith, length, subst, sym}
use Rattle.std.specs.Prelude.{map}
use Rattle.commit_journal.specs.Line.{History}
use Rattle.commit_journal.specs.Histories.{oldest}
use Rattle.due_items.specs.Kept.{KeepsDue}
use Rattle.day_page.specs.Peaks.{peaks}
use Rattle.day_page.specs.Stakes.{IsKept}
use Rattle.day_page.specs.Stops.{earlier_stops}
use Rattle.day_page.specs.Waits.{waiting}
use Rattle.day_page.proofs.Beginnings.{legal_oldest, none_so_far, stands_at_end, stands_back, stands_first}
use Rattle.day_page.proofs.StakeFacts.{peaks_later}
use Rattle.day_page.proofs.peaks.run.Goals as goal

pub loop-before-init : goal.loop-before-init
unfolding earlier_stops
loop-before-init c =
    let H = c.args.journal.now.history in
    let day = c.args.setting.now.day in
    let r = c.args.request.now in
    record {
      stands = stands_first day H _ c.requires.first;
      due = subst (λ (J : History). KeepsDue day J c.args.due.now) (sym (none_so_far H)) c.requires.due;
      kept = subst (λ (J : History). IsKept day r J c.args.ledger.now) (sym (none_so_far H)) c.requires.kept;
      top = c.first_peaks-top.ensures day r c.requires.kept ∙ ap (λ (J : History). peaks day r J) (sym (none_so_far H));
      waits = c.requires.no_waits ∙ sym (ap (λ (J : History). map (waiting day r) (earlier_stops J)) (none_so_far H));
    }

pub put_at-requires-clause-stands : goal.put_at-requires-clause-stands
put_at-requires-clause-stands c = stands_back c.args.setting.now.day c.args.journal.now.history _ c.loop-before.before c.loop-before.invariant.stands

pub put_at-requires-clause-kept : goal.put_at-requires-clause-kept
put_at-requires-clause-kept c =
    let e : c.loop-before.before ≡ c.loop-before.before + 1 - 1 = omega arith in
    subst (λ (i : ℕ). IsKept c.args.setting.now.day c.args.request.now (oldest c.args.journal.now.history i) c.loop-before.ledger) e c.loop-before.invariant.kept

pub put_at-requires-clause-waits : goal.put_at-requires-clause-waits
put_at-requires-clause-waits c =
    let e : c.loop-before.before ≡ c.loop-before.before + 1 - 1 = omega arith in
    c.loop-before.invariant.waits ∙ ap (λ (i : ℕ). map (waiting c.args.setting.now.day c.args.request.now) (earlier_stops (oldest c.args.journal.now.history i))) e

pub note-requires-clause-legal : goal.note-requires-clause-legal
note-requires-clause-legal c = legal_oldest c.args.setting.now.day (c.loop-before.before + 1) c.args.journal.now.history c.requires.legal

pub note-requires-clause-stands : goal.note-requires-clause-stands
note-requires-clause-stands c = stands_back c.args.setting.now.day c.args.journal.now.history _ c.loop-before.before c.loop-before.invariant.stands

pub note-requires-clause-due : goal.note-requires-clause-due
note-requires-clause-due c =
    let e : c.loop-before.before ≡ c.loop-before.before + 1 - 1 = omega arith in
    subst (λ (i : ℕ). KeepsDue c.args.setting.now.day (oldest c.args.journal.now.history i) c.loop-before.due) e c.loop-before.invariant.due

pub note-requires-clause-kept : goal.note-requires-clause-kept
note-requires-clause-kept c =
    let e : c.loop-before.before ≡ c.loop-before.before + 1 - 1 = omega arith in
    subst (λ (i : ℕ). IsKept c.args.setting.now.day c.args.request.now (oldest c.args.journal.now.history i) c.loop-before.ledger) e c.loop-before.invariant.kept

pub loop-before-preserved : goal.loop-before-preserved
loop-before-preserved c =
    record {
      stands = c.note.ensures.stands;
      due = c.note.ensures.due;
      kept = c.note.ensures.kept;
      top = peaks_later c.args.setting.now.day c.args.request.now c.args.journal.now.history c.loop-before.before c.note.new.ledger c.loop-before.top _ c.note.ensures.line c.note.ensures.kept c.loop-before.invariant.top c.raised-top.ensures;
      waits = c.in_ok-put_at.ensures;
    }

pub returns-clause-stands : goal.returns-clause-stands
returns-clause-stands c =
    let end : c.loop-before.before ≡ length c.args.journal.now.history = omega (arith, c.len-before-end.ensures) in
    stands_at_end c.args.setting.now.day c.args.journal.now.history _ c.loop-before.before end c.loop-before.invariant.stands

pub returns-clause-kept : goal.returns-clause-kept
returns-clause-kept c =
    let end : c.loop-before.before ≡ length c.args.journal.now.history = omega (arith, c.len-before-end.ensures) in
    subst (λ (i : ℕ). IsKept c.args.setting.now.day c.args.request.now (oldest c.args.journal.now.history i) c.loop-before.ledger) end c.loop-before.invariant.kept

pub returns-clause-peaks : goal.returns-clause-peaks
returns-clause-peaks c =
    let end : c.loop-before.before ≡ length c.args.journal.now.history = omega (arith, c.len-before-end.ensures) in
    c.loop-before.invariant.top ∙ ap (λ (i : ℕ). peaks c.args.setting.now.day c.args.request.now (oldest c.args.journal.now.history i)) end

pub returns-clause-waits : goal.returns-clause-waits
returns-clause-waits c =
    let end : c.loop-before.before ≡ length c.args.journal.now.history = omega (arith, c.len-before-end.ensures) in
    c.loop-before.invariant.waits ∙ ap (λ (i : ℕ). map (waiting c.args.setting.now.day c.args.request.now) (earlier_stops (oldest c.args.journal.now.history i))) end
