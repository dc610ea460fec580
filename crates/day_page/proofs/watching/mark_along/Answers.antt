use Rattle.std.proofs.Common.{◌≡◌, ◌∙◌, ◌+◌, ◌-◌, ℕ, ap, arith, length, sym}
use Rattle.std.specs.List.{flat_map}
use Rattle.commit_journal.specs.Line.{History}
use Rattle.commit_journal.specs.Histories.{oldest}
use Rattle.day_page.specs.Bars.{marks_at}
use Rattle.day_page.specs.Stops.{earlier_stops}
use Rattle.day_page.proofs.Beginnings.{legal_oldest, none_so_far, stands_at_end, stands_back, stands_first}
use Rattle.day_page.proofs.watching.mark_along.Goals as goal

pub loop-before-init : goal.loop-before-init
unfolding earlier_stops
loop-before-init c =
    let H = c.args.journal.now.history in
    let day = c.args.setting.now.day in
    record {
      stands = stands_first day H _ c.requires.first;
      marks = c.requires.no_marks ∙ sym (ap (λ (J : History). flat_map (marks_at day c.args.bars.now) (earlier_stops J)) (none_so_far H));
    }

pub mark_at-requires-clause-stands : goal.mark_at-requires-clause-stands
mark_at-requires-clause-stands c = stands_back c.args.setting.now.day c.args.journal.now.history _ c.loop-before.before c.loop-before.invariant.stands

pub mark_at-requires-clause-marks : goal.mark_at-requires-clause-marks
mark_at-requires-clause-marks c =
    let e : c.loop-before.before ≡ c.loop-before.before + 1 - 1 = omega arith in
    c.loop-before.invariant.marks ∙ ap (λ (i : ℕ). flat_map (marks_at c.args.setting.now.day c.args.bars.now) (earlier_stops (oldest c.args.journal.now.history i))) e

pub note_at-requires-clause-legal : goal.note_at-requires-clause-legal
note_at-requires-clause-legal c = legal_oldest c.args.setting.now.day (c.loop-before.before + 1) c.args.journal.now.history c.requires.legal

pub note_at-requires-clause-stands : goal.note_at-requires-clause-stands
note_at-requires-clause-stands c = stands_back c.args.setting.now.day c.args.journal.now.history _ c.loop-before.before c.loop-before.invariant.stands

pub returns-clause-stands : goal.returns-clause-stands
returns-clause-stands c =
    let end : c.loop-before.before ≡ length c.args.journal.now.history = omega (arith, c.len-before-end.ensures) in
    stands_at_end c.args.setting.now.day c.args.journal.now.history _ c.loop-before.before end c.loop-before.invariant.stands

pub returns-clause-marks : goal.returns-clause-marks
returns-clause-marks c =
    let end : c.loop-before.before ≡ length c.args.journal.now.history = omega (arith, c.len-before-end.ensures) in
    c.loop-before.invariant.marks ∙ ap (λ (i : ℕ). flat_map (marks_at c.args.setting.now.day c.args.bars.now) (earlier_stops (oldest c.args.journal.now.history i))) end
