use Rattle.std.proofs.Common.{◌≡◌, ◌∙◌, ◌+◌, ◌-◌, ◌++◌, ◌∷◌, ℕ, List, [], ap, arith, length, sym, append-nil, if◌then◌else◌}
use Rattle.std.specs.Prelude.{map}
use Rattle.commit_journal.specs.Line.{History, Line}
use Rattle.commit_journal.specs.Histories.{oldest}
use Rattle.machine.specs.Telling.Balances.{balance}
use Rattle.day_page.specs.declared.courses.Point.{Point}
use Rattle.day_page.specs.declared.courses.Running.{Running}
use Rattle.day_page.specs.declared.extents.Extent.{Extent}
use Rattle.day_page.specs.Courses.{point}
use Rattle.day_page.specs.Extents.{extents, held_at_stops, held_in}
use Rattle.day_page.specs.Running.{running}
use Rattle.day_page.specs.Stops.{earlier_stops, leaves_slot}
use Rattle.day_page.proofs.Beginnings.{legal_oldest, none_so_far}
use Rattle.day_page.proofs.ExtentHolds.{held_small, helds_are}
use Rattle.day_page.proofs.StopFacts.{map_behind}
use Rattle.day_page.proofs.TextFacts.{whole}
use Rattle.day_page.proofs.courses.run.Goals as goal

pub loop-before-init : goal.loop-before-init
unfolding earlier_stops
loop-before-init c =
    let H = c.args.journal.now.history in
    let day = c.args.setting.now.day in
    let shown = c.args.shown.now in
    record {
      at = c.start-at.ensures ∙ ap (running day shown) (sym (none_so_far H));
      points = sym (append-nil c.args.points.now.items) ∙ ap (λ (J : History). c.args.points.now.items ++ map (point day shown 0) (earlier_stops J)) (sym (none_so_far H));
      helds = sym (append-nil c.args.helds.now.rows) ∙ ap (λ (J : History). c.args.helds.now.rows ++ held_at_stops day shown J) (sym (none_so_far H));
      extents = c.requires.extents ∙ ap (extents day) (sym (none_so_far H));
    }

pub note_stop-requires : goal.note_stop-requires
note_stop-requires c =
    let H = c.args.journal.now.history in
    record { small = held_small c.args.setting.now.day (oldest H c.loop-before.before) c.loop-before.extents c.args.setting.now.sound (legal_oldest c.args.setting.now.day c.loop-before.before H c.requires.legal) c.loop-before.invariant.extents }

pub note_line-requires-clause-before : goal.note_line-requires-clause-before
note_line-requires-clause-before c =
    let e : c.loop-before.before ≡ c.loop-before.before + 1 - 1 = omega arith in
    c.loop-before.invariant.extents ∙ ap (λ (i : ℕ). extents c.args.setting.now.day (oldest c.args.journal.now.history i)) e

pub step-at-requires-clause-before : goal.step-at-requires-clause-before
step-at-requires-clause-before c =
    let e : c.loop-before.before ≡ c.loop-before.before + 1 - 1 = omega arith in
    c.loop-before.invariant.at ∙ ap (λ (i : ℕ). running c.args.setting.now.day c.args.shown.now (oldest c.args.journal.now.history i)) e

pub loop-before-preserved : goal.loop-before-preserved
loop-before-preserved c =
    let H = c.args.journal.now.history in
    let day = c.args.setting.now.day in
    let shown = c.args.shown.now in
    let J : History = oldest H c.loop-before.before in
    let l : Line = record { head = c.line.result.0; moves = c.line.result.1.now } in
    let e : c.loop-before.before + 1 - 1 ≡ c.loop-before.before = omega arith in
    let is : oldest H (c.loop-before.before + 1) ≡ l ∷ J = c.line.ensures ∙ ap (λ (i : ℕ). l ∷ oldest H i) e in
    let puts : (r : Running) → List Point = λ r. if leaves_slot r.clock l.head then record { account = 0; clock = r.clock; cents = r.held } ∷ [] else [] in
    let row : map (held_in c.loop-before.extents) shown ≡ map (balance day J) shown = ap (λ (xs : List Extent). map (held_in xs) shown) c.loop-before.invariant.extents ∙ helds_are day J shown c.requires.accounts in
    let rows : (r : Running) → List ℕ → List (List ℕ) = λ r held. if leaves_slot r.clock l.head then held ∷ [] else [] in
    record {
      at = c.step-at.ensures;
      points = map_behind (point day shown 0) (oldest H (c.loop-before.before + 1)) l J _ _ _ is c.loop-before.invariant.points (c.in_ok-note_stop.ensures.points ∙ ap (λ (r : Running). c.loop-before.points.items ++ puts r) c.loop-before.invariant.at);
      helds = map_behind (λ (P : History). map (balance day P) shown) (oldest H (c.loop-before.before + 1)) l J _ _ _ is c.loop-before.invariant.helds (c.in_ok-note_stop.ensures.helds ∙ (λ k. c.loop-before.helds.rows ++ rows (c.loop-before.invariant.at k) (row k)));
      extents = c.note_line.ensures;
    }

pub returns-clause-at : goal.returns-clause-at
returns-clause-at c =
    let H = c.args.journal.now.history in
    let all : c.loop-before.before ≡ length H = omega (arith, c.len-before-end.ensures) in
    c.loop-before.invariant.at ∙ ap (λ (i : ℕ). running c.args.setting.now.day c.args.shown.now (oldest H i)) all ∙ ap (running c.args.setting.now.day c.args.shown.now) (whole H)

pub returns-clause-points : goal.returns-clause-points
returns-clause-points c =
    let H = c.args.journal.now.history in
    let all : c.loop-before.before ≡ length H = omega (arith, c.len-before-end.ensures) in
    let put : History → List Point = λ J. c.args.points.now.items ++ map (point c.args.setting.now.day c.args.shown.now 0) (earlier_stops J) in
    c.loop-before.invariant.points ∙ ap (λ (i : ℕ). put (oldest H i)) all ∙ ap put (whole H)

pub returns-clause-helds : goal.returns-clause-helds
returns-clause-helds c =
    let H = c.args.journal.now.history in
    let all : c.loop-before.before ≡ length H = omega (arith, c.len-before-end.ensures) in
    let put : History → List (List ℕ) = λ J. c.args.helds.now.rows ++ held_at_stops c.args.setting.now.day c.args.shown.now J in
    c.loop-before.invariant.helds ∙ ap (λ (i : ℕ). put (oldest H i)) all ∙ ap put (whole H)

pub returns-clause-extents : goal.returns-clause-extents
returns-clause-extents c =
    let H = c.args.journal.now.history in
    let all : c.loop-before.before ≡ length H = omega (arith, c.len-before-end.ensures) in
    c.loop-before.invariant.extents ∙ ap (λ (i : ℕ). extents c.args.setting.now.day (oldest H i)) all ∙ ap (extents c.args.setting.now.day) (whole H)
