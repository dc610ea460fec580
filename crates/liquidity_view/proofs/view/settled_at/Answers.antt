use Rattle.std.proofs.Common.{◌≡◌, ◌≤◌, ◌+◌, ◌-◌, arith, refl}
use Rattle.commit_journal.specs.Line.{Line}
use Rattle.commit_journal.specs.Histories.{oldest}
use Rattle.liquidity_view.specs.Figures.{settled}
use Rattle.liquidity_view.specs.Views.{most_settled}
use Rattle.liquidity_view.proofs.ViewLines.{legal_oldest, settled_low, settled_more}
use Rattle.liquidity_view.proofs.view.settled_at.Goals as goal

pub overflow_add-result : goal.overflow_add-result
overflow_add-result c =
    let day = c.args.setting.now.day in
    let H = c.args.journal.now.history in
    let later = oldest H c.args.place in
    let l : Line = record { head = c.line.result.0; moves = c.line.result.1.now } in
    let sum : c.args.before + c.moved.result ≡ settled c.args.side day c.args.name.now later =
    settled_more c.args.side day c.args.name.now later l (oldest H (c.args.place - 1)) l.moves c.args.before c.moved.result c.line.ensures refl c.requires.before c.moved.ensures in
    let low : c.args.before + c.moved.result ≤ most_settled = settled_low c.args.side day c.args.name.now later _ c.args.setting.now.sound (legal_oldest day c.args.place H c.requires.legal) sum in
    omega (arith, low)

pub returns-clause-value : goal.returns-clause-value
returns-clause-value c =
    let day = c.args.setting.now.day in
    let H = c.args.journal.now.history in
    let l : Line = record { head = c.line.result.0; moves = c.line.result.1.now } in
    settled_more c.args.side day c.args.name.now (oldest H c.args.place) l (oldest H (c.args.place - 1)) l.moves c.args.before c.moved.result c.line.ensures refl c.requires.before c.moved.ensures

pub returns-clause-small : goal.returns-clause-small
returns-clause-small c =
    let day = c.args.setting.now.day in
    let H = c.args.journal.now.history in
    let l : Line = record { head = c.line.result.0; moves = c.line.result.1.now } in
    settled_low c.args.side day c.args.name.now (oldest H c.args.place) _ c.args.setting.now.sound (legal_oldest day c.args.place H c.requires.legal)
    (settled_more c.args.side day c.args.name.now (oldest H c.args.place) l (oldest H (c.args.place - 1)) l.moves c.args.before c.moved.result c.line.ensures refl c.requires.before c.moved.ensures)
