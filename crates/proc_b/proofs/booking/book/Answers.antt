use Rattle.std.proofs.Common.{◌≡◌, true, false, Some, length, refl, sym, ap, ◌∙◌, arith}
use Rattle.commit_journal.specs.declared.line.Want.TheVariants as wants
use Rattle.commit_journal.specs.declared.line.Kind.TheVariants as kinds
use Rattle.commit_journal.specs.declared.line.Code.TheVariants as line_codes
use Rattle.machine.specs.Records.Messages.{entries, move_of, side}
use Rattle.settlement_laws.proofs.Wants.Answering.{line_there}
use Rattle.proc_b.proofs.Answered.{why_not_all-is}
use Rattle.proc_b.proofs.Pushing.{both_sides, has_moves, whole_moves}
use Rattle.proc_b.proofs.booking.book.Goals as goal

pub returns-in-Some : goal.returns-in-Some
returns-in-Some g c = (why_not_all-is (g.D.Desk.day c.args.desk.now) (g.D.Desk.past c.args.desk.now) c.args.n c.requires.batch ∙ sym c.in-Some.ensures, refl)

pub push_side-requires : goal.push_side-requires
push_side-requires g c =
    let same : length (entries c.setting.result.now.day c.args.n) ≡ length (entries (g.D.Desk.day c.args.desk.now) c.args.n) = ap (λ d. length (entries d c.args.n)) c.setting.ensures in
    let both = both_sides c.setting.result.now.day c.args.n in
    let room = c.requires.room in
    omega arith

pub push_side-requires-2 : goal.push_side-requires-2
push_side-requires-2 g c =
    let n = c.args.n in
    let same : length (entries c.setting.result.now.day n) ≡ length (entries (g.D.Desk.day c.args.desk.now) n) = ap (λ d. length (entries d n)) c.setting.ensures in
    let credits : length (side false c.setting.result.now.day n) ≡ length (side false c.setting-2.result.now.day n) = ap (λ d. length (side false d n)) (c.setting.ensures ∙ sym c.setting-2.ensures) in
    let both = both_sides c.setting.result.now.day n in
    let room = c.requires.room in
    let pushed = c.push_side.ensures.room in
    omega arith

pub returns : goal.returns
returns g c =
    let day = g.D.Desk.day c.args.desk.now in
    let past = g.D.Desk.past c.args.desk.now in
    let n = c.args.n in
    let first = c.setting.result.now.day in
    let second = c.setting-2.result.now.day in
    let moves = whole_moves day first second n c.args.moves.now c.push_side.new.moves c.push_side-2.new.moves c.setting.ensures c.setting-2.ensures c.requires.empty c.push_side.ensures.made c.push_side-2.ensures.made in
    let half = has_moves (move_of first) (side true first n) c.args.moves.now c.push_side.new.moves c.push_side.ensures.made c.push_side.ensures.room in
    let whole = has_moves (move_of second) (side false second n) c.push_side.new.moves c.push_side-2.new.moves c.push_side-2.ensures.made c.push_side-2.ensures.room in (
      line_there day past (wants.All n) (why_not_all-is day past n c.requires.batch ∙ sym c.in_default.ensures)
          ∙ ap (λ ms. Some (record { head = record { kind = kinds.All; msg = n; entry = 0; code = line_codes.Ok }; moves = ms })) moves
          ∙ ap (λ h. Some (record { head = h; moves = c.push_side-2.new.moves.moves })) (sym c.head.ensures),
      whole ∙ half,
    )
