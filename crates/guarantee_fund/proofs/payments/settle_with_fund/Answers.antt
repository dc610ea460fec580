use Rattle.std.proofs.Common.{◌≤◌, ◌++◌, map, sym, subst, length, ◌∙◌}
use Rattle.batch_records.specs.DayRecord.{Day}
use Rattle.machine.specs.Records.Messages.{credit_entries, move_of}
use Rattle.machine.specs.Making.Lines.{covered_debit}
use Rattle.guarantee_fund.proofs.Debits.{room-left}
use Rattle.guarantee_fund.proofs.payments.settle_with_fund.Goals as goal

pub push_side-requires : goal.push_side-requires
push_side-requires g c =
    let day = g.D.Desk.day c.args.desk.now in
    let n = c.args.n in
    subst (λ (d : Day). length (credit_entries d n) ≤ c.push_debits.new.moves.room) (sym c.setting.ensures)
    (room-left (covered_debit day (g.D.Desk.past c.args.desk.now) n) day n c.args.moves.now c.push_debits.new.moves c.requires.room c.requires.empty c.push_debits.ensures.moves c.push_debits.ensures.room)

pub returns-clause-moves : goal.returns-clause-moves
returns-clause-moves g c =
    let n = c.args.n in
    c.push_side.ensures.made ∙ (λ i. c.push_debits.ensures.moves i ++ map (move_of (c.setting.ensures i)) (credit_entries (c.setting.ensures i) n))
