use Rattle.std.proofs.Common.{sym, ap, ◌∙◌}
use Rattle.as_client.specs.Views.{is_addressed}
use Rattle.as_client.proofs.ViewSteps.{move_takes, turn_known}
use Rattle.as_client.proofs.party.Party.take.Goals as goal

pub returns-in-Moved-clause-told : goal.returns-in-Moved-clause-told
returns-in-Moved-clause-told c day name ss knows =
    let to_it = ap (is_addressed c.args.self.now.name) (sym c.in-Moved.is) ∙ c.requires in
    rw c.in-Moved.is (move_takes day name ss c.args.self.now c.take_move.new.self knows c.in-Moved.place c.in-Moved.to c.in-Moved.debit c.in-Moved.account c.in-Moved.amount c.take_move.result to_it c.take_move.ensures.told)

pub returns-in-Turn-clause-told : goal.returns-in-Turn-clause-told
returns-in-Turn-clause-told c day name ss knows =
    let to_it = ap (is_addressed c.args.self.now.name) (sym c.in-Turn.is) ∙ c.requires in
    rw c.in-Turn.is (turn_known day name ss c.args.self.now c.take_turn.new.self knows c.in-Turn.place c.in-Turn.to c.in-Turn.code c.in-Turn.msg c.in-Turn.sender c.in-Turn.id c.in-Turn.entry c.in-Turn.reason to_it c.take_turn.ensures)
