use Rattle.std.proofs.Common.{◌∙◌, ◌-◌, sym, ap, arith}
use Rattle.commit_journal.specs.Kept.{MovesInRoom}
use Rattle.commit_journal.specs.LineGrammar.{onto, read_moves}
use Rattle.commit_journal.proofs.ReadingLemmas.{moves_done, moves_fail, moves_more, room_for_more}
use Rattle.commit_journal.proofs.reading.take_moves.Goals as goal

pub returns-in_default-clause-read : goal.returns-in_default-clause-read
returns-in_default-clause-read c =
    sym c.loop-left.invariant.read ∙ moves_fail c.loop-left.moves.moves c.loop-left.left c.loop-left.rest.now (omega arith) (sym c.in_default.ensures.0)

pub loop-left-preserved : goal.loop-left-preserved
loop-left-preserved c =
    let one = c.in-Some.ensures in
    let l = c.loop-left in
    let room = room_for_more l.moves c.take_move.new.moves _ c.in-Some.after.now l.left c.args.moves.now.room one (omega arith) l.invariant.enough l.invariant.room in
    record {
      read = ap (λ (list : MovesInRoom). onto list.moves (read_moves (l.left - 1) c.in-Some.after.now)) one.put
          ∙ moves_more l.moves.moves l.left l.rest.now c.in-Some.after.now one.move (omega arith) (sym one.is)
          ∙ l.invariant.read;
      room = room.0;
      enough = room.1;
    }

pub returns-clause-read : goal.returns-clause-read
returns-clause-read c = sym c.loop-left.invariant.read ∙ moves_done c.loop-left.moves.moves c.loop-left.left c.loop-left.rest.now (omega arith)
