use Rattle.std.proofs.Common.{◌∙◌, ℕ, List, length, sym, ap, arith}
use Rattle.commit_journal.specs.Line.{History}
use Rattle.machine.specs.Legal.{is_complete}
use Rattle.journal_replay.specs.Verdicts.{followed}
use Rattle.journal_replay.proofs.Following.{few_so_far, follow_next, follow_stops, shorter}
use Rattle.journal_replay.proofs.judging.follow.Goals as goal

pub overflow_add-lines : goal.overflow_add-lines
overflow_add-lines c =
    let few = few_so_far c.args.setting.now.day c.args.setting.now.sound c.lines.floor.journal.history c.lines.invariant.at_work.opened.fits.legal in
    let lines = c.lines.invariant.lines in
    omega (arith, few, lines)

pub lines-smaller : goal.lines-smaller
lines-smaller c = shorter c.args.setting.now.day c.lines.floor.journal.history c.lines.rest.now (c.in-Some.ensures.next.0, c.in-Some.after.now) c.in-Some.ensures.next.1

pub lines-preserved : goal.lines-preserved
lines-preserved c =
    let next = c.in-Some.ensures.next in
    let longer = ap length next.2 in
    let lines = c.lines.invariant.lines in
    let day = c.args.setting.now.day in
    record {
      same = ap (λ (J : History). followed (length c.in-Some.after.now) day J c.in-Some.after.now) next.2 ∙ sym (follow_next day c.lines.floor.journal.history c.lines.rest.now (next.0, c.in-Some.after.now) next.1) ∙ c.lines.invariant.same;
      lines = omega (arith, longer, lines);
      ended = next.3 ∙ sym (ap is_complete next.2);
      at_work = c.follow_line.ensures.at_work;
      moves = c.follow_line.ensures.moves;
    }

pub returns-clause-lines : goal.returns-clause-lines
returns-clause-lines c =
    let read = sym c.lines.invariant.same ∙ follow_stops c.args.setting.now.day c.lines.floor.journal.history c.lines.rest.now c.in_default.ensures.next in
    c.lines.invariant.lines ∙ sym (ap (λ (r : History × List ℕ). length r.0) read)

pub returns-clause-ended : goal.returns-clause-ended
returns-clause-ended c =
    let read = sym c.lines.invariant.same ∙ follow_stops c.args.setting.now.day c.lines.floor.journal.history c.lines.rest.now c.in_default.ensures.next in
    c.lines.invariant.ended ∙ sym (ap (λ (r : History × List ℕ). is_complete r.0) read)

pub returns-clause-rest : goal.returns-clause-rest
returns-clause-rest c =
    let read = sym c.lines.invariant.same ∙ follow_stops c.args.setting.now.day c.lines.floor.journal.history c.lines.rest.now c.in_default.ensures.next in
    sym (ap (λ (r : History × List ℕ). r.1) read)

pub returns-clause-few : goal.returns-clause-few
returns-clause-few c =
    let few = few_so_far c.args.setting.now.day c.args.setting.now.sound c.lines.floor.journal.history c.lines.invariant.at_work.opened.fits.legal in
    let lines = c.lines.invariant.lines in
    omega (arith, few, lines)
