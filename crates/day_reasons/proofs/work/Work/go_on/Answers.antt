use Rattle.std.proofs.Common.{◌∙◌, length, ap, arith, sym}
use Rattle.commit_journal.specs.Line.{History}
use Rattle.journal_replay.specs.Verdicts.{followed}
use Rattle.journal_replay.proofs.Following.{follow_next}
use Rattle.day_reasons.proofs.Along.{there}
use Rattle.day_reasons.proofs.work.Work.go_on.Goals as goal

pub loop-read-init : goal.loop-read-init
loop-read-init c = record { along = c.requires.along; lines = omega arith }

pub follow-rest-requires-clause-work : goal.follow-rest-requires-clause-work
follow-rest-requires-clause-work c = c.loop-read.invariant.along.work

pub follow-rest-requires-clause-there : goal.follow-rest-requires-clause-there
follow-rest-requires-clause-there c =
    let lines = c.loop-read.invariant.lines in
    let more = c.requires.more in
    there c.args.setting.now.day c.loop-read.self.floor.journal.history c.loop-read.rest.now c.args.whole.now c.loop-read.invariant.along.same (omega (arith, lines, more))

pub loop-read-preserved : goal.loop-read-preserved
loop-read-preserved c =
    let day = c.args.setting.now.day in
    let next = c.follow-rest.ensures.next in
    let after = c.follow-rest.result.now in
    let longer = ap length next.2 in
    let lines = c.loop-read.invariant.lines in
    record {
      along = record {
        work = c.follow-rest.ensures.work;
        same = ap (λ (J : History). followed (length after) day J after) next.2 ∙ sym (follow_next day c.loop-read.self.floor.journal.history c.loop-read.rest.now (next.0, after) next.1) ∙ c.loop-read.invariant.along.same;
      };
      lines = omega (arith, longer, lines);
    }

pub returns-clause-along : goal.returns-clause-along
returns-clause-along c = c.loop-read.invariant.along

pub returns-clause-lines : goal.returns-clause-lines
returns-clause-lines c = let lines = c.loop-read.invariant.lines in omega (arith, lines)
