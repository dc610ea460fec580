use Rattle.std.proofs.Common.{◌∙◌, ℕ, List, length, ap, arith, sym}
use Rattle.commit_journal.specs.Line.{History}
use Rattle.journal_replay.specs.Verdicts.{followed}
use Rattle.journal_replay.proofs.Following.{follow_next}
use Rattle.journal_reading.proofs.ReadingLaws.{all_read, there}
use Rattle.journal_reading.proofs.reading.read_lines.Goals as goal

pub loop-read-init : goal.loop-read-init
loop-read-init c =
    let text = c.args.text.now in
    record {
      same = ap (λ (J : History). followed (length text) c.args.setting.now.day J text) c.requires.empty;
      lines = sym (ap length c.requires.empty);
      fits = c.requires.fits;
      moves = c.requires.moves;
    }

pub read_next-rest-requires-clause-there : goal.read_next-rest-requires-clause-there
read_next-rest-requires-clause-there c =
    let lines = c.loop-read.invariant.lines in
    let count = c.requires.count in
    there c.args.setting.now.day c.loop-read.journal.history c.loop-read.rest.now c.args.text.now c.loop-read.invariant.same (omega (arith, lines, count))

pub loop-read-preserved : goal.loop-read-preserved
loop-read-preserved c =
    let day = c.args.setting.now.day in
    let next = c.read_next-rest.ensures.next in
    let after = c.read_next-rest.result.now in
    let longer = ap length next.2 in
    let lines = c.loop-read.invariant.lines in
    record {
      same = ap (λ (J : History). followed (length after) day J after) next.2 ∙ sym (follow_next day c.loop-read.journal.history c.loop-read.rest.now (next.0, after) next.1) ∙ c.loop-read.invariant.same;
      lines = omega (arith, longer, lines);
      fits = c.read_next-rest.ensures.fits;
      moves = c.read_next-rest.ensures.moves;
    }

pub returns-clause-journal : goal.returns-clause-journal
returns-clause-journal c =
    let lines = c.loop-read.invariant.lines in
    let count = c.requires.count in
    ap (λ (r : History × List ℕ). r.0) (all_read c.args.setting.now.day c.loop-read.journal.history c.loop-read.rest.now c.args.text.now c.loop-read.invariant.same (omega (arith, lines, count)))

pub returns-clause-rest : goal.returns-clause-rest
returns-clause-rest c =
    let lines = c.loop-read.invariant.lines in
    let count = c.requires.count in
    ap (λ (r : History × List ℕ). r.1) (all_read c.args.setting.now.day c.loop-read.journal.history c.loop-read.rest.now c.args.text.now c.loop-read.invariant.same (omega (arith, lines, count)))
