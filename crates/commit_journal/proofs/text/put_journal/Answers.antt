use Rattle.std.proofs.Common.{◌<◌, length, arith}
use Rattle.outside_io.proofs.PutLemmas.{has_put_is, has_put_more, has_put_none, puts_all, puts_front}
use Rattle.commit_journal.proofs.TextLemmas.{journal_none, journal_more, journal_parts, journal_all}
use Rattle.commit_journal.proofs.text.put_journal.Goals as goal

pub loop-before-init : goal.loop-before-init
loop-before-init g c = has_put_is _ _ _ _ (journal_none c.args.journal.now.history) (has_put_none _)

pub returns-in_err-put_line : goal.returns-in_err-put_line
returns-in_err-put_line g c =
    let inside : c.loop-before.before < length c.args.journal.now.history = omega arith in
    let parts = journal_parts c.args.journal.now.history c.loop-before.before _ inside c.line.ensures in
    puts_front _ _ _ _ _ parts.0 _ _ _ c.from_residual.ensures.0 parts.1 c.loop-before.invariant c.in_err-put_line.ensures

pub loop-before-preserved : goal.loop-before-preserved
loop-before-preserved g c =
    let inside : c.loop-before.before < length c.args.journal.now.history = omega arith in
    has_put_is _ _ _ _ (journal_more c.args.journal.now.history c.loop-before.before _ inside c.line.ensures) (has_put_more _ _ _ _ _ _ c.loop-before.invariant c.in_ok-put_line.ensures)

pub returns : goal.returns
returns g c =
    puts_all _ _ _ tt (has_put_is _ _ _ _ (journal_all c.args.journal.now.history c.loop-before.before (omega arith)) c.loop-before.invariant)
