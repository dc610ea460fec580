use Rattle.commit_journal.specs.Histories.{oldest}
use Rattle.outside_io.proofs.PutLemmas.{has_put_is, has_put_more, has_put_none, puts_front}
use Rattle.day_page.specs.CountTexts.{refusal_part}
use Rattle.day_page.proofs.TextFacts.{next_at, parts_at}
use Rattle.day_page.proofs.counting.put_refusals.Goals as goal

pub loop-code-init : goal.loop-code-init
loop-code-init g c = has_put_none _

pub returns-in_err-put_refusal_part : goal.returns-in_err-put_refusal_part
returns-in_err-put_refusal_part g c =
    puts_front _ _ _ _ _ _ _ _ _ c.from_residual.ensures.0 (parts_at (refusal_part c.args.past.now.setting.now.day c.args.request.now (oldest c.args.past.now.journal.now.history c.args.past.now.place) c.args.class) c.args.codes.now c.loop-code.code-index _ c.loop-code-test.true) c.loop-code.invariant c.in_err-put_refusal_part.ensures

pub loop-code-preserved : goal.loop-code-preserved
loop-code-preserved g c = has_put_is _ _ _ _ (next_at (refusal_part c.args.past.now.setting.now.day c.args.request.now (oldest c.args.past.now.journal.now.history c.args.past.now.place) c.args.class) c.args.codes.now c.loop-code.code-index _ c.loop-code-test.true) (has_put_more _ _ _ _ _ _ c.loop-code.invariant c.in_ok-put_refusal_part.ensures)
