use Rattle.outside_io.proofs.PutLemmas.{has_put_is, has_put_more, has_put_none, puts_front, texts_next, texts_parts}
use Rattle.day_page.specs.LineTexts.{move_words}
use Rattle.day_page.proofs.wording.put_each.Goals as goal

pub loop-one-init : goal.loop-one-init
loop-one-init g c = has_put_none _

pub returns-in_err-put_move : goal.returns-in_err-put_move
returns-in_err-put_move g c =
    puts_front _ _ _ _ _ _ _ _ _ c.from_residual.ensures.0 (texts_parts (move_words c.args.setting.now.day) _ _ _ c.loop-one-test.true c.one-item.is) c.loop-one.invariant c.in_err-put_move.ensures

pub loop-one-preserved : goal.loop-one-preserved
loop-one-preserved g c = has_put_is _ _ _ _ (texts_next (move_words c.args.setting.now.day) _ _ _ c.loop-one-test.true c.one-item.is) (has_put_more _ _ _ _ _ _ c.loop-one.invariant c.in_ok-put_move.ensures)
