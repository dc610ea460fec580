use Rattle.live_day.proofs.BehindFacts.{line_parts, puts_is}
use Rattle.outside_io.proofs.PutLemmas.{puts_first, puts_then}
use Rattle.live_day.proofs.telling.tell_line.Goals as goal

pub returns-in_err-put_line-clause-texts : goal.returns-in_err-put_line-clause-texts
returns-in_err-put_line-clause-texts g c =
    puts_is _ _ _ _ _ (line_parts c.args.setting.now.day c.args.journal.now.history c.args.place _ c.requires.from c.requires.to c.line.ensures)
    (puts_first _ _ _ _ _ _ c.from_residual.ensures.0 c.in_err-put_line.ensures)

pub returns-clause-texts : goal.returns-clause-texts
returns-clause-texts g c =
    puts_is _ _ _ _ _ (line_parts c.args.setting.now.day c.args.journal.now.history c.args.place _ c.requires.from c.requires.to c.line.ensures)
    (puts_then _ _ _ _ _ _ _ c.in_ok-put_line.ensures c.say.ensures.texts)
