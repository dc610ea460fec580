use Rattle.machine.specs.Records.Messages.{is_a, is_c, sort_of}
use Rattle.day_reasons.proofs.Settling.{is_e_else, tested}
use Rattle.day_reasons.proofs.waiting.judge_entry.Goals as goal

pub judge_of_e-requires-clause-batch : goal.judge_of_e-requires-clause-batch
judge_of_e-requires-clause-batch g c =
    let day = g.D.Desk.day c.args.desk.now in
    is_e_else (sort_of day c.args.n) c.args.k c.requires.books c.requires.other
    (tested is_a _ day c.args.n _ _ c.is_a.ensures c.if-is_a.false c.setting-setting.ensures)
    (tested is_c _ day c.args.n _ _ c.is_c.ensures c.if-is_c.false c.setting-setting.ensures)
