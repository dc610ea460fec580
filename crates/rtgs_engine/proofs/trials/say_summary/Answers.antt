use Rattle.program_answers.proofs.Saying.{says}
use Rattle.rtgs_engine.proofs.TrialAnswers.{holds_dcas}
use Rattle.rtgs_engine.proofs.trials.say_summary.Goals as goal

pub put_summary-requires : goal.put_summary-requires
put_summary-requires g c = record { held = holds_dcas c.args._trial c.args.settled.now.setting.day c.args.settled.now.journal _ c.requires.day c.requires.balanced }

pub returns : goal.returns
returns g c =
    says _ _ _ 0 _ _ (c.put_summary.ensures.summary c.args._trial.seed c.args._trial.batches c.requires.range.seed c.requires.range.least c.requires.range.most c.requires.day c.requires.balanced.legal c.requires.complete) c.status_after.ensures
