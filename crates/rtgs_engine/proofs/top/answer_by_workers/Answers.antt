use Rattle.std.proofs.Common.{◌∙◌, ◌≤◌, Some, ap, refl, arith}
use Rattle.rtgs_engine.specs.declared.words.Command.TheVariants as commands
use Rattle.rtgs_engine.proofs.Texts.{says_for}
use Rattle.rtgs_engine.proofs.TrialAnswers.{says_tried}
use Rattle.rtgs_engine.proofs.WordLimits.{few_workers, trial_in_range}
use Rattle.rtgs_engine.proofs.top.answer_by_workers.Goals as goal

pub work_bytes-requires-clause-count : goal.work_bytes-requires-clause-count
work_bytes-requires-clause-count g c κs within =
    let some = c.if-workers-gt0.true in
    (omega (arith, some), few_workers c.requires.asked.0 c.in-Settle.workers (c.requires.asked.1 ∙ ap Some c.in-Settle.is))

pub try_by_workers-requires-clause-range : goal.try_by_workers-requires-clause-range
try_by_workers-requires-clause-range g c κs within = trial_in_range c.requires.asked.0 c.in-Trial.trial (c.requires.asked.1 ∙ ap Some c.in-Trial.is)

pub returns-in-Settle : goal.returns-in-Settle
returns-in-Settle g c = says_for g.S.Sink.state _ _ c.args.command.now (commands.Settle c.in-Settle.workers) c.args.bytes.items _ c.in-Settle.is refl c.work_bytes.ensures

pub returns-in-Trial : goal.returns-in-Trial
returns-in-Trial g c =
    says_tried g.S.Sink.state _ _ c.args.command.now c.args.bytes.items c.in-Trial.trial _ c.in-Trial.is (trial_in_range c.requires.asked.0 c.in-Trial.trial (c.requires.asked.1 ∙ ap Some c.in-Trial.is)) c.try_by_workers.ensures
