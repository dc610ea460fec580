use Rattle.std.proofs.Common.{◌∙◌, Some, ap, sym}
use Rattle.rtgs_engine.proofs.WordLimits.{few_workers, trial_in_range}
use Rattle.rtgs_engine.proofs.words.worker_count.Goals as goal

pub returns-in-Some-Settle-clause-few : goal.returns-in-Some-Settle-clause-few
returns-in-Some-Settle-clause-few c = few_workers c.args.words.now c.in-Some-Settle.workers (sym c.in-Some-Settle.ensures ∙ ap Some c.in-Some-Settle.field-0-is)

pub returns-in-Some-Trial-clause-few : goal.returns-in-Some-Trial-clause-few
returns-in-Some-Trial-clause-few c =
    let range = trial_in_range c.args.words.now c.in-Some-Trial.trial (sym c.in-Some-Trial.ensures ∙ ap Some c.in-Some-Trial.field-0-is) in
    range.few
