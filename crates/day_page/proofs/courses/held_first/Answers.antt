use Rattle.std.proofs.Common.{◌∙◌}
use Rattle.day_page.proofs.RunningFacts.{none_held}
use Rattle.day_page.proofs.courses.held_first.Goals as goal

pub returns : goal.returns
returns c = c.opening.ensures.value ∙ none_held c.args.setting.now.day c.args.a
