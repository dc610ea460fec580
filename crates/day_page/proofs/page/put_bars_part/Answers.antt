use Rattle.std.proofs.Common.{◌∙◌}
use Rattle.day_page.specs.BarTexts.{bars_text}
use Rattle.day_page.specs.Pages.{bars_part}
use Rattle.day_page.proofs.TextFacts.{same_put}
use Rattle.day_page.proofs.page.put_bars_part.Goals as goal

pub returns : goal.returns
unfolding bars_part
returns g c =
    let day = c.args.setting.now.day in
    same_put _ _ _ _ _
    (λ i. bars_text day ((c.as_slice.ensures.value ∙ c.requires.watched.bars) i) ((c.as_slice-2.ensures.value ∙ c.requires.watched.changes) i) (c.clock.ensures day c.args.journal.now.history c.requires.watched.stands i))
    c.put_bars.ensures
