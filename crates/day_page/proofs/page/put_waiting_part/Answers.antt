use Rattle.std.proofs.Common.{◌∙◌}
use Rattle.day_page.specs.Pages.{waiting_part}
use Rattle.day_page.specs.WaitTexts.{waiting_text}
use Rattle.day_page.proofs.TextFacts.{same_put}
use Rattle.day_page.proofs.page.put_waiting_part.Goals as goal

pub returns : goal.returns
unfolding waiting_part
returns g c = same_put _ _ _ _ _ (λ i. waiting_text ((c.as_slice.ensures.value ∙ c.requires.watched.waits) i) (c.requires.watched.peaks i)) c.put_waiting.ensures
