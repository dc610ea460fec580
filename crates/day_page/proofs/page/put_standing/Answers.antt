use Rattle.day_page.specs.Pages.{standing_of, standing_text}
use Rattle.day_page.proofs.TextFacts.{same_put}
use Rattle.day_page.proofs.page.put_standing.Goals as goal

pub returns : goal.returns
unfolding standing_text
returns g c =
    let day = c.args.setting.now.day in
    let J = c.args.journal.now.history in
    same_put _ _ _ _ _ (λ i. standing_of (c.lines.ensures day J c.requires.stands i) (c.clock.ensures day J c.requires.stands i) (c.state_of.ensures day J c.requires.stands i)) c.put_standing_of.ensures
