use Rattle.day_page.proofs.TextFacts.{markup_is, same_put}
use Rattle.day_page.proofs.markup.put_pieces.Goals as goal

pub returns : goal.returns
returns g c = same_put _ _ _ _ _ (markup_is _ c.args.pieces.now) c.put_each.ensures
