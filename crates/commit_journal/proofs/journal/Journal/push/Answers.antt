use Rattle.std.proofs.Common.{◌∙◌, ap}
use Rattle.commit_journal.specs.Kept.{Kept, pushed}
use Rattle.commit_journal.proofs.StoredLemmas.{kept-push}
use Rattle.commit_journal.proofs.journal.Journal.push.Goals as goal

pub returns : goal.returns
returns c =
    let s = rw c.unwrap.ensures at c.push.ensures.items in
    let m = rw c.unwrap-2.ensures at c.extend_from_slice.ensures.items in
    let sl = rw c.unwrap.ensures at c.push.ensures.len in
    let ml = rw c.unwrap-2.ensures at c.extend_from_slice.ensures.len in
    kept-push _ _ _ _ _ _ _ c.self.inside.most_lines c.self.inside.most_moves _ _ _ _ s m sl ml ∙ ap (λ (k : Kept). pushed k c.args.head c.args.moves.now) c.self.view_is
