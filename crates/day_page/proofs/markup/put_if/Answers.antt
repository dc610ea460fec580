use Rattle.std.proofs.Common.{Bool, List, ℕ, [], ap, map, sym}
use Rattle.std.specs.Prelude.{if◌then◌else◌}
use Rattle.outside_io.proofs.PutLemmas.{has_put_none, puts_all}
use Rattle.day_page.specs.Markup.{markup}
use Rattle.day_page.proofs.TextFacts.{same_put}
use Rattle.day_page.proofs.markup.put_if.Goals as goal

pub returns-else-test : goal.returns-else-test
returns-else-test g c =
    let text : List ℕ = markup (map (λ piece. piece.now) c.args.pieces.now) in
    same_put _ _ _ _ _ (ap (λ (b : Bool). if b then text else []) (sym c.if-test.false)) (puts_all _ _ [] tt (has_put_none _))
