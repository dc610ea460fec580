use Rattle.std.proofs.Common.{◌∙◌, Bool, List, ℕ, [], ap, sym}
use Rattle.std.specs.Prelude.{if◌then◌else◌}
use Rattle.outside_io.proofs.PutLemmas.{has_put_none, puts_all}
use Rattle.day_page.specs.LineTexts.{item_text, recent_part}
use Rattle.day_page.proofs.TextFacts.{same_put}
use Rattle.day_page.proofs.wording.put_recent_line.Goals as goal

pub returns-else-is_recent : goal.returns-else-is_recent
unfolding recent_part
returns-else-is_recent g c =
    let text : List ℕ = item_text c.args.setting.now.day c.args.place (record { head = c.args.head; moves = c.args.moves.now }) in
    same_put _ _ _ _ _ (ap (λ (b : Bool). if b then text else []) (sym (sym c.is_recent.ensures ∙ c.if-is_recent.false))) (puts_all _ _ [] tt (has_put_none _))
