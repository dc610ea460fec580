use Rattle.std.proofs.Common.{◌∙◌, Bool, List, ℕ, [], ap, sym}
use Rattle.std.specs.Prelude.{if◌then◌else◌}
use Rattle.std.specs.List.{flat_map}
use Rattle.outside_io.proofs.PutLemmas.{has_put_none, puts_all}
use Rattle.machine.specs.Records.Messages.{item_numbers}
use Rattle.day_reasons.specs.Told.{item_text}
use Rattle.day_reasons.proofs.PutFacts.{same_put}
use Rattle.day_reasons.proofs.telling.put_unfinished.Goals as goal

pub returns-then-is_unfinished-clause-put : goal.returns-then-is_unfinished-clause-put
returns-then-is_unfinished-clause-put g c =
    let text : List ℕ = flat_map (item_text (g.D.Desk.day c.args.desk.now) (g.D.Desk.past c.args.desk.now) c.args.n) (item_numbers (g.D.Desk.day c.args.desk.now) c.args.n) in
    same_put _ _ _ _ _ (ap (λ (b : Bool). if b then text else []) (sym (sym c.is_unfinished.ensures ∙ c.if-is_unfinished.true))) c.put_items.ensures.put

pub returns-else-is_unfinished-clause-put : goal.returns-else-is_unfinished-clause-put
returns-else-is_unfinished-clause-put g c =
    let text : List ℕ = flat_map (item_text (g.D.Desk.day c.args.desk.now) (g.D.Desk.past c.args.desk.now) c.args.n) (item_numbers (g.D.Desk.day c.args.desk.now) c.args.n) in
    same_put _ _ _ _ _ (ap (λ (b : Bool). if b then text else []) (sym (sym c.is_unfinished.ensures ∙ c.if-is_unfinished.false))) (puts_all _ _ [] tt (has_put_none _))
