use Rattle.std.proofs.Common.{◌∙◌, Some, ap}
use Rattle.std.specs.Option.{option_or}
use Rattle.rule_book.specs.Rows.{cut}
use Rattle.day_facts.proofs.RowLemmas.{cut_changed, none_changed}
use Rattle.day_facts.proofs.places.put_in.Goals as goal

pub returns-in-Some : goal.returns-in-Some
returns-in-Some c = ap (cut 0 c.args.ends.now) c.put_at.ensures ∙ cut_changed c.args.ends.now c.args.n c.args.k _ (λ found. option_or found (Some c.args.place)) c.args.items.now c.requires.rises c.in-Some.ensures

pub returns-in_default : goal.returns-in_default
returns-in_default c = none_changed c.args.ends.now c.args.n c.args.k (λ found. option_or found (Some c.args.place)) c.args.items.now c.requires.rises c.in_default.ensures
