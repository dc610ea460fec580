use Rattle.std.proofs.Common.{sym, ap, ◌∙◌}
use Rattle.rule_book.specs.IntakeParts.{common_fault}
use Rattle.rule_book.proofs.Codes.{faultless, faulty, same_sides}
use Rattle.rule_book.proofs.taking.code_over_technical.Goals as goal

pub returns-in-Some : goal.returns-in-Some
returns-in-Some g c =
    let day = g.D.Desk.day c.args.desk.now in
    sym (faulty c.args.procedure day (g.D.Desk.past c.args.desk.now) c.args.n c.in-Some.code c.requires.sort (ap (λ d. common_fault c.args.procedure d c.args.n) (sym c.setting.ensures) ∙ sym c.in-Some.ensures))

pub returns-in-None : goal.returns-in-None
returns-in-None g c =
    let day = g.D.Desk.day c.args.desk.now in
    let J = g.D.Desk.past c.args.desk.now in
    let p = c.args.procedure in
    let n = c.args.n in
    c.code_of_sides.ensures
    ∙ sym (same_sides p day J n c.requires.sides)
    ∙ sym (faultless p day J n c.requires.sort (ap (λ d. common_fault p d n) (sym c.setting.ensures) ∙ sym c.in-None.ensures))
