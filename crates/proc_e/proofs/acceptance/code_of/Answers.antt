use Rattle.std.proofs.Common.{sym, ap, ◌∙◌}
use Rattle.cash_amounts.specs.declared.records.Procedure.TheVariants.{E}
use Rattle.rule_book.specs.IntakeParts.{common_fault}
use Rattle.machine.specs.Records.Messages.{sort_of}
use Rattle.rule_book.proofs.Codes.{faultless, faulty}
use Rattle.machine.proofs.SortFacts.{e_is}
use Rattle.proc_e.proofs.acceptance.code_of.Goals as goal

pub returns-in-Some : goal.returns-in-Some
returns-in-Some g c =
    let day = g.D.Desk.day c.args.desk.now in
    sym (faulty E day (g.D.Desk.past c.args.desk.now) c.args.n c.in-Some.code (e_is (sort_of day c.args.n) c.requires) (ap (λ d. common_fault E d c.args.n) (sym c.setting.ensures) ∙ sym c.in-Some.ensures))

pub returns-in-None : goal.returns-in-None
returns-in-None g c =
    let day = g.D.Desk.day c.args.desk.now in
    c.own_code.ensures
    ∙ sym (faultless E day (g.D.Desk.past c.args.desk.now) c.args.n (e_is (sort_of day c.args.n) c.requires) (ap (λ d. common_fault E d c.args.n) (sym c.setting.ensures) ∙ sym c.in-None.ensures))
