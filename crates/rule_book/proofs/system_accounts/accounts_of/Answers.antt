use Rattle.std.proofs.Common.{◌≡◌, ◌∙◌, None, sym, ap}
use Rattle.machine.specs.Records.Messages.{procedure_of, sender}
use Rattle.machine.specs.Records.Setup.{system_named}
use Rattle.rule_book.proofs.Filed.{no_fund, no_technical}
use Rattle.rule_book.proofs.system_accounts.accounts_of.Goals as goal

pub returns-in-None : goal.returns-in-None
returns-in-None c =
    let day = c.args.day.now in
    let from = sender day c.args.n in
    let none : system_named day from ≡ None = ap (system_named day) (sym c.sender.ensures) ∙ sym c.in-None.ensures.number in
    λ i. record {
      technical = sym (no_technical day from (procedure_of day c.args.n) c.requires.sound none) i;
      fund = sym (no_fund day from c.requires.sound none) i;
    }
