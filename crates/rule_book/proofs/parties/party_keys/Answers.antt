use Rattle.std.proofs.Common.{◌∙◌, ap, sym, arith}
use Rattle.std.specs.Prelude.{nat_eq}
use Rattle.rule_book.specs.Parties.{is_listed, key}
use Rattle.rule_book.proofs.FewEntries.{few_entries}
use Rattle.rule_book.proofs.PartyFacts.{few_parts}
use Rattle.rule_book.proofs.parties.party_keys.Goals as goal

pub returns-in-Some : goal.returns-in-Some
returns-in-Some c = λ k party.
    let setting = c.args.setting.now in
    let day = setting.day in
    let n = c.args.n in
    let bank = c.args.bank.now in
    let b = c.in-Some.ensures in
    let few = few_parts day n k bank party in
    let most = few_entries day n setting.sound in
    c.of.ensures k (omega (arith, few, most))
    (ap (λ x. is_listed setting.tables.parties.keys (key n x k)) b.number ∙ setting.tabled.1.lists n b.informed k bank (ap (λ x. nat_eq x 0) (sym b.number) ∙ b.a_bank) party)
