use Rattle.std.proofs.Common.{◌∙◌, ap, arith, length}
use Rattle.std.proofs.lemmas.List.{length-map}
use Rattle.cash_amounts.specs.declared.records.AccountRecord.{AccountRecord}
use Rattle.batch_records.proofs.register.Register.push.Goals as goal

pub enter-requires : goal.enter-requires
enter-requires c =
    let long = ap length c.self.invariant.of_names ∙ length-map c.self.inside.accounts.items (λ (a : AccountRecord). a.name) in
    omega (arith, long, c.self.invariant.names_room, ap length c.self.view_is, c.requires)
