use Rattle.std.proofs.Common.{◌∙◌, ◌≤◌, List, Some, length, ap, subst, sym}
use Rattle.std.specs.Prelude.{is_some}
use Rattle.cash_amounts.specs.declared.records.AccountRecord.{AccountRecord}
use Rattle.cash_amounts.specs.declared.records.SystemRecord.{SystemRecord}
use Rattle.cash_amounts.specs.Tests.{some_passes}
use Rattle.account_book.specs.Directory.{linked_system, system_name}
use Rattle.account_book.specs.Setup.{Setup}
use Rattle.batch_records.specs.DayRecord.{Day}
use Rattle.machine.specs.Telling.Facts.{open_cycle}
use Rattle.settle_floor.proofs.Dedicated.{same_link, sub_within}
use Rattle.settle_floor.proofs.codes.has_open_cycle.Goals as goal

pub linked-requires-clause-least : goal.linked-requires-clause-least
linked-requires-clause-least g c = (sub_within (g.D.Desk.day c.args.desk.now) c.args.a c.requires).0

pub linked-requires-clause-most : goal.linked-requires-clause-most
linked-requires-clause-most g c =
    let same = ap (λ (b : Setup). b.accounts) c.setting.result.now.filed ∙ ap (λ (d : Day). d.accounts) c.setting.ensures in
    subst (λ (rs : List AccountRecord). c.args.a ≤ length rs) (sym same) (sub_within (g.D.Desk.day c.args.desk.now) c.args.a c.requires).1

pub cycle-requires-clause-most : goal.cycle-requires-clause-most
cycle-requires-clause-most g c =
    let same = ap (λ (b : Setup). b.systems) c.setting.result.now.filed ∙ ap (λ (d : Day). d.systems) c.setting.ensures in
    subst (λ (rs : List SystemRecord). c.in-Some.system ≤ length rs) same c.in-Some.ensures.within.1

pub returns-in-Some : goal.returns-in-Some
returns-in-Some g c =
    let day = g.D.Desk.day c.args.desk.now in
    let past = g.D.Desk.past c.args.desk.now in
    let same = ap (λ (b : Setup). b.systems) c.setting.result.now.filed ∙ ap (λ (d : Day). d.systems) c.setting.ensures in
    let accounts = ap (λ (b : Setup). b.accounts) c.setting.result.now.filed ∙ ap (λ (d : Day). d.accounts) c.setting.ensures in
    let link = sym (ap (λ (rs : List SystemRecord). Some (system_name rs c.in-Some.system)) same) ∙ c.in-Some.ensures.name ∙ ap (λ (rs : List AccountRecord). linked_system rs c.args.a) accounts ∙ same_link day c.args.a in
    c.is_some.ensures ∙ ap is_some c.cycle.ensures ∙ ap (some_passes (λ s. is_some (open_cycle day s past))) link

pub returns-in-None : goal.returns-in-None
returns-in-None g c =
    let day = g.D.Desk.day c.args.desk.now in
    let past = g.D.Desk.past c.args.desk.now in
    let accounts = ap (λ (b : Setup). b.accounts) c.setting.result.now.filed ∙ ap (λ (d : Day). d.accounts) c.setting.ensures in
    let link = c.in-None.ensures.name ∙ ap (λ (rs : List AccountRecord). linked_system rs c.args.a) accounts ∙ same_link day c.args.a in
    ap (some_passes (λ s. is_some (open_cycle day s past))) link
