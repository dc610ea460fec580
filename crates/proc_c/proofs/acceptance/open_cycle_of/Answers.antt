use Rattle.std.proofs.Common.{◌∙◌, ◌≡◌, ◌≤◌, List, length, ap, subst, sym}
use Rattle.cash_amounts.specs.declared.records.SystemRecord.{SystemRecord}
use Rattle.account_book.specs.Directory.{find_system, system_name}
use Rattle.account_book.specs.Setup.{Setup}
use Rattle.batch_records.specs.DayRecord.{Day}
use Rattle.machine.specs.Telling.Facts.{open_cycle}
use Rattle.proc_c.proofs.Cycles.{no_cycle_of_others}
use Rattle.proc_c.proofs.acceptance.open_cycle_of.Goals as goal

pub cycle-requires-clause-most : goal.cycle-requires-clause-most
cycle-requires-clause-most g c =
    let same = ap (λ (b : Setup). b.systems) c.setting.result.now.filed ∙ ap (λ (d : Day). d.systems) c.setting.ensures in
    subst (λ (rs : List SystemRecord). c.in-Some.number ≤ length rs) same c.in-Some.ensures.within.1

pub returns-in-Some : goal.returns-in-Some
returns-in-Some g c =
    let same = ap (λ (b : Setup). b.systems) c.setting.result.now.filed ∙ ap (λ (d : Day). d.systems) c.setting.ensures in
    let name = sym (ap (λ (rs : List SystemRecord). system_name rs c.in-Some.number) same) ∙ c.in-Some.ensures.name in
    c.cycle.ensures ∙ ap (λ s. open_cycle (g.D.Desk.day c.args.desk.now) s (g.D.Desk.past c.args.desk.now)) name

pub returns-in-None : goal.returns-in-None
returns-in-None g c =
    let same = ap (λ (b : Setup). b.systems) c.setting.result.now.filed ∙ ap (λ (d : Day). d.systems) c.setting.ensures in
    let none = sym (c.in-None.ensures.number ∙ ap (λ (rs : List SystemRecord). find_system rs c.args.system.now) same) in
    sym (no_cycle_of_others (g.D.Desk.day c.args.desk.now) (g.D.Desk.past c.args.desk.now) c.args.system.now (g.D.Desk.legal c.args.desk.now) none)
