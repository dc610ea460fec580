use Rattle.std.proofs.Common.{◌∙◌, ◌≤◌, List, length, ap, subst, sym}
use Rattle.cash_amounts.specs.declared.records.SystemRecord.{SystemRecord}
use Rattle.account_book.specs.Directory.{system_name}
use Rattle.account_book.specs.Setup.{Setup}
use Rattle.machine.specs.Telling.Facts.{open_cycle}
use Rattle.day_reasons.proofs.desk.LinesDeskDesk.cycle.Goals as goal

pub system_name-name-requires-clause-most : goal.system_name-name-requires-clause-most
system_name-name-requires-clause-most c =
    subst (λ (rs : List SystemRecord). c.args.system ≤ length rs) (sym (ap (λ (b : Setup). b.systems) c.args.self.now.setting.now.filed)) c.requires.most

pub returns : goal.returns
returns c =
    let name = c.system_name-name.ensures ∙ ap (λ (b : Setup). system_name b.systems c.args.system) c.args.self.now.setting.now.filed in
    c.cycle.ensures _ c.args.self.now.stands ∙ ap (λ s. open_cycle c.args.self.now.setting.now.day s c.args.self.now.journal.now.history) name
