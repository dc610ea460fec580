use Rattle.std.proofs.Common.{◌≡◌, true, sym, ap, subst, ◌∙◌}
use Rattle.batch_records.specs.DayRecord.{Day}
use Rattle.machine.specs.Records.Messages.{fund_account}
use Rattle.guarantee_fund.proofs.Held.{fund_held}
use Rattle.guarantee_fund.proofs.covering.fund_balance.Goals as goal

pub balance-requires : goal.balance-requires
balance-requires g c =
    let held = g.D.Desk.held c.args.desk.now in
    let day = g.D.Desk.day c.args.desk.now in
    let n = c.args.n in
    subst (λ a. held a ≡ true) (sym (c.fund_account.ensures ∙ ap (λ (d : Day). fund_account d n) c.setting.ensures))
    (fund_held held day (g.D.Desk.past c.args.desk.now) n (g.D.Desk.legal c.args.desk.now) c.requires.held c.requires.answered)
