use Rattle.std.proofs.Common.{◌≡◌, ◌<◌, arith}
use Rattle.outside_io.proofs.PutLemmas.{has_put_is, has_put_more, has_put_none, puts_all, puts_front}
use Rattle.machine.specs.Telling.Balances.{balance}
use Rattle.trial_day.proofs.SummaryTexts.{all_holdings, holding_front, next_holding}
use Rattle.trial_day.proofs.summary.put_holdings.Goals as goal

pub loop-before-init : goal.loop-before-init
loop-before-init g c = has_put_none _

pub returns-in_err-put_holding : goal.returns-in_err-put_holding
returns-in_err-put_holding g c =
    let held = balance c.args.setting.now.day c.args.journal.now.history in
    let inside : c.loop-before.before < 16 = omega arith in
    puts_front _ _ _ _ _ _ _ _ _ c.from_residual.ensures.0 (holding_front held c.loop-before.before inside) c.loop-before.invariant (rw c.holding-amount.ensures at c.in_err-put_holding.ensures)

pub loop-before-preserved : goal.loop-before-preserved
loop-before-preserved g c =
    let held = balance c.args.setting.now.day c.args.journal.now.history in
    has_put_is _ _ _ _ (next_holding held c.loop-before.before) (has_put_more _ _ _ _ _ _ c.loop-before.invariant (rw c.holding-amount.ensures at c.in_ok-put_holding.ensures))

pub returns : goal.returns
returns g c =
    let held = balance c.args.setting.now.day c.args.journal.now.history in
    let over : c.loop-before.before ≡ 16 = omega arith in
    puts_all _ _ _ tt (has_put_is _ _ _ _ (all_holdings held c.loop-before.before over) c.loop-before.invariant)
