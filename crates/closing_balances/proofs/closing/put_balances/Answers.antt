use Rattle.std.proofs.Common.{◌<◌, ◌≤◌, length, arith}
use Rattle.outside_io.proofs.PutLemmas.{has_put_is, has_put_more, has_put_none, puts_all, puts_front}
use Rattle.status_messages.proofs.Texts.{numbers_all, numbers_more, numbers_parts}
use Rattle.closing_balances.specs.Closing.{balance_text}
use Rattle.closing_balances.proofs.closing.put_balances.Goals as goal

pub loop-before-init : goal.loop-before-init
loop-before-init g c = has_put_none _

pub returns-in_err-put_balance : goal.returns-in_err-put_balance
returns-in_err-put_balance g c =
    let day = c.args.setting.now.day in
    let count = c.account_count-before-end.ensures.count in
    let inside : c.loop-before.before < length day.accounts = omega (arith, count) in
    puts_front _ _ _ _ _ _ _ _ _ c.from_residual.ensures.0
    (numbers_parts (balance_text c.args.setting.now.day c.args.journal.now.history) (length day.accounts) c.loop-before.before inside) c.loop-before.invariant c.in_err-put_balance.ensures

pub loop-before-preserved : goal.loop-before-preserved
loop-before-preserved g c =
    let day = c.args.setting.now.day in
    let count = c.account_count-before-end.ensures.count in
    let inside : c.loop-before.before < length day.accounts = omega (arith, count) in
    has_put_is _ _ _ _ (numbers_more (balance_text c.args.setting.now.day c.args.journal.now.history) (length day.accounts) c.loop-before.before inside)
    (has_put_more _ _ _ _ _ _ c.loop-before.invariant c.in_ok-put_balance.ensures)

pub returns : goal.returns
returns g c =
    let day = c.args.setting.now.day in
    let count = c.account_count-before-end.ensures.count in
    let past : length day.accounts ≤ c.loop-before.before = omega (arith, count) in
    puts_all _ _ _ tt (has_put_is _ _ _ _ (numbers_all (balance_text c.args.setting.now.day c.args.journal.now.history) (length day.accounts) c.loop-before.before past) c.loop-before.invariant)
