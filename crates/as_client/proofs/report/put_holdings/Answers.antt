use Rattle.std.proofs.Common.{◌<◌, ◌≤◌, length, arith}
use Rattle.outside_io.proofs.PutLemmas.{has_put_is, has_put_more, has_put_none, numbers_all, numbers_more, numbers_parts, puts_all, puts_front}
use Rattle.as_client.specs.KeptTexts.{holding_kept}
use Rattle.as_client.proofs.report.put_holdings.Goals as goal

pub loop-before-init : goal.loop-before-init
loop-before-init g c = has_put_none _

pub returns-in_err-put_holding : goal.returns-in_err-put_holding
returns-in_err-put_holding g c =
    let day = c.args.day.now in
    let count = c.account_count-before-end.ensures in
    let inside : c.loop-before.before < length day.accounts = omega (arith, count) in
    puts_front _ _ _ _ _ _ _ _ _ c.from_residual.ensures.0 (numbers_parts (holding_kept day c.args.party.now) (length day.accounts) c.loop-before.before inside) c.loop-before.invariant c.in_err-put_holding.ensures

pub loop-before-preserved : goal.loop-before-preserved
loop-before-preserved g c =
    let day = c.args.day.now in
    let count = c.account_count-before-end.ensures in
    let inside : c.loop-before.before < length day.accounts = omega (arith, count) in
    has_put_is _ _ _ _ (numbers_more (holding_kept day c.args.party.now) (length day.accounts) c.loop-before.before inside) (has_put_more _ _ _ _ _ _ c.loop-before.invariant c.in_ok-put_holding.ensures)

pub returns : goal.returns
returns g c =
    let day = c.args.day.now in
    let count = c.account_count-before-end.ensures in
    let past : length day.accounts ≤ c.loop-before.before = omega (arith, count) in
    puts_all _ _ _ tt (has_put_is _ _ _ _ (numbers_all (holding_kept day c.args.party.now) (length day.accounts) c.loop-before.before past) c.loop-before.invariant)
