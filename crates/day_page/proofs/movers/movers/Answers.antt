use Rattle.std.proofs.Common.{◌≡◌, ◌∙◌, ◌+◌, ◌<◌, ℕ, ap, arith, length, map}
use Rattle.std.specs.List.{range_with_len}
use Rattle.commit_journal.specs.Histories.{moves_of}
use Rattle.day_page.specs.Courses.{mover, mover_of}
use Rattle.day_page.proofs.Ranges.{row_more}
use Rattle.day_page.proofs.TurnoverFacts.{many_turned, turned_at}
use Rattle.day_page.proofs.movers.movers.Goals as goal

pub index-cents-requires : goal.index-cents-requires
index-cents-requires c =
    let many : length c.in_ok-sums.sums.items ≡ length c.args.setting.now.day.accounts = many_turned (moves_of c.args.journal.now.history) _ _ c.in_ok-sums.ensures in
    omega (arith, many, c.loop-before.auto.before-end, c.loop-before-test.true, c.account_count-before-end.ensures.count)

pub loop-before-preserved : goal.loop-before-preserved
loop-before-preserved c =
    let day = c.args.setting.now.day in
    let request = c.args.request.now in
    let J = c.args.journal.now.history in
    let inside : c.loop-before.before < length day.accounts = omega (arith, c.loop-before-test.true, c.account_count-before-end.ensures.count) in
    let cents = turned_at (moves_of J) (length day.accounts) c.loop-before.before _ _ c.in_ok-sums.ensures inside c.index-cents.ensures in
    row_more (mover day request J) _ _ c.loop-before.before _ c.loop-before.invariant (c.mover_of.ensures ∙ ap (mover_of day request (c.loop-before.before + 1)) cents) c.in_ok-push.ensures.items

pub returns : goal.returns
returns c =
    let all : c.loop-before.before ≡ length c.args.setting.now.day.accounts = omega (arith, c.account_count-before-end.ensures.count) in
    c.loop-before.invariant ∙ ap (λ (len : ℕ). map (mover c.args.setting.now.day c.args.request.now c.args.journal.now.history) (range_with_len 1 len)) all
