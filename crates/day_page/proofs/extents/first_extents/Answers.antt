use Rattle.std.proofs.Common.{◌≡◌, ◌∙◌, [], ℕ, ap, arith, length, map}
use Rattle.std.specs.List.{range_with_len}
use Rattle.day_page.specs.Extents.{extent}
use Rattle.day_page.proofs.Ranges.{row_more}
use Rattle.day_page.proofs.extents.first_extents.Goals as goal

pub loop-before-preserved : goal.loop-before-preserved
loop-before-preserved c = row_more (extent c.args.setting.now.day []) _ _ c.loop-before.before _ c.loop-before.invariant c.opened.ensures c.in_ok-push.ensures.items

pub returns : goal.returns
returns c =
    let all : c.loop-before.before ≡ length c.args.setting.now.day.accounts = omega (arith, c.account_count-before-end.ensures.count) in
    c.loop-before.invariant ∙ ap (λ (len : ℕ). map (extent c.args.setting.now.day []) (range_with_len 1 len)) all
