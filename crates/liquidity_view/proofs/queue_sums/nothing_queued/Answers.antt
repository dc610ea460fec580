use Rattle.std.proofs.Common.{◌≡◌, ◌∙◌, [], ap, length}
use Rattle.scan_laws.specs.Numbers.{item_count}
use Rattle.due_items.specs.Due.{due_at}
use Rattle.due_items.proofs.Noted.{flags_length}
use Rattle.liquidity_view.specs.Counted.{none_counted}
use Rattle.liquidity_view.proofs.queue_sums.nothing_queued.Goals as goal

pub returns-in-Ok-clause-counted : goal.returns-in-Ok-clause-counted
returns-in-Ok-clause-counted c =
    let day = c.args.setting.now.day in
    let all : c.count.result ≡ item_count day = c.count.ensures ∙ (ap length c.in_ok-due.ensures.exact ∙ flags_length (due_at day []) (item_count day)) in
    c.in-Ok.ensures ∙ ap none_counted all
