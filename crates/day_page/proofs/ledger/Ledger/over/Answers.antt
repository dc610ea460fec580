use Rattle.std.proofs.Common.{◌∙◌, ap, length}
use Rattle.commit_journal.specs.Histories.{oldest}
use Rattle.scan_laws.specs.Numbers.{item_count}
use Rattle.due_items.specs.Due.{due_at}
use Rattle.due_items.proofs.Noted.{flags_length}
use Rattle.day_page.proofs.ledger.Ledger.over.Goals as goal

pub renew_all-requires-clause-size : goal.renew_all-requires-clause-size
renew_all-requires-clause-size c =
    let day = c.args.past.now.setting.now.day in
    let J = oldest c.args.past.now.journal.now.history c.args.past.now.place in
    c.in_ok-ledger.ensures.size ∙ c.count.ensures ∙ ap length c.requires.exact ∙ flags_length (due_at day J) (item_count day)
