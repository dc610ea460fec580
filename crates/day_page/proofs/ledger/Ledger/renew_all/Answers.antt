use Rattle.std.proofs.Common.{◌≡◌, ◌∙◌, ap, arith, length}
use Rattle.commit_journal.specs.Histories.{oldest}
use Rattle.scan_laws.specs.Numbers.{item_count}
use Rattle.due_items.specs.Due.{due_at}
use Rattle.due_items.proofs.Noted.{flags_length}
use Rattle.day_page.proofs.StakeFacts.{below_more, whole_kept}
use Rattle.day_page.proofs.ledger.Ledger.renew_all.Goals as goal

pub loop-number-init : goal.loop-number-init
loop-number-init c = record { kept = record { tallied = c.requires.tallied; size = c.requires.size; right = λ i within low. absurd (omega (arith, low)) } }

pub renew_item-requires-clause-within : goal.renew_item-requires-clause-within
renew_item-requires-clause-within c =
    let day = c.args.past.now.setting.now.day in
    let J = oldest c.args.past.now.journal.now.history c.args.past.now.place in
    let all : c.count-number-end.result ≡ item_count day = c.count-number-end.ensures ∙ ap length c.requires.due.exact ∙ flags_length (due_at day J) (item_count day) in
    let low = c.loop-number-test.true in
    omega (arith, all, low)

pub renew_item-requires-clause-tallied : goal.renew_item-requires-clause-tallied
renew_item-requires-clause-tallied c = c.loop-number.invariant.kept.tallied

pub renew_item-requires-clause-size : goal.renew_item-requires-clause-size
renew_item-requires-clause-size c = c.loop-number.invariant.kept.size

pub loop-number-preserved : goal.loop-number-preserved
loop-number-preserved c =
    let day = c.args.past.now.setting.now.day in
    let J = oldest c.args.past.now.journal.now.history c.args.past.now.place in
    let all : c.count-number-end.result ≡ item_count day = c.count-number-end.ensures ∙ ap length c.requires.due.exact ∙ flags_length (due_at day J) (item_count day) in
    let low = c.loop-number-test.true in
    record { kept = below_more day c.args.request.now J c.loop-number.number c.loop-number.self c.renew_item.new.self c.loop-number.invariant.kept (omega (arith, all, low)) c.renew_item.ensures.tallied c.renew_item.ensures.stakes }

pub returns : goal.returns
returns c =
    let day = c.args.past.now.setting.now.day in
    let J = oldest c.args.past.now.journal.now.history c.args.past.now.place in
    let all : c.count-number-end.result ≡ item_count day = c.count-number-end.ensures ∙ ap length c.requires.due.exact ∙ flags_length (due_at day J) (item_count day) in
    let end : c.loop-number.number ≡ c.count-number-end.result = omega arith in
    whole_kept day c.args.request.now J c.loop-number.number c.loop-number.self c.loop-number.invariant.kept (end ∙ all)
