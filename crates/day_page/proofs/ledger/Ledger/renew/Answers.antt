use Rattle.std.proofs.Common.{◌∙◌, ap, arith}
use Rattle.commit_journal.specs.Histories.{oldest}
use Rattle.number_set.specs.Members.{has}
use Rattle.due_items.specs.Kept.{Due}
use Rattle.day_page.proofs.StakeFacts.{all_kept, but_less, due_forgets, gone_then, none_left}
use Rattle.day_page.proofs.ledger.Ledger.renew.Goals as goal

pub loop-i-init : goal.loop-i-init
loop-i-init c = record { due = c.requires.due; kept = c.requires.kept; gone = λ j l. absurd (omega (arith, l)) }

pub renew_item-requires-clause-within : goal.renew_item-requires-clause-within
renew_item-requires-clause-within c = let within = c.in-Some.ensures.within in let room = c.loop-i.invariant.due.room in omega (arith, within, room)

pub renew_item-requires-clause-tallied : goal.renew_item-requires-clause-tallied
renew_item-requires-clause-tallied c = c.loop-i.invariant.kept.tallied

pub renew_item-requires-clause-size : goal.renew_item-requires-clause-size
renew_item-requires-clause-size c = c.loop-i.invariant.kept.size

pub loop-i-preserved : goal.loop-i-preserved
loop-i-preserved c =
    let day = c.args.past.now.setting.now.day in
    let J = oldest c.args.past.now.journal.now.history c.args.past.now.place in
    let i = c.in-Some.i in
    let within = c.in-Some.ensures.within in
    let room = c.loop-i.invariant.due.room in
    record {
      due = due_forgets day J c.loop-i.due i _ c.loop-i.invariant.due c.forget.ensures;
      kept = but_less day c.args.request.now J c.loop-i.due.renewed _ i c.loop-i.self c.renew_item.new.self c.loop-i.invariant.kept (omega (arith, within, room)) c.renew_item.ensures.tallied c.renew_item.ensures.stakes (ap (λ (x : Due). x.renewed) c.forget.ensures);
      gone = λ j l. ap (λ (x : Due). has x.renewed j) c.forget.ensures ∙ gone_then c.loop-i.due.renewed c.loop-i.from i j c.loop-i.invariant.gone c.in-Some.ensures.next within l;
    }

pub returns-clause-kept : goal.returns-clause-kept
returns-clause-kept c = all_kept c.args.past.now.setting.now.day c.args.request.now (oldest c.args.past.now.journal.now.history c.args.past.now.place) c.loop-i.due.renewed c.loop-i.self c.loop-i.invariant.kept (none_left c.loop-i.due.renewed c.loop-i.from c.loop-i.invariant.gone c.in_default.ensures.next)

pub returns-clause-forgotten : goal.returns-clause-forgotten
returns-clause-forgotten c = none_left c.loop-i.due.renewed c.loop-i.from c.loop-i.invariant.gone c.in_default.ensures.next
