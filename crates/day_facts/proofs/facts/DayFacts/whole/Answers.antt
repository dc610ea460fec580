use Rattle.std.proofs.Common.{◌≡◌, ◌∙◌, ap, length, arith, refl, subst}
use Rattle.account_book.specs.Setup.{Setup}
use Rattle.day_facts.specs.Arrivals.{Arrived}
use Rattle.day_facts.proofs.Arriving.{none_arrived, one_arrived, room_for_next}
use Rattle.day_facts.proofs.Standing.{no_round}
use Rattle.day_facts.proofs.facts.DayFacts.whole.Goals as goal

pub loop-before-init : goal.loop-before-init
loop-before-init c =
    let day = c.args.setting.now.day in
    let same : c.system_count-systems.result ≡ length day.systems = c.system_count-systems.ensures.count ∙ ap (λ (setup : Setup). length setup.systems) c.args.setting.now.filed in
    none_arrived day _ (length day.messages) c.args.items _ _ c.system_count-systems.result (no_round day _ c.round_at.ensures) c.message_count-count.ensures.count (omega (arith, same)) (c.in_ok-facts.ensures.rows day)

pub take-requires-clause-messages : goal.take-requires-clause-messages
take-requires-clause-messages c = omega (arith, c.loop-before.invariant.for_messages, c.message_count-count.ensures.count)

pub take-requires-clause-items : goal.take-requires-clause-items
take-requires-clause-items c =
    room_for_next c.args.setting.now.day c.loop-before.before (length c.args.setting.now.day.messages) c.args.items _ c.loop-before.facts (omega (arith, c.message_count-count.ensures.count)) c.requires refl c.loop-before.invariant

pub loop-before-preserved : goal.loop-before-preserved
loop-before-preserved c = one_arrived c.args.setting.now.day c.loop-before.before (length c.args.setting.now.day.messages) c.args.items _ _ (omega (arith, c.message_count-count.ensures.count)) c.loop-before.invariant c.take.ensures

pub returns : goal.returns
returns c =
    let all : c.loop-before.before ≡ length c.args.setting.now.day.messages = omega (arith, c.message_count-count.ensures.count) in
    subst (λ n. Arrived c.args.setting.now.day n (length c.args.setting.now.day.messages) c.args.items c.loop-before.facts) all c.loop-before.invariant
