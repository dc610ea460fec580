use Rattle.std.proofs.Common.{◌≡◌, ◌+◌, ℕ, [], arith, length, subst, sym}
use Rattle.std.proofs.lemmas.List.{append-nil}
use Rattle.ready_items.specs.Normals.{HavePayments, IsArrived}
use Rattle.ready_items.proofs.ArrivalFacts.{none_yet}
use Rattle.ready_items.proofs.normals.Normals.with_room.Goals as goal

pub loop-before-preserved : goal.loop-before-preserved
loop-before-preserved c =
    let day = c.args.setting.now.day in
    let count = c.message_count-count.ensures.count in
    let before : ℕ = c.loop-before.before in
    let arrived : IsArrived day (before + 1) c.loop-before.normals c.arrive.new.self = c.arrive.ensures.arrived day [] [] [] (λ i. record day { messages = sym (append-nil day.messages) i; stops = sym (append-nil day.stops) i }) c.requires before (omega arith) (omega (arith, count, c.loop-before-test.true)) c.loop-before.invariant.have in
    record {
      have = arrived.have;
      none = none_yet day before c.loop-before.normals c.arrive.new.self arrived c.loop-before.invariant.none;
      room = (let room = c.loop-before.invariant.room in let less = c.arrive.ensures.room in omega (arith, room, less));
    }

pub returns-clause-payments : goal.returns-clause-payments
returns-clause-payments c =
    let day = c.args.setting.now.day in
    let count = c.message_count-count.ensures.count in
    let all : c.loop-before.before ≡ length day.messages = omega (arith, count, c.loop-before-test.false, c.loop-before.auto.before-end) in
    subst (λ (k : ℕ). HavePayments day k c.loop-before.normals) all c.loop-before.invariant.have
