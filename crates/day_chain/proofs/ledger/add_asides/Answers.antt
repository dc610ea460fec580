use Rattle.std.proofs.Common.{◌≡◌, ◌∙◌, ℕ, suc, ◌+◌, ◌-◌, length, ap, sym, subst, arith}
use Rattle.day_chain.specs.DayEnds.{set_aside}
use Rattle.day_chain.specs.Summing.{asides_to, changed, HaveRoom, more_aside}
use Rattle.day_chain.proofs.Changes.{room_aside}
use Rattle.day_chain.proofs.Moving.{less_rooms}
use Rattle.day_chain.proofs.SumFacts.{asides_next, asides_none}
use Rattle.day_chain.proofs.ledger.add_asides.Goals as goal

pub loop-before-init : goal.loop-before-init
loop-before-init c = record { same = asides_none (set_aside c.args.settled.now.setting.day) c.args.sums.now; room = λ n h. subst (λ (m : ℕ). HaveRoom m c.args.sums.now) (omega arith) h }

pub set_aside-requires-clause-room : goal.set_aside-requires-clause-room
set_aside-requires-clause-room c =
    let count = c.account_count-before-end.ensures.count in
    let all = length c.args.settled.now.setting.day.accounts in
    let k = all - c.loop-before.before in
    let one : 0 + k ≡ 1 + (k - 1) = omega (arith, count) in
    less_rooms (k - 1) 1 _ (subst (λ (m : ℕ). HaveRoom m c.loop-before.sums) one (c.loop-before.invariant.room 0 (subst (λ (m : ℕ). HaveRoom m c.args.sums.now) (omega arith) c.requires.room)))

pub loop-before-preserved : goal.loop-before-preserved
loop-before-preserved c =
    let count = c.account_count-before-end.ensures.count in
    let day = c.args.settled.now.setting.day in
    record {
      same = c.set_aside.ensures ∙ (λ i. changed (c.loop-before.before + 1) (more_aside (c.aside_of-amount.ensures.value i)) (c.loop-before.invariant.same i)) ∙ asides_next (set_aside day) c.loop-before.before c.args.sums.now;
      room = λ n h.
          let k = length day.accounts - (c.loop-before.before + 1) in
          let one : n + (length day.accounts - c.loop-before.before) ≡ suc (n + k) = omega (arith, count) in
          subst (HaveRoom (n + k)) (sym c.set_aside.ensures) (room_aside (n + k) (c.loop-before.before + 1) c.aside_of-amount.result c.loop-before.sums c.aside_of-amount.ensures.small (subst (λ (m : ℕ). HaveRoom m c.loop-before.sums) one (c.loop-before.invariant.room n h)));
    }

pub returns-clause-room : goal.returns-clause-room
returns-clause-room c = λ n h.
    let count = c.account_count-before-end.ensures.count in
    let none : n + (length c.args.settled.now.setting.day.accounts - c.loop-before.before) ≡ n = omega (arith, count) in
    subst (λ (m : ℕ). HaveRoom m c.loop-before.sums) none (c.loop-before.invariant.room n h)

pub returns-clause-sums : goal.returns-clause-sums
returns-clause-sums c =
    let count = c.account_count-before-end.ensures.count in
    c.loop-before.invariant.same ∙ ap (λ (k : ℕ). asides_to (set_aside c.args.settled.now.setting.day) k c.args.sums.now) (omega (arith, count))
