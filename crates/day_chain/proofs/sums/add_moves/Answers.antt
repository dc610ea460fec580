use Rattle.std.proofs.Common.{◌≡◌, ℕ, ◌+◌, ◌*◌, ◌-◌, ◌∙◌, length, drop, refl, ap, arith, subst}
use Rattle.day_chain.specs.Summing.{HaveRoom, with_moves}
use Rattle.day_chain.proofs.Moving.{less_rooms, moved_all, moved_more}
use Rattle.day_chain.proofs.sums.add_moves.Goals as goal

pub loop-one-init : goal.loop-one-init
loop-one-init c = record { same = refl; room = λ n h. subst (λ (m : ℕ). HaveRoom m c.args.sums.now) (omega arith) h }

pub add_move-requires : goal.add_move-requires
add_move-requires c =
    let k = length c.args.moves.now - c.loop-one.one-index in
    let two : 0 + 2 * k ≡ 2 + (2 * k - 2) = omega arith in
    less_rooms (2 * k - 2) 2 _ (subst (λ (m : ℕ). HaveRoom m c.loop-one.sums) two (c.loop-one.invariant.room 0 (subst (λ (m : ℕ). HaveRoom m c.args.sums.now) (omega arith) c.requires)))

pub loop-one-preserved : goal.loop-one-preserved
loop-one-preserved c =
    let k = length c.args.moves.now - (c.loop-one.one-index + 1) in
    record {
      same = ap (with_moves (drop (c.loop-one.one-index + 1) c.args.moves.now)) c.add_move.ensures.sums ∙ moved_more c.args.moves.now c.loop-one.one-index c.one-item.result c.loop-one.sums (omega arith) c.one-item.is ∙ c.loop-one.invariant.same;
      room = λ n h.
          let two : n + 2 * (length c.args.moves.now - c.loop-one.one-index) ≡ (n + 2 * k) + 2 = omega arith in
          c.add_move.ensures.room (n + 2 * k) (subst (λ (m : ℕ). HaveRoom m c.loop-one.sums) two (c.loop-one.invariant.room n h));
    }

pub returns-clause-sums : goal.returns-clause-sums
returns-clause-sums c = moved_all c.args.moves.now c.loop-one.one-index c.loop-one.sums (omega arith) ∙ c.loop-one.invariant.same

pub returns-clause-room : goal.returns-clause-room
returns-clause-room c = λ n h.
    let none : n + 2 * (length c.args.moves.now - c.loop-one.one-index) ≡ n = omega arith in
    subst (λ (m : ℕ). HaveRoom m c.loop-one.sums) none (c.loop-one.invariant.room n h)
