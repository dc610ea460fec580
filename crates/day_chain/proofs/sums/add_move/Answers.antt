use Rattle.std.proofs.Common.{◌≡◌, ℕ, suc, ◌+◌, ◌∙◌, ap, arith, subst, sym}
use Rattle.day_chain.specs.Summing.{changed, HaveRoom, more_credits, more_debits}
use Rattle.day_chain.proofs.Changes.{less_room, room_credit, room_debit}
use Rattle.day_chain.proofs.sums.add_move.Goals as goal

pub debit-requires : goal.debit-requires
debit-requires c = record { room = less_room 1 c.args.sums.now c.requires; small = c.get-amount.ensures.within }

pub credit-requires : goal.credit-requires
credit-requires c = record {
  room = subst (HaveRoom 1) (sym c.debit.ensures) (room_debit 1 c.args.one.debit c.get-amount.result c.args.sums.now c.get-amount.ensures.within c.requires);
  small = c.get-amount.ensures.within;
}

pub returns-clause-sums : goal.returns-clause-sums
returns-clause-sums c =
    c.credit.ensures ∙ ap (changed c.args.one.credit (more_credits c.get-amount.result)) c.debit.ensures
    ∙ ap (λ (x : ℕ). changed c.args.one.credit (more_credits x) (changed c.args.one.debit (more_debits x) c.args.sums.now)) c.get-amount.ensures.value

pub returns-clause-room : goal.returns-clause-room
returns-clause-room c = λ n room.
    let two : n + 2 ≡ suc (suc n) = omega arith in
    let first : HaveRoom (suc n) c.debit.new.sums = subst (HaveRoom (suc n)) (sym c.debit.ensures) (room_debit (suc n) c.args.one.debit c.get-amount.result c.args.sums.now c.get-amount.ensures.within (subst (λ (m : ℕ). HaveRoom m c.args.sums.now) two room)) in
    subst (HaveRoom n) (sym c.credit.ensures) (room_credit n c.args.one.credit c.get-amount.result c.debit.new.sums c.get-amount.ensures.within first)
