use Rattle.std.proofs.Common.{◌≡◌, ◌∙◌, ◌+◌, List, length, refl, ap, sym, subst, arith}
use Rattle.std.proofs.lemmas.List.{with_items_is}
use Rattle.commit_journal.specs.Histories.{moves_of}
use Rattle.machine.specs.Orders.Order.{plain}
use Rattle.day_chain.specs.declared.sums.Sums.{Sums}
use Rattle.day_chain.specs.DayEnds.{set_aside}
use Rattle.day_chain.specs.Ledgers.{most_amounts}
use Rattle.day_chain.specs.Summing.{asides_to, HaveRoom, with_moves}
use Rattle.day_chain.proofs.Going.{kept, room_of_day}
use Rattle.day_chain.proofs.days.keep.Goals as goal

pub add_day-requires-clause-lines : goal.add_day-requires-clause-lines
add_day-requires-clause-lines c = let p = c.requires.prepared in p.2.lines ∙ ap plain (sym p.2.same)

pub add_day-requires-clause-balanced : goal.add_day-requires-clause-balanced
add_day-requires-clause-balanced c = c.requires.prepared.2.balanced

pub add_day-requires-clause-room : goal.add_day-requires-clause-room
add_day-requires-clause-room c =
    let p = c.requires.prepared in
    let count = p.2.count in
    subst (HaveRoom most_amounts) (sym c.deref_mut.ensures.value) (room_of_day p.0 c.args.prepared.year.sums.items (omega (arith, count, c.requires.few)) p.2.opened.room)

pub into_before-before-requires-clause-lines : goal.into_before-before-requires-clause-lines
into_before-before-requires-clause-lines c = let p = c.requires.prepared in p.2.lines ∙ ap plain (sym p.2.same)

pub into_before-before-requires-clause-balanced : goal.into_before-before-requires-clause-balanced
into_before-before-requires-clause-balanced c = c.requires.prepared.2.balanced

pub returns : goal.returns
returns c = λ told day is.
    let old = c.args.prepared.year.sums in
    let settled = c.args.prepared.settled in
    let same = c.deref_mut.ensures.value in
    let size : length c.add_day.new.sums ≡ length c.deref_mut.result.now = omega arith in
    let items = with_items_is old c.add_day.new.sums (omega (arith, size, ap length same, old.ok.0)) in
    kept told day c.args.prepared _ _ is c.requires.few refl
    (items ∙ c.add_day.ensures.sums ∙ ap (λ (xs : List Sums). asides_to (set_aside settled.setting.day) (length settled.setting.day.accounts) (with_moves (moves_of settled.journal.history) xs)) same)
    (λ n room. subst (HaveRoom n) (sym items) (c.add_day.ensures.room n (subst (HaveRoom (n + most_amounts)) (sym same) room)))
    c.into_before-before.ensures
