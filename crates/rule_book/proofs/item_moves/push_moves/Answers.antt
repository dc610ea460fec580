use Rattle.std.proofs.Common.{◌∙◌, ◌++◌, ◌∷◌, [], ap, sym, length, map, refl, take, arith}
use Rattle.machine.specs.Records.Messages.{move_of}
use Rattle.std.proofs.lemmas.List.{take_all}
use Rattle.row_list.specs.Rows.{with_item}
use Rattle.rule_book.proofs.LastRows.{length_with_item, with_item_last, with_next_item}
use Rattle.rule_book.proofs.item_moves.push_moves.Goals as goal

pub loop-entry-init : goal.loop-entry-init
loop-entry-init c = record { begun = c.requires.begun; last = λ done e. e; row = refl; items = omega arith }

pub push_in_room-requires-clause-room : goal.push_in_room-requires-clause-room
push_in_room-requires-clause-room c = omega (arith, c.loop-entry.invariant.items, c.requires.room, c.loop-entry-test.true, ap length c.entries-entry-items.ensures)

pub loop-entry-preserved : goal.loop-entry-preserved
loop-entry-preserved c =
    let day = c.args.day.now in
    let items = c.entries-entry-items.result.now in
    let i = c.loop-entry.entry-index in
    let rows = ap (λ r. r.rows) c.push_in_room.ensures in
    let left = ap (λ r. r.room_for_items) c.push_in_room.ensures in
    record {
      begun = omega (arith, ap length rows, length_with_item c.entry_move.result c.loop-entry.rows.rows, c.loop-entry.invariant.begun);
      last = λ done e.
          rows ∙ ap (with_item c.entry_move.result) (c.loop-entry.invariant.last done e) ∙ with_item_last c.entry_move.result done (map (move_of day) (take i items))
          ∙ ap (λ x. done ++ (map (move_of day) (take i items) ++ x ∷ []) ∷ []) c.entry_move.ensures
          ∙ ap (λ row. done ++ row ∷ []) (sym (with_next_item (move_of day) items i c.entry-item.result c.loop-entry-test.true c.entry-item.is));
      row = ap (λ r. r.room_for_rows) c.push_in_room.ensures ∙ c.loop-entry.invariant.row;
      items = omega (arith, left, c.loop-entry.invariant.items, c.requires.room, c.loop-entry-test.true, ap length c.entries-entry-items.ensures);
    }

pub returns-clause-last : goal.returns-clause-last
returns-clause-last c = λ done e. c.loop-entry.invariant.last done e ∙ ap (λ es. done ++ map (move_of c.args.day.now) es ∷ []) (take_all c.loop-entry.entry-index c.entries-entry-items.result.now c.loop-entry-test.false ∙ c.entries-entry-items.ensures)
