use Rattle.std.proofs.Common.{◌∙◌, ◌∷◌, [], ap, arith, length, length-append}
use Rattle.rule_book.proofs.item_moves.push_row.Goals as goal

pub push_moves-requires-clause-begun : goal.push_moves-requires-clause-begun
push_moves-requires-clause-begun c =
    let more = ap (λ r. length r.rows) c.begin_row_in_room.ensures in
    omega (arith, more, length-append c.args.rows.now.rows ([] ∷ []))

pub push_moves-requires-clause-room : goal.push_moves-requires-clause-room
push_moves-requires-clause-room c =
    let left = ap (λ r. r.room_for_items) c.begin_row_in_room.ensures in
    omega (arith, left, c.requires.room)

pub returns-clause-rows : goal.returns-clause-rows
returns-clause-rows c = c.push_moves.ensures.last c.args.rows.now.rows (ap (λ r. r.rows) c.begin_row_in_room.ensures)

pub returns-clause-row : goal.returns-clause-row
returns-clause-row c = c.push_moves.ensures.rows ∙ ap (λ r. r.room_for_rows) c.begin_row_in_room.ensures

pub returns-clause-items : goal.returns-clause-items
returns-clause-items c = c.push_moves.ensures.items ∙ ap (λ r. r.room_for_items) c.begin_row_in_room.ensures
