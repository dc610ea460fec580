use Rattle.std.proofs.Common.{◌≡◌, ◌∙◌, ◌+◌, ◌<◌, ◌++◌, ◌∷◌, [], ap, arith, length}
use Rattle.std.specs.Prelude.{sum_by}
use Rattle.std.proofs.lemmas.List.{length_push}
use Rattle.rule_book.specs.Moves.{MovesInRoom, entry_moves}
use Rattle.rule_book.proofs.LastRows.{still_fits}
use Rattle.rule_book.proofs.item_moves.ItemMoves.arrive.Goals as goal

pub push_reserved-requires : goal.push_reserved-requires
push_reserved-requires c =
    let rows = ap (λ (x : MovesInRoom). length x.list.rows) c.self.view_is in
    let most = ap (λ (x : MovesInRoom). x.messages) c.self.view_is in
    omega (arith, rows, most, c.requires.message, c.self.invariant.one_each, c.self.invariant.fits, c.self.inside.transfers.ok.0)

pub push_row-requires-clause-row : goal.push_row-requires-clause-row
push_row-requires-clause-row c =
    let rows = ap (λ (x : MovesInRoom). length x.list.rows) c.self.view_is in
    let most = ap (λ (x : MovesInRoom). x.messages) c.self.view_is in
    omega (arith, rows, most, c.requires.message, c.self.invariant.rows_fit)

pub push_row-requires-clause-room : goal.push_row-requires-clause-room
push_row-requires-clause-room c =
    let items = ap (λ (x : MovesInRoom). sum_by length x.list.rows) c.self.view_is in
    let most = ap (λ (x : MovesInRoom). x.entries) c.self.view_is in
    omega (arith, items, most, c.requires.entries, c.self.invariant.items_fit)

pub invariant_of-self : goal.invariant_of-self
invariant_of-self c =
    let rows = ap (λ (x : MovesInRoom). length x.list.rows) c.self.view_is in
    let most = ap (λ (x : MovesInRoom). x.messages) c.self.view_is in
    let room : 0 < c.self.inside.rows.room_for_rows = omega (arith, rows, most, c.requires.message, c.self.invariant.rows_fit) in
    let count : length c.push_reserved.new.self.items ≡ length c.self.inside.transfers.items + 1 = ap length c.push_reserved.ensures.items ∙ length_push c.self.inside.transfers.items c.transfer_move.result in
    still_fits c.args.day.now c.args.n _ _ _ _ c.self.inside.messages c.self.inside.entries c.self.inside.rows c.push_row.new.rows count c.push_reserved.ensures.capacity room c.push_row.ensures.rows c.push_row.ensures.row c.push_row.ensures.items c.self.invariant

pub returns : goal.returns
returns c =
    let day = c.args.day.now in
    let n = c.args.n in
    let transfers = c.push_reserved.ensures.items ∙ (λ i. (c.self.view_is i).list.transfers ++ c.transfer_move.ensures i ∷ []) in
    let rows = c.push_row.ensures.rows ∙ (λ i. (c.self.view_is i).list.rows ++ entry_moves day n ∷ []) in
    λ i. record {
      list = record { transfers = transfers i; rows = rows i };
      messages = (c.self.view_is i).messages;
      entries = (c.self.view_is i).entries;
    }
