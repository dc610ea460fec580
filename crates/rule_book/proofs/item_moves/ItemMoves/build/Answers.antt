use Rattle.std.proofs.Common.{◌≡◌, ◌∙◌, ◌+◌, ◌++◌, ◌∷◌, [], ap, arith, length, map, sym}
use Rattle.std.specs.List.{range_with_len}
use Rattle.std.proofs.lemmas.List.FromFn.{length-map-range_with_len, map-range_with_len_more}
use Rattle.rule_book.specs.Moves.{MovesInRoom, entry_moves, transfer_move}
use Rattle.rule_book.proofs.LastRows.{sum_rows}
use Rattle.rule_book.proofs.Summing.{entries_fit}
use Rattle.rule_book.proofs.item_moves.ItemMoves.build.Goals as goal

pub loop-before-init : goal.loop-before-init
loop-before-init c = record {
  transfers = ap (λ (x : MovesInRoom). x.list.transfers) c.in_ok-moves.ensures;
  rows = ap (λ (x : MovesInRoom). x.list.rows) c.in_ok-moves.ensures;
  messages = ap (λ (x : MovesInRoom). x.messages) c.in_ok-moves.ensures ∙ c.message_count-count.ensures;
  entries = ap (λ (x : MovesInRoom). x.entries) c.in_ok-moves.ensures ∙ c.entry_count.ensures;
}

pub arrive-requires-clause-message : goal.arrive-requires-clause-message
arrive-requires-clause-message c =
    let size = length-map-range_with_len (entry_moves c.args.day.now) 1 c.loop-before.before in
    omega (arith, size, ap length c.loop-before.invariant.rows, c.loop-before.invariant.messages, c.message_count-count.ensures)

pub arrive-requires-clause-entries : goal.arrive-requires-clause-entries
arrive-requires-clause-entries c =
    let i = c.loop-before.before in
    let fit = entries_fit c.args.day.now i (omega (arith, c.message_count-count.ensures)) in
    let so_far = sum_rows c.args.day.now c.loop-before.moves.list.rows i c.loop-before.invariant.rows (omega (arith, c.message_count-count.ensures)) in
    omega (arith, fit, so_far, c.loop-before.invariant.entries)

pub loop-before-preserved : goal.loop-before-preserved
loop-before-preserved c =
    let day = c.args.day.now in
    let i = c.loop-before.before in
    record {
      transfers = ap (λ (x : MovesInRoom). x.list.transfers) c.arrive.ensures ∙ ap (λ xs. xs ++ transfer_move day (i + 1) ∷ []) c.loop-before.invariant.transfers
          ∙ sym (map-range_with_len_more (transfer_move day) 1 i (i + 1) (omega arith));
      rows = ap (λ (x : MovesInRoom). x.list.rows) c.arrive.ensures ∙ ap (λ done. done ++ entry_moves day (i + 1) ∷ []) c.loop-before.invariant.rows
          ∙ sym (map-range_with_len_more (entry_moves day) 1 i (i + 1) (omega arith));
      messages = ap (λ (x : MovesInRoom). x.messages) c.arrive.ensures ∙ c.loop-before.invariant.messages;
      entries = ap (λ (x : MovesInRoom). x.entries) c.arrive.ensures ∙ c.loop-before.invariant.entries;
    }

pub returns : goal.returns
returns c =
    let day = c.args.day.now in
    let all : c.loop-before.before ≡ length day.messages = omega (arith, c.message_count-count.ensures) in
    λ i. record {
      transfers = (c.loop-before.invariant.transfers ∙ ap (λ n. map (transfer_move day) (range_with_len 1 n)) all) i;
      rows = (c.loop-before.invariant.rows ∙ ap (λ n. map (entry_moves day) (range_with_len 1 n)) all) i;
    }
