use Rattle.std.proofs.Common.{ℕ, ◌+◌, ◌*◌, List, length, sym, subst, arith}
use Rattle.commit_journal.specs.declared.line.Move.{Move}
use Rattle.day_chain.specs.Summing.{HaveRoom}
use Rattle.day_chain.proofs.LedgerFacts.{few_accounts_in, room_for_moves}
use Rattle.day_chain.proofs.Moving.{less_rooms}
use Rattle.day_chain.proofs.ledger.add_day.Goals as goal

pub add_moves-requires : goal.add_moves-requires
add_moves-requires c =
    let setting = c.args.settled.now.setting in
    let accounts = length setting.day.accounts in
    let n = 2 * length c.moves.result.now in
    less_rooms accounts n _ (subst (λ (m : ℕ). HaveRoom m c.args.sums.now) (omega arith) (subst (λ (moves : List Move). HaveRoom ((0 + accounts) + 2 * length moves) c.args.sums.now) (sym c.moves.ensures) (room_for_moves setting.day c.args.settled.now.journal.history accounts c.args.sums.now setting.sound c.requires.balanced.legal (few_accounts_in setting.day setting.sound) 0 (subst (λ (m : ℕ). HaveRoom m c.args.sums.now) (omega arith) c.requires.room))))

pub add_asides-requires-clause-room : goal.add_asides-requires-clause-room
add_asides-requires-clause-room c =
    let setting = c.args.settled.now.setting in
    let accounts = length setting.day.accounts in
    c.add_moves.ensures.room accounts (subst (λ (moves : List Move). HaveRoom (accounts + 2 * length moves) c.args.sums.now) (sym c.moves.ensures) (subst (λ (m : ℕ). HaveRoom m c.args.sums.now) (omega arith) (room_for_moves setting.day c.args.settled.now.journal.history accounts c.args.sums.now setting.sound c.requires.balanced.legal (few_accounts_in setting.day setting.sound) 0 (subst (λ (m : ℕ). HaveRoom m c.args.sums.now) (omega arith) c.requires.room))))

pub returns-clause-room : goal.returns-clause-room
returns-clause-room c = λ n h.
    let setting = c.args.settled.now.setting in
    let accounts = length setting.day.accounts in
    c.add_asides.ensures.room n (c.add_moves.ensures.room (n + accounts) (subst (λ (moves : List Move). HaveRoom ((n + accounts) + 2 * length moves) c.args.sums.now) (sym c.moves.ensures) (room_for_moves setting.day c.args.settled.now.journal.history accounts c.args.sums.now setting.sound c.requires.balanced.legal (few_accounts_in setting.day setting.sound) n h)))
