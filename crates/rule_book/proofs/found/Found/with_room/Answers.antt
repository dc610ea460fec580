use Rattle.std.proofs.Common.{ap}
use Rattle.rule_book.specs.Moves.{MovesInRoom}
use Rattle.rule_book.specs.Repeated.{Repeated}
use Rattle.rule_book.specs.Senders.{Senders}
use Rattle.rule_book.proofs.ComingFacts.{new_found_room}
use Rattle.rule_book.proofs.found.Found.with_room.Goals as goal

pub returns-clause-none : goal.returns-clause-none
returns-clause-none c = record {
  names = ap (λ (r : Repeated). r.names) c.in_ok-repeats.ensures;
  repeats = ap (λ (r : Repeated). r.repeats) c.in_ok-repeats.ensures;
  moves = ap (λ (m : MovesInRoom). m.list) c.in_ok-moves.ensures;
  accounts = ap (λ (s : Senders). s.accounts) c.in_ok-accounts.ensures;
}

pub returns-clause-room : goal.returns-clause-room
returns-clause-room c =
    new_found_room c.args.messages c.args.entries (record { repeats = c.in_ok-repeats.repeats; moves = c.in_ok-moves.moves; accounts = c.in_ok-accounts.accounts })
    c.in_ok-repeats.ensures c.in_ok-moves.ensures c.in_ok-accounts.ensures
