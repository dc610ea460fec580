use Rattle.std.proofs.Common.{ap, arith, length}
use Rattle.account_book.specs.Setup.{Setup}
use Rattle.account_book.proofs.Answered.{listed_is}
use Rattle.account_book.proofs.Numbers.{numbered-read}
use Rattle.account_book.proofs.book.Book.lists.Goals as goal

pub returns : goal.returns
returns c =
    let accounts = c.self.inside.accounts.items in
    let systems = c.self.inside.systems.items in
    let many = ap (λ (setup : Setup). length setup.systems) c.self.view_is in
    let there = numbered-read systems c.args.s _ c.requires.least (omega arith) c.index.ensures in
    rw (← c.self.view_is, c.place.ensures.place) (listed_is accounts systems c.args.s _ c.args.procedure c.self.invariant.sound there)
