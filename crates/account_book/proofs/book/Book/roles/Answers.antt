use Rattle.std.proofs.Common.{ap, arith, length}
use Rattle.account_book.specs.Filed.{roles}
use Rattle.account_book.specs.Setup.{Setup}
use Rattle.account_book.proofs.Answered.{kept_at}
use Rattle.account_book.proofs.book.Book.roles.Goals as goal

pub returns : goal.returns
returns c =
    let many = ap (λ (setup : Setup). length setup.systems) c.self.view_is in
    rw (← c.self.view_is) (kept_at (roles c.self.inside.accounts.items) _ _ _ _ c.self.invariant.roles_are c.requires.least (omega arith) c.index.ensures)
