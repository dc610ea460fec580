use Rattle.std.proofs.Common.{ℕ, sym}
use Rattle.std.specs.Prelude.{nat_eq}
use Rattle.indexmap.specs.IndexMap.{get}
use Rattle.account_book.specs.Filed.{number_at}
use Rattle.account_book.proofs.Entered.{at_ok, entered}
use Rattle.account_book.proofs.directory.Directory.enter.Goals as goal

pub returns-clause-entered : goal.returns-clause-entered
returns-clause-entered c = λ other.
    let updates = at_ok c.insert.result (c.insert.ensures.succeeds c.requires) c.insert.ensures.updates in
    entered (number_at c.args.self.now) (λ (hash : ℕ). get nat_eq c.insert.new.self hash) c.args.hash c.args.number other
    (sym c.in_default.ensures.value) (updates.0 other)
