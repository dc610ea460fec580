use Rattle.day_chain.proofs.YearFacts.{line_is, room_of}
use Rattle.day_chain.proofs.statements.put_statement.Goals as goal

pub put_sums-requires : goal.put_sums-requires
put_sums-requires g c = room_of c.args.accounts.now c.args.book.now c.args.a c.index.result.now c.requires.long c.requires.least c.requires.most c.index.ensures

pub returns : goal.returns
returns g c = rw (line_is c.args.accounts.now c.args.book.now c.args.a _ c.index.result.now c.requires.least c.requires.most c.requires.long.long c.index-accounts-at.is c.index.ensures) at c.put_sums.ensures
