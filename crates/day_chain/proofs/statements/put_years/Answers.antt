use Rattle.std.proofs.Common.{◌<◌, length, arith}
use Rattle.outside_io.proofs.PutLemmas.{has_put_is, has_put_more, has_put_none, puts_front, texts_next, texts_parts}
use Rattle.day_chain.specs.YearTexts.{book_text}
use Rattle.day_chain.proofs.YearFacts.{long_at}
use Rattle.day_chain.proofs.statements.put_years.Goals as goal

pub loop-book-init : goal.loop-book-init
loop-book-init g c = has_put_none _

pub put_year-requires-clause-long : goal.put_year-requires-clause-long
put_year-requires-clause-long g c = long_at c.args.accounts.now c.args.books.now c.loop-book.book-index c.book-item.result c.requires.long (omega arith) c.book-item.is

pub returns-in_err-put_year : goal.returns-in_err-put_year
returns-in_err-put_year g c =
    let inside : c.loop-book.book-index < length c.args.books.now = omega arith in
    puts_front _ _ _ _ _ _ _ _ _ c.from_residual.ensures.0 (texts_parts (book_text c.args.accounts.now) c.args.books.now c.loop-book.book-index c.book-item.result inside c.book-item.is) c.loop-book.invariant c.in_err-put_year.ensures

pub loop-book-preserved : goal.loop-book-preserved
loop-book-preserved g c = has_put_is _ _ _ _ (texts_next (book_text c.args.accounts.now) _ _ _ c.loop-book-test.true c.book-item.is) (has_put_more _ _ _ _ _ _ c.loop-book.invariant c.in_ok-put_year.ensures)
