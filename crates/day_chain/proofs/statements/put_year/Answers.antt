use Rattle.std.proofs.Common.{◌<◌, ◌≤◌, length, arith}
use Rattle.outside_io.proofs.PutLemmas.{has_put_is, has_put_more, has_put_none, puts_all, puts_front}
use Rattle.day_chain.specs.YearTexts.{year_line}
use Rattle.day_chain.proofs.YearFacts.{numbers_all, numbers_more, numbers_parts}
use Rattle.day_chain.proofs.statements.put_year.Goals as goal

pub loop-before-init : goal.loop-before-init
loop-before-init g c = has_put_none _

pub returns-in_err-put_statement : goal.returns-in_err-put_statement
returns-in_err-put_statement g c =
    let accounts = c.args.accounts.now in
    let inside : c.loop-before.before < length accounts = omega arith in
    puts_front _ _ _ _ _ _ _ _ _ c.from_residual.ensures.0 (numbers_parts (year_line accounts c.args.book.now) (length accounts) c.loop-before.before inside) c.loop-before.invariant c.in_err-put_statement.ensures

pub loop-before-preserved : goal.loop-before-preserved
loop-before-preserved g c =
    let accounts = c.args.accounts.now in
    let inside : c.loop-before.before < length accounts = omega arith in
    has_put_is _ _ _ _ (numbers_more (year_line accounts c.args.book.now) (length accounts) c.loop-before.before inside) (has_put_more _ _ _ _ _ _ c.loop-before.invariant c.in_ok-put_statement.ensures)

pub returns : goal.returns
returns g c =
    let accounts = c.args.accounts.now in
    let past : length accounts ≤ c.loop-before.before = omega arith in
    puts_all _ _ _ tt (has_put_is _ _ _ _ (numbers_all (year_line accounts c.args.book.now) (length accounts) c.loop-before.before past) c.loop-before.invariant)
