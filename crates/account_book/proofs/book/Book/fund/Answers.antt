use Rattle.account_book.specs.Directory.{is_fund_of, system_name}
use Rattle.account_book.proofs.Answered.{fund_is}
use Rattle.account_book.proofs.Numbers.{found_within}
use Rattle.account_book.proofs.book.Book.fund.Goals as goal

pub returns-clause-within : goal.returns-clause-within
returns-clause-within c =
    let setup = c.args.self.now in
    found_within (is_fund_of (system_name setup.systems c.args.s)) setup.accounts _ (fund_is setup.accounts setup.systems c.args.s _ c.roles.ensures)
