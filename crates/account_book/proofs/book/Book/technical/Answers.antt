use Rattle.std.proofs.Common.{◌∙◌, ap, get_or, None}
use Rattle.account_book.specs.Directory.{is_technical_of, system_name}
use Rattle.account_book.proofs.Answered.{technical_is}
use Rattle.account_book.proofs.Numbers.{found_within}
use Rattle.account_book.proofs.book.Book.technical.Goals as goal

pub returns-clause-within : goal.returns-clause-within
returns-clause-within c =
    let setup = c.args.self.now in
    found_within (is_technical_of (system_name setup.systems c.args.s) c.args.procedure) setup.accounts _
    (ap (λ k. get_or c.roles.result.technical k None) c.place.ensures.place ∙ technical_is setup.accounts setup.systems c.args.s _ c.roles.ensures c.args.procedure)
