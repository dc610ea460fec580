use Rattle.std.proofs.Common.{◌∙◌, ap}
use Rattle.cash_amounts.specs.Tests.{same_name}
use Rattle.account_book.specs.Directory.{find_account}
use Rattle.account_book.proofs.Numbers.{found_within}
use Rattle.account_book.proofs.SoundLemmas.{account_named}
use Rattle.account_book.proofs.book.Book.find.Goals as goal

pub returns : goal.returns
returns c =
    let name = c.args.name.now in
    let accounts = c.self.inside.accounts.items in
    let number = c.account.ensures ∙ ap (λ rs. find_account rs name) c.deref.ensures.value in
    rw (← c.self.view_is) (record {
      number = number;
      name = account_named accounts name _ number;
      within = found_within (λ r. same_name r.name name) accounts _ number;
    })
