use Rattle.std.proofs.Common.{◌∙◌, ap}
use Rattle.account_book.specs.Directory.{first_dca, is_dca_of}
use Rattle.account_book.proofs.Numbers.{found_within}
use Rattle.account_book.proofs.book.Book.first_dca.Goals as goal

pub returns-clause-within : goal.returns-clause-within
returns-clause-within c =
    let bank = c.args.bank.now in
    rw (← c.self.view_is) (found_within (is_dca_of bank) c.self.inside.accounts.items _ (c.bank.ensures ∙ ap (λ rs. first_dca rs bank) c.deref.ensures.value))
