use Rattle.std.proofs.Common.{◌∙◌, ap}
use Rattle.account_book.specs.Filed.{hash_of, is_dca_hashed, number_at}
use Rattle.account_book.proofs.Numbers.{found_within}
use Rattle.account_book.proofs.directory.Directories.bank_hashed.Goals as goal

pub returns-clause-within : goal.returns-clause-within
returns-clause-within c =
    let hasher = c.args.self.now.hasher in
    found_within (is_dca_hashed hasher (hash_of hasher c.args.bank.now)) c.args.accounts.now _ (c.get.ensures ∙ ap (number_at c.args.self.now.banks) c.hash.ensures ∙ c.requires (hash_of hasher c.args.bank.now))
