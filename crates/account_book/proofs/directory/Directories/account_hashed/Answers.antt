use Rattle.std.proofs.Common.{◌∙◌, ap}
use Rattle.account_book.specs.Filed.{has_hash, hash_of, number_at}
use Rattle.account_book.proofs.Numbers.{found_within}
use Rattle.account_book.proofs.directory.Directories.account_hashed.Goals as goal

pub returns-clause-within : goal.returns-clause-within
returns-clause-within c =
    let hasher = c.args.self.now.hasher in
    found_within (λ r. has_hash hasher (hash_of hasher c.args.name.now) r.name) c.args.accounts.now _ (c.get.ensures ∙ ap (number_at c.args.self.now.accounts) c.hash.ensures ∙ c.requires (hash_of hasher c.args.name.now))
