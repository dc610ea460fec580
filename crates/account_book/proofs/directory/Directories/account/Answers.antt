use Rattle.std.proofs.Common.{◌∙◌, sym}
use Rattle.cash_amounts.specs.Tests.{same_name}
use Rattle.account_book.specs.Filed.{has_hash, hash_of}
use Rattle.account_book.proofs.Hashed.{first_same, none_same, own_hash}
use Rattle.account_book.proofs.Numbers.{numbered-read}
use Rattle.account_book.proofs.directory.Directories.account.Goals as goal

pub returns-then-is_account : goal.returns-then-is_account
returns-then-is_account c =
    let hasher = c.args.self.now.hasher in
    let name = c.args.name.now in
    let items = c.args.accounts.now in
    let within = c.in-Some.ensures.within in
    first_same (λ r. has_hash hasher (hash_of hasher name) r.name) (λ r. same_name r.name name) (λ r is. own_hash hasher r.name name is) items c.in-Some.a c.index-accounts-a.result (sym c.in-Some.ensures.number)
    (numbered-read items c.in-Some.a c.index-accounts-a.result within.0 within.1 c.index-accounts-a.is) (sym c.is_account.ensures ∙ c.if-is_account.true)

pub returns-in-None : goal.returns-in-None
returns-in-None c =
    let hasher = c.args.self.now.hasher in
    let name = c.args.name.now in
    none_same (λ r. has_hash hasher (hash_of hasher name) r.name) (λ r. same_name r.name name) (λ r is. own_hash hasher r.name name is) 1 c.args.accounts.now (sym c.in-None.ensures.number)
