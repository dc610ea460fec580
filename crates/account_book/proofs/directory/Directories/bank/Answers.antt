use Rattle.std.proofs.Common.{◌∙◌, sym}
use Rattle.cash_amounts.specs.Kinds.{is_dca}
use Rattle.cash_amounts.specs.Tests.{same_name}
use Rattle.account_book.specs.Directory.{is_dca_of}
use Rattle.account_book.specs.Filed.{has_hash, hash_of, is_dca_hashed}
use Rattle.account_book.proofs.Hashed.{and_more, first_same, none_same, own_hash}
use Rattle.account_book.proofs.Numbers.{numbered-read}
use Rattle.account_book.proofs.directory.Directories.bank.Goals as goal

pub returns-then-is_dca_of : goal.returns-then-is_dca_of
returns-then-is_dca_of c =
    let hasher = c.args.self.now.hasher in
    let name = c.args.bank.now in
    let items = c.args.accounts.now in
    let within = c.in-Some.ensures.within in
    first_same (is_dca_hashed hasher (hash_of hasher name)) (is_dca_of name) (λ r is. and_more (is_dca r.kind) (same_name r.owner name) (has_hash hasher (hash_of hasher name) r.owner) (own_hash hasher r.owner name) is) items c.in-Some.a c.index-accounts-a.result (sym c.in-Some.ensures.number)
    (numbered-read items c.in-Some.a c.index-accounts-a.result within.0 within.1 c.index-accounts-a.is) (sym c.is_dca_of.ensures ∙ c.if-is_dca_of.true)

pub returns-in-None : goal.returns-in-None
returns-in-None c =
    let hasher = c.args.self.now.hasher in
    let name = c.args.bank.now in
    none_same (is_dca_hashed hasher (hash_of hasher name)) (is_dca_of name) (λ r is. and_more (is_dca r.kind) (same_name r.owner name) (has_hash hasher (hash_of hasher name) r.owner) (own_hash hasher r.owner name) is) 1 c.args.accounts.now (sym c.in-None.ensures.number)
