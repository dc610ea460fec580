use Rattle.std.proofs.Common.{◌∙◌, ap, arith}
use Rattle.std.proofs.lemmas.List.{take_all}
use Rattle.account_book.specs.Filed.{bank_hashed, is_dca_hashed}
use Rattle.account_book.proofs.Searches.{found-more}
use Rattle.account_book.proofs.directory.banks.Goals as goal

pub loop-i-preserved : goal.loop-i-preserved
loop-i-preserved c = (
  λ hash. found-more (is_dca_hashed c.args.hasher.now hash) _ _ _ (omega arith) c.index-accounts-i.is _ _ (c.loop-i.invariant.0 hash) (c.enter_bank.ensures.entered hash),
  omega (arith, c.loop-i.invariant.1, c.enter_bank.ensures.room),
)

pub returns : goal.returns
returns c = λ hash. c.loop-i.invariant.0 hash ∙ ap (λ xs. bank_hashed c.args.hasher.now xs hash) (take_all c.loop-i.i c.args.accounts.now c.loop-i-test.false)
