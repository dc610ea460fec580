use Rattle.std.proofs.Common.{◌∙◌, ap, arith}
use Rattle.std.proofs.lemmas.List.{take_all}
use Rattle.account_book.specs.Filed.{account_hashed, has_hash}
use Rattle.account_book.proofs.Searches.{found-more}
use Rattle.account_book.proofs.directory.account_numbers.Goals as goal

pub loop-i-preserved : goal.loop-i-preserved
loop-i-preserved c = (
  λ hash. found-more (λ r. has_hash c.args.hasher.now hash r.name) _ _ _ (omega arith) c.index-accounts-i.is _ _ (c.loop-i.invariant.0 hash) (rw c.hash.ensures at (c.enter.ensures.entered hash)),
  omega (arith, c.loop-i.invariant.1, c.enter.ensures.room),
)

pub returns : goal.returns
returns c = λ hash. c.loop-i.invariant.0 hash ∙ ap (λ xs. account_hashed c.args.hasher.now xs hash) (take_all c.loop-i.i c.args.accounts.now c.loop-i-test.false)
