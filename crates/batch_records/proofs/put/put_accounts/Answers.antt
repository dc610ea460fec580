use Rattle.outside_io.proofs.PutLemmas.{has_put_is, has_put_more, has_put_none, puts_front, texts_next, texts_parts}
use Rattle.batch_records.specs.DayTexts.{account_text}
use Rattle.batch_records.proofs.put.put_accounts.Goals as goal

pub loop-account-init : goal.loop-account-init
loop-account-init g c = has_put_none _

pub returns-in_err-put_account : goal.returns-in_err-put_account
returns-in_err-put_account g c =
    puts_front _ _ _ _ _ _ _ _ _ c.from_residual.ensures.0 (texts_parts account_text _ _ _ c.loop-account-test.true c.account-item.is) c.loop-account.invariant c.in_err-put_account.ensures

pub loop-account-preserved : goal.loop-account-preserved
loop-account-preserved g c = has_put_is _ _ _ _ (texts_next account_text _ _ _ c.loop-account-test.true c.account-item.is) (has_put_more _ _ _ _ _ _ c.loop-account.invariant c.in_ok-put_account.ensures)
