use Rattle.std.proofs.Common.{◌∙◌, subst, sym}
use Rattle.day_page.specs.BalanceTexts.{balances_text}
use Rattle.day_page.specs.Pages.{balances_part}
use Rattle.day_page.specs.Rows.{AreByAccount}
use Rattle.day_page.proofs.RowFacts.{points_by_account}
use Rattle.day_page.proofs.TextFacts.{same_put}
use Rattle.day_page.proofs.page.put_balances_part.Goals as goal

pub returns : goal.returns
unfolding balances_part
returns g c =
    same_put _ _ _ _ _ (λ i. balances_text c.args.setting.now.day ((c.as_slice.ensures.value ∙ c.requires.have.courses) i) ((c.as_slice-2.ensures.value ∙ c.requires.have.points) i)) c.put_balances.ensures

pub put_balances-requires : goal.put_balances-requires
put_balances-requires g c = subst AreByAccount (sym (c.as_slice-2.ensures.value ∙ c.requires.have.points)) (points_by_account c.args.setting.now.day c.args.request.now c.args.journal.now.history)
