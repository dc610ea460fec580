use Rattle.std.proofs.Common.{◌≤◌, ◌∙◌, ℕ, List, length, subst, sym}
use Rattle.cash_amounts.specs.declared.limits.TheConstants.{MAX_ACCOUNTS}
use Rattle.day_page.specs.Extents.{AreAccounts}
use Rattle.day_page.proofs.SheetFacts.{have_courses}
use Rattle.day_page.proofs.ShownFacts.{shown_accounts}
use Rattle.day_page.proofs.sheet.shown_balances.Goals as goal

pub balances_of-requires-clause-few : goal.balances_of-requires-clause-few
balances_of-requires-clause-few c = subst (λ (xs : List ℕ). length xs ≤ MAX_ACCOUNTS) (sym c.as_slice.ensures.value) c.in_ok-shown.ensures.few

pub balances_of-requires-clause-accounts : goal.balances_of-requires-clause-accounts
balances_of-requires-clause-accounts c =
    subst (AreAccounts c.args.setting.now.day) (sym (c.as_slice.ensures.value ∙ c.in_ok-shown.ensures.shown)) (shown_accounts c.args.setting.now.day c.args.request.now c.args.journal.now.history)

pub returns : goal.returns
returns c = have_courses c.args.setting.now.day c.args.request.now c.args.journal.now.history _ _ (c.as_slice.ensures.value ∙ c.in_ok-shown.ensures.shown) c.balances_of.ensures.courses c.balances_of.ensures.points
