use Rattle.std.proofs.Common.{◌≤◌, List, length, subst, sym}
use Rattle.cash_amounts.specs.declared.limits.TheConstants.{MAX_ACCOUNTS}
use Rattle.cash_amounts.specs.declared.records.AccountRecord.{AccountRecord}
use Rattle.cash_amounts.specs.Numbers.{numbered}
use Rattle.settle_floor.specs.Tills.{KeepsBalances}
use Rattle.day_chain.proofs.LedgerFacts.{few_accounts_in}
use Rattle.day_chain.proofs.settling.Settled.into_before.Goals as goal

pub returns : goal.returns
returns c = record {
  date = c.date-date.ensures;
  accounts = c.into_setup-accounts.ensures.accounts;
  systems = c.into_setup-accounts.ensures.systems;
  few = subst (λ (accounts : List AccountRecord). length accounts ≤ MAX_ACCOUNTS) (sym c.into_setup-accounts.ensures.accounts) (few_accounts_in c.args.self.setting.day c.args.self.setting.sound);
  all = c.requires.balanced.all;
  kept = subst (KeepsBalances (numbered c.args.self.till) c.args.self.setting.day) c.requires.lines c.requires.balanced.kept;
}
