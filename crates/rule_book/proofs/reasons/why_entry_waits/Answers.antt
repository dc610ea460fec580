-- The account is the entry's debit account.
use Rattle.std.proofs.Common.{◌≡◌, ◌∙◌, true, subst, sym, ap}
use Rattle.machine.specs.Records.Messages.{debit_account}
use Rattle.machine.specs.Stages.Pending.{item, stands_on}
use Rattle.machine.specs.Making.Reasons.{why_waits}
use Rattle.rule_book.proofs.reasons.why_entry_waits.Goals as goal

pub why_waits-requires-clause-there : goal.why_waits-requires-clause-there
why_waits-requires-clause-there g c =
    subst (λ a. stands_on (g.D.Desk.day c.args.desk.now) a (item c.args.n c.args.k) ≡ true)
    (sym (c.debit_account_at-account.ensures ∙ ap (λ d. debit_account d c.args.entry.now) c.setting.ensures)) c.requires.there

pub why_waits-requires-clause-held : goal.why_waits-requires-clause-held
why_waits-requires-clause-held g c =
    subst (λ a. g.D.Desk.held c.args.desk.now a ≡ true)
    (sym (c.debit_account_at-account.ensures ∙ ap (λ d. debit_account d c.args.entry.now) c.setting.ensures)) c.requires.held

pub returns : goal.returns
returns g c =
    c.why_waits.ensures
    ∙ ap (λ a. why_waits (g.D.Desk.day c.args.desk.now) (g.D.Desk.past c.args.desk.now) (item c.args.n c.args.k) a c.args.entry.now.amount)
    (c.debit_account_at-account.ensures ∙ ap (λ d. debit_account d c.args.entry.now) c.setting.ensures)
