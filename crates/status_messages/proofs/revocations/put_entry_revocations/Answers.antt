use Rattle.std.proofs.Common.{◌∙◌, ap, sym, if◌then◌else◌, []}
use Rattle.std.specs.List.{flat_map}
use Rattle.commit_journal.specs.Histories.{oldest}
use Rattle.machine.specs.Records.Messages.{entry_numbers}
use Rattle.status_messages.specs.LineTexts.{entry_revocation}
use Rattle.status_messages.proofs.Texts.{puts_nothing}
use Rattle.status_messages.proofs.revocations.put_entry_revocations.Goals as goal

pub returns-else-is_e : goal.returns-else-is_e
returns-else-is_e g c =
    let lines = c.args.lines.now in
    let day = lines.setting.now.day in
    puts_nothing _ _ _ (ap (λ b. if b then flat_map (entry_revocation day (oldest lines.journal.now.history lines.place) lines.place c.args.b) (entry_numbers day c.args.b) else []) (sym c.is_e.ensures ∙ c.if-is_e.false))
