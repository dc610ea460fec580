use Rattle.std.proofs.Common.{ap}
use Rattle.commit_journal.specs.Histories.{oldest}
use Rattle.status_messages.specs.LineTexts.{entry_revocation, text_unless}
use Rattle.status_messages.proofs.Texts.{puts_nothing}
use Rattle.status_messages.proofs.revocations.put_unless.Goals as goal

pub returns-then-passed_over : goal.returns-then-passed_over
returns-then-passed_over g c =
    let lines = c.args.lines.now in
    puts_nothing _ _ _ (ap (λ b. text_unless b (entry_revocation lines.setting.now.day (oldest lines.journal.now.history lines.place) lines.place c.args.b c.args.k)) c.if-passed_over.true)
