use Rattle.status_messages.proofs.RevokedHere.{again_untold}
use Rattle.status_messages.proofs.revocations.keys_of_line.Goals as goal

pub returns-then-is_again : goal.returns-then-is_again
returns-then-is_again c =
    let lines = c.args.lines.now in
    again_untold lines.setting.now.day lines.journal.now.history lines.place c.args.head c.args.b c.requires.line lines.stands.legal (c.is_again.ensures c.if-is_again.true)
