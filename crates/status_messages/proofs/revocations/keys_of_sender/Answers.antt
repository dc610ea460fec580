use Rattle.status_messages.proofs.RevokedHere.{named_only, some_then}
use Rattle.status_messages.proofs.revocations.keys_of_sender.Goals as goal

pub returns-in-Some : goal.returns-in-Some
returns-in-Some c =
    let lines = c.args.lines.now in
    some_then c.party_keys.result
    (λ keys parts. named_only lines.setting.now.day lines.journal.now.history lines.place c.args.head c.args.b _ keys.now c.requires.line c.requires.e c.in-Some.ensures parts)
    c.party_keys.ensures
