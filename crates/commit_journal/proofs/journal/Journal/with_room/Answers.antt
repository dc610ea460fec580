use Rattle.std.proofs.Common.{refl}
use Rattle.std.proofs.Math.Nat.{sub-zero}
use Rattle.commit_journal.specs.Stored.{unstack}
use Rattle.commit_journal.proofs.journal.Journal.with_room.Goals as goal

pub returns : goal.returns
unfolding unstack
returns c = rw (c.in_ok-stored.ensures.items, c.in_ok-stored.ensures.len, c.in_ok-list.ensures.len, sub-zero c.args.lines, sub-zero c.args.moves) refl
