use Rattle.std.proofs.Common.{◌≡◌, drop}
use Rattle.status_messages.specs.Revoking.{rises_from}
use Rattle.status_messages.proofs.revocations.rise.Given as goal

abbrev pub invariant-loop-key : goal.invariant-loop-key
invariant-loop-key l = rises_from 0 l.keys ≡ rises_from l.last (drop l.key-index l.keys)
