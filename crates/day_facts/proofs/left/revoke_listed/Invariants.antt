use Rattle.std.proofs.Common.{◌≡◌}
use Rattle.day_facts.specs.Listed.{with_rows}
use Rattle.day_facts.specs.Lists.{changed}
use Rattle.day_facts.specs.Left.{fallen}
use Rattle.day_facts.specs.Told.{is_party_at}
use Rattle.day_facts.proofs.ListedParts.{is_done}
use Rattle.day_facts.proofs.left.revoke_listed.Given as goal

-- the entries of the keys before it have been looked at
abbrev pub invariant-loop-key : goal.invariant-loop-key
invariant-loop-key l = l.rows ≡ with_rows (changed l.n (fallen (is_done l.keys (is_party_at l.setting.day l.n l.bank) l.key-index) 0) l.initial.rows.rows) l.initial.rows
