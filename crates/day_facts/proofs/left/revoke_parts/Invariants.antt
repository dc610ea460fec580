use Rattle.std.proofs.Common.{◌≡◌, ◌&&◌, nat_lt}
use Rattle.day_facts.specs.Listed.{with_rows}
use Rattle.day_facts.specs.Lists.{changed}
use Rattle.day_facts.specs.Left.{fallen}
use Rattle.day_facts.specs.Told.{is_party_at}
use Rattle.day_facts.proofs.left.revoke_parts.Given as goal

-- the entries before k have been looked at
abbrev pub invariant-loop-k : goal.invariant-loop-k
invariant-loop-k l = l.rows ≡ with_rows (changed l.n (fallen (λ j. nat_lt j l.k && is_party_at l.setting.day l.n l.bank j) 0) l.initial.rows.rows) l.initial.rows
