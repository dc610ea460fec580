use Rattle.std.proofs.Common.{◌≡◌, true, drop}
use Rattle.std.specs.List.{list_all}
use Rattle.machine.specs.Stages.Pending.{debtors, item, stands_on}
use Rattle.machine.specs.Making.Reasons.{blocked_on}
use Rattle.proc_b.specs.Reasons.{debtors_in}
use Rattle.proc_b.proofs.booking.first_blocked.Given as goal

abbrev pub invariant-loop-found : goal.invariant-loop-found
invariant-loop-found g l = record {
  same : blocked_on (g.D.Desk.day l.desk) (g.D.Desk.past l.desk) (item l.n 0) (debtors_in l.technical (drop l.found-index l.found-items)) ≡ blocked_on (g.D.Desk.day l.desk) (g.D.Desk.past l.desk) (item l.n 0) (debtors (g.D.Desk.day l.desk) l.n);
  there : list_all (λ a. stands_on (g.D.Desk.day l.desk) a (item l.n 0)) (debtors_in l.technical (drop l.found-index l.found-items)) ≡ true;
}
