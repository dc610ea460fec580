use Rattle.std.proofs.Common.{◌≡◌, true, drop}
use Rattle.std.specs.Prelude.{option_map}
use Rattle.std.specs.List.{find, list_all}
use Rattle.machine.specs.Stages.Pending.{debtors}
use Rattle.machine.specs.Making.Lines.{is_short_debtor}
use Rattle.machine.specs.Making.Reasons.{short}
use Rattle.proc_b.specs.Reasons.{debtors_in}
use Rattle.proc_b.proofs.booking.first_short.Given as goal

abbrev pub invariant-loop-found : goal.invariant-loop-found
invariant-loop-found g l = record {
  same : option_map (short (g.D.Desk.day l.desk) (g.D.Desk.past l.desk)) (find (is_short_debtor (g.D.Desk.day l.desk) (g.D.Desk.past l.desk) l.n) (debtors_in l.technical (drop l.found-index l.found-items))) ≡ option_map (short (g.D.Desk.day l.desk) (g.D.Desk.past l.desk)) (find (is_short_debtor (g.D.Desk.day l.desk) (g.D.Desk.past l.desk) l.n) (debtors (g.D.Desk.day l.desk) l.n));
  held : list_all (g.D.Desk.held l.desk) (debtors_in l.technical (drop l.found-index l.found-items)) ≡ true;
}
