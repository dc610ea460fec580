use Rattle.std.proofs.Common.{◌≡◌, Bool, true, false, sym, ap}
use Rattle.std.specs.Prelude.{if◌then◌else◌}
use Rattle.commit_journal.specs.declared.line.Code.TheVariants as line_codes
use Rattle.machine.specs.Telling.Facts.{cycle_ended}
use Rattle.machine.specs.Stages.Phases.{phase}
use Rattle.settlement_laws.proofs.Base.PhaseLaws.{going_accepted, overdue_going}
use Rattle.proc_c.proofs.Cycles.{ended_is}
use Rattle.proc_c.proofs.ending.expiry_code.Goals as goal

pub returns-then-has_ended_since : goal.returns-then-has_ended_since
returns-then-has_ended_since g c =
    let day = g.D.Desk.day c.args.desk.now in
    let past = g.D.Desk.past c.args.desk.now in
    let same = ended_is day past c.args.n (g.D.Desk.legal c.args.desk.now) c.requires.batch (going_accepted day past c.args.n (overdue_going (phase day past c.args.n) c.requires.overdue)) in
    let has_ended : cycle_ended day c.args.n past ≡ true = cc in
    sym (ap (λ (b : Bool). if b then line_codes.Ce else line_codes.Ed) has_ended)

pub returns-else-has_ended_since : goal.returns-else-has_ended_since
returns-else-has_ended_since g c =
    let day = g.D.Desk.day c.args.desk.now in
    let past = g.D.Desk.past c.args.desk.now in
    let same = ended_is day past c.args.n (g.D.Desk.legal c.args.desk.now) c.requires.batch (going_accepted day past c.args.n (overdue_going (phase day past c.args.n) c.requires.overdue)) in
    let goes_on : cycle_ended day c.args.n past ≡ false = cc in
    sym (ap (λ (b : Bool). if b then line_codes.Ce else line_codes.Ed) goes_on)
