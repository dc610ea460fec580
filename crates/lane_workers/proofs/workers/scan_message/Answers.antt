use Rattle.std.proofs.Common.{arith, refl}
use Rattle.lane_workers.proofs.Scanning.{chances_both}
use Rattle.lane_workers.proofs.Seeing.{goes_still, goes_then, same_pass}
use Rattle.lane_workers.proofs.workers.scan_message.Goals as goal

pub items-init : goal.items-init
items-init g c = record { pass = refl; seen = goes_still g.H.HallName.day c.args.pass.now.lines; within = omega arith; past = λ k less. absurd (omega (arith, less)) }

pub items-preserved : goal.items-preserved
items-preserved g c =
    let day = g.H.HallName.day in
    let P = c.args.pass.now.lines in
    let J = c.items.pass.lines in
    let K = c.scan_entry-entry.new.pass.lines in
    record {
      pass = same_pass c.args.pass.now c.items.pass c.scan_entry-entry.new.pass c.items.invariant.pass c.scan_entry-entry.ensures.pass;
      seen = goes_then day P J K c.items.invariant.seen c.scan_entry-entry.ensures.seen;
      within = c.scan_entry-entry.ensures.further.1;
      past = chances_both day P J K c.args.n c.items.entry c.scan_entry-entry.result c.items.invariant.seen.begins c.scan_entry-entry.ensures.seen.begins c.items.invariant.past c.scan_entry-entry.ensures.chance;
    }
