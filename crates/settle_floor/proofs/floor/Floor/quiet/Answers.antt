use Rattle.std.proofs.Common.{◌∙◌, sym}
use Rattle.settlement_laws.proofs.DayEnd.PlainRuns.{quiet-done, quiet-more, quiet-falls}
use Rattle.settle_floor.proofs.floor.Floor.quiet.Goals as goal

pub returns-then-len-before-clause-lines : goal.returns-then-len-before-clause-lines
returns-then-len-before-clause-lines g c =
    let same = sym c.len.ensures ∙ c.if-len-before.true ∙ c.len-before.ensures in
    quiet-done _ _ _ c.scan.ensures.lines same ∙ c.scans.invariant.same

pub scans-smaller : goal.scans-smaller
scans-smaller g c =
    quiet-falls c.args.setting.now.day c.args.setting.now.sound _ _ c.scans.invariant.at_work.opened.fits.legal c.scan.ensures.lines (λ e. c.if-len-before.false (c.len.ensures ∙ e ∙ sym c.len-before.ensures))

pub scans-preserved : goal.scans-preserved
scans-preserved g c =
    record {
      same = quiet-more c.args.setting.now.day c.args.setting.now.sound _ _ c.scans.invariant.at_work.opened.fits.legal c.scan.ensures.lines (λ e. c.if-len-before.false (c.len.ensures ∙ e ∙ sym c.len-before.ensures)) ∙ c.scans.invariant.same;
      at_work = c.scan.ensures.at_work;
    }
