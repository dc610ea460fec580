use Rattle.std.proofs.Common.{arith}
use Rattle.party_gate.specs.declared.passing.Whose.TheVariants as whose
use Rattle.party_gate.proofs.KeeperFacts.{ahead_by}
use Rattle.party_gate.proofs.line_keeper.LineKeeper.end_ahead.Goals as goal

pub returns-in-Others : goal.returns-in-Others
returns-in-Others c =
    ahead_by c.args.self.now.name c.args.self.now.line.items c.as_bytes.result.now c.as_slice-line.result.now whose.Others c.as_bytes.ensures.value c.as_slice-line.ensures.value (omega (arith, c.if-line-lt-LONGEST_LINE.false)) c.in-Others.ensures

pub returns-in-Own : goal.returns-in-Own
returns-in-Own c =
    ahead_by c.args.self.now.name c.args.self.now.line.items c.as_bytes.result.now c.as_slice-line.result.now whose.Own c.as_bytes.ensures.value c.as_slice-line.ensures.value (omega (arith, c.if-line-lt-LONGEST_LINE.false)) c.in-Own.ensures

pub returns-in-Last : goal.returns-in-Last
returns-in-Last c =
    ahead_by c.args.self.now.name c.args.self.now.line.items c.as_bytes.result.now c.as_slice-line.result.now whose.Last c.as_bytes.ensures.value c.as_slice-line.ensures.value (omega (arith, c.if-line-lt-LONGEST_LINE.false)) c.in-Last.ensures
