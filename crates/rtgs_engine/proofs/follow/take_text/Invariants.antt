use Rattle.std.proofs.Common.{◌≤◌, ◌+◌, length}
use Rattle.as_client.specs.Views.{text_lines}
use Rattle.rtgs_engine.specs.Following.{OnTheWay}
use Rattle.rtgs_engine.proofs.follow.take_text.Given as goal

abbrev pub invariant-loop-left : goal.invariant-loop-left
invariant-loop-left l = record {
  way : OnTheWay l.day l.name (text_lines l.text) (text_lines l.left) l.view l.number l.taken;
  lines : l.number + length l.left ≤ length l.text;
  few : l.taken ≤ l.number;
}

abbrev pub decreases-loop-left : goal.decreases-loop-left
decreases-loop-left l = length l.left
