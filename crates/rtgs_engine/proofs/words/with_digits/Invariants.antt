use Rattle.std.proofs.Common.{◌≡◌, ◌≤◌, drop}
use Rattle.rtgs_engine.specs.CommandLines.{with_digits}
use Rattle.rtgs_engine.proofs.words.with_digits.Given as goal

abbrev pub invariant-loop-c : goal.invariant-loop-c
invariant-loop-c l = record {
  same : with_digits l.most l.n (drop l.c-index l.text) ≡ with_digits l.most 0 l.text;
  small : l.n ≤ l.most;
}
