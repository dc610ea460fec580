use Rattle.std.proofs.Common.{◌≡◌, drop}
use Rattle.batch_records.specs.CountText.{with_digits}
use Rattle.batch_records.proofs.count_text.with_digits.Given as goal

abbrev pub invariant-loop-c : goal.invariant-loop-c
invariant-loop-c l = with_digits l.n (drop l.c-index l.text) ≡ with_digits l.first l.text
