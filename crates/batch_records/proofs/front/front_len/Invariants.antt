use Rattle.std.proofs.Common.{◌≡◌, ◌≤◌, ◌<◌, true, take}
use Rattle.csv.specs.Reading.{strip_bom}
use Rattle.batch_records.specs.Front.{is_marked}
use Rattle.batch_records.proofs.FrontFacts.{Scanned}
use Rattle.batch_records.proofs.front.front_len.Given as goal

abbrev pub invariant-loop-i : goal.invariant-loop-i
invariant-loop-i l = record {
  scanned : Scanned (strip_bom (take l.i l.part)) l.spot.place l.spot.ended;
  marked : is_marked l.part ≡ true → 3 ≤ l.i;
  few : l.spot.ended < 16;
}
