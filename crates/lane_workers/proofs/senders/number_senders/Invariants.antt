use Rattle.std.proofs.Common.{◌≡◌, ◌≤◌, ℕ, List, length, take}
use Rattle.std.specs.BTreeMap.{get}
use Rattle.std.specs.Cmp.Lexicographic.{slice_cmp}
use Rattle.std.specs.Ordering.{nat_cmp}
use Rattle.lane_workers.specs.Senders.{number_among, senders_of}
use Rattle.lane_workers.proofs.senders.number_senders.Given as goal

-- the senders of the messages so far are numbered
abbrev pub invariant-loop-i : goal.invariant-loop-i
invariant-loop-i l = record {
  named : (name : List ℕ) → get (slice_cmp nat_cmp) l.numbers name ≡ number_among (senders_of (take l.i l.setting.day.messages)) name;
  count : l.next ≡ length (senders_of (take l.i l.setting.day.messages));
  few : l.next ≤ l.i;
}
