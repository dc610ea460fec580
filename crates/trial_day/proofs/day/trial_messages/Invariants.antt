use Rattle.std.proofs.Common.{◌≡◌, ◌*◌, ◌<◌, ◌^◌, map}
use Rattle.std.specs.List.{range_with_len}
use Rattle.trial_day.specs.Trial.{number_behind, trial_message}
use Rattle.trial_day.proofs.day.trial_messages.Given as goal

abbrev pub invariant-loop-before : goal.invariant-loop-before
invariant-loop-before l = record {
  messages : l.messages ≡ map (trial_message l.seed) (range_with_len 1 l.before);
  number : l.x ≡ number_behind l.seed (12 * l.before);
  within : l.x < 2 ^ 31;
}
