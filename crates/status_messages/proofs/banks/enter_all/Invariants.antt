use Rattle.std.proofs.Common.{ℕ, ◌≡◌, ◌||◌, length, take}
use Rattle.std.specs.List.{list_any}
use Rattle.number_set.specs.Members.{has}
use Rattle.status_messages.specs.LineTexts.{is_called_in}
use Rattle.status_messages.proofs.banks.enter_all.Given as goal

-- those of the moves before are entered
abbrev pub invariant-loop-found : goal.invariant-loop-found
invariant-loop-found l = record {
  length : length l.banks ≡ length l.initial.banks;
  each : (a : ℕ) → has l.banks a ≡ (has l.initial.banks a || list_any (is_called_in l.setting.day a) (take l.found-index l.list));
}
