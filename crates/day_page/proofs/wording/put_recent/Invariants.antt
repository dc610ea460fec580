use Rattle.std.proofs.Common.{◌≡◌, ◌-◌, ◌++◌, ℕ, List}
use Rattle.outside_io.specs.Pieces.{HasPut}
use Rattle.commit_journal.specs.Histories.{oldest}
use Rattle.day_page.specs.LineTexts.{recent_text}
use Rattle.day_page.proofs.wording.put_recent.Given as goal

-- the texts so far, and those of the lines that are left
abbrev pub invariant-loop-done : goal.invariant-loop-done
invariant-loop-done g l =
    (told : List ℕ) × HasPut (g.S.Sink.state l.initial.sink) (g.S.Sink.state l.sink) told
    × (told ++ recent_text l.setting.day l.request l.budget (oldest l.journal.history (l.count - l.done)) ≡ recent_text l.setting.day l.request l.most l.journal.history)
