-- What is told of lines that speak of a day's own messages.
use Rattle.std.proofs.Common.{◌≡◌, ℕ, suc, List, [], ◌∷◌, ◌++◌, length, refl}
use Rattle.std.specs.Prelude.{if◌then◌else◌, nat_le}
use Rattle.batch_records.specs.DayRecord.{Day}
use Rattle.batch_records.specs.declared.day.Message.{Message}
use Rattle.commit_journal.specs.Line.{History}
use Rattle.commit_journal.specs.Text.{line_text}
use Rattle.status_messages.specs.Telling.{texts}
use Rattle.live_order.specs.Longer.{longer, SpeaksOf}
use Rattle.live_day.specs.Told.{told_behind}
use Rattle.live_day.proofs.StatusesSame.{statuses_same}

-- it is told the same with a longer day
pub behind_same : (day : Day) (ms : List Message) (ss : List ℕ) (i : ℕ) (J : History) → SpeaksOf (length day.messages) J → told_behind (longer day ms ss) i J ≡ told_behind day i J
unfolding told_behind
behind_same day ms ss i [] spoken = refl
behind_same day ms ss i (l ∷ J) spoken = λ j.
    behind_same day ms ss i J spoken.0 j ++ (if nat_le i (length J) then (line_text (suc (length J)) l ++ texts (statuses_same day ms ss J l spoken j)) else [])
