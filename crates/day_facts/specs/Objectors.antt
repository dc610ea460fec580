-- Objections that repeat an accepted one of the same sender to the same batch.
use Rattle.std.specs.Prelude.{ℕ, Bool, false, ◌&&◌, List, Option, None, Some}
use Rattle.batch_records.specs.DayRecord.{Day}
use Rattle.batch_records.specs.declared.day.Body.{Body}
use Rattle.batch_records.specs.declared.day.Body.TheVariants as bodies
use Rattle.batch_records.specs.declared.day.Message.{Message}
use Rattle.machine.specs.Words.{same_name, some_passes}
use Rattle.machine.specs.Records.Messages.{message_at}
use Rattle.machine.specs.Telling.History.{is_accepted, is_ok}
use Rattle.commit_journal.specs.Line.{History}
use Rattle.day_facts.specs.declared.own.Own.{Own}
use Rattle.day_facts.specs.Own.{code_in}

-- both are objections to one batch
abbrev pub are_alike : Body → Body → Bool
are_alike (bodies.Object system id) (bodies.Object system' id') = same_name system system' && same_name id id'
are_alike _ _ = false

-- of one sender
abbrev pub is_alike : Option Message → Option Message → Bool
is_alike (Some a) (Some b) = same_name a.sender b.sender && are_alike a.body b.body
is_alike _ _ = false

-- message n objects as the accepted message m did
abbrev pub repeats_objection : Day → List Own → ℕ → ℕ → Bool
repeats_objection day owns m n = some_passes is_ok (code_in owns m) && is_alike (message_at day m) (message_at day n)

-- the same of what lines tell
abbrev pub repeats_accepted : Day → History → ℕ → ℕ → Bool
repeats_accepted day J m n = is_accepted J m && is_alike (message_at day m) (message_at day n)

-- the batch of which a line may revoke something: none, where it repeats an earlier objection
abbrev pub fresh : Option ℕ → Option ℕ → Option ℕ
fresh aim None = aim
fresh aim (Some earlier) = None
