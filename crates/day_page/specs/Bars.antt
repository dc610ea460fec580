-- Batches over the clock, by their phases.
use Rattle.std.specs.Prelude.{ℕ, Bool, ◌&&◌, ◌||◌, if◌then◌else◌, List, [], ◌∷◌, map, take, not, nat_eq, bytes_eq, codes}
use Rattle.std.specs.List.{flat_map, list_any}
use Rattle.batch_records.specs.DayRecord.{Day}
use Rattle.commit_journal.specs.Line.{History}
use Rattle.machine.specs.declared.answers.Phase.{Phase}
use Rattle.machine.specs.declared.answers.Phase.TheVariants as phases
use Rattle.machine.specs.Telling.History.{clock, is_accepted}
use Rattle.machine.specs.Records.Messages.{entries, is_batch, message_numbers, move_of, sort_of}
use Rattle.machine.specs.Stages.Phases.{phase}
use Rattle.day_page.specs.declared.words.Request.{Request}
use Rattle.day_page.specs.declared.bars.Mark.{Mark}
use Rattle.day_page.specs.Parties.{sent, touches}
use Rattle.day_page.specs.Stops.{stops}

-- the party sent the batch, or an entry of it is on an account of the party
abbrev pub has_part : Day → Request → ℕ → Bool
has_part day r n = sent day r n || list_any (λ e. touches day r (move_of day e)) (entries day n)

-- an accepted batch of the party
abbrev pub is_bar : Day → Request → History → ℕ → Bool
is_bar day r J n = is_batch (sort_of day n) && is_accepted J n && has_part day r n

abbrev pub bar_part : Day → Request → History → ℕ → List ℕ
bar_part day r J n = if is_bar day r J n then n ∷ [] else []

unfoldable pub batches : Day → Request → History → List ℕ
batches day r J = flat_map (bar_part day r J) (message_numbers day)

-- the first hundred are drawn
abbrev pub bars : Day → Request → History → List ℕ
bars day r J = take 100 (batches day r J)

-- how far a batch has come at a stop
abbrev pub mark : Day → History → ℕ → Mark
mark day J n = record { msg = n; clock = clock J; phase = phase day J n }

abbrev pub marks_at : Day → List ℕ → History → List Mark
marks_at day drawn J = map (mark day J) drawn

abbrev pub marks : Day → List ℕ → History → List Mark
marks day drawn J = flat_map (marks_at day drawn) (stops J)

-- ---- when a batch came to another phase

abbrev pub phase_word : Phase → List ℕ
phase_word phases.Untaken = codes "untaken"
phase_word phases.Rejected = codes "rejected"
phase_word phases.Closed = codes "closed"
phase_word phases.Revoked = codes "revoked"
phase_word phases.Settled = codes "settled"
phase_word phases.Covered = codes "covered"
phase_word phases.Answered = codes "answered"
phase_word phases.Asking = codes "asking"
phase_word phases.Information = codes "information"
phase_word phases.Waiting = codes "waiting"
phase_word phases.Open = codes "open"
phase_word phases.Overdue = codes "overdue"

-- the mark is one of batch n, in another phase than the one before
abbrev pub is_change : ℕ → Phase → Mark → Bool
is_change n before m = nat_eq m.msg n && not (bytes_eq (phase_word m.phase) (phase_word before))

unfoldable pub changes_from : ℕ → Phase → List Mark → List Mark
changes_from n before [] = []
changes_from n before (m ∷ ms) = if is_change n before m then m ∷ changes_from n m.phase ms else changes_from n before ms

-- the marks at which batch n came to another phase; before the first it wasn't taken
abbrev pub changes_of : List Mark → ℕ → List Mark
changes_of all n = changes_from n phases.Untaken all

abbrev pub changes : List Mark → List ℕ → List Mark
changes all drawn = flat_map (changes_of all) drawn
