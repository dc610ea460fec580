-- What is told of the messages of a day after some lines of a journal.
use Rattle.std.specs.Prelude.{ℕ, if◌then◌else◌, List, [], ◌∷◌, ◌++◌, Option, Some, None, length, decimal, codes}
use Rattle.std.specs.List.{flat_map}
use Rattle.std.specs.Option.{option_map_or}
use Rattle.outside_io.specs.TextLine.{text_line}
use Rattle.batch_records.specs.DayRecord.{Day}
use Rattle.commit_journal.specs.declared.line.Want.{Want}
use Rattle.commit_journal.specs.Line.{History}
use Rattle.commit_journal.specs.Histories.{oldest}
use Rattle.machine.specs.declared.answers.Phase.{Phase}
use Rattle.machine.specs.declared.answers.Why.{Why}
use Rattle.machine.specs.Records.Messages.{item_numbers, message_at, message_numbers, sender}
use Rattle.machine.specs.Stages.Phases.{phase}
use Rattle.machine.specs.Making.Reasons.{why_of}
use Rattle.day_reasons.specs.declared.words.Request.{Request}
use Rattle.day_reasons.specs.Reasons.{phase_word, reason_fields}
use Rattle.day_reasons.specs.Waits.{is_unfinished, waiting_want}

abbrev pub id_of : Day → ℕ → List ℕ
id_of day n = option_map_or (λ m. m.id) (message_at day n) []

-- a message: its number, its sender, its identification, and how far it has come
abbrev pub message_line : Day → ℕ → Phase → List ℕ
message_line day n p = text_line (codes "W" ∷ decimal n ∷ sender day n ∷ id_of day n ∷ phase_word p ∷ [])

-- ---- items that wait

-- the fields in front of a reason, which an item is told by: `Y`, the message, and the entry
abbrev pub item_head : ℕ → ℕ → List ℕ
item_head n k = codes "Y;" ++ decimal n ++ codes ";" ++ decimal k

-- an item that waits, with the reason why its want has no line; nothing where the want has its line, which the machine can make next
abbrev pub reason_line : Day → History → ℕ → ℕ → Want → Option Why → List ℕ
reason_line day J n k want None = []
reason_line day J n k want (Some why) = text_line (item_head n k ∷ reason_fields day J want why)

abbrev pub want_line : Day → History → ℕ → ℕ → Option Want → List ℕ
want_line day J n k None = []
want_line day J n k (Some want) = reason_line day J n k want (why_of day J want)

unfoldable pub item_text : Day → History → ℕ → ℕ → List ℕ
item_text day J n k = want_line day J n k (waiting_want day J n k)

-- the items of a message in this phase, by entry
abbrev pub items_text : Day → History → ℕ → Phase → List ℕ
items_text day J n p = if is_unfinished p then flat_map (item_text day J n) (item_numbers day n) else []

-- ---- all messages

-- a message, and directly after it its items that wait
unfoldable pub message_text : Day → History → ℕ → List ℕ
message_text day J n = message_line day n (phase day J n) ++ items_text day J n (phase day J n)

unfoldable pub messages_text : Day → History → List ℕ
messages_text day J = flat_map (message_text day J) (message_numbers day)

-- the lines of a journal over which is told: the first ones, up to the place that is asked for
abbrev pub place_in : History → Option ℕ → ℕ
place_in J None = length J
place_in J (Some place) = place

abbrev pub beginning : Request → History → History
beginning r J = oldest J (place_in J r.place)
