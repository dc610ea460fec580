-- The classes of messages, and what became of them.
use Rattle.std.specs.Prelude.{ℕ, Bool, true, false, ◌&&◌, if◌then◌else◌, List, [], Option, count_by, sum_by, is_none, bytes_eq, codes}
use Rattle.std.specs.Option.{option_map, option_map_or}
use Rattle.cash_amounts.specs.declared.records.Procedure.{Procedure}
use Rattle.cash_amounts.specs.declared.records.Procedure.TheVariants.{A, B, C, D, E}
use Rattle.batch_records.specs.DayRecord.{Day}
use Rattle.batch_records.specs.declared.day.Body.{Body}
use Rattle.batch_records.specs.declared.day.Body.TheVariants as bodies
use Rattle.commit_journal.specs.declared.line.Code.{Code}
use Rattle.commit_journal.specs.declared.line.Move.{Move}
use Rattle.commit_journal.specs.Text.{code_text}
use Rattle.commit_journal.specs.Line.{History}
use Rattle.machine.specs.declared.answers.Phase.{Phase}
use Rattle.machine.specs.declared.answers.Phase.TheVariants as phases
use Rattle.machine.specs.Words.{some_passes, when}
use Rattle.machine.specs.Telling.History.{is_in_of, read_first, taken_code}
use Rattle.machine.specs.Records.Messages.{is_a_or_b, is_d, item_numbers, message_at, message_numbers, move_of, part, sort_of}
use Rattle.machine.specs.Stages.Phases.{is_booked, phase}
use Rattle.day_page.specs.declared.classes.Class.{Class}
use Rattle.day_page.specs.declared.classes.Class.TheVariants as classes
use Rattle.day_page.specs.declared.classes.Outcome.{Outcome}
use Rattle.day_page.specs.declared.classes.Outcome.TheVariants as outcomes
use Rattle.day_page.specs.declared.words.Request.{Request}
use Rattle.day_page.specs.Parties.{sent}

-- ---- classes

abbrev pub class_of_batch : Procedure → Class
class_of_batch A = classes.BatchA
class_of_batch B = classes.BatchB
class_of_batch C = classes.BatchC
class_of_batch D = classes.BatchD
class_of_batch E = classes.BatchE

abbrev pub class_of_body : Body → Class
class_of_body (bodies.Batch p info from till count sum entries) = class_of_batch p
class_of_body (bodies.Pay high debit credit amount) = classes.Payment
class_of_body (bodies.Liquidity debit credit amount) = classes.Transfer
class_of_body (bodies.Object system batch) = classes.Objection
class_of_body (bodies.Confirm batch answer) = classes.Answer
class_of_body (bodies.Cycle start) = classes.Cycle

abbrev pub class_word : Class → List ℕ
class_word classes.Payment = codes "payment"
class_word classes.BatchA = codes "batch of A"
class_word classes.BatchB = codes "batch of B"
class_word classes.BatchC = codes "batch of C"
class_word classes.BatchD = codes "batch of D"
class_word classes.BatchE = codes "batch of E"
class_word classes.Transfer = codes "liquidity transfer"
class_word classes.Objection = codes "objection"
class_word classes.Answer = codes "answer on a fund"
class_word classes.Cycle = codes "cycle message"

-- two classes are one where they have one word
abbrev pub same_class : Class → Class → Bool
same_class c other = bytes_eq (class_word c) (class_word other)

-- the word for message n; nothing where there is none
abbrev pub word_of : Day → ℕ → List ℕ
word_of day n = option_map_or (λ m. class_word (class_of_body m.body)) (message_at day n) []

-- message n is of this class, and the party sent it
abbrev pub is_of : Day → Request → Class → ℕ → Bool
is_of day r c n = sent day r n && some_passes (λ m. same_class (class_of_body m.body) c) (message_at day n)

-- ---- how many there are

-- message n was taken with this code
abbrev pub has_code : History → Code → ℕ → Bool
has_code J code n = some_passes (λ taken. bytes_eq (code_text taken) (code_text code)) (taken_code J n)

abbrev pub is_of_code : Day → Request → History → Class → Code → ℕ → Bool
is_of_code day r J c code n = is_of day r c n && has_code J code n

unfoldable pub sent_count : Day → Request → Class → ℕ
sent_count day r c = count_by (is_of day r c) (message_numbers day)

unfoldable pub code_count : Day → Request → History → Class → Code → ℕ
code_count day r J c code = count_by (is_of_code day r J c code) (message_numbers day)

abbrev pub is_left : Day → Request → History → Class → ℕ → Bool
is_left day r J c n = is_of day r c n && is_none (taken_code J n)

-- not taken yet
unfoldable pub left_count : Day → Request → History → Class → ℕ
left_count day r J c = count_by (is_left day r J c) (message_numbers day)

-- ---- what became of payments and batches

-- settled, revoked, closed, or still open; a message that isn't taken or was rejected is none of these
abbrev pub is_in_phase : Outcome → Phase → Bool
is_in_phase outcomes.Settled phases.Settled = true
is_in_phase outcomes.Revoked phases.Revoked = true
is_in_phase outcomes.Closed phases.Closed = true
is_in_phase outcomes.Going phases.Covered = true
is_in_phase outcomes.Going phases.Answered = true
is_in_phase outcomes.Going phases.Asking = true
is_in_phase outcomes.Going phases.Information = true
is_in_phase outcomes.Going phases.Waiting = true
is_in_phase outcomes.Going phases.Open = true
is_in_phase outcomes.Going phases.Overdue = true
is_in_phase _ _ = false

abbrev pub came_to : Day → Request → History → Class → Outcome → ℕ → Bool
came_to day r J c outcome n = is_of day r c n && is_in_phase outcome (phase day J n)

unfoldable pub outcome_count : Day → Request → History → Class → Outcome → ℕ
outcome_count day r J c outcome = count_by (came_to day r J c outcome) (message_numbers day)

-- the amount of a payment, or the sum that a batch states, which is that of its entries where it was accepted; in cents
abbrev pub order_cents_in : Body → ℕ
order_cents_in (bodies.Batch p info from till count sum entries) = sum
order_cents_in (bodies.Pay high debit credit amount) = amount
order_cents_in _ = 0

abbrev pub order_cents : Day → ℕ → ℕ
order_cents day n = option_map_or (λ m. order_cents_in m.body) (message_at day n) 0

-- what the line that took message n moved: of an accepted batch of D its entries but for those that were rejected; in cents
abbrev pub intake_moves : History → ℕ → Option (List Move)
intake_moves J n = read_first (λ l. when (is_in_of n l) l.moves) J

abbrev pub moved_cents : List Move → ℕ
moved_cents moves = sum_by (λ m. m.amount) moves

abbrev pub intake_cents : History → ℕ → ℕ
intake_cents J n = option_map_or moved_cents (intake_moves J n) 0

-- what a payment, or entry k of a batch, moves once it is booked
abbrev pub item_cents : Day → ℕ → ℕ → ℕ
item_cents day n k = option_map_or (λ m. m.amount) (option_map (move_of day) (part day n k)) 0

abbrev pub booked_item : Day → History → ℕ → ℕ → ℕ
booked_item day J n k = if is_booked J n k then item_cents day n k else 0

-- of a payment and of batches of C and E those items that have a Book line: of E not those that were revoked
unfoldable pub booked_items : Day → History → ℕ → ℕ
booked_items day J n = sum_by (booked_item day J n) (item_numbers day n)

-- what was booked of a payment or a batch that is settled. Of A and B that is all that it states: each entry was paid, by its
-- debtor or by the fund.
abbrev pub booked_cents : Day → History → ℕ → ℕ
booked_cents day J n =
    if is_d (sort_of day n) then intake_cents J n
    else if is_a_or_b (sort_of day n) then order_cents day n
    else booked_items day J n

abbrev pub cents_as : Outcome → Day → History → ℕ → ℕ
cents_as outcomes.Settled day J n = booked_cents day J n
cents_as _ day J n = order_cents day n

abbrev pub outcome_part : Day → Request → History → Class → Outcome → ℕ → ℕ
outcome_part day r J c outcome n = if came_to day r J c outcome n then cents_as outcome day J n else 0

unfoldable pub outcome_cents : Day → Request → History → Class → Outcome → ℕ
outcome_cents day r J c outcome = sum_by (outcome_part day r J c outcome) (message_numbers day)
