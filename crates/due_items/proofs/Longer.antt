-- What is kept of a day, where one more message or stop comes.
use Rattle.std.proofs.Common.{◌≡◌, ◌∙◌, ℕ, ◌+◌, ◌<◌, ◌≤◌, List, [], ◌∷◌, ◌++◌, length, sym, ap, subst, arith, append_assoc}
use Rattle.std.proofs.lemmas.List.{append-nil, length-append}
use Rattle.batch_records.specs.DayRecord.{Day}
use Rattle.batch_records.specs.declared.day.Message.{Message}
use Rattle.commit_journal.specs.Line.{History}
use Rattle.machine.specs.Legal.{IsLegal}
use Rattle.machine.specs.Telling.History.{clock}
use Rattle.live_order.specs.Coming.{ComesNext, StaysLegal}
use Rattle.live_order.specs.Longer.{SpeaksOf, longer}
use Rattle.live_order.proofs.Runs.Speaking.{speaks}
use Rattle.due_items.specs.Kept.{Due, HaveDue, KeepsDue}
use Rattle.due_items.proofs.ArrivalFacts.{have_all}
use Rattle.due_items.proofs.LongerFacts.{still_kept, was_kept}

-- a stop makes nothing due
pub stop_due : (day : Day) (t : ℕ) (J : History) (due : Due) → clock J < t → IsLegal (longer day [] (t ∷ [])) J → KeepsDue day J due → KeepsDue (longer day [] (t ∷ [])) J due
stop_due day t J due later legal keeps =
    let same : length (day.messages ++ []) ≡ length day.messages = ap length (append-nil day.messages) in
    have_all (longer day [] (t ∷ [])) J (length day.messages) due (sym same) (still_kept day [] (t ∷ []) J due (subst (λ k. SpeaksOf k J) same (speaks (longer day [] (t ∷ [])) J legal)) keeps)

-- the day with its next message is the beginning of the whole day
whole_is : (whole : Day) (n : ℕ) (day : Day) (m : Message) (ms : List Message) (ss : List ℕ) → ComesNext whole n day m ms ss → whole ≡ longer (longer day (m ∷ []) []) ms ss
whole_is whole n day m ms ss next = next.is ∙ (λ i. record day { messages = sym (append_assoc day.messages (m ∷ []) ms) i; stops = sym (ap (λ xs. xs ++ ss) (append-nil day.stops)) i })

pub number_last : (whole : Day) (n : ℕ) (day : Day) (m : Message) (ms : List Message) (ss : List ℕ) → ComesNext whole n day m ms ss → n ≡ length (day.messages ++ m ∷ [])
number_last whole n day m ms ss next =
    let number = next.number in
    let len : length (day.messages ++ m ∷ []) ≡ length day.messages + 1 = length-append day.messages (m ∷ []) in
    omega (arith, number, len)

pub number_there : (whole : Day) (n : ℕ) (day : Day) (m : Message) (ms : List Message) (ss : List ℕ) → ComesNext whole n day m ms ss → n ≤ length whole.messages
number_there whole n day m ms ss next =
    let number = next.number in
    let len : length (day.messages ++ m ∷ ms) ≡ length day.messages + length (m ∷ ms) = length-append day.messages (m ∷ ms) in
    let all : length whole.messages ≡ length (day.messages ++ m ∷ ms) = ap (λ (d : Day). length d.messages) next.is in
    omega (arith, number, len, all)

-- what is kept of the messages until now of the whole day is what is kept of the day until now, and so with the next one
pub kept_before : (whole : Day) (n : ℕ) (day : Day) (m : Message) (ms : List Message) (ss : List ℕ) (J : History) (due : Due) → ComesNext whole n day m ms ss → StaysLegal day m J → KeepsDue day J due → HaveDue whole (length day.messages) J due
kept_before whole n day m ms ss J due next legal keeps = subst (λ (d : Day). HaveDue d (length day.messages) J due) (sym next.is) (still_kept day (m ∷ ms) ss J due (speaks day J legal.before) keeps)

pub kept_after : (whole : Day) (n : ℕ) (day : Day) (m : Message) (ms : List Message) (ss : List ℕ) (J : History) (due : Due) → ComesNext whole n day m ms ss → StaysLegal day m J → HaveDue whole n J due → KeepsDue (longer day (m ∷ []) []) J due
kept_after whole n day m ms ss J due next legal have =
    was_kept (longer day (m ∷ []) []) ms ss J due (speaks (longer day (m ∷ []) []) J legal.after)
    (subst (λ k. HaveDue (longer (longer day (m ∷ []) []) ms ss) k J due) (number_last whole n day m ms ss next) (subst (λ (d : Day). HaveDue d n J due) (whole_is whole n day m ms ss next) have))
