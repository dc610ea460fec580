-- What is kept of a day, where one more message or stop comes.
use Rattle.std.proofs.Common.{◌≡◌, ◌∙◌, ℕ, ◌+◌, ◌^◌, ◌<◌, ◌≤◌, List, [], ◌∷◌, ◌++◌, append_assoc, length, sym, ap, subst, arith}
use Rattle.std.proofs.lemmas.List.{append-nil, length-append}
use Rattle.batch_records.specs.DayRecord.{Day}
use Rattle.batch_records.specs.declared.day.Message.{Message}
use Rattle.commit_journal.specs.Line.{History}
use Rattle.machine.specs.Legal.{IsLegal}
use Rattle.machine.specs.Records.Messages.{entries}
use Rattle.machine.specs.Telling.History.{clock}
use Rattle.live_order.specs.Coming.{ComesNext, StaysLegal}
use Rattle.live_order.specs.Longer.{SpeaksOf, longer}
use Rattle.live_order.proofs.Longer.Known.{entries_same}
use Rattle.live_order.proofs.Runs.Speaking.{speaks}
use Rattle.pending_items.specs.Cycles.{AreBatches}
use Rattle.pending_items.specs.Ends.{AreEndsUpto}
use Rattle.pending_items.specs.Items.{KeepsRows, arrived}
use Rattle.pending_items.specs.Kept.{KeepsPending, KeptItems}
use Rattle.pending_items.proofs.CycleFacts.{batches_same}
use Rattle.pending_items.proofs.EndFacts.{ends_longer, ends_shorter}
use Rattle.pending_items.proofs.Grown.{rows_arrive, rows_stop}

pub stop_pending : (day : Day) (t : ℕ) (J : History) (v : KeptItems) → clock J < t → IsLegal (longer day [] (t ∷ [])) J → KeepsPending day J v → KeepsPending (longer day [] (t ∷ [])) J v
stop_pending day t J v later legal k =
    let same : length (day.messages ++ []) ≡ length day.messages = ap length (append-nil day.messages) in
    let speak : SpeaksOf (length day.messages) J = subst (λ n. SpeaksOf n J) same (speaks (longer day [] (t ∷ [])) J legal) in
    record {
      rows = rows_stop day t J v.rows speak k.rows;
      ends = subst (λ n. AreEndsUpto (longer day [] (t ∷ [])) n J v.ends) (sym same) (ends_longer day [] (t ∷ []) (length day.messages) J v.ends (omega arith) k.ends);
      batches = (let room = k.batches.room in batches_same day [] (t ∷ []) J v.batches speak (omega (arith, room)) k.batches);
    }

whole_is : (whole : Day) (n : ℕ) (day : Day) (m : Message) (ms : List Message) (ss : List ℕ) → ComesNext whole n day m ms ss → whole ≡ longer (longer day (m ∷ []) []) ms ss
whole_is whole n day m ms ss next = next.is ∙ (λ i. record day { messages = sym (append_assoc day.messages (m ∷ []) ms) i; stops = sym (ap (λ xs. xs ++ ss) (append-nil day.stops)) i })

pub pending_arrives : (whole : Day) (n : ℕ) (day : Day) (m : Message) (ms : List Message) (ss : List ℕ) (J : History) (old new : KeptItems) → ComesNext whole n day m ms ss → StaysLegal day m J →
    new.rows ≡ arrived (length (entries whole n) + 1) old.rows → length old.rows.slots + (length (entries whole n) + 1) < 2 ^ 32 → new.batches ≡ old.batches → length old.ends + 1 ≤ old.batches.size →
    (AreEndsUpto whole (length day.messages) J old.ends → AreEndsUpto whole n J new.ends) → KeepsPending day J old → KeepsPending (longer day (m ∷ []) []) J new
pending_arrives whole n day m ms ss J old new next legal rows few batches room ends k = record {
  rows = subst (KeepsRows later J) (sym rows) (rows_arrive day m J old.rows (length (entries whole n) + 1) speak few size k.rows);
  ends = ends_shorter later ms ss (length later.messages) J new.ends (omega arith)
      (subst (λ (d : Day). AreEndsUpto d (length later.messages) J new.ends) whole_later (subst (λ i. AreEndsUpto whole i J new.ends) (number ∙ sym count) (ends (subst (λ (d : Day). AreEndsUpto d (length day.messages) J old.ends) (sym next.is) (ends_longer day (m ∷ ms) ss (length day.messages) J old.ends (omega arith) k.ends)))));
  batches = subst (AreBatches later J) (sym batches) (let was = k.ends.size in batches_same day (m ∷ []) [] J old.batches speak (omega (arith, was, room)) k.batches);
}
  where
    later : Day
    later = longer day (m ∷ []) []

    whole_later : whole ≡ longer later ms ss
    whole_later = whole_is whole n day m ms ss next

    number : n ≡ length day.messages + 1
    number = next.number

    count : length later.messages ≡ length day.messages + 1
    count = length-append day.messages (m ∷ [])

    speak : SpeaksOf (length day.messages) J
    speak = speaks day J legal.before

    size : length (entries whole n) + 1 ≡ length (entries later (length day.messages + 1)) + 1
    size = ap (λ (d : Day). length (entries d n) + 1) whole_later ∙ (ap (λ i. length (entries (longer later ms ss) i) + 1) number ∙ ap (λ xs. length xs + 1) (entries_same later ms ss (length day.messages + 1) (omega (arith, count))))
