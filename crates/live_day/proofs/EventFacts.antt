-- What records call for are the events of their day.
use Rattle.std.proofs.Common.{◌≡◌, ◌∙◌, ◌+◌, ◌-◌, ◌≤◌, ◌++◌, ℕ, suc, List, [], ◌∷◌, length, refl, sym, ap, arith, zero-add, add-zero}
use Rattle.std.specs.Prelude.{map}
use Rattle.std.specs.List.{range_with_len}
use Rattle.batch_records.specs.Records.{Fields}
use Rattle.batch_records.specs.declared.day.Message.{Message}
use Rattle.live_order.specs.LiveOrder.{Event, Arrives, Stop, Over, events, events_from, stops_between}
use Rattle.live_records.specs.Heard.{Call, Takes, Stops, Refuses, Breaks, Heard, day_of, heard}
use Rattle.live_records.specs.Rounds.{rounds_called, stops_called}
use Rattle.live_records.proofs.CallFacts.{rounds_fit, stops_fit}
use Rattle.live_day.specs.Events.{AreOfDay, events_called}

-- ---- stops between two rounds

none_between : (r : ℕ) → stops_between r r ≡ []
none_between r = let none : r - r ≡ 0 = omega (arith) in ap (λ k. map Stop (range_with_len (r + 1) k)) none

first_between : (r k : ℕ) → r + 1 ≤ k → stops_between r k ≡ Stop (r + 1) ∷ stops_between (r + 1) k
first_between r k l =
    let long : k - r ≡ suc (k - (r + 1)) = omega (arith, l) in
    ap (λ n. map Stop (range_with_len (r + 1) n)) long ∙ next (r + 1) (k - (r + 1))
  where
    next : (s n : ℕ) → map Stop (range_with_len s (suc n)) ≡ Stop s ∷ map Stop (range_with_len (s + 1) n)
    next s n = refl

-- ---- rounds

-- no message is taken after fewer stops than were reached before
first_round : (before : ℕ) (calls : List Call) (x : ℕ) (xs : List ℕ) → rounds_called before calls ≡ x ∷ xs → before ≤ x
first_round before [] x xs e = cc e
first_round before (Takes ∷ calls) x xs e = let same : before ≡ x = cc e in omega (arith, same)
first_round before (Stops ∷ calls) x xs e = let more = first_round (before + 1) calls x xs e in omega (arith, more)
first_round before (Refuses n c ∷ calls) x xs e = first_round before calls x xs e
first_round before (Breaks n c ∷ calls) x xs e = first_round before calls x xs e

-- a stop that comes before all of these messages
stop_first : (last r n : ℕ) (ms : List Message) (calls : List Call) → map (λ (m : Message). m.round) ms ≡ rounds_called (r + 1) calls → last ≡ r + 1 + stops_called calls
    → events_from last r n ms ≡ Stop (r + 1) ∷ events_from last (r + 1) n ms
stop_first last r n [] calls e l = ap (λ (es : List Event). es ++ (Over ∷ [])) (first_between r last (omega (arith, l)))
stop_first last r n (m ∷ ms) calls e l =
    ap (λ (es : List Event). es ++ (Arrives n ∷ events_from last m.round (n + 1) ms)) (first_between r m.round (first_round (r + 1) calls m.round (map (λ (x : Message). x.round) ms) (sym e)))

events_are : (last r n : ℕ) (ms : List Message) (calls : List Call) → map (λ (m : Message). m.round) ms ≡ rounds_called r calls → last ≡ r + stops_called calls
    → events_from last r n ms ≡ events_called r n calls ++ (Over ∷ [])
events_are last r n [] [] e l = let same : last ≡ r = l ∙ add-zero r in ap (λ k. stops_between r k ++ (Over ∷ [])) same ∙ ap (λ (es : List Event). es ++ (Over ∷ [])) (none_between r)
events_are last r n (m ∷ ms) [] e l = cc e
events_are last r n [] (Takes ∷ calls) e l = cc e
events_are last r n (m ∷ ms) (Takes ∷ calls) e l =
    let round : m.round ≡ r = cc e in
    let rest : map (λ (x : Message). x.round) ms ≡ rounds_called r calls = cc e in
    ap (λ k. stops_between r k ++ (Arrives n ∷ events_from last k (n + 1) ms)) round
    ∙ ap (λ (es : List Event). es ++ (Arrives n ∷ events_from last r (n + 1) ms)) (none_between r)
    ∙ ap (λ (es : List Event). Arrives n ∷ es) (events_are last r (n + 1) ms calls rest l)
events_are last r n ms (Stops ∷ calls) e l =
    let more : last ≡ r + 1 + stops_called calls = omega (arith, l) in
    stop_first last r n ms calls e more ∙ ap (λ (es : List Event). Stop (r + 1) ∷ es) (events_are last (r + 1) n ms calls e more)
events_are last r n ms (Refuses k c ∷ calls) e l = events_are last r n ms calls e l
events_are last r n ms (Breaks k c ∷ calls) e l = events_are last r n ms calls e l

pub events_of : (h : Heard) → AreOfDay h → events (day_of h) ≡ events_called 0 1 h.calls ++ (Over ∷ [])
unfolding events
events_of h of = events_are (length (day_of h).stops) 0 1 (day_of h).messages h.calls (sym of.rounds) (sym of.stops ∙ sym (zero-add (stops_called h.calls)))

pub of_records : (records : List Fields) → AreOfDay (heard records)
of_records records = record { rounds = rounds_fit records; stops = stops_fit records }

pub calls_are : (records : List Fields) → events (day_of (heard records)) ≡ events_called 0 1 (heard records).calls ++ (Over ∷ [])
calls_are records = events_of (heard records) (of_records records)
