-- The events of a live day, by what its records call for.
use Rattle.std.specs.Prelude.{ℕ, ◌+◌, ◌≡◌, suc, List, [], ◌∷◌, length, map}
use Rattle.batch_records.specs.declared.day.Message.{Message}
use Rattle.live_order.specs.LiveOrder.{Event, Arrives, Stop}
use Rattle.live_records.specs.Heard.{Call, Takes, Stops, Refuses, Breaks, Heard, day_of}
use Rattle.live_records.specs.Rounds.{rounds_called, stops_called}

-- after so many stops, from message n on
abbrev pub events_called : ℕ → ℕ → List Call → List Event
events_called r n [] = []
events_called r n (Takes ∷ calls) = Arrives n ∷ events_called r (n + 1) calls
events_called r n (Stops ∷ calls) = Stop (r + 1) ∷ events_called (r + 1) n calls
events_called r n (Refuses number code ∷ calls) = events_called r n calls
events_called r n (Breaks number code ∷ calls) = events_called r n calls

-- how many there are
abbrev pub events_in : List Call → ℕ
events_in [] = 0
events_in (Takes ∷ calls) = suc (events_in calls)
events_in (Stops ∷ calls) = suc (events_in calls)
events_in (Refuses n c ∷ calls) = events_in calls
events_in (Breaks n c ∷ calls) = events_in calls

-- what was called for is what the day has
pub record AreOfDay (h : Heard) : Type 0 where
  pub rounds : rounds_called 0 h.calls ≡ map (λ (m : Message). m.round) (day_of h).messages
  pub stops : stops_called h.calls ≡ length (day_of h).stops
