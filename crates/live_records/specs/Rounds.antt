-- The messages that calls take and the stops that they reach.
use Rattle.std.specs.Prelude.{ℕ, ◌+◌, suc, List, [], ◌∷◌}
use Rattle.live_records.specs.Heard.{Call, Takes, Stops, Refuses, Breaks}

-- how many stops
abbrev pub stops_called : List Call → ℕ
stops_called [] = 0
stops_called (Takes ∷ calls) = stops_called calls
stops_called (Stops ∷ calls) = suc (stops_called calls)
stops_called (Refuses n c ∷ calls) = stops_called calls
stops_called (Breaks n c ∷ calls) = stops_called calls

-- of each message that is taken, how many stops were reached before it, where so many were before the first
abbrev pub rounds_called : ℕ → List Call → List ℕ
rounds_called before [] = []
rounds_called before (Takes ∷ calls) = before ∷ rounds_called before calls
rounds_called before (Stops ∷ calls) = rounds_called (before + 1) calls
rounds_called before (Refuses n c ∷ calls) = rounds_called before calls
rounds_called before (Breaks n c ∷ calls) = rounds_called before calls
