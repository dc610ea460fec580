-- What is told of a front of the records begins what is told of all of them.
use Rattle.std.proofs.Common.{◌≡◌, ◌∙◌, ◌+◌, ◌≤◌, ◌++◌, ℕ, suc, Bool, true, List, [], ◌∷◌, cond, append_assoc, drop, length, refl, sym, ap, arith, take, zero-add}
use Rattle.std.specs.List.{count_by}
use Rattle.std.proofs.lemmas.List.{length-append, length-map, take-append-drop, take-append-le}
use Rattle.std.proofs.lemmas.List.Sums.{sum_by-append}
use Rattle.batch_records.specs.Records.{Fields}
use Rattle.batch_records.specs.Sound.{is_sound}
use Rattle.batch_records.specs.DayRecord.{Day}
use Rattle.batch_records.specs.declared.day.Message.{Message}
use Rattle.commit_journal.specs.Line.{History}
use Rattle.live_records.specs.Heard.{Call, Takes, Stops, Refuses, Breaks, Heard, day_of, heard}
use Rattle.live_records.specs.Rounds.{rounds_called, stops_called}
use Rattle.live_records.proofs.AcceptedFacts.{accepted_sound, begun_started}
use Rattle.live_records.proofs.Continuing.{records_continue}
use Rattle.live_order.specs.LiveOrder.{Event, Arrives, Stop, Over, cut, events, is_arrival, is_stop, live}
use Rattle.live_order.specs.Longer.{SpeaksOf}
use Rattle.live_order.proofs.Events.Causal.{live_alike}
use Rattle.live_order.proofs.Events.KeepsUp.{live_speaks}
use Rattle.live_day.specs.Events.{AreOfDay, events_called, events_in}
use Rattle.live_day.specs.Told.{refused_text, told_behind, told_calls, told_event}
use Rattle.program_answers.specs.Answers.{refusal_text}
use Rattle.live_day.proofs.DayGrows.{Further, day_further}
use Rattle.live_day.proofs.EventFacts.{events_of, of_records}
use Rattle.live_day.proofs.ToldFacts.{behind_same}

-- ---- how many events calls have

pub events_length : (r n : ℕ) (calls : List Call) → length (events_called r n calls) ≡ events_in calls
events_length r n [] = refl
events_length r n (Takes ∷ calls) = ap suc (events_length r (n + 1) calls)
events_length r n (Stops ∷ calls) = ap suc (events_length (r + 1) n calls)
events_length r n (Refuses k c ∷ calls) = events_length r n calls
events_length r n (Breaks k c ∷ calls) = events_length r n calls

-- calls with more after them: their events stand in front
events_front : (r n : ℕ) (xs ys : List Call) → (more : List Event) × (events_called r n (xs ++ ys) ≡ events_called r n xs ++ more)
events_front r n [] ys = (events_called r n ys, refl)
events_front r n (Takes ∷ xs) ys = let f = events_front r (n + 1) xs ys in (f.0, ap (λ (es : List Event). Arrives n ∷ es) f.1)
events_front r n (Stops ∷ xs) ys = let f = events_front (r + 1) n xs ys in (f.0, ap (λ (es : List Event). Stop (r + 1) ∷ es) f.1)
events_front r n (Refuses k c ∷ xs) ys = events_front r n xs ys
events_front r n (Breaks k c ∷ xs) ys = events_front r n xs ys

count_next : (p : Event → Bool) (e : Event) (es : List Event) → count_by p (e ∷ es) ≡ cond (p e) 1 0 + count_by p es
count_next p e es = sum_by-append (λ x. cond (p x) 1 0) (e ∷ []) es ∙ ap (λ k. k + count_by p es) (zero-add (cond (p e) 1 0))

rounds_length : (r q : ℕ) (calls : List Call) → length (rounds_called r calls) ≡ length (rounds_called q calls)
rounds_length r q [] = refl
rounds_length r q (Takes ∷ calls) = ap suc (rounds_length r q calls)
rounds_length r q (Stops ∷ calls) = rounds_length (r + 1) (q + 1) calls
rounds_length r q (Refuses k c ∷ calls) = rounds_length r q calls
rounds_length r q (Breaks k c ∷ calls) = rounds_length r q calls

arrivals : (r n : ℕ) (calls : List Call) → count_by is_arrival (events_called r n calls) ≡ length (rounds_called r calls)
arrivals r n [] = refl
arrivals r n (Takes ∷ calls) = let more = arrivals r (n + 1) calls in let next = count_next is_arrival (Arrives n) (events_called r (n + 1) calls) in omega (arith, more, next)
arrivals r n (Stops ∷ calls) = let more = arrivals (r + 1) n calls in let next = count_next is_arrival (Stop (r + 1)) (events_called (r + 1) n calls) in omega (arith, more, next)
arrivals r n (Refuses k c ∷ calls) = arrivals r n calls
arrivals r n (Breaks k c ∷ calls) = arrivals r n calls

stops_there : (r n : ℕ) (calls : List Call) → count_by is_stop (events_called r n calls) ≡ stops_called calls
stops_there r n [] = refl
stops_there r n (Takes ∷ calls) = let more = stops_there r (n + 1) calls in let next = count_next is_stop (Arrives n) (events_called r (n + 1) calls) in omega (arith, more, next)
stops_there r n (Stops ∷ calls) = let more = stops_there (r + 1) n calls in let next = count_next is_stop (Stop (r + 1)) (events_called (r + 1) n calls) in omega (arith, more, next)
stops_there r n (Refuses k c ∷ calls) = stops_there r n calls
stops_there r n (Breaks k c ∷ calls) = stops_there r n calls

few_of : (p : Event → Bool) (k : ℕ) (es : List Event) → count_by p (take k es) ≤ count_by p es
few_of p k es =
    let whole : count_by p es ≡ count_by p (take k es) + count_by p (drop k es) = ap (count_by p) (sym (take-append-drop k es)) ∙ sum_by-append (λ x. cond (p x) 1 0) (take k es) (drop k es) in
    omega (arith, whole)

-- ---- a day and a longer one, on the events of the first

-- the first events of both are these, of which the first day has all messages and stops
record Shares (day : Day) (whole : Day) (es : List Event) : Type 0 where
  further : Further day whole
  own : (k : ℕ) → k ≤ length es → take k (events day) ≡ take k es
  whole_own : (k : ℕ) → k ≤ length es → take k (events whole) ≡ take k es
  messages : count_by is_arrival es ≤ length day.messages
  stops : count_by is_stop es ≤ length day.stops

cut_same : (day whole : Day) (es : List Event) → Shares day whole es → (k : ℕ) → k ≤ length es → cut whole k ≡ cut day k
unfolding cut
cut_same day whole es s k l =
    let arrive : count_by is_arrival (take k es) ≤ length day.messages = let few = few_of is_arrival k es in let all = s.messages in omega (arith, few, all) in
    let stop : count_by is_stop (take k es) ≤ length day.stops = let few = few_of is_stop k es in let all = s.stops in omega (arith, few, all) in
    (λ i. record whole { messages = take (count_by is_arrival (s.whole_own k l i)) whole.messages; stops = take (count_by is_stop (s.whole_own k l i)) whole.stops })
    ∙ ap (λ (d : Day). record d { messages = take (count_by is_arrival (take k es)) d.messages; stops = take (count_by is_stop (take k es)) d.stops }) s.further.is
    ∙ (λ i. record day { messages = take-append-le (count_by is_arrival (take k es)) day.messages s.further.messages arrive i; stops = take-append-le (count_by is_stop (take k es)) day.stops s.further.stops stop i })
    ∙ sym (λ i. record day { messages = take (count_by is_arrival (s.own k l i)) day.messages; stops = take (count_by is_stop (s.own k l i)) day.stops })

speaks_further : (k n : ℕ) (J : History) → k ≤ n → SpeaksOf k J → SpeaksOf n J
speaks_further k n [] l s = tt
speaks_further k n (h ∷ J) l s = (speaks_further k n J l s.0, let here = s.1 in omega (arith, here, l))

few_cut : (day : Day) (k : ℕ) → length (cut day k).messages ≤ length day.messages
unfolding cut
few_cut day k = let whole = ap length (take-append-drop (count_by is_arrival (take k (events day))) day.messages) in let both = length-append (take (count_by is_arrival (take k (events day))) day.messages) (drop (count_by is_arrival (take k (events day))) day.messages) in
    omega (arith, whole, both)

event_same : (day whole : Day) (es : List Event) → Shares day whole es → is_sound day ≡ true → is_sound whole ≡ true → (k : ℕ) → suc k ≤ length es → told_event whole k ≡ told_event day k
event_same day whole es s sound all k l =
    let before : live whole k [] ≡ live day k [] = live_alike whole day all sound k (cut_same day whole es s k (omega (arith, l))) in
    let after : live whole (suc k) [] ≡ live day (suc k) [] = live_alike whole day all sound (suc k) (cut_same day whole es s (suc k) l) in
    let spoken : SpeaksOf (length day.messages) (live day (suc k) []) = speaks_further (length (cut day (suc k)).messages) (length day.messages) (live day (suc k) []) (few_cut day (suc k)) (live_speaks day sound (suc k)) in
    (λ i. told_behind whole (length (before i)) (after i))
    ∙ ap (λ (d : Day). told_behind d (length (live day k [])) (live day (suc k) [])) s.further.is
    ∙ behind_same day s.further.messages s.further.stops (length (live day k [])) (live day (suc k) []) spoken

-- ---- what calls are told as

pub calls_same : (day whole : Day) (n k : ℕ) (calls : List Call) → ((i : ℕ) → suc i ≤ n → told_event whole i ≡ told_event day i) → k + events_in calls ≤ n → told_calls whole k calls ≡ told_calls day k calls
unfolding told_calls
calls_same day whole n k [] same l = refl
calls_same day whole n k (Takes ∷ calls) same l = λ i. same k (omega (arith, l)) i ++ calls_same day whole n (k + 1) calls same (omega (arith, l)) i
calls_same day whole n k (Stops ∷ calls) same l = λ i. same k (omega (arith, l)) i ++ calls_same day whole n (k + 1) calls same (omega (arith, l)) i
calls_same day whole n k (Refuses m c ∷ calls) same l = λ i. refused_text m c ++ calls_same day whole n k calls same l i
calls_same day whole n k (Breaks m c ∷ calls) same l = λ i. refusal_text m c ++ calls_same day whole n k calls same l i

pub calls_split : (day : Day) (k : ℕ) (xs ys : List Call) → (more : List ℕ) × (told_calls day k (xs ++ ys) ≡ told_calls day k xs ++ more)
unfolding told_calls
calls_split day k [] ys = (told_calls day k ys, refl)
calls_split day k (Takes ∷ xs) ys = let f = calls_split day (k + 1) xs ys in (f.0, ap (λ l. told_event day k ++ l) f.1 ∙ sym (append_assoc (told_event day k) (told_calls day (k + 1) xs) f.0))
calls_split day k (Stops ∷ xs) ys = let f = calls_split day (k + 1) xs ys in (f.0, ap (λ l. told_event day k ++ l) f.1 ∙ sym (append_assoc (told_event day k) (told_calls day (k + 1) xs) f.0))
calls_split day k (Refuses m c ∷ xs) ys = let f = calls_split day k xs ys in (f.0, ap (λ l. refused_text m c ++ l) f.1 ∙ sym (append_assoc (refused_text m c) (told_calls day k xs) f.0))
calls_split day k (Breaks m c ∷ xs) ys = let f = calls_split day k xs ys in (f.0, ap (λ l. refusal_text m c ++ l) f.1 ∙ sym (append_assoc (refusal_text m c) (told_calls day k xs) f.0))

-- ---- what was heard, and more

shares : (h now : Heard) (more : List Call) → Further (day_of h) (day_of now) → AreOfDay h → AreOfDay now → now.calls ≡ h.calls ++ more → Shares (day_of h) (day_of now) (events_called 0 1 h.calls)
shares h now more further of of_now on =
    let split = events_front 0 1 h.calls more in
    let all : events (day_of now) ≡ events_called 0 1 h.calls ++ (split.0 ++ (Over ∷ [])) =
    events_of now of_now ∙ ap (λ (calls : List Call). events_called 0 1 calls ++ (Over ∷ [])) on ∙ ap (λ (es : List Event). es ++ (Over ∷ [])) split.1 ∙ append_assoc (events_called 0 1 h.calls) split.0 (Over ∷ []) in
    let arrive = arrivals 0 1 h.calls in
    let rounds : length (rounds_called 0 h.calls) ≡ length (day_of h).messages = ap length of.rounds ∙ length-map (day_of h).messages (λ (m : Message). m.round) in
    let stop = stops_there 0 1 h.calls in
    let stops = of.stops in
    record {
      further = further;
      own = λ k l. ap (take k) (events_of h of) ∙ take-append-le k (events_called 0 1 h.calls) (Over ∷ []) l;
      whole_own = λ k l. ap (take k) all ∙ take-append-le k (events_called 0 1 h.calls) (split.0 ++ (Over ∷ [])) l;
      messages = omega (arith, arrive, rounds);
      stops = omega (arith, stop, stops);
    }

-- its events are told the same
pub events_same : (h now : Heard) (more : List Call) → Further (day_of h) (day_of now) → AreOfDay h → AreOfDay now → now.calls ≡ h.calls ++ more → is_sound (day_of h) ≡ true → is_sound (day_of now) ≡ true
    → (i : ℕ) → suc i ≤ events_in h.calls → told_event (day_of now) i ≡ told_event (day_of h) i
events_same h now more further of of_now on sound all i l =
    let long = events_length 0 1 h.calls in
    event_same (day_of h) (day_of now) (events_called 0 1 h.calls) (shares h now more further of of_now on) sound all i (omega (arith, long, l))

-- ---- records

-- from where the day has begun, what was called for is told the same
pub told_same : (records more : List Fields) → (heard records).begun ≡ true → told_calls (day_of (heard (records ++ more))) 0 (heard records).calls ≡ told_calls (day_of (heard records)) 0 (heard records).calls
told_same records more begun =
    let sound : is_sound (day_of (heard records)) ≡ true = accepted_sound records (begun_started records begun) in
    let all : is_sound (day_of (heard (records ++ more))) ≡ true = accepted_sound (records ++ more) (begun_started (records ++ more) ((records_continue records more).begun begun)) in
    let on = (records_continue records more).calls in
    calls_same (day_of (heard records)) (day_of (heard (records ++ more))) (events_in (heard records).calls) 0 (heard records).calls
    (events_same (heard records) (heard (records ++ more)) on.0 (day_further records more begun) (of_records records) (of_records (records ++ more)) on.1 sound all)
    (omega arith)

pub told_further : (records more : List Fields) → (heard records).begun ≡ true
    → (rest : List ℕ) × (told_calls (day_of (heard (records ++ more))) 0 (heard (records ++ more)).calls ≡ told_calls (day_of (heard records)) 0 (heard records).calls ++ rest)
told_further records more begun =
    let on = (records_continue records more).calls in
    let split = calls_split (day_of (heard (records ++ more))) 0 (heard records).calls on.0 in
    (split.0, ap (told_calls (day_of (heard (records ++ more))) 0) on.1 ∙ split.1 ∙ ap (λ l. l ++ split.0) (told_same records more begun))
