-- What is made where one message more comes after a day, or one stop, or its end.
use Rattle.std.proofs.Common.{◌≡◌, ◌∙◌, ◌+◌, ◌-◌, ◌≤◌, ◌++◌, ℕ, suc, Bool, true, false, List, [], ◌∷◌, cond, Option, Some, append_assoc, length, refl, sym, ap, subst, arith, take, zero-add}
use Rattle.std.specs.Prelude.{map, nat_le, slice_get, unwrap_or}
use Rattle.std.specs.List.{count_by, range_with_len}
use Rattle.std.proofs.Math.Seq.{take-append_seam, take-length}
use Rattle.std.proofs.lemmas.Bool.{and_parts, leb-true}
use Rattle.std.proofs.lemmas.List.{length-append, length-map}
use Rattle.std.proofs.lemmas.List.FromFn.{length-range_with_len, map-range_with_len_more}
use Rattle.std.proofs.lemmas.List.Sums.{sum_by-append}
use Rattle.batch_records.specs.DayRecord.{Day}
use Rattle.batch_records.specs.Sound.{is_sound, rounds_rise}
use Rattle.batch_records.specs.declared.day.Message.{Message}
use Rattle.commit_journal.specs.declared.line.Want.TheVariants as wants
use Rattle.commit_journal.specs.Line.{History}
use Rattle.machine.specs.Legal.{IsLegal}
use Rattle.machine.specs.Telling.History.{clock, is_ended}
use Rattle.machine.specs.Orders.Order.{append, quiet, to_end}
use Rattle.settlement_laws.proofs.Base.SoundParts.{sound_parts}
use Rattle.live_order.specs.LiveOrder.{Event, Arrives, Stop, Over, cut, events, events_from, is_arrival, is_stop, laps_to, live, live_journal, live_step, stop_at, stops_between}
use Rattle.live_order.proofs.Events.Causal.{live_all, live_alike, live_before}
use Rattle.live_order.proofs.Events.KeepsUp.{goes_on, live_on_time}
use Rattle.live_order.proofs.Events.LiveGrows.{live_more}

-- ---- the events but the end

abbrev came_from : ℕ → ℕ → ℕ → List Message → List Event
came_from last r n [] = stops_between r last
came_from last r n (m ∷ ms) = stops_between r m.round ++ (Arrives n ∷ came_from last m.round (n + 1) ms)

events_come : (last r n : ℕ) (ms : List Message) → events_from last r n ms ≡ came_from last r n ms ++ (Over ∷ [])
events_come last r n [] = refl
events_come last r n (m ∷ ms) =
    ap (λ (es : List Event). stops_between r m.round ++ (Arrives n ∷ es)) (events_come last m.round (n + 1) ms)
    ∙ sym (append_assoc (stops_between r m.round) (Arrives n ∷ came_from last m.round (n + 1) ms) (Over ∷ []))

none_between : (r : ℕ) → stops_between r r ≡ []
none_between r = let none : r - r ≡ 0 = omega arith in ap (λ (k : ℕ). map Stop (range_with_len (r + 1) k)) none

last_between : (r last : ℕ) → r ≤ last → stops_between r (last + 1) ≡ stops_between r last ++ (Stop (last + 1) ∷ [])
last_between r last l =
    let long : last + 1 - r ≡ last - r + 1 = omega (arith, l) in
    let end : r + 1 + (last - r) ≡ last + 1 = omega (arith, l) in
    ap (λ (k : ℕ). map Stop (range_with_len (r + 1) k)) long ∙ map-range_with_len_more Stop (r + 1) (last - r) (last + 1) end

-- a message after all of them
came_message : (last r n : ℕ) (ms : List Message) (m : Message) → m.round ≡ last → came_from last r n (ms ++ m ∷ []) ≡ came_from last r n ms ++ (Arrives (n + length ms) ∷ [])
came_message last r n [] m e =
    let first : n ≡ n + 0 = omega arith in
    (λ i. stops_between r (e i) ++ (Arrives (first i) ∷ stops_between (e i) last))
    ∙ ap (λ (es : List Event). stops_between r last ++ (Arrives (n + 0) ∷ es)) (none_between last)
came_message last r n (x ∷ ms) m e =
    let number : n + 1 + length ms ≡ n + suc (length ms) = omega arith in
    ap (λ (es : List Event). stops_between r x.round ++ (Arrives n ∷ es)) (came_message last x.round (n + 1) ms m e)
    ∙ ap (λ (k : ℕ). stops_between r x.round ++ (Arrives n ∷ (came_from last x.round (n + 1) ms ++ (Arrives k ∷ [])))) number
    ∙ sym (append_assoc (stops_between r x.round) (Arrives n ∷ came_from last x.round (n + 1) ms) (Arrives (n + suc (length ms)) ∷ []))

record Round (last r : ℕ) (m : Message) (ms : List Message) : Type 0 where
  low : r ≤ m.round
  high : m.round ≤ last
  rest : rounds_rise last m.round ms ≡ true

round_of : (last r : ℕ) (m : Message) (ms : List Message) → rounds_rise last r (m ∷ ms) ≡ true → Round last r m ms
round_of last r m ms h =
    let p = and_parts _ (rounds_rise last m.round ms) h in
    let a = and_parts (nat_le r m.round) (nat_le m.round last) p.0 in
    record { low = leb-true r m.round a.0; high = leb-true m.round last a.1; rest = p.1 }

-- a stop after all of them
came_stop : (last r n : ℕ) (ms : List Message) → r ≤ last → rounds_rise last r ms ≡ true → came_from (last + 1) r n ms ≡ came_from last r n ms ++ (Stop (last + 1) ∷ [])
came_stop last r n [] l h = last_between r last l
came_stop last r n (m ∷ ms) l h =
    let d = round_of last r m ms h in
    ap (λ (es : List Event). stops_between r m.round ++ (Arrives n ∷ es)) (came_stop last m.round (n + 1) ms d.high d.rest)
    ∙ sym (append_assoc (stops_between r m.round) (Arrives n ∷ came_from last m.round (n + 1) ms) (Stop (last + 1) ∷ []))

-- ---- how many there are

count_over : (test : Event → Bool) (xs ys : List Event) → count_by test (xs ++ ys) ≡ count_by test xs + count_by test ys
count_over test xs ys = sum_by-append (λ x. cond (test x) 1 0) xs ys

count_next : (test : Event → Bool) (e : Event) (es : List Event) → count_by test (e ∷ es) ≡ cond (test e) 1 0 + count_by test es
count_next test e es = count_over test (e ∷ []) es ∙ ap (λ (k : ℕ). k + count_by test es) (zero-add (cond (test e) 1 0))

no_arrivals : (xs : List ℕ) → count_by is_arrival (map Stop xs) ≡ 0
no_arrivals [] = refl
no_arrivals (x ∷ xs) = let next = count_next is_arrival (Stop x) (map Stop xs) in let rest = no_arrivals xs in omega (arith, next, rest)

all_stops : (xs : List ℕ) → count_by is_stop (map Stop xs) ≡ length xs
all_stops [] = refl
all_stops (x ∷ xs) = let next = count_next is_stop (Stop x) (map Stop xs) in let rest = all_stops xs in omega (arith, next, rest)

arrivals_in : (last r n : ℕ) (ms : List Message) → count_by is_arrival (came_from last r n ms) ≡ length ms
arrivals_in last r n [] = no_arrivals (range_with_len (r + 1) (last - r))
arrivals_in last r n (m ∷ ms) =
    let rest = arrivals_in last m.round (n + 1) ms in
    let stops = no_arrivals (range_with_len (r + 1) (m.round - r)) in
    let next = count_next is_arrival (Arrives n) (came_from last m.round (n + 1) ms) in
    let whole = count_over is_arrival (stops_between r m.round) (Arrives n ∷ came_from last m.round (n + 1) ms) in
    omega (arith, rest, stops, next, whole)

stops_in : (last r n : ℕ) (ms : List Message) → r ≤ last → rounds_rise last r ms ≡ true → count_by is_stop (came_from last r n ms) ≡ last - r
stops_in last r n [] l h = all_stops (range_with_len (r + 1) (last - r)) ∙ length-range_with_len (r + 1) (last - r)
stops_in last r n (m ∷ ms) l h =
    let d = round_of last r m ms h in
    let low = d.low in
    let high = d.high in
    let rest = stops_in last m.round (n + 1) ms d.high d.rest in
    let stops : count_by is_stop (stops_between r m.round) ≡ m.round - r = all_stops (range_with_len (r + 1) (m.round - r)) ∙ length-range_with_len (r + 1) (m.round - r) in
    let next = count_next is_stop (Arrives n) (came_from last m.round (n + 1) ms) in
    let whole = count_over is_stop (stops_between r m.round) (Arrives n ∷ came_from last m.round (n + 1) ms) in
    omega (arith, rest, stops, next, whole, low, high)

length_in : (last r n : ℕ) (ms : List Message) → r ≤ last → rounds_rise last r ms ≡ true → length (came_from last r n ms) ≡ length ms + (last - r)
length_in last r n [] l h = length-map (range_with_len (r + 1) (last - r)) Stop ∙ length-range_with_len (r + 1) (last - r) ∙ sym (zero-add (last - r))
length_in last r n (m ∷ ms) l h =
    let d = round_of last r m ms h in
    let low = d.low in
    let high = d.high in
    let rest = length_in last m.round (n + 1) ms d.high d.rest in
    let stops : length (stops_between r m.round) ≡ m.round - r = length-map (range_with_len (r + 1) (m.round - r)) Stop ∙ length-range_with_len (r + 1) (m.round - r) in
    let whole = length-append (stops_between r m.round) (Arrives n ∷ came_from last m.round (n + 1) ms) in
    omega (arith, rest, stops, whole, low, high)

-- ---- of a day

abbrev came : Day → List Event
came day = came_from (length day.stops) 0 1 day.messages

abbrev pub event_count : Day → ℕ
event_count day = length day.messages + length day.stops

events_are : (day : Day) → events day ≡ came day ++ (Over ∷ [])
unfolding events
events_are day = events_come (length day.stops) 0 1 day.messages

came_length : (day : Day) → is_sound day ≡ true → length (came day) ≡ event_count day
came_length day sound = let all = length_in (length day.stops) 0 1 day.messages (omega arith) (sound_parts day sound).rounds in omega (arith, all)

came_arrivals : (day : Day) → count_by is_arrival (came day) ≡ length day.messages
came_arrivals day = arrivals_in (length day.stops) 0 1 day.messages

came_stops : (day : Day) → is_sound day ≡ true → count_by is_stop (came day) ≡ length day.stops
came_stops day sound = let all = stops_in (length day.stops) 0 1 day.messages (omega arith) (sound_parts day sound).rounds in omega (arith, all)

-- the first of the events are those of a day, and the other day begins with its messages and stops
cut_is : (day whole : Day) (k : ℕ) (more : List Event) → is_sound day ≡ true → events whole ≡ came day ++ more → k ≡ event_count day
    → take (length day.messages) whole.messages ≡ day.messages → take (length day.stops) whole.stops ≡ day.stops → whole ≡ record day { messages = whole.messages; stops = whole.stops } → cut whole k ≡ day
unfolding cut
cut_is day whole k more sound all number messages stops same =
    let first : take k (events whole) ≡ came day = (λ i. take ((number ∙ sym (came_length day sound)) i) (all i)) ∙ take-append_seam (came day) more in
    let arrived : count_by is_arrival (take k (events whole)) ≡ length day.messages = ap (count_by is_arrival) first ∙ came_arrivals day in
    let stopped : count_by is_stop (take k (events whole)) ≡ length day.stops = ap (count_by is_stop) first ∙ came_stops day sound in
    (λ i. record (same i) { messages = take (arrived i) whole.messages; stops = take (stopped i) whole.stops })
    ∙ (λ i. record day { messages = messages i; stops = stops i })

cut_now : (day : Day) → is_sound day ≡ true → cut day (event_count day) ≡ day
cut_now day sound = cut_is day day (event_count day) (Over ∷ []) sound (events_are day) refl (take-length day.messages) (take-length day.stops) refl

at_seam : (es fs : List Event) (e : Event) → slice_get (es ++ (e ∷ fs)) (length es) ≡ Some e
at_seam [] fs e = refl
at_seam (x ∷ es) fs e = at_seam es fs e

-- what was made before is made with the longer day too, and is legal with it
record Grows (day whole : Day) (e : Event) : Type 0 where
  there : slice_get (events whole) (event_count day) ≡ Some e
  before : cut whole (event_count day) ≡ day
  after : cut whole (suc (event_count day)) ≡ whole

same_lines : (day whole : Day) (e : Event) → is_sound day ≡ true → is_sound whole ≡ true → Grows day whole e → live whole (event_count day) [] ≡ live day (event_count day) []
same_lines day whole e sound all g = live_alike whole day all sound (event_count day) (g.before ∙ sym (cut_now day sound))

still_legal : (day whole : Day) (e : Event) → is_sound day ≡ true → is_sound whole ≡ true → Grows day whole e → IsLegal whole (live day (event_count day) [])
still_legal day whole e sound all g =
    subst (IsLegal whole) (same_lines day whole e sound all g) (subst (λ (d : Day). IsLegal d (live whole (event_count day) [])) g.after (live_before whole all (event_count day) e g.there))

-- ---- one message more

abbrev pub with_message : Day → Message → Day
with_message day m = record day { messages = day.messages ++ m ∷ [] }

message_grows : (day : Day) (m : Message) → is_sound day ≡ true → is_sound (with_message day m) ≡ true → m.round ≡ length day.stops → Grows day (with_message day m) (Arrives (suc (length day.messages)))
message_grows day m sound all round =
    let whole = with_message day m in
    let one : 1 + length day.messages ≡ suc (length day.messages) = omega arith in
    let longer : came whole ≡ came day ++ (Arrives (suc (length day.messages)) ∷ []) =
    came_message (length day.stops) 0 1 day.messages m round ∙ ap (λ (n : ℕ). came day ++ (Arrives n ∷ [])) one in
    let whole_events : events whole ≡ came day ++ (Arrives (suc (length day.messages)) ∷ (Over ∷ [])) =
    events_are whole ∙ ap (λ (es : List Event). es ++ (Over ∷ [])) longer ∙ append_assoc (came day) (Arrives (suc (length day.messages)) ∷ []) (Over ∷ []) in
    let count : event_count whole ≡ suc (event_count day) = let long = length-append day.messages (m ∷ []) in omega (arith, long) in
    record {
      there =
          ap (λ (es : List Event). slice_get es (event_count day)) whole_events
          ∙ ap (slice_get (came day ++ (Arrives (suc (length day.messages)) ∷ (Over ∷ [])))) (sym (came_length day sound))
          ∙ at_seam (came day) (Over ∷ []) (Arrives (suc (length day.messages)));
      before = cut_is day whole (event_count day) (Arrives (suc (length day.messages)) ∷ (Over ∷ [])) sound whole_events refl (take-append_seam day.messages (m ∷ [])) (take-length day.stops) refl;
      after = ap (cut whole) (sym count) ∙ cut_now whole all;
    }

pub message_lines : (day : Day) (m : Message) → is_sound day ≡ true → is_sound (with_message day m) ≡ true → m.round ≡ length day.stops
    → live (with_message day m) (suc (event_count day)) [] ≡ quiet (with_message day m) (append (with_message day m) (live day (event_count day) []) (wants.In (suc (length day.messages))))
message_lines day m sound all round =
    let g = message_grows day m sound all round in
    live_more (with_message day m) (event_count day) (Arrives (suc (length day.messages))) g.there
    ∙ ap (λ (J : History). live_step (with_message day m) J (Arrives (suc (length day.messages)))) (same_lines day (with_message day m) (Arrives (suc (length day.messages))) sound all g)

pub message_legal : (day : Day) (m : Message) → is_sound day ≡ true → is_sound (with_message day m) ≡ true → m.round ≡ length day.stops → IsLegal (with_message day m) (live day (event_count day) [])
message_legal day m sound all round = still_legal day (with_message day m) (Arrives (suc (length day.messages))) sound all (message_grows day m sound all round)

-- ---- one stop more

abbrev pub with_one_stop : Day → ℕ → Day
with_one_stop day t = record day { stops = day.stops ++ t ∷ [] }

stop_grows : (day : Day) (t : ℕ) → is_sound day ≡ true → is_sound (with_one_stop day t) ≡ true → Grows day (with_one_stop day t) (Stop (suc (length day.stops)))
stop_grows day t sound all =
    let whole = with_one_stop day t in
    let long : length whole.stops ≡ length day.stops + 1 = length-append day.stops (t ∷ []) in
    let one : length day.stops + 1 ≡ suc (length day.stops) = omega arith in
    let longer : came whole ≡ came day ++ (Stop (suc (length day.stops)) ∷ []) =
    ap (λ (n : ℕ). came_from n 0 1 day.messages) long ∙ came_stop (length day.stops) 0 1 day.messages (omega arith) (sound_parts day sound).rounds
    ∙ ap (λ (n : ℕ). came day ++ (Stop n ∷ [])) one in
    let whole_events : events whole ≡ came day ++ (Stop (suc (length day.stops)) ∷ (Over ∷ [])) =
    events_are whole ∙ ap (λ (es : List Event). es ++ (Over ∷ [])) longer ∙ append_assoc (came day) (Stop (suc (length day.stops)) ∷ []) (Over ∷ []) in
    let count : event_count whole ≡ suc (event_count day) = omega (arith, long) in
    record {
      there =
          ap (λ (es : List Event). slice_get es (event_count day)) whole_events
          ∙ ap (slice_get (came day ++ (Stop (suc (length day.stops)) ∷ (Over ∷ [])))) (sym (came_length day sound))
          ∙ at_seam (came day) (Over ∷ []) (Stop (suc (length day.stops)));
      before = cut_is day whole (event_count day) (Stop (suc (length day.stops)) ∷ (Over ∷ [])) sound whole_events refl (take-length day.messages) (take-append_seam day.stops (t ∷ [])) refl;
      after = ap (cut whole) (sym count) ∙ cut_now whole all;
    }

last_stop : (ss : List ℕ) (t : ℕ) → slice_get (ss ++ (t ∷ [])) (length ss) ≡ Some t
last_stop [] t = refl
last_stop (s ∷ ss) t = last_stop ss t

pub stop_lines : (day : Day) (t : ℕ) → is_sound day ≡ true → is_sound (with_one_stop day t) ≡ true
    → live (with_one_stop day t) (suc (event_count day)) [] ≡ quiet (with_one_stop day t) (laps_to (with_one_stop day t) t (live day (event_count day) []))
stop_lines day t sound all =
    let whole = with_one_stop day t in
    let g = stop_grows day t sound all in
    let time : stop_at whole (suc (length day.stops)) ≡ t = ap (λ (o : Option ℕ). unwrap_or o 0) (last_stop day.stops t) in
    live_more whole (event_count day) (Stop (suc (length day.stops))) g.there
    ∙ (λ i. quiet whole (laps_to whole (time i) (same_lines day whole (Stop (suc (length day.stops))) sound all g i)))

pub stop_legal : (day : Day) (t : ℕ) → is_sound day ≡ true → is_sound (with_one_stop day t) ≡ true → IsLegal (with_one_stop day t) (live day (event_count day) [])
stop_legal day t sound all = still_legal day (with_one_stop day t) (Stop (suc (length day.stops))) sound all (stop_grows day t sound all)

-- ---- the clock

goes_on-append : (xs ys : List Event) → goes_on xs ≡ true → goes_on ys ≡ true → goes_on (xs ++ ys) ≡ true
goes_on-append [] ys x y = y
goes_on-append (Arrives n ∷ xs) ys x y = goes_on-append xs ys x y
goes_on-append (Stop r ∷ xs) ys x y = goes_on-append xs ys x y
goes_on-append (Over ∷ xs) ys x y = cc x

goes_on-stops : (xs : List ℕ) → goes_on (map Stop xs) ≡ true
goes_on-stops [] = refl
goes_on-stops (x ∷ xs) = goes_on-stops xs

goes_on-came : (last r n : ℕ) (ms : List Message) → goes_on (came_from last r n ms) ≡ true
goes_on-came last r n [] = goes_on-stops (range_with_len (r + 1) (last - r))
goes_on-came last r n (m ∷ ms) = goes_on-append (stops_between r m.round) (Arrives n ∷ came_from last m.round (n + 1) ms) (goes_on-stops (range_with_len (r + 1) (m.round - r))) (goes_on-came last m.round (n + 1) ms)

-- it stands at the last stop, and the day isn't ended
pub clock_now : (day : Day) → is_sound day ≡ true → (clock (live day (event_count day) []) ≡ stop_at day (length day.stops)) × (is_ended (live day (event_count day) []) ≡ false)
clock_now day sound =
    let all : take (event_count day) (events day) ≡ came day = (λ i. take (sym (came_length day sound) i) (events_are day i)) ∙ take-append_seam (came day) (Over ∷ []) in
    let now = live_on_time day sound (event_count day) (ap goes_on all ∙ goes_on-came (length day.stops) 0 1 day.messages) in
    (now.0 ∙ ap (stop_at day) (ap (count_by is_stop) all ∙ came_stops day sound), now.1)

-- ---- the end

pub end_lines : (day : Day) → is_sound day ≡ true → live day (suc (event_count day)) [] ≡ to_end day (live day (event_count day) [])
end_lines day sound =
    let there : slice_get (events day) (event_count day) ≡ Some Over =
    ap (λ (es : List Event). slice_get es (event_count day)) (events_are day) ∙ ap (slice_get (came day ++ (Over ∷ []))) (sym (came_length day sound)) ∙ at_seam (came day) [] Over in
    live_more day (event_count day) Over there

-- ---- what was made before

pub message_before : (day : Day) (m : Message) → is_sound day ≡ true → is_sound (with_message day m) ≡ true → m.round ≡ length day.stops → live (with_message day m) (event_count day) [] ≡ live day (event_count day) []
message_before day m sound all round = same_lines day (with_message day m) (Arrives (suc (length day.messages))) sound all (message_grows day m sound all round)

pub stop_before : (day : Day) (t : ℕ) → is_sound day ≡ true → is_sound (with_one_stop day t) ≡ true → live (with_one_stop day t) (event_count day) [] ≡ live day (event_count day) []
stop_before day t sound all = same_lines day (with_one_stop day t) (Stop (suc (length day.stops))) sound all (stop_grows day t sound all)

-- with the end all is made
pub journal_is : (day : Day) → is_sound day ≡ true → live day (suc (event_count day)) [] ≡ live_journal day
journal_is day sound =
    let long : length (events day) ≡ suc (event_count day) =
    (let parts : length (events day) ≡ length (came day) + 1 = ap length (events_are day) ∙ length-append (came day) (Over ∷ []) in let own = came_length day sound in omega (arith, parts, own)) in
    ap (λ (n : ℕ). live day n []) (sym long) ∙ live_all day
