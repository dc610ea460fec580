-- What is told, part by part.
use Rattle.std.proofs.Common.{◌≡◌, ◌∙◌, ◌+◌, ◌≤◌, ◌++◌, ℕ, zero, suc, Bool, true, false, not, List, [], ◌∷◌, append_assoc, append-nil, length, length-append, map, refl, sym, ap, subst, arith}
use Rattle.std.specs.Prelude.{◌&&◌, filter_map, if◌then◌else◌, nat_le}
use Rattle.std.specs.List.{flat_map}
use Rattle.std.proofs.lemmas.Bool.{le-leb, lt-leb}
use Rattle.std.proofs.lemmas.Grind.{flat_map-append}
use Rattle.std.proofs.lemmas.List.{length-map, map-append}
use Rattle.batch_records.specs.DayRecord.{Day}
use Rattle.batch_records.specs.Records.{Fields}
use Rattle.batch_records.specs.declared.day.Message.{Message}
use Rattle.commit_journal.specs.Histories.{Begins}
use Rattle.commit_journal.specs.Line.{History, Line}
use Rattle.live_order.specs.LiveOrder.{live, live_journal}
use Rattle.live_order.proofs.Events.LiveGrows.{live_stays}
use Rattle.live_records.specs.Heard.{Call, Takes, Stops, Refuses, Breaks, day_of, heard, heard_in}
use Rattle.live_records.specs.Rounds.{rounds_called, stops_called}
use Rattle.live_records.specs.WholeRecords.{whole_records}
use Rattle.live_records.proofs.CallFacts.{rounds_fit, stops_fit}
use Rattle.live_day.specs.Events.{events_in}
use Rattle.live_day.specs.Parts.{IsTold, OfBroken, OfLine, OfRefused, Part, beginnings, events_to, journal_of, part_text, records_after, records_called}
use Rattle.live_day.specs.Told.{closing, is_day_over, refused_text, told_behind, told_calls, told_end, told_event, told_in, told_line}

-- ---- the lines of a journal after its first ones

abbrev behind : ℕ → History → List History
behind i [] = []
behind i (l ∷ J) = behind i J ++ (if nat_le i (length J) then (l ∷ J) ∷ [] else [])

behind_none : (i : ℕ) (J : History) → length J ≤ i → behind i J ≡ []
behind_none i [] l = refl
behind_none i (h ∷ J) l =
    ap (λ (t : List History). t ++ (if nat_le i (length J) then (h ∷ J) ∷ [] else [])) (behind_none i J (omega (arith, l)))
    ∙ ap (λ (b : Bool). if b then (h ∷ J) ∷ [] else []) (lt-leb i (length J) (omega (arith, l)))

long_front : (more J : History) → length J ≤ length (more ++ J)
long_front [] J = omega arith
long_front (h ∷ more) J = let l = long_front more J in omega (arith, l)

begun_then : (more J : History) → beginnings (more ++ J) ≡ beginnings J ++ behind (length J) (more ++ J)
begun_then [] J = sym (append-nil (beginnings J)) ∙ ap (λ (t : List History). beginnings J ++ t) (sym (behind_none (length J) J (omega arith)))
begun_then (h ∷ more) J =
    ap (λ (t : List History). t ++ (h ∷ (more ++ J)) ∷ []) (begun_then more J)
    ∙ append_assoc (beginnings J) (behind (length J) (more ++ J)) ((h ∷ (more ++ J)) ∷ [])
    ∙ ap (λ (t : List History). beginnings J ++ (behind (length J) (more ++ J) ++ t)) (sym (ap (λ (b : Bool). if b then (h ∷ (more ++ J)) ∷ [] else []) (le-leb (length J) (length (more ++ J)) (long_front more J))))

begun_on : (J K : History) → Begins J K → beginnings K ≡ beginnings J ++ behind (length J) K
begun_on J K b = ap beginnings b.1 ∙ begun_then b.0 J ∙ ap (λ (L : History). beginnings J ++ behind (length J) L) (sym b.1)

count_begun : (J : History) → length (beginnings J) ≡ length J
count_begun [] = refl
count_begun (l ∷ J) = let a = length-append (beginnings J) ((l ∷ J) ∷ []) in let b = count_begun J in omega (arith, a, b)

-- those that are made at the k-th event of a day, from 0
abbrev more_lines : Day → ℕ → List History
more_lines day k = behind (length (live day k [])) (live day (suc k) [])

lines_on : (day : Day) (k : ℕ) → beginnings (live day (suc k) []) ≡ beginnings (live day k []) ++ more_lines day k
lines_on day k =
    let e : k + 1 ≡ suc k = omega arith in
    begun_on (live day k []) (live day (suc k) []) (subst (λ (n : ℕ). Begins (live day k []) (live day n [])) e (live_stays day k 1))

count_on : (day : Day) (k : ℕ) → length (live day k []) + length (more_lines day k) ≡ length (live day (suc k) [])
count_on day k =
    let all = ap (length {A = History}) (lines_on day k) in
    let sum = length-append (beginnings (live day k [])) (more_lines day k) in
    let before = count_begun (live day k []) in
    let after = count_begun (live day (suc k) []) in
    omega (arith, all, sum, before, after)

-- ---- as parts

abbrev made : List History → List Part
made Js = map OfLine Js

abbrev parts_of : Day → ℕ → List Call → List Part
parts_of day k [] = []
parts_of day k (Takes ∷ calls) = made (more_lines day k) ++ parts_of day (k + 1) calls
parts_of day k (Stops ∷ calls) = made (more_lines day k) ++ parts_of day (k + 1) calls
parts_of day k (Refuses number code ∷ calls) = OfRefused number code ∷ parts_of day k calls
parts_of day k (Breaks number code ∷ calls) = OfBroken number code ∷ parts_of day k calls

made_text : (day : Day) (i : ℕ) (J : History) → flat_map (part_text day) (made (behind i J)) ≡ told_behind day i J
unfolding told_behind
made_text day i [] = refl
made_text day i (l ∷ J) =
    ap (flat_map (part_text day)) (map-append OfLine (behind i J) (if nat_le i (length J) then (l ∷ J) ∷ [] else []))
    ∙ flat_map-append (part_text day) (made (behind i J)) (made (if nat_le i (length J) then (l ∷ J) ∷ [] else []))
    ∙ ap (λ (t : List ℕ). t ++ flat_map (part_text day) (made (if nat_le i (length J) then (l ∷ J) ∷ [] else []))) (made_text day i J)
    ∙ ap (λ (t : List ℕ). told_behind day i J ++ t) (one (nat_le i (length J)))
  where
    one : (b : Bool) → flat_map (part_text day) (made (if b then (l ∷ J) ∷ [] else [])) ≡ (if b then told_line day J l else [])
    one true = append-nil (told_line day J l)
    one false = refl

lines_then : (Js : List History) (parts : List Part) → filter_map journal_of (made Js ++ parts) ≡ Js ++ filter_map journal_of parts
lines_then [] parts = refl
lines_then (J ∷ Js) parts = ap (λ (t : List History). J ∷ t) (lines_then Js parts)

records_then : (before : ℕ) (Js : List History) (parts : List Part) → records_after before (made Js ++ parts) ≡ records_after (before + length Js) parts
records_then before [] parts = let e : before ≡ before + 0 = omega arith in ap (λ (n : ℕ). records_after n parts) e
records_then before (J ∷ Js) parts =
    let e : before + 1 + length Js ≡ before + suc (length Js) = omega arith in
    records_then (before + 1) Js parts ∙ ap (λ (n : ℕ). records_after n parts) e

-- lines in the end
lines_last : (parts : List Part) (Js : List History) → filter_map journal_of (parts ++ made Js) ≡ filter_map journal_of parts ++ Js
lines_last [] Js = ap (filter_map journal_of) (sym (append-nil (made Js))) ∙ lines_then Js [] ∙ append-nil Js
lines_last (OfLine J ∷ parts) Js = ap (λ (t : List History). J ∷ t) (lines_last parts Js)
lines_last (OfRefused number code ∷ parts) Js = lines_last parts Js
lines_last (OfBroken number code ∷ parts) Js = lines_last parts Js

records_last : (before : ℕ) (parts : List Part) (Js : List History) → records_after before (parts ++ made Js) ≡ records_after before parts
records_last before [] Js = ap (records_after before) (sym (append-nil (made Js))) ∙ records_then before Js []
records_last before (OfLine J ∷ parts) Js = records_last (before + 1) parts Js
records_last before (OfRefused number code ∷ parts) Js = ap (λ (t : List (ℕ × Part)). (before, OfRefused number code) ∷ t) (records_last before parts Js)
records_last before (OfBroken number code ∷ parts) Js = ap (λ (t : List (ℕ × Part)). (before, OfBroken number code) ∷ t) (records_last before parts Js)

-- ---- along calls

calls_text : (day : Day) (k : ℕ) (calls : List Call) → flat_map (part_text day) (parts_of day k calls) ≡ told_calls day k calls
unfolding told_calls
calls_text day k [] = refl
calls_text day k (Takes ∷ calls) =
    flat_map-append (part_text day) (made (more_lines day k)) (parts_of day (k + 1) calls)
    ∙ (λ i. made_text day (length (live day k [])) (live day (suc k) []) i ++ calls_text day (k + 1) calls i)
calls_text day k (Stops ∷ calls) =
    flat_map-append (part_text day) (made (more_lines day k)) (parts_of day (k + 1) calls)
    ∙ (λ i. made_text day (length (live day k [])) (live day (suc k) []) i ++ calls_text day (k + 1) calls i)
calls_text day k (Refuses number code ∷ calls) = ap (λ (t : List ℕ). part_text day (OfRefused number code) ++ t) (calls_text day k calls)
calls_text day k (Breaks number code ∷ calls) = ap (λ (t : List ℕ). part_text day (OfBroken number code) ++ t) (calls_text day k calls)

event_lines : (day : Day) (k : ℕ) (calls : List Call) → beginnings (live day (k + 1 + events_in calls) []) ≡ beginnings (live day (k + 1) []) ++ filter_map journal_of (parts_of day (k + 1) calls)
    → beginnings (live day (k + suc (events_in calls)) []) ≡ beginnings (live day k []) ++ filter_map journal_of (made (more_lines day k) ++ parts_of day (k + 1) calls)
event_lines day k calls further =
    let e : k + suc (events_in calls) ≡ k + 1 + events_in calls = omega arith in
    let one : k + 1 ≡ suc k = omega arith in
    ap (λ (n : ℕ). beginnings (live day n [])) e
    ∙ further
    ∙ ap (λ (t : List History). t ++ filter_map journal_of (parts_of day (k + 1) calls)) (ap (λ (n : ℕ). beginnings (live day n [])) one ∙ lines_on day k)
    ∙ append_assoc (beginnings (live day k [])) (more_lines day k) (filter_map journal_of (parts_of day (k + 1) calls))
    ∙ ap (λ (t : List History). beginnings (live day k []) ++ t) (sym (lines_then (more_lines day k) (parts_of day (k + 1) calls)))

calls_lines : (day : Day) (k : ℕ) (calls : List Call) → beginnings (live day (k + events_in calls) []) ≡ beginnings (live day k []) ++ filter_map journal_of (parts_of day k calls)
calls_lines day k [] = let e : k + 0 ≡ k = omega arith in ap (λ (n : ℕ). beginnings (live day n [])) e ∙ sym (append-nil (beginnings (live day k [])))
calls_lines day k (Takes ∷ calls) = event_lines day k calls (calls_lines day (k + 1) calls)
calls_lines day k (Stops ∷ calls) = event_lines day k calls (calls_lines day (k + 1) calls)
calls_lines day k (Refuses number code ∷ calls) = calls_lines day k calls
calls_lines day k (Breaks number code ∷ calls) = calls_lines day k calls

event_records : (day : Day) (k : ℕ) (calls : List Call) → records_after (length (live day (k + 1) [])) (parts_of day (k + 1) calls) ≡ records_called day (k + 1) calls
    → records_after (length (live day k [])) (made (more_lines day k) ++ parts_of day (k + 1) calls) ≡ records_called day (k + 1) calls
event_records day k calls further =
    let one : suc k ≡ k + 1 = omega arith in
    records_then (length (live day k [])) (more_lines day k) (parts_of day (k + 1) calls)
    ∙ ap (λ (n : ℕ). records_after n (parts_of day (k + 1) calls)) (count_on day k ∙ ap (λ (n : ℕ). length (live day n [])) one)
    ∙ further

calls_records : (day : Day) (k : ℕ) (calls : List Call) → records_after (length (live day k [])) (parts_of day k calls) ≡ records_called day k calls
calls_records day k [] = refl
calls_records day k (Takes ∷ calls) = event_records day k calls (calls_records day (k + 1) calls)
calls_records day k (Stops ∷ calls) = event_records day k calls (calls_records day (k + 1) calls)
calls_records day k (Refuses number code ∷ calls) = ap (λ (t : List (ℕ × Part)). (length (live day k []), OfRefused number code) ∷ t) (calls_records day k calls)
calls_records day k (Breaks number code ∷ calls) = ap (λ (t : List (ℕ × Part)). (length (live day k []), OfBroken number code) ∷ t) (calls_records day k calls)

-- ---- all that is told

count_calls : (r : ℕ) (calls : List Call) → events_in calls ≡ length (rounds_called r calls) + stops_called calls
count_calls r [] = refl
count_calls r (Takes ∷ calls) = let more = count_calls r calls in omega (arith, more)
count_calls r (Stops ∷ calls) = let more = count_calls (r + 1) calls in omega (arith, more)
count_calls r (Refuses n c ∷ calls) = count_calls r calls
count_calls r (Breaks n c ∷ calls) = count_calls r calls

none_before : (day : Day) → live day 0 [] ≡ []
unfolding live
none_before day = refl

module _ (records : List Fields) where
  abbrev day : Day
  day = day_of (heard records)

  abbrev calls : List Call
  calls = (heard records).calls

  abbrev count : ℕ
  count = events_in calls

  -- its last event is the one after all that were called for
  end_is : length day.messages + length day.stops ≡ count
  end_is =
      let all = count_calls 0 calls in
      let messages : length (rounds_called 0 calls) ≡ length day.messages = ap length (rounds_fit records) ∙ length-map day.messages (λ (m : Message). m.round) in
      let stops = stops_fit records in
      omega (arith, all, messages, stops)

  lines_all : beginnings (live day count []) ≡ filter_map journal_of (parts_of day 0 calls)
  lines_all =
      let e : 0 + count ≡ count = omega arith in
      ap (λ (n : ℕ). beginnings (live day n [])) (sym e) ∙ calls_lines day 0 calls ∙ ap (λ (J : History). beginnings J ++ filter_map journal_of (parts_of day 0 calls)) (none_before day)

  records_all : records_after 0 (parts_of day 0 calls) ≡ records_called day 0 calls
  records_all = ap (λ (J : History). records_after (length J) (parts_of day 0 calls)) (sym (none_before day)) ∙ calls_records day 0 calls

  last_text : flat_map (part_text day) (made (more_lines day count)) ≡ told_event day (length day.messages + length day.stops)
  last_text = made_text day (length (live day count [])) (live day (suc count) []) ∙ ap (told_event day) (sym end_is)

  pub parts_told : (over : Bool) → IsTold (heard records) over (told_calls day 0 calls ++ (if over then told_end day else []))
  parts_told false = record {
    parts = parts_of day 0 calls;
    all = ap (λ (t : List ℕ). t ++ []) (sym (calls_text day 0 calls));
    lines = sym lines_all;
    records = records_all;
  }
  parts_told true = record {
    parts = parts_of day 0 calls ++ made (more_lines day count);
    all =
        sym (append_assoc (told_calls day 0 calls) (told_event day (length day.messages + length day.stops)) (closing day))
        ∙ ap (λ (t : List ℕ). t ++ closing day) ((λ i. sym (calls_text day 0 calls) i ++ sym last_text i) ∙ sym (flat_map-append (part_text day) (parts_of day 0 calls) (made (more_lines day count))));
    lines = lines_last (parts_of day 0 calls) (more_lines day count) ∙ ap (λ (t : List History). t ++ more_lines day count) (sym lines_all) ∙ sym (lines_on day count);
    records = records_last 0 (parts_of day 0 calls) (more_lines day count) ∙ records_all;
  }

-- of any input, of which all has come or more may come
pub told_parts : (all : Bool) (input : List ℕ) → IsTold (heard_in all input) (is_day_over all input) (told_in all input)
unfolding told_in
told_parts all input = parts_told (whole_records all input) (is_day_over all input)
