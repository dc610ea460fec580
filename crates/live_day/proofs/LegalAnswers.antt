-- The answer to any input is of a legal journal of its accepted day.
use Rattle.std.proofs.Common.{◌≡◌, ◌∙◌, ◌+◌, ◌≤◌, ◌++◌, ℕ, zero, suc, Bool, true, false, not, List, [], ◌∷◌, append_assoc, append-nil, length, ne_eqb, refl, sym, ap, subst, arith}
use Rattle.std.specs.Prelude.{◌&&◌, ◌||◌, ◌==◌, if◌then◌else◌}
use Rattle.std.proofs.lemmas.Grind.{flat_map-append}
use Rattle.std.proofs.lemmas.List.{length-append, length-map}
use Rattle.batch_records.specs.DayRecord.{Day}
use Rattle.batch_records.specs.Records.{Fields}
use Rattle.batch_records.specs.Sound.{is_sound}
use Rattle.batch_records.specs.Versions.{most_messages}
use Rattle.batch_records.specs.declared.day.DayCode.TheVariants as day_codes
use Rattle.batch_records.specs.declared.day.Message.{Message}
use Rattle.batch_records.proofs.BoolFacts.{and_both}
use Rattle.commit_journal.specs.Line.{History, Line}
use Rattle.commit_journal.specs.Text.{line_text}
use Rattle.machine.specs.Legal.{IsLegal, is_complete}
use Rattle.settlement_laws.proofs.EachLaw.AllLaws.{all_laws}
use Rattle.program_answers.specs.Answers.{refusal_text, size_text}
use Rattle.status_messages.specs.StatusTexts.{status_text}
use Rattle.status_messages.specs.Statuses.{all_statuses, statuses}
use Rattle.status_messages.specs.Telling.{statuses_text, texts}
use Rattle.as_client.specs.TextLaws.{AllFit, LegalStatusesFit}
use Rattle.as_client.proofs.StatusFits.{legal_statuses_fit}
use Rattle.live_order.specs.LiveOrder.{Over, events, live, live_journal}
use Rattle.live_order.proofs.Events.Causal.{live_all}
use Rattle.live_order.proofs.Events.LiveGrows.{grows-live, live_ends}
use Rattle.live_records.specs.Heard.{Call, Takes, Stops, Refuses, Breaks, Heard, day_of, has_end, heard, heard_in}
use Rattle.live_records.specs.Rounds.{rounds_called, stops_called}
use Rattle.live_records.specs.WholeRecords.{whole_records}
use Rattle.live_records.proofs.AcceptedFacts.{accepted_sound, begun_started, ended_started}
use Rattle.live_records.proofs.CallFacts.{rounds_fit, stops_fit}
use Rattle.live_records.proofs.FateFacts.{told_once}
use Rattle.live_day.specs.Ends.{chosen}
use Rattle.live_day.specs.Answers.{is_all, live_answer, looked_at}
use Rattle.live_day.specs.Events.{events_called, events_in}
use Rattle.live_day.specs.Parts.{IsTold, events_to}
use Rattle.live_day.specs.Promises.{IsOfDay, last_text, lines_with}
use Rattle.live_day.specs.Told.{closing, has_come, is_day_over, told_calls, told_end, told_event, told_in, told_line}
use Rattle.live_day.proofs.EventFacts.{calls_are}
use Rattle.live_day.proofs.FrontFacts.{events_length}
use Rattle.live_day.proofs.LegalTexts.{broken_texts, calls_break, calls_refuse, calls_say, closing_all, closing_none, event_adds, event_on, event_silent, refused_texts, told_all}
use Rattle.live_day.proofs.MadeLines.{AreTold, behind_by, made, made_all_lines, said_by, silent, tells}
use Rattle.live_day.proofs.MarkedLines.{Adds, adds_append, adds_nothing, adds_same, adds_whole, fault_adds, fault_none, made_all, made_none, size_adds, size_none, statuses_all, statuses_none}
use Rattle.live_day.proofs.PartFacts.{told_parts}
use Rattle.live_day.proofs.ToldFronts.{quiet_all}

-- ---- what each line adds

line_made : (day : Day) (J : History) (l : Line) → AllFit (most_messages day.version) (statuses day J l) → Adds 74 77 (told_line day J l) (made J l)
line_made day J l fit =
    adds_same 74 77 (told_line day J l) (made J l ++ []) (made J l) (append-nil (made J l))
    (adds_append 74 77 (line_text (suc (length J)) l) (texts (statuses day J l)) (made J l) [] (made_all 74 77 (suc (length J)) l refl refl) (statuses_none 74 77 (most_messages day.version) (statuses day J l) fit refl))

line_tells : (day : Day) (J : History) (l : Line) → AllFit (most_messages day.version) (statuses day J l) → Adds 83 83 (told_line day J l) (tells day J l)
line_tells day J l fit =
    adds_append 83 83 (line_text (suc (length J)) l) (texts (statuses day J l)) [] (texts (statuses day J l)) (made_none 83 83 (suc (length J)) l refl refl) (statuses_all 83 83 (most_messages day.version) (statuses day J l) fit refl)

line_silent : (first second : ℕ) (day : Day) → (74 == first || 74 == second) ≡ false → (77 == first || 77 == second) ≡ false → (83 == first || 83 == second) ≡ false
    → (J : History) (l : Line) → AllFit (most_messages day.version) (statuses day J l) → Adds first second (told_line day J l) []
line_silent first second day head move status J l fit =
    adds_append first second (line_text (suc (length J)) l) (texts (statuses day J l)) [] [] (made_none first second (suc (length J)) l head move) (statuses_none first second (most_messages day.version) (statuses day J l) fit status)

said_tells : (day : Day) (J : History) → said_by (tells day) J ≡ statuses_text day J
unfolding all_statuses
said_tells day [] = refl
said_tells day (l ∷ J) = ap (λ (t : List ℕ). t ++ tells day J l) (said_tells day J) ∙ sym (flat_map-append status_text (all_statuses day J) (statuses day J l))

said_silent : (J : History) → said_by silent J ≡ []
said_silent [] = refl
said_silent (l ∷ J) = append-nil (said_by silent J) ∙ said_silent J

-- ---- how many events there were

count_calls : (r : ℕ) (calls : List Call) → events_in calls ≡ length (rounds_called r calls) + stops_called calls
count_calls r [] = refl
count_calls r (Takes ∷ calls) = let more = count_calls r calls in omega (arith, more)
count_calls r (Stops ∷ calls) = let more = count_calls (r + 1) calls in omega (arith, more)
count_calls r (Refuses n c ∷ calls) = count_calls r calls
count_calls r (Breaks n c ∷ calls) = count_calls r calls

abbrev ends : Bool → ℕ → ℕ
ends over n = if over then suc n else n

-- ---- the day of some records

module _ (records : List Fields) where
  abbrev day : Day
  day = day_of (heard records)

  abbrev count : ℕ
  count = events_in (heard records).calls

  -- where an event has come, the day is sound
  sound_by : 1 ≤ count → is_sound day ≡ true
  sound_by some = by (heard records).begun refl
    where
      by : (x : Bool) → (heard records).begun ≡ x → is_sound day ≡ true
      by true e = accepted_sound records (begun_started records e)
      by false e = let none = (quiet_all records e).events in absurd (omega (arith, some, none))

  -- its last event is the one after all that were called for
  end_is : length day.messages + length day.stops ≡ count
  end_is =
      let all = count_calls 0 (heard records).calls in
      let messages : length (rounds_called 0 (heard records).calls) ≡ length day.messages = ap length (rounds_fit records) ∙ length-map day.messages (λ (m : Message). m.round) in
      let stops = stops_fit records in
      omega (arith, all, messages, stops)

  whole_is : live day (suc count) [] ≡ live_journal day
  whole_is =
      let long : length (events day) ≡ suc count =
      (let parts : length (events day) ≡ length (events_called 0 1 (heard records).calls) + 1 = ap length (calls_are records) ∙ length-append (events_called 0 1 (heard records).calls) (Over ∷ []) in let called = events_length 0 1 (heard records).calls in omega (arith, parts, called)) in
      ap (λ (n : ℕ). live day n []) (sym long) ∙ live_all day

  end_sound : has_end (heard records) ≡ true → is_sound day ≡ true
  end_sound e = accepted_sound records (ended_started records e)

  module _ (fits : LegalStatusesFit) (over : Bool) (ended : over ≡ true → has_end (heard records) ≡ true) where
    abbrev journal : History
    journal = live day (ends over count) []

    abbrev text : List ℕ
    text = told_calls day 0 (heard records).calls ++ (if over then told_end day else [])

    module _ (first second : ℕ) (say : History → Line → List ℕ) (each : (J : History) (l : Line) → AllFit (most_messages day.version) (statuses day J l) → Adds first second (told_line day J l) (say J l)) where
      told_at : is_sound day ≡ true → (i : ℕ) → AreTold first second day say (live day i [])
      told_at sound i = told_all first second day say each (live day i []) (fits day (live day i []) sound ((grows-live day i []).legal tt))

      told_to : (i : ℕ) → suc i ≤ count → AreTold first second day say (live day (suc i) [])
      told_to i l = told_at (sound_by (omega (arith, l))) (suc i)

      abbrev at_end : Bool → List ℕ → List ℕ
      at_end b c = if b then c else []

      end_adds : (c : List ℕ) → is_sound day ≡ true → Adds first second (closing day) c → (lines : List ℕ) × Adds first second (told_end day) (lines ++ c) × (said_by say (live day (suc count) []) ≡ said_by say (live day count []) ++ lines)
      end_adds c sound close =
          let here = event_adds first second day say count (told_at sound (suc count)) in
          let lines : List ℕ = behind_by say (length (live day count [])) (live day (suc count) []) in
          let one : count + 1 ≡ suc count = omega arith in (
            lines,
            adds_append first second (told_event day (length day.messages + length day.stops)) (closing day) lines c (subst (λ (k : ℕ). Adds first second (told_event day k) lines) (sym end_is) here) close,
            ap (λ (n : ℕ). said_by say (live day n [])) (sym one) ∙ event_on first second day say count,
          )

      -- what is told adds what is said of each line of the journal, and in the end this
      text_adds : (c : List ℕ) → (82 == first || 82 == second) ≡ false → (69 == first || 69 == second) ≡ false → (is_sound day ≡ true → Adds first second (closing day) c) → Adds first second text (said_by say journal ++ at_end over c)
      unfolding live
      text_adds c none other close =
          let s = calls_say first second day say 0 count (heard records).calls told_to (omega arith) none other in
          let zero_first : 0 + count ≡ count = omega arith in
          let so_far : said_by say (live day count []) ≡ s.lines = ap (λ (n : ℕ). said_by say (live day n [])) (sym zero_first) ∙ s.all in
          by over ended s.lines s.adds so_far
        where
          by : (o : Bool) → (o ≡ true → has_end (heard records) ≡ true) → (lines : List ℕ) → Adds first second (told_calls day 0 (heard records).calls) lines → said_by say (live day count []) ≡ lines
              → Adds first second (told_calls day 0 (heard records).calls ++ (if o then told_end day else [])) (said_by say (live day (ends o count) []) ++ at_end o c)
          by false e lines adds so_far =
              adds_same first second _ (lines ++ []) (said_by say (live day count []) ++ []) (ap (λ (l : List ℕ). l ++ []) (sym so_far)) (adds_append first second (told_calls day 0 (heard records).calls) [] lines [] adds (adds_nothing first second))
          by true e lines adds so_far =
              let sound = end_sound (e refl) in
              let last = end_adds c sound (close sound) in
              adds_same first second _ (lines ++ (last.0 ++ c)) (said_by say (live day (suc count) []) ++ c)
              (sym (append_assoc lines last.0 c) ∙ ap (λ (l : List ℕ). (l ++ last.0) ++ c) (sym so_far) ∙ ap (λ (l : List ℕ). l ++ c) (sym last.2))
              (adds_append first second (told_calls day 0 (heard records).calls) (told_end day) lines (last.0 ++ c) adds last.1)

    -- of records alone: what calls add with this mark is added by the whole
    module _ (mark : ℕ) (head : (74 == mark || 74 == mark) ≡ false) (move : (77 == mark || 77 == mark) ≡ false) (status : (83 == mark || 83 == mark) ≡ false) (holding : (66 == mark || 66 == mark) ≡ false) (sum : (79 == mark || 79 == mark) ≡ false) (lines : List ℕ) where
      pub silent_to : (i : ℕ) → suc i ≤ count → AreTold mark mark day silent (live day (suc i) [])
      silent_to = told_to mark mark silent (line_silent mark mark day head move status)

      pub record_adds : Adds mark mark (told_calls day 0 (heard records).calls) lines → Adds mark mark text lines
      record_adds adds = by over ended
        where
          by : (o : Bool) → (o ≡ true → has_end (heard records) ≡ true) → Adds mark mark (told_calls day 0 (heard records).calls ++ (if o then told_end day else [])) lines
          by false e = adds_same mark mark _ (lines ++ []) lines (append-nil lines) (adds_append mark mark (told_calls day 0 (heard records).calls) [] lines [] adds (adds_nothing mark mark))
          by true e =
              let sound = end_sound (e refl) in
              let here : Adds mark mark (told_event day (length day.messages + length day.stops)) [] =
              subst (λ (k : ℕ). Adds mark mark (told_event day k) []) (sym end_is) (event_silent mark mark day count (told_at mark mark silent (line_silent mark mark day head move status) sound (suc count))) in
              adds_same mark mark _ (lines ++ []) lines (append-nil lines)
              (adds_append mark mark (told_calls day 0 (heard records).calls) (told_end day) lines [] adds
              (adds_append mark mark (told_event day (length day.messages + length day.stops)) (closing day) [] [] here (closing_none mark mark day sound holding sum)))

    -- the refused records
    refuse_adds : Adds 82 82 text (refused_texts (heard records).calls)
    refuse_adds = record_adds 82 refl refl refl refl refl (refused_texts (heard records).calls) (calls_refuse day 0 count (heard records).calls (silent_to 82 refl refl refl refl refl (refused_texts (heard records).calls)) (omega arith))

    -- the one that ended the run
    break_adds : Adds 69 69 text (broken_texts (heard records).calls)
    break_adds = record_adds 69 refl refl refl refl refl (broken_texts (heard records).calls) (calls_break day 0 count (heard records).calls (silent_to 69 refl refl refl refl refl (broken_texts (heard records).calls)) (omega arith))

    journal_sound : (0 ≡ length journal → ⊥) → is_sound day ≡ true
    unfolding live
    journal_sound = by over ended
      where
        none : (n : ℕ) → count ≡ n → (0 ≡ length (live day n []) → ⊥) → is_sound day ≡ true
        none zero e some = absurd (some refl)
        none (suc n) e some = sound_by (omega (arith, e))

        by : (o : Bool) → (o ≡ true → has_end (heard records) ≡ true) → (0 ≡ length (live day (ends o count) []) → ⊥) → is_sound day ≡ true
        by true e some = end_sound (e refl)
        by false e some = none count refl some

-- ---- the answer

module _ (first second : ℕ) where
  chosen_lines : (x y z : Bool) (text cut size lines : List ℕ) → Adds first second text lines → Adds first second cut [] → Adds first second size [] → lines_with first second (chosen x y z text cut size).text ≡ lines
  chosen_lines true y z text cut size lines h c s = adds_whole first second text lines h
  chosen_lines false true z text cut size lines h c s = adds_whole first second (text ++ size) (lines ++ []) (adds_append first second text size lines [] h s) ∙ append-nil lines
  chosen_lines false false true text cut size lines h c s = adds_whole first second text lines h
  chosen_lines false false false text cut size lines h c s = adds_whole first second (text ++ cut) (lines ++ []) (adds_append first second text cut lines [] h c) ∙ append-nil lines

  answer_lines : (input lines : List ℕ) → (69 == first || 69 == second) ≡ false → Adds first second (told_in (is_all input) (looked_at input)) lines → lines_with first second (live_answer input).text ≡ lines
  unfolding live_answer
  answer_lines input lines other h =
      chosen_lines (heard_in (is_all input) (looked_at input)).broken (not (has_come (is_all input) (looked_at input))) (has_end (heard_in (is_all input) (looked_at input))) (told_in (is_all input) (looked_at input))
      (refusal_text ((heard_in (is_all input) (looked_at input)).count + 1) day_codes.Cut) size_text lines h (fault_none first second ((heard_in (is_all input) (looked_at input)).count + 1) day_codes.Cut other) (size_none first second other)

-- what stands behind all that is told
abbrev last_by : Bool → ℕ → List ℕ → List ℕ → List ℕ
last_by x status cut size = if status == 7 then size else if (status == 3) && not x then cut else []

chosen_text : (x y z : Bool) (text cut size : List ℕ) → (chosen x y z text cut size).text ≡ text ++ last_by x (chosen x y z text cut size).status cut size
chosen_text true y z text cut size = sym (append-nil text)
chosen_text false true z text cut size = refl
chosen_text false false true text cut size = sym (append-nil text)
chosen_text false false false text cut size = refl

chosen_faults : (x y z : Bool) (text cut size lines : List ℕ) → Adds 69 69 text lines → Adds 69 69 cut cut → Adds 69 69 size size
    → lines_with 69 69 (chosen x y z text cut size).text ≡ lines ++ last_by x (chosen x y z text cut size).status cut size
chosen_faults true y z text cut size lines h c s = adds_whole 69 69 text lines h ∙ sym (append-nil lines)
chosen_faults false true z text cut size lines h c s = adds_whole 69 69 (text ++ size) (lines ++ size) (adds_append 69 69 text size lines size h s)
chosen_faults false false true text cut size lines h c s = adds_whole 69 69 text lines h ∙ sym (append-nil lines)
chosen_faults false false false text cut size lines h c s = adds_whole 69 69 (text ++ cut) (lines ++ cut) (adds_append 69 69 text cut lines cut h c)

chosen_is : (x c z : Bool) (text cut size : List ℕ) → (chosen x (not c) z text cut size).status ≡ (if x then 3 else if not c then 7 else if z then 0 else 3)
chosen_is true c z text cut size = refl
chosen_is false false z text cut size = refl
chosen_is false true true text cut size = refl
chosen_is false true false text cut size = refl

-- the day is over at status 0 alone
chosen_ends : (x c z : Bool) (text cut size : List ℕ) → (z && not x && c) ≡ ((chosen x (not c) z text cut size).status == 0)
chosen_ends true c true text cut size = refl
chosen_ends true c false text cut size = refl
chosen_ends false true true text cut size = refl
chosen_ends false true false text cut size = refl
chosen_ends false false true text cut size = refl
chosen_ends false false false text cut size = refl

module _ (input : List ℕ) where
  abbrev heard_here : Heard
  heard_here = heard_in (is_all input) (looked_at input)

  abbrev cut_here : List ℕ
  cut_here = refusal_text (heard_here.count + 1) day_codes.Cut

  text_is : (live_answer input).text ≡ told_in (is_all input) (looked_at input) ++ last_text heard_here (live_answer input).status
  unfolding live_answer
  text_is = chosen_text heard_here.broken (not (has_come (is_all input) (looked_at input))) (has_end heard_here) (told_in (is_all input) (looked_at input)) cut_here size_text

  faults_are : (lines : List ℕ) → Adds 69 69 (told_in (is_all input) (looked_at input)) lines → lines_with 69 69 (live_answer input).text ≡ lines ++ last_text heard_here (live_answer input).status
  unfolding live_answer
  faults_are lines h =
      chosen_faults heard_here.broken (not (has_come (is_all input) (looked_at input))) (has_end heard_here) (told_in (is_all input) (looked_at input)) cut_here size_text lines h
      (fault_adds 69 69 (heard_here.count + 1) day_codes.Cut true refl) (size_adds 69 69 true refl)

  status_is : (live_answer input).status ≡ (if heard_here.broken then 3 else if not (has_come (is_all input) (looked_at input)) then 7 else if has_end heard_here then 0 else 3)
  unfolding live_answer
  status_is = chosen_is heard_here.broken (has_come (is_all input) (looked_at input)) (has_end heard_here) (told_in (is_all input) (looked_at input)) cut_here size_text

  over_is : is_day_over (is_all input) (looked_at input) ≡ ((live_answer input).status == 0)
  unfolding live_answer
  over_is = chosen_ends heard_here.broken (has_come (is_all input) (looked_at input)) (has_end heard_here) (told_in (is_all input) (looked_at input)) cut_here size_text

zero_only : (n : ℕ) → (n ≡ 0 → ⊥) → (n == 0) ≡ false
zero_only zero other = absurd (other refl)
zero_only (suc n) other = ne_eqb (suc n) 0 (λ z. omega (arith, z))

chosen_over : (x c z : Bool) (text cut size : List ℕ) → (chosen x (not c) z text cut size).status ≡ 0 → (z && not x && c) ≡ true
chosen_over true c z text cut size e = absurd (omega (arith, e))
chosen_over false false z text cut size e = absurd (omega (arith, e))
chosen_over false true true text cut size e = refl
chosen_over false true false text cut size e = absurd (omega (arith, e))

-- at status 0 the day is over
day_is_over : (input : List ℕ) → (live_answer input).status ≡ 0 → is_day_over (is_all input) (looked_at input) ≡ true
unfolding live_answer
day_is_over input e =
    chosen_over (heard_in (is_all input) (looked_at input)).broken (has_come (is_all input) (looked_at input)) (has_end (heard_in (is_all input) (looked_at input))) (told_in (is_all input) (looked_at input))
    (refusal_text ((heard_in (is_all input) (looked_at input)).count + 1) day_codes.Cut) size_text e

over_ended : (all : Bool) (seen : List ℕ) → is_day_over all seen ≡ true → has_end (heard_in all seen) ≡ true
over_ended all seen e = (and_both _ _ (and_both _ (has_come all seen) e).0).0

at_end_none : (o : Bool) (lines : List ℕ) → lines ++ (if o then [] else []) ≡ lines
at_end_none true lines = append-nil lines
at_end_none false lines = append-nil lines

texts_are_legal : LegalStatusesFit → (input : List ℕ) → IsOfDay input (live_answer input)
unfolding told_in
texts_are_legal fits input =
    let all = is_all input in
    let seen = looked_at input in
    let records = whole_records all seen in
    let d = day_of (heard records) in
    let over = is_day_over all seen in
    let ended = over_ended all seen in
    let J = live d (ends over (events_in (heard records).calls)) [] in
    let is_legal : IsLegal d J = (grows-live d (ends over (events_in (heard records).calls)) []).legal tt in
    record {
      heard = heard records;
      is = refl;
      journal = J;
      status = status_is input;
      events = ends over (events_in (heard records).calls);
      counted = ap (λ (o : Bool). events_to o (heard records).calls) (over_is input);
      made = refl;
      sound = journal_sound records fits over ended;
      legal = is_legal;
      laws = λ sound. all_laws d J sound is_legal;
      complete = λ e.
          let o = day_is_over input e in
          ap (λ (b : Bool). is_complete (live d (ends b (events_in (heard records).calls)) [])) o ∙ ap is_complete (whole_is records) ∙ (live_ends d (end_sound records (ended o))).1;
      lines =
          answer_lines 74 77 input _ refl (text_adds records fits over ended 74 77 made (line_made d) [] refl refl (λ sound. closing_none 74 77 d sound refl refl))
          ∙ at_end_none over (said_by made J) ∙ made_all_lines J;
      statuses =
          answer_lines 83 83 input _ refl (text_adds records fits over ended 83 83 (tells d) (line_tells d) [] refl refl (λ sound. closing_none 83 83 d sound refl refl))
          ∙ at_end_none over (said_by (tells d) J) ∙ said_tells d J;
      holdings = λ e.
          answer_lines 66 79 input _ refl (text_adds records fits over ended 66 79 silent (line_silent 66 79 d refl refl refl) (closing d) refl refl (λ sound. closing_all 66 79 d sound refl refl))
          ∙ ap (λ (b : Bool). said_by silent J ++ (if b then closing d else [])) (day_is_over input e) ∙ ap (λ (t : List ℕ). t ++ closing d) (said_silent J);
      no_holdings = λ other.
          answer_lines 66 79 input _ refl (text_adds records fits over ended 66 79 silent (line_silent 66 79 d refl refl refl) (closing d) refl refl (λ sound. closing_all 66 79 d sound refl refl))
          ∙ ap (λ (b : Bool). said_by silent J ++ (if b then closing d else [])) (over_is input ∙ zero_only (live_answer input).status other) ∙ append-nil (said_by silent J) ∙ said_silent J;
      refused = answer_lines 82 82 input _ refl (refuse_adds records fits over ended);
      faults = faults_are input (broken_texts (heard records).calls) (break_adds records fits over ended);
      once = λ n first last. told_once records n first last;
      told = told_in all seen;
      in_order = subst (λ (o : Bool). IsTold (heard records) o (told_in all seen)) (over_is input) (told_parts all seen);
      all = text_is input;
    }

pub live_texts_legal : (input : List ℕ) → IsOfDay input (live_answer input)
live_texts_legal input = texts_are_legal legal_statuses_fit input
