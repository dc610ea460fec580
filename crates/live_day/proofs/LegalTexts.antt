-- The lines of what records call for: those of a legal journal, what it tells, and the refused records.
use Rattle.std.proofs.Common.{◌≡◌, ◌∙◌, ◌+◌, ◌≤◌, ◌++◌, ℕ, suc, Bool, true, false, List, [], ◌∷◌, append_assoc, append-nil, length, refl, sym, ap, subst, arith}
use Rattle.std.specs.Prelude.{◌||◌, ◌==◌, decimal, filter_map, if◌then◌else◌, nat_le}
use Rattle.std.specs.List.{flat_map}
use Rattle.cash_amounts.specs.AmountText.{amount_text}
use Rattle.settlement_laws.proofs.Base.Lists.{IsIn}
use Rattle.batch_records.specs.DayRecord.{Day}
use Rattle.batch_records.specs.Sound.{is_sound}
use Rattle.batch_records.specs.Versions.{most_messages}
use Rattle.commit_journal.specs.Histories.{Begins}
use Rattle.commit_journal.specs.Line.{History, Line}
use Rattle.machine.specs.Telling.Balances.{balance}
use Rattle.machine.specs.Records.Setup.{account_numbers}
use Rattle.program_answers.specs.Answers.{ok_text, refusal_text}
use Rattle.status_messages.specs.declared.status.Status.{Status}
use Rattle.status_messages.specs.Statuses.{account_name, all_statuses, statuses}
use Rattle.as_client.specs.Reports.{holding_text}
use Rattle.as_client.specs.TextLaws.{AllFit}
use Rattle.as_client.proofs.AccountNames.{name_spelled}
use Rattle.as_client.proofs.TextFacts.{account_of, amount_free, name_free, number_free}
use Rattle.live_order.specs.LiveOrder.{live, live_journal}
use Rattle.live_order.proofs.Events.LiveGrows.{live_stays}
use Rattle.live_records.specs.Heard.{Call, Takes, Stops, Refuses, Breaks}
use Rattle.live_day.specs.Promises.{broken_by, refused_by}
use Rattle.live_day.specs.Events.{events_in}
use Rattle.live_day.specs.Told.{closing, refused_text, told_calls, told_event, told_line}
use Rattle.live_day.proofs.MadeLines.{AreTold, behind_adds, behind_by, said_by, said_on, silent}
use Rattle.live_day.proofs.MarkedLines.{Adds, added, adds_append, adds_each, adds_none, adds_nothing, adds_same, fault_adds, fault_none, line_adds, refused_adds}

-- ---- each line of a legal journal

fit_parts : (most : ℕ) (xs ys : List Status) → AllFit most (xs ++ ys) → AllFit most xs × AllFit most ys
fit_parts most [] ys h = (tt, h)
fit_parts most (x ∷ xs) ys h = let more = fit_parts most xs ys h.1 in ((h.0, more.0), more.1)

module _ (first second : ℕ) (day : Day) (say : History → Line → List ℕ) (each : (J : History) (l : Line) → AllFit (most_messages day.version) (statuses day J l) → Adds first second (told_line day J l) (say J l)) where
  pub told_all : (J : History) → AllFit (most_messages day.version) (all_statuses day J) → AreTold first second day say J
  unfolding all_statuses
  told_all [] h = tt
  told_all (l ∷ J) h = let parts = fit_parts (most_messages day.version) (all_statuses day J) (statuses day J l) h in (told_all J parts.0, each J l parts.1)

-- ---- along calls

module _ (first second : ℕ) (day : Day) (say : History → Line → List ℕ) where
  pub event_adds : (k : ℕ) → AreTold first second day say (live day (suc k) []) → Adds first second (told_event day k) (behind_by say (length (live day k [])) (live day (suc k) []))
  event_adds k h = behind_adds first second day say (length (live day k [])) (live day (suc k) []) h

  -- what was said so far, and what is said at an event
  pub event_on : (k : ℕ) → said_by say (live day (k + 1) []) ≡ said_by say (live day k []) ++ behind_by say (length (live day k [])) (live day (suc k) [])
  event_on k =
      let e : k + 1 ≡ suc k = omega arith in
      ap (λ (n : ℕ). said_by say (live day n [])) e ∙ said_on say (live day k []) (live day (suc k) []) (subst (λ (n : ℕ). Begins (live day k []) (live day n [])) e (live_stays day k 1))

  -- of calls whose refusals add nothing
  pub record Says (k : ℕ) (calls : List Call) : Type 0 where
    pub lines : List ℕ
    pub adds : Adds first second (told_calls day k calls) lines
    pub all : said_by say (live day (k + events_in calls) []) ≡ said_by say (live day k []) ++ lines

  abbrev AreToldTo : ℕ → Type 0
  AreToldTo n = (i : ℕ) → suc i ≤ n → AreTold first second day say (live day (suc i) [])

  says_event : (k : ℕ) (calls : List Call) → AreTold first second day say (live day (suc k) []) → (s : Says (k + 1) calls) → (lines : List ℕ) × Adds first second (told_event day k ++ told_calls day (k + 1) calls) lines × (said_by say (live day (k + suc (events_in calls)) []) ≡ said_by say (live day k []) ++ lines)
  says_event k calls h s =
      let here : List ℕ = behind_by say (length (live day k [])) (live day (suc k) []) in
      let e : k + suc (events_in calls) ≡ k + 1 + events_in calls = omega arith in (
        here ++ s.lines,
        adds_append first second (told_event day k) (told_calls day (k + 1) calls) here s.lines (event_adds k h) s.adds,
        ap (λ (n : ℕ). said_by say (live day n [])) e ∙ s.all ∙ ap (λ (t : List ℕ). t ++ s.lines) (event_on k) ∙ append_assoc (said_by say (live day k [])) here s.lines,
      )

  pub calls_say : (k n : ℕ) (calls : List Call) → AreToldTo n → k + events_in calls ≤ n → (82 == first || 82 == second) ≡ false → (69 == first || 69 == second) ≡ false → Says k calls
  unfolding told_calls
  calls_say k n [] h l none other = record {
    lines = [];
    adds = adds_nothing first second;
    all = (let e : k + 0 ≡ k = omega arith in ap (λ (i : ℕ). said_by say (live day i [])) e) ∙ sym (append-nil (said_by say (live day k [])));
  }
  calls_say k n (Takes ∷ calls) h l none other =
      let x = says_event k calls (h k (omega (arith, l))) (calls_say (k + 1) n calls h (omega (arith, l)) none other) in
      record { lines = x.0; adds = x.1; all = x.2 }
  calls_say k n (Stops ∷ calls) h l none other =
      let x = says_event k calls (h k (omega (arith, l))) (calls_say (k + 1) n calls h (omega (arith, l)) none other) in
      record { lines = x.0; adds = x.1; all = x.2 }
  calls_say k n (Refuses number code ∷ calls) h l none other =
      let s = calls_say k n calls h l none other in
      record {
        lines = s.lines;
        adds = adds_append first second (refused_text number code) (told_calls day k calls) [] s.lines (refused_adds first second number code false none) s.adds;
        all = s.all;
      }
  calls_say k n (Breaks number code ∷ calls) h l none other =
      let s = calls_say k n calls h l none other in
      record {
        lines = s.lines;
        adds = adds_append first second (refusal_text number code) (told_calls day k calls) [] s.lines (fault_none first second number code other) s.adds;
        all = s.all;
      }

-- ---- refused records

behind_silent : (i : ℕ) (J : History) → behind_by silent i J ≡ []
behind_silent i [] = refl
behind_silent i (l ∷ J) = ap (λ (t : List ℕ). t ++ (if nat_le i (length J) then silent J l else [])) (behind_silent i J) ∙ either (nat_le i (length J)) (silent J l) refl
  where
    either : (b : Bool) (x : List ℕ) → x ≡ [] → (if b then x else []) ≡ []
    either true x e = e
    either false x e = refl

module _ (first second : ℕ) (day : Day) where
  pub event_silent : (k : ℕ) → AreTold first second day silent (live day (suc k) []) → Adds first second (told_event day k) []
  event_silent k h =
      adds_same first second (told_event day k) (behind_by silent (length (live day k [])) (live day (suc k) [])) [] (behind_silent (length (live day k [])) (live day (suc k) [])) (event_adds first second day silent k h)

abbrev pub refused_texts : List Call → List ℕ
refused_texts calls = flat_map (λ x. refused_text x.0 x.1) (filter_map refused_by calls)

pub calls_refuse : (day : Day) (k n : ℕ) (calls : List Call) → ((i : ℕ) → suc i ≤ n → AreTold 82 82 day silent (live day (suc i) [])) → k + events_in calls ≤ n → Adds 82 82 (told_calls day k calls) (refused_texts calls)
unfolding told_calls
calls_refuse day k n [] h l = adds_nothing 82 82
calls_refuse day k n (Takes ∷ calls) h l =
    adds_append 82 82 (told_event day k) (told_calls day (k + 1) calls) [] (refused_texts calls) (event_silent 82 82 day k (h k (omega (arith, l)))) (calls_refuse day (k + 1) n calls h (omega (arith, l)))
calls_refuse day k n (Stops ∷ calls) h l =
    adds_append 82 82 (told_event day k) (told_calls day (k + 1) calls) [] (refused_texts calls) (event_silent 82 82 day k (h k (omega (arith, l)))) (calls_refuse day (k + 1) n calls h (omega (arith, l)))
calls_refuse day k n (Refuses number code ∷ calls) h l =
    adds_append 82 82 (refused_text number code) (told_calls day k calls) (refused_text number code) (refused_texts calls) (refused_adds 82 82 number code true refl) (calls_refuse day k n calls h l)
calls_refuse day k n (Breaks number code ∷ calls) h l =
    adds_append 82 82 (refusal_text number code) (told_calls day k calls) [] (refused_texts calls) (fault_none 82 82 number code refl) (calls_refuse day k n calls h l)

-- the bad record that ended the run
abbrev pub broken_texts : List Call → List ℕ
broken_texts calls = flat_map (λ x. refusal_text x.0 x.1) (filter_map broken_by calls)

pub calls_break : (day : Day) (k n : ℕ) (calls : List Call) → ((i : ℕ) → suc i ≤ n → AreTold 69 69 day silent (live day (suc i) [])) → k + events_in calls ≤ n → Adds 69 69 (told_calls day k calls) (broken_texts calls)
unfolding told_calls
calls_break day k n [] h l = adds_nothing 69 69
calls_break day k n (Takes ∷ calls) h l =
    adds_append 69 69 (told_event day k) (told_calls day (k + 1) calls) [] (broken_texts calls) (event_silent 69 69 day k (h k (omega (arith, l)))) (calls_break day (k + 1) n calls h (omega (arith, l)))
calls_break day k n (Stops ∷ calls) h l =
    adds_append 69 69 (told_event day k) (told_calls day (k + 1) calls) [] (broken_texts calls) (event_silent 69 69 day k (h k (omega (arith, l)))) (calls_break day (k + 1) n calls h (omega (arith, l)))
calls_break day k n (Refuses number code ∷ calls) h l =
    adds_append 69 69 (refused_text number code) (told_calls day k calls) [] (broken_texts calls) (refused_adds 69 69 number code false refl) (calls_break day k n calls h l)
calls_break day k n (Breaks number code ∷ calls) h l =
    adds_append 69 69 (refusal_text number code) (told_calls day k calls) (refusal_text number code) (broken_texts calls) (fault_adds 69 69 number code true refl) (calls_break day k n calls h l)

-- ---- what each account holds

module _ (first second : ℕ) (day : Day) (sound : is_sound day ≡ true) where
  holding_adds : (a : ℕ) (found : Bool) → IsIn a (account_numbers day) → (66 == first || 66 == second) ≡ found → Adds first second (holding_text day a (balance day (live_journal day) a)) (added found (holding_text day a (balance day (live_journal day) a)))
  holding_adds a found i is =
      line_adds first second 66 [] (account_name day a) (amount_text (balance day (live_journal day) a) ∷ []) found is (refl, (name_free (account_name day a) (name_spelled day a sound (account_of day a i)), (amount_free (balance day (live_journal day) a), tt)))

  count_adds : (count : ℕ) (found : Bool) → (79 == first || 79 == second) ≡ found → Adds first second (ok_text count) (added found (ok_text count))
  count_adds count found is = line_adds first second 79 (75 ∷ []) (decimal count) [] found is (refl, (number_free count, tt))

  pub closing_none : (66 == first || 66 == second) ≡ false → (79 == first || 79 == second) ≡ false → Adds first second (closing day) []
  closing_none other none =
      adds_append first second (flat_map (λ a. holding_text day a (balance day (live_journal day) a)) (account_numbers day)) (ok_text (length (live_journal day))) [] []
      (adds_none first second (λ a. holding_text day a (balance day (live_journal day) a)) (account_numbers day) (λ a i. holding_adds a false i other)) (count_adds (length (live_journal day)) false none)

  pub closing_all : (66 == first || 66 == second) ≡ true → (79 == first || 79 == second) ≡ true → Adds first second (closing day) (closing day)
  closing_all is all =
      adds_append first second (flat_map (λ a. holding_text day a (balance day (live_journal day) a)) (account_numbers day)) (ok_text (length (live_journal day)))
      (flat_map (λ a. holding_text day a (balance day (live_journal day) a)) (account_numbers day)) (ok_text (length (live_journal day)))
      (adds_each first second (λ a. holding_text day a (balance day (live_journal day) a)) (account_numbers day) (λ a i. holding_adds a true i is)) (count_adds (length (live_journal day)) true all)
