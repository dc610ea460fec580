-- What the facts are after a message came in: a row more for it, and all else as before.
use Rattle.std.proofs.Common.{◌≡◌, ◌∙◌, ℕ, zero, suc, ◌+◌, ◌<◌, ◌≤◌, true, cond, not, ◌&&◌, ◌||◌, List, [], ◌∷◌, ◌++◌, Option, Some, None, length, map, refl, sym, ap, arith, if◌then◌else◌}
use Rattle.std.specs.Prelude.{count_by, fold, is_none, is_some, max, nat_le, unwrap_or}
use Rattle.std.specs.List.{find, range_with_len}
use Rattle.std.specs.Option.{option_or}
use Rattle.std.proofs.lemmas.List.{length_push, map-id}
use Rattle.std.proofs.lemmas.Bool.{lt-leb}
use Rattle.std.proofs.lemmas.List.Folds.{find-append}
use Rattle.std.proofs.lemmas.List.Sums.{sum_by_push}
use Rattle.std.proofs.lemmas.List.FromFn.{length-map-range_with_len, map-range_with_len_more}
use Rattle.batch_records.specs.DayRecord.{Day}
use Rattle.batch_records.specs.declared.day.Message.{Message}
use Rattle.commit_journal.specs.Line.{Line, History}
use Rattle.machine.specs.Words.{numbered}
use Rattle.machine.specs.Records.Messages.{Sort, BatchA, BatchE, debit_numbers, is_debit, item_numbers, message_numbers, sort_of}
use Rattle.machine.specs.Telling.History.{booked, clock, taken}
use Rattle.machine.specs.Telling.Facts.{round}
use Rattle.machine.specs.Stages.Phases.{is_booked}
use Rattle.machine.specs.Stages.Pending.{last_debit_booked}
use Rattle.machine.specs.Legal.{IsLegal}
use Rattle.live_order.specs.LiveOrder.{stop_at}
use Rattle.live_order.specs.Longer.{GoesOn, SpeaksOf, longer}
use Rattle.live_order.proofs.Events.Passing.{still_legal}
use Rattle.live_order.proofs.Longer.FactsSame.{answer_same, answered_same, revoked_same}
use Rattle.live_order.proofs.Longer.Known.{by_sort, debit_numbers_same, entries_same, is_credit_same, is_debit_same, message_same, sort_same}
use Rattle.live_order.proofs.Longer.Ranges.{numbered_front}
use Rattle.live_order.proofs.Longer.Spoken.{never_taken}
use Rattle.live_order.proofs.Runs.Speaking.{speaks}
use Rattle.day_facts.specs.declared.stages.Stage.{Stage}
use Rattle.day_facts.specs.declared.stages.Stage.TheVariants as stages
use Rattle.day_facts.specs.Arrivals.{next_number, room_after, with_one, with_row}
use Rattle.day_facts.specs.Cycles.{all_cycles, cycles_after, cycles_by, said_by, start_of}
use Rattle.day_facts.specs.Facts.{Facts, FactsRoom, StandsFor, facts_of}
use Rattle.day_facts.specs.Left.{counts, debits_row, is_given_up, is_kept, is_single, kept_row, waiting_row, waits}
use Rattle.day_facts.specs.Own.{booked_row, own_of}
use Rattle.day_facts.specs.Phasing.{stage_by}
use Rattle.day_facts.specs.Told.{is_taken_well, parts_of, revoked_row, told_of}
use Rattle.day_facts.specs.Untaken.{first_untaken}
use Rattle.day_facts.proofs.NewMessage.{book_none, own_none, revoked_none, told_none}
use Rattle.day_facts.proofs.StageLines.{last_stage, stage_same}

map_same : {X : Type 0} (f g : ℕ → X) (s len : ℕ) → ((i : ℕ) → s ≤ i → i < s + len → f i ≡ g i) → map f (range_with_len s len) ≡ map g (range_with_len s len)
map_same f g s zero same = refl
map_same f g s (suc len) same = λ j. same s (omega arith) (omega arith) j ∷ map_same f g (s + 1) len (λ i low high. same i (omega arith) (omega arith)) j

append_nil : {X : Type 0} (xs : List X) → xs ++ [] ≡ xs
append_nil [] = refl
append_nil (x ∷ xs) = ap (λ ys. x ∷ ys) (append_nil xs)

module _ (day : Day) (ms : List Message) (ss : List ℕ) where
  -- ---- of a message that was there

  module _ (J : History) (s : SpeaksOf (length day.messages) J) where
    pub told_same : (n : ℕ) → n ≤ length day.messages → told_of (longer day ms ss) J n ≡ told_of day J n
    unfolding told_of
    told_same n h = λ j. record { answered = answered_same day ms ss J s n h j; answer = answer_same day ms ss J s n h j }

    items_same : (n : ℕ) → n ≤ length day.messages → item_numbers (longer day ms ss) n ≡ item_numbers day n
    items_same n h = ap (λ es. range_with_len 0 (suc (length es))) (entries_same day ms ss n h)

    pub booked_same : (n : ℕ) → n ≤ length day.messages → booked_row (longer day ms ss) J n ≡ booked_row day J n
    booked_same n h = ap (map (booked J n)) (items_same n h)

    parts_by : (n : ℕ) → n ≤ length day.messages → (k : Sort) → parts_of k (longer day ms ss) n ≡ parts_of k day n
    parts_by n h BatchE = ap (λ es. suc (length es)) (entries_same day ms ss n h)
    parts_by n h _ = refl

    pub revoked_row_same : (n : ℕ) → n ≤ length day.messages → revoked_row (longer day ms ss) J n ≡ revoked_row day J n
    revoked_row_same n h = λ j. map (λ k. revoked_same day ms ss J s n k h j)
        (range_with_len 0 (by_sort day ms ss (λ k. parts_of k (longer day ms ss) n) (λ k. parts_of k day n) (parts_by n h) n h j))

    pub debits_same : (n : ℕ) → n ≤ length day.messages → debits_row (longer day ms ss) J n ≡ debits_row day J n
    debits_same n h = λ j. map (λ k. is_debit_same day ms ss n k h j && not (is_booked J n k)) (items_same n h j)

    counts_by : (n k : ℕ) → n ≤ length day.messages → (x : Sort) → counts x (longer day ms ss) n k ≡ counts x day n k
    counts_by n k h BatchA = is_credit_same day ms ss n k h
    counts_by n k h _ = refl

    given_by : (n k : ℕ) → n ≤ length day.messages → (x : Sort) → is_given_up x (longer day ms ss) J n k ≡ is_given_up x day J n k
    given_by n k h BatchE = ap is_some (revoked_same day ms ss J s n k h)
    given_by n k h _ = refl

    waits_same : (n k : ℕ) → n ≤ length day.messages → waits (sort_of (longer day ms ss) n) (longer day ms ss) J J n k ≡ waits (sort_of day n) day J J n k
    waits_same n k h = by_sort day ms ss (λ x. waits x (longer day ms ss) J J n k) (λ x. waits x day J J n k) (λ x j. counts_by n k h x j && not (is_booked J n k || given_by n k h x j)) n h

    pub waiting_same : (n : ℕ) → n ≤ length day.messages → waiting_row (longer day ms ss) J J n ≡ waiting_row day J J n
    waiting_same n h = λ j. map (λ k. waits_same n k h j) (items_same n h j)

    is_kept_same : (n k : ℕ) → n ≤ length day.messages → is_kept (sort_of (longer day ms ss) n) (longer day ms ss) J n k ≡ is_kept (sort_of day n) day J n k
    is_kept_same n k h = by_sort day ms ss (λ x. is_kept x (longer day ms ss) J n k) (λ x. is_kept x day J n k) (λ x. ap (λ o. is_single x k && not (is_some o)) (revoked_same day ms ss J s n k h)) n h

    pub kept_same : (n : ℕ) → n ≤ length day.messages → kept_row (longer day ms ss) J n ≡ kept_row day J n
    kept_same n h = λ j. map (λ k. is_kept_same n k h j) (items_same n h j)

    pub last_same : (n : ℕ) → n ≤ length day.messages → last_debit_booked (longer day ms ss) J n ≡ last_debit_booked day J n
    last_same n h = ap (fold (λ last k. max last (unwrap_or (booked J n k) 0)) 0) (debit_numbers_same day ms ss n h)

    -- ---- of systems

    said_same : (i : ℕ) (l : Line) → l.head.msg ≤ length day.messages → said_by (longer day ms ss) i l ≡ said_by day i l
    said_same i l low = ap (λ o. if is_taken_well l.head then start_of day i o else None) (message_same day ms ss l.head.msg low)

  cycles_same : (i : ℕ) (J : History) → SpeaksOf (length day.messages) J → cycles_by (longer day ms ss) J i ≡ cycles_by day J i
  unfolding cycles_by
  cycles_same i [] s = refl
  cycles_same i (l ∷ J) s = λ j. cycles_after (said_same J s.0 i l s.1 j) (suc (length J)) (cycles_same i J s.0 j)

module _ (day : Day) (m : Message) where
  -- a table by message has one row more
  rows_more : {X : Type 0} (f g : ℕ → X) (x : X) → ((i : ℕ) → i ≤ length day.messages → g i ≡ f i) → g (next_number day) ≡ x → map g (message_numbers (with_one day m)) ≡ map f (message_numbers day) ++ x ∷ []
  rows_more f g x same new =
      let long : length (day.messages ++ m ∷ []) ≡ length day.messages + 1 = length_push day.messages m in
      let at : 1 + length day.messages ≡ next_number day = omega arith in
      ap (λ len. map g (range_with_len 1 len)) long
      ∙ (map-range_with_len_more g 1 (length day.messages) (next_number day) at
      ∙ (λ j. map_same g f 1 (length day.messages) (λ i low high. same i (omega arith)) j ++ new j ∷ []))

  abbrev count : ℕ
  count = length day.messages

  abbrev after : Day
  after = with_one day m

  -- ---- of the new one

  module _ (J : History) (legal : IsLegal day J) where
    s : SpeaksOf count J
    s = speaks day J legal

    new_booked : (k : ℕ) → booked J (next_number day) k ≡ booked [] (next_number day) k
    new_booked k = book_none count (next_number day) k J s (omega arith)

    new_booked_row : booked_row after J (next_number day) ≡ booked_row after [] (next_number day)
    new_booked_row = λ j. map (λ k. new_booked k j) (item_numbers after (next_number day))

    new_revoked_row : revoked_row after J (next_number day) ≡ revoked_row after [] (next_number day)
    new_revoked_row = λ j. map (λ k. revoked_none day m J k legal j) (range_with_len 0 (parts_of (sort_of after (next_number day)) after (next_number day)))

    new_debits : debits_row after J (next_number day) ≡ debits_row after [] (next_number day)
    new_debits = λ j. map (λ k. is_debit after (next_number day) k && not (is_some (new_booked k j))) (item_numbers after (next_number day))

    given_new : (k : ℕ) (x : Sort) → is_given_up x after J (next_number day) k ≡ is_given_up x after [] (next_number day) k
    given_new k BatchE = ap is_some (revoked_none day m J k legal)
    given_new k _ = refl

    new_waiting : waiting_row after J J (next_number day) ≡ waiting_row after [] [] (next_number day)
    new_waiting = λ j. map (λ k. counts (sort_of after (next_number day)) after (next_number day) k && not (is_some (new_booked k j) || given_new k (sort_of after (next_number day)) j)) (item_numbers after (next_number day))

    new_kept : kept_row after J (next_number day) ≡ kept_row after [] (next_number day)
    new_kept = λ j. map (λ k. is_single (sort_of after (next_number day)) k && not (is_some (revoked_none day m J k legal j))) (item_numbers after (next_number day))

    new_last : last_debit_booked after J (next_number day) ≡ last_debit_booked after [] (next_number day)
    new_last = λ j. fold (λ last k. max last (unwrap_or (new_booked k j) 0)) 0 (debit_numbers after (next_number day))

    -- ---- the first message that isn't taken

    next_same : first_untaken after J ≡ first_untaken day J
    next_same = by (find (λ i. is_none (taken J i)) (message_numbers day)) refl
      where
        new : is_none (taken J (next_number day)) ≡ true
        new = ap is_none (never_taken count (next_number day) J s (omega arith))

        all : find (λ i. is_none (taken J i)) (message_numbers after) ≡ option_or (find (λ i. is_none (taken J i)) (message_numbers day)) (find (λ i. is_none (taken J i)) (next_number day ∷ []))
        all = ap (find (λ i. is_none (taken J i))) counted ∙ find-append (λ i. is_none (taken J i)) (message_numbers day) (next_number day ∷ [])
          where
            counted : message_numbers after ≡ message_numbers day ++ next_number day ∷ []
            counted = sym (map-id (message_numbers after)) ∙ (rows_more (λ i. i) (λ i. i) (next_number day) (λ i h. refl) refl ∙ ap (λ xs. xs ++ next_number day ∷ []) (map-id (message_numbers day)))

        by : (o : Option ℕ) → find (λ i. is_none (taken J i)) (message_numbers day) ≡ o → first_untaken after J ≡ first_untaken day J
        by (Some i) e =
            ap (λ o. unwrap_or o (length after.messages + 1)) (all ∙ ap (λ o. option_or o (find (λ i. is_none (taken J i)) (next_number day ∷ []))) e)
            ∙ sym (ap (λ o. unwrap_or o (length day.messages + 1)) e)
        by None e =
            let here : find (λ i. is_none (taken J i)) (next_number day ∷ []) ≡ Some (next_number day) = ap (λ b. cond b (Some (next_number day)) None) new in
            let at : next_number day ≡ count + 1 = omega arith in
            ap (λ o. unwrap_or o (length after.messages + 1)) (all ∙ (ap (λ o. option_or o (find (λ i. is_none (taken J i)) (next_number day ∷ []))) e ∙ here))
            ∙ (at ∙ sym (ap (λ o. unwrap_or o (length day.messages + 1)) e))

    round_same : round after J ≡ round day J
    round_same = ap (count_by (λ stop. nat_le stop (clock J))) (append_nil day.stops)

    pub facts_longer : (kept : List Stage) (systems : ℕ) (room : FactsRoom) → facts_of after J (kept ++ stages.Untaken ∷ []) systems (room_after after (next_number day) room) ≡ with_row after (next_number day) (facts_of day J kept systems room)
    facts_longer kept systems room = λ j. record {
      own = rows_more (own_of J) (own_of J) (own_of [] (next_number day)) (λ i h. refl) (own_none count (next_number day) J s (omega arith)) j;
      told = rows_more (told_of day J) (told_of after J) (told_of after [] (next_number day)) (told_same day (m ∷ []) [] J s) (told_none day m J legal) j;
      booked = rows_more (booked_row day J) (booked_row after J) (booked_row after [] (next_number day)) (booked_same day (m ∷ []) [] J s) new_booked_row j;
      revoked = rows_more (revoked_row day J) (revoked_row after J) (revoked_row after [] (next_number day)) (revoked_row_same day (m ∷ []) [] J s) new_revoked_row j;
      debits = rows_more (debits_row day J) (debits_row after J) (debits_row after [] (next_number day)) (debits_same day (m ∷ []) [] J s) new_debits j;
      waiting = rows_more (waiting_row day J J) (waiting_row after J J) (waiting_row after [] [] (next_number day)) (waiting_same day (m ∷ []) [] J s) new_waiting j;
      kept = rows_more (kept_row day J) (kept_row after J) (kept_row after [] (next_number day)) (kept_same day (m ∷ []) [] J s) new_kept j;
      last = rows_more (last_debit_booked day J) (last_debit_booked after J) (last_debit_booked after [] (next_number day)) (last_same day (m ∷ []) [] J s) new_last j;
      stages = kept ++ stages.Untaken ∷ [];
      cycles = cycles_all j;
      openings = (facts_of day J kept systems room).openings;
      next = next_same j;
      clock = (facts_of day J kept systems room).clock;
      round = round_same j;
      ended = (facts_of day J kept systems room).ended;
      lines = (facts_of day J kept systems room).lines;
      room = room_after after (next_number day) room;
    }
      where
        cycles_all : all_cycles after systems J ≡ all_cycles day systems J
        cycles_all = λ j. map (λ i. cycles_same day (m ∷ []) [] i J s j) (range_with_len 1 systems)

-- ---- the stages with that of the new message

pub staged_longer : (day : Day) (m : Message) (J : History) (facts new : Facts) → StandsFor day J facts → new ≡ with_row (with_one day m) (next_number day) facts → new.stages ≡ map (stage_by (with_one day m) new) (message_numbers (with_one day m))
staged_longer day m J facts new stands e =
    ap (λ (f : Facts). f.stages) e
    ∙ (ap (λ xs. xs ++ stages.Untaken ∷ []) stands.staged
    ∙ (sym (rows_more day m (stage_by day facts) (stage_by after row) stages.Untaken same (last_stage after row facts.own (next_number day) (next_number day) refl (ap suc (sym owns))))
    ∙ sym (ap (λ (f : Facts). map (stage_by after f) (message_numbers after)) e)))
  where
    after : Day
    after = with_one day m

    row : Facts
    row = with_row after (next_number day) facts

    owns : length facts.own ≡ length day.messages
    owns = ap (λ (f : Facts). length f.own) stands.exact ∙ length-map-range_with_len (own_of J) 1 (length day.messages)

    tolds : length facts.told ≡ length day.messages
    tolds = ap (λ (f : Facts). length f.told) stands.exact ∙ length-map-range_with_len (told_of day J) 1 (length day.messages)

    places : length facts.booked ≡ length day.messages
    places = ap (λ (f : Facts). length f.booked) stands.exact ∙ length-map-range_with_len (booked_row day J) 1 (length day.messages)

    objected : length facts.revoked ≡ length day.messages
    objected = ap (λ (f : Facts). length f.revoked) stands.exact ∙ length-map-range_with_len (revoked_row day J) 1 (length day.messages)

    waits : length facts.waiting ≡ length day.messages
    waits = ap (λ (f : Facts). length f.waiting) stands.exact ∙ length-map-range_with_len (waiting_row day J J) 1 (length day.messages)

    keeps : length facts.kept ≡ length day.messages
    keeps = ap (λ (f : Facts). length f.kept) stands.exact ∙ length-map-range_with_len (kept_row day J) 1 (length day.messages)

    front : {X : Type 0} (xs : List X) (x : X) (n : ℕ) → n ≤ length day.messages → length xs ≡ length day.messages → numbered (xs ++ x ∷ []) n ≡ numbered xs n
    front xs x n low size = numbered_front xs (x ∷ []) n (omega (arith, low, size))

    same : (n : ℕ) → n ≤ length day.messages → stage_by after row n ≡ stage_by day facts n
    same n low = stage_same after day row facts n (record {
      sort = sort_same day (m ∷ []) [] n low;
      owns = front facts.own (own_of [] (next_number day)) n low owns;
      tolds = front facts.told (told_of after [] (next_number day)) n low tolds;
      places = front facts.booked (booked_row after [] (next_number day)) n low places;
      objected = front facts.revoked (revoked_row after [] (next_number day)) n low objected;
      waits = front facts.waiting (waiting_row after [] [] (next_number day)) n low waits;
      keeps = front facts.kept (kept_row after [] (next_number day)) n low keeps;
    })

pub message_comes : (day : Day) (m : Message) (J : History) (facts : Facts) → GoesOn day (m ∷ []) [] → clock J ≤ stop_at day (length day.stops) → StandsFor day J facts
    → StandsFor (with_one day m) J (with_row (with_one day m) (next_number day) facts)
message_comes day m J facts goes low stands = record {
  legal = still_legal day (m ∷ []) [] goes J stands.legal low;
  exact = ap (with_row (with_one day m) (next_number day)) stands.exact ∙ sym (facts_longer day m J stands.legal facts.stages (length facts.cycles) facts.room);
  systems = stands.systems;
  staged = staged_longer day m J facts (with_row (with_one day m) (next_number day) facts) stands refl;
}

-- ---- a stop

module _ (day : Day) (t : ℕ) where
  rows_all : {X : Type 0} (f g : ℕ → X) → ((i : ℕ) → i ≤ length day.messages → g i ≡ f i) → map g (message_numbers (longer day [] (t ∷ []))) ≡ map f (message_numbers day)
  rows_all f g same =
      ap (λ ms. map g (range_with_len 1 (length ms))) (append_nil day.messages)
      ∙ map_same g f 1 (length day.messages) (λ i low high. same i (omega arith))

  round_kept : (J : History) → clock J < t → round (longer day [] (t ∷ [])) J ≡ round day J
  round_kept J late =
      sum_by_push (λ stop. if nat_le stop (clock J) then 1 else 0) day.stops t
      ∙ (ap (λ b. count_by (λ stop. nat_le stop (clock J)) day.stops + (if b then 1 else 0)) (lt-leb t (clock J) late)
      ∙ (let e : count_by (λ stop. nat_le stop (clock J)) day.stops + 0 ≡ count_by (λ stop. nat_le stop (clock J)) day.stops = omega arith in e))

  pub facts_kept : (J : History) (kept : List Stage) (systems : ℕ) (room : FactsRoom) → IsLegal day J → clock J < t → facts_of (longer day [] (t ∷ [])) J kept systems room ≡ facts_of day J kept systems room
  facts_kept J kept systems room legal late =
      let s = speaks day J legal in
      λ j. record {
        own = rows_all (own_of J) (own_of J) (λ i h. refl) j;
        told = rows_all (told_of day J) (told_of (longer day [] (t ∷ [])) J) (told_same day [] (t ∷ []) J s) j;
        booked = rows_all (booked_row day J) (booked_row (longer day [] (t ∷ [])) J) (booked_same day [] (t ∷ []) J s) j;
        revoked = rows_all (revoked_row day J) (revoked_row (longer day [] (t ∷ [])) J) (revoked_row_same day [] (t ∷ []) J s) j;
        debits = rows_all (debits_row day J) (debits_row (longer day [] (t ∷ [])) J) (debits_same day [] (t ∷ []) J s) j;
        waiting = rows_all (waiting_row day J J) (waiting_row (longer day [] (t ∷ [])) J J) (waiting_same day [] (t ∷ []) J s) j;
        kept = rows_all (kept_row day J) (kept_row (longer day [] (t ∷ [])) J) (kept_same day [] (t ∷ []) J s) j;
        last = rows_all (last_debit_booked day J) (last_debit_booked (longer day [] (t ∷ [])) J) (last_same day [] (t ∷ []) J s) j;
        stages = kept;
        cycles = map (λ i. cycles_same day [] (t ∷ []) i J s j) (range_with_len 1 systems);
        openings = (facts_of day J kept systems room).openings;
        next = unwrap_or (find (λ i. is_none (taken J i)) (range_with_len 1 (length (append_nil day.messages j)))) (length (append_nil day.messages j) + 1);
        clock = (facts_of day J kept systems room).clock;
        round = round_kept J late j;
        ended = (facts_of day J kept systems room).ended;
        lines = (facts_of day J kept systems room).lines;
        room = room;
      }

  pub staged_still : (facts : Facts) → facts.stages ≡ map (stage_by day facts) (message_numbers day) → facts.stages ≡ map (stage_by (longer day [] (t ∷ [])) facts) (message_numbers (longer day [] (t ∷ [])))
  staged_still facts staged = staged ∙ sym (rows_all (stage_by day facts) (stage_by (longer day [] (t ∷ [])) facts) (λ n low. stage_same (longer day [] (t ∷ [])) day facts facts n (record {
    sort = sort_same day [] (t ∷ []) n low;
    owns = refl;
    tolds = refl;
    places = refl;
    objected = refl;
    waits = refl;
    keeps = refl;
  })))

pub stop_comes : (day : Day) (t : ℕ) (J : History) (facts : Facts) → GoesOn day [] (t ∷ []) → clock J ≤ stop_at day (length day.stops) → clock J < t → StandsFor day J facts → StandsFor (longer day [] (t ∷ [])) J facts
stop_comes day t J facts goes low late stands = record {
  legal = still_legal day [] (t ∷ []) goes J stands.legal low;
  exact = stands.exact ∙ sym (facts_kept day t J facts.stages (length facts.cycles) facts.room stands.legal late);
  systems = stands.systems;
  staged = staged_still day t facts stands.staged;
}
