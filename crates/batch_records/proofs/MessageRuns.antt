-- The records of sound messages and stops are fine.
use Rattle.std.proofs.Common.{◌≡◌, ◌<◌, ◌≤◌, ◌+◌, ◌^◌, ℕ, suc, List, [], ◌∷◌, ◌++◌, Option, Bool, true, false, length, map, drop, refl, subst, arith, append_assoc, append-nil, add-zero, length-append}
use Rattle.std.specs.Prelude.{◌&&◌, nat_le, nat_lt, sum_by}
use Rattle.std.specs.List.{list_all, slice_range}
use Rattle.std.proofs.lemmas.List.Folds.{drop_split}
use Rattle.std.proofs.lemmas.List.Sums.{sum_by-cons}
use Rattle.cash_amounts.specs.Names.{is_id, is_name}
use Rattle.cash_amounts.specs.declared.cents.TheConstants.{MAX_CENTS}
use Rattle.cash_amounts.specs.declared.records.AccountRecord.{AccountRecord}
use Rattle.cash_amounts.specs.declared.records.Procedure.{Procedure}
use Rattle.cash_amounts.specs.declared.records.SystemRecord.{SystemRecord}
use Rattle.period_calendar.specs.Calendar.{CivilDay}
use Rattle.batch_records.specs.Codes.{has_bad_setup, has_bad_time, is_out_of_place, is_past_limit, is_twice}
use Rattle.batch_records.specs.DayTexts.{body_record, end_record, entry_record, message_records, moment_records, stop_record, procedure_word}
use Rattle.batch_records.specs.Kinds.{fields_in, has_bad_amount, has_bad_date, has_bad_id, has_bad_name, has_bad_number, has_closing_date, has_other_fields, has_other_word, kind_named}
use Rattle.batch_records.specs.Made.{last_stop}
use Rattle.batch_records.specs.Meets.{is_cents}
use Rattle.batch_records.specs.Sound.{entries_in, is_amount, is_sound_body, is_time_or_none, are_times, rounds_rise, stops_rise, has_few_entries, has_fit_earliest}
use Rattle.batch_records.specs.Step.{after_kind, is_batch_body, with_entry}
use Rattle.batch_records.specs.declared.day.Body.{Body}
use Rattle.batch_records.specs.declared.day.Body.TheVariants as bodies
use Rattle.batch_records.specs.declared.day.Entry.{Entry}
use Rattle.batch_records.specs.declared.day.Message.{Message}
use Rattle.batch_records.specs.declared.day.Reserve.{Reserve}
use Rattle.batch_records.specs.declared.kinds.RecordKind.TheVariants as record_kinds
use Rattle.batch_records.specs.declared.so_far.SoFar.{SoFar}
use Rattle.batch_records.proofs.BoolFacts.{and_both, le_meant, lt_meant, lt_test}
use Rattle.batch_records.proofs.EntryFacts.{last_entries_are}
use Rattle.batch_records.proofs.KeptDay.{is_kept_body, is_kept_entry, is_kept_message}
use Rattle.batch_records.proofs.LastFacts.{last_is, with_last-split}
use Rattle.batch_records.proofs.MadeBack.{entry_back, grouped, segment_long}
use Rattle.batch_records.proofs.RunFacts.{RunsTo, Step, first_none, le_not, runs_then, state}
use Rattle.batch_records.proofs.SpellingFacts.{amount_back, amount_reads, answer_reads, count_back, count_reads, cycle_reads, priority_reads, procedure_reads, time_reads}
use Rattle.batch_records.specs.Versions.{most_entries, most_entries_of_day, most_messages}
use Rattle.batch_records.proofs.BatchFields.{count_is, early_word, end_back, end_fine, fit_parts, form_is, from_is, info_is, sum_is, till_is}

-- ---- stops

stop_step : (version : ℕ) (date : CivilDay) (accounts : List AccountRecord) (systems : List SystemRecord) (reserves : List Reserve) (done : List ℕ) (messages : List Message) (o : ℕ) (b c : Bool) (n t : ℕ) → last_stop done < t → t < 86400
    → Step (state version date accounts systems reserves done messages o b c n) (stop_record t) (state version date accounts systems reserves (done ++ t ∷ []) messages o true false n)
unfolding kind_named fields_in has_other_fields after_kind has_other_word is_out_of_place has_bad_date has_closing_date has_bad_name has_bad_id has_bad_number has_bad_amount has_bad_time is_twice has_bad_setup is_past_limit
stop_step version date accounts systems reserves done messages o b c n t above below =
    let reads = time_reads t (omega arith) in (
      first_none record_kinds.Tim (state version date accounts systems reserves done messages o b c n) (stop_record t) refl refl (record {
        words = refl;
        place = refl;
        dates = refl;
        closed = refl;
        names = refl;
        ids = refl;
        numbers = refl;
        amounts = refl;
        times = rw (reads, lt_test (last_stop done) t above, lt_test t 86400 below) refl;
        twice = refl;
        setup = refl;
        limit = refl;
      }),
      rw reads refl,
    )

last_stop_next : (done : List ℕ) (t : ℕ) → last_stop (done ++ t ∷ []) ≡ t
last_stop_next done t = rw (last_is done t) refl

-- some stops, and what is then known of those after them
pub record StopsRun (version : ℕ) (date : CivilDay) (accounts : List AccountRecord) (systems : List SystemRecord) (reserves : List Reserve) (done seg more : List ℕ) (messages : List Message) (o : ℕ) (b c : Bool) (n : ℕ) : Type 0 where
  pub begun : Bool
  pub batch : Bool
  pub run : RunsTo (state version date accounts systems reserves done messages o b c n) (map stop_record seg) (state version date accounts systems reserves (done ++ seg) messages o begun batch n)
  pub rise : stops_rise (last_stop (done ++ seg)) more ≡ true

stops_run : (version : ℕ) (date : CivilDay) (accounts : List AccountRecord) (systems : List SystemRecord) (reserves : List Reserve) (done seg more : List ℕ) (messages : List Message) (o : ℕ) (b c : Bool) (n : ℕ) → stops_rise (last_stop done) (seg ++ more) ≡ true
    → StopsRun version date accounts systems reserves done seg more messages o b c n
stops_run version date accounts systems reserves done [] more messages o b c n rise = record { begun = b; batch = c; run = rw (append-nil done) refl; rise = rw (append-nil done) rise }
stops_run version date accounts systems reserves done (t ∷ seg) more messages o b c n rise =
    let rest = and_both (nat_lt (last_stop done) t && nat_lt t 86400) (stops_rise t (seg ++ more)) rise in
    let ends = and_both (nat_lt (last_stop done) t) (nat_lt t 86400) rest.0 in
    let h = stops_run version date accounts systems reserves (done ++ t ∷ []) seg more messages o true false n (rw (last_stop_next done t) rest.1) in
    let same : (done ++ t ∷ []) ++ seg ≡ done ++ t ∷ seg = append_assoc done (t ∷ []) seg in
    record {
      begun = h.begun;
      batch = h.batch;
      run = (
        state version date accounts systems reserves (done ++ t ∷ []) messages o true false n,
        stop_step version date accounts systems reserves done messages o b c n t (lt_meant (last_stop done) t ends.0) (lt_meant t 86400 ends.1),
        subst (λ (l : List ℕ). RunsTo (state version date accounts systems reserves (done ++ t ∷ []) messages o true false n) (map stop_record seg) (state version date accounts systems reserves l messages o h.begun h.batch n)) same h.run,
      );
      rise = rw (← same) h.rise;
    }

-- ---- the record of a message

-- a batch before its entries
abbrev bare : Body → Body
bare (bodies.Batch p info early till count sum entries) = bodies.Batch p info early till count sum []
bare b = b

-- what a message's record is made to after these
abbrev BodyStep : ℕ → CivilDay → List AccountRecord → List SystemRecord → List Reserve → List ℕ → List Message → ℕ → Bool → Bool → ℕ → List ℕ → List ℕ → Body → Type 0
BodyStep version date accounts systems reserves stops done o b c n sender id bd =
    Step (state version date accounts systems reserves stops done o b c n) (body_record version sender id bd)
    (state version date accounts systems reserves stops (done ++ record { round = length stops; sender = sender; id = id; body = bare bd } ∷ []) o true (is_batch_body bd) n)

body_step : (version : ℕ) (date : CivilDay) (accounts : List AccountRecord) (systems : List SystemRecord) (reserves : List Reserve) (stops : List ℕ) (done : List Message) (o : ℕ) (b c : Bool) (n : ℕ) (sender id : List ℕ) (bd : Body)
    → is_name sender ≡ true → is_id id ≡ true → is_kept_body bd ≡ true → is_sound_body bd ≡ true → has_fit_earliest version bd ≡ true → length done < most_messages version → BodyStep version date accounts systems reserves stops done o b c n sender id bd
unfolding kind_named fields_in has_other_fields after_kind has_other_word is_out_of_place has_bad_date has_closing_date has_bad_name has_bad_id has_bad_number has_bad_amount has_bad_time is_twice has_bad_setup is_past_limit
body_step version date accounts systems reserves stops done o b c n sender id (bodies.Batch p info early till count sum entries) s i h sound fit few =
    let all = and_both (are_times info early till && nat_lt count 10000000 && is_cents sum) (list_all is_kept_entry entries) h in
    let front = and_both (are_times info early till && nat_lt count 10000000) (is_cents sum) all.0 in
    let more = and_both (are_times info early till) (nat_lt count 10000000) front.0 in
    let times = and_both (is_time_or_none info && is_time_or_none early) (is_time_or_none till) more.0 in
    let ends = and_both (is_time_or_none info) (is_time_or_none early) times.0 in
    let fits = fit_parts version p early fit in
    let small = le_meant sum MAX_CENTS front.1 in
    let counted = lt_meant count 10000000 more.1 in
    let word = procedure_word p in (
      first_none record_kinds.Bat (state version date accounts systems reserves stops done o b c n) (body_record version sender id (bodies.Batch p info early till count sum entries)) refl (form_is version sender id word info early till count sum (early_word p early fits.0)) (record {
        words = rw (procedure_reads p) refl;
        place = refl;
        dates = refl;
        closed = refl;
        names = rw s refl;
        ids = rw i refl;
        numbers = rw (count_is version sender id word info early till count sum, count_reads count counted) refl;
        amounts = rw (sum_is version sender id word info early till count sum, amount_reads sum small) refl;
        times = rw (
          info_is version sender id word info early till count sum,
          from_is version sender id word info early till count sum fits.1,
          till_is version sender id word info early till count sum,
          end_fine info ends.0,
          end_fine early ends.1,
          end_fine till times.1,
        ) refl;
        twice = refl;
        setup = refl;
        limit = le_not (most_messages version) (length done) few;
      }),
      rw (
        procedure_reads p,
        info_is version sender id word info early till count sum,
        from_is version sender id word info early till count sum fits.1,
        till_is version sender id word info early till count sum,
        count_is version sender id word info early till count sum,
        sum_is version sender id word info early till count sum,
        end_back info ends.0,
        end_back early ends.1,
        end_back till times.1,
        count_back count counted,
        amount_back sum small,
      )
          refl,
    )
body_step version date accounts systems reserves stops done o b c n sender id (bodies.Pay high debit credit amount) s i h sound fit few =
    let all = and_both (is_name debit && is_name credit) (is_cents amount) h in
    let names = and_both (is_name debit) (is_name credit) all.0 in
    let small = le_meant amount MAX_CENTS all.1 in (
      first_none record_kinds.Pay (state version date accounts systems reserves stops done o b c n) (body_record version sender id (bodies.Pay high debit credit amount)) refl refl (record {
        words = (elim high as (λ x. has_other_word version record_kinds.Pay (body_record version sender id (bodies.Pay x debit credit amount)) ≡ false) [ true ↦ refl | false ↦ refl ]);
        place = refl;
        dates = refl;
        closed = refl;
        names = rw (s, names.0, names.1) refl;
        ids = rw i refl;
        numbers = refl;
        amounts = rw (amount_reads amount small, sound) refl;
        times = refl;
        twice = refl;
        setup = refl;
        limit = le_not (most_messages version) (length done) few;
      }),
      rw (priority_reads high, amount_back amount small) refl,
    )
body_step version date accounts systems reserves stops done o b c n sender id (bodies.Liquidity debit credit amount) s i h sound fit few =
    let all = and_both (is_name debit && is_name credit) (is_cents amount) h in
    let names = and_both (is_name debit) (is_name credit) all.0 in
    let small = le_meant amount MAX_CENTS all.1 in (
      first_none record_kinds.Liq (state version date accounts systems reserves stops done o b c n) (body_record version sender id (bodies.Liquidity debit credit amount)) refl refl (record {
        words = refl;
        place = refl;
        dates = refl;
        closed = refl;
        names = rw (s, names.0, names.1) refl;
        ids = rw i refl;
        numbers = refl;
        amounts = rw (amount_reads amount small, sound) refl;
        times = refl;
        twice = refl;
        setup = refl;
        limit = le_not (most_messages version) (length done) few;
      }),
      rw (amount_back amount small) refl,
    )
body_step version date accounts systems reserves stops done o b c n sender id (bodies.Object system batch) s i h sound fit few =
    let both = and_both (is_name system) (is_id batch) h in (
      first_none record_kinds.Obj (state version date accounts systems reserves stops done o b c n) (body_record version sender id (bodies.Object system batch)) refl refl (record {
        words = refl;
        place = refl;
        dates = refl;
        closed = refl;
        names = rw (s, both.0) refl;
        ids = rw (i, both.1) refl;
        numbers = refl;
        amounts = refl;
        times = refl;
        twice = refl;
        setup = refl;
        limit = le_not (most_messages version) (length done) few;
      }),
      refl,
    )
body_step version date accounts systems reserves stops done o b c n sender id (bodies.Confirm batch answer) s i h sound fit few = (
  first_none record_kinds.Cnf (state version date accounts systems reserves stops done o b c n) (body_record version sender id (bodies.Confirm batch answer)) refl refl (record {
    words = (elim answer as (λ x. has_other_word version record_kinds.Cnf (body_record version sender id (bodies.Confirm batch x)) ≡ false) [ true ↦ refl | false ↦ refl ]);
    place = refl;
    dates = refl;
    closed = refl;
    names = rw s refl;
    ids = rw (i, h) refl;
    numbers = refl;
    amounts = refl;
    times = refl;
    twice = refl;
    setup = refl;
    limit = le_not (most_messages version) (length done) few;
  }),
  rw (answer_reads answer) refl,
)
body_step version date accounts systems reserves stops done o b c n sender id (bodies.Cycle start) s i h sound fit few = (
  first_none record_kinds.Cyc (state version date accounts systems reserves stops done o b c n) (body_record version sender id (bodies.Cycle start)) refl refl (record {
    words = (elim start as (λ x. has_other_word version record_kinds.Cyc (body_record version sender id (bodies.Cycle x)) ≡ false) [ true ↦ refl | false ↦ refl ]);
    place = refl;
    dates = refl;
    closed = refl;
    names = rw s refl;
    ids = rw i refl;
    numbers = refl;
    amounts = refl;
    times = refl;
    twice = refl;
    setup = refl;
    limit = le_not (most_messages version) (length done) few;
  }),
  rw (cycle_reads start) refl,
)

-- ---- its entries

-- a batch that has some entries already, after other messages
abbrev in_batch : ℕ → CivilDay → List AccountRecord → List SystemRecord → List Reserve → List ℕ → List Message → ℕ → Message → ℕ → SoFar
in_batch version date accounts systems reserves stops done o m n = state version date accounts systems reserves stops (done ++ m ∷ []) o true true n

abbrev batch : ℕ → List ℕ → List ℕ → Procedure → Option ℕ → Option ℕ → Option ℕ → ℕ → ℕ → List Entry → Message
batch round sender id p info early till count sum entries = record { round = round; sender = sender; id = id; body = bodies.Batch p info early till count sum entries }

entry_step : (version : ℕ) (date : CivilDay) (accounts : List AccountRecord) (systems : List SystemRecord) (reserves : List Reserve) (stops : List ℕ) (done : List Message) (o n round : ℕ) (sender id : List ℕ) (p : Procedure) (info early till : Option ℕ) (count sum : ℕ) (taken : List Entry) (e : Entry)
    → is_kept_entry e ≡ true → is_amount e.amount ≡ true → length taken < most_entries version → n < most_entries_of_day version
    → Step (in_batch version date accounts systems reserves stops done o (batch round sender id p info early till count sum taken) n) (entry_record e)
    (in_batch version date accounts systems reserves stops done o (batch round sender id p info early till count sum (taken ++ e ∷ [])) (n + 1))
unfolding kind_named fields_in has_other_fields after_kind has_other_word is_out_of_place has_bad_date has_closing_date has_bad_name has_bad_id has_bad_number has_bad_amount has_bad_time is_twice has_bad_setup is_past_limit
entry_step version date accounts systems reserves stops done o n round sender id p info early till count sum taken e kept amount few many =
    let all = and_both (is_name e.debit && is_name e.credit) (is_cents e.amount) kept in
    let names = and_both (is_name e.debit) (is_name e.credit) all.0 in
    let small = le_meant e.amount MAX_CENTS all.1 in
    let m = batch round sender id p info early till count sum taken in (
      first_none record_kinds.Ent (in_batch version date accounts systems reserves stops done o m n) (entry_record e) refl refl (record {
        words = refl;
        place = refl;
        dates = refl;
        closed = refl;
        names = rw (names.0, names.1) refl;
        ids = refl;
        numbers = refl;
        amounts = rw (amount_reads e.amount small, amount) refl;
        times = refl;
        twice = refl;
        setup = refl;
        limit = rw (last_entries_are done m, le_not (most_entries version) (length taken) few, le_not (most_entries_of_day version) n many) refl;
      }),
      rw (entry_back e kept, with_last-split (λ (x : Message). with_entry e x) done m) refl,
    )

entries_run : (version : ℕ) (date : CivilDay) (accounts : List AccountRecord) (systems : List SystemRecord) (reserves : List Reserve) (stops : List ℕ) (done : List Message) (o n round : ℕ) (sender id : List ℕ) (p : Procedure) (info early till : Option ℕ) (count sum : ℕ) (taken es : List Entry)
    → list_all is_kept_entry es ≡ true → list_all (λ e. is_amount e.amount) es ≡ true → length taken + length es ≤ most_entries version → n + length es ≤ most_entries_of_day version
    → RunsTo (in_batch version date accounts systems reserves stops done o (batch round sender id p info early till count sum taken) n) (map entry_record es)
    (in_batch version date accounts systems reserves stops done o (batch round sender id p info early till count sum (taken ++ es)) (n + length es))
entries_run version date accounts systems reserves stops done o n round sender id p info early till count sum taken [] kept amounts few many = rw (append-nil taken, add-zero n) refl
entries_run version date accounts systems reserves stops done o n round sender id p info early till count sum taken (e ∷ es) kept amounts few many =
    let k = and_both (is_kept_entry e) (list_all is_kept_entry es) kept in
    let a = and_both (is_amount e.amount) (list_all (λ e. is_amount e.amount) es) amounts in
    let long = length-append taken (e ∷ []) in
    let more = entries_run version date accounts systems reserves stops done o (n + 1) round sender id p info early till count sum (taken ++ e ∷ []) es k.1 a.1 (omega arith) (omega arith) in
    let total : n + 1 + length es ≡ n + suc (length es) = omega arith in (
      in_batch version date accounts systems reserves stops done o (batch round sender id p info early till count sum (taken ++ e ∷ [])) (n + 1),
      entry_step version date accounts systems reserves stops done o n round sender id p info early till count sum taken e k.0 a.0 (omega arith) (omega arith),
      rw (append_assoc taken (e ∷ []) es, total) at more,
    )

-- ---- a message with its entries

message_run : (version : ℕ) (date : CivilDay) (accounts : List AccountRecord) (systems : List SystemRecord) (reserves : List Reserve) (stops : List ℕ) (done : List Message) (o : ℕ) (b c : Bool) (n : ℕ) (sender id : List ℕ) (bd : Body)
    → is_kept_message (record { round = length stops; sender = sender; id = id; body = bd }) ≡ true → is_sound_body bd ≡ true → has_fit_earliest version bd ≡ true → length (entries_in bd) ≤ most_entries version → length done < most_messages version → n + length (entries_in bd) ≤ most_entries_of_day version
    → RunsTo (state version date accounts systems reserves stops done o b c n) (body_record version sender id bd ∷ map entry_record (entries_in bd))
    (state version date accounts systems reserves stops (done ++ record { round = length stops; sender = sender; id = id; body = bd } ∷ []) o true (is_batch_body bd) (n + length (entries_in bd)))
message_run version date accounts systems reserves stops done o b c n sender id bd kept sound fit short few many =
    let all = and_both (is_name sender && is_id id) (is_kept_body bd) kept in
    let texts = and_both (is_name sender) (is_id id) all.0 in (
      state version date accounts systems reserves stops (done ++ record { round = length stops; sender = sender; id = id; body = bare bd } ∷ []) o true (is_batch_body bd) n,
      body_step version date accounts systems reserves stops done o b c n sender id bd texts.0 texts.1 all.1 sound fit few,
      rest bd all.1 sound short many,
    )
  where
    rest : (bd : Body) → is_kept_body bd ≡ true → is_sound_body bd ≡ true → length (entries_in bd) ≤ most_entries version → n + length (entries_in bd) ≤ most_entries_of_day version
        → RunsTo (state version date accounts systems reserves stops (done ++ record { round = length stops; sender = sender; id = id; body = bare bd } ∷ []) o true (is_batch_body bd) n) (map entry_record (entries_in bd))
        (state version date accounts systems reserves stops (done ++ record { round = length stops; sender = sender; id = id; body = bd } ∷ []) o true (is_batch_body bd) (n + length (entries_in bd)))
    rest (bodies.Batch p info early till count sum entries) kept sound short many =
        let amounts = and_both (are_times info early till && nat_le sum (10 ^ 18) && nat_le (length entries) 50000) (list_all (λ e. is_amount e.amount) entries) sound in
        entries_run version date accounts systems reserves stops done o n (length stops) sender id p info early till count sum [] entries (and_both _ (list_all is_kept_entry entries) kept).1 amounts.1 (omega (arith, short)) many
    rest (bodies.Pay high debit credit amount) kept sound short many = rw (add-zero n) refl
    rest (bodies.Liquidity debit credit amount) kept sound short many = rw (add-zero n) refl
    rest (bodies.Object system batch) kept sound short many = rw (add-zero n) refl
    rest (bodies.Confirm batch answer) kept sound short many = rw (add-zero n) refl
    rest (bodies.Cycle start) kept sound short many = rw (add-zero n) refl

-- ---- END

end_step : (version : ℕ) (date : CivilDay) (accounts : List AccountRecord) (systems : List SystemRecord) (reserves : List Reserve) (stops : List ℕ) (messages : List Message) (o : ℕ) (b c : Bool) (n : ℕ)
    → (t : SoFar) × RunsTo (state version date accounts systems reserves stops messages o b c n) (end_record ∷ []) t
unfolding kind_named fields_in has_other_fields after_kind has_other_word is_out_of_place has_bad_date has_closing_date has_bad_name has_bad_id has_bad_number has_bad_amount has_bad_time is_twice has_bad_setup is_past_limit
end_step version date accounts systems reserves stops messages o b c n =
    let s = state version date accounts systems reserves stops messages o b c n in
    let t = record s { started = true; ended = true; in_batch = false } in (
      t,
      (
        t,
        (
          first_none record_kinds.End s end_record refl refl (record {
            words = refl;
            place = refl;
            dates = refl;
            closed = refl;
            names = refl;
            ids = refl;
            numbers = refl;
            amounts = refl;
            times = refl;
            twice = refl;
            setup = refl;
            limit = refl;
          }),
          refl,
        ),
        refl,
      ),
    )

-- ---- messages and stops by round, and END

pub moments_run : (version : ℕ) (date : CivilDay) (accounts : List AccountRecord) (systems : List SystemRecord) (reserves : List Reserve) (stops : List ℕ) (passed : ℕ) (ms : List Message) (taken : List ℕ) (done : List Message) (o : ℕ) (b c : Bool) (n : ℕ)
    → length taken ≡ passed → stops_rise (last_stop taken) (drop passed stops) ≡ true → rounds_rise (length stops) passed ms ≡ true → list_all is_kept_message ms ≡ true → list_all (λ m. is_sound_body m.body) ms ≡ true
    → list_all (has_few_entries version) ms ≡ true → list_all (λ m. has_fit_earliest version m.body) ms ≡ true → length done + length ms ≤ most_messages version → n + sum_by (λ m. length (entries_in m.body)) ms ≤ most_entries_of_day version
    → (t : SoFar) × RunsTo (state version date accounts systems reserves taken done o b c n) (moment_records version stops passed ms ++ end_record ∷ []) t
unfolding moment_records
moments_run version date accounts systems reserves stops passed [] taken done o b c n at rise rounds kept sound short fit few many =
    let all = drop passed stops in
    let h = stops_run version date accounts systems reserves taken all [] done o b c n (rw (append-nil all) rise) in
    let end = end_step version date accounts systems reserves (taken ++ all) done o h.begun h.batch n in
    (end.0, runs_then (state version date accounts systems reserves taken done o b c n) (state version date accounts systems reserves (taken ++ all) done o h.begun h.batch n) end.0 (map stop_record all) (end_record ∷ []) h.run end.1)
moments_run version date accounts systems reserves stops passed (m ∷ ms) taken done o b c n at rise rounds kept sound short fit few many =
    let r = and_both (nat_le passed m.round && nat_le m.round (length stops)) (rounds_rise (length stops) m.round ms) rounds in
    let ends = and_both (nat_le passed m.round) (nat_le m.round (length stops)) r.0 in
    let k = and_both (is_kept_message m) (list_all is_kept_message ms) kept in
    let s = and_both (is_sound_body m.body) (list_all (λ m. is_sound_body m.body) ms) sound in
    let f = and_both (has_few_entries version m) (list_all (has_few_entries version) ms) short in
    let e = and_both (has_fit_earliest version m.body) (list_all (λ m. has_fit_earliest version m.body) ms) fit in
    let seg = slice_range stops passed m.round in
    let split : drop passed stops ≡ seg ++ drop m.round stops = drop_split stops passed m.round (le_meant passed m.round ends.0) in
    let h = stops_run version date accounts systems reserves taken seg (drop m.round stops) done o b c n (rw split at rise) in
    let long = segment_long stops passed m.round (le_meant passed m.round ends.0) (le_meant m.round (length stops) ends.1) in
    let joined = length-append taken seg in
    let round : length (taken ++ seg) ≡ m.round = omega arith in
    let total = sum_by-cons (λ (m : Message). length (entries_in m.body)) m ms in
    let own = message_run version date accounts systems reserves (taken ++ seg) done o h.begun h.batch n m.sender m.id m.body k.0 s.0 e.0 (le_meant (length (entries_in m.body)) (most_entries version) f.0) (omega arith) (omega arith) in
    let mine : RunsTo (state version date accounts systems reserves (taken ++ seg) done o h.begun h.batch n) (message_records version m) (state version date accounts systems reserves (taken ++ seg) (done ++ m ∷ []) o true (is_batch_body m.body) (n + length (entries_in m.body))) = rw round at own in
    let count = length-append done (m ∷ []) in
    let rest = moments_run version date accounts systems reserves stops m.round ms (taken ++ seg) (done ++ m ∷ []) o true (is_batch_body m.body) (n + length (entries_in m.body)) round h.rise r.1 k.1 s.1 f.1 e.1 (omega arith) (omega arith) in (
      rest.0,
      rw (grouped version stops passed m ms (end_record ∷ []))
          (runs_then (state version date accounts systems reserves taken done o b c n) (state version date accounts systems reserves (taken ++ seg) done o h.begun h.batch n) rest.0 (map stop_record seg) (message_records version m ++ (moment_records version stops m.round ms ++ end_record ∷ [])) h.run
          (runs_then (state version date accounts systems reserves (taken ++ seg) done o h.begun h.batch n) (state version date accounts systems reserves (taken ++ seg) (done ++ m ∷ []) o true (is_batch_body m.body) (n + length (entries_in m.body))) rest.0 (message_records version m) (moment_records version stops m.round ms ++ end_record ∷ []) mine rest.1)),
    )
