-- Inputs, and what becomes of their records.
use Rattle.std.specs.Prelude.{ℕ, ◌≡◌, true, List, [], ◌∷◌, ◌++◌, refl, codes}
use Rattle.csv.specs.Machine.{next_record}
use Rattle.csv.specs.Reading.{records_from, strip_bom}
use Rattle.batch_records.specs.declared.day.DayCode.TheVariants as day_codes
use Rattle.batch_records.specs.Kinds.{kind_named, fields_in, has_other_fields, has_other_link, has_other_word, has_bad_date, has_closing_date, has_bad_name, has_bad_id, has_bad_number, has_bad_amount}
use Rattle.batch_records.specs.Codes.{is_out_of_place, has_bad_time, is_role_taken, is_kept_already, is_twice, is_unfit, has_bad_setup, is_past_limit, first_code}
use Rattle.batch_records.specs.Made.{version_of, accounts_of, reserves_from, systems_of, stops_of, messages_from, so_far_of}
use Rattle.batch_records.specs.Versions.{count_field, sum_field, has_stated_times, info_text, from_text, till_text}
use Rattle.batch_records.specs.Words.{account_kind_named, technical_named, procedure_named, is_procedures, listed}
use Rattle.batch_records.specs.Amounts.{cents_of}
use Rattle.batch_records.specs.CountText.{count_of}
use Rattle.record_rows.specs.Lines.{line_from}
use Rattle.record_rows.specs.Machine.{place_after, rows_from}
use Rattle.period_calendar.specs.Calendar.{is_civil, days_of_years, days_of_months, day_number, weekday}
use Rattle.period_calendar.specs.Closing.{is_closing, is_open}
use Rattle.period_calendar.specs.Dates.{date_parts, date_of_text}
use Rattle.period_calendar.specs.Easter.{full_moon, days_to_sunday, weeks_back, easter_place}
use Rattle.period_calendar.specs.Times.{time_of_text}
use Rattle.live_records.specs.Heard.{Call, Takes, Stops, Refuses, Breaks, numbers_of, heard_in, hear, heard, accept, refuse}
use Rattle.live_records.specs.WholeRecords.{cut_from, whole_records}

-- a proof that unfolds this name computes with all that it opens
unfoldable opened : ℕ
unfolding next_record records_from strip_bom kind_named fields_in has_other_fields has_other_link has_other_word has_bad_date has_closing_date has_bad_name has_bad_id has_bad_number has_bad_amount is_out_of_place has_bad_time is_role_taken is_kept_already is_twice is_unfit has_bad_setup is_past_limit first_code version_of accounts_of reserves_from systems_of stops_of messages_from so_far_of count_field sum_field has_stated_times info_text from_text till_text account_kind_named technical_named procedure_named is_procedures listed cents_of count_of line_from place_after rows_from accept refuse hear heard cut_from whole_records is_civil days_of_years days_of_months day_number weekday is_closing is_open date_parts date_of_text full_moon days_to_sunday weeks_back easter_place time_of_text
opened = 0

-- the setup T
abbrev setup : List ℕ
setup = codes "DAY;2025-06-02\nAS;CH1;ABCDE\nACC;X1;DCA;BANKA;;100.00\nACC;Y1;DCA;BANKB;;0.00\nACC;TA;TEC;CH1;A;0.00\n"

-- of an input that has all come: which records are of the day, which stand in batches that were refused, and what all call for
abbrev told_whole : List ℕ → List ℕ × List ℕ × List Call
told_whole input = let h = heard_in true input in (numbers_of h.accepted, h.dropped, h.calls)

-- the same, after the setup
abbrev told : List ℕ → List ℕ × List ℕ × List Call
told input = told_whole (setup ++ input)

-- a record is refused, and the day goes on
one_is_refused : told (codes "PAY;BANKA;P1;N;X1;Y1;60.00\nPAY;BANKA;P_2;N;X1;Y1;1.00\nEND\n") ≡ (1 ∷ 2 ∷ 3 ∷ 4 ∷ 5 ∷ 6 ∷ 8 ∷ [], [], Takes ∷ Refuses 7 day_codes.Id ∷ [])
unfolding opened
one_is_refused = refl

-- messages are taken as they come
two_are_taken : told (codes "PAY;BANKB;P1;H;Y1;X1;30.00\nPAY;BANKA;P2;N;X1;Y1;50.00\nEND\n") ≡ (1 ∷ 2 ∷ 3 ∷ 4 ∷ 5 ∷ 6 ∷ 7 ∷ 8 ∷ [], [], Takes ∷ Takes ∷ [])
unfolding opened
two_are_taken = refl

-- a batch is taken with its last entry, and one more is refused
batch_is_full : told (codes "BAT;CH1;B1;A;;;2;20.00\nENT;X1;TA;10.00\nENT;TA;Y1;10.00\nENT;X1;TA;1.00\nEND\n") ≡ (1 ∷ 2 ∷ 3 ∷ 4 ∷ 5 ∷ 6 ∷ 7 ∷ 8 ∷ 10 ∷ [], [], Takes ∷ Refuses 9 day_codes.Place ∷ [])
unfolding opened
batch_is_full = refl

-- the same in a day of version 2, whose batches state their counts elsewhere
second_is_full : told_whole (codes "VER;2\n" ++ (setup ++ codes "BAT;CH1;B1;A;2;20.00\nENT;X1;TA;10.00\nENT;TA;Y1;10.00\nENT;X1;TA;1.00\nEND\n")) ≡ (1 ∷ 2 ∷ 3 ∷ 4 ∷ 5 ∷ 6 ∷ 7 ∷ 8 ∷ 9 ∷ 11 ∷ [], [], Takes ∷ Refuses 10 day_codes.Place ∷ [])
unfolding opened
second_is_full = refl

-- one that is cut short by another record
batch_is_cut_short : told (codes "BAT;CH1;B1;A;;;3;20.00\nENT;X1;TA;10.00\nENT;TA;Y1;10.00\nPAY;BANKA;P1;N;X1;Y1;1.00\nEND\n") ≡ (1 ∷ 2 ∷ 3 ∷ 4 ∷ 5 ∷ 6 ∷ 7 ∷ 8 ∷ 9 ∷ 10 ∷ [], [], Takes ∷ Takes ∷ [])
unfolding opened
batch_is_cut_short = refl

-- a bad entry refuses its batch, and the entries after it are passed over
batch_is_refused : told (codes "BAT;CH1;B1;A;;;2;20.00\nENT;X1;TA;10.0\nENT;TA;Y1;10.00\nPAY;BANKA;P1;N;X1;Y1;1.00\nEND\n") ≡ (1 ∷ 2 ∷ 3 ∷ 4 ∷ 5 ∷ 9 ∷ 10 ∷ [], 6 ∷ 8 ∷ [], Refuses 7 day_codes.Amount ∷ Takes ∷ [])
unfolding opened
batch_is_refused = refl

-- the same time once more is refused
stop_is_refused : told (codes "BAT;CH1;B1;E;10:00:00;11:00:00;1;10.00\nENT;X1;Y1;10.00\nTIM;10:30:00\nTIM;10:30:00\nEND\n") ≡ (1 ∷ 2 ∷ 3 ∷ 4 ∷ 5 ∷ 6 ∷ 7 ∷ 8 ∷ 10 ∷ [], [], Takes ∷ Stops ∷ Refuses 9 day_codes.Time ∷ [])
unfolding opened
stop_is_refused = refl

-- what isn't whole isn't looked at
last_is_cut : told (codes "PAY;BANKA;P1;N;X1;Y1;60.00\nTIM;09:00:00\nPAY;BANKA;P2;N;X1") ≡ (1 ∷ 2 ∷ 3 ∷ 4 ∷ 5 ∷ 6 ∷ 7 ∷ [], [], Takes ∷ Stops ∷ [])
unfolding opened
last_is_cut = refl

-- a bad record of the setup ends the run
setup_is_bad : told (codes "ACC;X1;DCA;BANKC;;1.00\nFOO\nEND\n") ≡ (1 ∷ 2 ∷ 3 ∷ 4 ∷ 5 ∷ [], [], Breaks 6 day_codes.Twice ∷ [])
unfolding opened
setup_is_bad = refl

-- so does a bad message before the day has begun
first_is_bad : told (codes "PAY;BANKA;P_1;N;X1;Y1;60.00\nEND\n") ≡ (1 ∷ 2 ∷ 3 ∷ 4 ∷ 5 ∷ [], [], Breaks 6 day_codes.Id ∷ [])
unfolding opened
first_is_bad = refl

-- records out of place, and nothing after END
places_are_wrong : told (codes "PAY;BANKA;P1;N;X1;Y1;60.00\nACC;Z1;DCA;BANKC;;1.00\nENT;X1;Y1;1.00\nFOO\nEND\nX") ≡ (1 ∷ 2 ∷ 3 ∷ 4 ∷ 5 ∷ 6 ∷ 10 ∷ [], [], Takes ∷ Refuses 7 day_codes.Place ∷ Refuses 8 day_codes.Place ∷ Refuses 9 day_codes.Kind ∷ [])
unfolding opened
places_are_wrong = refl

-- a refused BAT, the entries after it, and one after another record
batch_record_is_bad : told (codes "PAY;BANKA;P1;N;X1;Y1;60.00\nBAT;CH1;B_1;A;;;2;20.00\nENT;X1;TA;10.00\nENT\nFOO\nENT;X1;Y1;1.00\nEND\n") ≡ (1 ∷ 2 ∷ 3 ∷ 4 ∷ 5 ∷ 6 ∷ 12 ∷ [], 8 ∷ 9 ∷ [], Takes ∷ Refuses 7 day_codes.Id ∷ Refuses 10 day_codes.Kind ∷ Refuses 11 day_codes.Place ∷ [])
unfolding opened
batch_record_is_bad = refl

-- a batch of no entries is taken at once
batch_is_empty : told (codes "BAT;CH1;B1;A;;;0;0.00\nENT;X1;TA;1.00\nEND\n") ≡ (1 ∷ 2 ∷ 3 ∷ 4 ∷ 5 ∷ 6 ∷ 8 ∷ [], [], Takes ∷ Refuses 7 day_codes.Place ∷ [])
unfolding opened
batch_is_empty = refl

-- after a batch that was refused no account can come
day_has_begun : told (codes "BAT;CH1;B1;A;;;1;1.00\nENT;X1;TA\nACC;Z1;DCA;BANKC;;1.00\nEND\n") ≡ (1 ∷ 2 ∷ 3 ∷ 4 ∷ 5 ∷ 9 ∷ [], 6 ∷ [], Refuses 7 day_codes.Fields ∷ Refuses 8 day_codes.Place ∷ [])
unfolding opened
day_has_begun = refl

-- a batch that is open at the end isn't taken
batch_is_left : told (codes "BAT;CH1;B1;A;;;2;20.00\nENT;X1;TA;10.00\n") ≡ (1 ∷ 2 ∷ 3 ∷ 4 ∷ 5 ∷ [], [], [])
unfolding opened
batch_is_left = refl

-- END in quotes is no line END
end_in_quotes : told (codes "PAY;BANKA;P1;N;X1;Y1;60.00\n\"END\"\nTIM;09:00:00\nEND\n") ≡ (1 ∷ 2 ∷ 3 ∷ 4 ∷ 5 ∷ 6 ∷ 7 ∷ [], [], Takes ∷ Refuses 8 day_codes.Place ∷ Refuses 9 day_codes.Place ∷ [])
unfolding opened
end_in_quotes = refl

-- a line END in quotes ends the input
line_in_quotes : told (codes "PAY;BANKA;P1;N;X1;Y1;60.00\nPAY;BANKA;\"P2\nEND\nX") ≡ (1 ∷ 2 ∷ 3 ∷ 4 ∷ 5 ∷ 6 ∷ [], [], Takes ∷ Refuses 7 day_codes.Fields ∷ [])
unfolding opened
line_in_quotes = refl
