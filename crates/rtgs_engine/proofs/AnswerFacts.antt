-- What an answer says of what was read.
use Rattle.std.proofs.Common.{◌≡◌, ◌∙◌, ℕ, ◌≤◌, Bool, true, false, List, length, Result, Ok, Err, refl, ap, sym, subst, inl, inr}
use Rattle.std.specs.Prelude.{nat_eq, IfOk, ◌⊎◌}
use Rattle.batch_records.specs.DayRecord.{Day}
use Rattle.batch_records.specs.declared.day.DayCode.{DayCode}
use Rattle.batch_records.specs.declared.day.DayCode.TheVariants as day_codes
use Rattle.batch_records.specs.Counts.{record_count}
use Rattle.batch_records.specs.Days.{day_of_bytes}
use Rattle.batch_records.specs.DayPart.{is_line_ends}
use Rattle.batch_records.specs.DayTexts.{day_text}
use Rattle.batch_records.specs.Meets.{migrated}
use Rattle.batch_records.specs.Records.{day_records}
use Rattle.batch_records.specs.Sound.{is_sound}
use Rattle.batch_records.proofs.RoundTrip.{read_back}
use Rattle.batch_records.proofs.SoundMeets.{read_meets, second_meets}
use Rattle.commit_journal.specs.Line.{History}
use Rattle.machine.specs.Orders.Order.{plain}
use Rattle.as_client.specs.Views.{text_lines, view}
use Rattle.journal_replay.specs.declared.judging.Verdict.{Verdict}
use Rattle.journal_replay.specs.declared.judging.Verdict.TheVariants as verdicts
use Rattle.journal_replay.specs.Verdicts.{verdict}
use Rattle.journal_replay.specs.VerdictLaws.{Holds}
use Rattle.journal_replay.proofs.VerdictLaws.{verdicts_hold}
use Rattle.settlement_laws.proofs.EachLaw.AllLaws.{all_laws}
use Rattle.settlement_laws.proofs.EachLaw.SameOrder.{plain_migrated}
use Rattle.settlement_laws.proofs.EachLaw.SameVersion.{same_legal}
use Rattle.settlement_laws.proofs.DayEnd.PlainRuns.{plain_ends}
use Rattle.refused_memory.specs.{WasRefused}
use Rattle.outside_io.specs.Pieces.{SinkState}
use Rattle.program_answers.specs.Answers.{refused}
use Rattle.program_answers.specs.Giving.{Says, SaysOneIfRoom}
use Rattle.program_answers.specs.Inputs.{IsGiven}
use Rattle.program_answers.specs.Limits.{longest_input}
use Rattle.program_answers.proofs.DayAnswers.{answer_over, answer_refused}
use Rattle.program_answers.proofs.Statuses.{IsNeither, other}
use Rattle.rtgs_engine.specs.Answers.{answer_of_day, answer_of_verdict, answer_of_view, if_alone}
use Rattle.rtgs_engine.specs.CommandLines.{reads, workers_of}
use Rattle.rtgs_engine.specs.GivenAnswers.{SaysOfMade}
use Rattle.rtgs_engine.specs.Journals.{IsOfDay}
use Rattle.rtgs_engine.specs.Outputs.{output}
use Rattle.rtgs_engine.specs.Promises.{IsDone, IsInputAnswer, IsOneOf, takes_no_rest}
use Rattle.rtgs_engine.specs.declared.words.Command.{Command}
use Rattle.rtgs_engine.specs.declared.words.Command.TheVariants as commands
use Rattle.rtgs_engine.proofs.OneJournal.{legal_typed, outputs_tell}
use Rattle.rtgs_engine.proofs.OutputViews.{views_of_outputs}
use Rattle.rtgs_engine.proofs.SameOutput.{output_migrated}

-- the journal of a sound day in the written order
pub of-day : (workers : ℕ) (day : Day) → is_sound day ≡ true → IsOfDay workers day (plain day)
of-day workers day good =
    let ends = plain_ends day good in
    record { written_order = λ none. refl; legal = ends.0; complete = ends.1; laws = all_laws day (plain day) good ends.0 }

-- ---- what an answer over a day says

-- where only line ends may follow the day
one_alone : (c : Command) (bytes : List ℕ) (day : Day) (rest text : List ℕ) → IsGiven longest_input bytes day rest → takes_no_rest c ≡ true → (is_line_ends rest ≡ true → IsDone c bytes text) →
    IsOneOf c bytes (if_alone rest (record_count day) text)
one_alone c bytes day rest text given alone does = go (is_line_ends rest) refl
  where
    go : (b : Bool) → is_line_ends rest ≡ b → IsOneOf c bytes (if_alone rest (record_count day) text)
    go true e = rw e (inl (refl, does e))
    go false e = rw e (inr (inl (refl, inr (record { alone = alone; day = day; rest = rest; given = given; more = e; is = refl }))))

one_verdict : (bytes : List ℕ) (day : Day) (rest : List ℕ) → IsGiven longest_input bytes day rest → (v : Verdict) → Holds day rest v → IsOneOf commands.Replay bytes (answer_of_verdict v)
one_verdict bytes day rest given (verdicts.Legal lines) holds =
    inl (refl, record { day = day; rest = rest; given = given; lines = lines; whole = holds; laws = all_laws day holds.journal given.sound holds.legal; is = refl })
one_verdict bytes day rest given (verdicts.Illegal place) holds =
    inr (inr (inl (refl, record { day = day; rest = rest; given = given; place = place; wrong = holds; is = refl })))

one_view : (name bytes : List ℕ) (day : Day) (rest : List ℕ) → IsGiven longest_input bytes day rest → (r : Result (List ℕ) ℕ) → view day (text_lines rest) name ≡ r → IsOneOf (commands.Follow name) bytes (answer_of_view r)
one_view name bytes day rest given (Ok report) e = inl (refl, record { day = day; rest = rest; given = given; viewed = e })
one_view name bytes day rest given (Err line) e = inr (inr (inl (refl, record { day = day; rest = rest; given = given; line = line; refused = e; is = refl })))

one_of_day : (c : Command) (bytes : List ℕ) (day : Day) (J : History) (rest : List ℕ) → reads c ≡ true → IsGiven longest_input bytes day rest → IsOfDay (workers_of c) day J → IsOneOf c bytes (answer_of_day c day J rest (record_count day))
one_of_day (commands.Settle workers) bytes day J rest reading given made =
    one_alone (commands.Settle workers) bytes day rest (output day J) given refl
    (λ alone. record {
      day = day;
      rest = rest;
      given = given;
      alone = alone;
      journal = J;
      of_day = made;
      is = refl;
      one = λ other typed same. outputs_tell day other J typed (legal_typed day given.sound J made.legal) same;
      views = λ name. views_of_outputs day J name given.sound made.legal;
    })
one_of_day commands.Check bytes day J rest reading given made =
    one_alone commands.Check bytes day rest _ given refl (λ alone. record { day = day; rest = rest; given = given; alone = alone; is = refl })
one_of_day commands.Migrate bytes day J rest reading given made =
    one_alone commands.Migrate bytes day rest (day_text (migrated day)) given refl
    (λ alone. record {
      day = day;
      rest = rest;
      given = given;
      alone = alone;
      is = refl;
      read_back = read_back (migrated day) (second_meets day (read_meets bytes day given.day_length given.is_day));
      legal = same_legal day;
      written_order = plain_migrated day;
      told = output_migrated day;
    })
one_of_day commands.Replay bytes day J rest reading given made = one_verdict bytes day rest given (verdict day rest) (verdicts_hold day rest given.sound)
one_of_day (commands.Follow name) bytes day J rest reading given made = one_view name bytes day rest given (view day (text_lines rest) name) refl
one_of_day (commands.Trial trial) bytes day J rest reading given made = absurd (cc)

-- ---- no answer over a day has the status of want of memory

never_alone : (k : ℕ) → IsNeither k → (rest : List ℕ) (records : ℕ) (text : List ℕ) → nat_eq (if_alone rest records text).status k ≡ false
never_alone k no_status rest records text = go (is_line_ends rest) refl
  where
    go : (b : Bool) → is_line_ends rest ≡ b → nat_eq (if_alone rest records text).status k ≡ false
    go true e = rw e no_status.0
    go false e = rw e no_status.1

never_verdict : (k : ℕ) → IsNeither k → (v : Verdict) → nat_eq (answer_of_verdict v).status k ≡ false
never_verdict k no_status (verdicts.Legal lines) = no_status.0
never_verdict k no_status (verdicts.Illegal place) = no_status.2

never_view : (k : ℕ) → IsNeither k → (r : Result (List ℕ) ℕ) → nat_eq (answer_of_view r).status k ≡ false
never_view k no_status (Ok report) = no_status.0
never_view k no_status (Err line) = no_status.2

never_day : (k : ℕ) → IsNeither k → (c : Command) (day : Day) (J : History) (rest : List ℕ) (records : ℕ) → nat_eq (answer_of_day c day J rest records).status k ≡ false
never_day k no_status (commands.Settle workers) day J rest records = never_alone k no_status rest records (output day J)
never_day k no_status commands.Check day J rest records = never_alone k no_status rest records _
never_day k no_status commands.Migrate day J rest records = never_alone k no_status rest records (day_text (migrated day))
never_day k no_status commands.Replay day J rest records = never_verdict k no_status (verdict day rest)
never_day k no_status (commands.Follow name) day J rest records = never_view k no_status (view day (text_lines rest) name)
never_day k no_status (commands.Trial trial) day J rest records = no_status.0

-- ---- what is said of an input

-- over its day
pub says_read : {S : Type 0} (state : S → SinkState) (old new : S) (c : Command) (bytes : List ℕ) (day : Day) (rest : List ℕ) (status : ℕ) → reads c ≡ true → IsGiven longest_input bytes day rest → length (day_records bytes) ≡ record_count day →
    SaysOfMade state old new (IsOfDay (workers_of c) day) (λ J. answer_of_day c day J rest (record_count day)) status → SaysOneIfRoom state old new (IsInputAnswer c bytes) status
says_read state old new c bytes day rest status reading given count s = go s.said
  where
    is : IsOfDay (workers_of c) day s.journal → IsInputAnswer c bytes (answer_of_day c day s.journal rest (record_count day))
    is made = record {
      journal = s.journal;
      of_day = λ h. subst (λ (r : Result (Day × ℕ) (ℕ × DayCode)). IfOk r (λ (x : Day × ℕ). IsOfDay (workers_of c) x.0 s.journal)) (sym given.is_day) made;
      is = sym (answer_over longest_input _ bytes day rest given ∙ ap (answer_of_day c day s.journal rest) count);
      one_of = one_of_day c bytes day s.journal rest reading given made;
    }

    go : ((status ≡ 1) × (new ≡ old) × WasRefused) ⊎ Says (state old) (state new) (answer_of_day c day s.journal rest (record_count day)) status → SaysOneIfRoom state old new (IsInputAnswer c bytes) status
    go (inl none) = inl none
    go (inr (inl said)) =
        inr (answer_of_day c day s.journal rest (record_count day), is (s.made (other status (answer_of_day c day s.journal rest (record_count day)).status 1 said.0 (never_day 1 (refl, refl, refl) c day s.journal rest (record_count day)))), inl said)
    go (inr (inr said)) = inr (answer_of_day c day s.journal rest (record_count day), is (s.made (other status 5 1 said.0 refl)), inr said)

-- where the definition of a day refuses it
pub says_refusal : {S : Type 0} (state : S → SinkState) (old new : S) (c : Command) (bytes : List ℕ) (number : ℕ) (code : DayCode) (status : ℕ) → length bytes ≤ longest_input → day_of_bytes bytes ≡ Err (number, code) →
    Says (state old) (state new) (refused number code) status → SaysOneIfRoom state old new (IsInputAnswer c bytes) status
says_refusal state old new c bytes number code status short read said =
    inr (
      refused number code,
      record {
        journal = List.[];
        of_day = λ h. subst (λ (r : Result (Day × ℕ) (ℕ × DayCode)). IfOk r (λ (x : Day × ℕ). IsOfDay (workers_of c) x.0 List.[])) (sym read) tt;
        is = sym (answer_refused longest_input _ bytes number code short read);
        one_of = inr (inl (refl, inl (record { short = short; number = number; code = code; refused = read; is = refl })));
      },
      said,
    )
