-- What has been read so far, and what is answered at each end of the reading.
use Rattle.std.proofs.Common.{◌≡◌, ◌≤◌, ◌+◌, ℕ, List, [], ◌∷◌, ◌++◌, Option, None, true, false, length, length-append, refl, sym, arith, ◌∙◌}
use Rattle.cash_amounts.specs.declared.limits.TheConstants.{MAX_ENTRIES_OF_DAY, MAX_MESSAGES}
use Rattle.std.specs.Prelude.{if◌then◌else◌, IfOk, Ok, Err}
use Rattle.csv.specs.Reading.{ReadRecord, is_flexible, took_first}
use Rattle.csv.specs.declared.reader.Reader.{Reader}
use Rattle.batch_records.specs.Codes.{code_of, first_code}
use Rattle.batch_records.specs.Counts.{record_count}
use Rattle.batch_records.specs.Days.{bad_records}
use Rattle.batch_records.specs.DayAnswers.{Answers, Tells, day_of}
use Rattle.batch_records.specs.Made.{day_in, so_far_of}
use Rattle.batch_records.specs.Records.{Fields, records_of}
use Rattle.batch_records.specs.Step.{FaultIs, IsDayOf, IsInStep, after, counted}
use Rattle.batch_records.specs.DayRecord.{Day}
use Rattle.batch_records.specs.declared.day.DayCode.TheVariants as day_codes
use Rattle.batch_records.specs.declared.day.DayFault.{DayFault}
use Rattle.batch_records.specs.declared.day.DayFault.TheVariants as day_faults
use Rattle.batch_records.specs.declared.so_far.SoFar.{SoFar}
use Rattle.batch_records.proofs.CsvFacts.{Stands, stands-end, stands-front, stands-next}
use Rattle.batch_records.proofs.JudgeFacts.{answer_at_end, answer_where_bad, bad_next, bad_none}
use Rattle.batch_records.proofs.CountFacts.{counted_first, counted_next, few_records}
use Rattle.batch_records.proofs.KeptFacts.{day_sound, in_step_first, in_step_next}
use Rattle.batch_records.proofs.StepFacts.{so_far_next}

-- A reader has read records of a text that are all fine, what is kept is what they come to, and the next record has this number.
pub record HasRead {R : Type 0} (rem : R → Option (List ℕ)) (text : List ℕ) (rdr : Reader R) (s : SoFar) (number : ℕ) : Type 0 where
  pub taken : List Fields
  pub stands : Stands rem text rdr taken
  pub fine : bad_records taken ≡ []
  pub held : s ≡ so_far_of taken
  pub at : number ≡ length taken + 1
  pub step : IsInStep s
  pub count : number ≡ counted s + 1

pub has_read_nothing : {R : Type 0} (rem : R → Option (List ℕ)) (text : List ℕ) (rdr : Reader R) (s : SoFar) → Stands rem text rdr [] → s ≡ so_far_of [] → HasRead rem text rdr s 1
has_read_nothing rem text rdr s stands held =
    record { taken = []; stands = stands; fine = bad_none; held = held; at = refl; step = rw held in_step_first; count = rw (held, counted_first) refl }

pub has_read_more : {R : Type 0} (rem : R → Option (List ℕ)) (text : List ℕ) (a b : Reader R) (s t : SoFar) (number : ℕ) (f : Fields) → HasRead rem text a s number
    → ReadRecord rem a b true f → took_first b ≡ true → is_flexible b ≡ is_flexible a → (first_code s f ≡ None) × (t ≡ after s f) → HasRead rem text b t (number + 1)
has_read_more rem text a b s t number f h read first flexible ok =
    let code : code_of h.taken f ≡ None = rw h.held at ok.0 in
    let kept : t ≡ so_far_of (h.taken ++ f ∷ []) = (rw h.held at ok.1) ∙ sym (so_far_next h.taken f code) in
    let at = h.at in
    let count = h.count in
    record {
      taken = h.taken ++ f ∷ [];
      stands = stands-next rem text a b h.taken f h.stands read first flexible;
      fine = bad_next h.taken f h.fine code;
      held = kept;
      at = omega (arith, at, length-append h.taken (f ∷ []));
      step = rw ok.1 (in_step_next s f ok.0 h.step);
      count = rw ok.1 (omega (arith, count, counted_next s f ok.0 h.step));
    }

-- the answer where a record is bad
pub tells_bad : {R : Type 0} (rem : R → Option (List ℕ)) (text : List ℕ) (a b : Reader R) (s : SoFar) (number : ℕ) (f : Fields) (e : DayFault) → HasRead rem text a s number
    → ReadRecord rem a b true f → took_first b ≡ true → is_flexible b ≡ is_flexible a → FaultIs e number (first_code s f) → Tells {A = Day} e (day_of (records_of text))
tells_bad rem text a b s number f e h read first flexible bad =
    let next = stands-next rem text a b h.taken f h.stands read first flexible in
    let (more, front) = stands-front rem text b (h.taken ++ f ∷ []) next in
    answer_where_bad text h.taken more f number s e front h.fine h.held h.at bad

-- the answer where the records have ended
pub answers_end : {R : Type 0} (rem : R → Option (List ℕ)) (text : List ℕ) (a b : Reader R) (s : SoFar) (number : ℕ) (f : Fields) → HasRead rem text a s number → ReadRecord rem a b false f
    → Answers (if s.ended then Ok (day_in s) else Err (day_faults.Record number day_codes.Cut)) (day_of (records_of text))
answers_end rem text a b s number f h read =
    answer_at_end text h.taken number s (stands-end rem text a b h.taken f h.stands read) h.fine h.held h.at

-- and what holds of the day that is then handed out
day_made_whole : (records : List Fields) (number : ℕ) (s : SoFar) → IsInStep s → number ≡ length records + 1 → number ≡ counted s + 1
    → IfOk (if s.ended then Ok (day_in s) else Err (day_faults.Record number day_codes.Cut)) (λ day. IsDayOf records day)
day_made_whole records number s h at count =
    (elim s.ended as (λ b. s.ended ≡ b → IfOk (if b then Ok (day_in s) else Err (day_faults.Record number day_codes.Cut)) (λ day. IsDayOf records day)) [
      | true ↦ λ ended. let started = h.started ended in
          let both : counted s ≡ record_count (day_in s) = rw (started, ended) (omega arith) in
          record { sound = day_sound s h started; count = omega (arith, at, count, both) }
      | false ↦ λ ended. tt
    ]) refl

pub day_at_end : {R : Type 0} (rem : R → Option (List ℕ)) (text : List ℕ) (a b : Reader R) (s : SoFar) (number : ℕ) (f : Fields) → HasRead rem text a s number → ReadRecord rem a b false f
    → IfOk (if s.ended then Ok (day_in s) else Err (day_faults.Record number day_codes.Cut)) (λ day. IsDayOf (records_of text) day)
day_at_end rem text a b s number f h read =
    rw (stands-end rem text a b h.taken f h.stands read) (day_made_whole h.taken number s h.step h.at h.count)

-- no number of 32 bits is reached
pub numbers_suffice : {R : Type 0} (rem : R → Option (List ℕ)) (text : List ℕ) (rdr : Reader R) (s : SoFar) (number : ℕ) → HasRead rem text rdr s number → number ≤ MAX_MESSAGES + MAX_ENTRIES_OF_DAY + 100000
numbers_suffice rem text rdr s number h = let count = h.count in omega (arith, count, few_records s h.step)
