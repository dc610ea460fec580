-- What a run of a live day keeps, by what its words ask for.
use Rattle.std.proofs.Common.{◌≡◌, ◌∙◌, ◌++◌, ℕ, Bool, true, false, List, [], ◌∷◌, Some, None, Option, refl, sym, ap, subst, inl, inr}
use Rattle.std.specs.Prelude.{◌⊎◌, ◌||◌, bytes_eq, codes, if◌then◌else◌}
use Rattle.outside_io.specs.Pieces.{HasPut, IsCutShort}
use Rattle.program_answers.specs.LivePrograms.{LiveProgram, LivePromises, LiveRun, WasAnswered}
use Rattle.program_answers.specs.Programs.{is_no_answer}
use Rattle.live_day.specs.Promises.{KeepsPromises, Request, Resumes, Runs, program_of, request_of, usage_text}
use Rattle.live_day.specs.Resumed.{Before, before_of, has_no_header, is_resume_settled, settles}
use Rattle.live_day.specs.Running.{RunsIfRoom, is_only}
use Rattle.live_day.proofs.AnswersStay.{answers_stay, told_begins}
use Rattle.live_day.proofs.HeadersTaken.{headers_taken}
use Rattle.live_day.proofs.LegalAnswers.{live_texts_legal}
use Rattle.live_day.proofs.OtherLineFacts.{other_output}
use Rattle.live_day.proofs.PartFacts.{told_parts}
use Rattle.live_day.proofs.ResumeFacts.{status_goes_on, text_goes_on}
use Rattle.live_day.proofs.ResumeOpens.{resume_opens}
use Rattle.live_day.proofs.ToldFronts.{fronts_told}
use Rattle.live_day.proofs.UnsettledFacts.{answer_changes}

-- ---- words

pub asks_run : (words : List (List ℕ)) → is_only (codes "run") words ≡ true → request_of words ≡ Some Runs
asks_run [] e = cc e
asks_run (word ∷ []) e = ap (λ (x : Bool). if x then Some Runs else if bytes_eq word (codes "resume") then Some Resumes else None) e
asks_run (word ∷ other ∷ words) e = cc e

pub asks_resume : (words : List (List ℕ)) → is_only (codes "run") words ≡ false → is_only (codes "resume") words ≡ true → request_of words ≡ Some Resumes
asks_resume [] f e = cc e
asks_resume (word ∷ []) f e = λ i. if f i then Some Runs else if e i then Some Resumes else None
asks_resume (word ∷ other ∷ words) f e = cc e

pub asks_none : (words : List (List ℕ)) → is_only (codes "run") words ≡ false → is_only (codes "resume") words ≡ false → request_of words ≡ None
asks_none [] f e = refl
asks_none (word ∷ []) f e = λ i. if f i then Some Runs else if e i then Some Resumes else None
asks_none (word ∷ other ∷ words) f e = refl

-- ---- what is kept

not_both : (o : Option Request) (r : Request) → o ≡ None → o ≡ Some r → ⊥
not_both None r none some = cc some
not_both (Some q) r none some = cc none

same_of : (o : Option Request) (r q : Request) → o ≡ Some r → o ≡ Some q → r ≡ q
same_of o r q e f = cc (e, f)

either_no : (x y : Bool) → (x || y) ≡ false → x ≡ false
either_no true y e = cc e
either_no false y e = refl

on : (front : List ℕ) → before_of front ≡ None → is_resume_settled front ≡ false → (rest : List ℕ) × (b : Before) × (before_of (front ++ rest) ≡ Some b)
on front none going = resume_opens front none (either_no (has_no_header front) (settles (before_of front)) going)

pub keeps_asked : (words : List (List ℕ)) (r : Request) (run : LiveRun) → request_of words ≡ Some r → RunsIfRoom (program_of r) run → KeepsPromises words run
keeps_asked words r run e k = record {
  usage = λ none. absurd (not_both (request_of words) r none e);
  memory = λ one. ((r, e), k.memory one);
  refused = k.refused;
  asked = λ q f. subst (λ (x : Request). (run.status ≡ 1) ⊎ LivePromises (program_of x) run) (same_of (request_of words) r q e f) k.runs;
  of_day = live_texts_legal;
  fronts = fronts_told;
  begins = told_begins;
  settled = answers_stay;
  tells = told_parts;
  unsettled = answer_changes;
  headers = headers_taken;
  resumes_on = on;
  other_output = other_output;
  together = text_goes_on;
  resumed_status = status_goes_on;
}

two_is : (n : ℕ) → n ≡ 1 → n ≡ 2 → ⊥
two_is n e f = cc (e, f)

five_is : (n : ℕ) → n ≡ 1 → n ≡ 5 → ⊥
five_is n e f = cc (e, f)

pub keeps_none : (words : List (List ℕ)) (run : LiveRun) → request_of words ≡ None
    → ((run.status ≡ 2) × HasPut run.port run.port_after usage_text) ⊎ ((run.status ≡ 5) × IsCutShort run.port run.port_after usage_text) → KeepsPromises words run
keeps_none words run e said = record {
  usage = λ none. said;
  memory = λ one. absurd (by said one);
  refused = λ one. absurd (by said one);
  asked = λ r f. absurd (not_both (request_of words) r e f);
  of_day = live_texts_legal;
  fronts = fronts_told;
  begins = told_begins;
  settled = answers_stay;
  tells = told_parts;
  unsettled = answer_changes;
  headers = headers_taken;
  resumes_on = on;
  other_output = other_output;
  together = text_goes_on;
  resumed_status = status_goes_on;
}
  where
    by : ((run.status ≡ 2) × HasPut run.port run.port_after usage_text) ⊎ ((run.status ≡ 5) × IsCutShort run.port run.port_after usage_text) → run.status ≡ 1 → ⊥
    by (inl two) one = two_is run.status one two.0
    by (inr five) one = five_is run.status one five.0

-- ---- memory

four_is : (n : ℕ) → n ≡ 1 → n ≡ 4 → ⊥
four_is n e f = cc (e, f)

own_is : (n m : ℕ) → n ≡ 1 → n ≡ m → is_no_answer m ≡ false → ⊥
own_is n m e f own = let clash : true ≡ false = ap is_no_answer (sym e ∙ f) ∙ own in cc clash

-- a program whose answers have statuses of their own has a run of another status than want of memory
pub runs_whole : (program : LiveProgram) (run : LiveRun) → ((bytes : List ℕ) → is_no_answer (program.answer bytes).status ≡ false) → LivePromises program run → RunsIfRoom program run
runs_whole program run own promises = record { memory = λ one. absurd (by one promises.status); refused = λ one. absurd (by one promises.status); runs = inr promises }
  where
    by : run.status ≡ 1 → ((run.status ≡ 4) ⊎ (run.status ≡ 5)) ⊎ WasAnswered program run → ⊥
    by one (inl (inl four)) = four_is run.status one four
    by one (inl (inr five)) = five_is run.status one five
    by one (inr answered) = own_is run.status (program.answer answered.bytes).status one answered.status (own answered.bytes)
