-- What a listener of a live day stands on.
use Rattle.std.proofs.Common.{◌≡◌, ◌∙◌, ◌+◌, ◌-◌, ◌≤◌, ◌++◌, ℕ, zero, suc, Bool, true, false, not, List, [], append-nil, length, refl, sym, ap, subst, take}
use Rattle.std.specs.Prelude.{◌||◌}
use Rattle.std.proofs.lemmas.Bool.{leb-true}
use Rattle.batch_records.specs.declared.day.DayCode.TheVariants as day_codes
use Rattle.program_answers.specs.Answers.{refusal_text, size_text}
use Rattle.live_records.specs.Fates.{IsFront}
use Rattle.live_records.specs.Heard.{has_end, heard_in}
use Rattle.live_records.proofs.CutFacts.{front_then}
use Rattle.live_day.specs.Answers.{is_all, is_settled_by, live_answer, longest_input, looked_at}
use Rattle.live_day.specs.Told.{has_come, told, told_in}
use Rattle.live_day.proofs.ResumeFacts.{answers_begin, looked_front}
use Rattle.live_day.proofs.ToldFronts.{fronts_told}

-- the answer begins with what is told while more may come
pub answer_goes_on : (input : List ℕ) → IsFront (told (looked_at input)) (live_answer input).text
unfolding live_answer
answer_goes_on input =
    let seen = looked_at input in
    front_then (told seen) (told_in (is_all input) seen) (live_answer input).text
    (subst (λ (s : List ℕ). IsFront (told seen) (told_in (is_all input) s)) (append-nil seen) (fronts_told (is_all input) seen []))
    (answers_begin (heard_in (is_all input) seen).broken (not (has_come (is_all input) seen)) (has_end (heard_in (is_all input) seen)) (told_in (is_all input) seen)
    (refusal_text ((heard_in (is_all input) seen).count + 1) day_codes.Cut) size_text)

looked_whole : (input : List ℕ) → length input ≤ longest_input → looked_at input ≡ input
looked_whole input l = ap looked_at (sym (append-nil input)) ∙ looked_front input [] l ∙ nothing (longest_input - length input)
  where
    nothing : (n : ℕ) → input ++ take n [] ≡ input
    nothing zero = append-nil input
    nothing (suc n) = append-nil input

neither_of : (a b c : Bool) → (a || b || not c) ≡ false → c ≡ true
neither_of true b c e = cc e
neither_of false true c e = cc e
neither_of false false true e = refl
neither_of false false false e = cc e

-- what is told goes on with what comes
pub told_goes_on : (front rest : List ℕ) → is_settled_by front ≡ false → IsFront (told (looked_at front)) (told (looked_at (front ++ rest)))
told_goes_on front rest e =
    let l : length front ≤ longest_input = leb-true (length front) longest_input (neither_of (heard_in false (looked_at front)).broken (has_come false (looked_at front)) (is_all front) e) in
    let here = fronts_told false front (take (longest_input - length front) rest) in
    subst (λ (s : List ℕ). IsFront (told s) (told (looked_at (front ++ rest)))) (sym (looked_whole front l))
    (subst (λ (s : List ℕ). IsFront (told front) (told s)) (sym (looked_front front rest l)) here)
