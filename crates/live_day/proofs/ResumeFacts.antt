-- Old output and new one together are the text of the whole input.
use Rattle.std.proofs.Common.{◌≡◌, ◌∙◌, ◌+◌, ◌-◌, ◌≤◌, ◌++◌, ℕ, Bool, true, false, not, List, [], Some, append_assoc, append-nil, drop, length, refl, sym, ap, subst, arith, take}
use Rattle.std.specs.Prelude.{if◌then◌else◌, nat_eq}
use Rattle.std.specs.List.{starts_with}
use Rattle.std.proofs.Math.Seq.{drop-append_seam, take-append-add}
use Rattle.std.proofs.lemmas.Bool.Decides.{Decides-eqb}
use Rattle.std.proofs.lemmas.Slice.Eq.{starts_is}
use Rattle.batch_records.specs.declared.day.DayCode.TheVariants as day_codes
use Rattle.program_answers.specs.Answers.{Answer, illegal, refusal_text, size_text}
use Rattle.live_records.specs.Fates.{IsFront}
use Rattle.live_records.specs.Heard.{has_end, heard_in}
use Rattle.live_records.proofs.CutFacts.{front_then}
use Rattle.live_day.specs.Answers.{is_all, live_answer, live_text, longest_input, looked_at}
use Rattle.live_day.specs.Ends.{chosen}
use Rattle.live_day.specs.Resumed.{Before, behind, is_own, other_line, resumed_answer}
use Rattle.live_day.specs.Told.{has_come, told, told_in}
use Rattle.live_day.proofs.ToldFronts.{fronts_told}

-- each answer begins with what the records call for
pub answers_begin : (x y z : Bool) (text cut size : List ℕ) → IsFront text (chosen x y z text cut size).text
answers_begin true y z text cut size = ([], sym (append-nil text))
answers_begin false true z text cut size = (size, refl)
answers_begin false false true text cut size = ([], sym (append-nil text))
answers_begin false false false text cut size = (cut, refl)

pub looked_front : (read rest : List ℕ) → length read ≤ longest_input → looked_at (read ++ rest) ≡ read ++ take (longest_input - length read) rest
looked_front read rest l =
    let most : longest_input ≡ length read + (longest_input - length read) = omega (arith, l) in
    ap (λ n. take n (read ++ rest)) most ∙ take-append-add read rest (longest_input - length read)

text_front : (read rest : List ℕ) → length read ≤ longest_input → IsFront (told read) (live_text (read ++ rest))
unfolding live_answer
text_front read rest l =
    let seen = looked_front read rest l in
    front_then (told read) (told_in (is_all (read ++ rest)) (looked_at (read ++ rest))) (live_text (read ++ rest))
    (subst (λ (s : List ℕ). IsFront (told read) (told_in (is_all (read ++ rest)) s)) (sym seen) (fronts_told (is_all (read ++ rest)) read (take (longest_input - length read) rest)))
    (answers_begin (heard_in (is_all (read ++ rest)) (looked_at (read ++ rest))).broken (not (has_come (is_all (read ++ rest)) (looked_at (read ++ rest)))) (has_end (heard_in (is_all (read ++ rest)) (looked_at (read ++ rest))))
    (told_in (is_all (read ++ rest)) (looked_at (read ++ rest))) (refusal_text ((heard_in (is_all (read ++ rest)) (looked_at (read ++ rest))).count + 1) day_codes.Cut) size_text)

own_is : (b : Before) → is_own b ≡ true → resumed_answer (Some b) ≡ behind (length b.written) (live_answer (b.read ++ b.rest))
own_is b e = ap (λ (x : Bool). if x then behind (length b.written) (live_answer (b.read ++ b.rest)) else illegal (other_line b.written (told b.read))) e

pub text_goes_on : (b : Before) → length b.read ≤ longest_input → is_own b ≡ true → b.written ++ (resumed_answer (Some b)).text ≡ live_text (b.read ++ b.rest)
text_goes_on b l e =
    let own : told b.read ≡ b.written ++ drop (length b.written) (told b.read) = (starts_is Decides-eqb (told b.read) b.written (starts_with nat_eq (told b.read) b.written) refl).0 e in
    let more = text_front b.read b.rest l in
    let whole : live_text (b.read ++ b.rest) ≡ b.written ++ (drop (length b.written) (told b.read) ++ more.0) =
    more.1 ∙ ap (λ (t : List ℕ). t ++ more.0) own ∙ append_assoc b.written (drop (length b.written) (told b.read)) more.0 in
    ap (λ (a : Answer). b.written ++ a.text) (own_is b e)
    ∙ ap (λ (t : List ℕ). b.written ++ drop (length b.written) t) whole
    ∙ ap (λ (t : List ℕ). b.written ++ t) (drop-append_seam b.written (drop (length b.written) (told b.read) ++ more.0))
    ∙ sym whole

pub status_goes_on : (b : Before) → is_own b ≡ true → (resumed_answer (Some b)).status ≡ (live_answer (b.read ++ b.rest)).status
status_goes_on b e = ap (λ (a : Answer). a.status) (own_is b e)
