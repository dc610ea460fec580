-- What a kept text calls for begins what any longer one does.
use Rattle.std.proofs.Common.{◌≡◌, ◌∙◌, ◌-◌, ◌+◌, ◌++◌, ◌≤◌, ◌<◌, ◌⊎◌, inl, inr, ℕ, Bool, true, false, List, [], ap, sym, refl, subst, arith, append-nil, drop, take, length}
use Rattle.std.specs.Prelude.{if◌then◌else◌}
use Rattle.std.proofs.lemmas.Bool.{cases_lt}
use Rattle.std.proofs.lemmas.List.{drop-append-le, take-append-drop, take-append-le}
use Rattle.std.proofs.Math.ListN.{drop_of_length-le}
use Rattle.std.proofs.Math.Seq.{drop-append-add}
use Rattle.live_records.specs.Fates.{IsFront}
use Rattle.live_records.proofs.CutFacts.{front_then}
use Rattle.live_day.specs.Answers.{is_settled_by, live_answer, looked_at}
use Rattle.live_day.specs.Told.{told}
use Rattle.live_day.proofs.Bytes.{settled_told}
use Rattle.live_day.proofs.RunFacts.{answer_goes_on, told_goes_on}
use Rattle.live_day.proofs.SettledFacts.{settled_stays}
use Rattle.program_answers.specs.Answers.{Answer}
use Rattle.kept_day.specs.Promises.{kept_told}

pub front_same : (xs : List ℕ) → IsFront xs xs
front_same xs = ([], sym (append-nil xs))

drop_split : (s : ℕ) (t x : List ℕ) → drop s (t ++ x) ≡ drop s t ++ drop (s - length t) x
drop_split s t x = by (cases_lt s (length t))
  where
    by : ((s < length t) ⊎ (length t ≤ s)) → drop s (t ++ x) ≡ drop s t ++ drop (s - length t) x
    by (inl less) =
        let none : s - length t ≡ 0 = omega (arith, less) in
        drop-append-le s t x (omega (arith, less)) ∙ ap (λ (n : ℕ). drop s t ++ drop n x) (sym none)
    by (inr more) =
        let all : s ≡ length t + (s - length t) = omega (arith, more) in
        ap (λ (n : ℕ). drop n (t ++ x)) all ∙ drop-append-add t x (s - length t) ∙ ap (λ (l : List ℕ). l ++ drop (s - length t) x) (sym (drop_of_length-le t more))

pub drop_front : (s : ℕ) (xs ys : List ℕ) → IsFront xs ys → IsFront (drop s xs) (drop s ys)
drop_front s xs ys f = (drop (s - length xs) f.0, ap (drop s) f.1 ∙ drop_split s xs f.0)

pub take_front : (n : ℕ) (xs : List ℕ) → IsFront (take n xs) xs
take_front n xs = (drop n xs, sym (take-append-drop n xs))

-- ---- what a text calls for

pub kept_settled : (text : List ℕ) → is_settled_by text ≡ true → kept_told text ≡ (live_answer text).text
kept_settled text e = ap (λ (x : Bool). if x then (live_answer text).text else told (looked_at text)) e

pub kept_open : (text : List ℕ) → is_settled_by text ≡ false → kept_told text ≡ told (looked_at text)
kept_open text e = ap (λ (x : Bool). if x then (live_answer text).text else told (looked_at text)) e

pub told_kept : (text : List ℕ) → IsFront (told (looked_at text)) (kept_told text)
told_kept text = by (is_settled_by text) refl
  where
    by : (x : Bool) → is_settled_by text ≡ x → IsFront (told (looked_at text)) (kept_told text)
    by true e = subst (IsFront (told (looked_at text))) (sym (kept_settled text e)) (answer_goes_on text)
    by false e = subst (IsFront (told (looked_at text))) (sym (kept_open text e)) (front_same (told (looked_at text)))

pub kept_more : (text more : List ℕ) → IsFront (kept_told text) (kept_told (text ++ more))
kept_more text more = by (is_settled_by text) refl
  where
    by : (x : Bool) → is_settled_by text ≡ x → IsFront (kept_told text) (kept_told (text ++ more))
    by true e =
        let whole : kept_told (text ++ more) ≡ (live_answer text).text = kept_settled (text ++ more) (settled_told text more e).0 ∙ ap (λ (a : Answer). a.text) (settled_stays text more e) in
        subst (λ (s : List ℕ). IsFront s (kept_told (text ++ more))) (sym (kept_settled text e)) (subst (IsFront (live_answer text).text) (sym whole) (front_same (live_answer text).text))
    by false e =
        subst (λ (s : List ℕ). IsFront s (kept_told (text ++ more))) (sym (kept_open text e))
        (front_then (told (looked_at text)) (told (looked_at (text ++ more))) (kept_told (text ++ more)) (told_goes_on text more e) (told_kept (text ++ more)))

-- what was written before and what is written now
pub joined : (found rest : List ℕ) (skip : ℕ) → skip ≤ length (kept_told found) → take skip (kept_told found) ++ drop skip (kept_told (found ++ rest)) ≡ kept_told (found ++ rest)
joined found rest skip within =
    let more = kept_more found rest in
    let whole = kept_told (found ++ rest) in
    let front : take skip whole ≡ take skip (kept_told found) = ap (take skip) more.1 ∙ take-append-le skip (kept_told found) more.0 within in
    ap (λ (s : List ℕ). s ++ drop skip whole) (sym front) ∙ take-append-drop skip whole
