-- How the bad records of a list go on by one more record, and which answer they give.
use Rattle.std.proofs.Common.{◌≡◌, ◌≤◌, ◌+◌, ℕ, suc, List, [], ◌∷◌, ◌++◌, Some, None, true, false, length, take, refl, arith, add-zero, zero-add, append_assoc, ◌∙◌}
use Rattle.std.specs.Prelude.{filter_map, if◌then◌else◌, option_map, Ok, Err}
use Rattle.std.specs.List.{cons_option, enumerate_from, list_any}
use Rattle.std.proofs.lemmas.List.{take-append-le, take_all}
use Rattle.std.proofs.lemmas.List.Elements.{filter_map-append}
use Rattle.batch_records.specs.Codes.{code_of, first_code}
use Rattle.batch_records.specs.Days.{bad_records, fault_at, unless_bad}
use Rattle.batch_records.specs.DayAnswers.{Answers, Tells, day_of}
use Rattle.batch_records.specs.Made.{day_in, day_made, is_end, so_far_of}
use Rattle.batch_records.specs.Records.{Fields, records_of}
use Rattle.batch_records.specs.Step.{FaultIs}
use Rattle.batch_records.specs.DayRecord.{Day}
use Rattle.batch_records.specs.declared.day.DayCode.{DayCode}
use Rattle.batch_records.specs.declared.day.DayCode.TheVariants as day_codes
use Rattle.batch_records.specs.declared.day.DayFault.{DayFault}
use Rattle.batch_records.specs.declared.day.DayFault.TheVariants as day_faults
use Rattle.batch_records.specs.declared.so_far.SoFar.{SoFar}

pub bad_none : bad_records [] ≡ []
unfolding bad_records
bad_none = refl

enumerate-append : {X : Type 0} (n : ℕ) (xs ys : List X) → enumerate_from n (xs ++ ys) ≡ enumerate_from n xs ++ enumerate_from (n + length xs) ys
enumerate-append n [] ys = rw (add-zero n) refl
enumerate-append n (x ∷ xs) ys =
    let more = enumerate-append (n + 1) xs ys in
    let at : n + suc (length xs) ≡ n + 1 + length xs = omega arith in
    rw (at, more) refl

-- what stands after records changes nothing in what is wrong with them
bad-same : (whole more xs : List Fields) (n : ℕ) → n + length xs ≤ length whole
    → filter_map (fault_at (whole ++ more)) (enumerate_from n xs) ≡ filter_map (fault_at whole) (enumerate_from n xs)
bad-same whole more [] n le = refl
bad-same whole more (x ∷ xs) n le =
    let here : n ≤ length whole = omega arith in
    let rest = bad-same whole more xs (n + 1) (omega arith) in
    rw (take-append-le n whole more here, rest) refl

pub bad-split : (taken : List Fields) (r : Fields) (more : List Fields)
    → bad_records (taken ++ r ∷ more) ≡ bad_records taken ++ cons_option (option_map (λ c. (length taken + 1, c)) (code_of taken r))
    (filter_map (fault_at (taken ++ r ∷ more)) (enumerate_from (length taken + 1) more))
unfolding bad_records
bad-split taken r more =
    let split = enumerate-append 0 taken (r ∷ more) in
    let front = bad-same taken (r ∷ more) taken 0 (omega arith) in
    let own : take (length taken) (taken ++ r ∷ more) ≡ taken = take-append-le (length taken) taken (r ∷ more) (omega arith) ∙ take_all (length taken) taken (omega arith) in
    rw (split, zero-add (length taken), filter_map-append, front, own) refl

-- the first bad record after records that are fine
bad_here : (taken : List Fields) (r : Fields) (more : List Fields) (c : DayCode) → bad_records taken ≡ [] → code_of taken r ≡ Some c
    → (others : List (ℕ × DayCode)) × (bad_records (taken ++ r ∷ more) ≡ (length taken + 1, c) ∷ others)
bad_here taken r more c fine e =
    (filter_map (fault_at (taken ++ r ∷ more)) (enumerate_from (length taken + 1) more), bad-split taken r more ∙ rw (fine, e) refl)

pub bad_next : (taken : List Fields) (r : Fields) → bad_records taken ≡ [] → code_of taken r ≡ None → bad_records (taken ++ r ∷ []) ≡ []
bad_next taken r fine e = bad-split taken r [] ∙ rw (fine, e) refl

-- the answer where the records have ended
pub answer_at_end : (text : List ℕ) (taken : List Fields) (number : ℕ) (s : SoFar) → records_of text ≡ taken → bad_records taken ≡ [] → s ≡ so_far_of taken → number ≡ length taken + 1
    → Answers (if s.ended then Ok (day_in s) else Err (day_faults.Record number day_codes.Cut)) (day_of (records_of text))
unfolding so_far_of
answer_at_end text taken number s all fine held at =
    rw (all, fine, held, at)
    (elim (list_any is_end taken) as (λ b. Answers (if b then Ok (day_made taken) else Err (day_faults.Record (length taken + 1) day_codes.Cut))
    (unless_bad (if b then [] else (length taken + 1, day_codes.Cut) ∷ []) (day_made taken))) [ true ↦ refl | false ↦ refl ])

-- the answer where a record is bad
pub answer_where_bad : (text : List ℕ) (taken more : List Fields) (r : Fields) (number : ℕ) (s : SoFar) (e : DayFault) → records_of text ≡ (taken ++ r ∷ []) ++ more → bad_records taken ≡ []
    → s ≡ so_far_of taken → number ≡ length taken + 1 → FaultIs e number (first_code s r) → Tells {A = Day} e (day_of (records_of text))
answer_where_bad text taken more r number s (day_faults.Record n c) all fine held at is =
    let found : first_code (so_far_of taken) r ≡ Some c = rw held at is.1 in
    let bad = bad_here taken r more c fine found in
    let n_is : n ≡ length taken + 1 = is.0 ∙ at in
    rw (all, append_assoc taken (r ∷ []) more, bad.1, n_is) refl
answer_where_bad text taken more r number s (day_faults.Memory memory) all fine held at is = tt
