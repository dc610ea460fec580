-- What is told of a record, by its number.
use Rattle.std.proofs.Common.{◌≡◌, ◌∙◌, ◌+◌, ◌≤◌, ◌⊎◌, ◌++◌, ℕ, suc, Bool, true, false, List, [], ◌∷◌, refl, sym, ap, subst, arith, inl, inr, zero-add, add-zero}
use Rattle.std.specs.Prelude.{◌||◌, ◌==◌, if◌then◌else◌, filter_map, fold, length, map, Option, Some, None}
use Rattle.std.specs.Option.{option_map_or}
use Rattle.std.proofs.lemmas.Bool.{cases_Bool, eqb-false, eqb-true}
use Rattle.std.proofs.lemmas.List.{map-append}
use Rattle.std.proofs.lemmas.List.Elements.{filter_map-append}
use Rattle.std.proofs.lemmas.List.Sums.{sum_by-append}
use Rattle.batch_records.specs.Codes.{first_code}
use Rattle.batch_records.specs.Kinds.{by_kind, is_message_kind}
use Rattle.batch_records.specs.Made.{is_batch, is_entry, is_late, version_of}
use Rattle.batch_records.specs.Records.{Fields}
use Rattle.batch_records.specs.declared.day.DayCode.{DayCode}
use Rattle.live_records.specs.Fates.{fates, times}
use Rattle.live_records.specs.Heard.{Call, Takes, Stops, Refuses, Breaks, Heard, Numbered, accept, calls_of, calls_of_batch, counted, fields_of, has_all, hear, heard, is_some_of, judge, judged_with, nothing, numbers_of, passed, refusal_of, refusals_of, refuse, taken, unless_whole}
use Rattle.live_records.proofs.Continuing.{broken_stays, continues}

-- one number, or none
abbrev one : ℕ → ℕ → ℕ
one k n = if k == n then 1 else 0

-- the numbers of the lines that calls tell
abbrev told : List Call → List ℕ
told calls = map (λ x. x.0) (filter_map refusal_of calls)

-- the sum that `fates` is
abbrev tally : ℕ → List Numbered → List Numbered → List ℕ → List Call → ℕ
tally n accepted batch dropped calls = times n (numbers_of accepted) + times n (numbers_of batch) + times n dropped + times n (told calls)

fates_are : (n : ℕ) (h : Heard) → fates n h ≡ tally n h.accepted h.batch h.dropped h.calls
unfolding refusals_of
fates_are n h = refl

times_append : (n : ℕ) (xs ys : List ℕ) → times n (xs ++ ys) ≡ times n xs + times n ys
times_append n xs ys = sum_by-append (λ k. one k n) xs ys

times_one : (n k : ℕ) → times n (k ∷ []) ≡ one k n
times_one n k = zero-add (one k n)

numbered_append : (n : ℕ) (xs ys : List Numbered) → times n (numbers_of (xs ++ ys)) ≡ times n (numbers_of xs) + times n (numbers_of ys)
numbered_append n xs ys = ap (times n) (map-append (λ (x : Numbered). x.0) xs ys) ∙ times_append n (numbers_of xs) (numbers_of ys)

told_append : (n : ℕ) (xs ys : List Call) → times n (told (xs ++ ys)) ≡ times n (told xs) + times n (told ys)
told_append n xs ys =
    ap (λ (l : List (ℕ × DayCode)). times n (map (λ x. x.0) l)) (filter_map-append refusal_of xs ys)
    ∙ ap (times n) (map-append (λ (x : ℕ × DayCode). x.0) (filter_map refusal_of xs) (filter_map refusal_of ys))
    ∙ times_append n (told xs) (told ys)

-- ---- calls that tell nothing

untold_batch : (n : ℕ) (batch : List Numbered) → times n (told (calls_of_batch batch)) ≡ 0
untold_batch n [] = refl
untold_batch n (x ∷ batch) = refl

untold_record : (n : ℕ) (r : Fields) → times n (told (calls_of r)) ≡ 0
untold_record n r = by (by_kind false is_message_kind r) (is_late r)
  where
    by : (x y : Bool) → times n (told (if x then Takes ∷ [] else if y then Stops ∷ [] else [])) ≡ 0
    by true y = refl
    by false true = refl
    by false false = refl

-- ---- what each step adds

tally_taken : (n : ℕ) (h : Heard) → fates n (taken h) ≡ fates n h
tally_taken n h =
    let accepted = numbered_append n h.accepted h.batch in
    let calls = told_append n h.calls (calls_of_batch h.batch) in
    let none = untold_batch n h.batch in
    let gone : times n (numbers_of []) ≡ 0 = refl in
    fates_are n (taken h) ∙ omega (arith, accepted, calls, none, gone) ∙ sym (fates_are n h)

tally_counted : (n : ℕ) (h : Heard) → fates n (counted h) ≡ fates n h
tally_counted n h = fates_are n (counted h) ∙ sym (fates_are n h)

tally_passed : (n : ℕ) (h : Heard) → fates n (passed h) ≡ fates n h + one (h.count + 1) n
tally_passed n h =
    let dropped = times_append n h.dropped ((h.count + 1) ∷ []) in
    let last = times_one n (h.count + 1) in
    fates_are n (passed h) ∙ omega (arith, dropped, last) ∙ ap (λ k. k + one (h.count + 1) n) (sym (fates_are n h))

tally_whole : (n : ℕ) (h : Heard) → fates n (unless_whole h) ≡ fates n h
tally_whole n h = by (has_all (version_of (fields_of h.accepted)) h.batch)
  where
    by : (x : Bool) → fates n (if x then taken h else h) ≡ fates n h
    by true = tally_taken n h
    by false = refl

tally_entry : (n : ℕ) (h : Heard) (r : Fields) → fates n (unless_whole (record h { batch = h.batch ++ (h.count, r) ∷ [] })) ≡ fates n h + one h.count n
tally_entry n h r =
    let longer : Heard = record h { batch = h.batch ++ (h.count, r) ∷ [] } in
    let batch = numbered_append n h.batch ((h.count, r) ∷ []) in
    let last = times_one n h.count in
    tally_whole n longer ∙ fates_are n longer ∙ omega (arith, batch, last) ∙ ap (λ k. k + one h.count n) (sym (fates_are n h))

tally_batch : (n : ℕ) (h : Heard) (r : Fields) → h.batch ≡ [] → fates n (unless_whole (record h { batch = (h.count, r) ∷ []; begun = true })) ≡ fates n h + one h.count n
tally_batch n h r none =
    let begins : Heard = record h { batch = (h.count, r) ∷ []; begun = true } in
    let last = times_one n h.count in
    let gone : times n (numbers_of h.batch) ≡ 0 = ap (λ (l : List Numbered). times n (numbers_of l)) none in
    tally_whole n begins ∙ fates_are n begins ∙ omega (arith, last, gone) ∙ ap (λ k. k + one h.count n) (sym (fates_are n h))

tally_alone : (n : ℕ) (h : Heard) (r : Fields) → fates n (record h { accepted = h.accepted ++ (h.count, r) ∷ []; begun = h.begun || is_late r; calls = h.calls ++ calls_of r }) ≡ fates n h + one h.count n
tally_alone n h r =
    let now : Heard = record h { accepted = h.accepted ++ (h.count, r) ∷ []; begun = h.begun || is_late r; calls = h.calls ++ calls_of r } in
    let accepted = numbered_append n h.accepted ((h.count, r) ∷ []) in
    let last = times_one n h.count in
    let calls = told_append n h.calls (calls_of r) in
    let none = untold_record n r in
    fates_are n now ∙ omega (arith, accepted, last, calls, none) ∙ ap (λ k. k + one h.count n) (sym (fates_are n h))

tally_accept : (n : ℕ) (h : Heard) (r : Fields) → (is_entry r ≡ false → h.batch ≡ []) → fates n (accept h r) ≡ fates n h + one h.count n
unfolding accept
tally_accept n h r none = by (is_entry r) (is_batch r) none
  where
    by : (x y : Bool) → (x ≡ false → h.batch ≡ [])
        → fates n (if x then unless_whole (record h { batch = h.batch ++ (h.count, r) ∷ [] }) else if y then unless_whole (record h { batch = (h.count, r) ∷ []; begun = true })
        else record h { accepted = h.accepted ++ (h.count, r) ∷ []; begun = h.begun || is_late r; calls = h.calls ++ calls_of r }) ≡ fates n h + one h.count n
    by true y e = tally_entry n h r
    by false true e = tally_batch n h r (e refl)
    by false false e = tally_alone n h r

tally_refuse : (n : ℕ) (h : Heard) (r : Fields) (c : DayCode) → fates n (refuse h r c) ≡ fates n h + one h.count n
unfolding refuse
tally_refuse n h r c = by h.begun
  where
    refused : Heard
    refused = record h { batch = []; dropped = h.dropped ++ numbers_of h.batch; passing = is_batch r || is_some_of h.batch; calls = h.calls ++ Refuses h.count c ∷ [] }

    ended : Heard
    ended = record h { broken = true; calls = h.calls ++ Breaks h.count c ∷ [] }

    by : (x : Bool) → fates n (if x then refused else ended) ≡ fates n h + one h.count n
    by true =
        let dropped = times_append n h.dropped (numbers_of h.batch) in
        let gone : times n (numbers_of []) ≡ 0 = refl in
        let calls = told_append n h.calls (Refuses h.count c ∷ []) in
        let last : times n (told (Refuses h.count c ∷ [])) ≡ one h.count n = times_one n h.count in
        fates_are n refused ∙ omega (arith, dropped, gone, calls, last) ∙ ap (λ k. k + one h.count n) (sym (fates_are n h))
    by false =
        let calls = told_append n h.calls (Breaks h.count c ∷ []) in
        let last : times n (told (Breaks h.count c ∷ [])) ≡ one h.count n = times_one n h.count in
        fates_are n ended ∙ omega (arith, calls, last) ∙ ap (λ k. k + one h.count n) (sym (fates_are n h))

tally_judge : (n : ℕ) (h : Heard) (r : Fields) → (is_entry r ≡ false → h.batch ≡ []) → fates n (judge h r) ≡ fates n h + one h.count n
tally_judge n h r none = by (first_code (judged_with h) r)
  where
    by : (o : Option DayCode) → fates n (option_map_or (refuse h r) o (accept h r)) ≡ fates n h + one h.count n
    by None = tally_accept n h r none
    by (Some c) = tally_refuse n h r c

-- what is heard of a record where none ended the run
pub step_of : (h : Heard) (r : Fields) → h.broken ≡ false → hear h r ≡ (if is_entry r then (if h.passing then passed h else judge (counted h) r) else judge (counted (taken h)) r)
unfolding hear
step_of h r going = ap (λ (x : Bool). if x then h else if is_entry r then (if h.passing then passed h else judge (counted h) r) else judge (counted (taken h)) r) going

-- a record that is heard is told of once, and nothing more is told of the others
tally_hear : (n : ℕ) (h : Heard) (r : Fields) → h.broken ≡ false → fates n (hear h r) ≡ fates n h + one (h.count + 1) n
tally_hear n h r going = ap (λ (g : Heard). fates n g) (step_of h r going) ∙ by (is_entry r) refl h.passing
  where
    by : (x : Bool) → is_entry r ≡ x → (z : Bool) → fates n (if x then (if z then passed h else judge (counted h) r) else judge (counted (taken h)) r) ≡ fates n h + one (h.count + 1) n
    by true e true = tally_passed n h
    by true e false = tally_judge n (counted h) r (λ f. cc (e, f)) ∙ ap (λ k. k + one (h.count + 1) n) (tally_counted n h)
    by false e z = tally_judge n (counted (taken h)) r (λ f. refl) ∙ ap (λ k. k + one (h.count + 1) n) (tally_counted n (taken h) ∙ tally_taken n h)

-- ---- how many are heard

pub count_judge : (h : Heard) (r : Fields) → (judge h r).count ≡ h.count
unfolding accept refuse
count_judge h r = by (first_code (judged_with h) r) (is_entry r) (is_batch r) h.begun
  where
    whole : (g : Heard) → (unless_whole g).count ≡ g.count
    whole g = ends (has_all (version_of (fields_of g.accepted)) g.batch)
      where
        ends : (x : Bool) → (if x then taken g else g).count ≡ g.count
        ends true = refl
        ends false = refl

    by : (o : Option DayCode) (x y z : Bool)
        → (option_map_or (λ c. if z then record h { batch = []; dropped = h.dropped ++ numbers_of h.batch; passing = is_batch r || is_some_of h.batch; calls = h.calls ++ Refuses h.count c ∷ [] }
        else record h { broken = true; calls = h.calls ++ Breaks h.count c ∷ [] }) o
        (if x then unless_whole (record h { batch = h.batch ++ (h.count, r) ∷ [] }) else if y then unless_whole (record h { batch = (h.count, r) ∷ []; begun = true })
        else record h { accepted = h.accepted ++ (h.count, r) ∷ []; begun = h.begun || is_late r; calls = h.calls ++ calls_of r })).count ≡ h.count
    by None true y z = whole (record h { batch = h.batch ++ (h.count, r) ∷ [] })
    by None false true z = whole (record h { batch = (h.count, r) ∷ []; begun = true })
    by None false false z = refl
    by (Some c) x y true = refl
    by (Some c) x y false = refl

pub count_hear : (h : Heard) (r : Fields) → h.broken ≡ false → (hear h r).count ≡ h.count + 1
count_hear h r going = ap (λ (g : Heard). g.count) (step_of h r going) ∙ by (is_entry r) h.passing
  where
    by : (x z : Bool) → (if x then (if z then passed h else judge (counted h) r) else judge (counted (taken h)) r).count ≡ h.count + 1
    by true true = refl
    by true false = count_judge (counted h) r
    by false z = count_judge (counted (taken h)) r

-- ---- all of them

record ToldOnce (h : Heard) : Type 0 where
  once : (n : ℕ) → 1 ≤ n → n ≤ h.count → fates n h ≡ 1
  beyond : (n : ℕ) → h.count + 1 ≤ n → fates n h ≡ 0
  none : fates 0 h ≡ 0

once_nothing : ToldOnce nothing
once_nothing = record { once = λ n a b. absurd (omega (arith, a, b)); beyond = λ n a. fates_are n nothing; none = fates_are 0 nothing }

once_hear : (h : Heard) (r : Fields) → h.broken ≡ false → ToldOnce h → ToldOnce (hear h r)
once_hear h r going t =
    let count = count_hear h r going in
    record {
      once = λ n a b. by n a (let top : n ≤ h.count + 1 = rw count at b in top) (cases_Bool ((h.count + 1) == n));
      beyond = λ n a. let top : h.count + 1 + 1 ≤ n = rw count at a in tally_hear n h r going ∙ past n top ((h.count + 1) == n) refl;
      none = tally_hear 0 h r going ∙ past_zero ((h.count + 1) == 0) refl;
    }
  where
    by : (n : ℕ) → 1 ≤ n → n ≤ h.count + 1 → (((h.count + 1) == n) ≡ true) ⊎ (((h.count + 1) == n) ≡ false) → fates n (hear h r) ≡ 1
    by n a b (inl e) =
        let same : h.count + 1 ≡ n = eqb-true (h.count + 1) n e in
        let before : fates n h ≡ 0 = t.beyond n (omega (arith, same)) in
        tally_hear n h r going ∙ rw (e, before) refl
    by n a b (inr e) =
        let before : fates n h ≡ 1 = t.once n a (omega (arith, b, eqb-false (h.count + 1) n e)) in
        tally_hear n h r going ∙ rw (e, before) refl

    past : (n : ℕ) → h.count + 1 + 1 ≤ n → (x : Bool) → ((h.count + 1) == n) ≡ x → fates n h + (if x then 1 else 0) ≡ 0
    past n a true e = let same : h.count + 1 ≡ n = eqb-true (h.count + 1) n e in absurd (omega (arith, a, same))
    past n a false e = rw (t.beyond n (omega (arith, a))) refl

    past_zero : (x : Bool) → ((h.count + 1) == 0) ≡ x → fates 0 h + (if x then 1 else 0) ≡ 0
    past_zero true e = let same : h.count + 1 ≡ 0 = eqb-true (h.count + 1) 0 e in absurd (omega (arith, same))
    past_zero false e = rw t.none refl

once_from : (h : Heard) (records : List Fields) → ToldOnce h → ToldOnce (fold hear h records)
once_from h [] t = t
once_from h (r ∷ records) t = once_from (hear h r) records (by h.broken refl)
  where
    by : (x : Bool) → h.broken ≡ x → ToldOnce (hear h r)
    by true e = subst ToldOnce (sym (broken_stays h r e)) t
    by false e = once_hear h r e t

all_once : (records : List Fields) → ToldOnce (heard records)
unfolding heard
all_once records = once_from nothing records once_nothing

pub told_once : (records : List Fields) (n : ℕ) → 1 ≤ n → n ≤ (heard records).count → fates n (heard records) ≡ 1
told_once records = (all_once records).once

pub told_none : (records : List Fields) → fates 0 (heard records) ≡ 0
told_none records = (all_once records).none

pub told_beyond : (records : List Fields) (n : ℕ) → (heard records).count + 1 ≤ n → fates n (heard records) ≡ 0
told_beyond records = (all_once records).beyond

count_from : (h : Heard) (records : List Fields) → (fold hear h records).broken ≡ false → (fold hear h records).count ≡ h.count + length records
count_from h [] e = sym (add-zero h.count)
count_from h (r ∷ records) e = by h.broken refl (count_from (hear h r) records e)
  where
    by : (x : Bool) → h.broken ≡ x → (fold hear (hear h r) records).count ≡ (hear h r).count + length records → (fold hear (hear h r) records).count ≡ h.count + suc (length records)
    by true b rest = let clash : true ≡ false = sym b ∙ ap (λ (g : Heard). g.broken) (sym ((continues h (r ∷ records)).broken b)) ∙ e in cc clash
    by false b rest = let next = count_hear h r b in omega (arith, rest, next)

pub count_all : (records : List Fields) → (heard records).broken ≡ false → (heard records).count ≡ length records
unfolding heard
count_all records e = count_from nothing records e ∙ zero-add (length records)

few_from : (h : Heard) (records : List Fields) → (fold hear h records).count ≤ h.count + length records
few_from h [] = omega (arith)
few_from h (r ∷ records) = by h.broken refl (few_from (hear h r) records)
  where
    by : (x : Bool) → h.broken ≡ x → (fold hear (hear h r) records).count ≤ (hear h r).count + length records → (fold hear (hear h r) records).count ≤ h.count + suc (length records)
    by true b rest = let same : (hear h r).count ≡ h.count = ap (λ (g : Heard). g.count) (broken_stays h r b) in omega (arith, rest, same)
    by false b rest = let next = count_hear h r b in omega (arith, rest, next)

pub count_few : (records : List Fields) → (heard records).count ≤ length records
unfolding heard
count_few records = let few = few_from nothing records in omega (arith, few)
