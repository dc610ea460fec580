-- What is accepted stands in the order of its numbers, and each record is the one of its number.
use Rattle.std.proofs.Common.{◌≡◌, ◌∙◌, ◌+◌, ◌-◌, ◌≤◌, ◌<◌, ◌++◌, ℕ, Bool, true, false, List, [], ◌∷◌, Some, None, Option, append_assoc, append-nil, length, length-append, refl, sym, ap, subst, arith}
use Rattle.std.specs.Prelude.{◌||◌, if◌then◌else◌, fold, slice_get}
use Rattle.std.specs.Option.{option_map_or}
use Rattle.std.proofs.Math.ListN.{get_or-append}
use Rattle.std.proofs.Math.Seq.{get_or-append_seam}
use Rattle.std.proofs.lemmas.Option.{get_or_from_slice_get, slice_get-get_or, slice_get_within}
use Rattle.batch_records.specs.Codes.{first_code}
use Rattle.batch_records.specs.Made.{is_batch, is_entry, is_late, version_of}
use Rattle.batch_records.specs.Records.{Fields}
use Rattle.batch_records.specs.declared.day.DayCode.{DayCode}
use Rattle.live_records.specs.Fates.{AreRecords}
use Rattle.live_records.specs.Heard.{Refuses, Breaks, Heard, Numbered, accept, calls_of, counted, fields_of, has_all, hear, heard, is_some_of, judge, judged_with, nothing, numbers_of, passed, refuse, taken, unless_whole}
use Rattle.live_records.proofs.Continuing.{broken_stays}
use Rattle.live_records.proofs.FateFacts.{count_hear, step_of}

-- no number is above this one
abbrev AreUpTo : ℕ → List Numbered → Type 0
AreUpTo top [] = Unit {0}
AreUpTo top (x ∷ xs) = (x.0 ≤ top) × AreUpTo top xs

record Owned (records : List Fields) (top : ℕ) (xs : List Numbered) : Type 0 where
  own : AreRecords records 0 xs
  within : AreUpTo top xs

-- ---- lists

got_further : (xs ys : List Fields) (i : ℕ) (x : Fields) → slice_get xs i ≡ Some x → slice_get (xs ++ ys) i ≡ Some x
got_further xs ys i x e =
    let there = slice_get_within xs i x e in
    let size = length-append xs ys in
    slice_get-get_or (xs ++ ys) i x (omega (arith, there, size)) ∙ ap Some (get_or-append xs ys x i there ∙ get_or_from_slice_get xs i x x e)

got_last : (xs : List Fields) (x : Fields) → slice_get (xs ++ x ∷ []) (length xs) ≡ Some x
got_last xs x =
    let size = length-append xs (x ∷ []) in
    slice_get-get_or (xs ++ x ∷ []) (length xs) x (omega (arith, size)) ∙ ap Some (get_or-append_seam xs x [] x)

further : (records more : List Fields) (before : ℕ) (xs : List Numbered) → AreRecords records before xs → AreRecords (records ++ more) before xs
further records more before [] a = tt
further records more before (x ∷ xs) a = (a.0, got_further records more (x.0 - 1) x.1 a.1, further records more x.0 xs a.2)

up_further : (top higher : ℕ) (xs : List Numbered) → top ≤ higher → AreUpTo top xs → AreUpTo higher xs
up_further top higher [] l a = tt
up_further top higher (x ∷ xs) l a = (let here = a.0 in omega (arith, here, l), up_further top higher xs l a.1)

records_front : (records : List Fields) (before : ℕ) (xs ys : List Numbered) → AreRecords records before (xs ++ ys) → AreRecords records before xs
records_front records before [] ys a = tt
records_front records before (x ∷ xs) ys a = (a.0, a.1, records_front records x.0 xs ys a.2)

up_front : (top : ℕ) (xs ys : List Numbered) → AreUpTo top (xs ++ ys) → AreUpTo top xs
up_front top [] ys a = tt
up_front top (x ∷ xs) ys a = (a.0, up_front top xs ys a.1)

records_last : (records : List Fields) (r : Fields) (before top : ℕ) (xs : List Numbered) → top ≡ length records + 1 → before < top → AreUpTo (length records) xs → AreRecords records before xs
    → AreRecords (records ++ r ∷ []) before (xs ++ (top, r) ∷ [])
records_last records r before top [] e l up a =
    let there : top - 1 ≡ length records = omega (arith, e) in
    (l, ap (slice_get (records ++ r ∷ [])) there ∙ got_last records r, tt)
records_last records r before top (x ∷ xs) e l up a =
    (a.0, got_further records (r ∷ []) (x.0 - 1) x.1 a.1, records_last records r x.0 top xs e (let here = up.0 in omega (arith, here, e)) up.1 a.2)

up_last : (top : ℕ) (r : Fields) (xs : List Numbered) → AreUpTo top xs → AreUpTo top (xs ++ (top, r) ∷ [])
up_last top r [] a = (omega (arith), tt)
up_last top r (x ∷ xs) a = (a.0, up_last top r xs a.1)

-- ---- what each step keeps

owned_front : (records : List Fields) (top : ℕ) (xs ys : List Numbered) → Owned records top (xs ++ ys) → Owned records top (xs ++ [])
owned_front records top xs ys o = subst (λ (l : List Numbered). Owned records top l) (sym (append-nil xs)) (record { own = records_front records 0 xs ys o.own; within = up_front top xs ys o.within })

owned_further : (records more : List Fields) (top higher : ℕ) (xs : List Numbered) → top ≤ higher → Owned records top xs → Owned (records ++ more) higher xs
owned_further records more top higher xs l o = record { own = further records more 0 xs o.own; within = up_further top higher xs l o.within }

owned_last : (records : List Fields) (r : Fields) (top : ℕ) (xs : List Numbered) → top ≡ length records + 1 → Owned records (length records) xs → Owned (records ++ r ∷ []) top (xs ++ (top, r) ∷ [])
owned_last records r top xs e o = record {
  own = records_last records r 0 top xs e (omega (arith, e)) o.within o.own;
  within = up_last top r xs (up_further (length records) top xs (omega (arith, e)) o.within);
}

abbrev all_of : Heard → List Numbered
all_of h = h.accepted ++ h.batch

all_whole : (h : Heard) → all_of (unless_whole h) ≡ all_of h
all_whole h = by (has_all (version_of (fields_of h.accepted)) h.batch)
  where
    by : (x : Bool) → all_of (if x then taken h else h) ≡ all_of h
    by true = append-nil (h.accepted ++ h.batch)
    by false = refl

all_accept : (h : Heard) (r : Fields) → (is_entry r ≡ false → h.batch ≡ []) → all_of (accept h r) ≡ all_of h ++ (h.count, r) ∷ []
unfolding accept
all_accept h r none = by (is_entry r) (is_batch r) none
  where
    by : (x y : Bool) → (x ≡ false → h.batch ≡ [])
        → all_of (if x then unless_whole (record h { batch = h.batch ++ (h.count, r) ∷ [] }) else if y then unless_whole (record h { batch = (h.count, r) ∷ []; begun = true })
        else record h { accepted = h.accepted ++ (h.count, r) ∷ []; begun = h.begun || is_late r; calls = h.calls ++ calls_of r }) ≡ all_of h ++ (h.count, r) ∷ []
    by true y e = all_whole (record h { batch = h.batch ++ (h.count, r) ∷ [] }) ∙ sym (append_assoc h.accepted h.batch ((h.count, r) ∷ []))
    by false true e =
        all_whole (record h { batch = (h.count, r) ∷ []; begun = true })
        ∙ ap (λ (l : List Numbered). l ++ (h.count, r) ∷ []) (sym (ap (λ (l : List Numbered). h.accepted ++ l) (e refl) ∙ append-nil h.accepted))
    by false false e =
        ap (λ (l : List Numbered). (h.accepted ++ (h.count, r) ∷ []) ++ l) (e refl) ∙ append-nil (h.accepted ++ (h.count, r) ∷ [])
        ∙ ap (λ (l : List Numbered). l ++ (h.count, r) ∷ []) (sym (ap (λ (l : List Numbered). h.accepted ++ l) (e refl) ∙ append-nil h.accepted))

owned_refuse : (h : Heard) (r : Fields) (c : DayCode) (records : List Fields) (top : ℕ) → Owned records top (all_of h) → Owned records top (all_of (refuse h r c))
unfolding refuse
owned_refuse h r c records top o = by h.begun
  where
    by : (x : Bool) → Owned records top (all_of (if x then record h { batch = []; dropped = h.dropped ++ numbers_of h.batch; passing = is_batch r || is_some_of h.batch; calls = h.calls ++ Refuses h.count c ∷ [] }
        else record h { broken = true; calls = h.calls ++ Breaks h.count c ∷ [] }))
    by true = owned_front records top h.accepted h.batch o
    by false = o

owned_judge : (h : Heard) (r : Fields) (records : List Fields) → (is_entry r ≡ false → h.batch ≡ []) → h.count ≡ length records + 1 → Owned records (length records) (all_of h)
    → Owned (records ++ r ∷ []) h.count (all_of (judge h r))
owned_judge h r records none e o = by (first_code (judged_with h) r)
  where
    by : (c : Option DayCode) → Owned (records ++ r ∷ []) h.count (all_of (option_map_or (refuse h r) c (accept h r)))
    by None = subst (λ (l : List Numbered). Owned (records ++ r ∷ []) h.count l) (sym (all_accept h r none)) (owned_last records r h.count (all_of h) e o)
    by (Some c) = owned_refuse h r c (records ++ r ∷ []) h.count (owned_further records (r ∷ []) (length records) h.count (all_of h) (omega (arith, e)) o)

record Owns (records : List Fields) (h : Heard) : Type 0 where
  all : Owned records h.count (all_of h)
  count : h.broken ≡ false → h.count ≡ length records

owns_hear : (h : Heard) (r : Fields) (records : List Fields) → Owns records h → Owns (records ++ r ∷ []) (hear h r)
owns_hear h r records o = by h.broken refl
  where
    size : length (records ++ r ∷ []) ≡ length records + 1
    size = length-append records (r ∷ [])

    ways : h.broken ≡ false → (x : Bool) → is_entry r ≡ x → (z : Bool) → Owned (records ++ r ∷ []) (h.count + 1) (all_of (if x then (if z then passed h else judge (counted h) r) else judge (counted (taken h)) r))
    ways going true e true = owned_further records (r ∷ []) h.count (h.count + 1) (all_of h) (omega (arith)) o.all
    ways going true e false =
        owned_judge (counted h) r records (λ f. cc (e, f)) (let now = o.count going in omega (arith, now)) (subst (λ (n : ℕ). Owned records n (all_of h)) (o.count going) o.all)
    ways going false e z =
        owned_judge (counted (taken h)) r records (λ f. refl) (let now = o.count going in omega (arith, now))
        (subst (λ (n : ℕ). Owned records n (all_of (taken h))) (o.count going) (subst (λ (l : List Numbered). Owned records h.count l) (sym (append-nil (all_of h))) o.all))

    by : (x : Bool) → h.broken ≡ x → Owns (records ++ r ∷ []) (hear h r)
    by true e = subst (λ (g : Heard). Owns (records ++ r ∷ []) g) (sym (broken_stays h r e)) (record {
      all = owned_further records (r ∷ []) h.count h.count (all_of h) (omega (arith)) o.all;
      count = λ f. let clash : true ≡ false = sym e ∙ f in cc clash;
    })
    by false e =
        let next = count_hear h r e in
        let now = o.count e in
        record {
          all = subst (λ (n : ℕ). Owned (records ++ r ∷ []) n (all_of (hear h r))) (sym next)
              (subst (λ (g : Heard). Owned (records ++ r ∷ []) (h.count + 1) (all_of g)) (sym (step_of h r e)) (ways e (is_entry r) refl h.passing));
          count = λ f. omega (arith, next, now, size);
        }

owns_from : (h : Heard) (before records : List Fields) → Owns before h → Owns (before ++ records) (fold hear h records)
owns_from h before [] o = subst (λ (l : List Fields). Owns l h) (sym (append-nil before)) o
owns_from h before (r ∷ records) o =
    subst (λ (l : List Fields). Owns l (fold hear (hear h r) records)) (append_assoc before (r ∷ []) records) (owns_from (hear h r) (before ++ r ∷ []) records (owns_hear h r before o))

pub records_owned : (records : List Fields) → AreRecords records 0 ((heard records).accepted ++ (heard records).batch)
unfolding heard
records_owned records = (owns_from nothing [] records (record { all = record { own = tt; within = tt }; count = λ e. refl })).all.own
