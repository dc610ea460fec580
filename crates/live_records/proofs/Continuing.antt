-- What is heard goes on.
use Rattle.std.proofs.Common.{◌≡◌, ◌∙◌, ◌+◌, ◌≤◌, ◌++◌, ℕ, Bool, true, false, List, [], ◌∷◌, refl, ap, arith}
use Rattle.std.specs.Prelude.{◌||◌, if◌then◌else◌, fold, Option, Some, None}
use Rattle.std.specs.Option.{option_map_or}
use Rattle.std.proofs.lemmas.List.Sums.{fold-append}
use Rattle.batch_records.specs.Codes.{first_code}
use Rattle.batch_records.specs.Made.{is_batch, is_entry, is_late, version_of}
use Rattle.batch_records.specs.Records.{Fields}
use Rattle.batch_records.specs.declared.day.DayCode.{DayCode}
use Rattle.live_records.specs.Fates.{Continues, IsFront}
use Rattle.live_records.specs.Heard.{Heard, Refuses, Breaks, accept, calls_of, calls_of_batch, counted, fields_of, has_all, hear, heard, heard_in, is_some_of, judge, judged_with, nothing, numbers_of, passed, refuse, taken, unless_whole}
use Rattle.live_records.specs.WholeRecords.{whole_records}
use Rattle.live_records.proofs.CutFacts.{front_same, front_then, whole_front}

-- the same, but that nothing is said of what a bad record ended
pub record Grows (before : Heard) (now : Heard) : Type 0 where
  pub count : before.count ≤ now.count
  pub accepted : IsFront before.accepted now.accepted
  pub dropped : IsFront before.dropped now.dropped
  pub calls : IsFront before.calls now.calls
  pub begun : before.begun ≡ true → now.begun ≡ true

pub grows_not : (h : Heard) → Grows h h
grows_not h = record {
  count = omega (arith);
  accepted = front_same h.accepted h.accepted refl;
  dropped = front_same h.dropped h.dropped refl;
  calls = front_same h.calls h.calls refl;
  begun = λ e. e;
}

pub grows_then : (a b c : Heard) → Grows a b → Grows b c → Grows a c
grows_then a b c f g = record {
  count = let first = f.count in let second = g.count in omega (arith, first, second);
  accepted = front_then a.accepted b.accepted c.accepted f.accepted g.accepted;
  dropped = front_then a.dropped b.dropped c.dropped f.dropped g.dropped;
  calls = front_then a.calls b.calls c.calls f.calls g.calls;
  begun = λ e. g.begun (f.begun e);
}

grows_taken : (h : Heard) → Grows h (taken h)
grows_taken h = record {
  count = omega (arith);
  accepted = (h.batch, refl);
  dropped = front_same h.dropped h.dropped refl;
  calls = (calls_of_batch h.batch, refl);
  begun = λ e. e;
}

grows_counted : (h : Heard) → Grows h (counted h)
grows_counted h = record {
  count = omega (arith);
  accepted = front_same h.accepted h.accepted refl;
  dropped = front_same h.dropped h.dropped refl;
  calls = front_same h.calls h.calls refl;
  begun = λ e. e;
}

grows_passed : (h : Heard) → Grows h (passed h)
grows_passed h = record {
  count = omega (arith);
  accepted = front_same h.accepted h.accepted refl;
  dropped = ((h.count + 1) ∷ [], refl);
  calls = front_same h.calls h.calls refl;
  begun = λ e. e;
}

grows_whole : (h : Heard) → Grows h (unless_whole h)
grows_whole h = by (has_all (version_of (fields_of h.accepted)) h.batch)
  where
    by : (x : Bool) → Grows h (if x then taken h else h)
    by true = grows_taken h
    by false = grows_not h

or_stays : (a b : Bool) → a ≡ true → (a || b) ≡ true
or_stays true b e = refl
or_stays false b e = cc e

grows_accept : (h : Heard) (r : Fields) → Grows h (accept h r)
unfolding accept
grows_accept h r = by (is_entry r) (is_batch r)
  where
    begins : Grows h (record h { batch = (h.count, r) ∷ []; begun = true })
    begins = record {
      count = omega (arith);
      accepted = front_same h.accepted h.accepted refl;
      dropped = front_same h.dropped h.dropped refl;
      calls = front_same h.calls h.calls refl;
      begun = λ e. refl;
    }

    longer : Grows h (record h { batch = h.batch ++ (h.count, r) ∷ [] })
    longer = record {
      count = omega (arith);
      accepted = front_same h.accepted h.accepted refl;
      dropped = front_same h.dropped h.dropped refl;
      calls = front_same h.calls h.calls refl;
      begun = λ e. e;
    }

    by : (x y : Bool) → Grows h (if x then unless_whole (record h { batch = h.batch ++ (h.count, r) ∷ [] }) else if y then unless_whole (record h { batch = (h.count, r) ∷ []; begun = true })
        else record h { accepted = h.accepted ++ (h.count, r) ∷ []; begun = h.begun || is_late r; calls = h.calls ++ calls_of r })
    by false true = grows_then h (record h { batch = (h.count, r) ∷ []; begun = true }) (unless_whole (record h { batch = (h.count, r) ∷ []; begun = true })) begins (grows_whole (record h { batch = (h.count, r) ∷ []; begun = true }))
    by true y = grows_then h (record h { batch = h.batch ++ (h.count, r) ∷ [] }) (unless_whole (record h { batch = h.batch ++ (h.count, r) ∷ [] })) longer (grows_whole (record h { batch = h.batch ++ (h.count, r) ∷ [] }))
    by false false = record {
      count = omega (arith);
      accepted = ((h.count, r) ∷ [], refl);
      dropped = front_same h.dropped h.dropped refl;
      calls = (calls_of r, refl);
      begun = or_stays h.begun (is_late r);
    }

grows_refuse : (h : Heard) (r : Fields) (c : DayCode) → Grows h (refuse h r c)
unfolding refuse
grows_refuse h r c = by h.begun
  where
    by : (x : Bool) → Grows h (if x then record h { batch = []; dropped = h.dropped ++ numbers_of h.batch; passing = is_batch r || is_some_of h.batch; calls = h.calls ++ Refuses h.count c ∷ [] }
        else record h { broken = true; calls = h.calls ++ Breaks h.count c ∷ [] })
    by true = record {
      count = omega (arith);
      accepted = front_same h.accepted h.accepted refl;
      dropped = (numbers_of h.batch, refl);
      calls = (Refuses h.count c ∷ [], refl);
      begun = λ e. e;
    }
    by false = record {
      count = omega (arith);
      accepted = front_same h.accepted h.accepted refl;
      dropped = front_same h.dropped h.dropped refl;
      calls = (Breaks h.count c ∷ [], refl);
      begun = λ e. e;
    }

grows_judge : (h : Heard) (r : Fields) → Grows h (judge h r)
grows_judge h r = by (first_code (judged_with h) r)
  where
    by : (o : Option DayCode) → Grows h (option_map_or (refuse h r) o (accept h r))
    by None = grows_accept h r
    by (Some c) = grows_refuse h r c

-- one record more
pub grows_hear : (h : Heard) (r : Fields) → Grows h (hear h r)
unfolding hear
grows_hear h r = by h.broken (is_entry r) h.passing
  where
    by : (x y z : Bool) → Grows h (if x then h else if y then (if z then passed h else judge (counted h) r) else judge (counted (taken h)) r)
    by true y z = grows_not h
    by false true true = grows_passed h
    by false true false = grows_then h (counted h) (judge (counted h) r) (grows_counted h) (grows_judge (counted h) r)
    by false false z =
        grows_then h (taken h) (judge (counted (taken h)) r) (grows_taken h)
        (grows_then (taken h) (counted (taken h)) (judge (counted (taken h)) r) (grows_counted (taken h)) (grows_judge (counted (taken h)) r))

pub broken_stays : (h : Heard) (r : Fields) → h.broken ≡ true → hear h r ≡ h
unfolding hear
broken_stays h r e = rw e refl

pub continues : (h : Heard) (records : List Fields) → Continues h (fold hear h records)
continues h [] = record {
  count = omega (arith);
  accepted = front_same h.accepted h.accepted refl;
  dropped = front_same h.dropped h.dropped refl;
  calls = front_same h.calls h.calls refl;
  begun = λ e. e;
  broken = λ e. refl;
}
continues h (r ∷ records) =
    let now = hear h r in
    let step = grows_hear h r in
    let rest = continues now records in
    record {
      count = let first = step.count in let second = rest.count in omega (arith, first, second);
      accepted = front_then h.accepted now.accepted (fold hear now records).accepted step.accepted rest.accepted;
      dropped = front_then h.dropped now.dropped (fold hear now records).dropped step.dropped rest.dropped;
      calls = front_then h.calls now.calls (fold hear now records).calls step.calls rest.calls;
      begun = λ e. rest.begun (step.begun e);
      broken = λ e. let same = broken_stays h r e in rest.broken (ap (λ (g : Heard). g.broken) same ∙ e) ∙ same;
    }

pub records_continue : (records more : List Fields) → Continues (heard records) (heard (records ++ more))
unfolding heard
records_continue records more = rw (fold-append hear nothing records more) (continues (fold hear nothing records) more)

pub bytes_continue : (front rest : List ℕ) (all : Bool) → Continues (heard_in false front) (heard_in all (front ++ rest))
bytes_continue front rest all =
    let there = whole_front all front rest in
    rw there.1 (records_continue (whole_records false front) there.0)

pub heard_next : (records : List Fields) (r : Fields) → heard (records ++ r ∷ []) ≡ hear (heard records) r
unfolding heard
heard_next records r = fold-append hear nothing records (r ∷ [])
