-- What is told by what is said of a record.
use Rattle.std.proofs.Common.{◌≡◌, ◌∙◌, ◌+◌, ◌-◌, ◌++◌, ℕ, suc, List, [], ◌∷◌, length, length-append, Option, Some, refl, sym, ap, subst, arith}
use Rattle.std.specs.Prelude.{slice_get, unwrap_or}
use Rattle.batch_records.specs.DayRecord.{Day}
use Rattle.batch_records.specs.Made.{last_stop}
use Rattle.batch_records.specs.declared.day.DayCode.{DayCode}
use Rattle.program_answers.specs.Answers.{refusal_text}
use Rattle.live_records.specs.Ears.{calls_said}
use Rattle.live_records.specs.declared.ear.Outcome.{Outcome}
use Rattle.live_records.specs.declared.ear.Outcome.TheVariants as outcomes
use Rattle.live_day.specs.Events.{events_in}
use Rattle.live_day.specs.Told.{refused_text, told_calls, told_event}
use Rattle.live_day.specs.Working.{LacksSaid, LacksStop}
use Rattle.live_day.specs.declared.live_floor.LiveFloor.{LiveFloor}

pub nothing_text : (day : Day) (k number : ℕ) (said : Outcome) → said ≡ outcomes.Nothing → [] ≡ told_calls day k (calls_said number said)
unfolding told_calls
nothing_text day k number said e = ap (λ (s : Outcome). told_calls day k (calls_said number s)) (sym e)

pub takes_text : (day : Day) (k number : ℕ) (said : Outcome) → said ≡ outcomes.Takes → told_event day k ++ [] ≡ told_calls day k (calls_said number said)
unfolding told_calls
takes_text day k number said e = ap (λ (s : Outcome). told_calls day k (calls_said number s)) (sym e)

pub stops_text : (day : Day) (k number : ℕ) (said : Outcome) → said ≡ outcomes.Stops → told_event day k ++ [] ≡ told_calls day k (calls_said number said)
unfolding told_calls
stops_text day k number said e = ap (λ (s : Outcome). told_calls day k (calls_said number s)) (sym e)

pub refuses_text : (day : Day) (k number : ℕ) (said : Outcome) (c : DayCode) → said ≡ outcomes.Refuses c → refused_text number c ++ [] ≡ told_calls day k (calls_said number said)
unfolding told_calls
refuses_text day k number said c e = ap (λ (s : Outcome). told_calls day k (calls_said number s)) (sym e)

pub breaks_text : (day : Day) (k number : ℕ) (said : Outcome) (c : DayCode) → said ≡ outcomes.Breaks c → refusal_text number c ++ [] ≡ told_calls day k (calls_said number said)
unfolding told_calls
breaks_text day k number said c e = ap (λ (s : Outcome). told_calls day k (calls_said number s)) (sym e)

-- it is the last event of the day
pub takes_count : (k number count : ℕ) (said : Outcome) → said ≡ outcomes.Takes → k + events_in (calls_said number said) ≡ count → suc k ≡ count
takes_count k number count said e all = let one : k + 1 ≡ count = ap (λ (s : Outcome). k + events_in (calls_said number s)) (sym e) ∙ all in omega (arith, one)

pub stops_count : (k number count : ℕ) (said : Outcome) → said ≡ outcomes.Stops → k + events_in (calls_said number said) ≡ count → suc k ≡ count
stops_count k number count said e all = let one : k + 1 ≡ count = ap (λ (s : Outcome). k + events_in (calls_said number s)) (sym e) ∙ all in omega (arith, one)

-- the stop that comes is the last of the day
last_is : (before : List ℕ) (t : ℕ) → last_stop (before ++ t ∷ []) ≡ t
last_is before t =
    let count : length (before ++ t ∷ []) - 1 ≡ length before = (let long = length-append before (t ∷ []) in omega (arith, long)) in
    ap (λ (n : ℕ). unwrap_or (slice_get (before ++ t ∷ []) n) 0) count ∙ ap (λ (o : Option ℕ). unwrap_or o 0) (there before)
  where
    there : (xs : List ℕ) → slice_get (xs ++ t ∷ []) (length xs) ≡ Some t
    there [] = refl
    there (x ∷ xs) = there xs

pub stop_now : (day : Day) (said : Outcome) (f : LiveFloor) (time : ℕ) → said ≡ outcomes.Stops → time ≡ last_stop day.stops → LacksSaid said day f → LacksStop day time f
stop_now day said f time e is lacks =
    let l = subst (λ (s : Outcome). LacksSaid s day f) e lacks in
    let same : l.0 ≡ time = sym (ap (λ (d : Day). last_stop d.stops) l.1.comes.longer ∙ last_is l.1.comes.before.stops l.0) ∙ sym is in
    subst (λ (t : ℕ). LacksStop day t f) same l.1
