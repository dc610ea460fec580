-- What the answer to some bytes says of them.
use Rattle.std.proofs.Common.{◌≡◌, ◌∙◌, ℕ, zero, suc, ◌+◌, ◌<◌, ◌≤◌, inl, inr, Bool, true, false, List, [], ◌∷◌, ◌++◌, length, drop, Option, Some, None, Result, Ok, Err, refl, sym, ap, subst, arith, length-drop, append_assoc}
use Rattle.std.specs.Prelude.{if◌then◌else◌, unwrap_or, option_map}
use Rattle.std.proofs.lemmas.Bool.{false≢true, le-ltb}
use Rattle.batch_records.specs.DayRecord.{Day}
use Rattle.batch_records.specs.declared.day.DayCode.{DayCode}
use Rattle.batch_records.specs.Days.{day_of_bytes, faults_of, unless_bad}
use Rattle.batch_records.specs.DayAnswers.{day_of}
use Rattle.batch_records.specs.DayPart.{day_len, end_line_len, is_line_ends, part_len, starts_line}
use Rattle.batch_records.specs.Made.{day_made}
use Rattle.batch_records.specs.Records.{day_records}
use Rattle.batch_records.specs.Sound.{is_sound}
use Rattle.batch_records.proofs.SoundMeets.{meets_sound, part_meets}
use Rattle.machine.specs.Orders.Order.{plain}
use Rattle.settlement_laws.proofs.EachLaw.AllLaws.{all_laws}
use Rattle.settlement_laws.proofs.DayEnd.PlainRuns.{plain_ends}
use Rattle.day_chain.specs.declared.joining.JoinFault.{JoinFault}
use Rattle.program_answers.specs.Answers.{Answer, too_long}
use Rattle.day_chain.specs.Answers.{answer_from, answer_of, apart, behind, fault_behind, if_joined, if_read, longest_input, next_day, refused, whole}
use Rattle.day_chain.specs.Chains.{AllJoin, AreDays, GoesOn, IsFront, IsSettled}
use Rattle.day_chain.specs.ChainTexts.{part_text, parts_text}
use Rattle.day_chain.specs.Promises.{IsAnswer}
use Rattle.day_chain.proofs.ChainLaws.{all_even, are_by_year, nothing_is_lost}
use Rattle.day_chain.proofs.ChainBounds.{all_within}
use Rattle.day_chain.proofs.JoinFacts.{differs_by, joins}

-- ---- a day that was read

ok_is : {A : Type 0} (fs : List (ℕ × DayCode)) (a b : A) → unless_bad fs a ≡ Ok b → (fs ≡ []) × (a ≡ b)
ok_is [] a b e = (refl, cc)
ok_is (f ∷ fs) a b e = absurd (cc)

len_is : (bytes : List ℕ) (day : Day) (n : ℕ) → day_of_bytes bytes ≡ Ok (day, n) → day_len bytes ≡ n
len_is bytes day n e = ap (λ (r : Day × ℕ). r.1) (ok_is (faults_of (day_records bytes)) (day_made (day_records bytes), day_len bytes) (day, n) e).1

part_is : (bytes : List ℕ) (day : Day) (n : ℕ) → day_of_bytes bytes ≡ Ok (day, n) → day_of (day_records bytes) ≡ Ok day
part_is bytes day n e =
    let o = ok_is (faults_of (day_records bytes)) (day_made (day_records bytes), day_len bytes) (day, n) e in
    ap (λ fs. unless_bad fs (day_made (day_records bytes))) o.0 ∙ ap Ok (ap (λ (r : Day × ℕ). r.0) o.1)

pub read_sound : (bytes : List ℕ) (day : Day) (n : ℕ) → day_of_bytes bytes ≡ Ok (day, n) → is_sound day ≡ true
read_sound bytes day n e = meets_sound day (part_meets (day_records bytes) day (part_is bytes day n e))

pub settled_day : (day : Day) → is_sound day ≡ true → IsSettled day
settled_day day good =
    let ends = plain_ends day good in
    record { sound = good; legal = ends.0; complete = ends.1; laws = all_laws day (plain day) good ends.0 }

-- ---- a day takes some bytes

at_least : (o : Option ℕ) (k : ℕ) → ((x : ℕ) → o ≡ Some x → 1 ≤ x) → 1 ≤ unwrap_or o (k + 1)
at_least None k h = omega arith
at_least (Some x) k h = h x refl

end_some : (b : Bool) (o : Option ℕ) (x : ℕ) → (if b then option_map (λ n. 3 + n) o else None) ≡ Some x → 1 ≤ x
end_some true None x e = absurd (cc)
end_some true (Some n) x e = let i : 3 + n ≡ x = cc in omega arith
end_some false o x e = absurd (cc)

some_bytes : (c : ℕ) (rest : List ℕ) → 1 ≤ day_len (c ∷ rest)
unfolding part_len end_line_len
some_bytes c rest = at_least (end_line_len (c ∷ rest)) (part_len (starts_line c rest) rest) (λ x e. end_some _ _ x e)

drop_none : (n : ℕ) → drop {A = ℕ} n [] ≡ []
drop_none zero = refl
drop_none (suc n) = refl

-- where more follows, less is left
pub shorter : (bytes : List ℕ) (day : Day) (n : ℕ) → day_of_bytes bytes ≡ Ok (day, n) → is_line_ends (drop n bytes) ≡ false → length (drop n bytes) < length bytes
shorter [] day n e more = absurd (false≢true (sym more ∙ ap is_line_ends (drop_none n)))
shorter (c ∷ rest) day n e more =
    let some = some_bytes c rest in
    let is = len_is (c ∷ rest) day n e in
    omega (arith, length-drop n (c ∷ rest), some, is)

-- ---- one day more

joined_more : (told : List Day) (day : Day) → AllJoin told → fault_behind told day ≡ None → AllJoin (day ∷ told)
joined_more [] day h e = tt
joined_more (last ∷ told) day h e = (joins last day e, h)

pub front_more : (bytes : List ℕ) (told : List Day) (rest : List ℕ) (day : Day) (n : ℕ) → IsFront bytes told rest → GoesOn told rest → day_of_bytes rest ≡ Ok (day, n) → fault_behind told day ≡ None → IsFront bytes (day ∷ told) (drop n rest)
front_more bytes told rest day n front on e fine = record {
  days = (rest, front.days, on, (n, e, refl));
  joined = joined_more told day front.joined fine;
  settled = (settled_day day (read_sound rest day n e), front.settled);
}

pub front_none : (bytes : List ℕ) → IsFront bytes [] bytes
front_none bytes = record { days = refl; joined = tt; settled = tt }

-- ---- the next day

pub next_ok : (told : List Day) (bytes : List ℕ) (read : Day × ℕ) → day_of_bytes bytes ≡ Ok read → fault_behind told read.0 ≡ None → next_day told bytes ≡ Ok read
unfolding next_day
next_ok told bytes read e fine = ap (if_read told) e ∙ ap (if_joined told read) fine

pub next_apart : (told : List Day) (bytes : List ℕ) (read : Day × ℕ) (fault : JoinFault) → day_of_bytes bytes ≡ Ok read → fault_behind told read.0 ≡ Some fault → next_day told bytes ≡ Err (apart told fault)
unfolding next_day
next_apart told bytes read fault e wrong = ap (if_read told) e ∙ ap (if_joined told read) wrong

pub next_refused : (told : List Day) (bytes : List ℕ) (fault : ℕ × DayCode) → day_of_bytes bytes ≡ Err fault → next_day told bytes ≡ Err (refused told fault)
unfolding next_day
next_refused told bytes fault e = ap (if_read told) e

-- where there is a next day, it was read and joins
pub next_is : (told : List Day) (bytes : List ℕ) (read : Day × ℕ) → next_day told bytes ≡ Ok read → (day_of_bytes bytes ≡ Ok read) × (fault_behind told read.0 ≡ None)
unfolding next_day
next_is told bytes read e = by_read (day_of_bytes bytes) e
  where
    by_joined : (r : Day × ℕ) (o : Option JoinFault) → fault_behind told r.0 ≡ o → if_joined told r o ≡ Ok read → (r ≡ read) × (fault_behind told r.0 ≡ None)
    by_joined r None f h = (cc, f)
    by_joined r (Some fault) f h = absurd (cc)

    by_read : (r : Result (Day × ℕ) (ℕ × DayCode)) → if_read told r ≡ Ok read → (r ≡ Ok read) × (fault_behind told read.0 ≡ None)
    by_read (Err fault) h = absurd (cc)
    by_read (Ok r) h =
        let j = by_joined r (fault_behind told r.0) refl h in
        (ap Ok j.0, subst (λ (x : Day × ℕ). fault_behind told x.0 ≡ None) j.0 j.1)

-- ---- the answer

-- what follows a day
abbrev pub then_from : ℕ → List Day → List ℕ → Answer
then_from steps told rest = if is_line_ends rest then whole told else answer_from steps told rest

pub from_err : (steps : ℕ) (told : List Day) (bytes : List ℕ) (answer : Answer) → next_day told bytes ≡ Err answer → answer_from (suc steps) told bytes ≡ answer
unfolding answer_from
from_err steps told bytes answer e =
    ap (λ r. elim r as (λ _. Answer) [ Err a ↦ a | Ok read ↦ behind (part_text read.0) (then_from steps (read.0 ∷ told) (drop read.1 bytes)) ]) e

pub from_ok : (steps : ℕ) (told : List Day) (bytes : List ℕ) (day : Day) (n : ℕ) → next_day told bytes ≡ Ok (day, n) → answer_from (suc steps) told bytes ≡ behind (part_text day) (then_from steps (day ∷ told) (drop n bytes))
unfolding answer_from
from_ok steps told bytes day n e =
    ap (λ r. elim r as (λ _. Answer) [ Err a ↦ a | Ok read ↦ behind (part_text read.0) (then_from steps (read.0 ∷ told) (drop read.1 bytes)) ]) e

pub behind_two : (a b : List ℕ) (answer : Answer) → behind a (behind b answer) ≡ behind (a ++ b) answer
behind_two a b answer = λ i. record { status = answer.status; text = sym (append_assoc a b answer.text) i }

pub behind_more : (told : List Day) (day : Day) (answer : Answer) → behind (parts_text told) (behind (part_text day) answer) ≡ behind (parts_text (day ∷ told)) answer
unfolding parts_text
behind_more told day answer = behind_two (parts_text told) (part_text day) answer

-- there are no more days than bytes, and one: each takes some, where more follows
days_before : (bytes : List ℕ) (told : List Day) (rest : List ℕ) → AreDays bytes told rest → GoesOn told rest → length told + length rest ≤ length bytes
days_before bytes [] rest days on = let e = ap length days in omega (arith, e)
days_before bytes (day ∷ told) rest days (inl none) = absurd (cc)
days_before bytes (day ∷ told) rest days (inr more) =
    let before = days.0 in
    let first = days.3 in
    let so_far = days_before bytes told before days.1 days.2 in
    let less = shorter before day first.0 first.1 (sym (ap is_line_ends first.2) ∙ more) in
    let same = ap length first.2 in
    omega (arith, so_far, less, same)

few_days : (bytes : List ℕ) (told : List Day) (rest : List ℕ) → AreDays bytes told rest → length told ≤ suc (length bytes)
few_days bytes [] rest days = omega arith
few_days bytes (day ∷ told) rest days = let before = days_before bytes told days.0 days.1 days.2 in omega (arith, before)

pub ends : (bytes : List ℕ) (told : List Day) (rest : List ℕ) → length bytes ≤ longest_input → IsFront bytes told rest → (told ≡ [] → ⊥) → is_line_ends rest ≡ true → IsAnswer bytes (behind (parts_text told) (whole told))
ends bytes told rest short front some over = inl (
  refl,
  record {
    told = told;
    rest = rest;
    front = front;
    some = some;
    over = over;
    years = are_by_year told front.joined;
    even = all_even told front.joined front.settled;
    within = all_within told front.settled (let few = few_days bytes told rest front.days in omega (arith, few, short));
    kept = nothing_is_lost told front.joined front.settled;
    is = refl;
  },
)

refuses : (bytes : List ℕ) (told : List Day) (rest : List ℕ) (number : ℕ) (code : DayCode) → IsFront bytes told rest → GoesOn told rest → day_of_bytes rest ≡ Err (number, code) → IsAnswer bytes (behind (parts_text told) (refused told (number, code)))
refuses bytes told rest number code front on e = inr (inl (refl, record { told = told; rest = rest; front = front; goes_on = on; number = number; code = code; refused = e; is = refl }))

parts : (bytes : List ℕ) (told : List Day) (rest : List ℕ) (day : Day) (n : ℕ) (fault : JoinFault) → IsFront bytes told rest → GoesOn told rest → day_of_bytes rest ≡ Ok (day, n) → fault_behind told day ≡ Some fault → IsAnswer bytes (behind (parts_text told) (apart told fault))
parts bytes [] rest day n fault front on e wrong = absurd (cc)
parts bytes (last ∷ told) rest day n fault front on e wrong = inr (inr (
  refl,
  record {
    last = last;
    told = told;
    rest = rest;
    front = front;
    goes_on = on;
    day = day;
    more = drop n rest;
    next = (n, e, refl);
    fault = fault;
    differs = differs_by last day fault wrong;
    is = refl;
  },
))

-- each answer says of the bytes what its status does
holds : (steps : ℕ) (bytes : List ℕ) (told : List Day) (rest : List ℕ) → length bytes ≤ longest_input → length rest < steps → IsFront bytes told rest → GoesOn told rest → IsAnswer bytes (behind (parts_text told) (answer_from steps told rest))
holds zero bytes told rest short less front on = absurd (omega arith)
holds (suc steps) bytes told rest short less front on = by_read (day_of_bytes rest) refl (λ day more l f o. holds steps bytes (day ∷ told) more short l f o)
  where
    Rest : Type 0
    Rest = (day : Day) (more : List ℕ) → length more < steps → IsFront bytes (day ∷ told) more → GoesOn (day ∷ told) more → IsAnswer bytes (behind (parts_text (day ∷ told)) (answer_from steps (day ∷ told) more))

    told_all : (day : Day) (n : ℕ) → day_of_bytes rest ≡ Ok (day, n) → IsFront bytes (day ∷ told) (drop n rest) → Rest → (b : Bool) → is_line_ends (drop n rest) ≡ b → IsAnswer bytes (behind (parts_text (day ∷ told)) (then_from steps (day ∷ told) (drop n rest)))
    told_all day n e f recurse true over = subst (λ b. IsAnswer bytes (behind (parts_text (day ∷ told)) (if b then whole (day ∷ told) else answer_from steps (day ∷ told) (drop n rest)))) (sym over) (ends bytes (day ∷ told) (drop n rest) short f (λ none. cc) over)
    told_all day n e f recurse false more =
        subst (λ b. IsAnswer bytes (behind (parts_text (day ∷ told)) (if b then whole (day ∷ told) else answer_from steps (day ∷ told) (drop n rest)))) (sym more)
        (recurse day (drop n rest) (omega (arith, less, shorter rest day n e more)) f (inr more))

    by_fault : (day : Day) (n : ℕ) → day_of_bytes rest ≡ Ok (day, n) → Rest → (o : Option JoinFault) → fault_behind told day ≡ o → IsAnswer bytes (behind (parts_text told) (answer_from (suc steps) told rest))
    by_fault day n e recurse None fine =
        subst (λ (a : Answer). IsAnswer bytes a) (sym (ap (behind (parts_text told)) (from_ok steps told rest day n (next_ok told rest (day, n) e fine)) ∙ behind_more told day (then_from steps (day ∷ told) (drop n rest))))
        (told_all day n e (front_more bytes told rest day n front on e fine) recurse (is_line_ends (drop n rest)) refl)
    by_fault day n e recurse (Some fault) wrong =
        subst (λ (a : Answer). IsAnswer bytes a) (sym (ap (behind (parts_text told)) (from_err steps told rest (apart told fault) (next_apart told rest (day, n) fault e wrong))))
        (parts bytes told rest day n fault front on e wrong)

    by_read : (r : Result (Day × ℕ) (ℕ × DayCode)) → day_of_bytes rest ≡ r → Rest → IsAnswer bytes (behind (parts_text told) (answer_from (suc steps) told rest))
    by_read (Err (number, code)) e recurse =
        subst (λ (a : Answer). IsAnswer bytes a) (sym (ap (behind (parts_text told)) (from_err steps told rest (refused told (number, code)) (next_refused told rest (number, code) e))))
        (refuses bytes told rest number code front on e)
    by_read (Ok (day, n)) e recurse = by_fault day n e recurse (fault_behind told day) refl

pub short_answer : (bytes : List ℕ) → length bytes ≤ longest_input → answer_of bytes ≡ answer_from (suc (length bytes)) [] bytes
unfolding answer_of
short_answer bytes short = ap (λ b. if b then too_long else answer_from (suc (length bytes)) [] bytes) (le-ltb longest_input (length bytes) short)

pub all_answers : (bytes : List ℕ) → length bytes ≤ longest_input → IsAnswer bytes (answer_of bytes)
unfolding parts_text
all_answers bytes short = subst (λ (a : Answer). IsAnswer bytes a) (sym (short_answer bytes short)) (holds (suc (length bytes)) bytes [] bytes short (omega arith) (front_none bytes) (inl refl))
